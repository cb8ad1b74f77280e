-- Long bodies, looked for record by record. Assumes nothing.
use Rattle.std.specs.Prelude.{◌≡◌, refl, Bool, true, false, ◌&&◌, List, ℕ, ◌+◌, ◌*◌, ◌/◌, ◌≤◌, ◌<◌, eqb, ltb, length, drop, get_or}
use Rattle.spec_basics.specs.Elements.{any}
use Rattle.spec_file.specs.Records.{rule_kind}
use Rattle.spec_records.specs.Blocks.{records_of}
use Rattle.spec_unfold.specs.Moving.{is_long, has_long}
use Rattle.file_wide.specs.RecordLaws.{records-next, records-end}

-- the test of record i
abbrev pub long_at : List ℕ → ℕ → Bool
long_at bs i = eqb (get_or bs (i * 16) 0) rule_kind && ltb 2 (get_or bs (i * 16 + 2) 0)

pub long-start : (bs : List ℕ) → any is_long (drop 0 (records_of 16 bs)) ≡ has_long bs
unfolding has_long
long-start bs = refl

pub long-here : (bs : List ℕ) (i : ℕ) → i < length bs / 16 → long_at bs i ≡ true → any is_long (drop i (records_of 16 bs)) ≡ true
long-here bs i h t = rw (records-next bs i h, t)

pub long-next : (bs : List ℕ) (i : ℕ) → i < length bs / 16 → long_at bs i ≡ false → any is_long (drop i (records_of 16 bs)) ≡ any is_long (drop (i + 1) (records_of 16 bs))
long-next bs i h t = rw (records-next bs i h, t)

pub long-end : (bs : List ℕ) (i : ℕ) → length bs / 16 ≤ i → any is_long (drop i (records_of 16 bs)) ≡ false
long-end bs i h = rw (records-end bs i h)

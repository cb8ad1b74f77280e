-- The counts are those of the file's rules. Assumes nothing.
use Rattle.std.specs.Prelude.{◌≡◌, Bool, true, false, cond, List, [], ◌∷◌, map, ℕ, suc, ◌+◌, ◌-◌, ◌/◌, ◌≤◌, ◌<◌, max, length, drop, get_or, fold, refl}
use Rattle.std.proofs.Common.{◌∙◌, add-one, arith, length-take, length-drop, lt-ltb, le-ltb}
use Rattle.spec_file.specs.Forms.{sixteen}
use Rattle.spec_file.specs.Records.{record_in, rule_kind}
use Rattle.spec_file.specs.Views.{cons_if}
use Rattle.spec_records.specs.Blocks.{records_of}
use Rattle.spec_records.specs.OnRecords.{body_in}
use Rattle.spec_unfold.specs.Chains.{RuleOver, chains_for, chains_in, above_body, first_free}
use Rattle.spec_unfold.specs.Unfolding.{keep, has_kind, byte_rule, byte_rules, above_byte}
use Rattle.file_wide.specs.RecordLaws.{records-next, records-end}
use Rattle.unfold_count.specs.declared.Needed.{Needed}
use Rattle.unfold_count.specs.Counting.{with_rule, with_record, with_records}
use Rattle.unfold_count.specs.Parts.{part}
use Rattle.unfold_count.specs.PartLaws.{part-next, part_end}

-- ---- a body, from the left

module _ (r : List ℕ) (m j end : ℕ) where
  pub body-next : j < end → end ≤ length r → above_body above_byte m (part j end r) ≡ above_body above_byte (max m (above_byte (get_or r j 0))) (part (j + 1) end r)
  unfolding above_body
  body-next h k = rw (part-next r j end h k)

  pub body_ended : end ≤ j → above_body above_byte m (part j end r) ≡ m
  unfolding above_body
  body_ended h = rw (part_end r j end h)

-- the greatest, as the fold that goes through the body
pub above-fold : (m : ℕ) (ss : List ℕ) → fold (λ top s. max top (above_byte s)) m ss ≡ above_body above_byte m ss
unfolding above_body
above-fold m [] = refl
above-fold m (s ∷ ss) = above-fold (max m (above_byte s)) ss

pub above_low : (b : ℕ) → b < 128 → 0 ≡ above_byte b
above_low b h = rw (lt-ltb b 128 h)

pub above-high : (b : ℕ) → 128 ≤ b → b - 128 + 1 ≡ above_byte b
above-high b h = rw (le-ltb b 128 h) (add-one (b - 128))

-- ---- the counts stay small

body-few : (r : List ℕ) → length r ≡ 16 → length (body_in r) ≤ 13
body-few r h = simp (length-take, length-drop) (omega arith)

pub few-chains : (t : Needed) (r : List ℕ) → length r ≡ 16 → (with_record t r).chains ≤ t.chains + 11
unfolding with_record
few-chains t r h = by (has_kind rule_kind r)
  where
    by : (b : Bool) → (cond b (with_rule t r) t).chains ≤ t.chains + 11
    by true = let e = body-few r h in omega arith
    by false = omega arith

pub few-rules : (t : Needed) (r : List ℕ) → (with_record t r).rules ≤ t.rules + 1
unfolding with_record
few-rules t r = by (has_kind rule_kind r)
  where
    by : (b : Bool) → (cond b (with_rule t r) t).rules ≤ t.rules + 1
    by true = omega arith
    by false = omega arith

-- ---- the records of a file

module _ (bs : List ℕ) (i : ℕ) where
  pub count_turn : (t : Needed) → i < length bs / 16 → with_records (with_record t (record_in sixteen bs i)) (drop (i + 1) (records_of 16 bs)) ≡ with_records t (drop i (records_of 16 bs))
  unfolding with_records
  count_turn t h = rw (records-next bs i h)

  pub count-end : (t : Needed) → length bs / 16 ≤ i → with_records t (drop i (records_of 16 bs)) ≡ t
  unfolding with_records
  count-end t h = rw (records-end bs i h)

-- what all records give
pub records-counted : (t : Needed) (rs : List (List ℕ))
    → with_records t rs ≡ record { first = first_free above_byte t.first (byte_rules rs); chains = t.chains + chains_in (byte_rules rs); rules = t.rules + length (byte_rules rs) }
unfolding with_records with_record first_free chains_in
records-counted t [] = let a : t.chains ≡ t.chains + 0 = omega arith in let b : t.rules ≡ t.rules + 0 = omega arith in λ i. record { first = t.first; chains = a i; rules = b i }
records-counted t (r ∷ rs) = by (has_kind rule_kind r) (records-counted t rs) (records-counted (with_rule t r) rs)
  where
    total : Needed → List (RuleOver ℕ) → Needed
    total s ps = record { first = first_free above_byte s.first ps; chains = s.chains + chains_in ps; rules = s.rules + length ps }

    by : (b : Bool) → with_records t rs ≡ total t (byte_rules rs) → with_records (with_rule t r) rs ≡ total (with_rule t r) (byte_rules rs)
        → with_records (cond b (with_rule t r) t) rs ≡ total t (map byte_rule (cons_if b r (keep (has_kind rule_kind) rs)))
    by true p q =
        let ps = byte_rules rs in
        let a : t.chains + chains_for (byte_rule r) + chains_in ps ≡ t.chains + (chains_for (byte_rule r) + chains_in ps) = omega arith in
        let b : t.rules + 1 + length ps ≡ t.rules + suc (length ps) = omega arith in
        q ∙ (λ i. record { first = first_free above_byte (with_rule t r).first ps; chains = a i; rules = b i })
    by false p q = p

-- The stretch of a file is the bytes of its transition records, one after the other; and the transitions can be read off it. Theorems for the
-- reader: they say what `stretch` is good for, and nothing cites them. Assumes nothing.
use Rattle.std.specs.Prelude.{◌≡◌, length, get_or, take, drop}
use Rattle.std.proofs.Math.Path.{refl, ap, ap₂}
use Rattle.std.proofs.Common.{sym, ◌∙◌, length-take, length-drop, drop-cons, get_or-take, get_or-drop, eq-eqb, ne_eqb}
use mathlib.Core.List.{List, [], ◌∷◌, ◌++◌}
use Prim.Native.Nat.{ℕ, zero, suc, ◌+◌, ◌*◌, ◌≤◌, ◌<◌}
use native.Mathlib.Omega.{arith}
use Rattle.spec_basics.specs.Elements.{concat_map, every}
use Rattle.spec_basics.specs.Lists.{every_append, every-same}
use Rattle.spec_file.specs.Records.{record_count, record_at, transition_kind}
use Rattle.spec_file.specs.Refusals.{fault}
use Rattle.spec_file.specs.Reading.{stretch}
use Rattle.spec_file.specs.Views.{transitions_of, collect}
use Rattle.spec_file.specs.Entries.{rule_count, transition_count, transition_in, whole_record, transition_at, automaton_transition}
use Rattle.spec_file.proofs.Sorted.{counts-le, transitions-next}
use Rattle.spec_file.proofs.EntryLaws.{whole, transitions-read}

module _ (bs : List ℕ) where
  abbrev at : ℕ → ℕ
  at j = get_or bs j 0

  -- a part, byte by byte
  part : (n i : ℕ) → i + n ≤ length bs → take n (drop i bs) ≡ every at n i
  unfolding every
  part zero i h = refl
  part (suc n) i h = rw (drop-cons bs i 0 (omega arith)) (ap (λ (l : List ℕ). at i ∷ l) (part n (suc i) (omega arith)))

  record-bytes : (i : ℕ) → every at 8 (i * 8) ≡ record_at bs i
  unfolding every
  record-bytes i =
      let n = i * 8 in
      let e1 : suc n ≡ n + 1 = omega arith in
      let e2 : suc (suc n) ≡ n + 2 = omega arith in
      let e3 : suc (suc (suc n)) ≡ n + 3 = omega arith in
      let e4 : suc (suc (suc (suc n))) ≡ n + 4 = omega arith in
      let e5 : suc (suc (suc (suc (suc n)))) ≡ n + 5 = omega arith in
      let e6 : suc (suc (suc (suc (suc (suc n))))) ≡ n + 6 = omega arith in
      let e7 : suc (suc (suc (suc (suc (suc (suc n)))))) ≡ n + 7 = omega arith in cc

  record-parts : (c a : ℕ) → every at (c * 8) (a * 8) ≡ concat_map (λ r. r) (every (record_at bs) c a)
  unfolding every
  record-parts zero a = refl
  record-parts (suc c) a =
      let z : suc c * 8 ≡ 8 + c * 8 = omega arith in
      let y : a * 8 + 8 ≡ suc a * 8 = omega arith in
      ap (λ (n : ℕ). every at n (a * 8)) z
      ∙ every_append at 8 (c * 8) (a * 8)
      ∙ ap₂ (λ (xs ys : List ℕ). xs ++ ys) (record-bytes a) (ap (every at (c * 8)) y ∙ record-parts c (suc a))

-- a refused file has none
pub stretch-refused : (bs : List ℕ) → ((fault bs).number ≡ 0 → ⊥) → stretch bs ≡ []
unfolding stretch
stretch-refused bs h = rw (ne_eqb (fault bs).number 0 h)

module _ (bs : List ℕ) (v : (fault bs).number ≡ 0) where
  fits : (rule_count bs + transition_count bs) * 8 ≤ length bs
  fits = omega (arith, counts-le bs (record_count bs))

  stretch-is : stretch bs ≡ take (transition_count bs * 8) (drop (rule_count bs * 8) bs)
  unfolding stretch
  stretch-is = rw (eq-eqb (fault bs).number 0 v)

  pub stretch-records : stretch bs ≡ concat_map (λ r. r) (collect transition_kind (λ r. r) bs (record_count bs) 0)
  stretch-records =
      stretch-is ∙ part bs (transition_count bs * 8) (rule_count bs * 8) (omega (arith, fits)) ∙ record-parts bs (transition_count bs) (rule_count bs) ∙ ap (concat_map (λ r. r)) (sym (transitions-next bs v (λ r. r)))

  pub stretch-count : record_count (stretch bs) ≡ transition_count bs
  stretch-count = ap record_count stretch-is ∙ simp (length-take, length-drop) (omega (arith, fits))

  -- record i of the stretch is that after the rules and i transitions
  pub stretch-at : (i : ℕ) → i < transition_count bs → record_at (stretch bs) i ≡ record_at bs (rule_count bs + i)
  stretch-at i h =
      sym (record-bytes (stretch bs) i) ∙ every-same (at (stretch bs)) (at bs) 8 (i * 8) ((rule_count bs + i) * 8) same ∙ record-bytes bs (rule_count bs + i)
    where
      same : (j : ℕ) → j < 8 → at (stretch bs) (i * 8 + j) ≡ at bs ((rule_count bs + i) * 8 + j)
      same j l =
          let z : rule_count bs * 8 + (i * 8 + j) ≡ (rule_count bs + i) * 8 + j = omega arith in
          ap (λ (s : List ℕ). at s (i * 8 + j)) stretch-is
          ∙ get_or-take (transition_count bs * 8) (drop (rule_count bs * 8) bs) (i * 8 + j) 0 (omega arith)
          ∙ get_or-drop (rule_count bs * 8) bs (i * 8 + j) 0
          ∙ ap (at bs) z

  pub stretch-whole : (i : ℕ) → i < transition_count bs → whole_record (stretch bs) i ≡ whole_record bs (rule_count bs + i)
  stretch-whole i h = sym (whole (stretch bs) i (omega (arith, stretch-count))) ∙ stretch-at i h ∙ whole bs (rule_count bs + i) (omega (arith, counts-le bs (record_count bs)))

  -- the transitions, read off the stretch
  pub transitions-of-stretch : transitions_of bs ≡ every (λ i. automaton_transition (transition_at (stretch bs) i)) (record_count (stretch bs)) 0
  transitions-of-stretch =
      transitions-read bs v
      ∙ every-same (λ i. automaton_transition (transition_at bs i)) (λ i. automaton_transition (transition_at (stretch bs) i)) (transition_count bs) (rule_count bs) 0 same
      ∙ ap (λ (m : ℕ). every (λ i. automaton_transition (transition_at (stretch bs) i)) m 0) (sym stretch-count)
    where
      same : (j : ℕ) → j < transition_count bs → automaton_transition (transition_at bs (rule_count bs + j)) ≡ automaton_transition (transition_at (stretch bs) (0 + j))
      same j l = let z : j ≡ 0 + j = omega arith in ap (λ (r : List ℕ). automaton_transition (transition_in r)) (sym (stretch-whole j l) ∙ ap (whole_record (stretch bs)) z)

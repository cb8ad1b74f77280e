-- The records of a file that are no rules: they come behind its rules. Assumes nothing.
use Rattle.std.specs.Prelude.{◌≡◌, refl, Bool, true, false, not, ◌&&◌, ◌||◌, List, [], ◌∷◌, map, ℕ, zero, suc, ◌+◌, ◌-◌, ◌*◌, ◌/◌, ◌≤◌, ◌<◌, eqb, ltb, length, drop}
use Rattle.std.proofs.Common.{sym, ap, ◌∙◌, inl, inr, suc-mul, zero-mul, arith, length-drop, drop-drop, eqb-true, ne_eqb, ltb-true}
use Rattle.std.proofs.lemmas.Bool.{false≢true, eqb-false}
use Rattle.spec_basics.specs.Elements.{In}
use Rattle.spec_file.specs.Records.{byte, rule_kind}
use Rattle.spec_file.specs.Views.{cons_if}
use Rattle.spec_records.specs.Blocks.{blocks, records_of}
use Rattle.spec_records.specs.OnRecords.{precedes}
use Rattle.spec_unfold.specs.Chains.{RuleOver}
use Rattle.spec_unfold.proofs.SortingLaws.{Ordered}
use Rattle.spec_unfold.specs.Unfolding.{keep, has_kind, byte_rule, byte_rules}

-- the records that are no rules
abbrev pub others : List (List ℕ) → List (List ℕ)
others rs = keep (λ r. not (has_kind rule_kind r)) rs

-- with the rules they are all
pub both-kinds : (rs : List (List ℕ)) → length (others rs) + length (byte_rules rs) ≡ length rs
both-kinds [] = refl
both-kinds (r ∷ rs) = by (has_kind rule_kind r) (both-kinds rs)
  where
    by : (b : Bool) → length (others rs) + length (byte_rules rs) ≡ length rs
        → length (cons_if (not b) r (others rs)) + length (map byte_rule (cons_if b r (keep (has_kind rule_kind) rs))) ≡ suc (length rs)
    by true e = omega arith
    by false e = omega arith

first-le : (x y : List ℕ) → precedes x y ≡ true → byte x 0 ≤ byte y 0
first-le [] y h = absurd (false≢true h)
first-le (a ∷ x) [] h = absurd (false≢true h)
first-le (a ∷ x) (b ∷ y) h = by (ltb a b) (ltb-true a b) (eqb a b) (eqb-true a b) h
  where
    by : (l : Bool) → (l ≡ true → a < b) → (e : Bool) → (e ≡ true → a ≡ b) → (l || (e && precedes x y)) ≡ true → a ≤ b
    by true p e q h = let z = p refl in omega arith
    by false p true q h = let z = q refl in omega arith
    by false p false q h = absurd (false≢true h)

no-rules : (rs : List (List ℕ)) → ((r : List ℕ) → In r rs → byte r 0 ≡ rule_kind → ⊥) → (others rs ≡ rs) × (byte_rules rs ≡ [])
no-rules [] h = (refl, refl)
no-rules (r ∷ rs) h =
    let later = no-rules rs (λ s m. h s (inr m)) in
    let n = ne_eqb (byte r 0) rule_kind (h r (inl refl)) in
    (rw n (ap (λ (l : List (List ℕ)). r ∷ l) later.0), rw n later.1)

pub others-last : (rs : List (List ℕ)) → ((r : List ℕ) → In r rs → 0 < byte r 0) → Ordered precedes rs → others rs ≡ drop (length (byte_rules rs)) rs
others-last [] k o = refl
others-last (r ∷ rs) k o = by (has_kind rule_kind r) refl (others-last rs (λ s m. k s (inr m)) o.1)
  where
    by : (b : Bool) → has_kind rule_kind r ≡ b → others rs ≡ drop (length (byte_rules rs)) rs
        → cons_if (not b) r (others rs) ≡ drop (length (map byte_rule (cons_if b r (keep (has_kind rule_kind) rs)))) (r ∷ rs)
    by true e ih = ih
    by false e ih =
        let n = eqb-false (byte r 0) rule_kind e in
        let none = no-rules rs (λ s m v. let z = first-le r s (o.0 s m) in let w = k r (inl refl) in n (let u : byte r 0 ≡ 1 = omega arith in u)) in
        ap (λ (l : List (List ℕ)). r ∷ l) none.0 ∙ sym (ap (λ (p : List (RuleOver ℕ)). drop (length p) (r ∷ rs)) none.1)

-- the records of the rest of a file
blocks-drop : (w n m : ℕ) (bs : List ℕ) → blocks w n (drop (m * w) bs) ≡ drop m (blocks w (m + n) bs)
blocks-drop w n zero bs = let z : 0 + n ≡ n = omega arith in rw (zero-mul w, z)
blocks-drop w n (suc m) bs =
    let z : suc m + n ≡ suc (m + n) = omega arith in
    let y : suc m * w ≡ w + m * w = suc-mul m w ∙ (let x : m * w + w ≡ w + m * w = omega arith in x) in
    rw (z, y) (ap (blocks w n) (sym (drop-drop (m * w) w bs)) ∙ blocks-drop w n m (drop w bs))

pub records-drop : (m : ℕ) (bs : List ℕ) → m ≤ length bs / 16 → records_of 16 (drop (m * 16) bs) ≡ drop m (records_of 16 bs)
records-drop m bs h =
    let z : length (drop (m * 16) bs) / 16 ≡ length bs / 16 - m = simp length-drop (omega arith) in
    let y : m + (length bs / 16 - m) ≡ length bs / 16 = omega arith in
    ap (λ (n : ℕ). blocks 16 n (drop (m * 16) bs)) z ∙ blocks-drop 16 (length bs / 16 - m) m bs ∙ ap (λ (n : ℕ). drop m (blocks 16 n bs)) y

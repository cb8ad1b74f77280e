-- A round goes rule by rule: what each row of the table of rules adds to a set; a round that adds nothing shows that the set is closed.
-- Assumes nothing.
use Rattle.std.specs.Prelude.{◌≡◌, refl, ◌⊎◌, Bool, true, false, ◌||◌, List, [], map, ℕ, ◌+◌, ◌^◌, ◌≤◌, ◌<◌, eqb, length, get_or}
use Rattle.std.proofs.Common.{sym, ap, ◌∙◌, subst, inl, inr, le_refl, le_trans, eq-or-lt_of_le, arith, eqb-true, eq-eqb}
use Rattle.std.proofs.lemmas.Bool.{false≢true}
use Rattle.std.specs.Int.Bits.{or_add_and}
use Rattle.std.proofs.lemmas.Nat.{and_le_r}
use Rattle.std.proofs.lemmas.List.{length-map}
use Rattle.spec_basics.specs.Tests.{or_left, or_right}
use Rattle.spec_basics.specs.Elements.{In}
use Rattle.spec_basics.specs.Lists.{getD-in, in-getD, get_d_map}
use Rattle.relation.specs.Digits.{bit}
use Rattle.relation.specs.DigitLaws.{bit-or, bit-power, bit-zero}
use Rattle.spec_language.specs.Grammar.{Symbol, Rule, no_rule}
use Rattle.spec_file.specs.Entries.{entry_of}
use Rattle.member_laws.specs.Sets.{with, all_in, is_unit, DerivesBy, AllDerive, Nullable, Carries, UnitHeads}
use Rattle.member_laws.specs.SetLaws.{null-rule, unit-rule}
use Rattle.member_laws.specs.Rounds.{Upto, NullRound}

-- ---- one nonterminal more

pub with-larger : (set p : ℕ) → set ≤ with set p
with-larger set p = omega (arith, or_add_and set (2 ^ p), and_le_r set (2 ^ p))

bit-with : (set p k : ℕ) → bit (with set p) k ≡ (bit set k || eqb k p)
bit-with set p k = bit-or set (2 ^ p) k ∙ ap (λ (t : Bool). bit set k || t) (bit-power p k)

pub with-kept : (set p k : ℕ) → bit set k ≡ true → bit (with set p) k ≡ true
with-kept set p k e = bit-with set p k ∙ or_left (bit set k) (eqb k p) e

pub with-own : (set p : ℕ) → bit (with set p) p ≡ true
with-own set p = bit-with set p p ∙ or_right (bit set p) (eqb p p) (eq-eqb p p refl)

pub with-only : (set p k : ℕ) → bit (with set p) k ≡ true → (bit set k ≡ true) ⊎ (k ≡ p)
with-only set p k e = by (bit set k) refl
  where
    by : (t : Bool) → bit set k ≡ t → (bit set k ≡ true) ⊎ (k ≡ p)
    by true h = inl h
    by false h = inr (eqb-true k p (sym (ap (λ (t : Bool). t || eqb k p) h) ∙ sym (bit-with set p k) ∙ e))

-- ---- the rules of a table

pub row_in : (rows : List (List ℕ)) (k : ℕ) → k < length rows → In (entry_of (get_or rows k [])) (map entry_of rows)
row_in rows k h =
    subst (λ (x : Rule). In x (map entry_of rows)) (get_d_map entry_of [] no_rule rows k h)
    (getD-in no_rule (map entry_of rows) k (subst (λ (m : ℕ). k < m) (sym (length-map rows entry_of)) h))

pub in_row : (rows : List (List ℕ)) (x : Rule) → In x (map entry_of rows) → (k : ℕ) × (k < length rows) × (entry_of (get_or rows k []) ≡ x)
in_row rows x h =
    let r = in-getD x no_rule (map entry_of rows) h in
    let l : r.0 < length rows = subst (λ (m : ℕ). r.0 < m) (length-map rows entry_of) r.1 in
    (r.0, l, sym (get_d_map entry_of [] no_rule rows r.0 l) ∙ r.2)

-- ---- a round

module _ (rows : List (List ℕ)) (test : List ℕ → Bool) (Good : ℕ → Type 0) (set : ℕ)
    (ok : ((p : ℕ) → bit set p ≡ true → Good p) → (k : ℕ) → k < length rows → test (get_or rows k []) ≡ true → Good (entry_of (get_or rows k [])).head) where
  pub upto-none : Upto rows test Good set 0 set
  upto-none = record { larger = le_refl set; kept = λ p e. e; sound = λ a. a; each = λ k h. absurd (let z : ⊥ = omega arith in z) }

  module _ (i r : ℕ) (h : i < length rows) (u : Upto rows test Good set i r) where
    pub upto-miss : test (get_or rows i []) ≡ false → Upto rows test Good set (i + 1) r
    upto-miss e = record { larger = u.larger; kept = u.kept; sound = u.sound; each = λ k l t. by k t (eq-or-lt_of_le (let z : k ≤ i = omega arith in z)) }
      where
        by : (k : ℕ) → test (get_or rows k []) ≡ true → (k ≡ i) ⊎ (k < i) → bit r (entry_of (get_or rows k [])).head ≡ true
        by k t (inl p) = absurd (false≢true (sym e ∙ ap (λ (m : ℕ). test (get_or rows m [])) (sym p) ∙ t))
        by k t (inr l) = u.each k l t

    pub upto-hit : test (get_or rows i []) ≡ true → Upto rows test Good set (i + 1) (with r (entry_of (get_or rows i [])).head)
    upto-hit e = record {
      larger = le_trans u.larger (with-larger r head);
      kept = λ p m. with-kept r head p (u.kept p m);
      sound = λ a p m. good a p (with-only r head p m);
      each = λ k l t. by k t (eq-or-lt_of_le (let z : k ≤ i = omega arith in z));
    }
      where
        head : ℕ
        head = (entry_of (get_or rows i [])).head

        good : ((p : ℕ) → bit set p ≡ true → Good p) → (p : ℕ) → (bit r p ≡ true) ⊎ (p ≡ head) → Good p
        good a p (inl m) = u.sound a p m
        good a p (inr m) = subst Good (sym m) (ok a i h e)

        by : (k : ℕ) → test (get_or rows k []) ≡ true → (k ≡ i) ⊎ (k < i) → bit (with r head) (entry_of (get_or rows k [])).head ≡ true
        by k t (inl p) = subst (λ (m : ℕ). bit (with r head) (entry_of (get_or rows m [])).head ≡ true) (sym p) (with-own r head)
        by k t (inr l) = with-kept r head (entry_of (get_or rows k [])).head (u.each k l t)

-- after all rows each rule is done, where the test is one of the rule
each-rule : (rows : List (List ℕ)) (test : Rule → Bool) (Good : ℕ → Type 0) (set i r : ℕ) → length rows ≤ i → Upto rows (λ x. test (entry_of x)) Good set i r
    → (x : Rule) → In x (map entry_of rows) → test x ≡ true → bit r x.head ≡ true
each-rule rows test Good set i r h u x m t =
    let k = in_row rows x m in
    subst (λ (y : Rule). bit r y.head ≡ true) k.2 (u.each k.0 (omega (arith, k.1)) (subst (λ (y : Rule). test y ≡ true) (sym k.2) t))

-- the empty set has none that could be bad
pub none-bad : (Good : ℕ → Type 0) (p : ℕ) → bit 0 p ≡ true → Good p
none-bad Good p e = absurd (false≢true (sym (bit-zero p) ∙ e))

-- ---- what derives the empty word

module _ (rows : List (List ℕ)) (set : ℕ) where
  abbrev NullGood : ℕ → Type 0
  NullGood p = DerivesBy (map entry_of rows) p []

  abbrev null_test : List ℕ → Bool
  null_test x = all_in set (entry_of x).body

  -- after i rows
  abbrev pub NullUpto : ℕ → ℕ → Type 0
  NullUpto i r = Upto rows (λ x. all_in set (entry_of x).body) (λ p. DerivesBy (map entry_of rows) p []) set i r

  null_ok : ((p : ℕ) → bit set p ≡ true → DerivesBy (map entry_of rows) p []) → (k : ℕ) → k < length rows
      → all_in set (entry_of (get_or rows k [])).body ≡ true → DerivesBy (map entry_of rows) (entry_of (get_or rows k [])).head []
  null_ok a k h e = null-rule (map entry_of rows) set a (entry_of (get_or rows k [])) (row_in rows k h) e

  pub null-none : NullUpto 0 set
  null-none = upto-none rows null_test NullGood set null_ok

  module _ (i r : ℕ) (h : i < length rows) (u : NullUpto i r) where
    pub null-miss : all_in set (entry_of (get_or rows i [])).body ≡ false → NullUpto (i + 1) r
    null-miss e = upto-miss rows null_test NullGood set null_ok i r h u e

    pub null-hit : all_in set (entry_of (get_or rows i [])).body ≡ true → NullUpto (i + 1) (with r (entry_of (get_or rows i [])).head)
    null-hit e = upto-hit rows null_test NullGood set null_ok i r h u e

  pub null-all : (i r : ℕ) → length rows ≤ i → NullUpto i r → NullRound (map entry_of rows) set r
  null-all i r h u = record { larger = u.larger; sound = u.sound; each = each-rule rows (λ x. all_in set x.body) NullGood set i r h u }

-- a round that adds nothing
pub null-done : (rules : List Rule) (set : ℕ) → AllDerive rules set [] → NullRound rules set set → Nullable rules set
null-done rules set a r = record { sound = a; closed = r.each }

-- ---- the heads of the units of a symbol

-- after i rows
abbrev pub UnitUpto : List (List ℕ) → ℕ → Symbol → ℕ → ℕ → Type 0
UnitUpto rows n s i r = Upto rows (λ x. is_unit n s (entry_of x).body) (Carries (map entry_of rows) s) 0 i r

module _ (rows : List (List ℕ)) (n : ℕ) (N : Nullable (map entry_of rows) n) (s : Symbol) where
  abbrev unit_test : List ℕ → Bool
  unit_test x = is_unit n s (entry_of x).body

  unit_ok : ((p : ℕ) → bit 0 p ≡ true → Carries (map entry_of rows) s p) → (k : ℕ) → k < length rows
      → is_unit n s (entry_of (get_or rows k [])).body ≡ true → Carries (map entry_of rows) s (entry_of (get_or rows k [])).head
  unit_ok a k h e = unit-rule (map entry_of rows) n N.sound s (entry_of (get_or rows k [])) (row_in rows k h) e

  pub unit-none : UnitUpto rows n s 0 0
  unit-none = upto-none rows unit_test (Carries (map entry_of rows) s) 0 unit_ok

  module _ (i r : ℕ) (h : i < length rows) (u : UnitUpto rows n s i r) where
    pub unit-miss : is_unit n s (entry_of (get_or rows i [])).body ≡ false → UnitUpto rows n s (i + 1) r
    unit-miss e = upto-miss rows unit_test (Carries (map entry_of rows) s) 0 unit_ok i r h u e

    pub unit-hit : is_unit n s (entry_of (get_or rows i [])).body ≡ true → UnitUpto rows n s (i + 1) (with r (entry_of (get_or rows i [])).head)
    unit-hit e = upto-hit rows unit_test (Carries (map entry_of rows) s) 0 unit_ok i r h u e

  pub unit-all : (i r : ℕ) → length rows ≤ i → UnitUpto rows n s i r → UnitHeads (map entry_of rows) n s r
  unit-all i r h u = record {
    sound = u.sound (none-bad (Carries (map entry_of rows) s));
    each = each-rule rows (λ x. is_unit n s x.body) (Carries (map entry_of rows) s) 0 i r h u;
  }

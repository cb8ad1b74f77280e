-- The nonterminals of a set: those whose bit is set. Assumes nothing.
use Rattle.std.specs.Prelude.{◌≡◌, refl, ◌⊎◌, Bool, true, ◌&&◌, eqb, ltb}
use Rattle.std.proofs.Math.Path.{sym, ap}
use Rattle.std.proofs.Common.{◌∙◌, subst, inl, inr, add-zero, add-suc, eq-or-lt_of_le, le_of_suc-le-suc, not-suc-le-zero, eqb-true, eq-eqb, ltb-true, lt-ltb, le-ltb}
use Rattle.std.proofs.Math.Bool.{false}
use Rattle.std.proofs.lemmas.Bool.{false≢true}
use mathlib.Core.List.{List, [], ◌∷◌, ◌++◌, append-nil}
use Prim.Native.Nat.{ℕ, zero, suc, ◌+◌, ◌-◌, ◌/◌, ◌^◌, ◌≤◌, ◌<◌}
use native.Mathlib.Omega.{arith}
use Rattle.std.specs.Int.Bits.{bit_and}
use Rattle.spec_basics.specs.Elements.{In}
use Rattle.spec_basics.specs.Lists.{any_of, any_at, in_left, in_right, in-cases, in_one}
use Rattle.spec_basics.specs.Tests.{and_intro, and-fst, and-snd, iff-equal}
use Rattle.relation.specs.Digits.{bit}
use Rattle.relation.specs.DigitLaws.{digit-of, bit-shr, bit-zero}
use Rattle.spec_file.specs.Limits.{nonterminals}
use Rattle.spec_file.specs.Views.{cons_if}
use Rattle.spec_calls.specs.Base.{members_below, members_of, initial_alone, is_one_of}

-- ---- a test on a list

pub one_of : (xs : List ℕ) (x : ℕ) → is_one_of xs x ≡ true → In x xs
one_of xs x h = let m = any_of (λ (p : ℕ). eqb x p) xs h in subst (λ (y : ℕ). In y xs) (sym (eqb-true x m.0 m.2)) m.1

pub of_one : (xs : List ℕ) (x : ℕ) → In x xs → is_one_of xs x ≡ true
of_one xs x h = any_at (λ (p : ℕ). eqb x p) x xs h (eq-eqb x x refl)

-- ---- a set

module _ (set : ℕ) where
  in-if : (b : Bool) (x p : ℕ) → In x (cons_if b p []) → (b ≡ true) × (x ≡ p)
  in-if true x p h = (refl, in_one x p h)
  in-if false x p h = absurd h

  if-in : (b : Bool) (p : ℕ) → b ≡ true → In p (cons_if b p [])
  if-in true p h = inl refl
  if-in false p h = absurd (false≢true h)

  below-bit : (m p : ℕ) → In p (members_below set m) → (p < m) × (bit set p ≡ true)
  unfolding members_below
  below-bit zero p h = absurd h
  below-bit (suc m) p h = by (below-bit m p) (in-cases p (members_below set m) (cons_if (bit set m) m []) h)
    where
      by : (In p (members_below set m) → (p < m) × (bit set p ≡ true)) → In p (members_below set m) ⊎ In p (cons_if (bit set m) m []) → (p < suc m) × (bit set p ≡ true)
      by ih (inl i) = let r = ih i in (omega (arith, r.0), r.1)
      by ih (inr i) = let r = in-if (bit set m) p m i in (omega (arith, r.1), ap (bit set) r.1 ∙ r.0)

  bit_below : (m p : ℕ) → p < m → bit set p ≡ true → In p (members_below set m)
  unfolding members_below
  bit_below zero p l h = absurd (not-suc-le-zero l)
  bit_below (suc m) p l h = by (λ i. bit_below m p i h) (eq-or-lt_of_le (le_of_suc-le-suc l))
    where
      by : (p < m → In p (members_below set m)) → (p ≡ m) ⊎ (p < m) → In p (members_below set m ++ cons_if (bit set m) m [])
      by ih (inl e) = in_right p (members_below set m) (cons_if (bit set m) m []) (subst (λ (x : ℕ). In p (cons_if (bit set x) x [])) e (if-in (bit set p) p h))
      by ih (inr i) = in_left p (members_below set m) (cons_if (bit set m) m []) (ih i)

  pub member-bit : (p : ℕ) → In p (members_of set) → (p < nonterminals) × (bit set p ≡ true)
  member-bit p h = below-bit nonterminals p h

  pub bit-member : (p : ℕ) → (p < nonterminals) × (bit set p ≡ true) → In p (members_of set)
  bit-member p h = bit_below nonterminals p h.0 h.1

  -- the test as a program makes it
  pub is_member : (p : ℕ) → is_one_of (members_of set) p ≡ (ltb p nonterminals && bit set p)
  is_member p =
      iff-equal (is_one_of (members_of set) p) (ltb p nonterminals && bit set p)
      (λ h. let r = member-bit p (one_of (members_of set) p h) in and_intro (ltb p nonterminals) (bit set p) (lt-ltb p nonterminals r.0) r.1)
      (λ h. of_one (members_of set) p (bit-member p (ltb-true p nonterminals (and-fst (ltb p nonterminals) (bit set p) h), and-snd (ltb p nonterminals) (bit set p) h)))

  -- where no bit from p on is set, there is no member from p on
  pub members-done : (p m : ℕ) → p ≤ m → set / 2 ^ p ≡ 0 → members_below set m ≡ members_below set p
  unfolding members_below
  members-done p m l z = ap (members_below set) (let e : m ≡ p + (m - p) = omega arith in e) ∙ by (m - p)
    where
      by : (j : ℕ) → members_below set (p + j) ≡ members_below set p
      by zero = ap (members_below set) (add-zero p)
      by (suc j) =
          let none : bit set (p + j) ≡ false = sym (bit-shr set p j) ∙ ap (λ (x : ℕ). bit x j) z ∙ bit-zero j in
          ap (members_below set) (add-suc p j) ∙ ap (λ (b : Bool). members_below set (p + j) ++ cons_if b (p + j) []) none ∙ append-nil (members_below set (p + j)) ∙ by j

  pub member-beyond : (p : ℕ) → nonterminals ≤ p → false ≡ is_one_of (members_of set) p
  member-beyond p h = sym (is_member p ∙ ap (λ (b : Bool). b && bit set p) (le-ltb p nonterminals h))

  pub member-digit : (p : ℕ) → p < nonterminals → eqb (bit_and (set / 2 ^ p) 1) 1 ≡ is_one_of (members_of set) p
  member-digit p h = digit-of set p ∙ sym (is_member p ∙ ap (λ (b : Bool). b && bit set p) (lt-ltb p nonterminals h))

-- the initial symbol alone
pub only-initial : members_of initial_alone ≡ 0 ∷ []
unfolding members_below bit
only-initial = refl

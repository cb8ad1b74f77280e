-- A union of entries goes entry by entry; a set that its own union does not enlarge is the closure. Assumes nothing.
use Rattle.std.specs.Prelude.{◌≡◌, refl, ◌⊎◌, Bool, true, false, ◌||◌, List, ℕ, ◌+◌, ◌≤◌, ◌<◌, length, get_or, set}
use Rattle.std.proofs.Common.{sym, ap, ◌∙◌, subst, inl, inr, eq-or-lt_of_le, arith, get_or-set_same, get_or-set_other}
use Rattle.std.proofs.lemmas.Bool.{false≢true}
use Rattle.std.specs.Int.Bits.{bit_or, or_add_and}
use Rattle.std.proofs.lemmas.Nat.{and_le_r}
use Rattle.spec_basics.specs.Tests.{or_left, or_right}
use Rattle.relation.specs.Digits.{bit}
use Rattle.relation.specs.DigitLaws.{bit-or, bit-zero}
use Rattle.spec_file.specs.Limits.{nonterminals}
use Rattle.member_laws.specs.Sets.{with, Reaches, start, onward, ClosureOf, UnionOf}
use Rattle.member_laws.specs.RoundLaws.{with-own, with-only}

-- ---- the union

-- of the entries below q
pub record UnionBelow (entries : List ℕ) (set q r : ℕ) : Type 0 where
  pub only : (p : ℕ) → bit r p ≡ true → (m : ℕ) × (m < q) × (bit set m ≡ true) × (bit (get_or entries m 0) p ≡ true)
  pub each : (m p : ℕ) → m < q → bit set m ≡ true → bit (get_or entries m 0) p ≡ true → bit r p ≡ true

module _ (entries : List ℕ) (set : ℕ) where
  pub union-none : UnionBelow entries set 0 0
  union-none = record { only = λ p e. absurd (false≢true (sym (bit-zero p) ∙ e)); each = λ m p h. absurd (let z : ⊥ = omega arith in z) }

  module _ (q r : ℕ) (s : UnionBelow entries set q r) where
    pub union-skip : bit set q ≡ false → UnionBelow entries set (q + 1) r
    union-skip f = record {
      only = λ p e. let m = s.only p e in (m.0, omega (arith, m.1), m.2, m.3);
      each = λ m p h e d. by m p e d (eq-or-lt_of_le (let z : m ≤ q = omega arith in z));
    }
      where
        by : (m p : ℕ) → bit set m ≡ true → bit (get_or entries m 0) p ≡ true → (m ≡ q) ⊎ (m < q) → bit r p ≡ true
        by m p e d (inl z) = absurd (false≢true (sym f ∙ ap (bit set) (sym z) ∙ e))
        by m p e d (inr l) = s.each m p l e d

    pub union-next : bit set q ≡ true → UnionBelow entries set (q + 1) (bit_or r (get_or entries q 0))
    union-next f = record {
      only = λ p e. from p e (bit r p) refl;
      each = λ m p h e d. bit-or r (get_or entries q 0) p ∙ by m p e d (eq-or-lt_of_le (let z : m ≤ q = omega arith in z));
    }
      where
        from : (p : ℕ) → bit (bit_or r (get_or entries q 0)) p ≡ true → (t : Bool) → bit r p ≡ t
            → (m : ℕ) × (m < q + 1) × (bit set m ≡ true) × (bit (get_or entries m 0) p ≡ true)
        from p e true b = let m = s.only p b in (m.0, omega (arith, m.1), m.2, m.3)
        from p e false b = (q, omega arith, f, sym (ap (λ (t : Bool). t || bit (get_or entries q 0) p) b) ∙ sym (bit-or r (get_or entries q 0) p) ∙ e)

        by : (m p : ℕ) → bit set m ≡ true → bit (get_or entries m 0) p ≡ true → (m ≡ q) ⊎ (m < q) → (bit r p || bit (get_or entries q 0) p) ≡ true
        by m p e d (inl z) = or_right (bit r p) (bit (get_or entries q 0) p) (ap (λ (x : ℕ). bit (get_or entries x 0) p) (sym z) ∙ d)
        by m p e d (inr l) = or_left (bit r p) (bit (get_or entries q 0) p) (s.each m p l e d)

  pub union-all : (q r : ℕ) → q ≡ nonterminals → UnionBelow entries set q r → UnionOf entries set r
  union-all q r e s = record { only = λ p h. let m = s.only p h in (m.0, omega (arith, m.1), m.2, m.3); each = λ m p h. s.each m p (omega arith) }

-- ---- the closure

-- what the set of q keeps from round to round
pub record ReachedSoFar (direct : List ℕ) (q set : ℕ) : Type 0 where
  pub sound : (p : ℕ) → bit set p ≡ true → Reaches direct q p
  pub own : bit set q ≡ true

module _ (direct : List ℕ) (q : ℕ) where
  pub reached-first : ReachedSoFar direct q (with 0 q)
  reached-first = record { sound = λ p e. by p (with-only 0 q p e); own = with-own 0 q }
    where
      by : (p : ℕ) → (bit 0 p ≡ true) ⊎ (p ≡ q) → Reaches direct q p
      by p (inl z) = absurd (false≢true (sym (bit-zero p) ∙ z))
      by p (inr z) = subst (Reaches direct q) (sym z) start

  module _ (set r : ℕ) (R : ReachedSoFar direct q set) (U : UnionOf direct set r) where
    pub larger : set ≤ bit_or set r
    larger = omega (arith, or_add_and set r, and_le_r set r)

    pub reached-next : ReachedSoFar direct q (bit_or set r)
    reached-next = record {
      sound = λ p e. by p e (bit set p) refl;
      own = bit-or set r q ∙ or_left (bit set q) (bit r q) R.own;
    }
      where
        by : (p : ℕ) → bit (bit_or set r) p ≡ true → (t : Bool) → bit set p ≡ t → Reaches direct q p
        by p e true s = R.sound p s
        by p e false s =
            let m = U.only p (sym (ap (λ (t : Bool). t || bit r p) s) ∙ sym (bit-or set r p) ∙ e) in
            onward (R.sound m.0 m.2) m.1 m.3

    -- where the union adds nothing
    pub reached-done : bit_or set r ≡ set → ClosureOf direct q set
    reached-done e p = (R.sound p, complete p)
      where
        complete : (p : ℕ) → Reaches direct q p → bit set p ≡ true
        complete p start = R.own
        complete p (onward {y} s l b) =
            ap (λ (x : ℕ). bit x p) (sym e) ∙ bit-or set r p ∙ or_right (bit set p) (bit r p) (U.each y p l (complete y s) b)

-- ---- a table of sets, entry after entry

-- one entry more
pub entries_next : (P : ℕ → ℕ → Type 0) (entries : List ℕ) (q r : ℕ) → q < length entries → ((k : ℕ) → k < q → P k (get_or entries k 0)) → P q r
    → (k : ℕ) → k < q + 1 → P k (get_or (set entries q r) k 0)
entries_next P entries q r h u v k l = by (eq-or-lt_of_le (let z : k ≤ q = omega arith in z))
  where
    by : (k ≡ q) ⊎ (k < q) → P k (get_or (set entries q r) k 0)
    by (inl e) = subst (λ (x : ℕ). P x (get_or (set entries q r) x 0)) (sym e) (subst (P q) (sym (get_or-set_same entries q r 0 h)) v)
    by (inr m) = subst (P k) (sym (get_or-set_other entries q k r 0 (λ e. let z : ⊥ = omega arith in z))) (u k m)

-- The heads are gathered row by row; where the closure says what a test on rows says, they are those of a round. Assumes nothing.
use Rattle.std.specs.Prelude.{◌≡◌, ◌⊎◌, Bool, true, false, List, [], ℕ, ◌+◌, ◌≤◌, ◌<◌, length, get_or}
use Rattle.std.proofs.Common.{sym, ◌∙◌, subst, inl, inr, le_refl, le_trans, eq-or-lt_of_le, arith}
use Rattle.std.proofs.lemmas.Bool.{false≢true}
use Rattle.relation.specs.Digits.{bit}
use Rattle.spec_file.specs.Entries.{entry_of}
use Rattle.member_laws.specs.Sets.{with}
use Rattle.member_laws.specs.Rounds.{Upto}
use Rattle.member_laws.specs.RoundLaws.{with-larger, with-kept, with-own, with-only}
use Rattle.member_sets.specs.Gathering.{GatheredUpto, Gathered}

module _ (rows : List (List ℕ)) (Says : List ℕ → Bool → Type 0) (set : ℕ) where
  -- the head of row k
  abbrev pub head : ℕ → ℕ
  head k = (entry_of (get_or rows k [])).head

  pub gathered-none : GatheredUpto rows Says set 0 set
  gathered-none = record {
    larger = le_refl set;
    kept = λ p e. e;
    only = λ p e. inl e;
    each = λ k h. absurd (let z : ⊥ = omega arith in z);
  }

  module _ (i r : ℕ) (u : GatheredUpto rows Says set i r) where
    wider : (p : ℕ) → (bit set p ≡ true) ⊎ ((k : ℕ) × (k < i) × Says (get_or rows k []) true × (p ≡ head k))
        → (bit set p ≡ true) ⊎ ((k : ℕ) × (k < i + 1) × Says (get_or rows k []) true × (p ≡ head k))
    wider p (inl e) = inl e
    wider p (inr k) = inr (k.0, omega (arith, k.1), k.2, k.3)

    pub gathered-miss : Says (get_or rows i []) false → GatheredUpto rows Says set (i + 1) r
    gathered-miss s = record {
      larger = u.larger;
      kept = u.kept;
      only = λ p e. wider p (u.only p e);
      each = λ k l. by k (eq-or-lt_of_le (let z : k ≤ i = omega arith in z));
    }
      where
        by : (k : ℕ) → (k ≡ i) ⊎ (k < i) → (Says (get_or rows k []) true × (bit r (head k) ≡ true)) ⊎ Says (get_or rows k []) false
        by k (inl e) = inr (subst (λ (m : ℕ). Says (get_or rows m []) false) (sym e) s)
        by k (inr l) = u.each k l

    pub gathered-hit : Says (get_or rows i []) true → GatheredUpto rows Says set (i + 1) (with r (head i))
    gathered-hit s = record {
      larger = le_trans u.larger (with-larger r (head i));
      kept = λ p e. with-kept r (head i) p (u.kept p e);
      only = λ p e. from p (with-only r (head i) p e);
      each = λ k l. by k (eq-or-lt_of_le (let z : k ≤ i = omega arith in z));
    }
      where
        from : (p : ℕ) → (bit r p ≡ true) ⊎ (p ≡ head i)
            → (bit set p ≡ true) ⊎ ((k : ℕ) × (k < i + 1) × Says (get_or rows k []) true × (p ≡ head k))
        from p (inl e) = wider p (u.only p e)
        from p (inr e) = inr (i, omega arith, s, e)

        still : (k : ℕ) → (Says (get_or rows k []) true × (bit r (head k) ≡ true)) ⊎ Says (get_or rows k []) false
            → (Says (get_or rows k []) true × (bit (with r (head i)) (head k) ≡ true)) ⊎ Says (get_or rows k []) false
        still k (inl e) = inl (e.0, with-kept r (head i) (head k) e.1)
        still k (inr e) = inr e

        by : (k : ℕ) → (k ≡ i) ⊎ (k < i) → (Says (get_or rows k []) true × (bit (with r (head i)) (head k) ≡ true)) ⊎ Says (get_or rows k []) false
        by k (inl e) =
            inl (subst (λ (m : ℕ). Says (get_or rows m []) true × (bit (with r (head i)) (head m) ≡ true)) (sym e) (s, with-own r (head i)))
        by k (inr l) = still k (u.each k l)

-- the closure says what the test says, and a head that passes is good where those of the set are
pub round_of : (rows : List (List ℕ)) (Says : List ℕ → Bool → Type 0) (test : List ℕ → Bool) (Good : ℕ → Type 0) (set r : ℕ)
    → ((k : ℕ) (b : Bool) → k < length rows → Says (get_or rows k []) b → b ≡ test (get_or rows k []))
    → (((p : ℕ) → bit set p ≡ true → Good p) → (k : ℕ) → k < length rows → test (get_or rows k []) ≡ true → Good (entry_of (get_or rows k [])).head)
    → Gathered rows Says set r → Upto rows test Good set (length rows) r
round_of rows Says test Good set r same ok g = record {
  larger = g.larger;
  kept = g.kept;
  sound = λ a p e. good a p (g.only p e);
  each = λ k l t. passed k l t (g.each k l);
}
  where
    good : ((p : ℕ) → bit set p ≡ true → Good p) → (p : ℕ)
        → (bit set p ≡ true) ⊎ ((k : ℕ) × (k < length rows) × Says (get_or rows k []) true × (p ≡ (entry_of (get_or rows k [])).head)) → Good p
    good a p (inl e) = a p e
    good a p (inr k) = subst Good (sym k.3) (ok a k.0 k.1 (sym (same k.0 true k.1 k.2)))

    passed : (k : ℕ) → k < length rows → test (get_or rows k []) ≡ true
        → (Says (get_or rows k []) true × (bit r (entry_of (get_or rows k [])).head ≡ true)) ⊎ Says (get_or rows k []) false
        → bit r (entry_of (get_or rows k [])).head ≡ true
    passed k l t (inl e) = e.1
    passed k l t (inr e) = absurd (false≢true (same k false l e ∙ t))

-- The walk through a pass's candidates, by what is kept at each step. `Post Q R r`: where r is going, Q holds of its progress, and where r
-- has stopped, R does. Assumes nothing.
use Rattle.std.specs.Prelude.{◌≡◌, ◌⊎◌, Bool, ℕ, length}
use Rattle.std.proofs.Math.Path.{refl}
use Rattle.std.proofs.Common.{sym, subst, inl, inr}
use Rattle.std.proofs.Math.Bool.{true, false}
use mathlib.Core.List.{List, [], ◌∷◌, ◌++◌}
use Rattle.std.proofs.Math.Dec.{eqb}
use Rattle.spec_basics.specs.Elements.{In}
use Rattle.spec_order.specs.Algebra.{Algebra, Laws}
use Rattle.spec_order.specs.Candidates.{Candidate}
use Rattle.spec_order.proofs.Coverage.{Covered, dropped-covered, added-covered, covered-added}
use Rattle.spec_order.specs.Journal.{Row, absent}
use Rattle.spec_order.specs.Order.{Progress, Verdict, broken, full, spent, Outcome, going, stopped, and_then, dropped, added, decide, consider, walk}
use Rattle.spec_order.specs.Stopping.{counted, grown}

module _ {E : Type 0} where
  abbrev pub Post : (Progress E → Type 0) → (Verdict → ℕ → Progress E → Type 0) → Outcome E → Type 0
  Post Q R (going s) = Q s
  Post Q R (stopped v i s) = R v i s

  pub post-bind : (Q Q' : Progress E → Type 0) (R : Verdict → ℕ → Progress E → Type 0) (r : Outcome E) (k : Progress E → Outcome E)
      → Post Q R r → ((s : Progress E) → Q s → Post Q' R (k s)) → Post Q' R (and_then r k)
  post-bind Q Q' R (going s) k h f = f s h
  post-bind Q Q' R (stopped v i s) k h f = h

  abbrev pub AnyEnd : Verdict → ℕ → Progress E → Type 0
  AnyEnd v i s = Unit {0}

module _ {E : Type 0} (A : Algebra E) where
  -- the journal of t covers each of the candidates cs, and whatever that of s covered
  pub record Covers (cs : List (Candidate E)) (s t : Progress E) : Type 0 where
    pub each : (c : Candidate E) → In c cs → Covered A c.head c.effect t.rows
    pub still : (p : ℕ) (e : E) → Covered A p e s.rows → Covered A p e t.rows

module _ {E : Type 0} (A : Algebra E) (J B : ℕ) (k : ℕ) where
  -- one candidate, by its five ends, each with the tests on the way: spent, dropped, full, broken, added
  pub step-post : (Q : Progress E → Type 0) (R : Verdict → ℕ → Progress E → Type 0) (c : Candidate E) (s : Progress E)
      → (eqb s.joins B ≡ true → R spent absent s)
      → (eqb s.joins B ≡ false → dropped A.below c s.rows ≡ true → Q (counted s))
      → (eqb s.joins B ≡ false → dropped A.below c s.rows ≡ false → eqb (length s.rows) J ≡ true → R full absent (counted s))
      → (eqb s.joins B ≡ false → dropped A.below c s.rows ≡ false → eqb (length s.rows) J ≡ false → A.breaks c.head c.effect ≡ true → R broken (length s.rows) (grown A k c s))
      → (eqb s.joins B ≡ false → dropped A.below c s.rows ≡ false → eqb (length s.rows) J ≡ false → A.breaks c.head c.effect ≡ false → Q (grown A k c s))
      → Post Q R (consider A.below A.breaks J B k c s)
  unfolding consider decide
  step-post Q R c s h₁ h₂ h₃ h₄ h₅ =
      by (eqb s.joins B) (dropped A.below c s.rows) (eqb (length s.rows) J) (A.breaks c.head c.effect) refl refl refl refl
    where
      by : (b₁ b₂ b₃ b₄ : Bool) → eqb s.joins B ≡ b₁ → dropped A.below c s.rows ≡ b₂ → eqb (length s.rows) J ≡ b₃ → A.breaks c.head c.effect ≡ b₄
          → Post Q R (decide A.below b₁ b₂ b₃ b₄ k c s)
      by true b₂ b₃ b₄ e₁ e₂ e₃ e₄ = h₁ e₁
      by false true b₃ b₄ e₁ e₂ e₃ e₄ = h₂ e₁ e₂
      by false false true b₄ e₁ e₂ e₃ e₄ = h₃ e₁ e₂ e₃
      by false false false true e₁ e₂ e₃ e₄ = h₄ e₁ e₂ e₃ e₄
      by false false false false e₁ e₂ e₃ e₄ = h₅ e₁ e₂ e₃ e₄

  -- what each candidate's step keeps, the walk keeps
  pub walk-post : (Q : Progress E → Type 0) (R : Verdict → ℕ → Progress E → Type 0) (cs : List (Candidate E))
      → ((c : Candidate E) → In c cs → (s : Progress E) → Q s → Post Q R (consider A.below A.breaks J B k c s))
      → (s : Progress E) → Q s → Post Q R (walk A.below A.breaks J B k cs s)
  unfolding walk
  walk-post Q R [] each s q = q
  walk-post Q R (c ∷ cs) each s q =
      post-bind Q Q R (consider A.below A.breaks J B k c s) (walk A.below A.breaks J B k cs)
      (each c (inl refl) s q)
      (walk-post Q R cs (λ d m. each d (inr m)))

  pub walk-append : (cs ds : List (Candidate E)) (s : Progress E) → walk A.below A.breaks J B k (cs ++ ds) s ≡ and_then (walk A.below A.breaks J B k cs s) (walk A.below A.breaks J B k ds)
  unfolding walk
  walk-append [] ds s = refl
  walk-append (c ∷ cs) ds s = by (consider A.below A.breaks J B k c s) (walk-append cs ds)
    where
      by : (r : Outcome E) → ((t : Progress E) → walk A.below A.breaks J B k (cs ++ ds) t ≡ and_then (walk A.below A.breaks J B k cs t) (walk A.below A.breaks J B k ds))
          → and_then r (walk A.below A.breaks J B k (cs ++ ds)) ≡ and_then (and_then r (walk A.below A.breaks J B k cs)) (walk A.below A.breaks J B k ds)
      by (going t) ih = ih t
      by (stopped v i t) ih = refl

  module _ (L : Laws A) where
    step-covers : (c : Candidate E) (s : Progress E) → Post (Covers A (c ∷ []) s) AnyEnd (consider A.below A.breaks J B k c s)
    step-covers c s =
        step-post (Covers A (c ∷ []) s) AnyEnd c s
        (λ e. tt)
        (λ e₁ e₂. record { each = only s.rows (dropped-covered A c s.rows e₂); still = λ p e v. v })
        (λ e₁ e₂ e₃. tt)
        (λ e₁ e₂ e₃ e₄. tt)
        (λ e₁ e₂ e₃ e₄. record { each = only (added A.below k c s.rows) (added-covered A L k c s.rows); still = λ p e v. covered-added A L k c p e s.rows v })
      where
        only : (rows : List (Row E)) → Covered A c.head c.effect rows → (d : Candidate E) → In d (c ∷ []) → Covered A d.head d.effect rows
        only rows v d (inl e) = subst (λ (x : Candidate E). Covered A x.head x.effect rows) (sym e) v
        only rows v d (inr h) = absurd h

    -- a finished walk covers each of its candidates, and what was covered before
    pub walk-covers : (cs : List (Candidate E)) (s : Progress E) → Post (Covers A cs s) AnyEnd (walk A.below A.breaks J B k cs s)
    unfolding walk
    walk-covers [] s = record { each = λ c h. absurd h; still = λ p e v. v }
    walk-covers (c ∷ cs) s =
        post-bind (Covers A (c ∷ []) s) (Covers A (c ∷ cs) s) AnyEnd (consider A.below A.breaks J B k c s) (walk A.below A.breaks J B k cs)
        (step-covers c s)
        (λ t v. weaken t v (walk A.below A.breaks J B k cs t) (walk-covers cs t))
      where
        weaken : (t : Progress E) → Covers A (c ∷ []) s t → (r : Outcome E) → Post (Covers A cs t) AnyEnd r → Post (Covers A (c ∷ cs) s) AnyEnd r
        weaken t v (stopped x i u) h = tt
        weaken t v (going u) h = record { each = λ d. pick d; still = λ p e w. h.still p e (v.still p e w) }
          where
            pick : (d : Candidate E) → (d ≡ c) ⊎ In d cs → Covered A d.head d.effect u.rows
            pick d (inl e) = h.still d.head d.effect (v.each d (inl e))
            pick d (inr m') = h.each d m'

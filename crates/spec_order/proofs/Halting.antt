-- A walk through candidates goes through them all, each one join, or stops at one of them; and so the passes of a check. Assumes nothing.
use Rattle.std.specs.Prelude.{◌≡◌}
use Rattle.std.proofs.Math.Path.{refl, ap, subst}
use Rattle.std.proofs.Common.{sym, ◌∙◌, arith, eqb-true}
use mathlib.Core.List.{List, [], ◌∷◌}
use Prim.Native.Nat.{ℕ, zero, suc, ◌+◌, ◌≤◌, zero-le}
use Rattle.std.proofs.Math.Nat.{le_refl}
use Rattle.std.proofs.Math.ListN.{length}
use Rattle.std.proofs.lemmas.Bool.{eqb-false}
use Rattle.spec_language.specs.Grammar.{Rule}
use Rattle.spec_order.specs.Algebra.{Algebra}
use Rattle.spec_order.specs.Candidates.{Candidate}
use Rattle.spec_order.specs.Order.{Progress, Verdict, Outcome, going, stopped, and_then, consider, walk, one_pass}
use Rattle.spec_order.specs.Stopping.{Found, Halt, candidates_at, Begun, formed}
use Rattle.spec_order.proofs.Walking.{Post, step-post}
use Rattle.spec_order.proofs.Truth.{length-added}

-- the walk came from s to t through m candidates, each of them one join
pub record Went {E : Type 0} (J m : ℕ) (s t : Progress E) : Type 0 where
  pub joins-are : t.joins ≡ s.joins + m
  pub rows-up : length s.rows ≤ length t.rows
  pub rows_fit : length t.rows ≤ J

module _ {E : Type 0} (A : Algebra E) (J B k : ℕ) where
  -- a walk that stops at a later candidate, with one candidate more in front that did not stop it
  later : (c : Candidate E) (cs : List (Candidate E)) (s t : Progress E) → consider A.below A.breaks J B k c s ≡ going t
      → (v : Verdict) (i : ℕ) (u : Progress E) → Halt A J B k cs t v i u → Halt A J B k (c ∷ cs) s v i u
  unfolding walk
  later c cs s t e v i u h =
      record {
        before = c ∷ h.before;
        at = h.at;
        after = h.after;
        split = ap (λ (x : List (Candidate E)). c ∷ x) h.split;
        reached = h.reached;
        walked = ap (λ (x : Outcome E). and_then x (walk A.below A.breaks J B k h.before)) e ∙ h.walked;
        found = h.found;
      }

  at_once : (c : Candidate E) (cs : List (Candidate E)) (s : Progress E) (v : Verdict) (i : ℕ) (u : Progress E) → Found A J B k v i c s u → Halt A J B k (c ∷ cs) s v i u
  unfolding walk
  at_once c cs s v i u f =
      record {
        before = [];
        at = c;
        after = cs;
        split = refl;
        reached = s;
        walked = refl;
        found = f;
      }

  step_went : (c : Candidate E) (s : Progress E) → length s.rows ≤ J → Post (Went J 1 s) (λ v i u. Found A J B k v i c s u) (consider A.below A.breaks J B k c s)
  step_went c s l =
      step-post A J B k (Went J 1 s) (λ v i u. Found A J B k v i c s u) c s
      (λ e. (eqb-true s.joins B e, refl, refl))
      (λ e₁ e₂. record { joins-are = omega arith; rows-up = le_refl (length s.rows); rows_fit = l })
      (λ e₁ e₂ e₃. (eqb-false s.joins B e₁, e₂, eqb-true (length s.rows) J e₃, refl, refl))
      (λ e₁ e₂ e₃ e₄. (eqb-false s.joins B e₁, e₂, eqb-false (length s.rows) J e₃, e₄, refl, refl))
      (λ e₁ e₂ e₃ e₄.
      let ne : length s.rows ≡ J → ⊥ = eqb-false (length s.rows) J e₃ in
      record { joins-are = omega arith; rows-up = omega (arith, length-added A k c s.rows); rows_fit = omega (arith, length-added A k c s.rows) })

  pub walk-went : (cs : List (Candidate E)) (s : Progress E) → length s.rows ≤ J → Post (Went J (length cs) s) (Halt A J B k cs s) (walk A.below A.breaks J B k cs s)
  unfolding walk
  walk-went [] s l = record { joins-are = omega arith; rows-up = le_refl (length s.rows); rows_fit = l }
  walk-went (c ∷ cs) s l = by (consider A.below A.breaks J B k c s) refl (step_went c s l) (walk-went cs)
    where
      on : (t : Progress E) → consider A.below A.breaks J B k c s ≡ going t → Went J 1 s t
          → (r : Outcome E) → Post (Went J (length cs) t) (Halt A J B k cs t) r → Post (Went J (suc (length cs)) s) (Halt A J B k (c ∷ cs) s) r
      on t e g (going u) p = record { joins-are = omega (arith, g.joins-are, p.joins-are); rows-up = omega (arith, g.rows-up, p.rows-up); rows_fit = p.rows_fit }
      on t e g (stopped v i u) p = later c cs s t e v i u p

      by : (r : Outcome E) → consider A.below A.breaks J B k c s ≡ r → Post (Went J 1 s) (λ v i u. Found A J B k v i c s u) r
          → ((t : Progress E) → length t.rows ≤ J → Post (Went J (length cs) t) (Halt A J B k cs t) (walk A.below A.breaks J B k cs t))
          → Post (Went J (suc (length cs)) s) (Halt A J B k (c ∷ cs) s) (and_then r (walk A.below A.breaks J B k cs))
      by (going t) e g ih = on t e g (walk A.below A.breaks J B k cs t) (ih t g.rows_fit)
      by (stopped v i u) e g ih = at_once c cs s v i u g

  -- where a walk stopped, each candidate before that one was one join
  pub halt-went : (cs : List (Candidate E)) (s : Progress E) (v : Verdict) (i : ℕ) (u : Progress E) (h : Halt A J B k cs s v i u) → length s.rows ≤ J → Went J (length h.before) s h.reached
  halt-went cs s v i u h l = subst (Post (Went J (length h.before) s) (Halt A J B k h.before s)) h.walked (walk-went h.before s l)

-- ---- the passes

module _ {E : Type 0} (A : Algebra E) (rules : List Rule) (J B : ℕ) where
  -- where pass h + 1 begins: the candidates of the h passes before are its joins, and each of them added a row
  pub record Came (h : ℕ) (s : Progress E) (b : Begun A rules J B h s) : Type 0 where
    pub joins-are : s.joins ≡ formed A rules J B h s b
    pub rows-least : h ≤ length s.rows
    pub rows_fit : length s.rows ≤ J

  pub begun-came : (h : ℕ) (s : Progress E) (b : Begun A rules J B h s) → Came h s b
  unfolding one_pass
  begun-came zero s b = record { joins-are = ap (λ (t : Progress E). t.joins) b; rows-least = zero-le; rows_fit = subst (λ (t : Progress E). length t.rows ≤ J) (sym b) zero-le }
  begun-came (suc h) s b =
      let c = begun-came h b.0 b.1 in
      let w : Went J (length (candidates_at A rules b.0)) b.0 s =
      subst (Post (Went J (length (candidates_at A rules b.0)) b.0) (Halt A J B (suc h) (candidates_at A rules b.0) b.0)) b.2
      (walk-went A J B (suc h) (candidates_at A rules b.0) b.0 c.rows_fit) in
      let ne : length s.rows ≡ length b.0.rows → ⊥ = b.3 in
      record { joins-are = omega (arith, w.joins-are, c.joins-are); rows-least = omega (arith, w.rows-up, c.rows-least); rows_fit = w.rows_fit }

-- Where the working order stops at a candidate, or ends a pass that has added no row, the check answers so (Counting.antt has the other
-- direction). Assumes nothing.
use Rattle.std.specs.Prelude.{◌≡◌, Bool, length}
use Rattle.std.proofs.Common.{sym, ◌∙◌}
use Rattle.std.proofs.Math.Path.{ap}
use mathlib.Core.List.{List, ◌∷◌}
use Prim.Native.Nat.{ℕ, zero, suc, ◌+◌, ◌-◌}
use native.Mathlib.Omega.{arith}
use borrow.Author.Tests.{eq-eqb, ne_eqb}
use Rattle.spec_language.specs.Grammar.{Rule}
use Rattle.spec_order.specs.Algebra.{Algebra}
use Rattle.spec_order.specs.Candidates.{Candidate}
use Rattle.spec_order.specs.Order.{Progress, start, Verdict, broken, full, spent, holds, empty, Outcome, stopped, Answer, and_then, answer, decide, consider, walk, close_by, close, one_pass, passes, check}
use Rattle.spec_order.specs.Stopping.{Found, Halt, candidates_at, Begun, Stops, Ends}
use Rattle.spec_order.proofs.Walking.{walk-append}
use Rattle.spec_order.proofs.Halting.{begun-came}

module _ {E : Type 0} (A : Algebra E) (J B k : ℕ) where
  -- what was found at a candidate stops the walk there
  found-stops : (v : Verdict) (i : ℕ) (c : Candidate E) (t u : Progress E) → Found A J B k v i c t u → consider A.below A.breaks J B k c t ≡ stopped v i u
  unfolding consider decide
  found-stops holds i c t u f = absurd f
  found-stops empty i c t u f = absurd f
  found-stops spent i c t u f = rw (eq-eqb t.joins B f.0, f.1, f.2)
  found-stops full i c t u f = rw (ne_eqb t.joins B f.0, f.1, eq-eqb (length t.rows) J f.2, f.3, f.4)
  found-stops broken i c t u f = rw (ne_eqb t.joins B f.0, f.1, ne_eqb (length t.rows) J f.2, f.3, f.4, f.5)

  halt-stops : (cs : List (Candidate E)) (s : Progress E) (v : Verdict) (i : ℕ) (u : Progress E) → Halt A J B k cs s v i u → walk A.below A.breaks J B k cs s ≡ stopped v i u
  unfolding walk
  halt-stops cs s v i u h =
      let W : List (Candidate E) → Progress E → Outcome E = walk A.below A.breaks J B k in
      ap (λ (xs : List (Candidate E)). W xs s) h.split ∙ walk-append A J B k h.before (h.at ∷ h.after) s
      ∙ ap (λ (r : Outcome E). and_then r (W (h.at ∷ h.after))) h.walked
      ∙ ap (λ (r : Outcome E). and_then r (W h.after)) (found-stops v i h.at h.reached u h.found)

module _ {E : Type 0} (A : Algebra E) (rules : List Rule) (J B : ℕ) where
  -- from the beginning to a later pass
  begun-passes : (h f : ℕ) (s : Progress E) → Begun A rules J B h s → passes A rules J B (h + f) 1 start ≡ passes A rules J B f (suc h) s
  unfolding passes
  begun-passes zero f s b = let n : 0 + f ≡ f = omega arith in ap (λ (g : ℕ). passes A rules J B g 1 start) n ∙ ap (passes A rules J B f 1) (sym b)
  begun-passes (suc h) f s b =
      let n : suc h + f ≡ h + suc f = omega arith in
      ap (λ (g : ℕ). passes A rules J B g 1 start) n ∙ begun-passes h (suc f) b.0 b.1
      ∙ ap (close A.starts (suc h) (length b.0.rows) (passes A rules J B f (suc (suc h)))) b.2
      ∙ ap (λ (x : Bool). close_by A.starts x (suc h) (passes A rules J B f (suc (suc h))) s) (ne_eqb (length s.rows) (length b.0.rows) b.3)

  -- the check where pass h + 1 begins
  from-pass : (h : ℕ) (s : Progress E) → Begun A rules J B h s → check A rules J B ≡ close A.starts (suc h) (length s.rows) (passes A rules J B (J - h) (suc (suc h))) (one_pass A rules J B (suc h) s)
  unfolding check passes
  from-pass h s b =
      let c = begun-came A rules J B h s b in
      let n : suc J ≡ h + suc (J - h) = omega (arith, c.rows-least, c.rows_fit) in
      ap (λ (g : ℕ). passes A rules J B g 1 start) n ∙ begun-passes h (suc (J - h)) s b

  -- where the working order stops with a verdict, the check answers it
  pub stops_so : (v : Verdict) (a : Answer E) → Stops A rules J B v a → (check A rules J B).verdict ≡ v
  unfolding one_pass answer
  stops_so v a h =
      ap (λ (x : Answer E). x.verdict)
      (from-pass h.passed h.began h.begun
      ∙ ap (close A.starts (suc h.passed) (length h.began.rows) (passes A rules J B (J - h.passed) (suc (suc h.passed))))
      (halt-stops A J B (suc h.passed) (candidates_at A rules h.began) h.began v a.row h.last h.halt))

  -- and where a pass ends that has added no row, the verdict of the end
  pub ends_so : (v : Verdict) (a : Answer E) → Ends A rules J B v a → (check A rules J B).verdict ≡ v
  unfolding answer
  ends_so v a h =
      ap (λ (x : Answer E). x.verdict)
      (from-pass h.passed h.began h.begun
      ∙ ap (close A.starts (suc h.passed) (length h.began.rows) (passes A rules J B (J - h.passed) (suc (suc h.passed)))) h.walked
      ∙ ap (λ (x : Bool). close_by A.starts x (suc h.passed) (passes A rules J B (J - h.passed) (suc (suc h.passed))) h.last) (eq-eqb (length h.last.rows) (length h.began.rows) h.none-added))
      ∙ h.verdict-is

-- The two moves: what a file and an output that are not refused have, and the replies. Assumes nothing.
use Rattle.std.specs.Prelude.{◌≡◌, cond, ℕ, ◌*◌, ◌/◌, ◌≤◌, ltb}
use Rattle.std.proofs.Common.{sym, ap, ◌∙◌}
use Rattle.std.proofs.Math.Path.{subst}
use mathlib.Core.List.{List, [], ◌∷◌}
use Rattle.std.proofs.Math.ListN.{length}
use Rattle.std.specs.declared.result.Result.{Result}
use Rattle.spec_file.specs.declared.Refusal.{Refusal as RefusalAnswer}
use Rattle.spec_file.specs.Refusals.{refuse, first_of}
use Rattle.spec_file.proofs.RefusalLaws.{none-refuses, first-last}
use Rattle.spec_calls.proofs.ReplyLaws.{reply-none}
use Rattle.spec_unfold.specs.Moving.{widened, narrowed}
use Rattle.spec_unfold.specs.Calls.{output_fault, widen_refusals, narrow_refusals, widen_of, narrow_of, widen_after, narrow_after}
use Rattle.spec_unfold.proofs.CallLaws.{widen-answers, narrow-answers}
use Rattle.spec_unfold.specs.MovingMeans.{WidenMeans, NarrowMeans}
use Rattle.spec_unfold.proofs.MovingTruth.{widen-means, narrow-means}
use Rattle.call_move.specs.Answers.{moved_of, Widens, Narrows}
use Rattle.call_move.specs.FrontLaws.{widened-length, narrowed-length}
use Rattle.call_move.specs.ReplyLaws.{Replied}

-- ---- 10

-- the test of the room, by the result's length as the code has it
pub room-test : (result : List ℕ) (room n : ℕ) → length result ≡ n → refuse (cond (ltb room n) 10 0) 0 ≡ first_of (refuse (output_fault result room) 0 ∷ [])
unfolding output_fault
room-test result room n e = ap (λ (k : ℕ). refuse (cond (ltb room k) 10 0) 0) (sym e) ∙ sym (first-last (output_fault result room))

-- ---- the moves

module _ (bs : List ℕ) (room : ℕ) where
  -- where nothing refuses the move, there is room for the result
  pub widen-passed : (first_of (widen_refusals bs room)).number ≡ 0 → length bs / 8 * 16 ≤ room
  unfolding widen_of
  widen-passed z =
      let n = length (widened bs) in
      let done = reply-none (widen_refusals bs room) n (none-refuses (widen_refusals bs room) z) in
      subst (λ (k : ℕ). k ≤ room) (widened-length bs) (widen-answers bs room n done).1

  pub narrow-passed : (first_of (narrow_refusals bs room)).number ≡ 0 → length bs / 16 * 8 ≤ room
  unfolding narrow_of
  narrow-passed z =
      let n = length (narrowed bs) in
      let done = reply-none (narrow_refusals bs room) n (none-refuses (narrow_refusals bs room) z) in
      subst (λ (k : ℕ). k ≤ room) (narrowed-length bs) (narrow-answers bs room n done).2

module _ (bs old new : List ℕ) (r : Result ℕ RefusalAnswer) where
  pub widens : Replied (widen_refusals bs (length old)) (widened bs) old (moved_of r) new → Widens bs old new r
  unfolding widen_of widen_after
  widens p =
      let a : moved_of r ≡ widen_of bs (length old) = p.answer in
      let b : new ≡ widen_after bs old = p.output in
      record {
        answer = a;
        output = b;
        meaning = subst (WidenMeans bs old new) (sym a) (subst (λ (x : List ℕ). WidenMeans bs old x (widen_of bs (length old))) (sym b) (widen-means bs old));
      }

  pub narrows : Replied (narrow_refusals bs (length old)) (narrowed bs) old (moved_of r) new → Narrows bs old new r
  unfolding narrow_of narrow_after
  narrows p =
      let a : moved_of r ≡ narrow_of bs (length old) = p.answer in
      let b : new ≡ narrow_after bs old = p.output in
      record {
        answer = a;
        output = b;
        meaning = subst (NarrowMeans bs old new) (sym a) (subst (λ (x : List ℕ). NarrowMeans bs old x (narrow_of bs (length old))) (sym b) (narrow-means bs old));
      }

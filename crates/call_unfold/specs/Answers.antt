-- What the answer of unfolding promises. Definitions only. Assumes nothing.
use Rattle.std.specs.Prelude.{◌≡◌, List, ℕ, length}
use Rattle.std.specs.declared.result.Result.{Result}
use Rattle.spec_file.specs.declared.Refusal.{Refusal}
use Rattle.spec_unfold.specs.Calls.{unfold_of, unfold_after}
use Rattle.spec_unfold.specs.UnfoldingMeans.{UnfoldMeans}
use Rattle.call_move.specs.Answers.{moved_of}

-- the answer on the file bs and an output that holds old before and new afterwards; least: as in first_chain
pub record Unfolds (least : ℕ) (bs old new : List ℕ) (r : Result ℕ Refusal) : Type 0 where
  pub answer : moved_of r ≡ unfold_of least bs (length old)
  -- the result, and then the old bytes; the old bytes whole on a refusal
  pub output : new ≡ unfold_after least bs old
  -- the chains, the same runs, and a check of the result as one of the file
  pub meaning : UnfoldMeans least bs old new (moved_of r)

-- What the code's answer says, case by case, and what it promises. Definitions only. Assumes nothing.
use Rattle.std.specs.Prelude.{◌≡◌, List, ℕ, length, Ok, Err}
use Rattle.std.specs.declared.result.Result.{Result}
use Rattle.spec_file.specs.declared.Refusal.{Refusal}
use Rattle.spec_file.specs.Answers.{refusal_of}
use Rattle.spec_calls.specs.Replies.{Reply, refused, answered}
use Rattle.spec_unfold.specs.Calls.{widen_of, narrow_of, widen_after, narrow_after}
use Rattle.spec_unfold.specs.MovingMeans.{WidenMeans, NarrowMeans}

-- the result's length in bytes, or the refusal with its number and the record's number
abbrev pub moved_of : Result ℕ Refusal → Reply ℕ
moved_of (Ok n) = answered n
moved_of (Err r) = refused (refusal_of r)

-- the answer on the file bs and an output that holds old before and new afterwards
pub record Widens (bs old new : List ℕ) (r : Result ℕ Refusal) : Type 0 where
  pub answer : moved_of r ≡ widen_of bs (length old)
  -- the result, and then the old bytes; the old bytes whole on a refusal
  pub output : new ≡ widen_after bs old
  -- the new file says what bs says, and moves back to it
  pub meaning : WidenMeans bs old new (moved_of r)

pub record Narrows (bs old new : List ℕ) (r : Result ℕ Refusal) : Type 0 where
  pub answer : moved_of r ≡ narrow_of bs (length old)
  pub output : new ≡ narrow_after bs old
  pub meaning : NarrowMeans bs old new (moved_of r)

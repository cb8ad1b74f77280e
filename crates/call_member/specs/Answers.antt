-- What the code's answer says, case by case, and what it promises. Definitions only. Assumes nothing.
use Rattle.std.specs.Prelude.{◌≡◌, Bool, true, false, List, ℕ, length, Ok, Err}
use Rattle.std.specs.declared.result.Result.{Result}
use Rattle.spec_file.specs.declared.Refusal.{Refusal}
use Rattle.spec_file.specs.Answers.{refusal_of}
use Rattle.spec_calls.specs.Replies.{Reply, refused, answered}
use Rattle.spec_calls.specs.Recognizing.{recognize_of, RecognizeMeans}
use Rattle.call_member.specs.declared.Recognized.{Recognized}
use Rattle.call_member.specs.declared.Recognized.TheVariants.{Derived, NotDerived}

-- yes, no, or the refusal with its number and the record's number
abbrev pub recognized_of : Result Recognized Refusal → Reply Bool
recognized_of (Ok Derived) = answered true
recognized_of (Ok NotDerived) = answered false
recognized_of (Err r) = refused (refusal_of r)

-- the answer on the file bs and the run w, with the table before and after the call, and what it means
pub record Recognizing (bs w before after : List ℕ) (r : Result Recognized Refusal) : Type 0 where
  pub answer : recognized_of r ≡ recognize_of bs w (length before) after
  pub meaning : RecognizeMeans bs w before after (recognized_of r)

-- What the code's answer says, case by case, and what it promises. Definitions only. Assumes nothing.
use Rattle.std.specs.Prelude.{◌≡◌, List, ℕ, Ok, Err}
use Rattle.std.specs.declared.result.Result.{Result}
use Rattle.spec_file.specs.declared.Refusal.{Refusal}
use Rattle.spec_file.specs.Answers.{refusal_of}
use Rattle.spec_calls.specs.Replies.{Reply, refused, answered}
use Rattle.spec_calls.specs.Judging.{Judgement, accepted, turned_away, judge_of, JudgementMeans}
use Rattle.call_judge.specs.declared.Judged.{Judged}
use Rattle.call_judge.specs.declared.Judged.TheVariants.{Accepted, TurnedAway}

-- the judgement, or the refusal with its number and the record's number
abbrev pub judged_of : Result Judged Refusal → Reply Judgement
judged_of (Ok Accepted) = answered accepted
judged_of (Ok TurnedAway) = answered turned_away
judged_of (Err r) = refused (refusal_of r)

-- the answer on the file bs and the word w, and what it means: accepted exactly where there is an accepting path
pub record Judging (bs w : List ℕ) (r : Result Judged Refusal) : Type 0 where
  pub answer : judged_of r ≡ judge_of bs w
  pub meaning : JudgementMeans bs w (judged_of r)

-- What the answers of writing a word say, case by case, in the terms of the definitions. Definitions only. Assumes nothing.
use Rattle.std.specs.Prelude.{ℕ, Ok, Err}
use Rattle.std.specs.declared.result.Result.{Result}
use Rattle.spec_file.specs.Answers.{refusal_of}
use Rattle.spec_file.specs.declared.Refusal.{Refusal}
use Rattle.spec_calls.specs.Replies.{Reply, refused, answered}

abbrev pub writing_of : Result ℕ Refusal → Reply ℕ
writing_of (Err r) = refused (refusal_of r)
writing_of (Ok n) = answered n

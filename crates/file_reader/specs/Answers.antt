-- What the code's step says, case by case, in the terms of the definitions. Definitions only. Assumes nothing.
use Rattle.std.specs.Prelude.{ℕ, Ok, Err, Some, None}
use Rattle.std.specs.declared.option.Option.{Option}
use Rattle.std.specs.declared.result.Result.{Result}
use Rattle.spec_file.specs.declared.Record.{Record as RecordAnswer}
use Rattle.spec_file.specs.declared.Refusal.{Refusal as RefusalAnswer}
use Rattle.spec_file.specs.Answers.{refusal_of, said_by}
use Rattle.spec_file.specs.Reading.{ReaderStep, gives, refuses, ended}

abbrev pub step_of : Result (Option (RecordAnswer × ℕ)) RefusalAnswer → ReaderStep
step_of (Ok (Some x)) = gives (said_by x.0) x.1
step_of (Ok None) = ended
step_of (Err x) = refuses (refusal_of x)

-- the place of a reader after a step from the given place: a record moves it on, a refusal or the end leaves it (document 01, "Records")
abbrev pub place_after : ReaderStep → ℕ → ℕ
place_after (gives r i) place = i
place_after (refuses x) place = place
place_after ended place = place

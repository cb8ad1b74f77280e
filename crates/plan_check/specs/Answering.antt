-- What a check does. Definitions only. Assumes nothing.
use Rattle.std.specs.Prelude.{◌≡◌, List, ℕ, IfSome, Ok, Err}
use Rattle.std.specs.Io.KnownBytes.{Appends}
use Rattle.std.specs.declared.option.Option.{Option}
use Rattle.spec_calls.specs.Printing.{program_text}
use Rattle.std.specs.declared.result.Result.{Result}
use Rattle.plan_check.specs.declared.CheckError.{CheckError}
use Rattle.plan_check.specs.declared.CheckError.TheVariants.{Unread, Unwritten}

-- where the bytes of the input are `known`, and those that the output has were `old` and are `new`: an answer is document 01's text for the whole
-- input, and nothing else; of an input that was not read to its end nothing is written
abbrev pub Answers : {T : Type 0} → Option (List ℕ) → Option (List ℕ) → Option (List ℕ) → Result T CheckError → Type 0
Answers known old new (Ok x) = IfSome known (λ whole. Appends old new (program_text whole))
Answers known old new (Err Unread) = new ≡ old
Answers known old new (Err Unwritten) = Unit {0}

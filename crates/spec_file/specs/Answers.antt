-- What the code's structs and enums say, case by case, in the terms of the definitions. Definitions only. Assumes nothing.
use Rattle.std.specs.Prelude.{ℕ, Ok, Err}
use Rattle.std.specs.declared.result.Result.{Result}
use Rattle.spec_file.specs.declared.Fault.{Fault}
use Rattle.spec_file.specs.declared.Fault.TheVariants as fault
use Rattle.spec_file.specs.declared.Refusal.{Refusal as RefusalAnswer}
use Rattle.spec_file.specs.declared.Record.{Record as RecordAnswer}
use Rattle.spec_file.specs.declared.Record.TheVariants.{Rule, Transition, Final}
use Rattle.spec_file.specs.Records.{Record, rule_record, transition_record, final_record}
use Rattle.spec_file.specs.Refusals.{Refusal, refuse}

-- the number that document 01, C-11, C-12, C-16 or C-17 lists
abbrev pub number_of : Fault → ℕ
number_of fault.TornRecord = 1
number_of fault.TooManyRecords = 2
number_of fault.UnknownKind = 3
number_of fault.AboveRange = 4
number_of fault.StrayByte = 5
number_of fault.NotRising = 6
number_of fault.OverLimit = 7
number_of fault.JournalSize = 8
number_of fault.UnfitRow = 9
number_of fault.NoRoom = 10
number_of fault.UnfitRun = 11
number_of fault.MoveOnRemark = 12
number_of fault.LongRun = 13
number_of fault.TableSize = 14
number_of fault.ShortList = 15
number_of fault.TornWideRecord = 16
number_of fault.LongBody = 17
number_of fault.TooManyChains = 18

abbrev pub refusal_of : RefusalAnswer → Refusal
refusal_of x = refuse (number_of x.fault) x.place

-- the refusal of a call by a fault: it names no record
abbrev pub of_call : Fault → RefusalAnswer
of_call f = record { fault = f; place = 0 }

-- the number that a test refuses with; none where it passes
abbrev pub fault_of : Result (Unit {0}) Fault → ℕ
fault_of (Ok u) = 0
fault_of (Err f) = number_of f

-- what refuses; none where the tests pass
abbrev pub tested_of : Result (Unit {0}) RefusalAnswer → Refusal
tested_of (Ok u) = refuse 0 0
tested_of (Err x) = refusal_of x

abbrev pub said_by : RecordAnswer → Record
said_by (Rule r) = rule_record r.head r.size r.first r.second
said_by (Transition t) = transition_record t.source t.letter t.target
said_by (Final f) = final_record f

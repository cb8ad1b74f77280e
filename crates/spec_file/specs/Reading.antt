-- A step of the reader from any place, and the stretch of the file that holds its transitions (document 01, "Records").
-- Definitions only. Assumes nothing.
use Rattle.std.specs.Prelude.{cond, List, [], ℕ, ◌+◌, ◌*◌, eqb, leb, take, drop}
use Rattle.spec_file.specs.Records.{record_count, record_at, Record, record_of, rule_kind, transition_kind, count_of}
use Rattle.spec_file.specs.Refusals.{Refusal, refuse, by_number, fault_by, length_fault, fault}

pub data ReaderStep : Type 0 where
  -- a record, and the place of the next
  gives : Record → ℕ → ReaderStep
  -- the place stays
  refuses : Refusal → ReaderStep
  -- past the last record
  ended : ReaderStep

-- the refusal, where it has a number, and else the step after it
abbrev pub unless_refused : Refusal → ReaderStep → ReaderStep
unless_refused r s = by_number r.number (refuses r) s

-- at place i, after `rules` rules and `transitions` transitions: checks 1 and 2, the end, and the checks of record i
unfoldable pub step_from : List ℕ → ℕ → ℕ → ℕ → ReaderStep
step_from bs i rules transitions =
    unless_refused (refuse (length_fault bs) 0)
    (cond (leb (record_count bs) i) ended (unless_refused (refuse (fault_by bs i rules transitions) i) (gives (record_of (record_at bs i)) (i + 1))))

-- from any place: the records before it are counted by their kind alone, and not checked again
unfoldable pub step_at : List ℕ → ℕ → ReaderStep
step_at bs i = step_from bs i (count_of bs rule_kind i) (count_of bs transition_kind i)

-- the bytes of the file's transitions: none where the file is refused
unfoldable pub stretch : List ℕ → List ℕ
stretch bs =
    let n = record_count bs in
    cond (eqb (fault bs).number 0) (take (count_of bs transition_kind n * 8) (drop (count_of bs rule_kind n * 8) bs)) []

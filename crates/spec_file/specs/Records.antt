-- A file is a sequence of records of one width and nothing else (document 01, "Records": 8 bytes). Definitions only. Assumes nothing.
use Rattle.std.specs.Prelude.{Bool, true, false, cond, List, [], ◌∷◌, ℕ, zero, suc, ◌+◌, ◌-◌, ◌*◌, ◌/◌, eqb, length, get_or}
use Rattle.spec_file.specs.Forms.{Form, eight}

-- byte j of a record
abbrev pub byte : List ℕ → ℕ → ℕ
byte r j = get_or r j 0

-- m bytes of the file, the first of them j bytes after byte p
abbrev pub bytes_after : List ℕ → ℕ → ℕ → ℕ → List ℕ
bytes_after bs p zero j = []
bytes_after bs p (suc m) j = get_or bs (p + j) 0 ∷ bytes_after bs p m (suc j)

-- ---- of any form

module _ (F : Form) where
  -- whole records of the file
  abbrev pub record_count_in : List ℕ → ℕ
  record_count_in bs = length bs / F.width

  -- byte 0 of record i
  abbrev pub kind_in : List ℕ → ℕ → ℕ
  kind_in bs i = get_or bs (i * F.width) 0

  -- the bytes of record i: its kind, and those after it
  abbrev pub record_in : List ℕ → ℕ → List ℕ
  record_in bs i = kind_in bs i ∷ bytes_after bs (i * F.width) (F.width - 1) 1

  -- how many of the first i records have kind k
  unfoldable pub count_in : List ℕ → ℕ → ℕ → ℕ
  count_in bs k zero = 0
  count_in bs k (suc i) = count_in bs k i + cond (eqb (kind_in bs i) k) 1 0

-- ---- of document 01's

abbrev pub record_count : List ℕ → ℕ
record_count bs = record_count_in eight bs

abbrev pub kind_at : List ℕ → ℕ → ℕ
kind_at bs i = kind_in eight bs i

abbrev pub record_at : List ℕ → ℕ → List ℕ
record_at bs i = record_in eight bs i

abbrev pub count_of : List ℕ → ℕ → ℕ → ℕ
count_of bs k i = count_in eight bs k i

-- ---- kinds

abbrev pub rule_kind : ℕ
rule_kind = 1

-- document 01: a move
abbrev pub transition_kind : ℕ
transition_kind = 2

-- document 01: a finishing stage
abbrev pub final_kind : ℕ
final_kind = 3

-- what a record says
pub data Record : Type 0 where
  -- head, body length, the two symbols
  rule_record : ℕ → ℕ → ℕ → ℕ → Record
  -- source, letter, target
  transition_record : ℕ → ℕ → ℕ → Record
  -- state
  final_record : ℕ → Record

abbrev pub record_by : Bool → Bool → List ℕ → Record
record_by true m r = rule_record (byte r 1) (byte r 2) (byte r 3) (byte r 4)
record_by false true r = transition_record (byte r 1) (byte r 2) (byte r 3)
record_by false false r = final_record (byte r 1)

abbrev pub record_of : List ℕ → Record
record_of r = record_by (eqb (byte r 0) rule_kind) (eqb (byte r 0) transition_kind) r

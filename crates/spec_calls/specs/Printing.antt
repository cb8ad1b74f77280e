-- What the check program prints, as bytes (document 01, "The check program"). Definitions only. Assumes nothing.
use Rattle.std.specs.Prelude.{Bool, true, false, List, [], ◌∷◌, ◌++◌, ℕ, zero, suc, ◌+◌, ◌/◌, ◌%◌, ltb, get_or, take, replicate}
use Prim.Native.Char.{code}
use Prim.Native.String.{String, [] as nothing, ◌∷◌ as ◌then◌}
use Rattle.relation.specs.Relation.{states, pairs}
use Rattle.spec_file.specs.Views.{automaton_of}
use Rattle.spec_order.specs.Journal.{Row, no_row}
use Rattle.spec_order.specs.Order.{Verdict, holds, broken, full, spent, empty, Answer}
use Rattle.spec_calls.specs.Base.{initial_alone, forms_on}
use Rattle.spec_calls.specs.Checking.{Settings, check_of}
use Rattle.spec_calls.specs.Replies.{Reply, refused, answered}
use Rattle.spec_calls.specs.Writing.{write_of, buffer_after}

-- ---- characters

-- a text as the bytes of its characters, each of which is ASCII
abbrev pub bytes : String → List ℕ
bytes nothing = []
bytes (◌then◌ c s) = code c ∷ bytes s

abbrev pub blank_byte : ℕ
blank_byte = 32

abbrev pub line_feed : ℕ
line_feed = 10

-- ---- numbers

-- the digit_byte for a number below 10
abbrev pub digit_byte : ℕ → ℕ
digit_byte n = 48 + n

-- the one digit_byte of n, or those in front of it and then its last one
abbrev pub decimal_by : Bool → ℕ → List ℕ → List ℕ
decimal_by true n front = digit_byte n ∷ []
decimal_by false n front = front ++ (digit_byte (n % 10) ∷ [])

-- n in decimal, with no zero in front, where n has no more digits than f + 1
unfoldable pub decimal_in : ℕ → ℕ → List ℕ
decimal_in zero n = digit_byte n ∷ []
decimal_in (suc f) n = let front = decimal_in f (n / 10) in decimal_by (ltb n 10) n front

unfoldable pub decimal : ℕ → List ℕ
unfolding decimal_in
decimal n = decimal_in n n

-- each number after a blank
unfoldable pub blanked : List ℕ → List ℕ
blanked [] = []
blanked (n ∷ ns) = blank_byte ∷ (decimal n ++ blanked ns)

-- numbers separated by one blank
unfoldable pub separated : List ℕ → List ℕ
separated [] = []
separated (n ∷ ns) = decimal n ++ blanked ns

-- ---- lines, each of which ends in one line feed

-- numbers, separated by one blank
unfoldable pub numbers_line : List ℕ → List ℕ
numbers_line ns = separated ns ++ (line_feed ∷ [])

-- a word and the numbers after it
unfoldable pub word_line : List ℕ → List ℕ → List ℕ
word_line word ns = word ++ (blanked ns ++ (line_feed ∷ []))

abbrev pub verdict_word : Verdict → List ℕ
verdict_word holds = bytes "holds"
verdict_word broken = bytes "broken"
verdict_word full = bytes "full"
verdict_word spent = bytes "spent"
verdict_word empty = bytes "empty"

-- `refused` and the number
unfoldable pub refused_line : ℕ → List ℕ
refused_line n = word_line (bytes "refused") (n ∷ [])

-- line 1: verdict, joins, used rows, pass
unfoldable pub line_one : Verdict → Answer ℕ → List ℕ
line_one v a = word_line (verdict_word v) (a.joins ∷ a.used ∷ a.pass ∷ [])

-- line 2: the row, the number of pairs in its effect, and the length of its run
unfoldable pub line_two : ℕ → Row ℕ → List ℕ
line_two i r = numbers_line (i ∷ pairs states r.effect ∷ r.len ∷ [])

-- line 3: the step codes of the run that was written to the front of the buffer, or the number with which writing refused
unfoldable pub line_three : List ℕ → Reply ℕ → List ℕ
line_three buffer (refused r) = refused_line r.number
line_three buffer (answered n) = numbers_line (take n buffer)

-- ---- the answer

-- lines 2 and 3 of a broken answer to a check of the file bs, whose run is written to a buffer of `room` zeros
unfoldable pub broken_lines : List ℕ → ℕ → Answer ℕ → List ℕ
broken_lines bs room a =
    let rows = a.journal in
    line_two a.row (get_or rows a.row (no_row (forms_on states (automaton_of bs))))
    ++ line_three (buffer_after bs rows a.used a.row (replicate room 0)) (write_of bs rows a.used a.row room)

abbrev pub lines_by : Verdict → List ℕ → ℕ → Answer ℕ → List ℕ
lines_by holds bs room a = line_one holds a
lines_by full bs room a = line_one full a
lines_by spent bs room a = line_one spent a
lines_by empty bs room a = line_one empty a
lines_by broken bs room a = line_one broken a ++ broken_lines bs room a

-- a refused file gives only `refused` and the number
abbrev pub text_by : List ℕ → ℕ → Reply (Answer ℕ) → List ℕ
text_by bs room (refused r) = refused_line r.number
text_by bs room (answered a) = lines_by a.verdict bs room a

-- what is printed of a check with the settings g, with a run buffer of `room` bytes
unfoldable pub text_of : List ℕ → Settings → ℕ → List ℕ
text_of bs g room = text_by bs room (check_of bs g)

-- ---- the check program

abbrev pub program_settings : Settings
program_settings = record { rows = 1024; budget = 1000000; starts = initial_alone }

abbrev pub program_room : ℕ
program_room = 4096

unfoldable pub program_text : List ℕ → List ℕ
program_text bs = text_of bs program_settings program_room

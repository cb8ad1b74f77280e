-- The cases that document 01 marks P, as one table about the definitions, from file bytes; one of remarks (C-11), one of plans without runs
-- (C-15), and one of sets of starting procedures (C-18). Assumes nothing.
use Rattle.std.specs.Prelude.{◌≡◌, refl, List, [], ◌∷◌, map, ℕ}
use Prim.Native.String.{String}
use Rattle.relation.specs.Digits.{bit, number, some, count, subset}
use Rattle.relation.specs.Relation.{has, table, identity, compose, pairs, rejects}
use Rattle.spec_language.specs.Remarks.{is_remark}
use Rattle.spec_language.specs.WordRelation.{moves, letter_relation, word_relation, is_final, rejected}
use Rattle.spec_file.specs.Records.{count_in}
use Rattle.spec_file.specs.Refusals.{kind_known, on_remark, rises_from, over_limit, above_range_in, exceeds_in, fault_at_in, fault_by_in, fault_from_in, fault_in, length_fault_in, stray_byte_in}
use Rattle.spec_file.specs.Views.{collect, rules_of, transitions_of, finals_of}
use Rattle.spec_order.specs.Journal.{capped, live, live_of}
use Rattle.spec_order.specs.Candidates.{live_rows, sole, paired, bare, choices, body_candidates, pass_candidates}
use Rattle.spec_order.specs.Order.{Answer, born, answer, dropped, larger, retire, added, decide, consider, walk, has_row, one_pass, passes, check}
use Rattle.spec_order.specs.Behind.{symbol_word, body_word, row_word, words_from, words_of, word_behind}
use Rattle.spec_order.specs.Fitting.{pointer_fits, symbol_len, body_fits, row_fits, all_rows_fit}
use Rattle.spec_calls.specs.Base.{members_below, initial_alone}
use Rattle.spec_calls.specs.Replies.{Reply, refused, answered}
use Rattle.spec_calls.specs.Checking.{journal_fault, order_on, check_of, shown_head}
use Rattle.spec_calls.specs.Writing.{row_fault, room_fault, word_of, write_of, buffer_after}
use Rattle.spec_calls.specs.Printing.{bytes, decimal, blanked, separated, numbers_line, word_line, refused_line, line_one, line_two, line_three, broken_lines, text_of, program_room, program_text}
use Rattle.spec_calls.specs.Judging.{Judgement, accepted, turned_away, word_fault, judge_of}

-- a record of kind k with the bytes 1 to 4
abbrev pub entry : ℕ → ℕ → ℕ → ℕ → ℕ → List ℕ → List ℕ
entry k a b c d rest = k ∷ a ∷ b ∷ c ∷ d ∷ 0 ∷ 0 ∷ 0 ∷ rest

-- sheet S: 0 on 1 to 1, 0 on 3 to 2, 1 on 2 to 0; finishing 2
unfoldable pub sheet_s : List ℕ
sheet_s = entry 2 0 1 1 0 (entry 2 0 3 2 0 (entry 2 1 2 0 0 (entry 3 2 0 0 0 [])))

-- 0 gives (procedure 1) 3; 1 gives nothing; 1 gives 1 (procedure 2); 2 gives 2 (procedure 1)
unfoldable pub plan_a : List ℕ → List ℕ
plan_a rest = entry 1 0 2 129 3 (entry 1 1 0 0 0 (entry 1 1 2 1 130 (entry 1 2 2 2 129 rest)))

-- and 2 gives (procedure 1)
unfoldable pub plan_b : List ℕ → List ℕ
plan_b rest = entry 1 0 2 129 3 (entry 1 1 0 0 0 (entry 1 1 2 1 130 (entry 1 2 1 129 0 (entry 1 2 2 2 129 rest))))

-- plan A with a remark before each index row: 2 gives 120 (procedure 3), and 3 gives what 2 gave
unfoldable pub plan_r : List ℕ → List ℕ
plan_r rest = entry 1 0 2 129 3 (entry 1 1 0 0 0 (entry 1 1 2 1 130 (entry 1 2 2 120 131 (entry 1 3 2 2 129 rest))))

-- only "0 gives nothing"
unfoldable pub lone : List ℕ → List ℕ
lone rest = entry 1 0 0 0 0 rest

-- what is printed, what judging a run answers, or what refuses a call: the number and the place
pub data Output : Type 0 where
  printed : List ℕ → Output
  judged : Judgement → Output
  refusal : ℕ → ℕ → Output

abbrev says : String → Output
says text = printed (bytes text)

-- of a check from a set of procedures with J rows and a budget of B joins, and a run buffer of `room` bytes
checked_by : ℕ → ℕ → List ℕ → ℕ → ℕ → Output
unfolding text_of broken_lines line_one line_two line_three refused_line word_line numbers_line separated blanked decimal write_of buffer_after word_of row_fault room_fault all_rows_fit row_fits body_fits pointer_fits symbol_len word_behind words_of words_from row_word body_word symbol_word pairs count check_of order_on journal_fault fault_in length_fault_in fault_from_in fault_at_in fault_by_in kind_known above_range_in stray_byte_in on_remark rises_from exceeds_in over_limit count_in rules_of transitions_of finals_of collect check passes one_pass walk consider decide added retire larger dropped has_row answer born pass_candidates body_candidates choices bare sole paired live_rows live live_of capped letter_relation is_remark moves is_final rejects compose identity table has some number subset bit members_below
checked_by starts room bs J B = printed (text_of bs (record { rows = J; budget = B; starts = starts }) room)

-- from procedure 0 alone
checked_in : ℕ → List ℕ → ℕ → ℕ → Output
unfolding checked_by
checked_in room bs J B = checked_by initial_alone room bs J B

-- with the check program's
checked : List ℕ → ℕ → ℕ → Output
unfolding checked_in
checked bs J B = checked_in program_room bs J B

program : List ℕ → Output
unfolding checked_in program_text
program bs = printed (program_text bs)

numbers : List ℕ → Output
unfolding separated blanked decimal
numbers ns = printed (separated ns)

-- what refuses the check
refused_by : Reply (Answer ℕ) → Output
refused_by (refused r) = refusal r.number r.place
refused_by (answered a) = refusal 0 0

refusing : List ℕ → ℕ → ℕ → Output
unfolding refused_by checked_in
refusing bs J B = refused_by (check_of bs (record { rows = J; budget = B; starts = initial_alone }))

judged_by : Reply Judgement → Output
judged_by (refused r) = refusal r.number r.place
judged_by (answered j) = judged j

judging : List ℕ → List ℕ → Output
unfolding judged_by judge_of word_fault fault_in length_fault_in fault_from_in fault_at_in fault_by_in kind_known above_range_in stray_byte_in on_remark rises_from exceeds_in over_limit count_in transitions_of finals_of collect rejected word_relation letter_relation is_remark moves is_final rejects compose identity table has some number bit
judging bs w = judged_by (judge_of bs w)

pub record Case : Type 0 where
  pub got : Output
  pub want : Output

abbrev case : Output → Output → Case
case a b = record { got = a; want = b }

pub table-P : List Case
unfolding plan_a plan_b lone sheet_s checked_in checked program numbers refusing judging
table-P =
    case (checked (plan_a sheet_s) 1024 1000000) (says "holds 12 4 4\n")
    ∷ case (checked (plan_b sheet_s) 1024 1000000) (says "broken 12 7 4\n6 0 2\n1 3\n")
    ∷ case (checked (plan_a sheet_s) 1024 11) (says "spent 11 4 4\n")
    ∷ case (checked (plan_a sheet_s) 1024 12) (says "holds 12 4 4\n")
    ∷ case (checked (plan_a sheet_s) 3 1000000) (says "full 7 3 3\n")
    ∷ case (checked (plan_a sheet_s) 4 1000000) (says "holds 12 4 4\n")
    ∷ case (checked [] 1024 0) (says "empty 0 0 1\n")
    ∷ case (checked (lone []) 1024 1000000) (says "broken 1 1 1\n0 16 0\n\n")
    ∷ case (checked (lone (entry 3 0 0 0 0 [])) 1024 1000000) (says "holds 2 1 2\n")
    ∷ case (judging sheet_s (1 ∷ 3 ∷ [])) (judged turned_away)
    ∷ case (judging sheet_s (1 ∷ 2 ∷ 3 ∷ [])) (judged accepted)
    ∷ case (checked (entry 1 0 1 191 0 []) 1024 1000000) (says "empty 0 0 1\n")
    ∷ case (checked (entry 1 0 1 192 0 []) 1024 1000000) (says "refused 4\n")
    ∷ case (refusing (entry 1 0 1 192 0 []) 1024 1000000) (refusal 4 0)
    ∷ case (checked (lone (lone [])) 1024 1000000) (says "refused 6\n")
    ∷ case (refusing (lone (lone [])) 1024 1000000) (refusal 6 1)
    ∷ case (checked (plan_a sheet_s) 0 1000000) (says "refused 8\n")
    ∷ case (program (plan_b sheet_s)) (says "broken 12 7 4\n6 0 2\n1 3\n")
    ∷ case (checked_in 2 (plan_b sheet_s) 1024 1000000) (says "broken 12 7 4\n6 0 2\n1 3\n")
    ∷ case (checked_in 1 (plan_b sheet_s) 1024 1000000) (says "broken 12 7 4\n6 0 2\nrefused 10\n")
    ∷ case (numbers (0 ∷ 9 ∷ 10 ∷ 191 ∷ 1000000 ∷ 18446744073709551615 ∷ [])) (says "0 9 10 191 1000000 18446744073709551615")
    ∷ []

pub cases : map (λ (c : Case). c.got) table-P ≡ map (λ (c : Case). c.want) table-P
unfolding table-P
cases = refl

-- ---- remarks

-- a move on 119, and then one on 120
unfoldable pub moves_r : List ℕ
moves_r = entry 2 0 119 1 0 (entry 2 0 120 1 0 [])

-- plan A with a remark between its steps holds. A remark alone has all sixteen pairs, counts in the length and is written out, and is accepted
-- where stage 0 finishes; 119 is a step, and has none. A move on a remark is refused with its record, and 128 is no code
pub table-remarks : List Case
unfolding plan_r sheet_s moves_r checked_in checked refusing judging
table-remarks =
    case (checked (plan_r sheet_s) 1024 1000000) (says "holds 18 5 5\n")
    ∷ case (checked (entry 1 0 1 120 0 []) 1024 1000000) (says "broken 1 1 1\n0 16 1\n120\n")
    ∷ case (checked (entry 1 0 2 120 127 (entry 3 0 0 0 0 [])) 1024 1000000) (says "holds 2 1 2\n")
    ∷ case (checked (entry 1 0 1 119 0 []) 1024 1000000) (says "broken 1 1 1\n0 0 1\n119\n")
    ∷ case (judging sheet_s (1 ∷ 120 ∷ 2 ∷ 127 ∷ 3 ∷ [])) (judged accepted)
    ∷ case (judging sheet_s (1 ∷ 119 ∷ 2 ∷ 3 ∷ [])) (judged turned_away)
    ∷ case (judging sheet_s (1 ∷ 120 ∷ 3 ∷ [])) (judged turned_away)
    ∷ case (judging sheet_s (120 ∷ 127 ∷ [])) (judged turned_away)
    ∷ case (judging (entry 3 0 0 0 0 []) (120 ∷ 127 ∷ [])) (judged accepted)
    ∷ case (judging sheet_s (128 ∷ [])) (refusal 11 0)
    ∷ case (checked moves_r 1024 1000000) (says "refused 12\n")
    ∷ case (refusing moves_r 1024 1000000) (refusal 12 1)
    ∷ case (judging moves_r (119 ∷ [])) (refusal 12 1)
    ∷ case (refusing (entry 2 1 1 1 0 (entry 2 0 120 1 0 [])) 1024 1000000) (refusal 12 1)
    ∷ []

pub remark-cases : map (λ (c : Case). c.got) table-remarks ≡ map (λ (c : Case). c.want) table-remarks
unfolding table-remarks
remark-cases = refl

-- ---- plans without runs

-- 0 gives 1 (procedure 0), and 1 gives nothing: procedure 0 never ends, and procedure 1 does
unfoldable pub endless : List ℕ → List ℕ
endless rest = entry 1 0 2 1 128 (entry 1 1 0 0 0 rest)

-- plan A without the rule that begins it, and so without a rule of procedure 0
unfoldable pub headless : List ℕ → List ℕ
headless rest = entry 1 1 0 0 0 (entry 1 1 2 1 130 (entry 1 2 2 2 129 rest))

-- the other procedures' rows are used and counted; one finishing stage more or fewer changes nothing. Full and spent come first. A run of no
-- steps is a run. A row of procedure 0 that has retired was covered by one that is live
pub table_empty : List Case
unfolding plan_a endless headless lone sheet_s checked_in checked
table_empty =
    case (checked [] 1 0) (says "empty 0 0 1\n")
    ∷ case (checked sheet_s 1024 1000000) (says "empty 0 0 1\n")
    ∷ case (checked (endless sheet_s) 1024 1000000) (says "empty 2 1 2\n")
    ∷ case (checked (endless (entry 3 0 0 0 0 [])) 1024 1000000) (says "empty 2 1 2\n")
    ∷ case (checked (endless sheet_s) 1 2) (says "empty 2 1 2\n")
    ∷ case (checked (endless sheet_s) 1024 1) (says "spent 1 1 2\n")
    ∷ case (checked (headless sheet_s) 1024 1000000) (says "empty 9 3 4\n")
    ∷ case (checked (headless sheet_s) 3 9) (says "empty 9 3 4\n")
    ∷ case (checked (headless sheet_s) 2 9) (says "full 5 2 3\n")
    ∷ case (checked (headless sheet_s) 3 8) (says "spent 8 3 4\n")
    ∷ case (checked (entry 1 0 2 129 3 sheet_s) 1024 1000000) (says "empty 0 0 1\n")
    ∷ case (checked (entry 1 1 0 0 0 []) 1024 1000000) (says "empty 2 1 2\n")
    ∷ case (checked (lone (entry 1 0 2 1 128 (entry 3 0 0 0 0 []))) 1024 1000000) (says "broken 3 2 2\n1 0 1\n1\n")
    ∷ case (checked (lone (entry 1 0 1 5 0 (entry 2 0 5 0 0 (entry 3 0 0 0 0 [])))) 1024 1000000) (says "holds 4 2 2\n")
    ∷ []

pub empty-cases : map (λ (c : Case). c.got) table_empty ≡ map (λ (c : Case). c.want) table_empty
unfolding table_empty
empty-cases = refl

-- ---- sets of starting procedures

-- of a check from a set of procedures
from : ℕ → List ℕ → ℕ → ℕ → Output
unfolding checked_by
from starts bs J B = checked_by starts program_room bs J B

-- the procedure whose run is shown
head_of : Reply (Answer ℕ) → List ℕ
head_of (refused r) = []
head_of (answered a) = shown_head a ∷ []

shown_from : ℕ → List ℕ → Output
unfolding head_of numbers checked_by
shown_from starts bs = numbers (head_of (check_of bs (record { rows = 1024; budget = 1000000; starts = starts })))

-- the set of procedure 63 alone, and all 64
abbrev last-alone : ℕ
last-alone = 9223372036854775808

abbrev every_one : ℕ
every_one = 18446744073709551615

-- procedure 63 gives the step c; 0 on 1 to 1; finishing 1
unfoldable pub plan_last : ℕ → List ℕ
plan_last c = entry 1 63 1 c 0 (entry 2 0 1 1 0 (entry 3 1 0 0 0 []))

-- procedure 0 alone is table-P. Of plan A procedure 1 has the run of no steps and procedure 2 the run "2", which the sheet turns away; the first
-- such row of any member is shown. Procedure 5 has no rule, and so no run: full, spent and broken come before empty. With no member nothing breaks
-- and nothing is empty, and the counts are those of the whole check
pub table-starts : List Case
unfolding plan_a plan_last lone sheet_s from numbers shown_from
table-starts =
    case (from 2 (plan_a sheet_s) 1024 1000000) (says "broken 1 1 1\n0 16 0\n\n")
    ∷ case (from 5 (plan_a sheet_s) 1024 1000000) (says "broken 4 3 2\n2 1 1\n2\n")
    ∷ case (shown_from 5 (plan_a sheet_s)) (numbers (2 ∷ []))
    ∷ case (shown_from every_one (plan_a sheet_s)) (numbers (1 ∷ []))
    ∷ case (from 33 (plan_a sheet_s) 1024 1000000) (says "empty 12 4 4\n")
    ∷ case (from 33 (plan_a sheet_s) 3 1000000) (says "full 7 3 3\n")
    ∷ case (from 33 (plan_a sheet_s) 1024 11) (says "spent 11 4 4\n")
    ∷ case (from 33 (lone []) 1024 1000000) (says "broken 1 1 1\n0 16 0\n\n")
    ∷ case (from 0 (plan_a sheet_s) 1024 1000000) (says "holds 12 4 4\n")
    ∷ case (from 0 (lone []) 1024 1000000) (says "holds 2 1 2\n")
    ∷ case (from 0 (lone []) 1024 1) (says "spent 1 1 2\n")
    ∷ case (from 0 [] 1 0) (says "holds 0 0 1\n")
    ∷ case (from last-alone (plan_last 1) 1024 1000000) (says "holds 2 1 2\n")
    ∷ case (from last-alone (plan_last 2) 1024 1000000) (says "broken 1 1 1\n0 0 1\n2\n")
    ∷ case (shown_from last-alone (plan_last 2)) (numbers (63 ∷ []))
    ∷ case (from 1 (plan_last 2) 1024 1000000) (says "empty 2 1 2\n")
    ∷ []

pub start-cases : map (λ (c : Case). c.got) table-starts ≡ map (λ (c : Case). c.want) table-starts
unfolding table-starts
start-cases = refl

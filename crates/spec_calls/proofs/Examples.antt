-- The reader's step, the stretch and run writing, computed on the files of the P cases. Assumes nothing.
use Rattle.std.specs.Prelude.{◌≡◌, refl, List, [], ◌∷◌, map, ℕ}
use Rattle.relation.specs.Digits.{bit, number, some, subset}
use Rattle.relation.specs.Relation.{has, table, identity, compose, rejects}
use Rattle.spec_language.specs.Remarks.{is_remark}
use Rattle.spec_language.specs.WordRelation.{moves, letter_relation, is_final}
use Rattle.spec_file.specs.Records.{rule_record, transition_record, final_record, count_in}
use Rattle.spec_file.specs.Refusals.{refuse, kind_known, on_remark, rises_from, over_limit, above_range_in, exceeds_in, fault_at_in, fault_by_in, fault_from_in, fault_in, length_fault_in, stray_byte_in}
use Rattle.spec_file.specs.Reading.{ReaderStep, gives, refuses, ended, step_from, step_at, stretch}
use Rattle.spec_file.specs.Views.{collect, rules_of, transitions_of, finals_of}
use Rattle.spec_order.specs.Journal.{Row, capped, live, live_of}
use Rattle.spec_order.specs.Candidates.{live_rows, sole, paired, bare, choices, body_candidates, pass_candidates}
use Rattle.spec_order.specs.Order.{born, answer, dropped, larger, retire, added, decide, consider, walk, has_row, one_pass, passes, check}
use Rattle.spec_order.specs.Behind.{symbol_word, body_word, row_word, words_from, words_of, word_behind}
use Rattle.spec_order.specs.Fitting.{pointer_fits, symbol_len, body_fits, row_fits, all_rows_fit}
use Rattle.spec_calls.specs.Base.{members_below}
use Rattle.spec_calls.specs.Replies.{Reply, refused, answered}
use Rattle.spec_calls.specs.Checking.{journal_fault, order_on}
use Rattle.spec_calls.specs.Printing.{program_settings}
use Rattle.spec_calls.specs.Writing.{row_fault, room_fault, word_of, write_of, buffer_after}
use Rattle.spec_calls.proofs.Cases.{entry, sheet_s, plan_a, plan_b, lone, moves_r}

pub step : List ℕ → ℕ → ReaderStep
unfolding step_at step_from length_fault_in fault_by_in kind_known above_range_in stray_byte_in on_remark rises_from exceeds_in over_limit count_in
step bs i = step_at bs i

-- the first and the last record of plan A with sheet S, the place after it, a far place; a length that is no multiple of 8; two equal
-- records, and two equal moves on a remark: 12 before 6, which as a whole file is refused at the first of them
pub steps : (step (plan_a sheet_s) 0 ≡ gives (rule_record 0 2 129 3) 1)
    × (step (plan_a sheet_s) 5 ≡ gives (transition_record 0 3 2) 6)
    × (step (plan_a sheet_s) 7 ≡ gives (final_record 2) 8)
    × (step (plan_a sheet_s) 8 ≡ ended)
    × (step (plan_a sheet_s) 18446744073709551615 ≡ ended)
    × (step (1 ∷ []) 3 ≡ refuses (refuse 1 0))
    × (step (lone (lone [])) 1 ≡ refuses (refuse 6 1))
    × (step (entry 2 0 120 1 0 (entry 2 0 120 1 0 [])) 1 ≡ refuses (refuse 12 1))
unfolding step plan_a sheet_s lone
steps = (refl, refl, refl, refl, refl, refl, refl, refl)

-- the moves of sheet S, and none of a refused file
pub stretches : (stretch (plan_a sheet_s) ≡ entry 2 0 1 1 0 (entry 2 0 3 2 0 (entry 2 1 2 0 0 []))) × (stretch (lone (lone [])) ≡ []) × (stretch moves_r ≡ [])
unfolding stretch fault_in length_fault_in fault_from_in fault_at_in fault_by_in kind_known above_range_in stray_byte_in on_remark rises_from exceeds_in over_limit count_in plan_a sheet_s lone moves_r
stretches = (refl, refl, refl)

-- the journal of plan B's check
pub journal_b : List (Row ℕ)
unfolding plan_b sheet_s order_on rules_of transitions_of finals_of collect check passes one_pass walk consider decide added retire larger dropped has_row answer born pass_candidates body_candidates choices bare sole paired live_rows live live_of capped letter_relation is_remark moves is_final rejects compose identity table has some number subset bit members_below
journal_b = (order_on (plan_b sheet_s) program_settings).journal

pub write_on : List ℕ → List (Row ℕ) → ℕ → ℕ → ℕ → Reply ℕ
unfolding write_of word_of row_fault room_fault journal_fault fault_in length_fault_in fault_from_in fault_at_in fault_by_in kind_known above_range_in stray_byte_in on_remark rises_from exceeds_in over_limit count_in rules_of transitions_of collect all_rows_fit row_fits body_fits pointer_fits symbol_len capped word_behind words_of words_from row_word body_word symbol_word
write_on bs rows used i room = write_of bs rows used i room

pub write : List (Row ℕ) → ℕ → ℕ → ℕ → Reply ℕ
unfolding write_on plan_b sheet_s
write rows used i room = write_on (plan_b sheet_s) rows used i room

pub writes :
    -- the shown run of plan B, also where the buffer has just its bytes
    (write journal_b 7 6 4 ≡ answered 2)
    × (write journal_b 7 6 2 ≡ answered 2)
    -- 10 for a shorter one
    × (write journal_b 7 6 1 ≡ refused (refuse 10 0))
    -- 9 past the used rows, and for more of them than the journal has
    × (write journal_b 6 6 4 ≡ refused (refuse 9 0))
    × (write journal_b 8 6 4 ≡ refused (refuse 9 0))
    -- 8 for no row, before 9
    × (write [] 0 0 4 ≡ refused (refuse 8 0))
unfolding write journal_b
writes = (refl, refl, refl, refl, refl, refl)

-- the run, and then the old bytes; the old bytes whole on a refusal
pub buffers : (buffer_after (plan_b sheet_s) journal_b 7 6 (9 ∷ 9 ∷ 9 ∷ []) ≡ 1 ∷ 3 ∷ 9 ∷ []) × (buffer_after (plan_b sheet_s) journal_b 7 6 (9 ∷ []) ≡ 9 ∷ [])
unfolding buffer_after write journal_b
buffers = (refl, refl)

-- ---- rows of plan B, without their effects

-- procedure, rule, left, right, length, birth pass, retirement pass
abbrev pub row : ℕ → ℕ → ℕ → ℕ → ℕ → ℕ → ℕ → Row ℕ
row x r i j n p q = record { head = x; rule = r; effect = 0; left = i; right = j; len = n; birth = p; retired = q }

abbrev pub bare-row : Row ℕ → Row ℕ
bare-row r = row r.head r.rule r.left r.right r.len r.birth r.retired

-- the runs behind them: nothing; 3; nothing; 2; 1; 1 2; 1 3
pub rows_b : map bare-row journal_b
    ≡ row 1 1 65535 65535 0 1 3
    ∷ row 0 0 0 65535 1 2 4
    ∷ row 2 3 0 65535 0 2 0
    ∷ row 2 4 65535 0 1 2 0
    ∷ row 1 2 65535 2 1 3 0
    ∷ row 1 2 65535 3 2 3 0
    ∷ row 0 0 4 65535 2 4 0
    ∷ []
unfolding journal_b
rows_b = refl

-- ---- 9 for a row that does not fit, whatever its effect and its passes

-- procedure, rule, left, right, length
abbrev pub entered : ℕ → ℕ → ℕ → ℕ → ℕ → Row ℕ
entered x r i j n = row x r i j n 0 0

-- 1 gives nothing; 2 gives (procedure 1), by row 0; 1 gives 1 (procedure 2), by row 1; and then a row
abbrev pub four : Row ℕ → List (Row ℕ)
four r = entered 1 1 65535 65535 0 ∷ entered 2 3 0 65535 0 ∷ entered 1 2 65535 1 1 ∷ r ∷ []

-- that row fits, and its run has n steps
abbrev pub fits : Row ℕ → ℕ → Type 0
fits r n = write (four r) 4 3 9 ≡ answered n

abbrev pub unfit : Row ℕ → Type 0
unfit r = write (four r) 4 3 9 ≡ refused (refuse 9 0)

-- one that fits for each rule
pub fitting-rows :
    -- 0 gives (procedure 1) 3
    fits (entered 0 0 2 65535 2) 2
    -- 1 gives nothing
    × fits (entered 1 1 65535 65535 0) 0
    -- 1 gives 1 (procedure 2)
    × fits (entered 1 2 65535 1 1) 1
    -- 2 gives (procedure 1)
    × fits (entered 2 3 2 65535 1) 1
    -- 2 gives 2 (procedure 1)
    × fits (entered 2 4 65535 2 2) 2
unfolding write
fitting-rows = (refl, refl, refl, refl, refl)

pub unfit-rules :
    -- another procedure's rule
    unfit (entered 1 0 2 65535 2)
    -- one that is not in the file
    × unfit (entered 0 5 65535 65535 0)
unfolding write
unfit-rules = (refl, refl)

-- a pointer that is to be 65,535, and is not
pub unfit-absent :
    -- of an empty body
    unfit (entered 1 1 0 65535 0)
    × unfit (entered 1 1 65535 0 0)
    -- of a step code, first and second
    × unfit (entered 1 2 0 1 1)
    × unfit (entered 0 0 2 0 2)
    -- the second one of a sole symbol
    × unfit (entered 2 3 2 0 1)
unfolding write
unfit-absent = (refl, refl, refl, refl, refl)

-- the pointer of a procedure symbol that stands alone, first and second
pub unfit-pointers :
    -- to a row of another procedure
    unfit (entered 2 3 1 65535 0)
    × unfit (entered 0 0 1 65535 1)
    × unfit (entered 2 4 65535 1 1)
    -- 65,535
    × unfit (entered 2 3 65535 65535 0)
    × unfit (entered 0 0 65535 65535 1)
    × unfit (entered 2 4 65535 65535 1)
unfolding write
unfit-pointers = (refl, refl, refl, refl, refl, refl)

-- a length that is not the sum
pub unfit-lengths :
    -- of two symbols
    unfit (entered 0 0 2 65535 1)
    × unfit (entered 0 0 2 65535 3)
    -- of one
    × unfit (entered 2 3 2 65535 0)
    × unfit (entered 2 3 2 65535 2)
    -- of none
    × unfit (entered 1 1 65535 65535 1)
unfolding write
unfit-lengths = (refl, refl, refl, refl, refl)

-- a pointer that is not to a lower row
pub unfit-older :
    -- to a younger one of the procedure
    (write (entered 1 1 65535 65535 0 ∷ entered 1 2 65535 2 1 ∷ entered 2 3 0 65535 0 ∷ []) 3 1 9 ≡ refused (refuse 9 0))
    -- to the row itself, in the file "0 gives (procedure 0)"
    × (write_on (entry 1 0 1 128 0 []) (entered 0 0 0 65535 0 ∷ []) 1 0 9 ≡ refused (refuse 9 0))
unfolding write write_on
unfit-older = (refl, refl)

pub unfit-others :
    -- an older row that does not fit refuses, though nothing points to it
    (write (entered 9 1 65535 65535 0 ∷ entered 1 1 65535 65535 0 ∷ []) 2 1 9 ≡ refused (refuse 9 0))
    -- a younger one does not
    × (write (entered 1 1 65535 65535 0 ∷ entered 9 1 65535 65535 0 ∷ []) 2 0 9 ≡ answered 0)
    -- 9 comes before 10
    × (write (four (entered 0 0 2 0 2)) 4 3 0 ≡ refused (refuse 9 0))
unfolding write
unfit-others = (refl, refl, refl)

-- Numbers 1 to 15 at their edges, computed or stated of every word: limits, the order of the tests, bytes that are used and bytes that are not.
-- They settle what neither a theorem nor a P case says. Assumes nothing.
use Rattle.std.specs.Prelude.{◌≡◌, refl, true, false, List, [], ◌∷◌, ◌++◌, ℕ, zero, suc, ◌+◌, ◌%◌, ◌≤◌, ◌<◌, leb, ltb, length, take, replicate}
use Rattle.std.proofs.Common.{arith, eq-eqb, lt-ltb, le-ltb, le-leb}
use Rattle.std.proofs.lemmas.Bool.{lt-leb}
use Rattle.spec_basics.specs.Elements.{any}
use Rattle.spec_basics.specs.Tests.{or_right}
use Rattle.spec_file.specs.Records.{record_count, record_at, rule_record, record_of, count_in}
use Rattle.spec_file.specs.Refusals.{Refusal, refuse, kind_known, on_remark, rises_from, rises, over_limit, fault_at, fault, above_range_in, exceeds_in, fault_at_in, fault_by_in, fault_from_in, fault_in, length_fault_in, stray_byte_in}
use Rattle.spec_file.specs.Reading.{ReaderStep, gives, refuses, unless_refused, step_from, step_at}
use Rattle.spec_file.specs.Views.{collect, transitions_of, finals_of}
use Rattle.spec_calls.specs.Base.{initial_alone}
use Rattle.spec_calls.specs.Replies.{refused, answered}
use Rattle.spec_calls.specs.Checking.{journal_fault, check_of}
use Rattle.spec_calls.specs.Judging.{word_fault, judge_of}
use Rattle.spec_calls.specs.Recognizing.{row_start, cell, stretch_cells, run_fault, table_fault, recognize_of}
use Rattle.spec_calls.specs.Gaps.{moves_on}
use Rattle.spec_calls.specs.Listing.{takes_state, uses_letter, gap_at, state_gaps, gaps_in, gaps_of, list_fault, list_of, over, list_after}
use Rattle.spec_calls.specs.Writing.{room_fault}
use Rattle.spec_calls.proofs.Cases.{entry, lone}

-- ---- 1 to 7 and 12, of a file

pub refusal_now : List ℕ → Refusal
unfolding fault_in length_fault_in fault_from_in fault_at_in fault_by_in kind_known above_range_in stray_byte_in on_remark rises_from exceeds_in over_limit count_in
refusal_now bs = fault bs

-- the rule "0 gives nothing" with its byte 7 set
abbrev pub stray : List ℕ → List ℕ
stray rest = 1 ∷ 0 ∷ 0 ∷ 0 ∷ 0 ∷ 0 ∷ 0 ∷ 1 ∷ rest

-- 1 and 2
pub length-first :
    -- 1,297 records and a byte: 1 before 2
    (refusal_now (replicate 10377 0) ≡ refuse 1 0)
    -- 1,297 records: 2 before 3
    × (refusal_now (replicate 10376 0) ≡ refuse 2 0)
    -- 1,296 records
    × (refusal_now (replicate 10368 0) ≡ refuse 3 0)
unfolding refusal_now
length-first = (refl, refl, refl)

-- 4, of a rule
pub above :
    -- procedures are 0 to 63
    (refusal_now (entry 1 63 0 0 0 []) ≡ refuse 0 0)
    × (refusal_now (entry 1 64 0 0 0 []) ≡ refuse 4 0)
    -- body lengths are 0 to 2
    × (refusal_now (entry 1 0 3 0 0 []) ≡ refuse 4 0)
    -- symbols are 0 to 191
    × (refusal_now (entry 1 0 2 191 191 []) ≡ refuse 0 0)
    × (refusal_now (entry 1 0 2 192 0 []) ≡ refuse 4 0)
    × (refusal_now (entry 1 0 2 0 192 []) ≡ refuse 4 0)
unfolding refusal_now
above = (refl, refl, refl, refl, refl, refl)

-- 4, of the sheet
pub above-sheet :
    -- stages of a move are 0 to 15, step codes 0 to 127, of which the last are remarks
    (refusal_now (entry 2 15 119 15 0 []) ≡ refuse 0 0)
    × (refusal_now (entry 2 16 0 0 0 []) ≡ refuse 4 0)
    × (refusal_now (entry 2 0 128 0 0 []) ≡ refuse 4 0)
    × (refusal_now (entry 2 0 0 16 0 []) ≡ refuse 4 0)
    -- and so are finishing stages
    × (refusal_now (entry 3 15 0 0 0 []) ≡ refuse 0 0)
    × (refusal_now (entry 3 16 0 0 0 []) ≡ refuse 4 0)
unfolding refusal_now
above-sheet = (refl, refl, refl, refl, refl, refl)

-- 5
pub unused :
    -- byte 7 is never used
    (refusal_now (stray []) ≡ refuse 5 0)
    -- byte 3 of an empty body; byte 4 of a body of one symbol, which is not 4's though it is no symbol
    × (refusal_now (entry 1 0 0 5 0 []) ≡ refuse 5 0)
    × (refusal_now (entry 1 0 1 5 192 []) ≡ refuse 5 0)
    -- byte 4 of a move; byte 2 of a finishing stage
    × (refusal_now (entry 2 0 1 1 9 []) ≡ refuse 5 0)
    × (refusal_now (entry 3 0 1 0 0 []) ≡ refuse 5 0)
unfolding refusal_now
unused = (refl, refl, refl, refl, refl)

-- 12: a move is on a code up to 119, and a rule uses any
pub on-remarks :
    (refusal_now (entry 2 0 120 0 0 []) ≡ refuse 12 0)
    × (refusal_now (entry 2 0 127 0 0 []) ≡ refuse 12 0)
    × (refusal_now (entry 1 0 2 120 127 []) ≡ refuse 0 0)
    -- byte 2 of a rule or of a finishing stage is no code
    × (refusal_now (entry 1 0 120 0 0 []) ≡ refuse 4 0)
    × (refusal_now (entry 3 0 120 0 0 []) ≡ refuse 5 0)
unfolding refusal_now
on-remarks = (refl, refl, refl, refl, refl)

-- 3: kinds are 1 to 3
pub kinds :
    (refusal_now (entry 0 0 0 0 0 []) ≡ refuse 3 0)
    × (refusal_now (entry 4 0 0 0 0 []) ≡ refuse 3 0)
unfolding refusal_now
kinds = (refl, refl)

-- which number, and of which record
pub tests-in-order :
    -- 3 before 6: the second record's kind is unknown, and it does not exceed the first
    (refusal_now (lone (entry 0 0 0 0 0 [])) ≡ refuse 3 1)
    -- 4 before 5
    × (refusal_now (entry 1 64 0 5 0 []) ≡ refuse 4 0)
    -- 4 before 6
    × (refusal_now (entry 2 0 0 0 0 (entry 1 64 0 0 0 [])) ≡ refuse 4 1)
    -- 5 before 6
    × (refusal_now (entry 1 5 0 0 0 (stray [])) ≡ refuse 5 1)
    -- 5 of record 1 before 3 of record 2
    × (refusal_now (lone (stray (entry 0 0 0 0 0 []))) ≡ refuse 5 1)
    -- 12 after 4 and 5
    × (refusal_now (entry 2 16 120 0 0 []) ≡ refuse 4 0)
    × (refusal_now (entry 2 0 120 0 9 []) ≡ refuse 5 0)
    -- and before 6
    × (refusal_now (entry 2 1 1 1 0 (entry 2 0 120 1 0 [])) ≡ refuse 12 1)
unfolding refusal_now lone
tests-in-order = (refl, refl, refl, refl, refl, refl, refl, refl)

-- 6 compares all eight bytes: these differ in byte 7 only
pub eight-bytes :
    (rises (lone []) (stray []) ≡ true)
    × (rises (stray []) (lone []) ≡ false)
    × (rises (stray []) (stray []) ≡ false)
unfolding rises_from lone
eight-bytes = (refl, refl, refl)

-- 7, after the given numbers of rules and moves
pub limits :
    -- of the 257th rule
    (over_limit (lone []) 255 0 ≡ false)
    × (over_limit (lone []) 256 0 ≡ true)
    -- of the 1,025th move
    × (over_limit (entry 2 0 0 0 0 []) 0 1023 ≡ false)
    × (over_limit (entry 2 0 0 0 0 []) 0 1024 ≡ true)
    -- never of a finishing stage
    × (over_limit (entry 3 0 0 0 0 []) 256 1024 ≡ false)
unfolding over_limit lone
limits = (refl, refl, refl, refl, refl)

-- ---- a step of the reader counts the records before its place by their kind, and does not check them: here they are all alike

pub copies : ℕ → List ℕ → List ℕ → List ℕ
copies zero r rest = rest
copies (suc n) r rest = r ++ copies n r rest

pub step_in : List ℕ → ℕ → ReaderStep
unfolding step_at step_from length_fault_in fault_by_in kind_known above_range_in stray_byte_in on_remark rises_from exceeds_in over_limit count_in
step_in bs i = step_at bs i

pub counted-rules :
    -- a rule after 255 rules
    (step_in (copies 255 (lone []) (entry 1 1 0 0 0 [])) 255 ≡ gives (rule_record 1 0 0 0) 256)
    -- and after 256
    × (step_in (copies 256 (lone []) (entry 1 1 0 0 0 [])) 256 ≡ refuses (refuse 7 256))
    -- 6 before 7: the 257th rule is the one before it again
    × (step_in (copies 257 (lone []) []) 256 ≡ refuses (refuse 6 256))
unfolding step_in copies lone
counted-rules = (refl, refl, refl)

-- and at any record its number is the one that the whole file's walk has for that record, moves before it counted as well
pub step-checks : (bs : List ℕ) (i : ℕ) → length bs % 8 ≡ 0 → record_count bs ≤ 1296 → i < record_count bs → step_at bs i ≡ unless_refused (refuse (fault_at bs i) i) (gives (record_of (record_at bs i)) (i + 1))
unfolding step_at step_from length_fault_in fault_at_in
step-checks bs i whole few l = rw (eq-eqb (length bs % 8) 0 whole, le-ltb 1296 (record_count bs) few, lt-leb (record_count bs) i l)

-- ---- 8, 10 and 11

-- 8: a journal has 1 to 4,096 rows
pub journals : (journal_fault 0 ≡ 8) × (journal_fault 1 ≡ 0) × (journal_fault 4096 ≡ 0) × (journal_fault 4097 ≡ 8)
unfolding journal_fault
journals = (refl, refl, refl, refl)

-- 10, of every word
pub rooms : (w : List ℕ) (room : ℕ)
    -- it has 65,535 steps or more
    → (65535 ≤ length w → room_fault w room ≡ 10)
    -- or more than the buffer has bytes
    × (room < length w → room_fault w room ≡ 10)
    -- and else it is written
    × (length w ≤ 65534 → length w ≤ room → room_fault w room ≡ 0)
unfolding room_fault
rooms w room =
    let long = leb 65535 (length w) in
    (λ l. rw (le-leb 65535 (length w) l), λ l. rw (or_right long (ltb room (length w)) (lt-ltb room (length w) l)), λ l m. rw (lt-leb 65535 (length w) (omega arith), le-ltb room (length w) m))

-- 11, of every word
pub sample_words : (w : List ℕ)
    -- it has more than 65,534 steps
    → (65535 ≤ length w → word_fault w ≡ 11)
    -- and else it is judged, where its letters are step codes
    × (length w ≤ 65534 → any (λ c. leb 128 c) w ≡ false → word_fault w ≡ 0)
unfolding word_fault
sample_words w = (λ l. rw (lt-ltb 65534 (length w) l), λ l e. rw (le-ltb 65534 (length w) l, e))

-- 11: step codes are 0 to 127, wherever they stand
pub letters : (word_fault (127 ∷ []) ≡ 0) × (word_fault (128 ∷ []) ≡ 11) × (word_fault (0 ∷ 128 ∷ []) ≡ 11)
unfolding word_fault
letters = (refl, refl, refl)

-- the file is tested before 8 and 11
pub file-first : (check_of (1 ∷ []) (record { rows = 0; budget = 0; starts = initial_alone }) ≡ refused (refuse 1 0)) × (judge_of (1 ∷ []) (128 ∷ []) ≡ refused (refuse 1 0))
unfolding check_of judge_of journal_fault word_fault refusal_now fault_in length_fault_in
file-first = (refl, refl)

-- ---- C-12

-- the cells of the table: rising i, then j, one for each stretch
pub cells-in-order :
    (cell 0 0 ≡ 0)
    -- the whole of a run of 64 steps
    × (cell 0 64 ≡ 64)
    -- then the stretches from step 1 on
    × (cell 1 1 ≡ 65)
    × (cell 2 3 ≡ 130)
    -- the empty stretch after 64 steps is the last
    × (cell 64 64 ≡ 2144)
    × (row_start 65 ≡ stretch_cells)
unfolding row_start
cells-in-order = (refl, refl, refl, refl, refl, refl)

-- 13 and 14 at their edges
pub run-and-table :
    (run_fault (replicate 64 0) ≡ 0)
    × (run_fault (replicate 65 0) ≡ 13)
    × (table_fault 2144 ≡ 14)
    × (table_fault 2145 ≡ 0)
    × (table_fault 2146 ≡ 14)
unfolding run_fault table_fault
run-and-table = (refl, refl, refl, refl, refl)

-- the file before 11, 11 before 13, 13 before 14
pub recognize-order :
    (recognize_of (1 ∷ []) (replicate 65 128) 0 [] ≡ refused (refuse 1 0))
    × (recognize_of [] (replicate 65 128) 0 [] ≡ refused (refuse 11 0))
    × (recognize_of [] (replicate 65 127) 0 [] ≡ refused (refuse 13 0))
    × (recognize_of [] (replicate 64 127) 0 [] ≡ refused (refuse 14 0))
unfolding recognize_of run_fault table_fault word_fault fault_in length_fault_in fault_from_in
recognize-order = (refl, refl, refl, refl)

-- ---- C-16

-- moves 0 on 5 to 0 and to 1; finishing 3
abbrev pub doubled : List ℕ
doubled = entry 2 0 5 0 0 (entry 2 0 5 1 0 (entry 3 3 0 0 0 []))

-- a move 15 on 119 to 15
abbrev pub far : List ℕ
far = entry 2 15 119 15 0 []

-- the double at stage 0, a gap at stage 1, to which a move leads, and one at stage 3, which is finishing; a gap at stage 0, which no record
-- names; each time then the old bytes
pub lists-of-two :
    (take 10 (list_after doubled (replicate 5760 9)) ≡ 0 ∷ 5 ∷ 2 ∷ 1 ∷ 5 ∷ 0 ∷ 3 ∷ 5 ∷ 0 ∷ 9 ∷ [])
    × (take 4 (list_after far (replicate 5760 9)) ≡ 0 ∷ 119 ∷ 0 ∷ 9 ∷ [])
unfolding list_after list_of list_fault over gaps_of gaps_in state_gaps gap_at takes_state uses_letter moves_on transitions_of finals_of collect fault_in length_fault_in fault_from_in fault_at_in fault_by_in kind_known above_range_in stray_byte_in on_remark rises_from exceeds_in over_limit count_in
lists-of-two = (refl, refl)

-- 15 at its edge
pub list-rooms : (list_fault 5759 ≡ 15) × (list_fault 5760 ≡ 0) × (list_fault 5761 ≡ 0)
unfolding list_fault
list-rooms = (refl, refl, refl)

-- the file before 15, which is tested also where the list is empty
pub list-order :
    (list_of (1 ∷ []) 0 ≡ refused (refuse 1 0))
    × (list_of [] 5759 ≡ refused (refuse 15 0))
    × (list_of [] 5760 ≡ answered 0)
unfolding list_of list_fault gaps_of gaps_in state_gaps gap_at takes_state uses_letter moves_on transitions_of finals_of collect fault_in length_fault_in fault_from_in
list-order = (refl, refl, refl)

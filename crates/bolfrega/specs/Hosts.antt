-- What a host in C or Rust may conclude from what a call gave it: the number, the details and the buffer. HostTruth.antt proves each of these
-- records of every call that met its contract, for every file, every number of rows and every budget. Definitions only. Assumes nothing.
use Rattle.std.specs.Prelude.{◌≡◌, ◌↔◌, ◌⊎◌, List, [], ◌∷◌, ℕ, suc, ◌+◌, ◌≤◌, ◌<◌, get_or, take, drop}
use Rattle.std.proofs.Math.ListN.{length}
use Rattle.spec_basics.specs.Elements.{In}
use Rattle.relation.specs.Relation.{states, pairs}
use Rattle.spec_language.specs.Spelling.{DerivesWithin}
use Rattle.spec_language.specs.Automaton.{Accepts, TurnsAway}
use Rattle.spec_language.specs.WordRelation.{word_relation}
use Rattle.spec_file.specs.Refusals.{Refusal, first_of, record_numbers, file_numbers, fault}
use Rattle.spec_file.specs.Views.{rules_of, productions_of, automaton_of}
use Rattle.spec_order.specs.Stopping.{Stops}
use Rattle.spec_order.specs.Journal.{absent, capped}
use Rattle.spec_order.specs.Order.{Answer, Verdict, full, spent}
use Rattle.spec_calls.specs.Checking.{Settings, journal_limit, algebra_over, check_of, shown, shown_head}
use Rattle.spec_calls.specs.DemandThree.{Member, Derivable, SomeFrom, NoneFrom, Counterexample, AllAccepted, joins_bound, Extends}
use Rattle.spec_calls.specs.Judging.{word_fault}
use Rattle.spec_calls.specs.Recognizing.{TableShows, recognize_refusals}
use Rattle.spec_calls.specs.Listing.{list_refusals, ListShows}
use Rattle.spec_unfold.specs.Calls.{widen_refusals, narrow_refusals, unfold_refusals}
use Rattle.spec_unfold.specs.MovingMeans.{WidenShows, NarrowShows}
use Rattle.spec_unfold.specs.Unfolding.{least_for}
use Rattle.spec_unfold.specs.UnfoldingMeans.{WideVerdict, UnfoldShows}
use Rattle.spec_calls.specs.Replies.{answered}
use Rattle.spec_calls.specs.Writing.{long_word}
use Rattle.spec_calls.specs.Codes.{first_answer_code, holds_code, broken_code, full_code, spent_code, empty_code}
use Rattle.bolfrega.specs.Codes.{accepted_code, turned_away_code, derived_code, not_derived_code, listed_code, converted_code}
use Rattle.bolfrega.specs.Clauses.{Judges, ChecksZeros, ChecksFrom}

-- ---- what is refused

-- nothing refuses the file; one of the numbers 1 to 7 or 12 does
abbrev pub FilePasses : List ℕ → Type 0
FilePasses bs = (fault bs).number ≡ 0

abbrev pub FileRefused : List ℕ → Type 0
FileRefused bs = FilePasses bs → ⊥

-- 8: no row, or more than 4,096
abbrev pub RowsRefused : ℕ → Type 0
RowsRefused J = (J ≡ 0) ⊎ (journal_limit < J)

-- ---- judging: the number r and the record i that bolfrega_judge gave for the run w

pub record JudgeTells (bs w : List ℕ) (r i : ℕ) : Type 0 where
  -- below 100 the call was refused: the file's refusal, or else 11
  pub file-refused : FileRefused bs → (r ≡ (fault bs).number) × (i ≡ (fault bs).place)
  pub run-refused : FilePasses bs → (r < first_answer_code) ↔ (word_fault w ≡ 11)
  pub run-number : FilePasses bs → r < first_answer_code → r ≡ 11
  -- a record is named for 3 to 7 and 12 only
  pub no_record : (In r record_numbers → ⊥) → i ≡ 0
  -- from 100 on it is 110 exactly when there is an accepting path, and 111 exactly when there is none
  pub accepted-exactly : first_answer_code ≤ r → (r ≡ accepted_code) ↔ Accepts (automaton_of bs) w
  pub turned-away-exactly : first_answer_code ≤ r → (r ≡ turned_away_code) ↔ TurnsAway (automaton_of bs) w

-- ---- recognizing: the number r, the record i and the table, before and after, that bolfrega_recognize gave for the run w

pub record RecognizeTells (bs w before after : List ℕ) (r i : ℕ) : Type 0 where
  -- below 100 the call was refused: by the file, else 11, 13, 14, in this order; the table is as it was
  pub refused-exactly : (r < first_answer_code) ↔ ((first_of (recognize_refusals bs w (length before))).number ≡ 0 → ⊥)
  pub refused-first : r < first_answer_code
      → (r ≡ (first_of (recognize_refusals bs w (length before))).number) × (i ≡ (first_of (recognize_refusals bs w (length before))).place)
  pub table_kept : r < first_answer_code → after ≡ before
  -- from 100 on it is 112 exactly when the plan derives the run, 113 exactly when it does not, and the table shows every stretch
  pub derived-exactly : first_answer_code ≤ r → (r ≡ derived_code) ↔ Derivable bs w
  pub not-derived-exactly : first_answer_code ≤ r → (r ≡ not_derived_code) ↔ (Derivable bs w → ⊥)
  pub table-shows : first_answer_code ≤ r → TableShows (productions_of bs) w after

-- ---- listing: the number r, the record i, the count n and the buffer, before and after, that bolfrega_list gave

pub record ListTells (bs old new : List ℕ) (r i n : ℕ) : Type 0 where
  -- below 100 the call was refused: by the file, else 15; nothing is counted, and the buffer is as it was
  pub refused-exactly : (r < first_answer_code) ↔ ((first_of (list_refusals bs (length old))).number ≡ 0 → ⊥)
  pub refused-first : r < first_answer_code
      → (r ≡ (first_of (list_refusals bs (length old))).number) × (i ≡ (first_of (list_refusals bs (length old))).place)
  pub none-counted : r < first_answer_code → n ≡ 0
  pub buffer-kept : r < first_answer_code → new ≡ old
  -- from 100 on it is 114, and the buffer shows the n gaps and doubles of the sheet
  pub listed-number : first_answer_code ≤ r → r ≡ listed_code
  pub list-shows : first_answer_code ≤ r → ListShows bs old new n

-- ---- moving and unfolding: the number r, the record i, the length n and the output, old before and new after, that a call gave, which any of
-- `refusals` may refuse, and whose answer n is to show `shows n`

pub record ConvertTells (refusals : List Refusal) (shows : ℕ → Type 0) (old new : List ℕ) (r i n : ℕ) : Type 0 where
  -- below 100 the call was refused: by the first of the refusals; there is no result, and the output is as it was
  pub refused-exactly : (r < first_answer_code) ↔ ((first_of refusals).number ≡ 0 → ⊥)
  pub refused-first : r < first_answer_code → (r ≡ (first_of refusals).number) × (i ≡ (first_of refusals).place)
  pub no_length : r < first_answer_code → n ≡ 0
  pub output-kept : r < first_answer_code → new ≡ old
  -- from 100 on it is 115, and the first n bytes of the output are the result
  pub converted-number : first_answer_code ≤ r → r ≡ converted_code
  pub result-shows : first_answer_code ≤ r → shows n

-- bolfrega_widen: refused by the file, else 10
abbrev pub WidenTells : List ℕ → List ℕ → List ℕ → ℕ → ℕ → ℕ → Type 0
WidenTells bs old new r i n = ConvertTells (widen_refusals bs (length old)) (WidenShows bs old new) old new r i n

-- bolfrega_narrow: refused by the file in the new form, else 17, else 10
abbrev pub NarrowTells : List ℕ → List ℕ → List ℕ → ℕ → ℕ → ℕ → Type 0
NarrowTells bs old new r i n = ConvertTells (narrow_refusals bs (length old)) (NarrowShows bs old new) old new r i n

-- unfolding for a set: refused by the file in the new form, else 18, else 10; no member becomes a chain procedure
pub record UnfoldFor (set : ℕ) (bs old new : List ℕ) (n : ℕ) : Type 0 where
  pub shows : UnfoldShows (least_for set) bs old new n
  -- so a check of the result, for the same set, is one of the 16-byte file
  pub verdict : (g : Settings) → g.starts ≡ set → (a : Answer ℕ) → check_of (take n new) g ≡ answered a → WideVerdict bs g a (shown_head a) (shown (take n new) a)

-- bolfrega_unfold_from; and bolfrega_unfold, where the set is that of procedure 0 alone
abbrev pub UnfoldTells : ℕ → List ℕ → List ℕ → List ℕ → ℕ → ℕ → ℕ → Type 0
UnfoldTells set bs old new r i n = ConvertTells (unfold_refusals (least_for set) bs (length old)) (UnfoldFor set bs old new) old new r i n

-- ---- the eight details of bolfrega_check, in the header's order

abbrev pub told_record : List ℕ → ℕ
told_record d = get_or d 0 0

abbrev pub told_joins : List ℕ → ℕ
told_joins d = get_or d 1 0

abbrev pub told_used : List ℕ → ℕ
told_used d = get_or d 2 0

abbrev pub told_pass : List ℕ → ℕ
told_pass d = get_or d 3 0

abbrev pub told_row : List ℕ → ℕ
told_row d = get_or d 4 0

abbrev pub told_pairs : List ℕ → ℕ
told_pairs d = get_or d 5 0

abbrev pub told_length : List ℕ → ℕ
told_length d = get_or d 6 0

abbrev pub told_refused : List ℕ → ℕ
told_refused d = get_or d 7 0

-- ---- checking: the number r, the details d and the buffer, old before and new after, that bolfrega_check gave for the settings g

-- the number says whether the plan has a run, and whether the sheet accepts every one: it is no refusal, the rows have not run out, and the
-- joins have not
pub record Decided (r : ℕ) : Type 0 where
  pub answers : first_answer_code ≤ r
  pub not_full : r ≡ full_code → ⊥
  pub not-spent : r ≡ spent_code → ⊥

module _ (bs : List ℕ) (g : Settings) (d old new : List ℕ) (r : ℕ) where
  -- below 100 the call was refused: the file's refusal, or else 8 for the rows
  pub record Refusing : Type 0 where
    pub refused-exactly : (r < first_answer_code) ↔ (FileRefused bs ⊎ RowsRefused g.rows)
    pub file-refused : FileRefused bs → (r ≡ (fault bs).number) × (told_record d ≡ (fault bs).place)
    pub file-numbers : FileRefused bs → In r file_numbers
    -- else it is the rows
    pub rows-number : FilePasses bs → r < first_answer_code → r ≡ 8
    -- a record is named for 3 to 7 and 12 only
    pub no_record : (In r record_numbers → ⊥) → told_record d ≡ 0
    -- the other details are 0
    pub rest-zero : r < first_answer_code → d ≡ told_record d ∷ 0 ∷ 0 ∷ 0 ∷ 0 ∷ 0 ∷ 0 ∷ 0 ∷ []

  -- the working order stops with this verdict, and the details tell of where it does
  pub record RunsOut (v : Verdict) : Type 0 where
    pub answer : Answer ℕ
    pub answers : check_of bs g ≡ answered answer
    pub stops : Stops (algebra_over states bs g) (rules_of bs) g.rows g.budget v answer
    pub joins-told : told_joins d ≡ answer.joins
    pub used-told : told_used d ≡ answer.used
    pub pass-told : told_pass d ≡ answer.pass

  -- from 100 on it is a verdict
  pub record Verdicts : Type 0 where
    pub one-of-five : first_answer_code ≤ r → (r ≡ holds_code) ⊎ ((r ≡ broken_code) ⊎ ((r ≡ full_code) ⊎ ((r ≡ spent_code) ⊎ (r ≡ empty_code))))
    -- 100 exactly when the sheet accepts every run of every member and each member has one, 101 exactly when it turns one away, and 104 exactly
    -- when it turns none away and some member has none
    pub holds-exactly : Decided r → (r ≡ holds_code) ↔ (AllAccepted bs g × ((p : ℕ) → Member g p → SomeFrom bs p))
    pub broken-exactly : Decided r → (r ≡ broken_code) ↔ ((p : ℕ) × (w : List ℕ) × Counterexample bs g p w)
    pub empty-exactly : Decided r → (r ≡ empty_code) ↔ (AllAccepted bs g × ((p : ℕ) × Member g p × NoneFrom bs p))
    -- 102 exactly where the working order runs out of rows: all are used
    pub full-exactly : (r ≡ full_code) ↔ RunsOut full
    pub full-used : r ≡ full_code → told_used d ≡ g.rows
    -- 103 exactly where it runs out of joins: all of the budget are made; a budget of document 01's size is never spent
    pub spent-exactly : (r ≡ spent_code) ↔ RunsOut spent
    pub spent-joins : r ≡ spent_code → told_joins d ≡ g.budget
    pub never-spent : joins_bound bs g ≤ g.budget → r ≡ spent_code → ⊥

  -- the counts and the row
  pub record Details : Type 0 where
    pub eight : length d ≡ 8
    pub used-bound : told_used d ≤ g.rows
    pub pass-bound : told_pass d ≤ g.rows + 1
    pub joins-bound : told_joins d ≤ joins_bound bs g
    -- an answer that is not broken has no row and shows no run; a broken one has the last row
    pub no_row : first_answer_code ≤ r → (r ≡ broken_code → ⊥) → told_row d ≡ absent
    pub no_run : (r ≡ broken_code → ⊥) → (told_pairs d ≡ 0) × (told_length d ≡ 0) × (told_refused d ≡ 0)
    pub last_row : r ≡ broken_code → suc (told_row d) ≡ told_used d
    -- only a broken answer changes the buffer
    pub buffer-kept : (r ≡ broken_code → ⊥) → new ≡ old

  -- the run w of a broken check, and the buffer
  pub record InBuffer (w : List ℕ) : Type 0 where
    -- it is written, or refused with 10: exactly where it has 65,535 steps or more, or more than the buffer has bytes
    pub written_or_not : (told_refused d ≡ 0) ⊎ (told_refused d ≡ 10)
    pub refused-exactly : (told_refused d ≡ 10) ↔ ((long_word ≤ length w) ⊎ (length old < length w))
    -- the same by the length among the details
    pub refused-told : (told_refused d ≡ 10) ↔ ((told_length d ≡ long_word) ⊎ (length old < told_length d))
    -- written, it is as many of the buffer's first bytes as the length tells, and the others keep their values
    pub first-bytes : told_refused d ≡ 0 → take (told_length d) new ≡ w
    pub other-bytes : told_refused d ≡ 0 → drop (told_length d) new ≡ drop (told_length d) old
    pub buffer-kept : told_refused d ≡ 10 → new ≡ old

  -- 101 shows the run w of the procedure p
  pub record Shows (p : ℕ) (w : List ℕ) : Type 0 where
    -- p is a member, and the sheet turns its run away
    pub counterexample : Counterexample bs g p w
    -- the pass is the least height of a derivation of such a run
    pub within : DerivesWithin (productions_of bs) (told_pass d) p w
    pub none-lower : (h : ℕ) → h < told_pass d → (q : ℕ) → Member g q → (u : List ℕ) → DerivesWithin (productions_of bs) h q u → Accepts (automaton_of bs) u
    pub pairs-are : told_pairs d ≡ pairs states (word_relation states (automaton_of bs).transitions w)
    pub length-is : told_length d ≡ capped (length w)
    pub in_buffer : InBuffer w

  -- another call, whose buffer held the same before, gave the number r', the details d' and the buffer new': the verdict, the joins, the pass
  -- and the run are the same
  pub record TellsAlike (d' new' : List ℕ) (r' : ℕ) : Type 0 where
    pub same_number : r' ≡ r
    pub same-joins : told_joins d' ≡ told_joins d
    pub same-pass : told_pass d' ≡ told_pass d
    pub same-pairs : told_pairs d' ≡ told_pairs d
    pub same_length : told_length d' ≡ told_length d
    pub same-refused : told_refused d' ≡ told_refused d
    pub same-buffer : new' ≡ new

  -- once the number is 100, 101 or 104, a call with more rows or a larger budget, and the same buffer, tells the same
  pub record Stays : Type 0 where
    pub larger : Decided r → (g' : Settings) → Extends g g'
        → (d' new' : List ℕ) (r' : ℕ) → ChecksZeros bs g' d' old new' r' → TellsAlike d' new' r'
    -- and today the same used rows and the same row, so that all details are the same
    pub same-details : Decided r → (g' : Settings) → Extends g g'
        → (d' new' : List ℕ) (r' : ℕ) → ChecksZeros bs g' d' old new' r' → d' ≡ d

  pub record CheckTells : Type 0 where
    pub refusing : Refusing
    pub verdicts : Verdicts
    pub details : Details
    pub shows : r ≡ broken_code → (p : ℕ) × (w : List ℕ) × Shows p w
    pub stays : Stays

-- ---- the ninth detail of bolfrega_check_from

abbrev pub told_procedure : List ℕ → ℕ
told_procedure d = get_or d 8 0

-- the number r, the nine details d and the buffer that bolfrega_check_from gave for the settings g
pub record FromTells (bs : List ℕ) (g : Settings) (d old new : List ℕ) (r : ℕ) : Type 0 where
  pub nine : length d ≡ 9
  -- the first eight tell what those of bolfrega_check tell
  pub eight : CheckTells bs g (take 8 d) old new r
  -- 101 shows a run of the procedure that the ninth tells; it is 0 otherwise
  pub shows-its : r ≡ broken_code → (w : List ℕ) × Shows bs g (take 8 d) old new r (told_procedure d) w
  pub no-procedure : (r ≡ broken_code → ⊥) → told_procedure d ≡ 0
  -- once the number is 100, 101 or 104, a call with more rows or a larger budget, and the same buffer, gives the same nine
  pub stays : Decided r → (g' : Settings) → Extends g g' → (d' new' : List ℕ) (r' : ℕ) → ChecksFrom bs g' d' old new' r' → d' ≡ d

-- ---- reading: the number r and the record i that bolfrega_refusal gave

pub record FileTells (bs : List ℕ) (r i : ℕ) : Type 0 where
  pub numbers : (r ≡ 0) ⊎ In r file_numbers
  -- a record is named for 3 to 7 and 12 only
  pub no_record : (In r record_numbers → ⊥) → i ≡ 0
  -- where it is not 0, every judging and every check of the file is refused with the same number and the same record
  pub judging-same : (r ≡ 0 → ⊥) → (w : List ℕ) (r' i' : ℕ) → Judges bs w r' i' → (r' ≡ r) × (i' ≡ i)
  pub checking-same : (r ≡ 0 → ⊥) → (g : Settings) (d old new : List ℕ) (r' : ℕ) → ChecksZeros bs g d old new r'
      → (r' ≡ r) × (told_record d ≡ i)

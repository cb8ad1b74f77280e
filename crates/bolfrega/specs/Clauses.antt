-- What the library's functions ensure, each in one record. Definitions only. Assumes nothing.
use Rattle.std.specs.Prelude.{◌≡◌, List, [], ◌∷◌, ◌++◌, map, ℕ, ◌+◌, ◌≤◌, take, drop, replicate, MatchResult}
use Rattle.std.specs.declared.result.Result.{Result}
use Rattle.std.proofs.Math.ListN.{length}
use Rattle.spec_file.specs.Reading.{step_at, stretch}
use Rattle.spec_file.specs.Refusals.{fault}
use Rattle.spec_file.specs.Answers.{number_of}
use Rattle.spec_file.specs.declared.Refusal.{Refusal as RefusalAnswer}
use Rattle.spec_order.specs.Journal.{Row}
use Rattle.spec_order.specs.Order.{Answer}
use Rattle.spec_calls.specs.Base.{initial_alone}
use Rattle.spec_calls.specs.Checking.{Settings, check_of, journal_after}
use Rattle.spec_calls.specs.Judging.{judge_of, JudgementMeans}
use Rattle.spec_calls.specs.Recognizing.{recognize_of, RecognizeMeans}
use Rattle.spec_calls.specs.Listing.{list_of, list_after, ListMeans}
use Rattle.spec_calls.specs.Codes.{code_by}
use Rattle.spec_calls.specs.DemandThree.{Promises}
use Rattle.spec_calls.specs.Replies.{Reply, answered}
use Rattle.spec_calls.specs.Rows.{row_of, Journal}
use Rattle.spec_calls.specs.Writing.{write_of, buffer_after, WordMeans}
use Rattle.spec_calls.specs.declared.Options.{Options}
use Rattle.spec_unfold.specs.Unfolding.{least_for}
use Rattle.spec_unfold.specs.Calls.{widen_of, widen_after, narrow_of, narrow_after, unfold_of, unfold_after}
use Rattle.spec_unfold.specs.MovingMeans.{WidenMeans, NarrowMeans}
use Rattle.spec_unfold.specs.UnfoldingMeans.{UnfoldMeans}
use Rattle.call_check.specs.Answers.{used_in}
use Rattle.call_check.specs.Clauses.{settings_over}
use Rattle.host_check.specs.Details.{zero_row, answer_code, row_numbers, head_of}
use Rattle.file_reader.specs.Answers.{place_after}
use Rattle.host_check.specs.Clauses.{ChecksBy}
use Rattle.bolfrega.specs.Codes.{judgement_code, derivation_code, listing_code, conversion_code, writing_code, step_code, step_record, step_values, size_in, place_in}

-- r is the number that refuses the file bs, or 0, and i the number of the refused record
pub record Refuses (bs : List ℕ) (r i : ℕ) : Type 0 where
  pub number : r ≡ (fault bs).number
  pub place : i ≡ (fault bs).place

-- the step of the reader from `place`, told as the number r, the refused record's number i, four values and the place after it
pub record StepsFrom (bs : List ℕ) (place r i : ℕ) (values : List ℕ) (next : ℕ) : Type 0 where
  pub code : r ≡ step_code (step_at bs place)
  pub refused : i ≡ step_record (step_at bs place)
  pub says : values ≡ step_values (step_at bs place)
  pub after : next ≡ place_after (step_at bs place) place

-- the n bytes of the file from o on are its moves: none where the file is refused
pub record MovesAt (bs : List ℕ) (o n : ℕ) : Type 0 where
  pub within : o + n ≤ length bs
  pub bytes : take n (drop o bs) ≡ stretch bs

-- r is the number of the judgement of the run w, or of what refuses the call, and i the number of the refused record
pub record Judges (bs w : List ℕ) (r i : ℕ) : Type 0 where
  pub code : r ≡ code_by judgement_code (judge_of bs w)
  pub place : i ≡ place_in (judge_of bs w)
  -- accepted means that there is an accepting path, turned away that there is none
  pub meaning : JudgementMeans bs w (judge_of bs w)

-- whether the plan derives the run w, told as the number r and the record's number i, with the table before and after the call
pub record Recognizes (bs w before after : List ℕ) (r i : ℕ) : Type 0 where
  pub code : r ≡ code_by derivation_code (recognize_of bs w (length before) after)
  pub place : i ≡ place_in (recognize_of bs w (length before) after)
  -- yes exactly where the initial symbol derives the run, and the table shows every stretch; a refused call leaves the table as it was
  pub meaning : RecognizeMeans bs w before after (recognize_of bs w (length before) after)

-- the gaps and doubles of the sheet, told as the number r, the record's number i and the count n, with the buffer before and after the call
pub record ListsGaps (bs old new : List ℕ) (r i n : ℕ) : Type 0 where
  pub code : r ≡ code_by listing_code (list_of bs (length old))
  pub place : i ≡ place_in (list_of bs (length old))
  pub entries : n ≡ size_in (list_of bs (length old))
  -- the entries, and then the old bytes; the old bytes whole on a refusal
  pub buffer : new ≡ list_after bs old
  -- just the gaps and doubles of the sheet, in their order, and one path where there is none
  pub meaning : ListMeans bs old new (list_of bs (length old))

-- the reply x to a move or an unfolding, told as the number r, the record's number i and the result's length n
pub record ToldMove (x : Reply ℕ) (r i n : ℕ) : Type 0 where
  pub code : r ≡ code_by conversion_code x
  pub place : i ≡ place_in x
  pub size : n ≡ size_in x

-- the same of what the code has: a size with this number, or what refuses
pub record ToldSize (code : ℕ) (x : Result ℕ RefusalAnswer) (r i n : ℕ) : Type 0 where
  pub told : MatchResult x (λ size. (r ≡ code) × (i ≡ 0) × (n ≡ size)) (λ y. (r ≡ number_of y.fault) × (i ≡ y.place) × (n ≡ 0))

-- told so, where the output held new after the call, and it was to hold `after`; what both mean is `means`
pub record Converts (x : Reply ℕ) (after : List ℕ) (means : List ℕ → Reply ℕ → Type 0) (new : List ℕ) (r i n : ℕ) : Type 0 where
  pub told : ToldMove x r i n
  -- the result, and then the old bytes; the old bytes whole on a refusal
  pub output : new ≡ after
  pub meaning : means new x

-- moved over: the new file says what bs says, and moves back to it
abbrev pub WidensFile : List ℕ → List ℕ → List ℕ → ℕ → ℕ → ℕ → Type 0
WidensFile bs old new r i n = Converts (widen_of bs (length old)) (widen_after bs old) (WidenMeans bs old) new r i n

-- moved back
abbrev pub NarrowsFile : List ℕ → List ℕ → List ℕ → ℕ → ℕ → ℕ → Type 0
NarrowsFile bs old new r i n = Converts (narrow_of bs (length old)) (narrow_after bs old) (NarrowMeans bs old) new r i n

-- unfolded, for a set of starting procedures: the chains, the same runs, and a check of the result as one of the file
abbrev pub UnfoldsFile : ℕ → List ℕ → List ℕ → List ℕ → ℕ → ℕ → ℕ → Type 0
UnfoldsFile set bs old new r i n = Converts (unfold_of (least_for set) bs (length old)) (unfold_after (least_for set) bs old) (UnfoldMeans (least_for set) bs old) new r i n

-- J rows of zeros
unfoldable pub zero_rows : ℕ → List (Row ℕ)
zero_rows J = replicate J zero_row

-- a check over rows of zeros, as many as the settings g ask for, whatever that number is
abbrev pub ChecksZeros : List ℕ → Settings → List ℕ → List ℕ → List ℕ → ℕ → Type 0
ChecksZeros bs g d old new r = ChecksBy bs g (journal_after bs g (zero_rows g.rows)) d old new r

-- the same with nine details: the eight, and the procedure of the run that is shown
pub record ChecksFrom (bs : List ℕ) (g : Settings) (d old new : List ℕ) (r : ℕ) : Type 0 where
  pub eight : ChecksZeros bs g (take 8 d) old new r
  pub ninth : d ≡ take 8 d ++ (head_of (check_of bs g) ∷ [])

-- the settings of a check of procedure 0 alone
abbrev pub of_initial : ℕ → ℕ → Settings
of_initial J B = record { rows = J; budget = B; starts = initial_alone }

-- ---- over a host's own rows

-- a check with the options o over the rows old, which left the rows new, told as the number r and the nine details d
pub record ChecksRows (bs : List ℕ) (o : Options) (old new : Journal) (d : List ℕ) (r : ℕ) : Type 0 where
  pub code : r ≡ code_by answer_code (check_of bs (settings_over o old))
  -- eight numbers and the procedure of the row that breaks the plan; no run is written
  pub details : d ≡ row_numbers (map row_of new) (check_of bs (settings_over o old)) ++ (head_of (check_of bs (settings_over o old)) ∷ [])
  -- the working order's rows, and then the old contents; the old contents whole on a refusal
  pub journal : map row_of new ≡ journal_after bs (settings_over o old) (map row_of old)
  -- and so number by number: a refusal uses none
  pub untouched : drop (used_in (check_of bs (settings_over o old))) new ≡ drop (used_in (check_of bs (settings_over o old))) old
  -- demand 3, where the verdict comes and what the joins are, the least height, what the rows are, writing the word that is shown,
  -- and stability, of the answer
  pub promises : (a : Answer ℕ) → check_of bs (settings_over o old) ≡ answered a → Promises bs (settings_over o old) a

-- the reply x to writing, told as the number r, the record's number i and the run's length n
pub record ToldRun (x : Reply ℕ) (r i n : ℕ) : Type 0 where
  pub code : r ≡ code_by writing_code x
  pub place : i ≡ place_in x
  pub size : n ≡ size_in x

-- the run behind row k of a host's rows, of which `used` are used, told so, with the buffer before and after the call
pub record WritesRun (bs : List ℕ) (rows : Journal) (used k : ℕ) (old new : List ℕ) (r i n : ℕ) : Type 0 where
  pub told : ToldRun (write_of bs (map row_of rows) used k (length old)) r i n
  -- the run, and then the old bytes; the old bytes whole on a refusal
  pub buffer : new ≡ buffer_after bs (map row_of rows) used k old
  -- a run that is written derives from the procedure of row k, whoever made the rows
  pub meaning : WordMeans bs (map row_of rows) k new (write_of bs (map row_of rows) used k (length old))

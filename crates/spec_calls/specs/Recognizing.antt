-- What recognizing a recorded run answers on a file, and what the lent table shows then (document 02, C-12). A table has a cell for each
-- stretch of the run, with a bit for each nonterminal. Derivation is rewriting, as document 000 has it; no algorithm is in here.
-- Definitions only. Assumes nothing.
use Rattle.std.specs.Prelude.{◌≡◌, ◌↔◌, Bool, true, not, cond, List, [], ◌∷◌, ◌++◌, ℕ, zero, suc, ◌+◌, ◌-◌, ◌≤◌, ◌<◌, eqb, ltb, length, get_or}
use Rattle.std.proofs.Math.Seq.{slice}
use Rattle.relation.specs.Digits.{bit}
use Rattle.spec_language.specs.Grammar.{Production, initial}
use Rattle.spec_language.specs.Rewriting.{Language}
use Rattle.spec_file.specs.Limits.{nonterminals}
use Rattle.spec_file.specs.Refusals.{Refusal, refuse}
use Rattle.spec_file.specs.Views.{productions_of}
use Rattle.spec_calls.specs.Replies.{Reply, refused, answered, reply}
use Rattle.spec_calls.specs.Judging.{judge_refusals}

-- ---- the table

-- steps of a recorded run at most
abbrev pub run_limit : ℕ
run_limit = 64

-- the first cell of the stretches from step i on. From each step i there are 65 - i stretches, for j from i to 64
unfoldable pub row_start : ℕ → ℕ
row_start zero = 0
row_start (suc i) = row_start i + (65 - i)

-- the cell of the stretch from step i up to step j: rising i, then j
abbrev pub cell : ℕ → ℕ → ℕ
cell i j = row_start i + (j - i)

-- one for each stretch with 0 ≤ i ≤ j ≤ 64
abbrev pub stretch_cells : ℕ
stretch_cells = 2145

-- bit p of the cell of a stretch is set exactly where nonterminal p derives the stretch; cells with j past the run's end are 0
pub record TableShows (rules : List Production) (w table : List ℕ) : Type 0 where
  pub size : length table ≡ stretch_cells
  pub within : (i j p : ℕ) → i ≤ j → j ≤ length w → p < nonterminals
      → (bit (get_or table (cell i j) 0) p ≡ true) ↔ Language rules p (slice i j w)
  pub past : (i j : ℕ) → i ≤ j → length w < j → j ≤ run_limit → get_or table (cell i j) 0 ≡ 0

-- ---- the call

-- 13: the recorded run is too long
unfoldable pub run_fault : List ℕ → ℕ
run_fault w = cond (ltb run_limit (length w)) 13 0

-- 14: the table has another number of cells, fewer or more
unfoldable pub table_fault : ℕ → ℕ
table_fault cells = cond (not (eqb cells stretch_cells)) 14 0

-- what may refuse the call, in its order: what refuses to judge the run (the file's refusal, 11), then 13, then 14
abbrev pub recognize_refusals : List ℕ → List ℕ → ℕ → List Refusal
recognize_refusals bs w cells = judge_refusals bs w ++ (refuse (run_fault w) 0 ∷ refuse (table_fault cells) 0 ∷ [])

-- the first of them, and else whether the table, as it is after the call, shows that the initial symbol derives the whole run
unfoldable pub recognize_of : List ℕ → List ℕ → ℕ → List ℕ → Reply Bool
recognize_of bs w cells after = reply (recognize_refusals bs w cells) (bit (get_or after (cell 0 (length w)) 0) initial)

-- what the reply means: yes exactly where the initial symbol derives the run, and whether yes or no the table shows every stretch of it;
-- a refused call leaves the table as it was
abbrev pub RecognizeMeans : List ℕ → List ℕ → List ℕ → List ℕ → Reply Bool → Type 0
RecognizeMeans bs w before after (refused r) = after ≡ before
RecognizeMeans bs w before after (answered b) = ((b ≡ true) ↔ Language (productions_of bs) initial w) × TableShows (productions_of bs) w after

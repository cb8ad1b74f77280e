-- What writing a word ensures, in one record. Definitions only. Assumes nothing.
use Rattle.std.specs.Prelude.{◌≡◌, List, ℕ, length}
use Rattle.std.specs.declared.result.Result.{Result}
use Rattle.spec_file.specs.declared.Refusal.{Refusal}
use Rattle.spec_order.specs.Journal.{Row}
use Rattle.spec_calls.specs.Writing.{write_of, buffer_after, WordMeans}
use Rattle.call_write.specs.Answers.{writing_of}

-- writing the word behind row i, with used rows, to a buffer that holds old before and new afterwards
pub record Writes (bs : List ℕ) (rows : List (Row ℕ)) (used i : ℕ) (old new : List ℕ) (r : Result ℕ Refusal) : Type 0 where
  -- the refusal, or the word's length
  pub answer : writing_of r ≡ write_of bs rows used i (length old)
  -- the word, and then the old bytes; the old bytes whole on a refusal
  pub buffer : new ≡ buffer_after bs rows used i old
  -- a word that is written derives from the nonterminal of row i, whoever made the journal (document 000: rewriting)
  pub meaning : WordMeans bs rows i new (write_of bs rows used i (length old))

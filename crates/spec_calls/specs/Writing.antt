-- What writing the word behind a journal row answers, and what the lent buffer holds afterwards (document 01, "Writing a run").
-- Definitions only. Assumes nothing.
use Rattle.std.specs.Prelude.{Bool, not, ◌||◌, cond, List, [], ◌∷◌, ◌++◌, ℕ, ◌+◌, leb, ltb, length, get_or, take, drop}
use Rattle.relation.specs.Relation.{states}
use Rattle.spec_file.specs.Refusals.{Refusal, refuse, fault}
use Rattle.spec_file.specs.Views.{rules_of, productions_of, automaton_of}
use Rattle.spec_language.specs.Grammar.{Rule}
use Rattle.spec_language.specs.Rewriting.{Language}
use Rattle.spec_order.specs.Algebra.{Forms}
use Rattle.spec_order.specs.Journal.{Row, no_row}
use Rattle.spec_order.specs.Behind.{word_behind}
use Rattle.spec_order.specs.Fitting.{all_rows_fit}
use Rattle.spec_calls.specs.Base.{forms_on, words}
use Rattle.spec_calls.specs.Checking.{journal_fault}
use Rattle.spec_calls.specs.Replies.{Reply, refused, answered, reply}

-- a word of this many steps or more is not written
abbrev pub long_word : ℕ
long_word = 65535

-- 9: row i is not below the used count, or that count exceeds the journal, or some row from 0 through i does not fit
unfoldable pub row_fault : Forms ℕ → List Rule → List (Row ℕ) → ℕ → ℕ → ℕ
row_fault M rules rows used i = cond (not (ltb i used) || (ltb (length rows) used || not (all_rows_fit M rows rules (i + 1)))) 9 0

-- a word of n steps is too long to be written, or longer than a buffer of `room` bytes
abbrev pub too_long : ℕ → ℕ → Bool
too_long n room = leb long_word n || ltb room n

-- 10: so is the word
unfoldable pub room_fault : List ℕ → ℕ → ℕ
room_fault w room = cond (too_long (length w) room) 10 0

-- row i of the journal, and the word behind it
abbrev pub row_on : List ℕ → List (Row ℕ) → ℕ → Row ℕ
row_on bs rows i = get_or rows i (no_row (forms_on states (automaton_of bs)))

unfoldable pub word_of : List ℕ → List (Row ℕ) → ℕ → List ℕ
word_of bs rows i = word_behind words (rules_of bs) rows i

-- what may refuse to write, in its order: the file's refusal, then 8, 9 and 10
abbrev pub write_refusals : List ℕ → List (Row ℕ) → ℕ → ℕ → ℕ → List Refusal
write_refusals bs rows used i room =
    fault bs
    ∷ refuse (journal_fault (length rows)) 0
    ∷ refuse (row_fault (forms_on states (automaton_of bs)) (rules_of bs) rows used i) 0
    ∷ refuse (room_fault (word_of bs rows i) room) 0
    ∷ []

-- the first of them, and else the word's length
unfoldable pub write_of : List ℕ → List (Row ℕ) → ℕ → ℕ → ℕ → Reply ℕ
write_of bs rows used i room = reply (write_refusals bs rows used i room) (length (word_of bs rows i))

-- the word, and then the old bytes; the old bytes whole on a refusal
abbrev pub written_by : List ℕ → List ℕ → Reply ℕ → List ℕ
written_by w old (refused r) = old
written_by w old (answered n) = w ++ drop n old

unfoldable pub buffer_after : List ℕ → List (Row ℕ) → ℕ → ℕ → List ℕ → List ℕ
buffer_after bs rows used i old = written_by (word_of bs rows i) old (write_of bs rows used i (length old))

-- what an answer means, where the buffer holds new afterwards: its first bytes, as many as the length says, are a word that the
-- nonterminal of row i derives, whoever made the journal
abbrev pub WordMeans : List ℕ → List (Row ℕ) → ℕ → List ℕ → Reply ℕ → Type 0
WordMeans bs rows i new (refused r) = Unit {0}
WordMeans bs rows i new (answered n) = Language (productions_of bs) (row_on bs rows i).head (take n new)

-- The base check: the working order where an effect is a relation on n states and a pair of symbols forms the composition; and the set of
-- the nonterminals whose words have to be accepted. Definitions only. Assumes nothing.
use Rattle.std.specs.Prelude.{Bool, ◌&&◌, List, [], ◌∷◌, ◌++◌, ℕ, zero, suc, eqb, length}
use Rattle.spec_basics.specs.Elements.{any}
use Rattle.relation.specs.Digits.{bit}
use Rattle.relation.specs.Relation.{identity, compose, contained, rejects}
use Rattle.spec_language.specs.Automaton.{Automaton}
use Rattle.spec_language.specs.WordRelation.{letter_relation, is_final}
use Rattle.spec_order.specs.Algebra.{Forms, Algebra}
use Rattle.spec_order.specs.Behind.{Spelling}
use Rattle.spec_file.specs.Limits.{nonterminals}
use Rattle.spec_file.specs.Views.{cons_if}

-- ---- starting nonterminals

-- document 02, C-18: "a set of procedures as a 64-bit word, bit p for procedure p". Those of the set that are below m, rising
unfoldable pub members_below : ℕ → ℕ → List ℕ
members_below set zero = []
members_below set (suc p) = members_below set p ++ cons_if (bit set p) p []

-- all of them: the nonterminals whose words have to be accepted
abbrev pub members_of : ℕ → List ℕ
members_of set = members_below set nonterminals

-- the set of the initial symbol alone
abbrev pub initial_alone : ℕ
initial_alone = 1

-- x is one of these
abbrev pub is_one_of : List ℕ → ℕ → Bool
is_one_of starts x = any (λ p. eqb x p) starts

-- ---- effects

-- letter gives the relation of a terminal
abbrev pub forms_by : ℕ → (ℕ → ℕ) → Forms ℕ
forms_by n letter = record { of_empty = identity n; of_terminal = letter; of_pair = λ x y. compose n x y ∷ [] }

-- and reject tells which relations reject
abbrev pub breaks_by : List ℕ → (ℕ → Bool) → ℕ → ℕ → Bool
breaks_by starts reject x e = is_one_of starts x && reject e

abbrev pub base_by : ℕ → List ℕ → (ℕ → ℕ) → (ℕ → Bool) → Algebra ℕ
base_by n starts letter reject = record { forms = forms_by n letter; below = contained; starts = starts; breaks = breaks_by starts reject }

-- of an automaton's letters and final states
abbrev pub forms_on : ℕ → Automaton → Forms ℕ
forms_on n A = forms_by n (letter_relation n A.transitions)

abbrev pub base : ℕ → List ℕ → Automaton → Algebra ℕ
base n starts A = base_by n starts (letter_relation n A.transitions) (rejects n (is_final A))

-- words, as what is behind a row
abbrev pub words : Spelling ℕ (List ℕ)
words = record { nothing = []; single = λ c. c ∷ []; joined = λ e u v. u ++ v; size = length }

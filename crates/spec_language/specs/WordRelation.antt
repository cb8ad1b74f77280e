-- The relation that a word induces on the states of an automaton (document 000, section 3: ρ(w); document 01: the effect of
-- a run), on n states. Definitions only. Assumes nothing.
use Rattle.std.specs.Prelude.{Bool, ◌&&◌, cond, List, [], ◌∷◌, ℕ, eqb}
use Rattle.spec_basics.specs.Elements.{any}
use Rattle.relation.specs.Relation.{table, identity, compose, rejects}
use Rattle.spec_language.specs.Remarks.{is_remark}
use Rattle.spec_language.specs.Automaton.{Transition, Automaton}

-- a transition from a to b on the letter c
unfoldable pub moves : List Transition → ℕ → ℕ → ℕ → Bool
moves ts c a b = any (λ t. (eqb t.source a && eqb t.letter c) && eqb t.target b) ts

-- the relation of the terminal `c`: its transitions. C-11: a remark has the relation of the empty word
unfoldable pub letter_relation : ℕ → List Transition → ℕ → ℕ
letter_relation n ts c = cond (is_remark c) (identity n) (table n (moves ts c))

-- the relation of a word: every (a, a) for the empty word, and composed letter by letter
unfoldable pub word_relation : ℕ → List Transition → List ℕ → ℕ
word_relation n ts [] = identity n
word_relation n ts (c ∷ w) = compose n (letter_relation n ts c) (word_relation n ts w)

-- the state is final
unfoldable pub is_final : Automaton → ℕ → Bool
is_final A s = any (λ f. eqb f s) A.finals

-- the word's relation has no pair (0, f) with f final
unfoldable pub rejected : ℕ → Automaton → List ℕ → Bool
rejected n A w = rejects n (is_final A) (word_relation n A.transitions w)

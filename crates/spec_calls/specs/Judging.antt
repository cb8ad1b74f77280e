-- What judging a word answers on a file (document 01: a run is accepted or turned away). Definitions only. Assumes nothing.
use Rattle.std.specs.Prelude.{Bool, true, false, ◌||◌, cond, List, [], ◌∷◌, ℕ, leb, ltb, length}
use Rattle.spec_basics.specs.Elements.{any}
use Rattle.relation.specs.Relation.{states}
use Rattle.spec_language.specs.Automaton.{Accepts, TurnsAway}
use Rattle.spec_language.specs.WordRelation.{rejected}
use Rattle.spec_file.specs.Limits.{terminals}
use Rattle.spec_file.specs.Refusals.{Refusal, refuse, fault}
use Rattle.spec_file.specs.Views.{automaton_of}
use Rattle.spec_calls.specs.Replies.{Reply, refused, answered, reply}

pub data Judgement : Type 0 where
  accepted turned_away : Judgement

-- steps of a word to be judged at most
abbrev pub word_limit : ℕ
word_limit = 65534

-- 11: the word is too long, or a letter is no step code
unfoldable pub word_fault : List ℕ → ℕ
word_fault w = cond (ltb word_limit (length w) || any (λ c. leb terminals c) w) 11 0

abbrev pub judgement_by : Bool → Judgement
judgement_by true = turned_away
judgement_by false = accepted

-- what may refuse to judge a word, in its order: the file's refusal, then 11
abbrev pub judge_refusals : List ℕ → List ℕ → List Refusal
judge_refusals bs w = fault bs ∷ refuse (word_fault w) 0 ∷ []

-- the first of them, and else the judgement
unfoldable pub judge_of : List ℕ → List ℕ → Reply Judgement
judge_of bs w = let j = judgement_by (rejected states (automaton_of bs) w) in reply (judge_refusals bs w) j

-- what an answer means: accepted that a path leads from state 0 to a final state on the word, turned away that none does
abbrev pub JudgementMeans : List ℕ → List ℕ → Reply Judgement → Type 0
JudgementMeans bs w (refused r) = Unit {0}
JudgementMeans bs w (answered accepted) = Accepts (automaton_of bs) w
JudgementMeans bs w (answered turned_away) = TurnsAway (automaton_of bs) w

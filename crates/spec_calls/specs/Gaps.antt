-- Gaps and doubles of an automaton (document 02, C-16: "a list of what they forgot"): a state and a letter with no transition or with several,
-- and what a sheet without any of them promises: one path. Definitions only. Assumes nothing.
use Rattle.std.specs.Prelude.{◌≡◌, ◌⊎◌, cond, ◌&&◌, List, [], ◌∷◌, ℕ, ◌+◌, ◌<◌, eqb}
use Rattle.spec_basics.specs.Elements.{In}
use Rattle.spec_language.specs.Automaton.{Transition, Automaton, Reads}

-- ---- which pairs are looked at

-- a transition from the state or to it
abbrev pub Touched : List Transition → ℕ → Type 0
Touched ts s = (t : Transition) × In t ts × ((t.source ≡ s) ⊎ (t.target ≡ s))

-- "Take stage 0 and every stage in a move or finishing record": a stage taken
abbrev pub StateTaken : Automaton → ℕ → Type 0
StateTaken A s = (s ≡ 0) ⊎ (Touched A.transitions s ⊎ In s A.finals)

-- "every code used in a move"
abbrev pub LetterUsed : Automaton → ℕ → Type 0
LetterUsed A c = (t : Transition) × In t A.transitions × (t.letter ≡ c)

-- ---- which of them are listed

-- the "number of moves" of a pair: how many transitions lead from state `a` on the letter `c`
unfoldable pub moves_on : List Transition → ℕ → ℕ → ℕ
moves_on [] a c = 0
moves_on (t ∷ ts) a c = cond (eqb t.source a && eqb t.letter c) 1 0 + moves_on ts a c

-- an entry of the list: "stage, code, number of moves"
pub record ListEntry : Type 0 where
  pub state : ℕ
  pub letter : ℕ
  pub moves : ℕ

-- what is to be listed: "each such pair whose number of moves isn't one", with that number
pub record Gap (A : Automaton) (e : ListEntry) : Type 0 where
  pub state-taken : StateTaken A e.state
  pub letter-used : LetterUsed A e.letter
  pub counted : e.moves ≡ moves_on A.transitions e.state e.letter
  pub not-one : e.moves ≡ 1 → ⊥

-- ---- their order

-- "stages rise, then codes"
abbrev pub Before : ListEntry → ListEntry → Type 0
Before d e = (d.state < e.state) ⊎ ((d.state ≡ e.state) × (d.letter < e.letter))

-- each entry stands before all that follow it
abbrev pub Ordered : List ListEntry → Type 0
Ordered [] = Unit {0}
Ordered (d ∷ es) = ((e : ListEntry) → In e es → Before d e) × Ordered es

-- ---- one path

-- a path from `a` on the word, with the states that it is in after each letter; a letter is read as in `WordPath`
abbrev pub Trace : List Transition → ℕ → List ℕ → List ℕ → Type 0
Trace ts a [] ss = ss ≡ []
Trace ts a (c ∷ w) ss = (b : ℕ) × (rest : List ℕ) × (ss ≡ b ∷ rest) × Reads ts a c b × Trace ts b w rest

-- the last of the states, where a path from `a` ends
abbrev pub end_of : ℕ → List ℕ → ℕ
end_of a [] = a
end_of a (b ∷ ss) = end_of b ss

-- "exactly one path": one whole sequence of states, and no other
pub record ExactlyOne (ts : List Transition) (a : ℕ) (w : List ℕ) : Type 0 where
  pub states : List ℕ
  pub path : Trace ts a w states
  pub alone : (ss : List ℕ) → Trace ts a w ss → ss ≡ states

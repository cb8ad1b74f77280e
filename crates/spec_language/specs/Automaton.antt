-- Finite automata (document 000, section 2.1; document 01: an order sheet). Definitions only. Assumes nothing.
use Rattle.std.specs.Prelude.{◌≡◌, Bool, true, false, List, [], ◌∷◌, ℕ, ◌<◌}
use Rattle.spec_basics.specs.Elements.{In}
use Rattle.spec_language.specs.Remarks.{is_remark}

-- document 01: a move from stage to stage on a step code
pub record Transition : Type 0 where
  pub source : ℕ
  pub letter : ℕ
  pub target : ℕ

pub record Automaton : Type 0 where
  pub transitions : List Transition
  -- document 01: finishing stages
  pub finals : List ℕ

-- a transition from a to b on the letter c
abbrev pub Moves : List Transition → ℕ → ℕ → ℕ → Type 0
Moves ts a c b = In (record { source = a; letter = c; target = b }) ts

-- one letter of a path, where it is a remark (C-11: "Acceptance treats a remark as staying in the stage") and where it is none
abbrev pub ReadsBy : Bool → List Transition → ℕ → ℕ → ℕ → Type 0
ReadsBy true ts a c b = a ≡ b
ReadsBy false ts a c b = Moves ts a c b

-- in state `a` the automaton reads the letter `c` and is then in state `b`. The remarks are the one addition to document 000, whose every letter takes a transition
abbrev pub Reads : List Transition → ℕ → ℕ → ℕ → Type 0
Reads ts a c b = ReadsBy (is_remark c) ts a c b

-- a path from a to b that is labelled with the word
abbrev pub WordPath : List Transition → ℕ → List ℕ → ℕ → Type 0
WordPath ts a [] b = a ≡ b
WordPath ts a (c ∷ w) b = (m : ℕ) × Reads ts a c m × WordPath ts m w b

-- a path from state 0 to a final state
abbrev pub Accepts : Automaton → List ℕ → Type 0
Accepts A w = (f : ℕ) × In f A.finals × WordPath A.transitions 0 w f

-- no such path (document 01: the sheet turns the run away)
abbrev pub TurnsAway : Automaton → List ℕ → Type 0
TurnsAway A w = Accepts A w → ⊥

-- the transitions and final states are among the n states
pub record Within (n : ℕ) (A : Automaton) : Type 0 where
  pub some-state : 0 < n
  pub sources : (t : Transition) → In t A.transitions → t.source < n
  pub targets : (t : Transition) → In t A.transitions → t.target < n
  pub ends : (f : ℕ) → In f A.finals → f < n

-- Context-free grammars (document 000, section 2.1; document 01: a plan). Definitions only. Assumes nothing.
use Rattle.std.specs.Prelude.{List, [], ◌∷◌, ℕ}

-- document 01: a step code, or a procedure
pub data Symbol : Type 0 where
  terminal : ℕ → Symbol
  nonterminal : ℕ → Symbol

-- a production rule (x, γ), as document 000 has it
pub record Production : Type 0 where
  -- x, the nonterminal that it rewrites
  pub head : ℕ
  -- γ, any number of symbols from left to right
  pub symbols : List Symbol

-- the right-hand side of a rule in a file. At most two symbols: document 01's first departure from document 000
pub data Body : Type 0 where
  empty : Body
  one : Symbol → Body
  two : Symbol → Symbol → Body

-- the symbols of a body, from left to right
abbrev pub symbols : Body → List Symbol
symbols empty = []
symbols (one s) = s ∷ []
symbols (two s t) = s ∷ t ∷ []

pub record Rule : Type 0 where
  -- the nonterminal that the rule rewrites
  pub head : ℕ
  pub body : Body

-- the rule as document 000 has it
abbrev pub production_of : Rule → Production
production_of r = record { head = r.head; symbols = symbols r.body }

-- a rule that is never read
abbrev pub no_rule : Rule
no_rule = record { head = 0; body = empty }

-- the initial symbol (document 01: procedure 0 starts)
abbrev pub initial : ℕ
initial = 0

-- What the code's candidates, choices and letter tables stand for in the working order. Definitions only. Assumes nothing.
use Rattle.std.specs.Prelude.{◌≡◌, List, ℕ}
use Rattle.relation.specs.Relation.{states, identity, compose}
use Rattle.relation.specs.Representation.{value}
use Rattle.relation.specs.Stored.{relation_in}
use Rattle.search_state.specs.Forming.{Composing}
use Rattle.search_rows.specs.Base as order
use Rattle.search_rows.specs.declared.Candidate.{Candidate}
use Rattle.search_rows.specs.declared.Choice.{Choice}

-- what bodies form, where a terminal has its relation in the table of letters
abbrev pub composing_of : List ℕ → Composing ℕ
composing_of letters = record { of_empty = identity states; of_terminal = λ c. value (relation_in letters c); compose = compose states }

abbrev pub candidate_of : Candidate → order.Candidate
candidate_of c = record { head = c.head; rule = c.rule; effect = value c.relation; left = c.left; right = c.right; len = c.len }

-- c has the pointer and the length of x
abbrev pub taken_as : order.Choice → Choice → Type 0
taken_as c x = (x.pointer ≡ c.pointer) × (x.len ≡ c.len)

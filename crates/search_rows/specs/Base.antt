-- The working order where an effect is a relation on states: its types and its candidates.
-- Definitions only. Assumes nothing.
use Rattle.std.specs.Prelude.{Bool, ℕ}
use Rattle.relation.specs.Digits.{bit}
use Rattle.relation.specs.Relation.{states, compose, rejects}
use Rattle.spec_order.specs.Candidates as candidates
use Rattle.spec_order.specs.Journal as journal
use Rattle.spec_calls.specs.Base.{members_of, forms_by, breaks_by}

abbrev pub Row : Type 0
Row = journal.Row ℕ

abbrev pub Choice : Type 0
Choice = candidates.Choice ℕ

abbrev pub Candidate : Type 0
Candidate = candidates.Candidate ℕ

-- of an empty body, in rule r of the nonterminal x; no letter is read
abbrev pub empty_body : ℕ → ℕ → Candidate
empty_body x r = candidates.bare (forms_by states (λ c. 0)) x r

-- of a body of two symbols: the relations are composed
abbrev pub joined : ℕ → ℕ → Choice → Choice → Candidate
joined x r c d = candidates.paired x r c d (compose states c.effect d.effect)

-- the relations that reject, where state f is final if place f is in the mask
abbrev pub rejecting : ℕ → ℕ → Bool
rejecting finals = rejects states (bit finals)

-- as a new row the candidate breaks
abbrev pub breaking : ℕ → ℕ → Candidate → Bool
breaking starts finals c = breaks_by (members_of starts) (rejecting finals) c.head c.effect

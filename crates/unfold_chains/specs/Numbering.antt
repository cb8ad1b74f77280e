-- How chain procedures and rules are numbered, record by record. Definitions only. Assumes nothing.
use Rattle.std.specs.Prelude.{cond, List, [], ◌∷◌, ℕ, ◌+◌}
use Rattle.spec_file.specs.Records.{byte, rule_kind}
use Rattle.spec_records.specs.OnRecords.{body_in}
use Rattle.spec_unfold.specs.Chains.{RuleOver, chains_for, chain}
use Rattle.spec_unfold.specs.Unfolding.{has_kind, byte_rule, call_byte}
use Rattle.unfold_chains.specs.declared.Numbering.{Numbering}

-- a rule of a chain but its last: a symbol, and the next chain procedure
abbrev pub link_of : ℕ → ℕ → ℕ → RuleOver ℕ
link_of head first number = record { head = head; body = first ∷ call_byte number ∷ [] }

-- the rules that a record unfolds to, with chain procedures from `next` on: none where it is no rule
unfoldable pub rules_from : ℕ → List ℕ → List (RuleOver ℕ)
rules_from next r = cond (has_kind rule_kind r) (chain call_byte (byte r 1) next (body_in r)) []

-- the next chain procedure and the count of rules, after a rule
abbrev pub past_rule : Numbering → List ℕ → Numbering
past_rule t r = record { next = t.next + chains_for (byte_rule r); count = t.count + chains_for (byte_rule r) + 1 }

-- and after any record
unfoldable pub numbered : Numbering → List ℕ → Numbering
numbered t r = cond (has_kind rule_kind r) (past_rule t r) t

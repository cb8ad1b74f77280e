-- `by_four` meets its contract: two words of the next relation, and two more. Assumes nothing.
use Rattle.std.proofs.Common.{ap₂, rules}
use lib.Bits.{bit_or}
use Rattle.relation.specs.Columns.{word_by}
use Rattle.relation.specs.Digits.{union}
use Rattle.relation.proofs.by_four.Statement.{statement}
use Rattle.relation.proofs.by_four.Tie as tie

returns : tie.Need-returns
unfolding word_by union
returns c = ap₂ bit_or (ap₂ bit_or c.before.before.by_two.ensures c.before.by_columns.ensures) c.by_columns-2.ensures

pub by_four_spec : {M : Type 1} → statement M
by_four_spec = tie.close (tie.spec (λ c κs. search rules) (λ c. search rules) (λ c κs. search rules) (λ c. search rules) (λ c κs. search rules) returns)

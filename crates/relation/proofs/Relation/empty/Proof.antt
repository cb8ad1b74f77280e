-- `Relation::empty` meets its contract: its words are 0. Assumes nothing.
use Rattle.std.proofs.Common.{rules}
use Rattle.relation.specs.Representation.{none}
use Rattle.relation.proofs.Relation.empty.Statement.{statement}
use Rattle.relation.proofs.Relation.empty.Tie as tie

returns : tie.Need-returns
unfolding none
returns c = c.of_words.ensures

pub empty_spec : {M : Type 1} → statement M
empty_spec = tie.close (tie.spec (λ c κs. search rules) returns)

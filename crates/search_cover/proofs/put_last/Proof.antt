-- `search_cover::put_last` meets its contract. Assumes nothing.
use borrow.Author.Rules.{rules}
use Rattle.search_cover.specs.Steps.{with_last}
use Rattle.search_cover.proofs.put_last.Statement.{statement}
use Rattle.search_cover.proofs.put_last.Tie as tie

returns : tie.Need-returns
unfolding with_last
returns c = rw c.before.before.put_number.ensures

pub put_last_spec : {M : Type 1} → statement M
put_last_spec = tie.close (tie.spec (λ c. search rules) (λ c κs. search rules) (λ c. search rules) (λ c. search rules) (λ c. search rules) (λ c. search rules) returns)

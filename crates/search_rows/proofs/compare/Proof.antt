-- `search_rows::compare` meets its contract: the tests are those of the two definitions. Assumes nothing.
use mathlib.Core.Path.{refl}
use borrow.Author.Rules.{rules}
use Rattle.spec_order.specs.Journal.{live, live_of}
use Rattle.spec_order.specs.Order.{larger}
use Rattle.search_state.specs.Comparing.{is_below}
use Rattle.search_rows.proofs.compare.Statement.{statement}
use Rattle.search_rows.proofs.compare.Tie as tie

returns : tie.Need-returns
unfolding is_below larger live_of live
returns c = rw (c.before.contained-within.ensures, c.contained-over.ensures) (refl, refl)

pub compare_spec : {M : Type 1} → statement M
compare_spec = tie.close (tie.spec (λ c. search rules) (λ c κs. search rules) (λ c κs. search rules) returns)

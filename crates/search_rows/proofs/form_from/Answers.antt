-- An empty body has the effect alone. Assumes nothing.
use Rattle.std.proofs.Common.{rules}
use Rattle.spec_order.specs.Candidates.{bare}
use Rattle.search_rows.proofs.form_from.Goals as goal

pub returns-then-size-eq0 : goal.returns-then-size-eq0
unfolding bare
returns-then-size-eq0 c = search rules

-- `all` says whether each nonterminal of the set below `p` has a live row. Assumes nothing.
use Rattle.std.proofs.Common.{◌≡◌}
use Rattle.spec_calls.specs.Base.{members_below}
use Rattle.search_laws.specs.States.{each_linked}
use Rattle.search_passes.proofs.all_linked.Given as goal

abbrev pub invariant-loop-p : goal.invariant-loop-p
invariant-loop-p l = l.all ≡ each_linked l.table (members_below l.starts l.p)

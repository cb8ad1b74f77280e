-- `least` is one above the highest procedure of the set below `p`.
use Rattle.std.proofs.Common.{◌≡◌, ◌≤◌}
use Rattle.spec_unfold.specs.Unfolding.{above_members}
use Rattle.call_unfold.proofs.least_for.Given as goal

abbrev pub invariant-loop-p : goal.invariant-loop-p
invariant-loop-p l = (l.least ≡ above_members l.starts l.p) × (l.least ≤ l.p)

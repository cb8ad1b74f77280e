-- Eight bytes of each record before `i` are written to the front of `out`, and the bytes behind them are the old ones.
use Rattle.std.proofs.Common.{◌≡◌, length}
use Rattle.spec_unfold.specs.Moving.{narrower}
use Rattle.call_move.specs.FrontLaws.{moved}
use Rattle.call_move.specs.Fronts.{over}
use Rattle.call_move.proofs.put_narrower.Given as goal

abbrev pub invariant-loop-i : goal.invariant-loop-i
invariant-loop-i l = (length l.out ≡ length l.initial.out) × (l.out ≡ over (moved 16 8 narrower l.file l.i) l.initial.out)

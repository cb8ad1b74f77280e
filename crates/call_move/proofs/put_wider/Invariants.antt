-- The records before `i` are written to the front of `out`, each in sixteen bytes, and the bytes behind them are the old ones.
use Rattle.std.proofs.Common.{◌≡◌, length}
use Rattle.spec_unfold.specs.Moving.{wider}
use Rattle.call_move.specs.FrontLaws.{moved}
use Rattle.call_move.specs.Fronts.{over}
use Rattle.call_move.proofs.put_wider.Given as goal

abbrev pub invariant-loop-i : goal.invariant-loop-i
invariant-loop-i l = (length l.out ≡ length l.initial.out) × (l.out ≡ over (moved 8 16 wider l.file l.i) l.initial.out)

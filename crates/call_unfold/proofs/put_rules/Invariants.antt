-- The records of the keys before `key` are written to the front of `out`, and the bytes behind them are the old ones.
use Rattle.std.proofs.Common.{◌≡◌, map, length, take}
use Rattle.spec_records.specs.Blocks.{bytes_of}
use Rattle.call_move.specs.Fronts.{over}
use Rattle.unfold_order.specs.Keys.{digits_of}
use Rattle.call_unfold.proofs.put_rules.Given as goal

abbrev pub invariant-loop-i : goal.invariant-loop-i
invariant-loop-i l = (length l.out ≡ length l.initial.out) × (l.out ≡ over (bytes_of (map (digits_of 256 8) (take l.i l.keys))) l.initial.out)

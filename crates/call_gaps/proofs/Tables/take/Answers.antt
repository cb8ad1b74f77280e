-- By the record's kind. Assumes nothing.
use Rattle.std.proofs.Common.{arith}
use Rattle.call_gaps.specs.SheetLaws.{taken-move, taken-final}
use Rattle.call_gaps.proofs.Tables.take.Goals as goal

pub returns-in-2 : goal.returns-in-2
returns-in-2 c =
    let e = c.take_move.ensures in
    taken-move _ _ _ _ _ _ _ _ c.transition_at.result c.requires.0 c.transition_at.ensures c.in-2.is e.0 e.1 e.2

pub returns-in-3 : goal.returns-in-3
returns-in-3 c = taken-final _ _ _ _ _ _ (omega (arith, c.in-3.is)) c.final_at.result c.requires.0 c.final_at.ensures c.in-3.is c.mark.ensures

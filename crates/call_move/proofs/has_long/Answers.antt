-- Record by record, as the definition has them. Assumes nothing.
use Rattle.std.proofs.Common.{arith, sym, ◌∙◌}
use Rattle.call_move.specs.LongLaws.{long-start, long-here, long-next, long-end}
use Rattle.call_move.proofs.has_long.Goals as goal

pub loop-i-init : goal.loop-i-init
loop-i-init c = long-start c.args.file.now

pub returns-then-long_at : goal.returns-then-long_at
returns-then-long_at c = sym (long-here c.args.file.now c.loop-i.i (omega arith) (sym c.long_at.ensures ∙ c.if-long_at.true)) ∙ c.loop-i.invariant

pub loop-i-preserved : goal.loop-i-preserved
loop-i-preserved c = sym (long-next c.args.file.now c.loop-i.i (omega arith) (sym c.long_at.ensures ∙ c.if-long_at.false)) ∙ c.loop-i.invariant

pub returns : goal.returns
returns c = sym (long-end c.args.file.now c.loop-i.i (omega arith)) ∙ c.loop-i.invariant

-- The file that is answered is what is handed over of the input.
use Rattle.std.proofs.Common.{rules}
use Rattle.plan_check.proofs.Whole.{handed, answers}
use Rattle.plan_check.proofs.check.Goals as goal

pub returns : goal.returns
returns g c =
    answers _ (λ d e p. search rules) _ _ _ c.in_ok-n.n c.read.new.buffer _ _ c.map_err-2.ensures.cases
    (handed _ _ c.in_ok-n.n c.read.new.buffer c.in_ok-n.ensures.cases c.read.ensures.bytes) c.answer.ensures

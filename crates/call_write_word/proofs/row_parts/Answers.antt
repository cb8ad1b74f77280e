-- What a row hands over to: nothing where its length is 0, and else what its rule's body does. Assumes nothing.
use Rattle.std.proofs.Common.{rules, arith, ◌∙◌}
use Rattle.call_write_word.specs.Parts.{parts_of}
use Rattle.call_write_word.proofs.Views.{parts-some}
use Rattle.call_write_word.proofs.row_parts.Goals as goal

pub returns-then-row-eq0 : goal.returns-then-row-eq0
unfolding parts_of
returns-then-row-eq0 c = search rules

pub returns : goal.returns
returns c = c.body_parts.ensures ∙ parts-some c.args.rules.now c.args.row (λ e. omega (arith, e))

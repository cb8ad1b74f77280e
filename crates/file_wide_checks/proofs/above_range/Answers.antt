-- Of a record that is no rule, the test of its first eight bytes; of a rule, the definition's text. Assumes nothing.
use Rattle.std.proofs.Common.{ap, ◌∙◌, arith}
use Rattle.spec_file.specs.Forms.{eight}
use Rattle.spec_file.specs.Refusals.{above_range_in}
use Rattle.file_wide_checks.specs.Scanning.{other-range, rule-range, high-symbols}
use Rattle.file_wide_checks.proofs.above_range.Goals as goal

pub returns-then-r-ne-RULE_KIND : goal.returns-then-r-ne-RULE_KIND
returns-then-r-ne-RULE_KIND c = c.above_range.ensures ∙ ap (above_range_in eight) c.front.ensures ∙ other-range c.args.r c.if-r-ne-RULE_KIND.true

pub returns : goal.returns
returns c = rw (c.high_symbol.ensures, high-symbols c.args.r (omega arith)) (rule-range c.args.r c.if-r-ne-RULE_KIND.false)

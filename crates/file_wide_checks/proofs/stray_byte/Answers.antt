-- By the kind, as the definition has it. Assumes nothing.
use Rattle.std.proofs.Common.{◌∙◌, arith}
use Rattle.std.proofs.lemmas.Bool.{ne_eqb}
use Rattle.spec_file.specs.Refusals.{stray_byte_in}
use Rattle.file_wide_checks.specs.Scanning.{rule-stray, transition-stray, final-stray, stray-symbols, byte-any}
use Rattle.file_wide_checks.proofs.stray_byte.Goals as goal

pub returns-then-kind-eq-RULE_KIND : goal.returns-then-kind-eq-RULE_KIND
returns-then-kind-eq-RULE_KIND c = rw (c.stray_symbol.ensures, stray-symbols c.args.r (omega arith)) (rule-stray c.args.r c.if-kind-eq-RULE_KIND.true)

pub returns-then-kind-eq-TRANSITION_KIND : goal.returns-then-kind-eq-TRANSITION_KIND
returns-then-kind-eq-TRANSITION_KIND c = c.some_byte.ensures ∙ byte-any c.args.r 11 4 (omega arith) ∙ transition-stray c.args.r c.if-kind-eq-TRANSITION_KIND.true

pub returns-then-kind-eq-FINAL_KIND : goal.returns-then-kind-eq-FINAL_KIND
returns-then-kind-eq-FINAL_KIND c =
    c.some_byte-then-kind-eq-FINAL_KIND.ensures ∙ byte-any c.args.r 13 2 (omega arith) ∙ final-stray c.args.r c.if-kind-eq-FINAL_KIND.true

pub returns : goal.returns
unfolding stray_byte_in
returns c = rw (ne_eqb _ _ c.if-kind-eq-RULE_KIND.false, ne_eqb _ _ c.if-kind-eq-TRANSITION_KIND.false, ne_eqb _ _ c.if-kind-eq-FINAL_KIND.false)

-- Some step is in both words where their `and` is not 0. Assumes nothing.
use mathlib.Core.Path.{refl, ap₂, ◌∙◌}
use Prim.Native.Nat.{ℕ}
use borrow.Author.Rules.{rules}
use borrow.Author.Tests.{le-leb, lt-leb}
use Rattle.member_laws.specs.Spans.{meets}
use Rattle.member_laws.specs.SpanLaws.{meets_word}
use Rattle.member_spans.proofs.rule_splits.Statement.{statement}
use Rattle.member_spans.proofs.rule_splits.Tie as tie

returns : tie.Need-returns-then-rule-lt2
returns c = rw (lt-leb _ _ c.if-rule-lt2.true) refl

returns-2 : tie.Need-returns
returns-2 c =
    let x = c.before.ends_of-left in
    let y = c.starts_of-right in
    rw (le-leb _ _ c.before.before.if-rule-lt2.false)
    (meets_word x.result y.result x.type_inv ∙ ap₂ (λ (u v : ℕ). meets u v) x.ensures y.ensures)

pub rule_splits_spec : {M : Type 1} → statement M
rule_splits_spec =
    tie.close
    (tie.spec
    (λ c. search rules)
    returns
    (λ c. search rules)
    (λ c κs. search rules)
    (λ c. search rules)
    (λ c κs. search rules)
    returns-2)

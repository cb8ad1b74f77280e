-- The loop's invariant: `out` is `set` with the heads of those of the first rules that pass.
use Rattle.std.specs.Fn.{FnReturnsAt}
use Rattle.member_sets.specs.Gathering.{GatheredUpto}
use Rattle.member_sets.proofs.with_heads.Given as goal

abbrev pub invariant-loop-rule : goal.invariant-loop-rule
invariant-loop-rule g l = GatheredUpto l.rules (λ x b. FnReturnsAt g.F.Fn l.test x b) l.set l.rule-index l.out

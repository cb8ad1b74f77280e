-- Where no bit from `p` on is set, there is no other member. Assumes nothing.
use Rattle.std.proofs.Common.{◌≡◌, sym, ap, ap₂, ◌∙◌, arith}
use mathlib.Core.Bool.{Bool, ◌&&◌}
use Rattle.spec_file.specs.Limits.{nonterminals}
use Rattle.spec_calls.proofs.MemberLaws.{members-done}
use Rattle.search_laws.specs.LinkedLaws.{linked-none, linked-next}
use Rattle.search_laws.specs.States.{each_linked}
use Rattle.search_passes.proofs.all_linked.Goals as goal

pub loop-p-init : goal.loop-p-init
loop-p-init c = linked-none c.args.starts c.args.table.now

pub returns-then-starts-place-eq0 : goal.returns-then-starts-place-eq0
returns-then-starts-place-eq0 c =
    let a = c.args in
    c.loop-p.invariant ∙ sym (ap (each_linked a.table.now) (members-done a.starts c.loop-p.p nonterminals (omega arith) c.if-starts-place-eq0.true))

pub loop-p-preserved : goal.loop-p-preserved
loop-p-preserved c = ap₂ (λ (x y : Bool). x && y) c.loop-p.invariant c.linked-all.ensures ∙ sym (linked-next c.args.starts c.args.table.now c.loop-p.p)

pub returns : goal.returns
returns c =
    let e : c.loop-p.p ≡ nonterminals = omega arith in rw e at c.loop-p.invariant

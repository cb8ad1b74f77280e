-- No remark, then one remark more at a time, and all of them. Assumes nothing.
use Rattle.std.proofs.Common.{◌≡◌, ap, ◌∙◌, arith, List, ℕ}
use Rattle.relation.specs.Relation.{states, identity}
use Rattle.relation.specs.Stored.{with_relation, relations_of}
use Rattle.spec_file.specs.Limits.{terminals}
use Rattle.file_tables.specs.Tables.{remarks_below}
use Rattle.file_tables.specs.LetterLaws.{remarks-none, remarks-next, remarks-all}
use Rattle.file_tables.proofs.without_transitions.Goals as goal

pub loop-c-init : goal.loop-c-init
loop-c-init c = remarks-none states

pub loop-c-preserved : goal.loop-c-preserved
loop-c-preserved c =
    let l = c.loop-c in
    c.store.ensures
    ∙ ap (with_relation l.table l.c) c.identity-stays.ensures
    ∙ ap (λ (t : List ℕ). with_relation t l.c (identity states)) l.invariant
    ∙ remarks-next states l.c (omega arith) (omega arith)

pub returns : goal.returns
returns c =
    let l = c.loop-c in
    let e : l.c ≡ terminals = omega arith in
    l.invariant ∙ ap (λ (j : ℕ). relations_of (remarks_below states j) terminals) e ∙ remarks-all states

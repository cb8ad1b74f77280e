-- The lists are the last part of the table. Assumes nothing.
use Rattle.std.proofs.Common.{List, ℕ, ◌-◌, length, take, drop, subst}
use Rattle.search_order.specs.Places.{NextPlace}
use Rattle.search_laws.specs.StepLaws.{lent-lists}
use Rattle.search_skip.proofs.next_row_in.Goals as goal

pub returns : goal.returns
returns c =
    let t = c.args.table.now in
    let q : NextPlace (take (length t - 41472) (drop 41472 t)) (take c.args.n c.args.rules.now) c.args.place c.next_row.result = c.next_row.ensures in
    subst (λ (l : List ℕ). NextPlace l (take c.args.n c.args.rules.now) c.args.place c.next_row.result) (lent-lists t) q

-- A body fits, by its number of symbols. Assumes nothing.
use Rattle.std.proofs.Common.{◌≡◌, arith, eq-eqb, get_or}
use Rattle.spec_calls.specs.Rows.{row_of}
use Rattle.call_write_fit.specs.ByValue.{body_by}
use Rattle.call_write_fit.proofs.Views.{fits_one, fits-two}
use Rattle.call_write_fit.proofs.body_fits.Goals as goal

pub returns-in-0 : goal.returns-in-0
unfolding body_by
returns-in-0 c = simp (eq-eqb _ _ c.in-0.is)

pub returns-in-1 : goal.returns-in-1
returns-in-1 c =
    let a = c.args in
    fits_one a.i (get_or a.rule 1 0) (get_or a.rule 2 0) (get_or a.rule 3 0) (row_of a.row) (row_of a.left) (row_of a.right) _ _
    c.pointer_fits-first.ensures c.symbol_length-n.ensures (λ e. let z : ⊥ = omega (arith, e, c.in-1.is) in z) _ c.capped_sum.ensures c.in-1.is

pub returns-in_default : goal.returns-in_default
returns-in_default c =
    let a = c.args in
    let some : get_or a.rule 1 0 ≡ 0 → ⊥ = λ e. omega (arith, e) in
    let more : get_or a.rule 1 0 ≡ 1 → ⊥ = λ e. omega (arith, e) in
    fits-two a.i (get_or a.rule 1 0) (get_or a.rule 2 0) (get_or a.rule 3 0) (row_of a.row) (row_of a.left) (row_of a.right) _ _
    c.pointer_fits-first-in_default.ensures c.symbol_length-n-in_default.ensures some _ _ _ c.pointer_fits-second.ensures c.symbol_length-m.ensures
    c.capped_sum-in_default.ensures more

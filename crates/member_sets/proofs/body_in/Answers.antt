-- One case for each size of the body.
use Rattle.std.proofs.Common.{◌≡◌, refl, ap₂, Bool, ◌&&◌, get_or, arith, ne_eqb}
use Rattle.member_sets.proofs.body_in.Goals as goal

pub returns-in-0 : goal.returns-in-0
returns-in-0 c = rw c.in-0.is refl

pub returns-in-1 : goal.returns-in-1
returns-in-1 c = rw c.in-1.is c.among.ensures

pub returns-in_default : goal.returns-in_default
returns-in_default c =
    let some : get_or c.args.rule 1 0 ≡ 0 → ⊥ = λ e. omega (arith, e) in
    let more : get_or c.args.rule 1 0 ≡ 1 → ⊥ = λ e. omega (arith, e) in
    rw (ne_eqb _ _ some, ne_eqb _ _ more) (ap₂ (λ (a b : Bool). a && b) c.among-in_default.ensures c.among-in_default-2.ensures)

-- By the kind, as the definition asks for it. Assumes nothing.
use Rattle.std.proofs.Common.{◌≡◌, refl, sym, ne_eqb, arith, get_or}
use Rattle.std.proofs.Math.Bool.{or-false}
use Rattle.spec_file.specs.Refusals.{stray_byte_in}
use Rattle.file_checks.proofs.stray_byte.Goals as goal

pub returns-in-1 : goal.returns-in-1
unfolding stray_byte_in
returns-in-1 c = rw c.in-1.is (sym (or-false _))

pub returns-in-2 : goal.returns-in-2
unfolding stray_byte_in
returns-in-2 c = rw c.in-2.is (sym (or-false _))

pub returns-in-3 : goal.returns-in-3
unfolding stray_byte_in
returns-in-3 c = rw c.in-3.is refl

pub returns-in_default : goal.returns-in_default
unfolding stray_byte_in
returns-in_default c =
    let kind = get_or c.args.r 0 0 in
    let no_rule : kind ≡ 1 → ⊥ = λ e. omega (arith, e) in
    let no_move : kind ≡ 2 → ⊥ = λ e. omega (arith, e) in
    let no_final : kind ≡ 3 → ⊥ = λ e. omega (arith, e) in
    rw (ne_eqb _ _ no_rule, ne_eqb _ _ no_move, ne_eqb _ _ no_final) refl

-- A shift makes the state's place, which is or'ed in. Assumes nothing.
use Rattle.std.proofs.Common.{ap, ◌∙◌, le_refl, arith, bit_or}
use Prim.Native.Nat.{◌^◌}
use native.Mathlib.Nat.{one-mul}
use lib.Pow.{shl_exact}
use Rattle.relation.specs.Relation.{states}
use Rattle.file_tables.specs.FinalLaws.{state-or, state-none}
use Rattle.file_tables.proofs.with_state.Goals as goal

pub returns-then-state-ge-STATES : goal.returns-then-state-ge-STATES
returns-then-state-ge-STATES c = state-none states c.args.mask c.args.state c.ranges.mask.fits (omega arith)

pub returns : goal.returns
returns c =
    let a = c.args in
    ap (bit_or a.mask) (shl_exact {a = 1} 1 a.state states (le_refl 2) (omega arith) ∙ one-mul (2 ^ a.state))
    ∙ state-or states a.mask a.state c.ranges.mask.fits (omega arith)

-- The start of a row, without a sum. Assumes nothing.
use mathlib.Core.Path.{ap}
use Prim.Native.Nat.{ℕ, ◌+◌, ◌-◌}
use native.Mathlib.Omega.{arith}
use lib.ListN.{set}
use borrow.Author.Rules.{rules}
use Rattle.member_laws.specs.CellLaws.{row-start, row-product, cell-low}
use Rattle.member_table.proofs.put.Statement.{statement}
use Rattle.member_table.proofs.put.Tie as tie

mul_at : tie.Need-overflow_mul-at
mul_at c = omega (arith, row-product c.args.i (omega arith))

add_at : tie.Need-overflow_add-at
add_at c = omega (arith, row-product c.args.i (omega arith))

mul-table : tie.Need-offset_bounds-table-at
mul-table c = omega (arith, row-product c.args.i (omega arith))

slice-write-table : tie.Need-bounds-table-at
slice-write-table c = let a = c.args in omega (arith, row-start a.i (omega arith), cell-low a.i a.j (omega arith) (omega arith))

returns : tie.Need-returns
returns c = let a = c.args in ap (λ (x : ℕ). set a.table.now (x + (a.j - a.i)) a.value) (row-start a.i (omega arith))

pub put_spec : {M : Type 1} → statement M
put_spec =
    tie.close
    (tie.spec (λ c. search rules) mul_at (λ c. search rules) add_at mul-table slice-write-table (λ c. search rules) returns)

-- `search_decide::remember_hint` meets its contract: other hints leave links and lists as they are. Assumes nothing.
use Prim.Native.Nat.{◌+◌}
use native.Mathlib.Omega.{arith}
use lib.ListN.{length-set}
use borrow.Author.Rules.{rules}
use Rattle.spec_basics.specs.Tests.{not-fails}
use Rattle.search_laws.specs.StepLaws.{remembers-none, remembers-one, remembers-two}
use Rattle.search_decide.proofs.remember_hint.Statement.{statement}
use Rattle.search_decide.proofs.remember_hint.Tie as tie

returns : tie.Need-returns-then-not-found
returns c =
    let s = c.before.before.before.before.before in
    remembers-one s.args.table.now s.args.found.slot c.cell.result s.requires.above s.requires.below

cell-requires-2 : tie.Need-cell-row-requires
cell-requires-2 c κs =
    let s = c.before.before.before.before.before in
    omega (arith, s.requires.row (not-fails s.args.found.covers c.before.if-not-found.false), s.requires.used)

slice-write-table-3 : tie.Need-bounds-table-slot-then-found
slice-write-table-3 c =
    let s = c.before.before.before.before.before.before.before in
    omega (arith, length-set s.args.table.now (4352 + s.args.fate.head) c.before.cell-row.result, s.requires.table, s.requires.below)

returns-2 : tie.Need-returns-then-found
returns-2 c =
    let s = c.before.before.before.before.before.before.before in
    remembers-two s.args.table.now (4352 + s.args.fate.head) s.args.found.slot c.before.cell-row.result (omega arith) (omega arith) s.requires.above s.requires.below

returns-3 : tie.Need-returns-else-found
returns-3 c = remembers-none c.before.before.before.before.before.args.table.now

pub remember_hint_spec : {M : Type 1} → statement M
remember_hint_spec = tie.close (tie.spec (λ c κs. search rules) (λ c. search rules) (λ c. search rules) (λ c. search rules) returns cell-requires-2 (λ c. search rules) (λ c. search rules) (λ c. search rules) (λ c. search rules) (λ c. search rules) slice-write-table-3 (λ c. search rules) returns-2 returns-3)

-- `search_skip::first_in` meets its contract: the lists are the last part of the table. Assumes nothing.
use mathlib.Core.Path.{sym, subst}
use mathlib.Core.List.{List}
use Prim.Native.Nat.{ℕ}
use lib.ListN.{take}
use lib.Seq.{length-take-le}
use borrow.Author.Rules.{rules}
use Rattle.search_order.specs.Places.{FirstPlace}
use Rattle.search_laws.specs.StepLaws.{lent-lists}
use Rattle.search_skip.proofs.first_in.Statement.{statement}
use Rattle.search_skip.proofs.first_in.Tie as tie

returns : tie.Need-returns
returns c =
    let a = c.args in
    subst (λ (l : List ℕ). FirstPlace l (take a.n a.rules.now) 0 c.first_place.result) (lent-lists a.table.now) c.first_place.ensures

pub first_in_spec : {M : Type 1} → statement M
first_in_spec =
    tie.close
    (tie.spec (λ c. search rules) (λ c. search rules) (λ c. search rules) (λ c. sym (length-take-le c.args.n c.args.rules.now c.requires.1)) (λ c κs. search rules) returns)

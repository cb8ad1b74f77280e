-- `search_cover::put_number` meets its contract. Assumes nothing.
use Prim.Native.Nat.{◌+◌}
use native.Mathlib.Omega.{arith}
use lib.ListN.{length-set}
use borrow.Author.Rules.{rules}
use Rattle.search_cover.specs.Near.{keys_from}
use Rattle.search_cover.specs.Steps.{with_number}
use Rattle.search_cover.proofs.put_number.Statement.{statement}
use Rattle.search_cover.proofs.put_number.Tie as tie

key-there : tie.Need-bounds-near-n
key-there c = let st = c.before.before.before in omega (arith, st.requires.0, st.requires.1)

number-there : tie.Need-bounds-near-n-2
number-there c =
    let st = c.before.before.before in
    omega (arith, st.requires.0, st.requires.1, length-set st.args.near.now (keys_from + st.args.n) c.key.result)

returns : tie.Need-returns
unfolding with_number
returns c = rw (c.key.ensures, c.before.read-held.ensures)

pub put_number_spec : {M : Type 1} → statement M
put_number_spec =
    tie.close
    (tie.spec
    (λ c. search rules)
    (λ c κs. search rules)
    (λ c κs. search rules)
    (λ c. search rules)
    (λ c. search rules)
    key-there
    (λ c. search rules)
    (λ c. search rules)
    number-there
    (λ c. search rules)
    returns)

-- `search_cover::is_below` meets its contract: where the key tells, and where the effects are compared. Assumes nothing.
use mathlib.Core.Path.{sym, ap, ◌∙◌}
use Prim.Native.Nat.{ℕ}
use native.Mathlib.Omega.{arith}
use borrow.Author.Rules.{rules}
use Rattle.relation.specs.Relation.{contained}
use Rattle.relation.specs.Representation.{value}
use Rattle.search_cover.specs.Near.{key_at, effect_at}
use Rattle.search_cover.specs.NearLaws.{key-tells}
use Rattle.search_cover.proofs.is_below.Statement.{statement}
use Rattle.search_cover.proofs.is_below.Tie as tie

place-there : tie.Need-bounds-near-i
place-there c = let st = c.before.before in omega (arith, st.requires.0.size, st.requires.0.few, st.requires.1)

returns : tie.Need-returns-then-not-within
returns c =
    let st = c.before.before.before.before in
    let w = st.args.near.now in
    let i = st.args.i in
    let e = st.args.effect in
    sym (key-tells (effect_at w i) (value e) (key_at w i) st.args.key (st.requires.0.numbers.keys i st.requires.1) st.requires.2 (sym c.before.within.ensures ∙ c.if-not-within.true))

row-there : tie.Need-effect_of-held-requires
row-there c κs =
    let st = c.before.before.before.before in (st.requires.0.size, omega (arith, st.requires.0.few, st.requires.1), st.requires.0.numbers.inside st.args.i st.requires.1)

returns-2 : tie.Need-returns
returns-2 c =
    let st = c.before.before.before.before.before.before in
    let e = st.args.effect in
    c.contained.ensures ∙ ap (λ (x : ℕ). contained x (value e)) c.before.effect_of-held.ensures

pub is_below_spec : {M : Type 1} → statement M
is_below_spec =
    tie.close (tie.spec (λ c. search rules) (λ c. search rules) place-there (λ c κs. search rules) returns row-there (λ c κs. search rules) returns-2)

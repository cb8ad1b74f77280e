-- A turn keeps a row or drops it, and after the last the count of those kept is noted. Assumes nothing.
use Rattle.std.proofs.Common.{◌≡◌, ℕ, subst, arith}
use Rattle.relation.specs.Representation.{value}
use Rattle.search_cover.specs.Near.{count_of}
use Rattle.search_cover.specs.DropLaws.{Dropping, drop-next, drop-ended}
use Rattle.search_cover.proofs.drop_above.Goals as goal

pub loop-i-preserved : goal.loop-i-preserved
loop-i-preserved c = drop-next (value c.args.effect) c.args.near.now c.requires c.loop-i.invariant (omega arith) c.keep_row-k.ensures

pub returns : goal.returns
returns c =
    let w = c.args.near.now in
    let e = value c.args.effect in
    let l = c.loop-i in
    let q : l.i ≡ count_of w = omega arith in
    drop-ended e w c.requires (subst (λ (i : ℕ). Dropping e w i l.k l.near) q l.invariant)

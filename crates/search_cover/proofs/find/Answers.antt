-- `search_cover::find` meets its contract: a hint covers, or the rows are looked through. Assumes nothing.
use Rattle.std.proofs.Common.{◌<◌, arith}
use Rattle.std.proofs.Math.Path.{refl}
use Rattle.search_state.specs.Layout.{heads}
use Rattle.search_cover.specs.NearLaws.{ready-wider}
use Rattle.search_cover.specs.SeekLaws.{look-found, hint-found, near-ready}
use Rattle.search_cover.proofs.find.Goals as goal

pub returns-then-known : goal.returns-then-known
returns-then-known c = λ rows a hx he d g known slot. hint-found d a (omega (arith, hx)) g _ slot refl refl (known c.if-known.true)

pub look_through-requires : goal.look_through-requires
look_through-requires c =
    let x = c.args.head in
    let hx : x < heads = omega arith in
    let k = c.bring.ensures c.requires.rows c.requires.leads c.requires.beside in
    ready-wider (near-ready c.requires.leads x hx k.0 k.1)

pub returns : goal.returns
returns c =
    λ rows a hx he d g known slot.
    let k = c.bring.ensures rows d g in
    look-found d a (omega (arith, hx)) k.0 (rw hx k.1) _ slot _ (rw he c.look_through.ensures)

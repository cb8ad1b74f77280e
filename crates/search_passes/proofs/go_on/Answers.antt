-- `search_passes::go_on` meets its contract: at the place of the next right, or from the next left or rule on. Assumes nothing.
use mathlib.Core.Path.{◌≡◌, sym, ◌∙◌}
use lib.ListN.{length, take}
use lib.Seq.{length-take-le}
use native.Mathlib.Omega.{arith}
use Rattle.search_order.specs.PlacesLeftLaws.{places-next}
use Rattle.search_state.specs.declared.Place.{Place}
use Rattle.search_order.specs.PlaceLaws.{follows-right}
use Rattle.search_state.specs.Layout.{lists_in}
use Rattle.search_laws.specs.Problems.{with_rules}
use Rattle.search_laws.specs.RunningLaws.{stand-on}
use Rattle.search_passes.proofs.go_on.Goals as goal

pub returns-then-right-ne-END : goal.returns-then-right-ne-END
returns-then-right-ne-END c P L B j₀ first j₁ j z rows here y next =
    let st = c.args.state in
    let rs = take st.rules c.args.rules.now in
    let Q = with_rules P rs in
    let r = c.after_in-right in
    let q : Place = record { rule = st.place.rule; left = st.place.left; right = r.result } in
    let n : st.rules ≡ length rs = sym (length-take-le st.rules c.args.rules.now c.requires.0.opens.count) in
    rw (c.stand_at.ensures, c.with_right.ensures)
    (stand-on Q B j₀ st rows n y (next q (follows-right (lists_in c.args.table.now) rs st.place r.result r.ensures c.if-right-ne-END.true)) here)

pub next_row_in-place-requires : goal.next_row_in-place-requires
next_row_in-place-requires c = (c.requires.0.opens.table, c.requires.0.opens.count, sym c.after_in-right.ensures ∙ c.if-right-ne-END.false)

pub go_from-requires : goal.go_from-requires
go_from-requires c =
    let p = c.next_row_in-place in
    let a = c.requires.2 in
    let size = length-take-le c.args.state.rules c.args.rules.now a.count in
    (c.requires.0, record { table = a.table; count = a.count; old = a.old; measured = a.measured; places = (places-next (omega (arith, c.requires.1, size)) p.ensures a.places).0 })

pub returns : goal.returns
returns c P L B j₀ first j₁ j z rows here y next =
    let p = c.next_row_in-place in
    c.go_from.ensures P L B j₀ first j₁ j z rows y (next p.result p.ensures)

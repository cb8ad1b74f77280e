-- `search_cover::fill` meets its contract. The loop's invariant: whatever rows the words had, `n` live ones are numbered, those before `row`, to which
-- the link in `cell` leads. The measure is the room for numbers. Assumes nothing.
use mathlib.Core.Path.{◌≡◌, sym, ◌∙◌, subst}
use mathlib.Core.List.{List}
use Prim.Native.Nat.{ℕ, ◌+◌, ◌-◌, ◌≤◌, ◌<◌}
use native.Mathlib.Omega.{arith}
use lib.ListN.{length}
use borrow.Author.Rules.{rules}
use Rattle.spec_order.specs.Journal.{Row}
use Rattle.search_state.specs.Layout.{row_cells, heads, head_cell}
use Rattle.search_cover.specs.Near.{near_words, Beside}
use Rattle.search_cover.specs.NearLaws.{with-length, noted-length}
use Rattle.search_cover.specs.Seeking.{Leads, Copies}
use Rattle.search_cover.specs.SeekLaws.{copy-first, copy-rises, copy-next, copy_ended}
use Rattle.search_cover.specs.Steps.{with_number, noted}
use Rattle.search_cover.proofs.fill.Statement.{statement}
use Rattle.search_cover.proofs.fill.Tie as tie

abbrev invariant-loop-row : tie.invariant-loop-row
invariant-loop-row near₀ table used head cell₀ row₀ n₀ near cell row n =
    (length near ≡ near_words) × (n ≤ row) × (n ≤ used) × ((rows : List (Row ℕ)) → Leads rows used table → Beside rows near₀ → Copies head rows table row cell n near)

abbrev decreases-loop-row : tie.decreases-loop-row
decreases-loop-row near₀ table used head cell₀ row₀ n₀ near cell row n = row_cells - n

add-cell : tie.Need-overflow_add-cell invariant-loop-row decreases-loop-row
add-cell c = search rules

mul-position : tie.Need-offset_bounds-table-cell invariant-loop-row decreases-loop-row
mul-position c = search rules

cell-there : tie.Need-bounds-table-cell invariant-loop-row decreases-loop-row
cell-there c = let st = c.before.before.before in omega (arith, st.requires.leads.covering.size)

loop-holds : tie.Need-loop-row-init invariant-loop-row decreases-loop-row
loop-holds c =
    let st = c.before.before.before.before in
    let x = st.args.head in
    let hx : x < heads = omega arith in (
      st.requires.beside.size,
      omega arith,
      omega arith,
      λ rows d g. subst (λ (v : ℕ). Copies x rows st.args.table.now v (head_cell x) 0 st.args.near.now) (sym c.position-row.ensures) (copy-first d x hx g.rows_in),
    )

put-requires : tie.Need-put_number-requires invariant-loop-row decreases-loop-row
put-requires c κs =
    let l = c.before.before in
    let st = l.before.before.before.before.before in
    (l.loop-row.invariant.0, omega (arith, l.loop-row.invariant.1, st.requires.leads.limit), omega (arith, st.requires.leads.limit))

link-there : tie.Need-bounds-table-cell-in-loop-row invariant-loop-row decreases-loop-row
link-there c =
    let st = c.before.before.before.before.before.before.before.before.before.before.before in
    omega (arith, st.requires.leads.covering.size, st.requires.leads.limit)

loop-less : tie.Need-loop-row-smaller invariant-loop-row decreases-loop-row
loop-less c =
    let l = c.before.before.before.before.before.before.before in
    let st = l.before.before.before.before.before in
    omega (arith, l.loop-row.invariant.1, st.requires.leads.limit)

loop-again : tie.Need-loop-row-preserved invariant-loop-row decreases-loop-row
loop-again c =
    let p = c.before.before.before.before in
    let l = p.before.before.before in
    let st = l.before.before.before.before.before in
    let x = st.args.head in
    let hx : x < heads = omega arith in
    let w = l.loop-row.near in
    let n = l.loop-row.n in
    let v = l.loop-row.row in
    let t = st.args.table.now in
    let size = l.loop-row.invariant.0 in
    let room : n < row_cells = omega (arith, l.loop-row.invariant.1, st.requires.leads.limit) in
    let hv : v < st.args.used = omega arith in
    let here = l.loop-row.invariant.3 in
    rw p.put_number.ensures (
      with-length w n v size room,
      omega (arith, l.loop-row.invariant.1, c.position-row-in-loop-row.ensures, copy-rises st.requires.leads x hx (here st.requires.rows st.requires.leads st.requires.beside) hv),
      omega (arith, l.loop-row.invariant.1),
      λ rows d g. subst (λ (y : ℕ). Copies x rows t y v (n + 1) (with_number w n v)) (sym c.position-row-in-loop-row.ensures) (copy-next d x hx (here rows d g) hv size),
    )

same_length : tie.Need-shape_of-near invariant-loop-row decreases-loop-row
unfolding noted
same_length c =
    let l = c.before in
    let st = l.before.before.before.before.before in
    noted-length l.loop-row.near st.args.head l.loop-row.n l.loop-row.cell l.loop-row.invariant.0 ∙ sym st.requires.beside.size

returns : tie.Need-returns invariant-loop-row decreases-loop-row
unfolding noted
returns c =
    let l = c.before in
    let st = l.before.before.before.before.before in
    let x = st.args.head in
    let hx : x < heads = omega arith in
    let n = l.loop-row.n in
    λ rows d g. copy_ended d x hx (l.loop-row.invariant.3 rows d g) l.loop-row.invariant.0 (omega (arith, l.loop-row.invariant.2, d.size)) (omega arith)

pub fill_spec : {M : Type 1} → statement M
fill_spec =
    tie.close
    (tie.spec
    invariant-loop-row
    decreases-loop-row
    (λ c. search rules)
    (λ c. search rules)
    cell-there
    (λ c κs. search rules)
    loop-holds
    put-requires
    (λ c. search rules)
    link-there
    (λ c κs. search rules)
    (λ c. search rules)
    loop-less
    loop-again
    (λ c. search rules)
    (λ c. search rules)
    (λ c. search rules)
    (λ c. search rules)
    same_length
    returns)

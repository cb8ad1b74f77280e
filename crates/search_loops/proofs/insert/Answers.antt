-- Each turn of the loop reads a row, has it compared, stores in its place what `search_rows::replacement` makes of it, and has
-- `search_retire::step`, which is lent the table, find the next. Assumes nothing.
use Rattle.std.proofs.Common.{Option, rules, arith, ◌<◌, ℕ, List, ap, ◌∙◌, sym, subst, subst₂, length, slice_set, eqb}
use Rattle.relation.specs.Relation.{contained}
use Rattle.relation.specs.Representation.{none}
use Rattle.spec_calls.specs.Rows.{row_of, blank}
use Rattle.search_rows.specs.Meanings.{candidate_of}
use Rattle.search_state.specs.declared.Fate.{Fate}
use Rattle.search_state.specs.Layout.{heads}
use Rattle.search_retire.specs.declared.RetireCursor.{RetireCursor}
use Rattle.search_retire.specs.Clearing.{InClearing, clears_left}
use Rattle.search_retire.specs.ClearLaws.{clearing-same, clearing-at, clearing-may, clearing-done, clears-begun, clears-stepped}
use Rattle.search_loops.proofs.insert.Goals as goal

pub loop-next-init : goal.loop-next-init
loop-next-init c =
    let may = c.requires in
    let h : c.args.candidate.head < heads = omega arith in
    subst (λ (z : Option RetireCursor). InClearing contained row_of blank c.args.state.terms.pass (candidate_of c.args.candidate) c.args.state.counts.used c.args.found c.args.journal.now c.args.table.now z c.args.journal.now c.args.table.now) (sym c.begin-next.ensures)
    (clears-begun h c.args.fate (ap (λ (z : Fate). z.head) may.fate) (ap (λ (z : Fate). z.covered) may.fate) (ap (λ (z : Fate). z.full) may.fate ∙ ap (eqb c.args.state.counts.used) may.rows) may.pass may.room may.limit may.covering may.finds)

pub slice_copy_out-held : goal.slice_copy_out-held
slice_copy_out-held c =
    let h : c.args.candidate.head < heads = omega arith in
    clearing-at h (clearing-same c.in-Some.is c.loop-next.invariant)

pub offset_bounds-journal-row : goal.offset_bounds-journal-row
offset_bounds-journal-row c =
    let h : c.in-Some.cursor.row < length c.loop-next.journal = slice_copy_out-held c in
    search rules

pub offset_bounds-journal-row-in-Some : goal.offset_bounds-journal-row-in-Some
offset_bounds-journal-row-in-Some c =
    let h : c.args.candidate.head < heads = omega arith in
    let i : c.in-Some.cursor.row < length c.loop-next.journal = clearing-at h (clearing-same c.in-Some.is c.loop-next.invariant) in
    search rules

pub bounds-journal-row : goal.bounds-journal-row
bounds-journal-row c =
    let h : c.args.candidate.head < heads = omega arith in
    clearing-at h (clearing-same c.in-Some.is c.loop-next.invariant)

pub step-next-requires : goal.step-next-requires
step-next-requires c =
    let h : c.args.candidate.head < heads = omega arith in
    clearing-may h (clearing-same c.in-Some.is c.loop-next.invariant)

pub loop-next-smaller : goal.loop-next-smaller
unfolding none
loop-next-smaller c =
    let h : c.args.candidate.head < heads = omega arith in
    let e = c.step-next.ensures in
    subst₂ (λ (z y : Option RetireCursor). clears_left z < clears_left y) (sym e.0) (sym c.in-Some.is)
    (clears-stepped h (clearing-same c.in-Some.is c.loop-next.invariant) c.compare-compared.result.larger c.compare-compared.ensures.1 c.replacement.result c.replacement.ensures).1

pub loop-next-preserved : goal.loop-next-preserved
unfolding none
loop-next-preserved c =
    let h : c.args.candidate.head < heads = omega arith in
    let e = c.step-next.ensures in
    subst₂ (λ (z : Option RetireCursor) (u : List ℕ). InClearing contained row_of blank c.args.state.terms.pass (candidate_of c.args.candidate) c.args.state.counts.used c.args.found c.args.journal.now c.args.table.now z (slice_set c.loop-next.journal c.in-Some.cursor.row c.replacement.result) u) (sym e.0) (sym e.1)
    (clears-stepped h (clearing-same c.in-Some.is c.loop-next.invariant) c.compare-compared.result.larger c.compare-compared.ensures.1 c.replacement.result c.replacement.ensures).0

pub returns : goal.returns
returns c = clearing-done (clearing-same c.in_default.is c.loop-next.invariant)

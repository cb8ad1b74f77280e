-- Each turn glances over those that are known to be covered, reads the two rows, forms a candidate, looks for a row that covers it, decides its fate,
-- inserts it or not and goes on to the next: the facts of proofs/Turn, at what these steps gave. Assumes nothing.
use Rattle.std.proofs.Common.{rules, arith, T, ◌<◌, ◌*◌, ◌^◌}
use Rattle.relation.specs.Relation.{states}
use Rattle.relation.specs.Representation.{none, value, value-lt}
use Rattle.search_state.specs.Layout.{heads}
use Rattle.search_laws.specs.ProblemLaws.{may-form, may-look, may-insert, may-keep}
use Rattle.search_laws.specs.RunLaws.{left-inside, right-inside}
use Rattle.search_laws.specs.Advancing.{may-advance}
use Rattle.search_glance.specs.GlanceLaws.{may-glance}
use Rattle.search_loops.proofs.Turn.{at-going, not-going, seen, looked, considered-here, fewer, runs-on, near-then}
use Rattle.search_loops.proofs.run.Goals as goal
use Rattle.search_state.specs.Phases.{is_going}

pub loop-state-init : goal.loop-state-init
loop-state-init c = record { runs = c.requires.0; near = c.requires.1 }

pub glance-tried-requires : goal.glance-tried-requires
glance-tried-requires c =
    let i = c.loop-state.invariant in
    let y : T (is_going c.loop-state.state.phase) = at-going c.in-Going.is in
    may-glance i.runs y (i.near y)

pub slice_copy_out-left : goal.slice_copy_out-left
slice_copy_out-left c =
    let i = c.loop-state.invariant in
    let y : T (is_going c.loop-state.state.phase) = at-going c.in-Going.is in
    let z = seen i.runs y (i.near y) c.glance-tried.result c.glance-tried.ensures in
    left-inside z.runs.search z.goes

pub offset_bounds-journal-i : goal.offset_bounds-journal-i
offset_bounds-journal-i c =
    let h = slice_copy_out-left c in
    search rules

pub slice_copy_out-right : goal.slice_copy_out-right
slice_copy_out-right c =
    let i = c.loop-state.invariant in
    let y : T (is_going c.loop-state.state.phase) = at-going c.in-Going.is in
    let z = seen i.runs y (i.near y) c.glance-tried.result c.glance-tried.ensures in
    right-inside z.runs.search z.goes

pub offset_bounds-journal-k : goal.offset_bounds-journal-k
offset_bounds-journal-k c =
    let h = slice_copy_out-right c in
    search rules

pub form-candidate-requires : goal.form-candidate-requires
form-candidate-requires c =
    let i = c.loop-state.invariant in
    let y : T (is_going c.loop-state.state.phase) = at-going c.in-Going.is in
    let z = seen i.runs y (i.near y) c.glance-tried.result c.glance-tried.ensures in
    may-form z.runs z.goes

pub find-found-requires : goal.find-found-requires
find-found-requires c =
    let i = c.loop-state.invariant in
    let y : T (is_going c.loop-state.state.phase) = at-going c.in-Going.is in
    let z = seen i.runs y (i.near y) c.glance-tried.result c.glance-tried.ensures in
    may-look z.runs z.goes z.beside

pub insert-requires : goal.insert-requires
unfolding none
insert-requires c =
    let i = c.loop-state.invariant in
    let y : T (is_going c.loop-state.state.phase) = at-going c.in-Going.is in
    let r = c.glance-tried.result in
    let z = seen i.runs y (i.near y) r c.glance-tried.ensures in
    let k = c.form-candidate.result in
    may-insert z.runs z.goes k (looked i.runs y (i.near y) r c.glance-tried.ensures k c.form-candidate.ensures c.find-found.ensures).found c.fate-fate.ensures

pub keep_near-requires : goal.keep_near-requires
unfolding none
keep_near-requires c =
    let i = c.loop-state.invariant in
    let y : T (is_going c.loop-state.state.phase) = at-going c.in-Going.is in
    let r = c.glance-tried.result in
    let z = seen i.runs y (i.near y) r c.glance-tried.ensures in
    let k = c.form-candidate.result in
    let hh : k.head < heads = omega arith in
    let fits : value k.relation < 2 ^ (states * states) = value-lt k.relation (record { fits = omega arith }, record { fits = omega arith }, record { fits = omega arith }, record { fits = omega arith }) in
    may-keep z.runs z.goes k (looked i.runs y (i.near y) r c.glance-tried.ensures k c.form-candidate.ensures c.find-found.ensures) c.fate-fate.ensures hh fits

pub advance-state-requires : goal.advance-state-requires
unfolding none
advance-state-requires c =
    let i = c.loop-state.invariant in
    let y : T (is_going c.loop-state.state.phase) = at-going c.in-Going.is in
    may-advance (considered-here i.runs y (i.near y) c.glance-tried.result c.glance-tried.ensures c.form-candidate.result c.form-candidate.ensures c.find-found.ensures c.fate-fate.ensures c.insert.ensures)

pub loop-state-smaller : goal.loop-state-smaller
unfolding none
loop-state-smaller c =
    let i = c.loop-state.invariant in
    let y : T (is_going c.loop-state.state.phase) = at-going c.in-Going.is in
    fewer i.runs y (i.near y) c.glance-tried.result c.glance-tried.ensures c.form-candidate.result c.form-candidate.ensures c.find-found.ensures c.fate-fate.ensures c.insert.ensures c.advance-state.ensures

pub loop-state-preserved : goal.loop-state-preserved
unfolding none
loop-state-preserved c =
    let i = c.loop-state.invariant in
    let y : T (is_going c.loop-state.state.phase) = at-going c.in-Going.is in
    let r = c.glance-tried.result in
    let k = c.form-candidate.result in
    let hh : k.head < heads = omega arith in
    let fits : value k.relation < 2 ^ (states * states) = value-lt k.relation (record { fits = omega arith }, record { fits = omega arith }, record { fits = omega arith }, record { fits = omega arith }) in
    record {
      runs = runs-on i.runs y (i.near y) r c.glance-tried.ensures k c.form-candidate.ensures c.find-found.ensures c.fate-fate.ensures c.insert.ensures c.advance-state.ensures;
      near = near-then i.runs y (i.near y) r c.glance-tried.ensures k c.form-candidate.ensures c.find-found.ensures c.fate-fate.ensures c.insert.ensures c.advance-state.ensures hh fits c.keep_near.ensures;
    }

pub returns : goal.returns
returns c = (not-going c.loop-state.state.phase c.in_default.not-Going, c.loop-state.invariant.runs)

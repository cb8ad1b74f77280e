-- A turn of the loop adds row i to the test; a row that is named is inside. Assumes nothing.
use Rattle.std.proofs.Common.{rules, arith, ◌≡◌, ◌<◌, map, length, refl, take}
use Rattle.std.proofs.lemmas.List.{get_or-take, length-take-le}
use Rattle.relation.specs.Representation.{none}
use Rattle.spec_order.specs.Fitting.{all_rows_fit}
use Rattle.spec_file.specs.Entries.{entry_of}
use Rattle.spec_calls.specs.Rows.{blank}
use Rattle.call_write_fit.proofs.Turn.{fits_on, len-on, inside}
use Rattle.call_write_fit.proofs.rows_fit.Goals as goal

pub loop-i-init : goal.loop-i-init
unfolding all_rows_fit
loop-i-init c = record { fits = refl; len = refl }

pub bounds-journal-lower : goal.bounds-journal-lower
bounds-journal-lower c =
    let tested : length (take c.args.rows c.args.journal.now) ≡ c.args.rows = length-take-le c.args.rows c.args.journal.now c.requires in
    inside (length c.args.journal.now) c.loop-i.i c.lower.result _ c.lower.ensures (omega arith)

pub offset_bounds-journal-lower : goal.offset_bounds-journal-lower
offset_bounds-journal-lower c =
    let tested : length (take c.args.rows c.args.journal.now) ≡ c.args.rows = length-take-le c.args.rows c.args.journal.now c.requires in
    let h : c.lower.result < length c.args.journal.now = inside (length c.args.journal.now) c.loop-i.i c.lower.result _ c.lower.ensures (omega arith) in
    search rules

pub bounds-journal-lower-in-loop-i : goal.bounds-journal-lower-in-loop-i
bounds-journal-lower-in-loop-i c =
    let tested : length (take c.args.rows c.args.journal.now) ≡ c.args.rows = length-take-le c.args.rows c.args.journal.now c.requires in
    inside (length c.args.journal.now) c.loop-i.i c.lower-in-loop-i.result _ c.lower-in-loop-i.ensures (omega arith)

pub offset_bounds-journal-lower-in-loop-i : goal.offset_bounds-journal-lower-in-loop-i
offset_bounds-journal-lower-in-loop-i c =
    let tested : length (take c.args.rows c.args.journal.now) ≡ c.args.rows = length-take-le c.args.rows c.args.journal.now c.requires in
    let h : c.lower-in-loop-i.result < length c.args.journal.now =
    inside (length c.args.journal.now) c.loop-i.i c.lower-in-loop-i.result _ c.lower-in-loop-i.ensures (omega arith) in
    search rules

pub loop-i-preserved : goal.loop-i-preserved
unfolding none
loop-i-preserved c =
    let J = c.args.journal.now in
    let rules = map entry_of c.args.rules.now in
    let l = c.loop-i in
    let tested : length (take c.args.rows J) ≡ c.args.rows = length-take-le c.args.rows J c.requires in
    let same = get_or-take c.args.rows J l.i blank (omega arith) in record {
      fits = fits_on J rules l.i _ same c.lower.result c.lower-in-loop-i.result c.lower.ensures c.lower-in-loop-i.ensures l.fit.fits _ l.invariant.fits
          c.fit_after-fit.ensures.0;
      len = len-on J rules l.i _ same _ c.fit_after-fit.ensures.1;
    }

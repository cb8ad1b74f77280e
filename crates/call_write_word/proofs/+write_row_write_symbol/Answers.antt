-- A row that may be written hands over to parts that may be written, with a lower rank; the second is written into what the first left.
-- Assumes nothing.
use Rattle.std.proofs.Common.{ℕ, rules, arith, ◌≡◌, ◌∙◌, sym, ap, map, ◌-◌, le_refl, length}
use Rattle.std.proofs.Math.ListN.{get_or-map, drop, length-take, length-drop}
use Rattle.relation.specs.Representation.{none}
use Rattle.spec_file.specs.Entries.{entry_of}
use Rattle.spec_calls.specs.Rows.{row_of, blank}
use Rattle.call_write_word.specs.Parts.{parts_of}
use Rattle.call_write_word.proofs.Handing.{handed}
use Rattle.call_write_word.proofs.Buffers.{wrote-same, wrote-rest}
use Rattle.call_write_word.proofs.Views.{inside-at}
use Rattle.call_write_word.proofs.+write_row_write_symbol.Goals as goal

pub write_row-row_parts-first-requires : goal.write_row-row_parts-first-requires
unfolding none
write_row-row_parts-first-requires t c = (inside-at c.args.rules.now c.args.journal.now c.args.row c.requires.fits.0 (c.requires.fits.1 c.args.row (le_refl c.args.row))).1

pub write_row-write_symbol-n-requires : goal.write_row-write_symbol-n-requires
unfolding none
write_row-write_symbol-n-requires t c =
    let h = handed c.requires (c.row_parts-first.ensures ∙ sym (ap (parts_of (map entry_of c.args.rules.now)) (get_or-map row_of c.args.journal.now c.args.row blank))) in
    (omega (arith, c.decreases, h.falls), h.ready)

pub write_row-write_symbol-m-requires : goal.write_row-write_symbol-m-requires
unfolding none
write_row-write_symbol-m-requires t c =
    let h = handed c.requires (c.row_parts-first.ensures ∙ sym (ap (parts_of (map entry_of c.args.rules.now)) (get_or-map row_of c.args.journal.now c.args.row blank))) in
    -- where the rest begins
    let at : ℕ = c.write_symbol-n.result in
    let then = h.then_ready c.write_symbol-n.result c.write_symbol-n.ensures.count in
    let kept : length c.write_symbol-n.new.buffer ≡ length c.args.buffer.now = search rules in
    let dropped = length-drop at c.write_symbol-n.new.buffer in
    let rest = length-take (length c.write_symbol-n.new.buffer - at) (drop at c.write_symbol-n.new.buffer) in (
      omega (arith, c.decreases, h.then-falls),
      record { fits = then.fits; room = omega (arith, then.room, kept, dropped, rest) },
    )

pub write_row-returns : goal.write_row-returns
unfolding none
write_row-returns t c =
    let h = handed c.requires (c.row_parts-first.ensures ∙ sym (ap (parts_of (map entry_of c.args.rules.now)) (get_or-map row_of c.args.journal.now c.args.row blank))) in
    wrote-same h.word (wrote-rest _ _ c.args.buffer.now c.write_symbol-n.new.buffer c.write_symbol-m.new.buffer c.write_symbol-n.result c.write_symbol-m.result c.write_symbol-n.ensures c.write_symbol-m.ensures)

-- The rows below i have been tested, and the length is that of the last of them. Assumes nothing.
use Rattle.std.proofs.Common.{◌≡◌, map}
use Rattle.spec_order.specs.Fitting.{all_rows_fit}
use Rattle.spec_file.specs.Entries.{entry_of}
use Rattle.spec_calls.specs.Rows.{row_of}
use Rattle.call_write_fit.specs.Forms.{no_forms}
use Rattle.call_write_fit.specs.ByValue.{last_len}
use Rattle.call_write_fit.proofs.rows_fit.Given as goal

abbrev pub invariant-loop-i : goal.invariant-loop-i
invariant-loop-i l = record {
  fits : l.fit.fits ≡ all_rows_fit no_forms (map row_of l.journal) (map entry_of l.rules) l.i;
  len : l.fit.len ≡ last_len (map row_of l.journal) l.i;
}

-- The row itself. Assumes nothing.
use mathlib.Core.Path.{sym, ◌∙◌}
use native.Mathlib.Omega.{arith}
use borrow.Author.Rules.{rules}
use Rattle.search_glance.proofs.is_below.Goals as goal

pub returns : goal.returns
returns c e = record {
  row = c.args.row;
  used = omega arith;
  head = c.if-near-row.false;
  below = sym (rw (c.contained_if_first.ensures, c.read-held.ensures)) ∙ e;
}

-- The links from `from` to `i` are copied, and all other cells are as they were.
use Rattle.search_links.specs.Listing.{Copied}
use Rattle.search_links.proofs.copy_links.Given as goal

abbrev pub invariant-loop-i : goal.invariant-loop-i
invariant-loop-i l = Copied l.fn.from l.i l.fn.table l.table

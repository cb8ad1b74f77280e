-- `search_links::gather` meets its contract: the links of the rows, and those of the nonterminals. Assumes nothing.
use borrow.Author.Rules.{rules}
use Rattle.search_links.specs.Listing.{gathered-both}
use Rattle.search_links.proofs.gather.Statement.{statement}
use Rattle.search_links.proofs.gather.Tie as tie

returns : tie.Need-returns
returns c =
    let s = c.before.before.before.before.before.before.before.before.before in
    gathered-both s.args.used s.args.table.now _ _ s.requires.1 s.requires.0 c.before.before.before.before.before.before.copy_links.ensures c.before.before.copy_links-2.ensures

pub gather_spec : {M : Type 1} → statement M
gather_spec = tie.close (tie.spec (λ c κs. search rules) (λ c κs. search rules) (λ c. search rules) returns)

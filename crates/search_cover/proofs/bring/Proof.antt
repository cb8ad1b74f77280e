-- `search_cover::bring` meets its contract. Assumes nothing.
use borrow.Author.Rules.{rules}
use mathlib.Core.Path.{sym, ◌∙◌}
use Rattle.search_cover.proofs.bring.Statement.{statement}
use Rattle.search_cover.proofs.bring.Tie as tie

near-requires : tie.Need-is_near-requires
near-requires c κs = c.before.before.requires.beside.size

same_length : tie.Need-shape_of-near-then-not-is_near
same_length c = search rules

-- they are there already
returns-2 : tie.Need-returns-else-not-is_near
returns-2 c = λ rows d g. (g, sym c.before.is_near.ensures ∙ c.if-not-is_near.false)

pub bring_spec : {M : Type 1} → statement M
bring_spec = tie.close (tie.spec near-requires (λ c κs. search rules) same_length (λ c. search rules) (λ c. search rules) returns-2)

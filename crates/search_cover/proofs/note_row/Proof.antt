-- `search_cover::note_row` meets its contract. Assumes nothing.
use borrow.Author.Rules.{rules}
use Rattle.search_cover.specs.Steps.{with_row}
use Rattle.search_cover.proofs.note_row.Statement.{statement}
use Rattle.search_cover.proofs.note_row.Tie as tie

returns : tie.Need-returns
unfolding with_row
returns c = rw c.before.before.before.put_candidate.ensures

pub note_row_spec : {M : Type 1} → statement M
note_row_spec = tie.close (tie.spec (λ c. search rules) (λ c κs. search rules) (λ c. search rules) (λ c. search rules) (λ c. search rules) (λ c. search rules) (λ c. search rules) returns)

-- The eight details, and the procedure. Assumes nothing.
use borrow.Author.Rules.{rules}
use Rattle.bolfrega.proofs.nine_of.Statement.{statement}
use Rattle.bolfrega.proofs.nine_of.Tie as tie

returns : tie.Need-returns
returns c = rw c.details_of-eight.ensures

pub nine_of_spec : {M : Type 1} → statement M
nine_of_spec = tie.close
    (tie.spec
    (λ c κs. search rules)
    (λ c. search rules)
    (λ c. search rules)
    (λ c. search rules)
    (λ c. search rules)
    (λ c. search rules)
    (λ c. search rules)
    (λ c. search rules)
    (λ c. search rules)
    returns)

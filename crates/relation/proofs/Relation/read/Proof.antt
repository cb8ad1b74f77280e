-- `Relation::read` meets its contract: the four words that stand there. Assumes nothing.
use Rattle.std.proofs.Common.{ℕ, ◌+◌, ◌*◌, List, get_or, sym, ap, add-zero, rules}
use Rattle.relation.specs.declared.Relation.{Relation}
use Rattle.relation.specs.Representation.{relation_words}
use Rattle.relation.specs.Stored.{relation_in}
use Rattle.relation.proofs.Relation.read.Statement.{statement}
use Rattle.relation.proofs.Relation.read.Tie as tie

-- the first word read at z
from : List ℕ → ℕ → ℕ → Relation
from ws i z = record { w0 = get_or ws z 0; w1 = get_or ws (i * relation_words + 1) 0; w2 = get_or ws (i * relation_words + 2) 0; w3 = get_or ws (i * relation_words + 3) 0 }

returns : tie.Need-returns
unfolding from relation_in
returns c = let a = c.before.before.before.before.args in ap (from a.table.now a.i) (sym (add-zero (a.i * relation_words)))

pub read_spec : {M : Type 1} → statement M
read_spec =
    tie.close
    (tie.spec
    (λ c. search rules)
    (λ c. search rules)
    (λ c. search rules)
    (λ c. search rules)
    (λ c. search rules)
    (λ c. search rules)
    (λ c. search rules)
    (λ c. search rules)
    (λ c. search rules)
    (λ c. search rules)
    (λ c. search rules)
    (λ c. search rules)
    returns)

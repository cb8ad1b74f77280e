-- By the table of the terminals' relations it is the relation of the word; and it is composed from left to right, for any number of states.
-- Assumes nothing.
use Rattle.std.specs.Prelude.{◌≡◌, refl, false, ℕ, suc, ◌+◌, ◌*◌, ◌^◌, ◌<◌, leb, length, get_or, drop}
use Rattle.std.proofs.Math.Path.{sym, ap}
use Rattle.std.proofs.Common.{ap₂, ◌∙◌, add-one, drop-cons, leb-false}
use mathlib.Core.List.{List, [], ◌∷◌}
use Rattle.std.proofs.Math.Seq.{drop-length}
use Rattle.spec_basics.specs.Tests.{or-neither}
use Rattle.relation.specs.Relation.{states, identity, compose}
use Rattle.relation.specs.RelationLaws.{identity-lt, compose-lt, identity-compose, compose-identity, compose-assoc}
use Rattle.relation.specs.Representation.{value}
use Rattle.relation.specs.Stored.{relation_in}
use Rattle.spec_language.specs.Automaton.{Transition}
use Rattle.spec_language.specs.WordRelation.{word_relation}
use Rattle.spec_file.specs.Limits.{terminals}
use Rattle.file_tables.specs.Tables.{letter_table}
use Rattle.file_tables.specs.LetterLaws.{letters-at}
use Rattle.call_judge.specs.Letters.{strays}
use Rattle.call_judge.specs.TableRelation.{table_relation}

pub by-letters : (ts : List Transition) (w : List ℕ) → strays w ≡ false → table_relation states (letter_table states ts) w ≡ word_relation states ts w
unfolding table_relation word_relation
by-letters ts [] h = refl
by-letters ts (c ∷ w) h =
    let p = or-neither (leb terminals c) (strays w) h in
    ap₂ (compose states) (letters-at ts c (leb-false terminals c p.0)) (by-letters ts w p.1)

table_relation-lt : (n : ℕ) (table w : List ℕ) → table_relation n table w < 2 ^ (n * n)
unfolding table_relation
table_relation-lt n table [] = identity-lt n
table_relation-lt n table (c ∷ w) = compose-lt n (value (relation_in table c)) (table_relation n table w)

module _ (n : ℕ) (table w : List ℕ) where
  -- where the relation of the first i letters is r
  pub record Upto (i r : ℕ) : Type 0 where
    pub whole : compose n r (table_relation n table (drop i w)) ≡ table_relation n table w
    pub size : r < 2 ^ (n * n)
    pub letters : strays (drop i w) ≡ false

  pub upto-none : strays w ≡ false → Upto 0 (identity n)
  upto-none h = record { whole = identity-compose n (table_relation n table w) (table_relation-lt n table w); size = identity-lt n; letters = h }

  module _ (i r : ℕ) (u : Upto i r) (h : i < length w) where
    next : (leb terminals (get_or w i 0) ≡ false) × (strays (drop (suc i) w) ≡ false)
    next = or-neither (leb terminals (get_or w i 0)) (strays (drop (suc i) w)) (rw (drop-cons w i 0 h) at u.letters)

    -- the next letter is in the table
    pub upto-letter : get_or w i 0 < terminals
    upto-letter = leb-false terminals (get_or w i 0) next.0

    pub upto_next : Upto (i + 1) (compose n r (value (relation_in table (get_or w i 0))))
    unfolding table_relation
    upto_next = rw (add-one i) (record {
      whole =
          compose-assoc n r (value (relation_in table (get_or w i 0))) (table_relation n table (drop (suc i) w))
          ∙ ap (λ (v : List ℕ). compose n r (table_relation n table v)) (sym (drop-cons w i 0 h))
          ∙ u.whole;
      size = compose-lt n r (value (relation_in table (get_or w i 0)));
      letters = next.1;
    })

  pub upto_all : (r : ℕ) → Upto (length w) r → r ≡ table_relation n table w
  unfolding table_relation
  upto_all r u = sym (compose-identity n r u.size) ∙ ap (λ (v : List ℕ). compose n r (table_relation n table v)) (sym (drop-length w)) ∙ u.whole

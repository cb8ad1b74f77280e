-- Each word of `sum` has the pairs with a middle state of the words of y that were taken, and `rest` begins with the columns of the others.
use Rattle.std.proofs.Common.{◌≡◌, ℕ, ◌*◌, ◌/◌, ◌^◌, ◌<◌}
use Rattle.relation.specs.Product.{product}
use Rattle.relation.specs.Relation.{states}
use Rattle.relation.specs.Representation.{rows_of_word, relation_words, word, value}
use Rattle.relation.proofs.after.Given as goal

abbrev pub invariant-loop-row : goal.invariant-loop-row
invariant-loop-row l =
    record {
      joined : (w : ℕ) → w < relation_words → word l.sum w ≡ product states rows_of_word (l.row-index * rows_of_word) (word l.fn.x w) (value l.fn.y);
      left : (w : ℕ) → w < relation_words → word l.rest w ≡ word l.fn.x w / 2 ^ (l.row-index * rows_of_word);
    }

-- `Relation::compose_by` meets its contract: each word by the columns is the composition's. Assumes nothing.
use Rattle.std.proofs.Common.{◌≡◌, ℕ, ◌*◌, ◌<◌, ◌≤◌, List, sym, ap, ◌∙◌, subst, arith, rules}
use Rattle.relation.specs.declared.Relation.{Relation}
use Rattle.relation.specs.Columns.{AreColumns, column_cells, columns_of, cell, word_by}
use Rattle.relation.specs.ColumnLaws.{columns-are, word-by}
use Rattle.relation.specs.Product.{product}
use Rattle.relation.specs.Relation.{states}
use Rattle.relation.specs.Representation.{rows_of_word, relation_words, word, Fit, value, each_word}
use Rattle.relation.specs.Words.{composed-words, composed-two}
use Rattle.relation.proofs.Relation.compose_by.Statement.{statement}
use Rattle.relation.proofs.Relation.compose_by.Tie as tie

-- cells that are the columns of x
are : (x : Relation) (cells : List ℕ) → cells ≡ columns_of x → AreColumns column_cells (cell cells)
are x cells e = subst (λ (l : List ℕ). AreColumns column_cells (cell l)) (sym e) (columns-are x)

by : (x y : Relation) (cells : List ℕ) → cells ≡ columns_of x → Fit y → (k w : ℕ) → k ≤ relation_words → w < relation_words
    → word_by k cells w y ≡ product states rows_of_word (k * rows_of_word) (word x w) (value y)
by x y cells e h k w hk hw = ap (λ (l : List ℕ). word_by k l w y) e ∙ word-by x k w y hk hw h

by-two-requires : tie.Need-by_two-requires
by-two-requires c κs = let s = c.before.before.before.before in (omega arith, are s.args.self s.args.columns.now s.requires)

by-two-requires-2 : tie.Need-by_two-requires-then-upper-eq0
by-two-requires-2 c κs = let s = c.before.before.before.before.before in (omega arith, are s.args.self s.args.columns.now s.requires)

returns : tie.Need-returns-then-upper-eq0
returns c =
    let w1 = c.before in
    let w0 = w1.before in
    let test = w0.before in
    let known = test.before.before in
    let p = known.before.struct_known-1.given in
    let q = known.struct_known-2-1.given in
    let s = known.before.before in
    let x = s.args.self in
    let y = s.args.next in
    let fy : Fit y = (q.0, q.1.0, q.1.1.0, q.1.1.1.0) in
    let is : (w : ℕ) → w < relation_words → word_by 2 s.args.columns.now w y ≡ product states rows_of_word 8 (word x w) (value y) = λ w l. by x y s.args.columns.now s.requires fy 2 w (omega arith) l in
    ap value c.of_words.ensures
    ∙ composed-two x y (p.0, p.1.0, p.1.1.0, p.1.1.1.0) fy test.if-upper-eq0.true _ _ (w0.by_two.ensures ∙ is 0 (omega arith)) (w1.by_two-then-upper-eq0.ensures ∙ is 1 (omega arith))

by-four-requires : tie.Need-by_four-requires
by-four-requires c κs = let s = c.before.before.before.before in (omega arith, are s.args.self s.args.columns.now s.requires)

by-four-requires-2 : tie.Need-by_four-requires-2
by-four-requires-2 c κs = let s = c.before.before.before.before.before in (omega arith, are s.args.self s.args.columns.now s.requires)

by-four-requires-3 : tie.Need-by_four-requires-3
by-four-requires-3 c κs = let s = c.before.before.before.before.before.before in (omega arith, are s.args.self s.args.columns.now s.requires)

by-four-requires-4 : tie.Need-by_four-requires-4
by-four-requires-4 c κs = let s = c.before.before.before.before.before.before.before in (omega arith, are s.args.self s.args.columns.now s.requires)

returns-2 : tie.Need-returns
returns-2 c =
    let w3 = c.before in
    let w2 = w3.before in
    let w1 = w2.before in
    let w0 = w1.before in
    let known = w0.before.before.before in
    let p = known.before.struct_known-1.given in
    let q = known.struct_known-2-1.given in
    let s = known.before.before in
    let x = s.args.self in
    let y = s.args.next in
    let is : (w : ℕ) → w < relation_words → word_by 4 s.args.columns.now w y ≡ product states rows_of_word states (word x w) (value y) = λ w l. by x y s.args.columns.now s.requires (q.0, q.1.0, q.1.1.0, q.1.1.1.0) 4 w (omega arith) l in
    ap value c.of_words-2.ensures
    ∙ composed-words x y _ (p.0, p.1.0, p.1.1.0, p.1.1.1.0)
    (each_word _ (w0.by_four.ensures ∙ is 0 (omega arith)) (w1.by_four-2.ensures ∙ is 1 (omega arith)) (w2.by_four-3.ensures ∙ is 2 (omega arith)) (w3.by_four-4.ensures ∙ is 3 (omega arith)))

pub compose_by_spec : {M : Type 1} → statement M
compose_by_spec =
    tie.close
    (tie.spec
    by-two-requires
    by-two-requires-2
    (λ c κs. search rules)
    returns
    by-four-requires
    by-four-requires-2
    by-four-requires-3
    by-four-requires-4
    (λ c κs. search rules)
    returns-2)

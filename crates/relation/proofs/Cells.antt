-- The cells of a relation's columns, made one after the other. Assumes nothing.
use Rattle.std.proofs.Common.{◌≡◌, ℕ, ◌+◌, ◌*◌, ◌/◌, ◌%◌, ◌<◌, Bool, true, false, eqb, List, length, set, sym, refl, ap, ◌∙◌, ap₂, arith, length-set, get_or-set_other, get_or-set_same, eqb-true}
use borrow.Author.Tests.{eqb-false}
use Rattle.relation.specs.declared.Relation.{Relation}
use Rattle.relation.specs.Columns.{column_of, column_cells, cell}
use Rattle.relation.specs.Representation.{relation_words, word}

-- what cell p is to have
abbrev pub made : Relation → ℕ → ℕ
made x p = column_of (p / relation_words) (word x (p % relation_words))

-- all cells are there, and the first n are made
abbrev pub Made : Relation → List ℕ → ℕ → Type 0
Made x cells n = (length cells ≡ column_cells) × ((p : ℕ) → p < n → cell cells p ≡ made x p)

-- word w of the column of state k
pub column-is : (x : Relation) (k w : ℕ) → w < relation_words → column_of k (word x w) ≡ made x (k * relation_words + w)
column-is x k w l =
    let s : k ≡ (k * relation_words + w) / relation_words = omega arith in
    let r : w ≡ (k * relation_words + w) % relation_words = omega arith in
    ap₂ (λ (m v : ℕ). column_of m (word x v)) s r

-- with cell n the first m are made
pub grown : (x : Relation) (cells : List ℕ) (n m v : ℕ) → n < column_cells → m ≡ n + 1 → Made x cells n → v ≡ made x n → Made x (set cells n v) m
grown x cells n m v l s h e = (length-set cells n v ∙ h.0, λ p lp. go p (omega arith) (eqb p n) refl)
  where
    go : (p : ℕ) → p < n + 1 → (b : Bool) → eqb p n ≡ b → cell (set cells n v) p ≡ made x p
    go p lp true q = ap (cell (set cells n v)) (eqb-true p n q) ∙ get_or-set_same cells n v 0 (omega (arith, l, h.0)) ∙ e ∙ ap (made x) (sym (eqb-true p n q))
    go p lp false q = let d = eqb-false p n q in get_or-set_other cells n p v 0 d ∙ h.1 p (omega arith)

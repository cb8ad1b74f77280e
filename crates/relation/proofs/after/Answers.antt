-- A turn joins the next word of y, through the columns with which `rest` begins.
use Rattle.std.proofs.Common.{◌≡◌, ℕ, zero, suc, ◌+◌, ◌*◌, ◌/◌, ◌^◌, ◌<◌, ◌≤◌, List, [], ◌∷◌, length, get_or, take, sym, refl, ap, ◌∙◌, ap₂, div-one, arith, shr-shr}
use Rattle.std.proofs.lemmas.List.{get_or-take, length-take-le}
use lib.Bits.{bit_or}
use Rattle.relation.specs.declared.Relation.{Relation}
use Rattle.relation.specs.Parts.{product-word, product-rows}
use Rattle.relation.specs.Pieces.{pieces-same}
use Rattle.relation.specs.Product.{product, product-none}
use Rattle.relation.specs.Relation.{states}
use Rattle.relation.specs.Representation.{word_digits, rows_of_word, relation_words, word, each_word, word_lt, value}
use Rattle.relation.proofs.after.Goals as goal

-- the array, and the first n words of it
abbrev rows : Relation → List ℕ
rows y = y.w0 ∷ y.w1 ∷ y.w2 ∷ y.w3 ∷ []

taken : (y : Relation) (n : ℕ) → n ≤ relation_words → length (take n (rows y)) ≡ n
taken y n h = length-take-le n (rows y) h

-- word i of it is the relation's
row_is : (y : Relation) (i : ℕ) → get_or (rows y) i 0 ≡ word y i
row_is y zero = refl
row_is y (suc zero) = refl
row_is y (suc (suc zero)) = refl
row_is y (suc (suc (suc zero))) = refl
row_is y (suc (suc (suc (suc i)))) = refl

pub loop-row-init : goal.loop-row-init
loop-row-init c = record {
  joined = each_word _ (sym (product-none states rows_of_word _ _)) (sym (product-none states rows_of_word _ _)) (sym (product-none states rows_of_word _ _)) (sym (product-none states rows_of_word _ _));
  left = λ w h. sym (div-one (word c.args.x w));
}

pub loop-row-preserved : goal.loop-row-preserved
unfolding value
loop-row-preserved c =
    let y = c.args.y in
    let x : ℕ → ℕ = word c.args.x in
    let l = c.loop-row in
    let k = l.row-index in
    let h : k < c.args.count = omega (arith, taken y c.args.count (omega arith)) in
    let g : ℕ → ℕ = word y in
    let item : get_or (take c.args.count (rows y)) k 0 ≡ g k = get_or-take c.args.count (rows y) k 0 h ∙ row_is y k in
    record {
      joined = λ w hw.
          c.joined-sum.ensures w hw
          ∙ ap₂ bit_or (l.invariant.joined w hw) (ap₂ (product states rows_of_word rows_of_word) (l.invariant.left w hw) item)
          ∙ product-word states rows_of_word rows_of_word relation_words (x w) k g (omega arith) (word_lt y (omega arith, omega arith, omega arith, omega arith));
      left = λ w hw.
          let d : k * rows_of_word + rows_of_word ≡ (k + 1) * rows_of_word = omega arith in
          c.moved-rest.ensures w hw
          ∙ ap (λ (z : ℕ). z / 2 ^ rows_of_word) (l.invariant.left w hw)
          ∙ shr-shr (x w) (k * rows_of_word) rows_of_word
          ∙ ap (λ (z : ℕ). x w / 2 ^ z) d;
    }

pub returns : goal.returns
unfolding value
returns c =
    let l = c.loop-row in
    let e = c.args in
    let x : Relation = e.x in
    let all : l.row-index ≡ e.count = omega (arith, taken e.y e.count (omega arith)) in
    let m : e.count * rows_of_word ≤ states = omega arith in
    pieces-same word_digits relation_words (word l.sum) (λ w. product states rows_of_word (e.count * rows_of_word) (word x w) (value e.y))
    (λ w hw. l.invariant.joined w hw ∙ ap (λ (k : ℕ). product states rows_of_word (k * rows_of_word) (word x w) (value e.y)) all)
    ∙ product-rows states rows_of_word (e.count * rows_of_word) relation_words (word x) (value e.y) m (word_lt x (omega arith, omega arith, omega arith, omega arith))

-- `Relation::joined` meets its contract: four rows of zeros lead nowhere, and else each word has its block. Assumes nothing.
use Rattle.std.proofs.Common.{◌≡◌, ℕ, ◌*◌, ◌/◌, ◌^◌, ◌<◌, sym, ap, ◌∙◌, div-one, arith, rules}
use lib.Bits.{bit_or, or_zero_r}
use Rattle.relation.specs.Product.{product, repeated, crossed, product-empty, crossed-product}
use Rattle.relation.specs.Relation.{states}
use Rattle.relation.specs.Representation.{rows_of_word, of_words, word, each_word}
use Rattle.relation.proofs.Relation.joined.Statement.{statement}
use Rattle.relation.proofs.Relation.joined.Tie as tie

returns : tie.Need-returns-then-y-eq0
returns c w h =
    let e = c.before.args in
    sym (ap (λ (y : ℕ). bit_or (word e.self w) (product states rows_of_word rows_of_word (word e.x w) y)) c.if-y-eq0.true
    ∙ ap (bit_or (word e.self w)) (product-empty states rows_of_word rows_of_word (word e.x w))
    ∙ or_zero_r (word e.self w))

returns-2 : tie.Need-returns
returns-2 c =
    let b4 = c.before in
    let b3 = b4.before.before in
    let b2 = b3.before.before in
    let b1 = b2.before.before in
    let s = b1.before in
    let e = s.before.before.before.before.before.args in
    let r0 = s.before.before.before.repeated-r0 in
    let r1 = s.before.before.repeated-r1 in
    let r2 = s.before.repeated-r2 in
    let r3 = s.repeated-r3 in
    let rows : ℕ → ℕ = word (of_words r0.result r1.result r2.result r3.result) in
    let first : r0.result ≡ repeated states rows_of_word (e.y / 2 ^ 0) = r0.ensures ∙ ap (repeated states rows_of_word) (sym (div-one e.y)) in
    let are : (m : ℕ) → m < rows_of_word → rows m ≡ repeated states rows_of_word (e.y / 2 ^ (m * states)) = each_word _ first r1.ensures r2.ensures r3.ensures in
    let each : (x : ℕ) → crossed states rows_of_word rows_of_word x rows ≡ product states rows_of_word rows_of_word x e.y = λ x. crossed-product states rows_of_word rows_of_word x e.y rows (omega arith) are in
    each_word _
    (ap (bit_or e.self.w0) (b1.block.ensures ∙ each e.x.w0))
    (ap (bit_or e.self.w1) (b2.block-2.ensures ∙ each e.x.w1))
    (ap (bit_or e.self.w2) (b3.block-3.ensures ∙ each e.x.w2))
    (ap (bit_or e.self.w3) (b4.block-4.ensures ∙ each e.x.w3))

pub joined_spec : {M : Type 1} → statement M
joined_spec =
    tie.close
    (tie.spec returns (λ c κs. search rules) (λ c κs. search rules) (λ c κs. search rules) (λ c κs. search rules) (λ c κs. search rules) (λ c κs. search rules) (λ c κs. search rules) (λ c κs. search rules) returns-2)

-- `Relation::compose` meets its contract: where the upper words of both are empty, the lower two have every row and every middle state.
-- Assumes nothing.
use Rattle.std.proofs.Common.{◌≡◌, ℕ, ◌*◌, ◌/◌, ◌^◌, sym, refl, ap, ◌∙◌, ap₂, div-one, arith, rules}
use lib.Bits.{bit_or, or_zero_l}
use Rattle.relation.specs.declared.Relation.{Relation}
use Rattle.relation.specs.Digits.{union}
use Rattle.relation.specs.DigitLaws.{or-empty}
use Rattle.relation.specs.Parts.{product-words}
use Rattle.relation.specs.Product.{product, product-all}
use Rattle.relation.specs.Relation.{states}
use Rattle.relation.specs.Representation.{rows_of_word, relation_words, word, Fit, word_lt, value}
use Rattle.relation.specs.Words.{product-two, composed-two}
use Rattle.relation.proofs.Relation.compose.Statement.{statement}
use Rattle.relation.proofs.Relation.compose.Tie as tie

-- the rows z through the states of the first two words of y
through-two : (z : ℕ) (y : Relation) → Fit y
    → bit_or (product states rows_of_word rows_of_word z y.w0) (product states rows_of_word rows_of_word (z / 2 ^ rows_of_word) y.w1) ≡ product states rows_of_word 8 z (value y)
unfolding value union
through-two z y h =
    ap (λ (u : ℕ). bit_or u (part 1)) (ap (λ (u : ℕ). product states rows_of_word rows_of_word u y.w0) (sym (div-one z)) ∙ sym (or_zero_l (part 0)))
    ∙ product-words states rows_of_word rows_of_word relation_words z (word y) part (word_lt y h) 2 (omega arith) (λ i l. refl)
  where
    part : ℕ → ℕ
    part i = product states rows_of_word rows_of_word (z / 2 ^ (i * rows_of_word)) (word y i)

returns : tie.Need-returns-then-self-next-eq0
returns c =
    let s1 = c.before in
    let s0 = s1.before in
    let test = s0.before in
    let known = test.before.before in
    let p = known.before.struct_known-1.given in
    let q = known.struct_known-2-1.given in
    let e = known.before.before.args in
    let x = e.self in
    let y = e.next in
    let fy : Fit y = (q.0, q.1.0, q.1.1.0, q.1.1.1.0) in
    ap value c.of_words.ensures
    ∙ composed-two x y (p.0, p.1.0, p.1.1.0, p.1.1.1.0) fy test.if-self-next-eq0.true _ _
    (s0.crossed_twice.ensures ∙ through-two x.w0 y fy) (s1.crossed_twice-then-self-next-eq0.ensures ∙ through-two x.w1 y fy)

returns-2 : tie.Need-returns-then-y-eq0
returns-2 c =
    let made = c.before.before.before in
    let e = made.before.before.before.before.before.before.args in
    let ex = made.before.of_words-x.ensures in
    let ey = made.of_words-y.ensures in
    let none = or-empty e.next.w2 e.next.w3 (ap (λ (r : Relation). bit_or r.w2 r.w3) (sym ey) ∙ c.before.if-y-eq0.true) in
    c.after.ensures
    ∙ ap₂ (λ (x y : Relation). product states states 8 (value x) (value y)) ex ey
    ∙ product-two states (value e.self) e.next (omega arith, omega arith, omega arith, omega arith) none.0 none.1
    ∙ product-all states (value e.self) (value e.next)

returns-3 : tie.Need-returns
returns-3 c =
    let made = c.before.before.before in
    c.after-2.ensures ∙ ap₂ (λ (x y : Relation). product states states states (value x) (value y)) made.before.of_words-x.ensures made.of_words-y.ensures ∙ product-all states _ _

pub compose_spec : {M : Type 1} → statement M
compose_spec =
    tie.close
    (tie.spec (λ c κs. search rules) (λ c κs. search rules) (λ c κs. search rules) returns (λ c κs. search rules) (λ c κs. search rules) (λ c κs. search rules) returns-2 (λ c κs. search rules) returns-3)

-- Composition in parts: a relation x of several words of rows, and a relation y of several words of rows, for any size and count of them.
-- Each word of x is composed for itself, and each word of y brings its own middle states. Assumes nothing.
use Rattle.std.specs.Prelude.{◌≡◌, ℕ, zero, suc, ◌+◌, ◌-◌, ◌*◌, ◌/◌, ◌%◌, ◌^◌, ◌<◌, ◌≤◌, Bool, true, false, ◌&&◌, ◌||◌, nat_lt, refl}
use Rattle.std.proofs.Common.{sym, ap, ap₂, ◌∙◌, subst, suc-le-suc, le_refl, le_of_lt, add-zero, add-suc, add_comm, zero-mul, suc-mul, add-mul, mul_assoc, lt_of_lt_of_le, arith, add-one, pow-add, ltb-true, ltb-false}
use Rattle.std.proofs.Math.Bool.{or-false}
use Rattle.std.proofs.Math.Nat.{div-eq_of_lt}
use Rattle.std.proofs.Math.Arith.{digits_lt, lt-one}
use Rattle.std.specs.Int.Bits.{bit_or, or_zero_r}
use Rattle.std.proofs.lemmas.Nat.{or_lt}
use Rattle.relation.specs.Digits.{bit, pieces, piece, some, union}
use Rattle.relation.specs.DigitLaws.{bit-or, bit-shr, bit-low, bit_up, bit-mod, some_same}
use Rattle.relation.specs.Pieces.{pieces-lt, piece_of}
use Rattle.relation.specs.Product.{product, product_lt, bit-product, product_is, product-none, product-empty}
use Rattle.relation.specs.Relation.{has, single}
use Rattle.relation.specs.RelationLaws.{single-place}

-- ---- the middle states in two parts

or_rotate : (p q r : Bool) → (p || (q || r)) ≡ (q || (p || r))
or_rotate true true r = refl
or_rotate true false r = refl
or_rotate false q r = refl

some-add : (c d : ℕ) (f : ℕ → Bool) → some (c + d) f ≡ (some c f || some d (λ i. f (c + i)))
unfolding some
some-add c zero f = ap (λ (z : ℕ). some z f) (add-zero c) ∙ sym (or-false (some c f))
some-add c (suc d) f =
    ap (λ (z : ℕ). some z f) (add-suc c d)
    ∙ ap (λ (t : Bool). f (c + d) || t) (some-add c d f)
    ∙ or_rotate (f (c + d)) (some c f) (some d (λ i. f (c + i)))

pub product-add : (n k c d x y : ℕ)
    → product n k (c + d) x y ≡ bit_or (product n k c x y) (product n k d (x / 2 ^ c) (y / 2 ^ (c * n)))
unfolding has
product-add n k c d x y =
    sym (product_is n k (c + d) x y (bit_or (product n k c x y) (product n k d (x / 2 ^ c) (y / 2 ^ (c * n))))
    (or_lt (k * n) (product n k c x y) (product n k d (x / 2 ^ c) (y / 2 ^ (c * n))) (product_lt n k c x y) (product_lt n k d (x / 2 ^ c) (y / 2 ^ (c * n))))
    (λ a b ha hb.
    bit-or (product n k c x y) (product n k d (x / 2 ^ c) (y / 2 ^ (c * n))) (a * n + b)
    ∙ ap₂ (λ (s t : Bool). s || t) (bit-product n k c x y a b ha hb)
    (bit-product n k d (x / 2 ^ c) (y / 2 ^ (c * n)) a b ha hb
    ∙ some_same d (λ i. bit (x / 2 ^ c) (a * n + i) && bit (y / 2 ^ (c * n)) (i * n + b)) (λ i. bit x (a * n + (c + i)) && bit y ((c + i) * n + b))
    (λ i l. ap₂ (λ (s t : Bool). s && t) (shifted a i) (lower i b)))
    ∙ sym (some-add c d (λ m. bit x (a * n + m) && bit y (m * n + b)))))
  where
    shifted : (a i : ℕ) → bit (x / 2 ^ c) (a * n + i) ≡ bit x (a * n + (c + i))
    shifted a i = bit-shr x c (a * n + i) ∙ ap (bit x) (let e : c + (a * n + i) ≡ a * n + (c + i) = omega arith in e)

    lower : (i b : ℕ) → bit (y / 2 ^ (c * n)) (i * n + b) ≡ bit y ((c + i) * n + b)
    lower i b =
        bit-shr y (c * n) (i * n + b)
        ∙ ap (bit y) (let m : (c + i) * n ≡ c * n + i * n = add-mul c i n in let e : c * n + (i * n + b) ≡ (c + i) * n + b = omega arith in e)

-- the first c middle states ask for the first c rows of y
product-front : (n k c x y : ℕ) → product n k c x y ≡ product n k c x (y % 2 ^ (c * n))
unfolding has
product-front n k c x y =
    product_is n k c x (y % 2 ^ (c * n)) (product n k c x y) (product_lt n k c x y)
    (λ a b ha hb.
    bit-product n k c x y a b ha hb
    ∙ some_same c (λ m. bit x (a * n + m) && bit y (m * n + b)) (λ m. bit x (a * n + m) && bit (y % 2 ^ (c * n)) (m * n + b))
    (λ m l. ap (λ (t : Bool). bit x (a * n + m) && t) (sym (bit-mod y (c * n) (m * n + b) (digits_lt l hb)))))

-- and more of them nothing, where y has no more rows
pub product-short : (n k c d x y : ℕ) → y < 2 ^ (c * n) → product n k c x y ≡ product n k (c + d) x y
product-short n k c d x y h =
    sym (product-add n k c d x y
    ∙ ap (bit_or (product n k c x y)) (ap (product n k d (x / 2 ^ c)) (div-eq_of_lt h) ∙ product-empty n k d (x / 2 ^ c))
    ∙ or_zero_r (product n k c x y))

-- ---- y in words

-- the middle states of word w of y: c rows to a word
pub product-word : (n k c j x w : ℕ) (g : ℕ → ℕ) → w < j → ((i : ℕ) → g i < 2 ^ (c * n))
    → bit_or (product n k (w * c) x (pieces (c * n) j g)) (product n k c (x / 2 ^ (w * c)) (g w)) ≡ product n k ((w + 1) * c) x (pieces (c * n) j g)
unfolding piece
product-word n k c j x w g hw h =
    sym (ap (λ (z : ℕ). product n k z x y) (ap (λ (z : ℕ). z * c) (add-one w) ∙ suc-mul w c)
    ∙ product-add n k (w * c) c x y
    ∙ ap (bit_or (product n k (w * c) x y))
    (product-front n k c (x / 2 ^ (w * c)) (y / 2 ^ (w * c * n))
    ∙ ap (product n k c (x / 2 ^ (w * c))) (ap (λ (e : ℕ). y / 2 ^ e % 2 ^ (c * n)) (mul_assoc w c n) ∙ piece_of (c * n) j g h w hw)))
  where
    y : ℕ
    y = pieces (c * n) j g

-- the middle states of the first w words together
pub product-words : (n k c j x : ℕ) (g r : ℕ → ℕ) → ((i : ℕ) → g i < 2 ^ (c * n)) → (w : ℕ) → w ≤ j
    → ((i : ℕ) → i < w → r i ≡ product n k c (x / 2 ^ (i * c)) (g i)) → union w r ≡ product n k (w * c) x (pieces (c * n) j g)
unfolding union
product-words n k c j x g r h zero hw e = sym (ap (λ (z : ℕ). product n k z x (pieces (c * n) j g)) (zero-mul c) ∙ product-none n k x (pieces (c * n) j g))
product-words n k c j x g r h (suc w) hw e =
    ap₂ bit_or (product-words n k c j x g r h w (le_of_lt hw) (λ i l. e i (le_of_lt (suc-le-suc l)))) (e w (le_refl (suc w)))
    ∙ product-word n k c j x w g hw h
    ∙ ap (λ (z : ℕ). product n k (z * c) x (pieces (c * n) j g)) (add-one w)

-- ---- x in words

-- l rows above k rows
product-above : (n k l c v r y : ℕ) → c ≤ n → r < 2 ^ (k * n)
    → product n l c v y * 2 ^ (k * n) + product n k c r y ≡ product n (k + l) c (v * 2 ^ (k * n) + r) y
unfolding has
product-above n k l c v r y hc hr =
    product_is n (k + l) c (v * 2 ^ (k * n) + r) y (product n l c v y * 2 ^ (k * n) + product n k c r y)
    (subst (λ (z : ℕ). product n l c v y * 2 ^ (k * n) + product n k c r y < z)
    (sym (pow-add 2 (l * n) (k * n)) ∙ ap (λ (e : ℕ). 2 ^ e) (add_comm (l * n) (k * n) ∙ sym (add-mul k l n)))
    (digits_lt (product_lt n l c v y) (product_lt n k c r y)))
    (λ a b ha hb. go a b ha hb (nat_lt a k) refl)
  where
    go : (a b : ℕ) → a < k + l → b < n → (t : Bool) → nat_lt a k ≡ t
        → bit (product n l c v y * 2 ^ (k * n) + product n k c r y) (a * n + b)
        ≡ some c (λ m. bit (v * 2 ^ (k * n) + r) (a * n + m) && bit y (m * n + b))
    go a b ha hb true e =
        bit-low (product n l c v y) (k * n) (product n k c r y) (a * n + b) (product_lt n k c r y) (digits_lt (ltb-true a k e) hb)
        ∙ bit-product n k c r y a b (ltb-true a k e) hb
        ∙ some_same c (λ m. bit r (a * n + m) && bit y (m * n + b)) (λ m. bit (v * 2 ^ (k * n) + r) (a * n + m) && bit y (m * n + b))
        (λ m h. ap (λ (t : Bool). t && bit y (m * n + b)) (sym (bit-low v (k * n) r (a * n + m) hr (digits_lt (ltb-true a k e) (lt_of_lt_of_le h hc)))))
    go a b ha hb false e =
        let l₀ : k ≤ a = ltb-false a k e in
        let i : ℕ = a - k in
        let ea : a ≡ k + i = omega arith in
        let hi : i < l = omega arith in
        let place : (q : ℕ) → a * n + q ≡ k * n + (i * n + q) = λ q. ap (λ (z : ℕ). z * n + q) ea ∙ ap (λ (z : ℕ). z + q) (add-mul k i n) ∙ (let s : (k * n + i * n) + q ≡ k * n + (i * n + q) = omega arith in s) in
        ap (bit (product n l c v y * 2 ^ (k * n) + product n k c r y)) (place b)
        ∙ bit_up (product n l c v y) (k * n) (product n k c r y) (i * n + b) (product_lt n k c r y)
        ∙ bit-product n l c v y i b hi hb
        ∙ some_same c (λ m. bit v (i * n + m) && bit y (m * n + b)) (λ m. bit (v * 2 ^ (k * n) + r) (a * n + m) && bit y (m * n + b))
        (λ m h. ap (λ (t : Bool). t && bit y (m * n + b)) (sym (ap (bit (v * 2 ^ (k * n) + r)) (place m) ∙ bit_up v (k * n) r (i * n + m) hr)))

-- each word of x for itself
pub product-rows : (n k c j : ℕ) (f : ℕ → ℕ) (y : ℕ) → c ≤ n → ((w : ℕ) → f w < 2 ^ (k * n))
    → pieces (k * n) j (λ w. product n k c (f w) y) ≡ product n (j * k) c (pieces (k * n) j f) y
unfolding pieces
product-rows n k c zero f y hc h =
    sym (lt-one (subst (λ (e : ℕ). product n (0 * k) c 0 y < 2 ^ e) (ap (λ (z : ℕ). z * n) (zero-mul k) ∙ zero-mul n) (product_lt n (0 * k) c 0 y)))
product-rows n k c (suc j) f y hc h =
    ap₂ (λ (e z : ℕ). product n k c (f j) y * 2 ^ e + z) (sym (mul_assoc j k n)) (product-rows n k c j f y hc h)
    ∙ product-above n (j * k) k c (f j) (pieces (k * n) j f) y hc (subst (λ (e : ℕ). pieces (k * n) j f < 2 ^ e) (sym (mul_assoc j k n)) (pieces-lt (k * n) j f h))
    ∙ ap₂ (λ (z e : ℕ). product n z c (f j * 2 ^ e + pieces (k * n) j f) y) (sym (suc-mul j k)) (mul_assoc j k n)

-- ---- one pair

-- a pair stands in the word of its row: row i of word w, where a word has k rows
pub single-word : (n k w i b : ℕ) → w * k + i < n → b < n → 2 ^ (i * n + b) * 2 ^ (w * (k * n)) ≡ single n (w * k + i) b
single-word n k w i b ha hb =
    sym (pow-add 2 (i * n + b) (w * (k * n)))
    ∙ ap (λ (e : ℕ). 2 ^ e) place
    ∙ single-place n (w * k + i) b ha hb
  where
    place : (i * n + b) + w * (k * n) ≡ (w * k + i) * n + b
    place =
        let p : (w * k + i) * n ≡ w * k * n + i * n = add-mul (w * k) i n in
        let q : w * k * n ≡ w * (k * n) = mul_assoc w k n in
        omega arith

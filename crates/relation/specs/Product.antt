-- Composition by words, for any count n of states and any k rows of n digits: for each middle state m, row m of y in each row of x that has
-- the pair to m, or'ed. Assumes nothing.
use Rattle.std.specs.Prelude.{◌≡◌, ℕ, zero, suc, ◌+◌, ◌-◌, ◌*◌, ◌/◌, ◌%◌, ◌^◌, ◌<◌, ◌≤◌, Bool, true, false, ◌&&◌, ◌||◌, ◌==◌}
use Rattle.std.proofs.Math.Path.{refl, sym, ap, ap₂, subst}
use Rattle.std.proofs.Common.{◌∙◌, zero-le, suc-le-suc, le_refl, le_of_lt, add_comm, zero-mul, mul-one, add-one, pow_pos, eqb-true}
use Rattle.std.proofs.Math.Bool.{and-false, and-true, or_comm}
use Rattle.std.proofs.Math.Nat.{lt_of_le_of_lt, add-zero, one-mul, mul_comm, mod-eq_of_lt}
use Rattle.std.proofs.Math.Pow.{pow-lt, ones_lt}
use Rattle.std.specs.Int.Bits.{bit_and, bit_or, and_comm, and_zero_l, and_mask, mask_lt}
use Rattle.std.proofs.lemmas.Nat.{and_le_l, and_le_r, or_lt}
use Rattle.relation.specs.Digits.{bit, digit, number, pieces, some, union}
use Rattle.relation.specs.DigitLaws.{number_lt, bit-digit, bit-shr, bit-mod, bit-zero, bit-power, bit-and, bit-or, bit-digit-mul, digit-mul-lt, bit-ones, some-none}
use Rattle.relation.specs.Pieces.{pieces-lt, bit-pieces, pieces-mul, pieces-same, pieces-and, ext-pieces, bit-places}
use Rattle.relation.specs.Relation.{has, table, compose}

-- the lowest digit of each of k rows
unfoldable pub column : ℕ → ℕ → ℕ
unfolding pieces
column n k = pieces n k (λ a. 1)

-- in each of k rows all digits, where the row of x has its lowest
unfoldable pub spread : ℕ → ℕ → ℕ → ℕ
spread n k x = bit_and x (column n k) * (2 ^ n - 1)

-- the lowest row of y, in each of k rows
unfoldable pub repeated : ℕ → ℕ → ℕ → ℕ
repeated n k y = bit_and y (2 ^ n - 1) * column n k

-- the pairs of k rows with the middle state m: row m of y in each row with the pair to m
unfoldable pub through : ℕ → ℕ → ℕ → ℕ → ℕ → ℕ
through n k m x y = bit_and (spread n k (x / 2 ^ m)) (repeated n k (y / 2 ^ (m * n)))

-- the same for the lowest c middle states, where r m is the row of m in each of k rows
unfoldable pub crossed : ℕ → ℕ → ℕ → ℕ → (ℕ → ℕ) → ℕ
crossed n k c x r = union c (λ m. bit_and (spread n k (x / 2 ^ m)) (r m))

-- the pairs of k rows with a middle state below c
unfoldable pub product : ℕ → ℕ → ℕ → ℕ → ℕ → ℕ
product n k c x y = number (k * n) (λ p. some c (λ m. has n x (p / n) m && has n y m (p % n)))

pub product_lt : (n k c x y : ℕ) → product n k c x y < 2 ^ (k * n)
unfolding product
product_lt n k c x y = number_lt (k * n) (λ p. some c (λ m. has n x (p / n) m && has n y m (p % n)))

pub bit-product : (n k c x y a b : ℕ) → a < k → b < n → bit (product n k c x y) (a * n + b) ≡ some c (λ m. has n x a m && has n y m b)
unfolding product
bit-product n k c x y a b ha hb = bit-places n k (λ a b. some c (λ m. has n x a m && has n y m b)) a b ha hb

-- what has the same pairs in each row is the product
pub product_is : (n k c x y z : ℕ) → z < 2 ^ (k * n)
    → ((a b : ℕ) → a < k → b < n → bit z (a * n + b) ≡ some c (λ m. has n x a m && has n y m b)) → z ≡ product n k c x y
product_is n k c x y z hz h =
    ext-pieces n k z (product n k c x y) hz (product_lt n k c x y) (λ a b ha hb. h a b ha hb ∙ sym (bit-product n k c x y a b ha hb))

-- ---- masks of rows

module _ (n k : ℕ) (hn : 0 < n) where
  one-lt : 1 < 2 ^ n
  one-lt = pow-lt hn

  module _ (x : ℕ) where
    -- whether a row of x has its lowest digit, as that digit
    lowest : ℕ → ℕ
    lowest a = digit (bit x (a * n))

    lowest-lt : (a : ℕ) → lowest a < 2 ^ n
    unfolding lowest
    lowest-lt a = subst (λ (z : ℕ). z < 2 ^ n) (mul-one (digit (bit x (a * n)))) (digit-mul-lt (bit x (a * n)) 1 (2 ^ n) one-lt)

    lowest-rows : bit_and x (column n k) ≡ pieces n k lowest
    unfolding column lowest
    lowest-rows =
        ext-pieces n k (bit_and x (column n k)) (pieces n k lowest)
        (lt_of_le_of_lt (and_le_r x (column n k)) (pieces-lt n k (λ a. 1) (λ a. one-lt))) (pieces-lt n k lowest lowest-lt)
        (λ a b ha hb.
        bit-and x (column n k) (a * n + b)
        ∙ ap (λ (t : Bool). bit x (a * n + b) && t) (bit-pieces n k (λ z. 1) (λ z. one-lt) a b ha hb ∙ bit-power 0 b)
        ∙ first a b (b == 0) refl
        ∙ sym (bit-pieces n k lowest lowest-lt a b ha hb ∙ bit-digit (bit x (a * n)) b))
      where
        first : (a b : ℕ) (t : Bool) → (b == 0) ≡ t → (bit x (a * n + b) && t) ≡ (bit x (a * n) && t)
        first a b true e = ap (λ (q : ℕ). bit x q && true) (ap (λ (z : ℕ). a * n + z) (eqb-true b 0 e) ∙ add-zero (a * n))
        first a b false e = and-false (bit x (a * n + b)) ∙ sym (and-false (bit x (a * n)))

    full-lt : (a : ℕ) → lowest a * (2 ^ n - 1) < 2 ^ n
    unfolding lowest
    full-lt a = digit-mul-lt (bit x (a * n)) (2 ^ n - 1) (2 ^ n) (ones_lt n)

    spread-rows : spread n k x ≡ pieces n k (λ a. lowest a * (2 ^ n - 1))
    unfolding spread
    spread-rows = ap (λ (z : ℕ). z * (2 ^ n - 1)) lowest-rows ∙ pieces-mul n k lowest (2 ^ n - 1)

    pub spread-lt : spread n k x < 2 ^ (k * n)
    spread-lt = subst (λ (z : ℕ). z < 2 ^ (k * n)) (sym spread-rows) (pieces-lt n k (λ a. lowest a * (2 ^ n - 1)) full-lt)

    bit-spread : (a b : ℕ) → a < k → b < n → bit (spread n k x) (a * n + b) ≡ bit x (a * n)
    unfolding lowest
    bit-spread a b ha hb =
        ap (λ (z : ℕ). bit z (a * n + b)) spread-rows
        ∙ bit-pieces n k (λ z. lowest z * (2 ^ n - 1)) full-lt a b ha hb
        ∙ bit-digit-mul (bit x (a * n)) (2 ^ n - 1) b
        ∙ ap (λ (t : Bool). bit x (a * n) && t) (bit-ones n b hb)
        ∙ and-true (bit x (a * n))

  module _ (y : ℕ) where
    repeated-rows : repeated n k y ≡ pieces n k (λ a. bit_and y (2 ^ n - 1))
    unfolding repeated column
    repeated-rows =
        mul_comm (bit_and y (2 ^ n - 1)) (column n k)
        ∙ pieces-mul n k (λ a. 1) (bit_and y (2 ^ n - 1))
        ∙ pieces-same n k (λ a. 1 * bit_and y (2 ^ n - 1)) (λ a. bit_and y (2 ^ n - 1)) (λ a l. one-mul (bit_and y (2 ^ n - 1)))

    pub repeated_lt : repeated n k y < 2 ^ (k * n)
    repeated_lt = subst (λ (z : ℕ). z < 2 ^ (k * n)) (sym repeated-rows) (pieces-lt n k (λ a. bit_and y (2 ^ n - 1)) (λ a. mask_lt y n))

    bit-repeated : (a b : ℕ) → a < k → b < n → bit (repeated n k y) (a * n + b) ≡ bit y b
    bit-repeated a b ha hb =
        ap (λ (z : ℕ). bit z (a * n + b)) repeated-rows
        ∙ bit-pieces n k (λ z. bit_and y (2 ^ n - 1)) (λ z. mask_lt y n) a b ha hb
        ∙ ap (λ (z : ℕ). bit z b) (and_mask y n)
        ∙ bit-mod y n b hb

  -- row y, below 2 ^ n, in each row of x that has its lowest digit: by masks, and by a product
  spread-times : (x y : ℕ) → bit_and (spread n k x) (repeated n k y) ≡ bit_and x (column n k) * bit_and y (2 ^ n - 1)
  unfolding lowest
  spread-times x y =
      ap₂ bit_and (spread-rows x) (repeated-rows y)
      ∙ pieces-and n k (λ a. lowest x a * (2 ^ n - 1)) (λ a. bit_and y (2 ^ n - 1)) (full-lt x) (λ a. mask_lt y n)
      ∙ pieces-same n k (λ a. bit_and (lowest x a * (2 ^ n - 1)) (bit_and y (2 ^ n - 1))) (λ a. lowest x a * bit_and y (2 ^ n - 1)) (λ a l. taken (bit x (a * n)))
      ∙ sym (ap (λ (z : ℕ). z * bit_and y (2 ^ n - 1)) (lowest-rows x) ∙ pieces-mul n k (lowest x) (bit_and y (2 ^ n - 1)))
    where
      taken : (t : Bool) → bit_and (digit t * (2 ^ n - 1)) (bit_and y (2 ^ n - 1)) ≡ digit t * bit_and y (2 ^ n - 1)
      taken true =
          ap (λ (z : ℕ). bit_and z (bit_and y (2 ^ n - 1))) (one-mul (2 ^ n - 1))
          ∙ and_comm (2 ^ n - 1) (bit_and y (2 ^ n - 1))
          ∙ and_mask (bit_and y (2 ^ n - 1)) n
          ∙ mod-eq_of_lt (mask_lt y n)
          ∙ sym (one-mul (bit_and y (2 ^ n - 1)))
      taken false =
          ap (λ (z : ℕ). bit_and z (bit_and y (2 ^ n - 1))) (zero-mul (2 ^ n - 1))
          ∙ and_zero_l (bit_and y (2 ^ n - 1))
          ∙ sym (zero-mul (bit_and y (2 ^ n - 1)))

-- ---- one middle state

module _ (n k m x y : ℕ) (hm : m < n) where
  pos : 0 < n
  pos = lt_of_le_of_lt zero-le hm

  -- by a product
  pub through-times : bit_and (x / 2 ^ m) (column n k) * bit_and (y / 2 ^ (m * n)) (2 ^ n - 1) ≡ through n k m x y
  unfolding through
  through-times = sym (spread-times n k pos (x / 2 ^ m) (y / 2 ^ (m * n)))

  pub through-lt : through n k m x y < 2 ^ (k * n)
  unfolding through
  through-lt = lt_of_le_of_lt (and_le_l (spread n k (x / 2 ^ m)) (repeated n k (y / 2 ^ (m * n)))) (spread-lt n k pos (x / 2 ^ m))

  bit-through : (a b : ℕ) → a < k → b < n → bit (through n k m x y) (a * n + b) ≡ (has n x a m && has n y m b)
  unfolding through has
  bit-through a b ha hb =
      bit-and (spread n k (x / 2 ^ m)) (repeated n k (y / 2 ^ (m * n))) (a * n + b)
      ∙ ap₂ (λ (s t : Bool). s && t)
      (bit-spread n k pos (x / 2 ^ m) a b ha hb ∙ bit-shr x m (a * n) ∙ ap (bit x) (add_comm m (a * n)))
      (bit-repeated n k pos (y / 2 ^ (m * n)) a b ha hb ∙ bit-shr y (m * n) b)

  -- one middle state more
  pub product-next : bit_or (product n k m x y) (through n k m x y) ≡ product n k (m + 1) x y
  unfolding some
  product-next =
      product_is n k (m + 1) x y (bit_or (product n k m x y) (through n k m x y))
      (or_lt (k * n) (product n k m x y) (through n k m x y) (product_lt n k m x y) through-lt)
      (λ a b ha hb.
      bit-or (product n k m x y) (through n k m x y) (a * n + b)
      ∙ ap₂ (λ (s t : Bool). s || t) (bit-product n k m x y a b ha hb) (bit-through a b ha hb)
      ∙ or_comm (some m (λ i. has n x a i && has n y i b)) (has n x a m && has n y m b)
      ∙ sym (ap (λ (z : ℕ). some z (λ i. has n x a i && has n y i b)) (add-one m)))

pub product-none : (n k x y : ℕ) → product n k 0 x y ≡ 0
unfolding some
product-none n k x y = sym (product_is n k 0 x y 0 (pow_pos (k * n)) (λ a b ha hb. bit-zero (a * n + b)))

-- no pair from a row of an empty relation
pub product-empty-left : (n k c y : ℕ) → product n k c 0 y ≡ 0
unfolding has
product-empty-left n k c y =
    sym (product_is n k c 0 y 0 (pow_pos (k * n))
    (λ a b ha hb. bit-zero (a * n + b) ∙ sym (some-none c (λ m. bit 0 (a * n + m) && bit y (m * n + b)) (λ m l. ap (λ (t : Bool). t && bit y (m * n + b)) (bit-zero (a * n + m))))))

-- no pair with a row of an empty relation
pub product-empty : (n k c x : ℕ) → product n k c x 0 ≡ 0
unfolding has
product-empty n k c x =
    sym (product_is n k c x 0 0 (pow_pos (k * n))
    (λ a b ha hb. bit-zero (a * n + b) ∙ sym (some-none c (λ m. bit x (a * n + m) && bit 0 (m * n + b)) (λ m l. ap (λ (t : Bool). bit x (a * n + m) && t) (bit-zero (m * n + b)) ∙ and-false (bit x (a * n + m))))))

-- the lowest c middle states together
pub union-through : (n k c x y : ℕ) (r : ℕ → ℕ) → c ≤ n → ((m : ℕ) → m < c → r m ≡ through n k m x y) → union c r ≡ product n k c x y
unfolding union
union-through n k zero x y r hc h = sym (product-none n k x y)
union-through n k (suc c) x y r hc h =
    ap₂ bit_or (union-through n k c x y r (le_of_lt hc) (λ m l. h m (le_of_lt (suc-le-suc l)))) (h c (le_refl (suc c)))
    ∙ product-next n k c x y hc
    ∙ ap (λ (z : ℕ). product n k z x y) (add-one c)

-- by masks
pub crossed-product : (n k c x y : ℕ) (r : ℕ → ℕ) → c ≤ n → ((m : ℕ) → m < c → r m ≡ repeated n k (y / 2 ^ (m * n))) → crossed n k c x r ≡ product n k c x y
unfolding crossed through
crossed-product n k c x y r hc h =
    union-through n k c x y (λ m. bit_and (spread n k (x / 2 ^ m)) (r m)) hc (λ m l. ap (bit_and (spread n k (x / 2 ^ m))) (h m l))

pub product-all : (n x y : ℕ) → product n n n x y ≡ compose n x y
unfolding product compose table
product-all n x y = refl

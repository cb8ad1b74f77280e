-- Numbers made of k pieces of n digits, for any k and n: the words of a relation and the rows of a word are such pieces. Assumes nothing.
use Rattle.std.specs.Prelude.{◌≡◌, ℕ, zero, suc, ◌+◌, ◌*◌, ◌/◌, ◌%◌, ◌^◌, ◌<◌, Bool, true, ◌&&◌, ◌⊎◌, ◌==◌, bit_and, bit_or, nat_eq}
use Rattle.std.proofs.Math.Path.{refl, sym, ap, ap₂, subst}
use Rattle.std.proofs.Common.{◌∙◌, inl, inr, suc-le-suc, le_refl, le_of_lt, le_of_suc-le-suc, not-suc-le-zero, zero-lt-suc, mod-lt, div-lt_iff_lt-mul, div-add-mod', eq-or-lt_of_le, add_comm, mul-zero, suc-mul, mul_right_comm, pow-add, eqb-true, eq-eqb}
use Rattle.std.proofs.Math.Nat.{zero-mul, add-mul}
use Rattle.std.proofs.Math.Arith.{digits_lt, digits_div, digits_mod}
use Rattle.std.specs.Int.Bits.{and_zero_l, or_zero_l, and_block, or_block}
use Rattle.std.proofs.Math.Pow.{pow_pos, high, low}
use Rattle.spec_basics.specs.Tests.{and_intro, and-fst, and-snd, iff-equal}
use Rattle.relation.specs.Digits.{bit, number, pieces, piece, all, subset}
use Rattle.relation.specs.DigitLaws.{bit-number, bit_up, bit-low, bit-mod, bit-shr, ext, subset-bit, bit-subset}

-- ---- what is made of pieces

module _ (n : ℕ) where
  pub pieces-lt : (k : ℕ) (f : ℕ → ℕ) → ((a : ℕ) → f a < 2 ^ n) → pieces n k f < 2 ^ (k * n)
  unfolding pieces
  pieces-lt zero f h = pow_pos (0 * n)
  pieces-lt (suc k) f h =
      subst (λ (z : ℕ). f k * 2 ^ (k * n) + pieces n k f < z)
      (sym (pow-add 2 n (k * n)) ∙ ap (λ (z : ℕ). 2 ^ z) (add_comm n (k * n) ∙ sym (suc-mul k n)))
      (digits_lt (h k) (pieces-lt k f h))

  -- place b of piece a
  pub bit-pieces : (k : ℕ) (f : ℕ → ℕ) → ((a : ℕ) → f a < 2 ^ n) → (a b : ℕ) → a < k → b < n → bit (pieces n k f) (a * n + b) ≡ bit (f a) b
  unfolding pieces
  bit-pieces zero f h a b ha hb = absurd (not-suc-le-zero ha)
  bit-pieces (suc k) f h a b ha hb = go (bit-pieces k f h a b) (eq-or-lt_of_le (le_of_suc-le-suc ha))
    where
      go : (a < k → b < n → bit (pieces n k f) (a * n + b) ≡ bit (f a) b) → (a ≡ k) ⊎ (a < k)
          → bit (f k * 2 ^ (k * n) + pieces n k f) (a * n + b) ≡ bit (f a) b
      go ih (inl e) =
          ap (λ (z : ℕ). bit (f k * 2 ^ (k * n) + pieces n k f) (z * n + b)) e
          ∙ bit_up (f k) (k * n) (pieces n k f) b (pieces-lt k f h)
          ∙ ap (λ (z : ℕ). bit (f z) b) (sym e)
      go ih (inr l) = bit-low (f k) (k * n) (pieces n k f) (a * n + b) (pieces-lt k f h) (digits_lt l hb) ∙ ih l hb

  -- a product, piece by piece
  pub pieces-mul : (k : ℕ) (f : ℕ → ℕ) (r : ℕ) → pieces n k f * r ≡ pieces n k (λ a. f a * r)
  unfolding pieces
  pieces-mul zero f r = zero-mul r
  pieces-mul (suc k) f r =
      add-mul (f k * 2 ^ (k * n)) (pieces n k f) r
      ∙ ap₂ (λ (u v : ℕ). u + v) (mul_right_comm (f k) (2 ^ (k * n)) r) (pieces-mul k f r)

  -- equal pieces
  pub pieces-same : (k : ℕ) (f g : ℕ → ℕ) → ((a : ℕ) → a < k → f a ≡ g a) → pieces n k f ≡ pieces n k g
  unfolding pieces
  pieces-same zero f g h = refl
  pieces-same (suc k) f g h =
      ap₂ (λ (u v : ℕ). u * 2 ^ (k * n) + v) (h k (le_refl (suc k))) (pieces-same k f g (λ a l. h a (le_of_lt (suc-le-suc l))))

  -- piece by piece
  pub pieces-and : (k : ℕ) (f g : ℕ → ℕ) → ((a : ℕ) → f a < 2 ^ n) → ((a : ℕ) → g a < 2 ^ n)
      → bit_and (pieces n k f) (pieces n k g) ≡ pieces n k (λ a. bit_and (f a) (g a))
  unfolding pieces
  pieces-and zero f g hf hg = and_zero_l 0
  pieces-and (suc k) f g hf hg =
      and_block (k * n) (f k) (g k) (pieces n k f) (pieces n k g) (pieces-lt k f hf) (pieces-lt k g hg)
      ∙ ap (λ (z : ℕ). bit_and (f k) (g k) * 2 ^ (k * n) + z) (pieces-and k f g hf hg)

  pub pieces-or : (k : ℕ) (f g : ℕ → ℕ) → ((a : ℕ) → f a < 2 ^ n) → ((a : ℕ) → g a < 2 ^ n)
      → bit_or (pieces n k f) (pieces n k g) ≡ pieces n k (λ a. bit_or (f a) (g a))
  unfolding pieces
  pieces-or zero f g hf hg = or_zero_l 0
  pieces-or (suc k) f g hf hg =
      or_block (k * n) (f k) (g k) (pieces n k f) (pieces n k g) (pieces-lt k f hf) (pieces-lt k g hg)
      ∙ ap (λ (z : ℕ). bit_or (f k) (g k) * 2 ^ (k * n) + z) (pieces-or k f g hf hg)

-- two numbers of as many pieces are equal where their pieces are
pub pieces-eqb : (n k : ℕ) (f g : ℕ → ℕ) → ((a : ℕ) → f a < 2 ^ n) → ((a : ℕ) → g a < 2 ^ n)
    → (pieces n k f == pieces n k g) ≡ all k (λ a. nat_eq (f a) (g a))
unfolding pieces all
pieces-eqb n zero f g hf hg = refl
pieces-eqb n (suc k) f g hf hg = block ∙ ap (λ (t : Bool). t && f k == g k) (pieces-eqb n k f g hf hg)
  where
    block : nat_eq (f k * 2 ^ (k * n) + pieces n k f) (g k * 2 ^ (k * n) + pieces n k g) ≡ (pieces n k f == pieces n k g && f k == g k)
    block =
        iff-equal (f k * 2 ^ (k * n) + pieces n k f == g k * 2 ^ (k * n) + pieces n k g) (pieces n k f == pieces n k g && f k == g k)
        (λ h.
        let e = eqb-true (f k * 2 ^ (k * n) + pieces n k f) (g k * 2 ^ (k * n) + pieces n k g) h in
        and_intro (pieces n k f == pieces n k g) (f k == g k)
        (eq-eqb (pieces n k f) (pieces n k g)
        (sym (low (f k) (k * n) (pieces-lt n k f hf)) ∙ ap (λ (z : ℕ). z % 2 ^ (k * n)) e ∙ low (g k) (k * n) (pieces-lt n k g hg)))
        (eq-eqb (f k) (g k)
        (sym (high (f k) (k * n) (pieces-lt n k f hf)) ∙ ap (λ (z : ℕ). z / 2 ^ (k * n)) e ∙ high (g k) (k * n) (pieces-lt n k g hg))))
        (λ h.
        eq-eqb (f k * 2 ^ (k * n) + pieces n k f) (g k * 2 ^ (k * n) + pieces n k g)
        (ap₂ (λ (u v : ℕ). u * 2 ^ (k * n) + v)
        (eqb-true (f k) (g k) (and-snd (pieces n k f == pieces n k g) (f k == g k) h))
        (eqb-true (pieces n k f) (pieces n k g) (and-fst (pieces n k f == pieces n k g) (f k == g k) h))))

-- ---- one piece

pub piece-lt : (n x a : ℕ) → piece n x a < 2 ^ n
unfolding piece
piece-lt n x a = mod-lt (x / 2 ^ (a * n)) (pow_pos n)

pub bit-piece : (n x a b : ℕ) → b < n → bit (piece n x a) b ≡ bit x (a * n + b)
unfolding piece
bit-piece n x a b hb = bit-mod (x / 2 ^ (a * n)) n b hb ∙ bit-shr x (a * n) b

pub subset-piece : (n x y a : ℕ) → subset x y ≡ true → subset (piece n x a) (piece n y a) ≡ true
subset-piece n x y a s =
    bit-subset n (piece n x a) (piece n y a) (piece-lt n x a)
    (λ b l h. bit-piece n y a b l ∙ subset-bit x y s (a * n + b) (sym (bit-piece n x a b l) ∙ h))

-- ---- the places of k pieces

-- what holds at each place of each piece holds at each place
pub at_places : (n k : ℕ) (P : ℕ → Type 0) → ((a b : ℕ) → a < k → b < n → P (a * n + b)) → (p : ℕ) → p < k * n → P p
at_places n k P h p l = subst P (div-add-mod' p n) (h (p / n) (p % n) ((div-lt_iff_lt-mul size-pos).1 l) (mod-lt p size-pos))
  where
    positive : (m : ℕ) → p < k * m → 0 < m
    positive zero l = absurd (not-suc-le-zero (subst (λ (z : ℕ). p < z) (mul-zero k) l))
    positive (suc m) l = zero-lt-suc m

    size-pos : 0 < n
    size-pos = positive n l

-- two numbers of k pieces are equal where their places are
pub ext-pieces : (n k x y : ℕ) → x < 2 ^ (k * n) → y < 2 ^ (k * n)
    → ((a b : ℕ) → a < k → b < n → bit x (a * n + b) ≡ bit y (a * n + b)) → x ≡ y
ext-pieces n k x y hx hy h = ext (k * n) x y hx hy (at_places n k (λ p. bit x p ≡ bit y p) h)

-- a number made place by place, by piece and place in it
pub bit-places : (n k : ℕ) (f : ℕ → ℕ → Bool) (a b : ℕ) → a < k → b < n → bit (number (k * n) (λ p. f (p / n) (p % n))) (a * n + b) ≡ f a b
bit-places n k f a b ha hb =
    bit-number (k * n) (λ p. f (p / n) (p % n)) (a * n + b) (digits_lt ha hb)
    ∙ ap₂ f (digits_div a hb) (digits_mod a hb)

-- a piece, taken out again
pub piece_of : (n k : ℕ) (f : ℕ → ℕ) → ((a : ℕ) → f a < 2 ^ n) → (a : ℕ) → a < k → piece n (pieces n k f) a ≡ f a
piece_of n k f h a ha =
    ext n (piece n (pieces n k f) a) (f a) (piece-lt n (pieces n k f) a) (h a)
    (λ b hb. bit-piece n (pieces n k f) a b hb ∙ bit-pieces n k f h a b ha hb)

-- a number below 2 ^ (k * n) is its k pieces
pub pieces_of : (n k x : ℕ) → x < 2 ^ (k * n) → pieces n k (piece n x) ≡ x
pieces_of n k x hx =
    ext-pieces n k (pieces n k (piece n x)) x (pieces-lt n k (piece n x) (piece-lt n x)) hx
    (λ a b ha hb. bit-pieces n k (piece n x) (piece-lt n x) a b ha hb ∙ bit-piece n x a b hb)

-- Laws of numbers as sets of places. Assumes nothing.
use Rattle.std.specs.Prelude.{◌≡◌, ℕ, zero, suc, ◌+◌, ◌-◌, ◌*◌, ◌/◌, ◌%◌, ◌^◌, ◌<◌, min, max, Bool, true, false, ◌&&◌, ◌||◌, ◌⊎◌, ◌==◌, bit_xor, nat_eq, nat_lt, refl}
use Rattle.std.proofs.Common.{sym, ap, ap₂, ◌∙◌, subst, inl, inr, zero-le, suc-le-suc, le_refl, le_of_suc-le-suc, not-suc-le-zero, zero-lt-suc, mod-lt, pow-suc, eq-or-lt_of_le, mul_comm, lt_of_le_of_lt, le_of_lt, add-zero, zero-mul, one-mul, arith, pow_pos, shr-shr, eqb-true, eq-eqb, ltb-true, ltb-false}
use Rattle.std.proofs.lemmas.Bool.{false≢true, eqb-false}
use Rattle.std.proofs.Math.Nat.{mul-add-mod_self_right, div-eq_of_lt}
use Rattle.std.proofs.Math.Arith.{digits_lt, lt-one, lt_of_le-ne}
use Rattle.std.proofs.Math.Pow.{pow-lt, high, low, field, mod-mod-pow, recompose, ones_lt, ones_split}
use Rattle.std.specs.Int.Bits.{bit_and, bit_or, and_step, and_zero_l, or_step, and_self, xor_self, or_add_and, xor_add_and}
use Rattle.std.proofs.lemmas.Nat.{and_mask, and_shr, and_block, or_shr, and_le_l, and_le_r}
use Rattle.spec_basics.specs.Tests.{and_intro, and-fst, and-snd, or_left, or_right, iff-equal}
use Rattle.relation.specs.Digits.{bit, digit, number, some, all, union, subset}

-- ---- digits

two_pos : 0 < 2
two_pos = zero-lt-suc 1

-- a digit, as a number, is 0 or 1 by the test
pub digit-is : (e k : ℕ) → e / 2 ^ k % 2 ≡ digit (bit e k)
unfolding bit
digit-is e k = go (e / 2 ^ k % 2) (mod-lt (e / 2 ^ k) two_pos)
  where
    go : (d : ℕ) → d < 2 → d ≡ digit (d == 1)
    go zero h = refl
    go (suc zero) h = refl
    go (suc (suc d)) h = absurd (not-suc-le-zero (le_of_suc-le-suc (le_of_suc-le-suc h)))

digit_lt : (b : Bool) → digit b < 2
digit_lt true = le_refl 2
digit_lt false = two_pos

digit-eqb : (b : Bool) → (digit b % 2 == 1) ≡ b
digit-eqb true = refl
digit-eqb false = refl

-- the digits below m are those of the remainder
pub bit-mod : (e m k : ℕ) → k < m → bit (e % 2 ^ m) k ≡ bit e k
unfolding bit
bit-mod e m k h =
    let j : ℕ = m - suc k in
    let em : m ≡ (j + 1) + k = omega arith in
    ap (λ (x : ℕ). nat_eq (e % 2 ^ x / 2 ^ k % 2) 1) em
    ∙ ap (λ (x : ℕ). nat_eq (x % 2) 1) (field e (j + 1) k)
    ∙ ap (λ (x : ℕ). nat_eq x 1) (mod-mod-pow (e / 2 ^ k) j 1)

pub bit-low : (v m r k : ℕ) → r < 2 ^ m → k < m → bit (v * 2 ^ m + r) k ≡ bit r k
bit-low v m r k hr h = sym (bit-mod (v * 2 ^ m + r) m k h) ∙ ap (λ (x : ℕ). bit x k) (low v m hr)

pub bit_high : (b : Bool) (m r : ℕ) → r < 2 ^ m → bit (digit b * 2 ^ m + r) m ≡ b
unfolding bit
bit_high b m r hr = ap (λ (x : ℕ). nat_eq (x % 2) 1) (high (digit b) m hr) ∙ digit-eqb b

-- a shift moves the digits down
pub bit-shr : (x c k : ℕ) → bit (x / 2 ^ c) k ≡ bit x (c + k)
unfolding bit
bit-shr x c k = ap (λ (z : ℕ). nat_eq (z % 2) 1) (shr-shr x c k)

pub bit_up : (v m r k : ℕ) → r < 2 ^ m → bit (v * 2 ^ m + r) (m + k) ≡ bit v k
bit_up v m r k h = sym (bit-shr (v * 2 ^ m + r) m k) ∙ ap (λ (z : ℕ). bit z k) (high v m h)

-- the lowest digit after a shift
pub digit-of : (x k : ℕ) → (bit_and (x / 2 ^ k) 1 == 1) ≡ bit x k
unfolding bit
digit-of x k = ap (λ (d : ℕ). nat_eq d 1) (and_mask (x / 2 ^ k) 1)

-- a number has no digit beyond its size
pub bit-beyond : (x k : ℕ) → x < 2 ^ k → bit x k ≡ false
unfolding bit
bit-beyond x k h = ap (λ (z : ℕ). nat_eq (z % 2) 1) (div-eq_of_lt h)

pub bit-zero : (k : ℕ) → bit 0 k ≡ false
bit-zero k = bit-beyond 0 k (pow_pos k)

-- a power of 2 has one digit
pub bit-power : (m k : ℕ) → bit (2 ^ m) k ≡ (k == m)
bit-power m k = go (k == m) refl (nat_lt k m) refl
  where
    whole : 1 * 2 ^ m + 0 ≡ 2 ^ m
    whole = add-zero (1 * 2 ^ m) ∙ one-mul (2 ^ m)

    go : (t : Bool) → (k == m) ≡ t → (u : Bool) → nat_lt k m ≡ u → bit (2 ^ m) k ≡ (k == m)
    go true e u l = ap₂ bit (sym whole) (eqb-true k m e) ∙ bit_high true m 0 (pow_pos m) ∙ sym e
    go false e true l =
        ap (λ (z : ℕ). bit z k) (sym whole) ∙ bit-low 1 m 0 k (pow_pos m) (ltb-true k m l) ∙ bit-zero k ∙ sym e
    go false e false l =
        bit-beyond (2 ^ m) k (pow-lt (lt_of_le-ne (ltb-false k m l) (λ p. eqb-false k m e (sym p)))) ∙ sym e

-- a number taken once or not at all
pub bit-digit-mul : (t : Bool) (r k : ℕ) → bit (digit t * r) k ≡ (t && bit r k)
bit-digit-mul true r k = ap (λ (z : ℕ). bit z k) (one-mul r)
bit-digit-mul false r k = ap (λ (z : ℕ). bit z k) (zero-mul r) ∙ bit-zero k

pub bit-digit : (t : Bool) (k : ℕ) → bit (digit t) k ≡ (t && k == 0)
bit-digit true k = bit-power 0 k
bit-digit false k = bit-zero k

pub digit-mul-lt : (t : Bool) (r m : ℕ) → r < m → digit t * r < m
digit-mul-lt true r m h = subst (λ (z : ℕ). z < m) (sym (one-mul r)) h
digit-mul-lt false r m h = subst (λ (z : ℕ). z < m) (sym (zero-mul r)) (lt_of_le_of_lt zero-le h)

-- the largest number of n digits has them all
pub bit-ones : (n k : ℕ) → k < n → bit (2 ^ n - 1) k ≡ true
bit-ones n k h =
    let e : n ≡ (n - suc k) + (1 + k) = omega arith in
    ap (λ (z : ℕ). bit (2 ^ z - 1) k) e
    ∙ ap (λ (z : ℕ). bit z k) (ones_split (n - suc k) (1 + k))
    ∙ bit-low (2 ^ (n - suc k) - 1) (1 + k) (2 ^ (1 + k) - 1) k (ones_lt (1 + k)) (omega arith)
    ∙ ap (λ (z : ℕ). bit z k) (ones_split 1 k)
    ∙ bit_high true k (2 ^ k - 1) (ones_lt k)

pub number_lt : (m : ℕ) (f : ℕ → Bool) → number m f < 2 ^ m
unfolding number
number_lt zero f = le_refl 1
number_lt (suc m) f =
    subst (λ (x : ℕ). digit (f m) * 2 ^ m + number m f < x) (mul_comm 2 (2 ^ m) ∙ sym (pow-suc 2 m))
    (digits_lt (digit_lt (f m)) (number_lt m f))

-- what is made of f has f's digits
pub bit-number : (m : ℕ) (f : ℕ → Bool) (k : ℕ) → k < m → bit (number m f) k ≡ f k
unfolding number
bit-number zero f k h = absurd (not-suc-le-zero h)
bit-number (suc m) f k h = go (bit-number m f k) (eq-or-lt_of_le (le_of_suc-le-suc h))
  where
    go : (k < m → bit (number m f) k ≡ f k) → (k ≡ m) ⊎ (k < m) → bit (digit (f m) * 2 ^ m + number m f) k ≡ f k
    go ih (inl e) = ap (bit (digit (f m) * 2 ^ m + number m f)) e ∙ bit_high (f m) m (number m f) (number_lt m f) ∙ ap f (sym e)
    go ih (inr l) = bit-low (digit (f m)) m (number m f) k (number_lt m f) l ∙ ih l

-- two numbers of m digits are equal where their digits are
pub ext : (m a b : ℕ) → a < 2 ^ m → b < 2 ^ m → ((k : ℕ) → k < m → bit a k ≡ bit b k) → a ≡ b
ext zero a b ha hb h = lt-one ha ∙ sym (lt-one hb)
ext (suc m) a b ha hb h =
    sym (parts a ha)
    ∙ ap₂ (λ (x y : ℕ). x * 2 ^ m + y)
    (digit-is a m ∙ ap digit (h m (le_refl (suc m))) ∙ sym (digit-is b m))
    (ext m (a % 2 ^ m) (b % 2 ^ m) (mod-lt a (pow_pos m)) (mod-lt b (pow_pos m))
    (λ k l. bit-mod a m k l ∙ h k (omega arith) ∙ sym (bit-mod b m k l)))
    ∙ parts b hb
  where
    parts : (n : ℕ) → n < 2 ^ suc m → n / 2 ^ m % 2 * 2 ^ m + n % 2 ^ m ≡ n
    parts n l = recompose 1 m (subst (λ (x : ℕ). n < 2 ^ x) (let e : suc m ≡ 1 + m = omega arith in e) l)

-- ---- and, or, containment

min-digit : (a b : Bool) → (min (digit a) (digit b) % 2 == 1) ≡ (a && b)
min-digit true true = refl
min-digit true false = refl
min-digit false true = refl
min-digit false false = refl

max-digit : (a b : Bool) → (max (digit a) (digit b) % 2 == 1) ≡ (a || b)
max-digit true true = refl
max-digit true false = refl
max-digit false true = refl
max-digit false false = refl

pub bit-and : (a b k : ℕ) → bit (bit_and a b) k ≡ (bit a k && bit b k)
unfolding bit
bit-and a b k =
    ap (λ (x : ℕ). nat_eq (x % 2) 1) (and_shr a b k ∙ and_step (a / 2 ^ k) (b / 2 ^ k))
    ∙ ap (λ (x : ℕ). nat_eq x 1) (mul-add-mod_self_right (bit_and (a / 2 ^ k / 2) (b / 2 ^ k / 2)) 2 (min (a / 2 ^ k % 2) (b / 2 ^ k % 2)))
    ∙ ap₂ (λ (x y : ℕ). nat_eq (min x y % 2) 1) (digit-is a k) (digit-is b k)
    ∙ min-digit (bit a k) (bit b k)

pub bit-or : (a b k : ℕ) → bit (bit_or a b) k ≡ (bit a k || bit b k)
unfolding bit
bit-or a b k =
    ap (λ (x : ℕ). nat_eq (x % 2) 1) (or_shr a b k ∙ or_step (a / 2 ^ k) (b / 2 ^ k))
    ∙ ap (λ (x : ℕ). nat_eq x 1) (mul-add-mod_self_right (bit_or (a / 2 ^ k / 2) (b / 2 ^ k / 2)) 2 (max (a / 2 ^ k % 2) (b / 2 ^ k % 2)))
    ∙ ap₂ (λ (x y : ℕ). nat_eq (max x y % 2) 1) (digit-is a k) (digit-is b k)
    ∙ max-digit (bit a k) (bit b k)

-- a union without places is one of numbers without places
pub or-empty : (a b : ℕ) → bit_or a b ≡ 0 → (a ≡ 0) × (b ≡ 0)
or-empty a b e =
    let l = and_le_l a b in
    let m = and_le_r a b in
    (omega (arith, or_add_and a b), omega (arith, or_add_and a b))

or-none : (a b : ℕ) → (bit_or a b == 0) ≡ (a == 0 && b == 0)
or-none a b =
    iff-equal (bit_or a b == 0) (a == 0 && b == 0)
    (λ h.
    let e = or-empty a b (eqb-true (bit_or a b) 0 h) in
    and_intro (a == 0) (b == 0) (eq-eqb a 0 e.0) (eq-eqb b 0 e.1))
    (λ h.
    let p : a ≡ 0 = eqb-true a 0 (and-fst (a == 0) (b == 0) h) in
    let q : b ≡ 0 = eqb-true b 0 (and-snd (a == 0) (b == 0) h) in
    eq-eqb (bit_or a b) 0 (omega (arith, or_add_and a b)))

-- of any count of numbers
pub union-none : (m : ℕ) (f : ℕ → ℕ) → (union m f == 0) ≡ all m (λ k. nat_eq (f k) 0)
unfolding union all
union-none zero f = refl
union-none (suc m) f = or-none (union m f) (f m) ∙ ap (λ (t : Bool). t && f m == 0) (union-none m f)

-- numbers that are equal have the same places together
pub union-same : (m : ℕ) (f g : ℕ → ℕ) → ((k : ℕ) → k < m → f k ≡ g k) → union m f ≡ union m g
unfolding union
union-same zero f g h = refl
union-same (suc m) f g h = ap₂ bit_or (union-same m f g (λ k l. h k (le_of_lt (suc-le-suc l)))) (h m (le_refl (suc m)))

-- numbers that differ nowhere are equal
pub xor-none : (a b : ℕ) → (bit_xor a b == 0) ≡ (a == b)
xor-none a b =
    iff-equal (bit_xor a b == 0) (a == b)
    (λ h.
    let e : bit_xor a b ≡ 0 = eqb-true (bit_xor a b) 0 h in
    let l = and_le_l a b in
    let m = and_le_r a b in
    eq-eqb a b (omega (arith, xor_add_and a b)))
    (λ h. eq-eqb (bit_xor a b) 0 (ap (bit_xor a) (sym (eqb-true a b h)) ∙ xor_self a))

and_right : (a b : Bool) → (a && b) ≡ a → a ≡ true → b ≡ true
and_right true b e h = e
and_right false b e h = absurd (false≢true h)

and_left : (a b : Bool) → (a ≡ true → b ≡ true) → (a && b) ≡ a
and_left true b h = h refl
and_left false b h = refl

pub subset-bit : (x y : ℕ) → subset x y ≡ true → (k : ℕ) → bit x k ≡ true → bit y k ≡ true
unfolding subset
subset-bit x y s k h = and_right (bit x k) (bit y k) (sym (bit-and x y k) ∙ ap (λ (z : ℕ). bit z k) (eqb-true (bit_and x y) x s)) h

pub bit-subset : (m x y : ℕ) → x < 2 ^ m → ((k : ℕ) → k < m → bit x k ≡ true → bit y k ≡ true) → subset x y ≡ true
unfolding subset
bit-subset m x y hx h =
    eq-eqb (bit_and x y) x (ext m (bit_and x y) x (lt_of_le_of_lt (and_le_l x y) hx) hx
    (λ k l. bit-and x y k ∙ and_left (bit x k) (bit y k) (h k l)))

pub subset-refl : (x : ℕ) → subset x x ≡ true
unfolding subset
subset-refl x = eq-eqb (bit_and x x) x (and_self x)

-- every number has fewer digits than itself
below_power : (x : ℕ) → x < 2 ^ x
below_power zero = pow_pos 0
below_power (suc x) = let l = below_power x in omega (arith, pow-lt (le_refl (suc x)))

pub subset-trans : (x y z : ℕ) → subset x y ≡ true → subset y z ≡ true → subset x z ≡ true
subset-trans x y z p q = bit-subset x x z (below_power x) (λ k l h. subset-bit y z q k (subset-bit x y p k h))

-- what is made of both alike: the places that are in m too, those moved up by n, and those of two numbers together
pub subset-and : (m x y : ℕ) → subset x y ≡ true → subset (bit_and x m) (bit_and y m) ≡ true
subset-and m x y s =
    bit-subset (bit_and x m) (bit_and x m) (bit_and y m) (below_power (bit_and x m))
    (λ k l h.
    let b = sym (bit-and x m k) ∙ h in
    bit-and y m k ∙ and_intro (bit y k) (bit m k) (subset-bit x y s k (and-fst (bit x k) (bit m k) b)) (and-snd (bit x k) (bit m k) b))

pub subset-shl : (n x y : ℕ) → subset x y ≡ true → subset (x * 2 ^ n) (y * 2 ^ n) ≡ true
unfolding subset
subset-shl n x y s = eq-eqb (bit_and (x * 2 ^ n) (y * 2 ^ n)) (x * 2 ^ n) (moved ∙ ap (λ (z : ℕ). z * 2 ^ n) (eqb-true (bit_and x y) x s))
  where
    moved : bit_and (x * 2 ^ n) (y * 2 ^ n) ≡ bit_and x y * 2 ^ n
    moved =
        ap₂ bit_and (sym (add-zero (x * 2 ^ n))) (sym (add-zero (y * 2 ^ n)))
        ∙ and_block n x y 0 0 (pow_pos n) (pow_pos n)
        ∙ ap (λ (z : ℕ). bit_and x y * 2 ^ n + z) (and_zero_l 0)
        ∙ add-zero (bit_and x y * 2 ^ n)

pub subset-or : (x y u v : ℕ) → subset x y ≡ true → subset u v ≡ true → subset (bit_or x u) (bit_or y v) ≡ true
subset-or x y u v s t =
    bit-subset (bit_or x u) (bit_or x u) (bit_or y v) (below_power (bit_or x u))
    (λ k l h. bit-or y v k ∙ one_of (bit x k) (bit u k) (bit y k) (bit v k) (subset-bit x y s k) (subset-bit u v t k) (sym (bit-or x u k) ∙ h))
  where
    one_of : (a b c d : Bool) → (a ≡ true → c ≡ true) → (b ≡ true → d ≡ true) → (a || b) ≡ true → (c || d) ≡ true
    one_of true b c d f g h = or_left c d (f refl)
    one_of false b c d f g h = or_right c d (g h)

-- ---- some number below m

pub some_at : (m : ℕ) (f : ℕ → Bool) (k : ℕ) → k < m → f k ≡ true → some m f ≡ true
unfolding some
some_at zero f k h e = absurd (not-suc-le-zero h)
some_at (suc m) f k h e = go (some_at m f k) (eq-or-lt_of_le (le_of_suc-le-suc h))
  where
    go : (k < m → f k ≡ true → some m f ≡ true) → (k ≡ m) ⊎ (k < m) → (f m || some m f) ≡ true
    go ih (inl p) = or_left (f m) (some m f) (ap f (sym p) ∙ e)
    go ih (inr l) = or_right (f m) (some m f) (ih l e)

pub some_of : (m : ℕ) (f : ℕ → Bool) → some m f ≡ true → (k : ℕ) × (k < m) × (f k ≡ true)
unfolding some
some_of zero f e = absurd (false≢true e)
some_of (suc m) f e = go (f m) refl (some_of m f)
  where
    go : (b : Bool) → f m ≡ b → (some m f ≡ true → (k : ℕ) × (k < m) × (f k ≡ true)) → (k : ℕ) × (k < suc m) × (f k ≡ true)
    go true p ih = (m, le_refl (suc m), p)
    go false p ih =
        let r = ih (sym (ap (λ (b : Bool). b || some m f) p) ∙ e) in
        (r.0, le_of_lt (suc-le-suc r.1), r.2)

pub some_same : (m : ℕ) (f g : ℕ → Bool) → ((k : ℕ) → k < m → f k ≡ g k) → some m f ≡ some m g
unfolding some
some_same zero f g h = refl
some_same (suc m) f g h =
    ap₂ (λ (a b : Bool). a || b) (h m (le_refl (suc m))) (some_same m f g (λ k l. h k (le_of_lt (suc-le-suc l))))

-- tests that agree at each number below m
pub all_same : (m : ℕ) (f g : ℕ → Bool) → ((k : ℕ) → k < m → f k ≡ g k) → all m f ≡ all m g
unfolding all
all_same zero f g h = refl
all_same (suc m) f g h = ap₂ (λ (a b : Bool). a && b) (all_same m f g (λ k l. h k (le_of_lt (suc-le-suc l)))) (h m (le_refl (suc m)))

pub some-none : (m : ℕ) (f : ℕ → Bool) → ((k : ℕ) → k < m → f k ≡ false) → some m f ≡ false
unfolding some
some-none zero f h = refl
some-none (suc m) f h = ap₂ (λ (a b : Bool). a || b) (h m (le_refl (suc m))) (some-none m f (λ k l. h k (le_of_lt (suc-le-suc l))))

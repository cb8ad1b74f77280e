-- Laws of relations on n states, for every n. Assumes nothing.
use Rattle.std.specs.Prelude.{◌≡◌, ℕ, ◌+◌, ◌*◌, ◌/◌, ◌%◌, ◌^◌, ◌<◌, Bool, true, false, ◌&&◌, ◌||◌, ◌==◌, ◌≢◌, nat_eq, refl}
use Rattle.std.proofs.Common.{sym, ap, ap₂, ◌∙◌, subst, pow_pos, eqb-true, eq-eqb}
use Rattle.std.proofs.Math.Arith.{digits_lt, digits_div, digits_mod}
use Rattle.std.proofs.Math.Pow.{pow-lt}
use Rattle.std.specs.Int.Bits.{bit_or}
use Rattle.std.proofs.lemmas.Nat.{or_lt}
use Rattle.spec_basics.specs.Tests.{and_intro, and-fst, and-snd, and-not-both, iff-equal, not-passes, not-excludes}
use Rattle.relation.specs.Digits.{bit, some}
use Rattle.relation.specs.DigitLaws.{number_lt, bit-zero, bit-power, bit-or, subset-bit, bit-subset, some_at, some_of}
use Rattle.relation.specs.Pieces.{at_places, ext-pieces, bit-places}
use Rattle.relation.specs.Relation.{has, table, identity, compose, contained, single, insert, rejects}

-- ---- a table's pairs

pub table-lt : (n : ℕ) (f : ℕ → ℕ → Bool) → table n f < 2 ^ (n * n)
unfolding table
table-lt n f = number_lt (n * n) (λ k. f (k / n) (k % n))

pub has-table : (n : ℕ) (f : ℕ → ℕ → Bool) (a b : ℕ) → a < n → b < n → has n (table n f) a b ≡ f a b
unfolding has table
has-table n f a b ha hb = bit-places n n f a b ha hb

pub ext-has : (n x y : ℕ) → x < 2 ^ (n * n) → y < 2 ^ (n * n)
    → ((a b : ℕ) → a < n → b < n → has n x a b ≡ has n y a b) → x ≡ y
unfolding has
ext-has n x y hx hy h = ext-pieces n n x y hx hy h

pub contained-has : (n x y : ℕ) → contained x y ≡ true → (a b : ℕ) → has n x a b ≡ true → has n y a b ≡ true
unfolding has
contained-has n x y s a b h = subset-bit x y s (a * n + b) h

pub has-contained : (n x y : ℕ) → x < 2 ^ (n * n)
    → ((a b : ℕ) → a < n → b < n → has n x a b ≡ true → has n y a b ≡ true) → contained x y ≡ true
unfolding has
has-contained n x y hx h = bit-subset (n * n) x y hx (at_places n n (λ p. bit x p ≡ true → bit y p ≡ true) h)

-- ---- the identity and composition

pub identity-lt : (n : ℕ) → identity n < 2 ^ (n * n)
unfolding identity
identity-lt n = table-lt n (λ a b. nat_eq a b)

pub has-identity : (n a b : ℕ) → a < n → b < n → has n (identity n) a b ≡ (a == b)
unfolding identity
has-identity n = has-table n (λ a b. nat_eq a b)

pub compose-lt : (n x y : ℕ) → compose n x y < 2 ^ (n * n)
unfolding compose
compose-lt n x y = table-lt n (λ a b. some n (λ m. has n x a m && has n y m b))

has-compose : (n x y a b : ℕ) → a < n → b < n → has n (compose n x y) a b ≡ some n (λ m. has n x a m && has n y m b)
unfolding compose
has-compose n x y = has-table n (λ a b. some n (λ m. has n x a m && has n y m b))

pub compose-in : (n x y a m b : ℕ) → a < n → m < n → b < n → has n x a m ≡ true → has n y m b ≡ true → has n (compose n x y) a b ≡ true
compose-in n x y a m b ha hm hb p q =
    has-compose n x y a b ha hb ∙ some_at n (λ i. has n x a i && has n y i b) m hm (and_intro (has n x a m) (has n y m b) p q)

pub compose-out : (n x y a b : ℕ) → a < n → b < n → has n (compose n x y) a b ≡ true
    → (m : ℕ) × (m < n) × (has n x a m ≡ true) × (has n y m b ≡ true)
compose-out n x y a b ha hb h =
    let r = some_of n (λ i. has n x a i && has n y i b) (sym (has-compose n x y a b ha hb) ∙ h) in
    (r.0, r.1, and-fst (has n x a r.0) (has n y r.0 b) r.2, and-snd (has n x a r.0) (has n y r.0 b) r.2)

pub compose-mono : (n x x' y y' : ℕ) → contained x x' ≡ true → contained y y' ≡ true → contained (compose n x y) (compose n x' y') ≡ true
compose-mono n x x' y y' p q =
    has-contained n (compose n x y) (compose n x' y') (compose-lt n x y)
    (λ a b ha hb h.
    let r = compose-out n x y a b ha hb h in
    compose-in n x' y' a r.0 b ha r.1 hb (contained-has n x x' p a r.0 r.2) (contained-has n y y' q r.0 b r.3))

-- two relations with the same pairs
pub ext_iff : (n x y : ℕ) → x < 2 ^ (n * n) → y < 2 ^ (n * n)
    → ((a b : ℕ) → a < n → b < n → has n x a b ≡ true → has n y a b ≡ true)
    → ((a b : ℕ) → a < n → b < n → has n y a b ≡ true → has n x a b ≡ true) → x ≡ y
ext_iff n x y hx hy f g =
    ext-has n x y hx hy (λ a b ha hb. iff-equal (has n x a b) (has n y a b) (f a b ha hb) (g a b ha hb))

pub identity-compose : (n x : ℕ) → x < 2 ^ (n * n) → compose n (identity n) x ≡ x
identity-compose n x hx =
    ext_iff n (compose n (identity n) x) x (compose-lt n (identity n) x) hx
    (λ a b ha hb h.
    let r = compose-out n (identity n) x a b ha hb h in
    subst (λ (m : ℕ). has n x m b ≡ true) (sym (eqb-true a r.0 (sym (has-identity n a r.0 ha r.1) ∙ r.2))) r.3)
    (λ a b ha hb h. compose-in n (identity n) x a a b ha ha hb (has-identity n a a ha ha ∙ eq-eqb a a refl) h)

pub compose-identity : (n x : ℕ) → x < 2 ^ (n * n) → compose n x (identity n) ≡ x
compose-identity n x hx =
    ext_iff n (compose n x (identity n)) x (compose-lt n x (identity n)) hx
    (λ a b ha hb h.
    let r = compose-out n x (identity n) a b ha hb h in
    subst (λ (m : ℕ). has n x a m ≡ true) (eqb-true r.0 b (sym (has-identity n r.0 b r.1 hb) ∙ r.3)) r.2)
    (λ a b ha hb h. compose-in n x (identity n) a b b ha hb hb h (has-identity n b b hb hb ∙ eq-eqb b b refl))

pub compose-assoc : (n x y z : ℕ) → compose n (compose n x y) z ≡ compose n x (compose n y z)
compose-assoc n x y z =
    ext_iff n (compose n (compose n x y) z) (compose n x (compose n y z)) (compose-lt n (compose n x y) z) (compose-lt n x (compose n y z))
    (λ a b ha hb h.
    let r = compose-out n (compose n x y) z a b ha hb h in
    let s = compose-out n x y a r.0 ha r.1 r.2 in
    compose-in n x (compose n y z) a s.0 b ha s.1 hb s.2 (compose-in n y z s.0 r.0 b s.1 r.1 hb s.3 r.3))
    (λ a b ha hb h.
    let r = compose-out n x (compose n y z) a b ha hb h in
    let s = compose-out n y z r.0 b r.1 hb r.3 in
    compose-in n (compose n x y) z a s.0 b ha s.1 hb (compose-in n x y a r.0 s.0 ha r.1 s.1 r.2 s.2) s.3)

-- ---- no pair, one pair, one pair more

pub has-empty : (n a b : ℕ) → has n 0 a b ≡ false
unfolding has
has-empty n a b = bit-zero (a * n + b)

pub single-lt : (n a b : ℕ) → single n a b < 2 ^ (n * n)
unfolding single
single-lt n a b = table-lt n (λ x y. (x == a) && y == b)

pub has-single : (n a b x y : ℕ) → x < n → y < n → has n (single n a b) x y ≡ (x == a && y == b)
unfolding single
has-single n a b = has-table n (λ x y. (x == a) && y == b)

pub insert-lt : (n r a b : ℕ) → insert n r a b < 2 ^ (n * n)
unfolding insert
insert-lt n r a b = table-lt n (λ x y. has n r x y || (x == a && y == b))

pub has-insert : (n r a b x y : ℕ) → x < n → y < n → has n (insert n r a b) x y ≡ (has n r x y || (x == a && y == b))
unfolding insert
has-insert n r a b = has-table n (λ x y. has n r x y || (x == a && y == b))

-- two pairs have the same place where they are the same
same_place : (n a b x y : ℕ) → b < n → y < n → (x * n + y == a * n + b) ≡ (x == a && y == b)
same_place n a b x y hb hy =
    iff-equal (x * n + y == a * n + b) (x == a && y == b)
    (λ h.
    let e = eqb-true (x * n + y) (a * n + b) h in
    and_intro (x == a) (y == b)
    (eq-eqb x a (sym (digits_div x hy) ∙ ap (λ (k : ℕ). k / n) e ∙ digits_div a hb))
    (eq-eqb y b (sym (digits_mod x hy) ∙ ap (λ (k : ℕ). k % n) e ∙ digits_mod a hb)))
    (λ h.
    eq-eqb (x * n + y) (a * n + b)
    (ap₂ (λ (p q : ℕ). p * n + q) (eqb-true x a (and-fst (x == a) (y == b) h)) (eqb-true y b (and-snd (x == a) (y == b) h))))

-- one pair is one place
pub single-place : (n a b : ℕ) → a < n → b < n → 2 ^ (a * n + b) ≡ single n a b
unfolding has
single-place n a b ha hb =
    ext-has n (2 ^ (a * n + b)) (single n a b) (pow-lt (digits_lt ha hb)) (single-lt n a b)
    (λ x y hx hy. bit-power (a * n + b) (x * n + y) ∙ same_place n a b x y hb hy ∙ sym (has-single n a b x y hx hy))

-- and none where one of the two is no state
pub single-none : (n a b : ℕ) → (a < n → b < n → ⊥) → 0 ≡ single n a b
single-none n a b h =
    ext-has n 0 (single n a b) (pow_pos (n * n)) (single-lt n a b)
    (λ x y hx hy.
    has-empty n x y
    ∙ sym (and-not-both (x == a) (y == b)
    (λ p q. h (subst (λ (z : ℕ). z < n) (eqb-true x a p) hx) (subst (λ (z : ℕ). z < n) (eqb-true y b q) hy)))
    ∙ sym (has-single n a b x y hx hy))

-- a pair is put in by `or`
pub insert-or : (n r a b : ℕ) → r < 2 ^ (n * n) → bit_or r (single n a b) ≡ insert n r a b
unfolding has
insert-or n r a b hr =
    ext-has n (bit_or r (single n a b)) (insert n r a b)
    (or_lt (n * n) r (single n a b) hr (single-lt n a b)) (insert-lt n r a b)
    (λ x y hx hy.
    bit-or r (single n a b) (x * n + y)
    ∙ ap (λ (t : Bool). has n r x y || t) (has-single n a b x y hx hy)
    ∙ sym (has-insert n r a b x y hx hy))

-- ---- rejects: a smaller relation rejects where a larger one does

pub rejects-none : (n : ℕ) (final : ℕ → Bool) (e : ℕ) → rejects n final e ≡ true → (f : ℕ) → f < n → final f ≡ true → has n e 0 f ≢ true
unfolding rejects
rejects-none n final e h f l p q =
    not-excludes (some n (λ g. final g && has n e 0 g)) h (some_at n (λ g. final g && has n e 0 g) f l (and_intro (final f) (has n e 0 f) p q))

pub none-rejects : (n : ℕ) (final : ℕ → Bool) (e : ℕ) → ((f : ℕ) → f < n → final f ≡ true → has n e 0 f ≢ true) → rejects n final e ≡ true
unfolding rejects
none-rejects n final e h =
    not-passes (some n (λ g. final g && has n e 0 g))
    (λ p.
    let r = some_of n (λ g. final g && has n e 0 g) p in
    h r.0 r.1 (and-fst (final r.0) (has n e 0 r.0) r.2) (and-snd (final r.0) (has n e 0 r.0) r.2))

pub rejects-contained : (n : ℕ) (final : ℕ → Bool) (x y : ℕ) → contained x y ≡ true → rejects n final y ≡ true → rejects n final x ≡ true
rejects-contained n final x y s h =
    none-rejects n final x (λ f l p q. rejects-none n final y h f l p (contained-has n x y s 0 f q))

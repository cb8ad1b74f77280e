-- A rising sequence of numbers: those at most k come first. Assumes nothing.
use Rattle.std.specs.Prelude.{◌≡◌, ◌⊎◌, Bool, leb, ltb}
use Rattle.std.proofs.Math.Path.{refl, ap}
use Rattle.std.proofs.Common.{sym, ◌∙◌, subst, inl, inr, le_refl, not-suc-le-zero, le_of_suc-le-suc, eq-or-lt_of_le, lt-ltb, le-ltb, leb-true, leb-false, le-leb}
use Rattle.std.proofs.Math.Bool.{true, false, cond}
use Prim.Native.Nat.{ℕ, zero, suc, ◌+◌, ◌-◌, ◌≤◌, ◌<◌}
use native.Mathlib.Omega.{arith}
use Rattle.std.proofs.lemmas.Bool.{lt-leb}

-- how many of the first n are at most k
unfoldable pub up_to : (ℕ → ℕ) → ℕ → ℕ → ℕ
up_to f k zero = 0
up_to f k (suc n) = up_to f k n + cond (leb (f n) k) 1 0

module _ (f : ℕ → ℕ) (k : ℕ) where
  -- of the first n
  abbrev pub Rising : ℕ → Type 0
  Rising n = (i : ℕ) → suc i < n → f i ≤ f (suc i)

  rising_le : (n : ℕ) → Rising n → (i j : ℕ) → i + j < n → f i ≤ f (i + j)
  rising_le n h i zero l = let z : i + 0 ≡ i = omega arith in subst (λ (x : ℕ). f i ≤ f x) (sym z) (le_refl (f i))
  rising_le n h i (suc j) l =
      let z : i + suc j ≡ suc (i + j) = omega arith in
      let p : f i ≤ f (i + j) = rising_le n h i j (omega arith) in
      let q : f (i + j) ≤ f (suc (i + j)) = h (i + j) (omega arith) in
      subst (λ (x : ℕ). f i ≤ f x) (sym z) (let y : f i ≤ f (suc (i + j)) = omega arith in y)

  pub numbers_to-le : (n : ℕ) → up_to f k n ≤ n
  unfolding up_to
  numbers_to-le zero = omega arith
  numbers_to-le (suc n) = by (leb (f n) k) (numbers_to-le n)
    where
      by : (b : Bool) → up_to f k n ≤ n → up_to f k n + cond b 1 0 ≤ suc n
      by true h = omega arith
      by false h = omega arith

  numbers_to-all : (n : ℕ) → ((i : ℕ) → i < n → f i ≤ k) → up_to f k n ≡ n
  unfolding up_to
  numbers_to-all zero h = refl
  numbers_to-all (suc n) h = rw (le-leb (f n) k (h n (omega arith))) (let e = numbers_to-all n (λ i l. h i (omega arith)) in let z : up_to f k n + 1 ≡ suc n = omega arith in z)

  pub numbers_to-none : (n : ℕ) → ((i : ℕ) → i < n → k < f i) → up_to f k n ≡ 0
  unfolding up_to
  numbers_to-none zero h = refl
  numbers_to-none (suc n) h = rw (lt-leb (f n) k (h n (omega arith))) (let e = numbers_to-none n (λ i l. h i (omega arith)) in let z : up_to f k n + 0 ≡ 0 = omega arith in z)

  -- the elements that are at most k are exactly the first `up_to f k n`
  pub first-ones : (n : ℕ) → Rising n → (i : ℕ) → i < n → leb (f i) k ≡ ltb i (up_to f k n)
  unfolding up_to
  first-ones zero h i l = absurd (not-suc-le-zero l)
  first-ones (suc n) h i l = by (leb (f n) k) (leb-true (f n) k) (leb-false (f n) k) (λ s. first-ones n (λ j q. h j (omega arith)) i s) (eq-or-lt_of_le (le_of_suc-le-suc l))
    where
      below : f n ≤ k → (j : ℕ) → j < n → f j ≤ k
      below q j s =
          let z : j + (n - j) ≡ n = omega arith in
          let p = rising_le (suc n) h j (n - j) (omega arith) in
          let e : f (j + (n - j)) ≡ f n = ap f z in omega arith

      by : (b : Bool) → (b ≡ true → f n ≤ k) → (b ≡ false → k < f n) → (i < n → leb (f i) k ≡ ltb i (up_to f k n)) → (i ≡ n) ⊎ (i < n) → leb (f i) k ≡ ltb i (up_to f k n + cond b 1 0)
      by true p q ih (inl e) = let a = numbers_to-all n (below (p refl)) in rw e (le-leb (f n) k (p refl) ∙ sym (lt-ltb n (up_to f k n + 1) (omega arith)))
      by true p q ih (inr s) = let a = numbers_to-all n (below (p refl)) in le-leb (f i) k (below (p refl) i s) ∙ sym (lt-ltb i (up_to f k n + 1) (omega arith))
      by false p q ih (inl e) = let a = numbers_to-le n in rw e (lt-leb (f n) k (q refl) ∙ sym (le-ltb n (up_to f k n + 0) (omega arith)))
      by false p q ih (inr s) = ih s ∙ ap (ltb i) (let z : up_to f k n ≡ up_to f k n + 0 = omega arith in z)

-- Where the cells of the table are: within it, and each its own. Assumes nothing.
use Rattle.std.specs.Prelude.{◌≡◌, refl, Bool, true, false, ℕ, zero, suc, ◌+◌, ◌-◌, ◌*◌, ◌/◌, ◌≤◌, ◌<◌, ltb}
use Rattle.std.proofs.Common.{sym, ap, ◌∙◌, le_refl, suc-mul, mul-suc, arith, ltb-true, ltb-false}
use Rattle.std.proofs.Math.Decide.{le_ind}
use Rattle.spec_calls.specs.Recognizing.{run_limit, row_start, cell, stretch_cells}

row_next : (i : ℕ) → row_start (suc i) ≡ row_start i + (65 - i)
unfolding row_start
row_next i = refl

row-mono : (a b : ℕ) → a ≤ b → row_start a ≤ row_start b
row-mono a b h = le_ind (λ (x : ℕ). row_start a ≤ row_start x) (le_refl (row_start a)) (λ m k e. omega (arith, row_next m)) b h

pub row_last : row_start 65 ≡ stretch_cells
unfolding row_start
row_last = refl

-- twice the start of a row, without a sum
twice : (i : ℕ) → i ≤ 65 → row_start i * 2 ≡ i * (131 - i)
unfolding row_start
twice zero h = refl
twice (suc i) h =
    let m : ℕ = 130 - i in
    let a : i * (131 - i) ≡ i * m + i = ap (λ (x : ℕ). i * x) (let z : 131 - i ≡ suc m = omega arith in z) ∙ mul-suc i m in
    let b : suc i * (131 - suc i) ≡ i * m + m = ap (λ (x : ℕ). suc i * x) (let z : 131 - suc i ≡ m = omega arith in z) ∙ suc-mul i m in
    let ih = twice i (omega arith) in
    let d : row_start i * 2 + (65 - i) * 2 ≡ i * m + m = omega arith in
    let e : (row_start i + (65 - i)) * 2 ≡ row_start i * 2 + (65 - i) * 2 = omega arith in
    e ∙ d ∙ sym b

pub row-start : (i : ℕ) → i ≤ 65 → i * (131 - i) / 2 ≡ row_start i
row-start i h = let t = twice i h in omega arith

-- the product is a small number
pub row-product : (i : ℕ) → i ≤ 65 → i * (131 - i) ≤ 4290
row-product i h = let t = twice i h in omega (arith, row-mono i 65 h, row_last)

module _ (i j : ℕ) (a : i ≤ j) (b : j ≤ run_limit) where
  pub cell-low : cell i j < stretch_cells
  cell-low = let m = row-mono (suc i) 65 (omega arith) in omega (arith, row_next i, row_last)

  pub cell-own : (k l : ℕ) → k ≤ l → l ≤ run_limit → cell i j ≡ cell k l → (i ≡ k) × (j ≡ l)
  cell-own k l c d e = by (ltb i k) (ltb-true i k) (ltb-false i k) (ltb k i) (ltb-true k i) (ltb-false k i)
    where
      by : (s : Bool) → (s ≡ true → i < k) → (s ≡ false → k ≤ i) → (t : Bool) → (t ≡ true → k < i) → (t ≡ false → i ≤ k) → (i ≡ k) × (j ≡ l)
      by true x x' t y y' = absurd (let m = row-mono (suc i) k (x refl) in let z : ⊥ = omega (arith, row_next i) in z)
      by false x x' true y y' = absurd (let m = row-mono (suc k) i (y refl) in let z : ⊥ = omega (arith, row_next k) in z)
      by false x x' false y y' =
          let p : i ≡ k = omega (arith, x' refl, y' refl) in
          let q : row_start i ≡ row_start k = ap row_start p in
          (p, omega arith)

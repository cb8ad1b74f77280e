-- What a table must show settles every bit of it: two tables of 64-bit cells that show the same are equal. So `TableShows` leaves nothing open
-- that the code could choose. Assumes nothing.
use Rattle.std.specs.Prelude.{◌≡◌, refl, Bool, true, false, List, ℕ, zero, suc, ◌+◌, ◌-◌, ◌^◌, ◌≤◌, ◌<◌, ltb, length, get_or}
use Rattle.std.proofs.Common.{sym, ◌∙◌, subst, arith, ext_get_or, ltb-true, ltb-false}
use Rattle.spec_basics.specs.Tests.{iff-equal}
use Rattle.relation.specs.Digits.{bit}
use Rattle.relation.specs.DigitLaws.{ext}
use Rattle.spec_language.specs.Grammar.{Production}
use Rattle.spec_calls.specs.Recognizing.{run_limit, row_start, cell, TableShows}
use Rattle.member_laws.specs.CellLaws.{row_last}

-- every cell is one of a stretch
stretch-of : (n x : ℕ) → n ≤ 65 → x < row_start n → (i : ℕ) × (j : ℕ) × (i ≤ j) × (j ≤ run_limit) × (cell i j ≡ x)
unfolding row_start
stretch-of zero x l h = absurd (let z : ⊥ = omega arith in z)
stretch-of (suc n) x l h = by (ltb x (row_start n)) (ltb-true x (row_start n)) (ltb-false x (row_start n)) (stretch-of n x (omega arith))
  where
    by : (b : Bool) → (b ≡ true → x < row_start n) → (b ≡ false → row_start n ≤ x) → (x < row_start n → (i : ℕ) × (j : ℕ) × (i ≤ j) × (j ≤ run_limit) × (cell i j ≡ x))
        → (i : ℕ) × (j : ℕ) × (i ≤ j) × (j ≤ run_limit) × (cell i j ≡ x)
    by true p q ih = ih (p refl)
    by false p q ih = let m = q refl in (n, n + (x - row_start n), omega arith, omega arith, let z : row_start n + (n + (x - row_start n) - n) ≡ x = omega arith in z)

module _ (rules : List Production) (w t u : List ℕ) (T : TableShows rules w t) (U : TableShows rules w u) (small : (x : ℕ) → get_or t x 0 < 2 ^ 64) (small' : (x : ℕ) → get_or u x 0 < 2 ^ 64) where
  same-cell : (i j : ℕ) → i ≤ j → j ≤ run_limit → get_or t (cell i j) 0 ≡ get_or u (cell i j) 0
  same-cell i j a b = by (ltb (length w) j) (ltb-true (length w) j) (ltb-false (length w) j)
    where
      by : (c : Bool) → (c ≡ true → length w < j) → (c ≡ false → j ≤ length w) → get_or t (cell i j) 0 ≡ get_or u (cell i j) 0
      by true p q = T.past i j a (p refl) b ∙ sym (U.past i j a (p refl) b)
      by false p q =
          ext 64 (get_or t (cell i j) 0) (get_or u (cell i j) 0) (small (cell i j)) (small' (cell i j))
          (λ k l.
          let x = T.within i j k a (q refl) l in
          let y = U.within i j k a (q refl) l in
          iff-equal (bit (get_or t (cell i j) 0) k) (bit (get_or u (cell i j) 0) k) (λ e. y.1 (x.0 e)) (λ e. x.1 (y.0 e)))

  pub determined : t ≡ u
  determined =
      ext_get_or 0 t u (T.size ∙ sym U.size)
      (λ x h.
      let s = stretch-of 65 x (omega arith) (omega (arith, T.size, row_last)) in
      subst (λ (y : ℕ). get_or t y 0 ≡ get_or u y 0) s.4 (same-cell s.0 s.1 s.2 s.3))

-- The records of a kind among the first i of a file, as a loop reads them one by one. Assumes nothing.
use Rattle.std.specs.Prelude.{◌≡◌, Bool, eqb}
use Rattle.std.proofs.Math.Path.{refl, sym, ap}
use Rattle.std.proofs.Common.{◌∙◌, add-one}
use Rattle.std.proofs.Math.Bool.{true, false, cond}
use mathlib.Core.List.{List, [], ◌∷◌, ◌++◌, append-nil, map}
use Prim.Native.Nat.{ℕ, zero, suc, ◌+◌}
use native.Mathlib.Omega.{arith}
use Rattle.spec_file.specs.Records.{record_at, kind_at}
use Rattle.spec_file.specs.Views.{cons_if, collect}

module _ {A : Type 0} (k : ℕ) (g : List ℕ → A) (bs : List ℕ) where
  -- record i, where it is of the kind
  one : ℕ → List A
  one i = cons_if (eqb (kind_at bs i) k) (g (record_at bs i)) []

  -- one record more
  collect-next : (m i : ℕ) → collect k g bs (suc m) i ≡ collect k g bs m i ++ one (i + m)
  unfolding collect one
  collect-next zero i = let z : i ≡ i + 0 = omega arith in ap one z
  collect-next (suc m) i =
      let z : suc i + m ≡ i + suc m = omega arith in
      ap (cons_if (eqb (kind_at bs i) k) (g (record_at bs i))) (collect-next m (suc i) ∙ ap (λ (j : ℕ). collect k g bs m (suc i) ++ one j) z)
      ∙ by (eqb (kind_at bs i) k) (collect k g bs m (suc i)) (one (i + suc m))
    where
      by : (b : Bool) (xs ys : List A) → cons_if b (g (record_at bs i)) (xs ++ ys) ≡ cons_if b (g (record_at bs i)) xs ++ ys
      by true xs ys = refl
      by false xs ys = refl

  pub none_yet : collect k g bs 0 0 ≡ []
  unfolding collect
  none_yet = refl

  -- a state that is a function h of the records so far, where f takes one more in
  pub turn : {S : Type 0} (h : List A → S) (f : S → A → S) → ((xs : List A) (x : A) → f (h xs) x ≡ h (xs ++ (x ∷ [])))
      → (i : ℕ) (s : S) → s ≡ h (collect k g bs i 0) → cond (eqb (kind_at bs i) k) (f s (g (record_at bs i))) s ≡ h (collect k g bs (i + 1) 0)
  unfolding one
  turn {S} h f next i s e =
      let z : 0 + i ≡ i = omega arith in
      ap (λ (t : S). cond (eqb (kind_at bs i) k) (f t (g (record_at bs i))) t) e
      ∙ by (eqb (kind_at bs i) k) (collect k g bs i 0)
      ∙ sym (ap (λ (m : ℕ). h (collect k g bs m 0)) (add-one i) ∙ ap h (collect-next i 0 ∙ ap (λ (j : ℕ). collect k g bs i 0 ++ one j) z))
    where
      by : (b : Bool) (xs : List A) → cond b (f (h xs) (g (record_at bs i))) (h xs) ≡ h (xs ++ cons_if b (g (record_at bs i)) [])
      by true xs = next xs (g (record_at bs i))
      by false xs = ap h (sym (append-nil xs))

  -- each read by g, and then by f
  pub collect-map : {B : Type 0} (f : A → B) (m i : ℕ) → map f (collect k g bs m i) ≡ collect k (λ r. f (g r)) bs m i
  unfolding collect
  collect-map f zero i = refl
  collect-map {B} f (suc m) i = by (eqb (kind_at bs i) k) (collect k g bs m (suc i)) ∙ ap (cons_if (eqb (kind_at bs i) k) (f (g (record_at bs i)))) (collect-map f m (suc i))
    where
      by : (b : Bool) (xs : List A) → map f (cons_if b (g (record_at bs i)) xs) ≡ cons_if b (f (g (record_at bs i))) (map f xs)
      by true xs = refl
      by false xs = refl

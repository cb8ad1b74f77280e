-- Laws of membership, of a test on some element and on each, of a list for each element, put together, and of the list of a function's values.
-- Assumes nothing.
use Rattle.std.specs.Prelude.{◌≡◌, ◌⊎◌, Bool, true, false, ◌&&◌, ◌||◌, length, get_or, take, drop, replicate}
use Rattle.std.proofs.Math.Path.{refl, ap, ap₂}
use Rattle.std.proofs.Common.{sym, ◌∙◌, subst, inl, inr, zero-lt-suc, le_trans, le_of_eq, add-le-add, suc-mul, not-suc-le-zero, le_of_suc-le-suc, length-append, drop-drop}
use Rattle.std.proofs.lemmas.Bool.{false≢true}
use Rattle.std.proofs.Math.Bool.{and_assoc, or_assoc}
use mathlib.Core.List.{List, [], ◌∷◌, ◌++◌, map}
use Prim.Native.Nat.{ℕ, zero, suc, ◌+◌, ◌-◌, ◌*◌, ◌≤◌, ◌<◌, suc-le-suc, zero-le}
use native.Mathlib.Omega.{arith}
use Rattle.spec_basics.specs.Elements.{In, any, each, concat_map, every}
use Rattle.spec_basics.specs.Tests.{and-fst, and-snd, or_right}

-- ---- membership

module _ {A : Type 0} where
  pub in_left : (x : A) (xs ys : List A) → In x xs → In x (xs ++ ys)
  in_left x [] ys h = absurd h
  in_left x (z ∷ xs) ys (inl e) = inl e
  in_left x (z ∷ xs) ys (inr h) = inr (in_left x xs ys h)

  pub in_right : (x : A) (xs ys : List A) → In x ys → In x (xs ++ ys)
  in_right x [] ys h = h
  in_right x (z ∷ xs) ys h = inr (in_right x xs ys h)

  pub in-cases : (x : A) (xs ys : List A) → In x (xs ++ ys) → In x xs ⊎ In x ys
  in-cases x [] ys h = inr h
  in-cases x (z ∷ xs) ys (inl e) = inl (inl e)
  in-cases x (z ∷ xs) ys (inr h) = by (in-cases x xs ys h)
    where
      by : In x xs ⊎ In x ys → ((x ≡ z) ⊎ In x xs) ⊎ In x ys
      by (inl m) = inl (inr m)
      by (inr m) = inr m

  -- an element of a list of one is that one
  pub in_one : (x y : A) → In x (y ∷ []) → x ≡ y
  in_one x y (inl e) = e
  in_one x y (inr h) = absurd h

  pub in-getD : (x d : A) (xs : List A) → In x xs → (i : ℕ) × (i < length xs) × (get_or xs i d ≡ x)
  in-getD x d [] h = absurd h
  in-getD x d (y ∷ ys) (inl e) = (0, zero-lt-suc (length ys), sym e)
  in-getD x d (y ∷ ys) (inr h) = let r = in-getD x d ys h in (suc r.0, suc-le-suc r.1, r.2)

  pub getD-in : (d : A) (xs : List A) (i : ℕ) → i < length xs → In (get_or xs i d) xs
  getD-in d [] i h = absurd (not-suc-le-zero h)
  getD-in d (x ∷ xs) zero h = inl refl
  getD-in d (x ∷ xs) (suc i) h = inr (getD-in d xs i (le_of_suc-le-suc h))

  -- ---- the rest of a list

  -- two lists with the same rest from element i on have the same rest from any later element on
  pub drop-later-same : (i k : ℕ) (xs ys : List A) → i ≤ k → drop i xs ≡ drop i ys → drop k xs ≡ drop k ys
  drop-later-same i k xs ys h e =
      let p : i + (k - i) ≡ k = omega arith in
      ap (λ (n : ℕ). drop n xs) (sym p) ∙ sym (drop-drop (k - i) i xs) ∙ ap (drop (k - i)) e ∙ drop-drop (k - i) i ys ∙ ap (λ (n : ℕ). drop n ys) p

  -- ---- some element

  pub any_of : (f : A → Bool) (xs : List A) → any f xs ≡ true → (x : A) × In x xs × (f x ≡ true)
  any_of f [] h = absurd (false≢true h)
  any_of f (x ∷ xs) h = by (f x) refl (any_of f xs)
    where
      by : (b : Bool) → f x ≡ b → (any f xs ≡ true → (y : A) × In y xs × (f y ≡ true)) → (y : A) × ((y ≡ x) ⊎ In y xs) × (f y ≡ true)
      by true p ih = (x, inl refl, p)
      by false p ih = let r = ih (sym (ap (λ (b : Bool). b || any f xs) p) ∙ h) in (r.0, inr r.1, r.2)

  pub any_append : (f : A → Bool) (xs ys : List A) → any f (xs ++ ys) ≡ (any f xs || any f ys)
  any_append f [] ys = refl
  any_append f (x ∷ xs) ys = ap (λ (b : Bool). f x || b) (any_append f xs ys) ∙ sym (or_assoc (f x) (any f xs) (any f ys))

  pub any_at : (f : A → Bool) (x : A) (xs : List A) → In x xs → f x ≡ true → any f xs ≡ true
  any_at f x [] h e = absurd h
  any_at f x (y ∷ ys) (inl p) e = ap (λ (b : Bool). b || any f ys) (ap f (sym p) ∙ e)
  any_at f x (y ∷ ys) (inr h) e = or_right (f y) (any f ys) (any_at f x ys h e)

  -- ---- each element

  pub each_at : (f : A → Bool) (x : A) (xs : List A) → In x xs → each f xs ≡ true → f x ≡ true
  each_at f x [] h e = absurd h
  each_at f x (y ∷ ys) (inl p) e = ap f p ∙ and-fst (f y) (each f ys) e
  each_at f x (y ∷ ys) (inr h) e = each_at f x ys h (and-snd (f y) (each f ys) e)

  -- an element that fails
  pub each-fails : (f : A → Bool) (xs : List A) → each f xs ≡ false → (x : A) × In x xs × (f x ≡ false)
  each-fails f [] h = absurd (false≢true (sym h))
  each-fails f (x ∷ xs) h = by (f x) refl (each-fails f xs)
    where
      by : (b : Bool) → f x ≡ b → (each f xs ≡ false → (y : A) × In y xs × (f y ≡ false)) → (y : A) × ((y ≡ x) ⊎ In y xs) × (f y ≡ false)
      by true p ih = let r = ih (sym (ap (λ (b : Bool). b && each f xs) p) ∙ h) in (r.0, inr r.1, r.2)
      by false p ih = (x, inl refl, p)

  pub each_append : (f : A → Bool) (xs ys : List A) → each f (xs ++ ys) ≡ (each f xs && each f ys)
  each_append f [] ys = refl
  each_append f (x ∷ xs) ys = ap (λ (b : Bool). f x && b) (each_append f xs ys) ∙ sym (and_assoc (f x) (each f xs) (each f ys))

  pub each_same : (f g : A → Bool) (xs : List A) → ((x : A) → In x xs → f x ≡ g x) → each f xs ≡ each g xs
  each_same f g [] h = refl
  each_same f g (x ∷ xs) h = ap₂ (λ (a b : Bool). a && b) (h x (inl refl)) (each_same f g xs (λ y m. h y (inr m)))

-- ---- a function on each element

module _ {A B : Type 0} where
  pub in_map : (f : A → B) (x : A) (xs : List A) → In x xs → In (f x) (map f xs)
  in_map f x [] h = absurd h
  in_map f x (y ∷ ys) (inl e) = inl (ap f e)
  in_map f x (y ∷ ys) (inr h) = inr (in_map f x ys h)

  pub map-in : (f : A → B) (y : B) (xs : List A) → In y (map f xs) → (x : A) × In x xs × (y ≡ f x)
  map-in f y [] h = absurd h
  map-in f y (x ∷ xs) (inl e) = (x, inl refl, e)
  map-in f y (x ∷ xs) (inr h) = let r = map-in f y xs h in (r.0, inr r.1, r.2)

  pub get_d_map : (f : A → B) (d : A) (d' : B) (xs : List A) (i : ℕ) → i < length xs → get_or (map f xs) i d' ≡ f (get_or xs i d)
  get_d_map f d d' [] i h = absurd (not-suc-le-zero h)
  get_d_map f d d' (x ∷ xs) zero h = refl
  get_d_map f d d' (x ∷ xs) (suc i) h = get_d_map f d d' xs i (le_of_suc-le-suc h)

  pub take-map : (f : A → B) (i : ℕ) (xs : List A) → take i (map f xs) ≡ map f (take i xs)
  take-map f zero xs = refl
  take-map f (suc i) [] = refl
  take-map f (suc i) (x ∷ xs) = ap (λ (l : List B). f x ∷ l) (take-map f i xs)

  pub drop-map : (f : A → B) (i : ℕ) (xs : List A) → drop i (map f xs) ≡ map f (drop i xs)
  drop-map f zero xs = refl
  drop-map f (suc i) [] = refl
  drop-map f (suc i) (x ∷ xs) = drop-map f i xs

  pub map_same : (f g : A → B) → ((x : A) → f x ≡ g x) → (xs : List A) → map f xs ≡ map g xs
  map_same f g h [] = refl
  map_same f g h (x ∷ xs) = ap₂ (λ (y : B) (l : List B). y ∷ l) (h x) (map_same f g h xs)

  pub concat_map-same : (f g : A → List B) → ((x : A) → f x ≡ g x) → (xs : List A) → concat_map f xs ≡ concat_map g xs
  concat_map-same f g h [] = refl
  concat_map-same f g h (x ∷ xs) = ap₂ (λ (y z : List B). y ++ z) (h x) (concat_map-same f g h xs)

  -- with a list of one element for each, it is a map
  pub concat_map-one : (f : A → B) (xs : List A) → concat_map (λ x. f x ∷ []) xs ≡ map f xs
  concat_map-one f [] = refl
  concat_map-one f (x ∷ xs) = ap (λ (l : List B). f x ∷ l) (concat_map-one f xs)

  pub in-concat_map : (f : A → List B) (y : B) (x : A) (xs : List A) → In x xs → In y (f x) → In y (concat_map f xs)
  in-concat_map f y x [] h m = absurd h
  in-concat_map f y x (z ∷ xs) (inl e) m = in_left y (f z) (concat_map f xs) (subst (λ (v : A). In y (f v)) e m)
  in-concat_map f y x (z ∷ xs) (inr h) m = in_right y (f z) (concat_map f xs) (in-concat_map f y x xs h m)

  pub concat_map-in : (f : A → List B) (y : B) (xs : List A) → In y (concat_map f xs) → (x : A) × In x xs × In y (f x)
  concat_map-in f y [] h = absurd h
  concat_map-in f y (z ∷ xs) h = by (in-cases y (f z) (concat_map f xs) h) (concat_map-in f y xs)
    where
      by : In y (f z) ⊎ In y (concat_map f xs) → (In y (concat_map f xs) → (x : A) × In x xs × In y (f x)) → (x : A) × ((x ≡ z) ⊎ In x xs) × In y (f x)
      by (inl m) ih = (z, inl refl, m)
      by (inr m) ih = let r = ih m in (r.0, inr r.1, r.2)

  pub length-concat_map : (f : A → List B) (b : ℕ) → ((x : A) → length (f x) ≤ b) → (xs : List A) → length (concat_map f xs) ≤ length xs * b
  length-concat_map f b h [] = zero-le
  length-concat_map f b h (x ∷ xs) =
      le_trans (le_of_eq (length-append (f x) (concat_map f xs)))
      (le_trans (add-le-add (h x) (length-concat_map f b h xs))
      (le_of_eq (let e : b + length xs * b ≡ length xs * b + b = omega arith in e ∙ sym (suc-mul (length xs) b))))

-- ---- the list of a function's values

module _ {A : Type 0} (g : ℕ → A) where
  pub length-every : (m i : ℕ) → length (every g m i) ≡ m
  unfolding every
  length-every zero i = refl
  length-every (suc m) i = ap suc (length-every m (suc i))

  pub getD-every : (d : A) (m i j : ℕ) → j < m → get_or (every g m i) j d ≡ g (i + j)
  unfolding every
  getD-every d zero i j h = absurd (not-suc-le-zero h)
  getD-every d (suc m) i zero h = let z : i ≡ i + 0 = omega arith in ap g z
  getD-every d (suc m) i (suc j) h = let z : suc i + j ≡ i + suc j = omega arith in getD-every d m (suc i) j (le_of_suc-le-suc h) ∙ ap g z

  pub every_append : (a m i : ℕ) → every g (a + m) i ≡ every g a i ++ every g m (i + a)
  unfolding every
  every_append zero m i = let z : i ≡ i + 0 = omega arith in let y : 0 + m ≡ m = omega arith in ap₂ (every g) y z
  every_append (suc a) m i =
      let z : suc i + a ≡ i + suc a = omega arith in
      let y : suc a + m ≡ suc (a + m) = omega arith in
      ap (λ (l : ℕ). every g l i) y ∙ ap (λ (l : List A). g i ∷ l) (every_append a m (suc i) ∙ ap (λ (j : ℕ). every g a (suc i) ++ every g m j) z)

  -- two functions that agree from i of the one and i' of the other on
  pub every-same : (h : ℕ → A) (m i i' : ℕ) → ((j : ℕ) → j < m → g (i + j) ≡ h (i' + j)) → every g m i ≡ every h m i'
  unfolding every
  every-same h zero i i' e = refl
  every-same h (suc m) i i' e =
      let z : i ≡ i + 0 = omega arith in
      let z' : i' + 0 ≡ i' = omega arith in
      ap₂ (λ (x : A) (xs : List A). x ∷ xs) (ap g z ∙ e 0 (omega arith) ∙ ap h z') (every-same h m (suc i) (suc i') (λ j l. next j ∙ e (suc j) (omega arith) ∙ next' j))
    where
      next : (j : ℕ) → g (suc i + j) ≡ g (i + suc j)
      next j = let z : suc i + j ≡ i + suc j = omega arith in ap g z

      next' : (j : ℕ) → h (i' + suc j) ≡ h (suc i' + j)
      next' j = let z : i' + suc j ≡ suc i' + j = omega arith in ap h z

-- the function that is always x
pub every_one : {A : Type 0} (g : ℕ → A) (x : A) → ((j : ℕ) → g j ≡ x) → (m i : ℕ) → replicate m x ≡ every g m i
unfolding every
every_one g x h zero i = refl
every_one {A} g x h (suc m) i = ap₂ (λ (y : A) (ys : List A). y ∷ ys) (sym (h i)) (every_one g x h m (suc i))

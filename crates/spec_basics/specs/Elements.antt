-- Membership in a list, by recursion on the list; a test on some element and on each; a list for each element, put together; the list of
-- a function's values. Definitions only. Assumes nothing.
use Rattle.std.specs.Prelude.{◌≡◌, ◌⊎◌, Bool, true, false, ◌&&◌, ◌||◌, List, [], ◌∷◌, ◌++◌, ℕ, zero, suc}

module _ {A : Type 0} where
  -- x is an element of the list
  abbrev pub In : A → List A → Type 0
  In x [] = ⊥
  In x (y ∷ ys) = (x ≡ y) ⊎ In x ys

  -- some element of the list passes the test
  abbrev pub any : (A → Bool) → List A → Bool
  any f [] = false
  any f (x ∷ xs) = f x || any f xs

  -- each element of the list passes the test
  abbrev pub each : (A → Bool) → List A → Bool
  each f [] = true
  each f (x ∷ xs) = f x && each f xs

-- the lists f x for each element x, one after the other
module _ {A B : Type 0} where
  abbrev pub concat_map : (A → List B) → List A → List B
  concat_map f [] = []
  concat_map f (x ∷ xs) = f x ++ concat_map f xs

module _ {A : Type 0} (g : ℕ → A) where
  -- the list of g at the m numbers from i on
  unfoldable pub every : ℕ → ℕ → List A
  every zero i = []
  every (suc m) i = g i ∷ every m (suc i)

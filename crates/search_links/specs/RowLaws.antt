-- Laws of the rows of a list, and of a journal's first rows. Assumes nothing.
use Rattle.std.specs.Prelude.{◌≡◌, Bool, true, false, cond, ◌||◌, ℕ, zero, suc, ◌+◌, ◌≤◌, ◌<◌, ltb, length, get_or, take, drop, set}
use Rattle.std.proofs.Math.Path.{refl, ap}
use Rattle.std.proofs.Common.{sym, ◌∙◌, subst, suc-le-suc, zero-lt-suc, not-suc-le-zero, le_of_suc-le-suc, add-one, arith, take-suc-set, drop-cons, drop-set-lt, get_or-take, ltb-true, ltb-false}
use Rattle.std.proofs.lemmas.Bool.{false≢true}
use mathlib.Core.List.{List, [], ◌∷◌, ◌++◌, map, map-append}
use Rattle.std.proofs.Math.ListN.{length-map, get_or-map, get_or-eq_default}
use Rattle.std.proofs.Math.Seq.{length-take-le}
use Rattle.spec_basics.specs.Elements.{any}
use Rattle.spec_basics.specs.Lists.{drop-later-same}
use Rattle.spec_order.specs.Journal.{Row}
use Rattle.search_state.specs.Forming.{among_first}
use Rattle.search_links.specs.Rows.{holds_at, IsAt, rows_read, Stored}

-- ---- one element of a list

module _ {X : Type 0} where
  pub holds-inside : (f : X → Bool) (xs : List X) (i : ℕ) → holds_at f xs i ≡ true → i < length xs
  holds-inside f [] i h = absurd (false≢true h)
  holds-inside f (x ∷ xs) zero h = zero-lt-suc (length xs)
  holds-inside f (x ∷ xs) (suc i) h = suc-le-suc (holds-inside f xs i h)

  pub is_at : (d : X) (xs : List X) (i : ℕ) → i < length xs → IsAt xs i (get_or xs i d)
  is_at d [] i h f = absurd (not-suc-le-zero h)
  is_at d (x ∷ xs) zero h f = refl
  is_at d (x ∷ xs) (suc i) h f = is_at d xs i (le_of_suc-le-suc h) f

  -- an element that is there, and the elements after it
  pub there : (xs : List X) (i : ℕ) → i < length xs → (x : X) × IsAt xs i x × (drop i xs ≡ x ∷ drop (suc i) xs)
  there [] i h = absurd (not-suc-le-zero h)
  there (x ∷ xs) i h = (get_or (x ∷ xs) i x, is_at x (x ∷ xs) i h, drop-cons (x ∷ xs) i x h)

  -- it is enough to look where there are elements
  pub holds-nowhere : (f : X → Bool) (xs : List X) (i : ℕ) → (i < length xs → holds_at f xs i ≡ false) → holds_at f xs i ≡ false
  holds-nowhere f [] i h = refl
  holds-nowhere f (x ∷ xs) zero h = h (zero-lt-suc (length xs))
  holds-nowhere f (x ∷ xs) (suc i) h = holds-nowhere f xs i (λ l. h (suc-le-suc l))

  -- where f fails, g fails
  pub fails-too : (f g : X → Bool) → ((x : X) → f x ≡ false → g x ≡ false) → (xs : List X) (i : ℕ) → holds_at f xs i ≡ false → holds_at g xs i ≡ false
  fails-too f g h [] i e = refl
  fails-too f g h (x ∷ xs) zero e = h x e
  fails-too f g h (x ∷ xs) (suc i) e = fails-too f g h xs i e

  pub holds-any : (f : X → Bool) (xs : List X) (i : ℕ) → holds_at f xs i ≡ true → any f xs ≡ true
  holds-any f [] i h = absurd (false≢true h)
  holds-any f (x ∷ xs) zero h = ap (λ (b : Bool). b || any f xs) h
  holds-any f (x ∷ xs) (suc i) h = by (f x) (holds-any f xs i h)
    where
      by : (b : Bool) → any f xs ≡ true → (b || any f xs) ≡ true
      by true e = refl
      by false e = e

  pub any_none : (f : X → Bool) (xs : List X) → ((i : ℕ) → holds_at f xs i ≡ false) → any f xs ≡ false
  any_none f [] h = refl
  any_none f (x ∷ xs) h = ap (λ (b : Bool). b || any f xs) (h 0) ∙ any_none f xs (λ i. h (suc i))

  -- ---- one element more

  pub holds-before : (f : X → Bool) (xs : List X) (x : X) (i : ℕ) → i < length xs → holds_at f (xs ++ (x ∷ [])) i ≡ holds_at f xs i
  holds-before f [] x i h = absurd (not-suc-le-zero h)
  holds-before f (y ∷ ys) x zero h = refl
  holds-before f (y ∷ ys) x (suc i) h = holds-before f ys x i (le_of_suc-le-suc h)

  pub is_last : (xs : List X) (x : X) → IsAt (xs ++ (x ∷ [])) (length xs) x
  is_last [] x f = refl
  is_last (y ∷ ys) x f = is_last ys x f

-- ---- the first rows of a journal

module _ {E R : Type 0} (row_of : R → Row E) where
  pub rows-length : (u : ℕ) (j : List R) → u ≤ length j → length (rows_read row_of u j) ≡ u
  unfolding rows_read
  rows-length u j h = length-map (take u j) row_of ∙ length-take-le u j h

  pub rows_none : (j : List R) → rows_read row_of 0 j ≡ []
  unfolding rows_read
  rows_none j = refl

  rows-set-next : (j : List R) (i : ℕ) (x : R) → i < length j → rows_read row_of (i + 1) (set j i x) ≡ rows_read row_of i j ++ (row_of x ∷ [])
  unfolding rows_read
  rows-set-next j i x h = ap (λ (n : ℕ). map row_of (take n (set j i x))) (add-one i) ∙ ap (map row_of) (take-suc-set j i x h) ∙ map-append row_of (take i j) (x ∷ [])

  -- one row more, in its place
  pub stored_more : (rows : List (Row E)) (i : ℕ) (old new : List R) (x : R) → i < length new → Stored row_of i rows old new → Stored row_of (i + 1) (rows ++ (row_of x ∷ [])) old (set new i x)
  stored_more rows i old new x h s =
      record {
        front = rows-set-next new i x h ∙ ap (λ (l : List (Row E)). l ++ (row_of x ∷ [])) s.front;
        beyond = drop-set-lt (i + 1) new i x (omega arith) ∙ drop-later-same i (i + 1) new old (omega arith) s.beyond;
      }

  -- ---- row i, where `blank` stands past the end

  module _ (blank : R) (u : ℕ) (j : List R) where
    pub rows_at : (i : ℕ) → i < u → get_or (rows_read row_of u j) i (row_of blank) ≡ row_of (get_or j i blank)
    unfolding rows_read
    rows_at i h = get_or-map row_of (take u j) i blank ∙ ap row_of (get_or-take u j i blank h)

    pub rows-is-at : u ≤ length j → (i : ℕ) → i < u → IsAt (rows_read row_of u j) i (row_of (get_or j i blank))
    rows-is-at h i l f =
        is_at (row_of blank) (rows_read row_of u j) i (subst (λ (n : ℕ). i < n) (sym (rows-length u j h)) l) f ∙ ap f (rows_at i l)

    -- what is read for position i, if it is one of the rows, and else `blank`
    pub among-row : u ≤ length j → (i : ℕ) (r : R) → (i < u → r ≡ get_or j i blank) → row_of (among_first blank r i u) ≡ get_or (rows_read row_of u j) i (row_of blank)
    among-row h i r e = by (ltb i u) refl
      where
        by : (b : Bool) → ltb i u ≡ b → row_of (cond b r blank) ≡ get_or (rows_read row_of u j) i (row_of blank)
        by true p = let l = ltb-true i u p in ap row_of (e l) ∙ sym (rows_at i l)
        by false p = sym (get_or-eq_default (rows_read row_of u j) (row_of blank) (subst (λ (m : ℕ). m ≤ i) (sym (rows-length u j h)) (ltb-false i u p)))

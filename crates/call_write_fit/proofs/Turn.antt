-- One turn of the loop over the rows, as facts: row i is added to the test, and its length is the last. Assumes nothing.
use mathlib.Core.Path.{◌≡◌, sym, ap, ap₂, ◌∙◌, subst}
use mathlib.Core.Bool.{Bool, ◌&&◌}
use mathlib.Core.List.{List, map}
use Prim.Native.Nat.{ℕ, ◌+◌, ◌<◌}
use native.Mathlib.Numerals.{add-one}
use native.Mathlib.Omega.{arith}
use lib.ListN.{get_or, get_or-map}
use Rattle.spec_language.specs.Grammar.{Rule}
use Rattle.spec_order.specs.Journal.{Row}
use Rattle.spec_order.specs.Fitting.{all_rows_fit}
use Rattle.spec_calls.specs.Rows.{row_of, blank}
use Rattle.spec_calls.specs.declared.Row.{Row as LentRow}
use Rattle.call_write_fit.specs.Forms.{no_forms}
use Rattle.call_write_fit.specs.ByValue.{lower_of, row_by, last_len}
use Rattle.call_write_fit.specs.ByValueLaws.{fits-by-value, lower-le}

module _ (J : List LentRow) (rules : List Rule) (i : ℕ) where
  -- the row x, and the rows l and r of the journal, are added to the test
  abbrev pub Added : LentRow → ℕ → ℕ → Bool → Bool → Type 0
  Added x l r old new = new ≡ (old && row_by rules i (row_of x) (row_of (get_or J l blank)) (row_of (get_or J r blank)))

  fits_at : (l r : ℕ) → l ≡ lower_of (get_or J i blank).left i → r ≡ lower_of (get_or J i blank).right i → (old new : Bool)
      → old ≡ all_rows_fit no_forms (map row_of J) rules i → Added (get_or J i blank) l r old new → new ≡ all_rows_fit no_forms (map row_of J) rules (i + 1)
  unfolding all_rows_fit
  fits_at l r el er old new e a =
      rw (add-one i)
      (a ∙ ap₂ (λ (x y : Bool). x && y) e (ap₂ (λ (l r : ℕ). row_by rules i (row_of (get_or J i blank)) (row_of (get_or J l blank)) (row_of (get_or J r blank))) el er ∙ fits-by-value J rules i))

  -- x is row i, and l and r are the rows that its pointers name, where lower
  module _ (x : LentRow) (same : x ≡ get_or J i blank) where
    pub fits_on : (l r : ℕ) → l ≡ lower_of x.left i → r ≡ lower_of x.right i → (old new : Bool) → old ≡ all_rows_fit no_forms (map row_of J) rules i
        → Added x l r old new → new ≡ all_rows_fit no_forms (map row_of J) rules (i + 1)
    fits_on l r el er old new e a =
        fits_at l r (el ∙ ap (λ (y : LentRow). lower_of y.left i) same) (er ∙ ap (λ (y : LentRow). lower_of y.right i) same) old new e
        (subst (λ (y : LentRow). Added y l r old new) same a)

    pub len-on : (k : ℕ) → k ≡ x.len → k ≡ last_len (map row_of J) (i + 1)
    len-on k e = rw (add-one i) (e ∙ ap (λ (y : LentRow). y.len) same ∙ sym (ap (λ (r : Row ℕ). r.len) (get_or-map row_of J i blank)))

-- a row that is named is inside
pub inside : (n i k p : ℕ) → k ≡ lower_of p i → i < n → k < n
inside n i k p e l = omega (arith, e, lower-le p i, l)

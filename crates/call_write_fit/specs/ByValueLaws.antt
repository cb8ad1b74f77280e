-- A row of a journal fits as it and the rows that its pointers name, where lower, say by value. Assumes nothing.
use Rattle.std.specs.Prelude.{◌≡◌, Bool, ◌&&◌, cond, List, map, ℕ, ◌+◌, ◌≤◌, ◌<◌, ltb, length}
use Rattle.std.proofs.Math.Path.{refl, sym, ap, ap₂}
use Rattle.std.proofs.Common.{◌∙◌, le_refl, le_of_lt, ltb-true}
use Rattle.std.proofs.Math.Bool.{true, false}
use Rattle.std.proofs.Math.Dec.{eqb}
use Rattle.std.proofs.Math.ListN.{get_or, get_or-map}
use Rattle.spec_language.specs.Grammar.{Symbol, terminal, nonterminal, Body, empty, one, two, Rule, no_rule}
use Rattle.spec_order.specs.Journal.{Row, no_row, absent, capped}
use Rattle.spec_order.specs.Fitting.{pointer_fits, symbol_len, body_fits, row_fits}
use Rattle.spec_calls.specs.Rows.{row_of, blank}
use Rattle.spec_calls.specs.declared.Row.{Row as LentRow}
use Rattle.call_write_fit.specs.Forms.{no_forms}
use Rattle.call_write_fit.specs.ByValue.{lower_of, pointer_by, length_by, body_by, row_by}

pub lower-le : (p i : ℕ) → lower_of p i ≤ i
unfolding lower_of
lower-le p i = by (ltb p i) (ltb-true p i)
  where
    by : (b : Bool) → (b ≡ true → p < i) → cond b p i ≤ i
    by true q = le_of_lt (q refl)
    by false q = le_refl i

module _ (rows : List (Row ℕ)) (i : ℕ) where
  abbrev at : ℕ → Row ℕ
  at p = get_or rows p (no_row no_forms)

  -- a pointer that fits names the row that the by-value test looks at
  module _ (p : ℕ) where
    pointer-same : (s : Symbol) → pointer_by i s p (at (lower_of p i)) ≡ pointer_fits no_forms rows i s p
    unfolding pointer_by pointer_fits lower_of
    pointer-same (terminal c) = refl
    pointer-same (nonterminal h) = by (ltb p i)
      where
        by : (b : Bool) → (b && eqb (at (cond b p i)).head h) ≡ (b && eqb (at p).head h)
        by true = refl
        by false = refl

    -- so where one of two symbols does not fit, their lengths do not matter
    length-same : (s : Symbol) (f : ℕ → Bool) → (pointer_fits no_forms rows i s p && f (length_by s (at (lower_of p i)))) ≡ (pointer_fits no_forms rows i s p && f (symbol_len no_forms rows s p))
    unfolding length_by symbol_len pointer_fits lower_of
    length-same (terminal c) f = refl
    length-same (nonterminal h) f = by (ltb p i)
      where
        by : (b : Bool) → ((b && eqb (at p).head h) && f (at (cond b p i)).len) ≡ ((b && eqb (at p).head h) && f (at p).len)
        by true = refl
        by false = refl

assoc : (a b c : Bool) → ((a && b) && c) ≡ (a && (b && c))
assoc true b c = refl
assoc false b c = refl

module _ (rows : List (Row ℕ)) (i : ℕ) where
  -- the row r, with the rows that its pointers name, where lower
  module _ (r : Row ℕ) where
    abbrev x : Row ℕ
    x = get_or rows (lower_of r.left i) (no_row no_forms)

    abbrev y : Row ℕ
    y = get_or rows (lower_of r.right i) (no_row no_forms)

    pub body_same : (b : Body) → body_by i b r x y ≡ body_fits no_forms rows i b r.left r.right r.len
    unfolding body_by body_fits
    body_same empty = refl
    body_same (one s) =
        let a = pointer_fits no_forms rows i s r.left in
        ap (λ (f : Bool). (f && eqb r.right absent) && eqb r.len (capped (length_by s x))) (pointer-same rows i r.left s)
        ∙ assoc a (eqb r.right absent) (eqb r.len (capped (length_by s x)))
        ∙ length-same rows i r.left s (λ k. eqb r.right absent && eqb r.len (capped k))
        ∙ sym (assoc a (eqb r.right absent) (eqb r.len (capped (symbol_len no_forms rows s r.left))))
    body_same (two s t) =
        let a = pointer_fits no_forms rows i s r.left in
        let b = pointer_fits no_forms rows i t r.right in
        let k = symbol_len no_forms rows s r.left in
        ap₂ (λ (f g : Bool). (f && g) && eqb r.len (capped (length_by s x + length_by t y))) (pointer-same rows i r.left s) (pointer-same rows i r.right t)
        ∙ assoc a b (eqb r.len (capped (length_by s x + length_by t y)))
        ∙ length-same rows i r.left s (λ m. b && eqb r.len (capped (m + length_by t y)))
        ∙ ap (λ (f : Bool). a && f) (length-same rows i r.right t (λ m. eqb r.len (capped (k + m))))
        ∙ sym (assoc a b (eqb r.len (capped (k + symbol_len no_forms rows t r.right))))

  pub row_same : (rules : List Rule) → let r = get_or rows i (no_row no_forms) in row_by rules i r (x r) (y r) ≡ row_fits no_forms rows rules i
  unfolding row_by row_fits
  row_same rules =
      let r = get_or rows i (no_row no_forms) in
      let e = get_or rules r.rule no_rule in
      ap (λ (f : Bool). (ltb r.rule (length rules) && eqb e.head r.head) && f) (body_same r e.body)

-- the lent rows themselves
module _ (J : List LentRow) (rules : List Rule) (i : ℕ) where
  pub fits-by-value : let r = get_or J i blank in row_by rules i (row_of r) (row_of (get_or J (lower_of r.left i) blank)) (row_of (get_or J (lower_of r.right i) blank)) ≡ row_fits no_forms (map row_of J) rules i
  fits-by-value =
      let r = get_or J i blank in
      let named : (k : ℕ) → row_of (get_or J k blank) ≡ get_or (map row_of J) k (no_row no_forms) = λ k. sym (get_or-map row_of J k blank) in
      ap₂ (λ (x y : Row ℕ). row_by rules i (row_of r) x y) (named (lower_of r.left i)) (named (lower_of r.right i))
      ∙ ap (λ (z : Row ℕ). row_by rules i z (get_or (map row_of J) (lower_of z.left i) (no_row no_forms)) (get_or (map row_of J) (lower_of z.right i) (no_row no_forms))) (named i)
      ∙ row_same (map row_of J) i rules

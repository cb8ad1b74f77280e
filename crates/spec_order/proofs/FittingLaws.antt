-- Rows that fit: their pointers are below them, their length is the capped sum, and the forms say nothing. Assumes nothing.
use Rattle.std.specs.Prelude.{◌≡◌, Bool, true, ◌&&◌, List, [], ◌∷◌, length}
use Rattle.std.proofs.Math.Path.{refl, ap, ap₂, subst}
use Rattle.std.proofs.Common.{sym, ◌∙◌, not-suc-le-zero, eq-or-lt_of_le, le_of_suc-le-suc}
use Rattle.std.proofs.Math.Logic.{⊎_elim}
use Prim.Native.Nat.{ℕ, zero, suc, ◌+◌, ◌≤◌, ◌<◌}
use Rattle.std.proofs.Math.Dec.{eqb, ltb}
use Rattle.std.proofs.Math.ListN.{get_or}
use borrow.Author.Tests.{eqb-true, ltb-true}
use Rattle.spec_basics.specs.Tests.{and-fst, and-snd}
use Rattle.spec_language.specs.Grammar.{Symbol, terminal, nonterminal, Body, empty, one, two, Rule, no_rule}
use Rattle.spec_order.specs.Algebra.{Forms}
use Rattle.spec_order.specs.Journal.{Row, no_row, absent, capped}
use Rattle.spec_order.specs.Fitting.{pointer_fits, symbol_len, body_fits, row_fits, all_rows_fit}

module _ {E : Type 0} (M : Forms E) (rows : List (Row E)) where
  -- the rows 0 through i fit
  abbrev pub FitThrough : List Rule → ℕ → Type 0
  FitThrough rules i = (j : ℕ) → j ≤ i → row_fits M rows rules j ≡ true

  pub fit-through : (rules : List Rule) (m : ℕ) → all_rows_fit M rows rules m ≡ true → (j : ℕ) → j < m → row_fits M rows rules j ≡ true
  unfolding all_rows_fit
  fit-through rules zero f j h = absurd (not-suc-le-zero h)
  fit-through rules (suc m) f j h =
      ⊎_elim (λ e. subst (λ (k : ℕ). row_fits M rows rules k ≡ true) (sym e) (and-snd (all_rows_fit M rows rules m) (row_fits M rows rules m) f))
      (λ l. fit-through rules m (and-fst (all_rows_fit M rows rules m) (row_fits M rows rules m) f) j l)
      (eq-or-lt_of_le (le_of_suc-le-suc h))

  -- ---- what a body that fits says

  abbrev pub PointersFit : ℕ → Body → ℕ → ℕ → Type 0
  PointersFit i empty l r = Unit {0}
  PointersFit i (one s) l r = pointer_fits M rows i s l ≡ true
  PointersFit i (two s t) l r = (pointer_fits M rows i s l ≡ true) × (pointer_fits M rows i t r ≡ true)

  abbrev pub body_len : Body → ℕ → ℕ → ℕ
  body_len empty l r = 0
  body_len (one s) l r = capped (symbol_len M rows s l)
  body_len (two s t) l r = capped (symbol_len M rows s l + symbol_len M rows t r)

  -- a nonterminal points to a lower row
  pub lower : (i x p : ℕ) → pointer_fits M rows i (nonterminal x) p ≡ true → p < i
  unfolding pointer_fits
  lower i x p f = ltb-true p i (and-fst (ltb p i) (eqb (get_or rows p (no_row M)).head x) f)

  pointers-fit : (i : ℕ) (b : Body) (l r n : ℕ) → body_fits M rows i b l r n ≡ true → PointersFit i b l r
  unfolding body_fits
  pointers-fit i empty l r n f = tt
  pointers-fit i (one s) l r n f = and-fst (pointer_fits M rows i s l) (eqb r absent) (and-fst (pointer_fits M rows i s l && eqb r absent) (eqb n (capped (symbol_len M rows s l))) f)
  pointers-fit i (two s t) l r n f =
      let a = pointer_fits M rows i s l in
      let b = pointer_fits M rows i t r in
      let g = and-fst (a && b) (eqb n (capped (symbol_len M rows s l + symbol_len M rows t r))) f in (and-fst a b g, and-snd a b g)

  length-fits : (i : ℕ) (b : Body) (l r n : ℕ) → body_fits M rows i b l r n ≡ true → n ≡ body_len b l r
  unfolding body_fits
  length-fits i empty l r n f = eqb-true n 0 (and-snd (eqb l absent && eqb r absent) (eqb n 0) f)
  length-fits i (one s) l r n f = let m = capped (symbol_len M rows s l) in eqb-true n m (and-snd (pointer_fits M rows i s l && eqb r absent) (eqb n m) f)
  length-fits i (two s t) l r n f =
      let m = capped (symbol_len M rows s l + symbol_len M rows t r) in eqb-true n m (and-snd (pointer_fits M rows i s l && pointer_fits M rows i t r) (eqb n m) f)

  -- ---- what a row that fits says

  abbrev row_at : ℕ → Row E
  row_at i = get_or rows i (no_row M)

  abbrev pub body_at : List Rule → ℕ → Body
  body_at rules i = (get_or rules (get_or rows i (no_row M)).rule no_rule).body

  pub record Fitting (rules : List Rule) (i : ℕ) : Type 0 where
    pub inside : (get_or rows i (no_row M)).rule < length rules
    pub head-is : (get_or rules (get_or rows i (no_row M)).rule no_rule).head ≡ (get_or rows i (no_row M)).head
    pub pointers : PointersFit i (body_at rules i) (get_or rows i (no_row M)).left (get_or rows i (no_row M)).right
    pub size : (get_or rows i (no_row M)).len ≡ body_len (body_at rules i) (get_or rows i (no_row M)).left (get_or rows i (no_row M)).right

  pub fitting : (rules : List Rule) (i : ℕ) → row_fits M rows rules i ≡ true → Fitting rules i
  unfolding row_fits
  fitting rules i f =
      let r : Row E = row_at i in
      let a = ltb r.rule (length rules) in
      let b = eqb (get_or rules r.rule no_rule).head r.head in
      let d = body_fits M rows i (body_at rules i) r.left r.right r.len in
      record {
        inside = ltb-true r.rule (length rules) (and-fst a b (and-fst (a && b) d f));
        head-is = eqb-true (get_or rules r.rule no_rule).head r.head (and-snd a b (and-fst (a && b) d f));
        pointers = pointers-fit i (body_at rules i) r.left r.right r.len (and-snd (a && b) d f);
        size = length-fits i (body_at rules i) r.left r.right r.len (and-snd (a && b) d f);
      }

-- ---- the forms matter only in the row that is never read

module _ {E : Type 0} (M N : Forms E) (rows : List (Row E)) where
  -- a field that the two rows which are never read share
  field-same : (f : Row E → ℕ) → f (no_row M) ≡ f (no_row N) → (xs : List (Row E)) (i : ℕ) → f (get_or xs i (no_row M)) ≡ f (get_or xs i (no_row N))
  field-same f e [] i = e
  field-same f e (x ∷ xs) zero = refl
  field-same f e (x ∷ xs) (suc i) = field-same f e xs i

  pointer-same : (i : ℕ) (s : Symbol) (p : ℕ) → pointer_fits M rows i s p ≡ pointer_fits N rows i s p
  unfolding pointer_fits
  pointer-same i (terminal c) p = refl
  pointer-same i (nonterminal x) p = ap (λ (h : ℕ). ltb p i && eqb h x) (field-same (λ r. r.head) refl rows p)

  len-same : (s : Symbol) (p : ℕ) → symbol_len M rows s p ≡ symbol_len N rows s p
  unfolding symbol_len
  len-same (terminal c) p = refl
  len-same (nonterminal x) p = field-same (λ r. r.len) refl rows p

  body_same : (i : ℕ) (b : Body) (l r n : ℕ) → body_fits M rows i b l r n ≡ body_fits N rows i b l r n
  unfolding body_fits
  body_same i empty l r n = refl
  body_same i (one s) l r n = ap₂ (λ (t : Bool) (m : ℕ). (t && eqb r absent) && eqb n (capped m)) (pointer-same i s l) (len-same s l)
  body_same i (two s t) l r n =
      ap₂ (λ (x y : Bool). (x && y) && eqb n (capped (symbol_len M rows s l + symbol_len M rows t r))) (pointer-same i s l) (pointer-same i t r)
      ∙ ap₂ (λ (x y : ℕ). (pointer_fits N rows i s l && pointer_fits N rows i t r) && eqb n (capped (x + y))) (len-same s l) (len-same t r)

  row_same : (rules : List Rule) (i : ℕ) → row_fits M rows rules i ≡ row_fits N rows rules i
  unfolding row_fits
  row_same rules i =
      let r : Row E = get_or rows i (no_row M) in
      cc (
        body_same i (get_or rules r.rule no_rule).body r.left r.right r.len,
        field-same (λ x. x.head) refl rows i,
        field-same (λ x. x.rule) refl rows i,
        field-same (λ x. x.left) refl rows i,
        field-same (λ x. x.right) refl rows i,
        field-same (λ x. x.len) refl rows i,
      )

  pub fit_same : (rules : List Rule) (m : ℕ) → all_rows_fit M rows rules m ≡ all_rows_fit N rows rules m
  unfolding all_rows_fit
  fit_same rules zero = refl
  fit_same rules (suc m) = ap₂ (λ (a b : Bool). a && b) (fit_same rules m) (row_same rules m)

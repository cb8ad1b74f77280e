-- Each step of making room keeps where it stands: the next linked row retires or stays, and after the last one the new row is added.
-- Assumes nothing.
use Rattle.std.specs.Prelude.{◌≡◌, refl, Bool, true, false, cond, ◌||◌, ℕ, ◌-◌, ◌≤◌, ◌<◌, eqb, ltb, length, get_or}
use Rattle.std.proofs.Common.{sym, ap₂, ◌∙◌, inl, inr, arith, length-set, drop-set-lt, le-ltb, ltb-true, ltb-false, eqb-true}
use Rattle.std.proofs.Math.Path.{ap, subst, subst₂}
use Rattle.std.proofs.lemmas.Bool.{false≢true, eqb-false}
use mathlib.Core.List.{List, map}
use Rattle.std.proofs.Math.Arith.{lt_of_le-ne}
use Rattle.std.proofs.Math.ListN.{set}
use Rattle.std.proofs.lemmas.List.{length-map}
use Rattle.std.specs.declared.option.Option.{Option}
use Rattle.std.specs.declared.option.Option.TheVariants.{None, Some}
use Rattle.spec_order.specs.Candidates.{Candidate}
use Rattle.spec_order.specs.Journal.{Row, live}
use Rattle.spec_order.specs.Order.{larger, retire, born, added}
use Rattle.search_state.specs.declared.Fate.{Fate}
use Rattle.search_state.specs.Comparing.{replaced_by}
use Rattle.search_state.specs.Retiring.{retire-yes, retire-no}
use Rattle.search_state.specs.Layout.{row_cells, heads, head_cell, lists_from, lists_in, end}
use Rattle.search_links.specs.Covers.{Cell, Covering, Free, Retiring}
use Rattle.search_links.specs.CoverLaws.{cell-bound, covering-more}
use Rattle.search_links.specs.Retirements.{replaced-set, retire-none, retiring-start, retiring-done, retiring-rises, retired, stayed}
use Rattle.search_links.specs.Rows.{rows_read}
use Rattle.search_links.specs.RowLaws.{rows-length, stored_more}
use Rattle.search_cover.specs.Seeking.{Finds}
use Rattle.search_retire.specs.Clearing.{Idle, Fresh, Cleared, Added, Clears, ClearingAt, InClearing, Inserted, clears_left, MayClear}
use Rattle.search_retire.specs.Steps.{retire_by, retire_from, begun, stepped, links_after}
use Rattle.search_retire.specs.declared.RetireCursor.{RetireCursor}
use Rattle.search_cover.specs.declared.CoverAnswer.{CoverAnswer}

-- lists stand behind all other cells
lists-kept : (t : List ℕ) (cell v : ℕ) → cell < lists_from → lists_in (set t cell v) ≡ lists_in t
lists-kept t cell v h = drop-set-lt lists_from t cell v h

module _ {E R : Type 0} (below : E → E → Bool) (row_of : R → Row E) (blank : R) (k : ℕ) (c : Candidate E) (u : ℕ) (l : CoverAnswer) (j₀ : List R) where
  pub idle-of : (l.covers || eqb u (length j₀)) ≡ true → Idle below row_of blank k c u l j₀
  idle-of e = by l.covers refl e
    where
      by : (b : Bool) → l.covers ≡ b → (b || eqb u (length j₀)) ≡ true → Idle below row_of blank k c u l j₀
      by true p q = inl p
      by false p q = inr (eqb-true u (length j₀) q)

  pub fresh-of : u ≤ length j₀ → length j₀ ≤ row_cells → 0 < k → (l.covers || eqb u (length j₀)) ≡ false → Fresh below row_of blank k c u l j₀
  fresh-of r m p e = by l.covers refl e
    where
      by : (b : Bool) → l.covers ≡ b → (b || eqb u (length j₀)) ≡ false → Fresh below row_of blank k c u l j₀
      by true x y = absurd (false≢true (sym y))
      by false x y = record { none = x; room = lt_of_le-ne r (eqb-false u (length j₀) y); limit = m; pass = p }

module _ {E R : Type 0} {below : E → E → Bool} {row_of : R → Row E} {blank : R} {k : ℕ} {c : Candidate E} {u : ℕ} {l : CoverAnswer} {j₀ : List R} (hh : c.head < heads) where
  -- ---- the linked row v, or past the last one the new row

  module _ (f : Fresh below row_of blank k c u l j₀) where
    room : u ≤ length j₀
    room = omega (arith, f.room)

    limit : u ≤ row_cells
    limit = omega (arith, f.room, f.limit)

    module _ (t₀ : List ℕ) {v cell : ℕ} {j : List R} {t : List ℕ} (r : Retiring below row_of blank k c u j₀ v cell j t) where
      from-stands : (b : Bool) → ltb v u ≡ b → ClearingAt below row_of blank k c u l j₀ t₀ (Some (retire_by b u v cell)) j t
      from-stands true e = (f, (ltb-true v u e, r))
      from-stands false e =
          let d = retiring-done below row_of blank k c u j₀ room limit hh r (ltb-false v u e) in
          (f, (refl, record { stored = d.0; covering = d.1; last = d.2 }))

      pub clears-from : lists_in t ≡ lists_in t₀ → InClearing below row_of blank k c u l j₀ t₀ (Some (retire_from u v cell)) j t
      clears-from e = record { size = r.size; lists = e; stands = from-stands (ltb v u) refl }

    from-left : (v cell : ℕ) (b : Bool) → ltb v u ≡ b → (n : ℕ) → 1 < n → 65537 - v < n
        → clears_left (Some (retire_by b u v cell)) < n
    from-left v cell true e n h m = m
    from-left v cell false e n h m = h

  -- ---- the first step

  pub clears-idle : (t : List ℕ) → Idle below row_of blank k c u l j₀ → InClearing below row_of blank k c u l j₀ t None j₀ t
  clears-idle t i = record { size = refl; lists = refl; stands = inl (i, refl, refl) }

  module _ (f : Fresh below row_of blank k c u l j₀) (t : List ℕ) (g : Covering (rows_read row_of u j₀) t) where
    pub clears-larger : InClearing below row_of blank k c u l j₀ t (Some (retire_from u (get_or t (head_cell c.head) 0) (head_cell c.head))) j₀ t
    clears-larger = clears-from f t (retiring-start below row_of blank k c u j₀ (room f) (limit f) hh t g) refl

    pub clears-none : Finds below c (rows_read row_of u j₀) u t l → l.larger ≡ false → InClearing below row_of blank k c u l j₀ t (Some (retire_from u end l.cell)) j₀ t
    clears-none z e =
        let y : Free below c (rows_read row_of u j₀) t l.cell l.larger = z.free f.none in
        subst (λ (b : Bool). InClearing below row_of blank k c u l j₀ t (Some (retire_by b u end l.cell)) j₀ t)
        (sym (le-ltb end u (omega (arith, limit f))))
        (record {
          size = refl;
          lists = refl;
          stands = (f, (refl, record { stored = record { front = retire-none below k c (rows_read row_of u j₀) (y.small e); beyond = refl }; covering = g; last = y.last }));
        })

  -- ---- a step at a linked row

  module _ {t₀ : List ℕ} {cl : RetireCursor} {j : List R} {t : List ℕ} (i : InClearing below row_of blank k c u l j₀ t₀ (Some cl) j t) where
    now : Fresh below row_of blank k c u l j₀ × Clears below row_of blank k c u l j₀ cl.new cl j t
    now = i.stands

    fresh : Fresh below row_of blank k c u l j₀
    fresh = now.0

    cell_in : {v cell : ℕ} → Retiring below row_of blank k c u j₀ v cell j t → cell < lists_from
    cell_in {v} {cell} r =
        omega (arith, cell-bound c.head (rows_read row_of u j) cell r.from hh (omega (arith, rows-length row_of u j (omega (arith, r.size, fresh.room)), limit fresh)) r.is)

    inside : u < length j
    inside = omega (arith, i.size, fresh.room)

    module _ (e : cl.new ≡ false) where
      linked : (cl.row < u) × Retiring below row_of blank k c u j₀ cl.row cl.cell j t
      linked = subst (λ (b : Bool). Clears below row_of blank k c u l j₀ b cl j t) e now.1

      abbrev v : ℕ
      v = cl.row

      -- the row is replaced, and the next one is where the table leads
      module _ (x : R) (q : row_of x ≡ retire below k c (row_of (get_or j v blank))) where
        next-left : (cell : ℕ) → clears_left (Some (retire_from u (get_or t v 0) cell)) < 65537 - v
        next-left cell =
            let m = retiring-rises below row_of blank k c u j₀ (room fresh) (limit fresh) hh linked.1 linked.0 in
            from-left fresh (get_or t v 0) cell (ltb (get_or t v 0) u) refl (65537 - v) (omega (arith, linked.0, limit fresh)) (omega (arith, m, linked.0, limit fresh))

        pub clears-retired : larger below c (row_of (get_or j v blank)) ≡ true
            → InClearing below row_of blank k c u l j₀ t₀ (Some (retire_from u (get_or t v 0) cl.cell)) (set j v x) (set t cl.cell (get_or t v 0)) × (clears_left (Some (retire_from u (get_or t v 0) cl.cell)) < 65537 - v)
        clears-retired big = (
          clears-from fresh t₀
              (retired below row_of blank k c u j₀ (room fresh) (limit fresh) hh linked.1 linked.0 (replaced-set below row_of blank k c v j x (omega (arith, linked.0, inside)) q) fresh.pass big)
              (lists-kept t cl.cell (get_or t v 0) (cell_in linked.1) ∙ i.lists),
          next-left cl.cell,
        )

        pub clears-stayed : larger below c (row_of (get_or j v blank)) ≡ false
            → InClearing below row_of blank k c u l j₀ t₀ (Some (retire_from u (get_or t v 0) v)) (set j v x) t × (clears_left (Some (retire_from u (get_or t v 0) v)) < 65537 - v)
        clears-stayed small = (
          clears-from fresh t₀
              (stayed below row_of blank k c u j₀ (room fresh) (limit fresh) hh linked.1 linked.0 (replaced-set below row_of blank k c v j x (omega (arith, linked.0, inside)) q) small)
              i.lists,
          next-left v,
        )

    -- ---- the last step: the new row

    module _ (e : cl.new ≡ true) where
      cleared : (cl.row ≡ u) × Cleared below row_of blank k c u l j₀ cl.cell j t
      cleared = subst (λ (b : Bool). Clears below row_of blank k c u l j₀ b cl j t) e now.1

      abbrev rows : List (Row E)
      rows = map (retire below k c) (rows_read row_of u j₀)

      rows-size : length rows ≡ u
      rows-size = length-map (rows_read row_of u j₀) (retire below k c) ∙ rows-length row_of u j₀ (room fresh)

      last-in : cl.cell < head_cell heads
      last-in =
          let z = cleared.1.last in
          cell-bound c.head (rows_read row_of u j) cl.cell z.from hh (omega (arith, rows-length row_of u j (omega (arith, inside)), limit fresh)) z.is

      module _ (x : R) (q : row_of x ≡ born k c) where
        added-here : Added below row_of blank k c u l j₀ (set j u x) (set (set t u end) cl.cell u)
        unfolding added born live
        added-here =
            let d = cleared.1 in
            let h : (row_of x).head ≡ c.head = ap (λ (r : Row E). r.head) q in
            let g : Covering rows t = subst (λ (r : List (Row E)). Covering r t) d.stored.front d.covering in
            let z : Cell (row_of x).head rows cl.cell d.last.from = subst₂ (λ (n : ℕ) (r : List (Row E)). Cell n r cl.cell d.last.from) (sym h) d.stored.front d.last.is in
            let m = covering-more rows (row_of x) t g (omega (arith, rows-size, fresh.room, fresh.limit)) (omega (arith, h, hh)) (ap live q) cl.cell d.last.from z d.last.last in
            let s = stored_more row_of rows u j₀ j x inside d.stored in
            record {
              stored = rw q at s;
              covering = subst₂ Covering (sym s.front) (ap (λ (n : ℕ). set (set t n end) cl.cell n) rows-size) m;
            }

        pub clears-added : InClearing below row_of blank k c u l j₀ t₀ None (set j cl.row x) (set (set t u end) cl.cell u)
        clears-added =
            record {
              size = length-set j cl.row x ∙ i.size;
              lists = lists-kept (set t u end) cl.cell u (omega (arith, last-in)) ∙ lists-kept t u end (omega (arith, limit fresh)) ∙ i.lists;
              stands = inr (fresh, subst (λ (n : ℕ). Added below row_of blank k c u l j₀ (set j n x) (set (set t u end) cl.cell u)) (sym cleared.0) added-here);
            }

    -- ---- what the code counts on

    pub clearing-at : cl.row < length j
    clearing-at = by cl.new refl
      where
        by : (b : Bool) → cl.new ≡ b → cl.row < length j
        by true e = omega (arith, (cleared e).0, inside)
        by false e = omega (arith, (linked e).0, inside)

    pub clearing-may : MayClear u cl t
    clearing-may = by cl.new refl
      where
        by : (b : Bool) → cl.new ≡ b → MayClear u cl t
        by true e = record { size = (cleared e).1.covering.size; used = omega (arith, fresh.room, fresh.limit); at = omega (arith, (cleared e).0, limit fresh); cell = omega (arith, last-in e) }
        by false e = record { size = (linked e).1.covering.size; used = omega (arith, fresh.room, fresh.limit); at = omega (arith, (linked e).0, limit fresh); cell = cell_in (linked e).1 }

-- steps that are left where it stands
pub one_left : (cl : RetireCursor) → cl.new ≡ true → 0 < clears_left (Some cl)
one_left cl e = rw e (omega arith)

pub many-left : (cl : RetireCursor) → cl.new ≡ false → {n : ℕ} → n < 65537 - cl.row → n < clears_left (Some cl)
many-left cl e {n} h = rw e h

pub clearing-same : {E R : Type 0} {below : E → E → Bool} {row_of : R → Row E} {blank : R} {k : ℕ} {c : Candidate E} {u : ℕ} {l : CoverAnswer} {j₀ : List R} {t₀ : List ℕ} {a b : Option RetireCursor} {j : List R} {t : List ℕ}
    → a ≡ b → InClearing below row_of blank k c u l j₀ t₀ a j t → InClearing below row_of blank k c u l j₀ t₀ b j t
clearing-same {E} {R} {below} {row_of} {blank} {k} {c} {u} {l} {j₀} {t₀} {a} {b} {j} {t} e i = subst (λ (o : Option RetireCursor). InClearing below row_of blank k c u l j₀ t₀ o j t) e i

pub clearing-done : {E R : Type 0} {below : E → E → Bool} {row_of : R → Row E} {blank : R} {k : ℕ} {c : Candidate E} {u : ℕ} {l : CoverAnswer} {j₀ : List R} {t₀ : List ℕ} {j : List R} {t : List ℕ} → InClearing below row_of blank k c u l j₀ t₀ None j t → Inserted below row_of blank k c u l j₀ t₀ j t
clearing-done i = record { size = i.size; lists = i.lists; outcome = i.stands }

-- ---- the steps, which are equations on values

module _ {E R : Type 0} {below : E → E → Bool} {row_of : R → Row E} {blank : R} {k : ℕ} {c : Candidate E} {u : ℕ} {l : CoverAnswer} {j₀ : List R} (hh : c.head < heads) where
  -- the beginning, where the fate says of the candidate what looking for a cover and the journal's length say
  pub clears-begun : {t : List ℕ} (f : Fate) → f.head ≡ c.head → f.covered ≡ l.covers → f.full ≡ eqb u (length j₀) → 0 < k → u ≤ length j₀ → length j₀ ≤ row_cells
      → Covering (rows_read row_of u j₀) t → Finds below c (rows_read row_of u j₀) u t l → InClearing below row_of blank k c u l j₀ t (begun t u f l) j₀ t
  clears-begun {t} f eh ec ef hk hu hl g z = by (f.covered || f.full) l.larger refl refl
    where
      says : (l.covers || eqb u (length j₀)) ≡ (f.covered || f.full)
      says = ap₂ (λ (a b : Bool). a || b) (sym ec) (sym ef)

      by : (a b : Bool) → (f.covered || f.full) ≡ a → l.larger ≡ b
          → InClearing below row_of blank k c u l j₀ t (cond a None (Some (cond b (retire_from u (get_or t (head_cell f.head) 0) (head_cell f.head)) (retire_from u end l.cell)))) j₀ t
      by true b p q = clears-idle hh t (idle-of below row_of blank k c u l j₀ (says ∙ p))
      by false true p q =
          subst (λ (x : ℕ). InClearing below row_of blank k c u l j₀ t (Some (retire_from u (get_or t (head_cell x) 0) (head_cell x))) j₀ t) (sym eh)
          (clears-larger hh (fresh-of below row_of blank k c u l j₀ hu hl hk (says ∙ p)) t g)
      by false false p q = clears-none hh (fresh-of below row_of blank k c u l j₀ hu hl hk (says ∙ p)) t g z q

  -- one step, where x is stored in the place of the row at the cursor
  pub clears-stepped : {t₀ : List ℕ} {cl : RetireCursor} {j : List R} {t : List ℕ} → InClearing below row_of blank k c u l j₀ t₀ (Some cl) j t
      → (big : Bool) → big ≡ larger below c (row_of (get_or j cl.row blank)) → (x : R) → row_of x ≡ replaced_by k c cl.new big (row_of (get_or j cl.row blank))
      → InClearing below row_of blank k c u l j₀ t₀ (stepped t u cl big) (set j cl.row x) (links_after t u cl big) × (clears_left (stepped t u cl big) < clears_left (Some cl))
  clears-stepped {t₀} {cl} {j} {t} i big eb x q = by cl.new big refl eb q
    where
      by : (n b : Bool) → cl.new ≡ n → b ≡ larger below c (row_of (get_or j cl.row blank)) → row_of x ≡ replaced_by k c n b (row_of (get_or j cl.row blank))
          → InClearing below row_of blank k c u l j₀ t₀ (cond n None (Some (cond b (retire_from u (get_or t cl.row 0) cl.cell) (retire_from u (get_or t cl.row 0) cl.row)))) (set j cl.row x)
          (cond n (set (set t u end) cl.cell u) (cond b (set t cl.cell (get_or t cl.row 0)) t))
          × (clears_left (cond n None (Some (cond b (retire_from u (get_or t cl.row 0) cl.cell) (retire_from u (get_or t cl.row 0) cl.row)))) < clears_left (Some cl))
      by true b e p y = (clears-added hh i e x y, one_left cl e)
      by false true e p y =
          let g = clears-retired hh i e x (y ∙ sym (retire-yes below k c (row_of (get_or j cl.row blank)) (sym p))) (sym p) in
          (g.0, many-left cl e g.1)
      by false false e p y =
          let g = clears-stayed hh i e x (y ∙ sym (retire-no below k c (row_of (get_or j cl.row blank)) (sym p))) (sym p) in
          (g.0, many-left cl e g.1)

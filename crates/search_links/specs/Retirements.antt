-- Retiring rows, along the live rows of the nonterminal: what was passed over stays as it is, and the rows that retire are linked no more.
-- Assumes nothing.
use Rattle.std.specs.Prelude.{◌≡◌, refl, Bool, true, false, ◌&&◌, List, [], ◌∷◌, map, ◌⊎◌, ℕ, suc, ◌≤◌, ◌<◌, eqb, ltb, length, get_or, set}
use Rattle.std.proofs.Math.Path.{sym}
use Rattle.std.proofs.Common.{ap, ap₂, ◌∙◌, subst, inl, inr, arith, length-set, ext_get_or, get_or-set_same, get_or-set_other, drop-set-lt, ltb-true, ltb-false, eqb-true}
use Rattle.std.proofs.Math.Bool.{not}
use Rattle.std.proofs.lemmas.List.{length-map}
use Rattle.std.proofs.lemmas.Bool.{eqb-false}
use Rattle.spec_basics.specs.Elements.{any}
use Rattle.spec_basics.specs.Lists.{get_d_map}
use Rattle.spec_basics.specs.Tests.{or-neither}
use Rattle.spec_order.specs.Candidates.{Candidate}
use Rattle.spec_order.specs.Journal.{Row, live_of}
use Rattle.spec_order.specs.Order.{larger, retire}
use Rattle.search_state.specs.Layout.{row_cells, heads, head_cell, table_cells, end}
use Rattle.search_state.specs.Retiring.{retire-no, retire-gone}
use Rattle.search_links.specs.Rows.{rows_read, Stored}
use Rattle.search_links.specs.RowLaws.{holds-nowhere, rows-length, rows_at, rows-is-at}
use Rattle.search_links.specs.Covers.{live_at, Cell, Reach, Covering, LastCell, Replaced, Retiring}
use Rattle.search_links.specs.CoverLaws.{below-or-last, live_inside, cell-bound, new-cell, covering-unlinked}

-- ---- one row and all rows

-- where no row is larger, none retires
pub retire-none : {E : Type 0} (below : E → E → Bool) (k : ℕ) (c : Candidate E) (rows : List (Row E)) → any (larger below c) rows ≡ false → rows ≡ map (retire below k c) rows
retire-none below k c [] h = refl
retire-none {E} below k c (r ∷ rows) h =
    let o = or-neither (larger below c r) (any (larger below c) rows) h in
    ap₂ (λ (x : Row E) (xs : List (Row E)). x ∷ xs) (sym (retire-no below k c r o.0)) (retire-none below k c rows o.1)

module _ {E R : Type 0} (below : E → E → Bool) (row_of : R → Row E) (blank : R) (k : ℕ) (c : Candidate E) where
  pub replaced-set : (i : ℕ) (j : List R) (x : R) → i < length j → row_of x ≡ retire below k c (row_of (get_or j i blank)) → Replaced below row_of blank k c i j (set j i x)
  replaced-set i j x h e =
      record { size = length-set j i x; row = ap row_of (get_or-set_same j i x blank h) ∙ e; others = λ m n. get_or-set_other j i m x blank n; beyond = λ w l. drop-set-lt w j i x l }

  module _ (u : ℕ) (old : List R) where
    abbrev f : Row E → Row E
    f = retire below k c

    -- row i of the old journal
    abbrev was : ℕ → Row E
    was i = row_of (get_or old i blank)

    module _ (room : u ≤ length old) (limit : u ≤ row_cells) (hh : c.head < heads) where
      -- a row that is no live one of the nonterminal stays
      stays : (r : Row E) → live_of c.head r ≡ false → r ≡ f r
      unfolding larger
      stays r e = sym (retire-no below k c r (ap (λ (b : Bool). b && (below c.effect r.effect && not (below r.effect c.effect))) e))

      pub retiring-start : (covers : List ℕ) → Covering (rows_read row_of u old) covers → Retiring below row_of blank k c u old (get_or covers (head_cell c.head) 0) (head_cell c.head) old covers
      retiring-start covers g =
          let r = g.reach c.head (head_cell c.head) 0 hh (inl (refl, refl)) in
          record {
            size = refl;
            done = λ i l m. stays (was i) (sym (rows-is-at row_of blank u old room i m (live_of c.head)) ∙ r.gap i (omega arith) l);
            rest = λ i l. refl;
            beyond = refl;
            covering = g;
            from = 0;
            is = inl (refl, refl);
            at = refl;
          }

      module _ {v cell : ℕ} {new : List R} {covers : List ℕ} (t : Retiring below row_of blank k c u old v cell new covers) where
        abbrev rows : List (Row E)
        rows = rows_read row_of u new

        new_room : u ≤ length new
        new_room = subst (λ (m : ℕ). u ≤ m) (sym t.size) room

        rows-size : length rows ≡ u
        rows-size = rows-length row_of u new new_room

        rows-limit : length rows ≤ row_cells
        rows-limit = subst (λ (m : ℕ). m ≤ row_cells) (sym rows-size) limit

        reach-at : Reach c.head rows t.from v
        reach-at = subst (Reach c.head rows t.from) t.at (t.covering.reach c.head cell t.from hh t.is)

        pub retiring-cell : cell < table_cells
        retiring-cell = omega (arith, cell-bound c.head rows cell t.from hh rows-limit t.is)

        pub retiring-done : u ≤ v → Stored row_of u (map f (rows_read row_of u old)) old new × Covering rows covers × LastCell c.head rows covers cell
        retiring-done h = (
          record {
            front =
                ext_get_or (row_of blank) rows (map f (rows_read row_of u old)) (rows-size ∙ sym (length-map (rows_read row_of u old) f ∙ rows-length row_of u old room)) (λ i l. row i (subst (λ (m : ℕ). i < m) rows-size l));
            beyond = t.beyond;
          },
          t.covering,
          record { from = t.from; is = t.is; last = t.at ∙ ended reach-at.stop },
        )
          where
            row : (i : ℕ) → i < u → get_or rows i (row_of blank) ≡ get_or (map f (rows_read row_of u old)) i (row_of blank)
            row i l =
                rows_at row_of blank u new i l ∙ t.done i (omega (arith, h, l)) l
                ∙ sym (get_d_map f (row_of blank) (row_of blank) (rows_read row_of u old) i (subst (λ (m : ℕ). i < m) (sym (rows-length row_of u old room)) l) ∙ ap f (rows_at row_of blank u old i l))

            ended : (v ≡ end) ⊎ (live_at c.head rows v ≡ true) → v ≡ end
            ended (inl e) = e
            ended (inr p) = absurd (omega (arith, live_inside c.head rows v p, rows-size, h))

        module _ (hv : v < u) where
          live_here : live_at c.head rows v ≡ true
          live_here = by reach-at.stop
            where
              by : (v ≡ end) ⊎ (live_at c.head rows v ≡ true) → live_at c.head rows v ≡ true
              by (inl e) = absurd (omega (arith, e, hv, limit))
              by (inr p) = p

          ahead : Reach c.head rows (suc v) (get_or covers v 0)
          ahead = t.covering.reach c.head v (suc v) hh (inr (live_here, refl))

          pub retiring-rises : v < get_or covers v 0
          retiring-rises = ahead.within

          -- the rows between row v and the next, and row v itself as it is now
          passed : (new' : List R) → ((m : ℕ) → (m ≡ v → ⊥) → get_or new' m blank ≡ get_or new m blank) → row_of (get_or new' v blank) ≡ f (was v) → (i : ℕ) → i < get_or covers v 0 → i < u → row_of (get_or new' i blank) ≡ f (was i)
          passed new' o e i l m = by (ltb i (suc v)) refl
            where
              here : (i < v) ⊎ (i ≡ v) → row_of (get_or new' i blank) ≡ f (was i)
              here (inl h) = ap row_of (o i (λ q. omega (arith, q, h))) ∙ t.done i h m
              here (inr q) = ap (λ (n : ℕ). row_of (get_or new' n blank)) q ∙ e ∙ ap (λ (n : ℕ). f (was n)) (sym q)

              by : (b : Bool) → ltb i (suc v) ≡ b → row_of (get_or new' i blank) ≡ f (was i)
              by true p = here (below-or-last i v (ltb-true i (suc v) p))
              by false p =
                  let h : suc v ≤ i = ltb-false i (suc v) p in
                  let w : get_or new i blank ≡ get_or old i blank = t.rest i (omega (arith, h)) in
                  ap row_of (o i (λ q. omega (arith, q, h)) ∙ w)
                  ∙ stays (was i) (ap (λ (x : R). live_of c.head (row_of x)) (sym w) ∙ sym (rows-is-at row_of blank u new new_room i m (live_of c.head)) ∙ ahead.gap i h l)

          here-was : row_of (get_or new v blank) ≡ was v
          here-was = ap row_of (t.rest v (omega arith))

          module _ {new' : List R} (q : Replaced below row_of blank k c v new new') where
            new_room' : u ≤ length new'
            new_room' = subst (λ (m : ℕ). u ≤ m) (sym q.size) new_room

            rows-size' : length (rows_read row_of u new') ≡ u
            rows-size' = rows-length row_of u new' new_room'

            same : (x m : ℕ) → (m ≡ v → ⊥) → live_at x (rows_read row_of u new') m ≡ live_at x rows m
            same x m n = by (ltb m u) refl
              where
                by : (b : Bool) → ltb m u ≡ b → live_at x (rows_read row_of u new') m ≡ live_at x rows m
                by true e =
                    let h = ltb-true m u e in
                    rows-is-at row_of blank u new' new_room' m h (live_of x) ∙ ap (λ (y : R). live_of x (row_of y)) (q.others m n) ∙ sym (rows-is-at row_of blank u new new_room m h (live_of x))
                by false e =
                    let h = ltb-false m u e in
                    holds-nowhere (live_of x) (rows_read row_of u new') m (λ l. absurd (omega (arith, h, l, rows-size')))
                    ∙ sym (holds-nowhere (live_of x) rows m (λ l. absurd (omega (arith, h, l, rows-size))))

            done_on : (i : ℕ) → i < get_or covers v 0 → i < u → row_of (get_or new' i blank) ≡ f (was i)
            done_on = passed new' q.others (q.row ∙ ap f here-was)

            rest-on : (i : ℕ) → get_or covers v 0 ≤ i → get_or new' i blank ≡ get_or old i blank
            rest-on i l = q.others i (λ e. omega (arith, e, l, ahead.within)) ∙ t.rest i (omega (arith, l, ahead.within))

            pub stayed : larger below c (row_of (get_or new v blank)) ≡ false → Retiring below row_of blank k c u old (get_or covers v 0) v new' covers
            stayed small =
                record {
                  size = q.size ∙ t.size;
                  done = done_on;
                  rest = rest-on;
                  beyond = q.beyond u hv ∙ t.beyond;
                  covering = subst (λ (l : List (Row E)). Covering l covers) (sym all_same) t.covering;
                  from = suc v;
                  is = subst (λ (l : List (Row E)). Cell c.head l v (suc v)) (sym all_same) (inr (live_here, refl));
                  at = refl;
                }
              where
                at_row : (m : ℕ) → m < u → (b : Bool) → eqb m v ≡ b → row_of (get_or new' m blank) ≡ row_of (get_or new m blank)
                at_row m l true e =
                    let z : m ≡ v = eqb-true m v e in
                    ap (λ (n : ℕ). row_of (get_or new' n blank)) z ∙ q.row ∙ retire-no below k c (row_of (get_or new v blank)) small ∙ ap (λ (n : ℕ). row_of (get_or new n blank)) (sym z)
                at_row m l false e = ap row_of (q.others m (eqb-false m v e))

                all_same : rows_read row_of u new' ≡ rows
                all_same =
                    ext_get_or (row_of blank) (rows_read row_of u new') rows (rows-size' ∙ sym rows-size)
                    (λ m l. let h = subst (λ (n : ℕ). m < n) rows-size' l in rows_at row_of blank u new' m h ∙ at_row m h (eqb m v) refl ∙ sym (rows_at row_of blank u new m h))

            module _ (hk : 0 < k) (big : larger below c (row_of (get_or new v blank)) ≡ true) where
              gone : (x : ℕ) → live_at x (rows_read row_of u new') v ≡ false
              gone x = rows-is-at row_of blank u new' new_room' v hv (live_of x) ∙ ap (live_of x) q.row ∙ retire-gone below k c (row_of (get_or new v blank)) hk big x

              -- the cell is not that of row v
              before : Cell c.head rows cell t.from → cell ≡ v → ⊥
              before (inl p) e = omega (arith, p.0, e, hv, limit)
              before (inr p) e = omega (arith, p.1, e, reach-at.within)

              pub retired : Retiring below row_of blank k c u old (get_or covers v 0) cell new' (set covers cell (get_or covers v 0))
              retired =
                  record {
                    size = q.size ∙ t.size;
                    done = done_on;
                    rest = rest-on;
                    beyond = q.beyond u hv ∙ t.beyond;
                    covering = covering-unlinked rows (rows_read row_of u new') rows-limit covers t.covering v same gone c.head cell t.from hh live_here t.is t.at;
                    from = t.from;
                    is = new-cell rows (rows_read row_of u new') rows-limit covers t.covering v same gone c.head cell t.from (before t.is) t.is;
                    at = get_or-set_same covers cell (get_or covers v 0) 0 (subst (λ (n : ℕ). cell < n) (sym t.covering.size) retiring-cell);
                  }

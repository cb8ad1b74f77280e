-- The table of covers stays one: when hints change, when a row retires and is linked no more, and when a row is added. Assumes nothing.
use Rattle.std.specs.Prelude.{◌≡◌, Bool, ◌&&◌, not, ◌⊎◌, eqb, ltb, length, set}
use Rattle.std.proofs.Math.Path.{refl, ap, subst}
use Rattle.std.proofs.Common.{sym, ◌∙◌, inl, inr, arith, length-append}
use Rattle.std.proofs.Math.Bool.{true, false}
use Rattle.std.proofs.lemmas.Bool.{false≢true}
use mathlib.Core.List.{List, [], ◌∷◌, ◌++◌, map}
use Prim.Native.Nat.{ℕ, zero, suc, ◌+◌, ◌≤◌, ◌<◌}
use Rattle.std.proofs.Math.Arith.{lt_of_le-ne}
use Rattle.std.proofs.Math.ListN.{get_or, length-set}
use Rattle.std.proofs.Math.Seq.{get_or-set_same, get_or-set_other}
use borrow.Author.Tests.{ltb-true, ltb-false, eqb-true, eqb-false, eq-eqb, ne_eqb}
use Rattle.spec_basics.specs.Elements.{any}
use Rattle.spec_basics.specs.Tests.{and-fst}
use Rattle.spec_order.specs.Journal.{Row, live, live_of}
use Rattle.search_state.specs.Layout.{row_cells, heads, head_cell, list_cells, end}
use Rattle.search_links.specs.Covers.{live_at, Cell, Reach, Covering, Unlinked, without_effect, is_linked}
use Rattle.search_links.specs.RowLaws.{holds-inside, holds-nowhere, holds-any, any_none, holds-before, is_last}

pub below-or-last : (k i : ℕ) → k < suc i → (k < i) ⊎ (k ≡ i)
below-or-last k i m = split (ltb k i) refl
  where
    split : (b : Bool) → ltb k i ≡ b → (k < i) ⊎ (k ≡ i)
    split true e = inl (ltb-true k i e)
    split false e = inr (omega (arith, m, ltb-false k i e))

module _ {E : Type 0} where
  -- ---- live rows

  pub live_inside : (x : ℕ) (rows : List (Row E)) (i : ℕ) → live_at x rows i ≡ true → i < length rows
  live_inside x rows i h = holds-inside (live_of x) rows i h

  head_of : (x : ℕ) (r : Row E) → live_of x r ≡ true → r.head ≡ x
  unfolding live_of
  head_of x r e = eqb-true r.head x (and-fst (eqb r.head x) (live r) e)

  -- a row is live for one nonterminal
  one-head : (x y : ℕ) (rows : List (Row E)) (i : ℕ) → live_at x rows i ≡ true → live_at y rows i ≡ true → x ≡ y
  one-head x y [] i a b = absurd (false≢true a)
  one-head x y (r ∷ rows) zero a b = sym (head_of x r a) ∙ head_of y r b
  one-head x y (r ∷ rows) (suc i) a b = one-head x y rows i a b

  -- ---- cells

  pub cell-bound : (x : ℕ) (rows : List (Row E)) (cell n : ℕ) → x < heads → length rows ≤ row_cells → Cell x rows cell n → cell < head_cell heads
  cell-bound x rows cell n h l (inl z) = omega (arith, h, z.0)
  cell-bound x rows cell n h l (inr z) = omega (arith, l, live_inside x rows cell z.0)

  module _ (rows : List (Row E)) (covers : List ℕ) (limit : length rows ≤ row_cells) (g : Covering rows covers) where
    -- two cells of x that lead to the same place are one
    pub cells-one : (x a m b n : ℕ) → x < heads → Cell x rows a m → Cell x rows b n → get_or covers a 0 ≡ get_or covers b 0 → a ≡ b
    cells-one x a m b n hx (inl p) (inl q) e = p.0 ∙ sym q.0
    cells-one x a m b n hx (inl p) (inr q) e =
        let r = g.reach x a m hx (inl p) in
        let s = g.reach x b n hx (inr q) in
        absurd (false≢true (sym (r.gap b (omega (arith, p.1)) (omega (arith, s.within, q.1, e))) ∙ q.0))
    cells-one x a m b n hx (inr p) (inl q) e =
        let r = g.reach x b n hx (inl q) in
        let s = g.reach x a m hx (inr p) in
        absurd (false≢true (sym (r.gap a (omega (arith, q.1)) (omega (arith, s.within, p.1, e))) ∙ p.0))
    cells-one x a m b n hx (inr p) (inr q) e = by (ltb a b) refl
      where
        by : (t : Bool) → ltb a b ≡ t → a ≡ b
        by true z =
            let r = g.reach x a m hx (inr p) in
            let s = g.reach x b n hx (inr q) in
            absurd (false≢true (sym (r.gap b (omega (arith, p.1, ltb-true a b z)) (omega (arith, s.within, q.1, e))) ∙ q.0))
        by false z = last (eqb a b) refl
          where
            last : (t : Bool) → eqb a b ≡ t → a ≡ b
            last true o = eqb-true a b o
            last false o =
                let r = g.reach x b n hx (inr q) in
                let s = g.reach x a m hx (inr p) in
                let l : b < a = lt_of_le-ne (ltb-false a b z) (λ y. eqb-false a b o (sym y)) in
                absurd (false≢true (sym (r.gap a (omega (arith, q.1, l)) (omega (arith, s.within, p.1, e))) ∙ p.0))

    -- a cell is of one nonterminal
    pub cell-head : (x y cell m n : ℕ) → x < heads → y < heads → Cell x rows cell m → Cell y rows cell n → x ≡ y
    cell-head x y cell m n hx hy (inl p) (inl q) = omega (arith, p.0, q.0)
    cell-head x y cell m n hx hy (inl p) (inr q) = absurd (omega (arith, p.0, live_inside y rows cell q.0, limit))
    cell-head x y cell m n hx hy (inr p) (inl q) = absurd (omega (arith, live_inside x rows cell p.0, q.0, limit))
    cell-head x y cell m n hx hy (inr p) (inr q) = one-head x y rows cell p.0 q.0

    -- the list of x has a row exactly where x has a live row
    pub linked-live : (x : ℕ) → x < heads → is_linked x covers ≡ any (live_of x) rows
    linked-live x hx = by r.stop
      where
        v : ℕ
        v = get_or covers (head_cell x) 0

        r : Reach x rows 0 v
        r = g.reach x (head_cell x) 0 hx (inl (refl, refl))

        by : (v ≡ end) ⊎ (live_at x rows v ≡ true) → is_linked x covers ≡ any (live_of x) rows
        by (inl e) =
            ap not (eq-eqb v end e)
            ∙ sym (any_none (live_of x) rows (λ i. holds-nowhere (live_of x) rows i (λ l. r.gap i (omega arith) (omega (arith, l, limit, e)))))
        by (inr h) = ap not (ne_eqb v end (λ e. omega (arith, e, live_inside x rows v h, limit))) ∙ sym (holds-any (live_of x) rows v h)

  cell-from : (x : ℕ) (rows : List (Row E)) (cell m n : ℕ) → x < heads → length rows ≤ row_cells → Cell x rows cell m → Cell x rows cell n → m ≡ n
  cell-from x rows cell m n hx l (inl p) (inl q) = p.1 ∙ sym q.1
  cell-from x rows cell m n hx l (inl p) (inr q) = absurd (omega (arith, p.0, live_inside x rows cell q.0, l))
  cell-from x rows cell m n hx l (inr p) (inl q) = absurd (omega (arith, live_inside x rows cell p.0, q.0, l))
  cell-from x rows cell m n hx l (inr p) (inr q) = p.1 ∙ sym q.1

  -- ---- no row, and other hints

  pub covering-none : (covers : List ℕ) → Unlinked covers → Covering {E = E} [] covers
  covering-none covers g = record { size = g.size; reach = by }
    where
      by : (x cell n : ℕ) → x < heads → Cell {E = E} x [] cell n → Reach {E = E} x [] n (get_or covers cell 0)
      by x cell n h (inl z) =
          subst (Reach {E = E} x [] n) (sym (ap (λ (k : ℕ). get_or covers k 0) z.0 ∙ g.firsts x h)) (record { within = omega (arith, z.1); gap = λ i a b. refl; stop = inl refl })
      by x cell n h (inr z) = absurd (false≢true z.0)

  -- another table with the same links
  pub covering-links : (rows : List (Row E)) (old new : List ℕ) → length rows ≤ row_cells → length new ≡ length old → ((i : ℕ) → i < list_cells → get_or new i 0 ≡ get_or old i 0) → Covering rows old → Covering rows new
  covering-links rows old new h n e g =
      record { size = n ∙ g.size; reach = λ x k m l z. subst (Reach x rows m) (sym (e k (cell-bound x rows k m l h z))) (g.reach x k m l z) }

  -- and of the rows without their effects
  live-without : (x : ℕ) (rows : List (Row E)) (i : ℕ) → live_at x (map without_effect rows) i ≡ live_at x rows i
  unfolding live_of live
  live-without x [] i = refl
  live-without x (r ∷ rows) zero = refl
  live-without x (r ∷ rows) (suc i) = live-without x rows i

  pub covering-without : (rows : List (Row E)) (covers : List ℕ) → Covering rows covers → Covering (map without_effect rows) covers
  covering-without rows covers g = record { size = g.size; reach = λ x k n h z. reach x n (get_or covers k 0) (g.reach x k n h (cell x k n z)) }
    where
      cell : (x k n : ℕ) → Cell x (map without_effect rows) k n → Cell x rows k n
      cell x k n (inl z) = inl z
      cell x k n (inr z) = inr (sym (live-without x rows k) ∙ z.0, z.1)

      stop : (x v : ℕ) → (v ≡ end) ⊎ (live_at x rows v ≡ true) → (v ≡ end) ⊎ (live_at x (map without_effect rows) v ≡ true)
      stop x v (inl z) = inl z
      stop x v (inr z) = inr (live-without x rows v ∙ z)

      reach : (x n v : ℕ) → Reach x rows n v → Reach x (map without_effect rows) n v
      reach x n v r = record { within = r.within; gap = λ i a b. live-without x rows i ∙ r.gap i a b; stop = stop x v r.stop }

  -- ---- row i retires, and the cell that led to it leads past it

  module _ (rows rows' : List (Row E)) (limit : length rows ≤ row_cells) (covers : List ℕ) (g : Covering rows covers) (i : ℕ)
      (same : (x m : ℕ) → (m ≡ i → ⊥) → live_at x rows' m ≡ live_at x rows m) (gone : (x : ℕ) → live_at x rows' i ≡ false) where
    -- what was dead is dead
    dead : (x m : ℕ) → live_at x rows m ≡ false → live_at x rows' m ≡ false
    dead x m d = by (eqb m i) refl
      where
        by : (b : Bool) → eqb m i ≡ b → live_at x rows' m ≡ false
        by true e = ap (live_at x rows') (eqb-true m i e) ∙ gone x
        by false e = same x m (eqb-false m i e) ∙ d

    -- what is live is another row
    not-gone : (x m : ℕ) → live_at x rows' m ≡ true → m ≡ i → ⊥
    not-gone x m h e = false≢true (sym (gone x) ∙ ap (live_at x rows') (sym e) ∙ h)

    old-cell : (x cell m : ℕ) → Cell x rows' cell m → Cell x rows cell m
    old-cell x cell m (inl z) = inl z
    old-cell x cell m (inr z) = inr (sym (same x cell (not-gone x cell z.0)) ∙ z.0, z.1)

    pub new-cell : (x cell m : ℕ) → (cell ≡ i → ⊥) → Cell x rows cell m → Cell x rows' cell m
    new-cell x cell m h (inl z) = inl z
    new-cell x cell m h (inr z) = inr (same x cell h ∙ z.0, z.1)

    -- a place that is not row i
    stop-new : (x v : ℕ) → (v ≡ i → ⊥) → (v ≡ end) ⊎ (live_at x rows v ≡ true) → (v ≡ end) ⊎ (live_at x rows' v ≡ true)
    stop-new x v h (inl z) = inl z
    stop-new x v h (inr z) = inr (same x v h ∙ z)

    reach-new : (x m v : ℕ) → (v ≡ i → ⊥) → Reach x rows m v → Reach x rows' m v
    reach-new x m v h r = record { within = r.within; gap = λ k a b. dead x k (r.gap k a b); stop = stop-new x v h r.stop }

    module _ (x cell m : ℕ) (hx : x < heads) (hl : live_at x rows i ≡ true) (z : Cell x rows cell m) (at : get_or covers cell 0 ≡ i) where
      abbrev next : ℕ
      next = get_or covers i 0

      ahead : Reach x rows (suc i) next
      ahead = g.reach x i (suc i) hx (inr (hl, refl))

      past : Reach x rows' m next
      past =
          let r : Reach x rows m i = subst (Reach x rows m) at (g.reach x cell m hx z) in
          record {
            within = omega (arith, r.within, ahead.within);
            gap = λ k a b. by r k a b (ltb k i) refl;
            stop = stop-new x next (λ e. omega (arith, e, ahead.within)) ahead.stop;
          }
        where
          by : Reach x rows m i → (k : ℕ) → m ≤ k → k < next → (b : Bool) → ltb k i ≡ b → live_at x rows' k ≡ false
          by r k a b true e = dead x k (r.gap k a (ltb-true k i e))
          by r k a b false e = later (eqb k i) refl
            where
              later : (t : Bool) → eqb k i ≡ t → live_at x rows' k ≡ false
              later true p = ap (live_at x rows') (eqb-true k i p) ∙ gone x
              later false p = dead x k (ahead.gap k (lt_of_le-ne (ltb-false k i e) (λ y. eqb-false k i p (sym y))) b)

      pub covering-unlinked : Covering rows' (set covers cell next)
      covering-unlinked =
          record {
            size = length-set covers cell next ∙ g.size;
            reach = λ y k o hy w. by y k o hy (old-cell y k o w) (eqb k cell) refl;
          }
        where
          by : (y k o : ℕ) → y < heads → Cell y rows k o → (b : Bool) → eqb k cell ≡ b → Reach y rows' o (get_or (set covers cell next) k 0)
          by y k o hy w true e =
              let q : k ≡ cell = eqb-true k cell e in
              let w' : Cell y rows cell o = subst (λ (a : ℕ). Cell y rows a o) q w in
              let p : x ≡ y = cell-head rows covers limit g x y cell m o hx hy z w' in
              let s : m ≡ o = cell-from x rows cell m o hx limit z (subst (λ (a : ℕ). Cell a rows cell o) (sym p) w') in
              subst (Reach y rows' o) (sym (ap (λ (a : ℕ). get_or (set covers cell next) a 0) q ∙ get_or-set_same covers cell next 0 (omega (arith, g.size, cell-bound x rows cell m hx limit z))))
              (subst (λ (a : ℕ). Reach a rows' o next) p (subst (λ (a : ℕ). Reach x rows' a next) s past))
          by y k o hy w false e =
              let v : ℕ = get_or covers k 0 in
              let r = g.reach y k o hy w in
              subst (Reach y rows' o) (sym (get_or-set_other covers cell k next 0 (eqb-false k cell e))) (reach-new y o v (λ q. eqb-false k cell e (alone y k o hy w r q)) r)
            where
              -- no other cell leads to row i
              alone : (y k o : ℕ) → y < heads → Cell y rows k o → Reach y rows o (get_or covers k 0) → get_or covers k 0 ≡ i → k ≡ cell
              alone y k o hy w r q =
                  let p : x ≡ y = one-head x y rows i hl (subst (λ (a : ℕ). live_at y rows a ≡ true) q (live-there r.stop)) in
                  cells-one rows covers limit g x k o cell m hx (subst (λ (a : ℕ). Cell a rows k o) (sym p) w) z (q ∙ sym at)
                where
                  live-there : (get_or covers k 0 ≡ end) ⊎ (live_at y rows (get_or covers k 0) ≡ true) → live_at y rows (get_or covers k 0) ≡ true
                  live-there (inl t) = absurd (omega (arith, t, q, live_inside x rows i hl, limit))
                  live-there (inr t) = t

  -- ---- a live row more, to which the last cell of its nonterminal leads

  module _ (rows : List (Row E)) (r : Row E) (covers : List ℕ) (g : Covering rows covers) (hr : length rows < row_cells) (hh : r.head < heads) (hl : live r ≡ true) (last m : ℕ) (z : Cell r.head rows last m) (at : get_or covers last 0 ≡ end) where
    abbrev i : ℕ
    i = length rows

    abbrev x₀ : ℕ
    x₀ = r.head

    abbrev more : List (Row E)
    more = rows ++ (r ∷ [])

    abbrev linked : List ℕ
    linked = set (set covers i end) last i

    more-length : length more ≡ suc i
    more-length = length-append rows (r ∷ []) ∙ (let e : i + 1 ≡ suc i = omega arith in e)

    old-at : (x k : ℕ) → k < i → live_at x more k ≡ live_at x rows k
    old-at x k h = holds-before (live_of x) rows r k h

    new-at : (x : ℕ) → live_at x more i ≡ live_of x r
    new-at x = is_last rows r (live_of x)

    new-live : live_at x₀ more i ≡ true
    unfolding live_of
    new-live = new-at x₀ ∙ ap (λ (b : Bool). b && live r) (eq-eqb x₀ x₀ refl) ∙ hl

    last-old : last ≡ i → ⊥
    last-old e = by z
      where
        by : Cell x₀ rows last m → ⊥
        by (inl p) = omega (arith, e, p.0, hr)
        by (inr p) = omega (arith, e, live_inside x₀ rows last p.0)

    -- a reach over the old rows, where it does not run over the new one
    reach-more : (x n v : ℕ) → (v ≡ end → live_at x more i ≡ false) → Reach x rows n v → Reach x more n v
    reach-more x n v f s =
        record {
          within = s.within;
          gap = λ k a b. holds-nowhere (live_of x) more k (λ l. by k a b (below-or-last k i (subst (λ (w : ℕ). k < w) more-length l)));
          stop = on s.stop;
        }
      where
        on : (v ≡ end) ⊎ (live_at x rows v ≡ true) → (v ≡ end) ⊎ (live_at x more v ≡ true)
        on (inl p) = inl p
        on (inr p) = inr (old-at x v (live_inside x rows v p) ∙ p)

        ends : (v ≡ end) ⊎ (live_at x rows v ≡ true) → i < v → v ≡ end
        ends (inl p) l = p
        ends (inr p) l = absurd (omega (arith, live_inside x rows v p, l))

        by : (k : ℕ) → n ≤ k → k < v → (k < i) ⊎ (k ≡ i) → live_at x more k ≡ false
        by k a b (inl h) = old-at x k h ∙ s.gap k a b
        by k a b (inr e) = ap (live_at x more) e ∙ f (ends s.stop (omega (arith, b, e)))

    -- up to the new row
    reach-last : (n : ℕ) → n ≤ i → Reach x₀ rows n end → Reach x₀ more n i
    reach-last n h s = record { within = h; gap = λ k a b. old-at x₀ k b ∙ s.gap k a (omega (arith, b, hr)); stop = inr new-live }

    from-below : (x k n : ℕ) → Cell x rows k n → n ≤ i
    from-below x k n (inl p) = omega (arith, p.1)
    from-below x k n (inr p) = omega (arith, live_inside x rows k p.0, p.1)

    old-cell-at : (x k n : ℕ) → x < heads → Cell x rows k n → (b : Bool) → eqb k last ≡ b → Reach x more n (get_or linked k 0)
    unfolding live_of
    old-cell-at x k n hx w true e =
        let q : k ≡ last = eqb-true k last e in
        let w' : Cell x rows last n = subst (λ (a : ℕ). Cell x rows a n) q w in
        let p : x₀ ≡ x = cell-head rows covers (omega (arith, hr)) g x₀ x last m n hh hx z w' in
        let s : Reach x₀ rows n end = subst (Reach x₀ rows n) at (g.reach x₀ last n hh (subst (λ (a : ℕ). Cell a rows last n) (sym p) w')) in
        subst (Reach x more n) (sym (ap (λ (a : ℕ). get_or linked a 0) q ∙ get_or-set_same (set covers i end) last i 0 (omega (arith, length-set covers i end, g.size, cell-bound x₀ rows last m hh (omega (arith, hr)) z))))
        (subst (λ (a : ℕ). Reach a more n i) p (reach-last n (from-below x k n w) s))
    old-cell-at x k n hx w false e =
        let ne : k ≡ i → ⊥ = apart w in
        subst (Reach x more n) (sym (get_or-set_other (set covers i end) last k i 0 (eqb-false k last e) ∙ get_or-set_other covers i k end 0 ne))
        (reach-more x n (get_or covers k 0) (λ q. other q (eqb x₀ x) refl) (g.reach x k n hx w))
      where
        apart : Cell x rows k n → k ≡ i → ⊥
        apart (inl p) q = omega (arith, p.0, q, hr)
        apart (inr p) q = omega (arith, live_inside x rows k p.0, q)

        other : get_or covers k 0 ≡ end → (b : Bool) → eqb x₀ x ≡ b → live_at x more i ≡ false
        other q true o =
            let p : x₀ ≡ x = eqb-true x₀ x o in
            absurd (eqb-false k last e (cells-one rows covers (omega (arith, hr)) g x₀ k n last m hh (subst (λ (a : ℕ). Cell a rows k n) (sym p) w) z (q ∙ sym at)))
        other q false o = new-at x ∙ ap (λ (b : Bool). b && live r) o

    pub covering-more : Covering more linked
    covering-more =
        record {
          size = length-set (set covers i end) last i ∙ length-set covers i end ∙ g.size;
          reach = λ x k n hx w. by x k n hx w;
        }
      where
        new_row : (x k n : ℕ) → n ≡ suc k → k ≡ i → Reach x more n (get_or linked k 0)
        new_row x k n p q =
            subst (Reach x more n) (sym (ap (λ (a : ℕ). get_or linked a 0) q ∙ get_or-set_other (set covers i end) last i i 0 (λ e. last-old (sym e)) ∙ get_or-set_same covers i end 0 (omega (arith, hr, g.size))))
            (record { within = omega (arith, p, q, hr); gap = λ j a b. holds-nowhere (live_of x) more j (λ l. absurd (omega (arith, a, l, p, q, more-length))); stop = inl refl })

        row : (x k n : ℕ) → x < heads → live_at x more k ≡ true → n ≡ suc k → (k < i) ⊎ (k ≡ i) → Reach x more n (get_or linked k 0)
        row x k n hx h p (inl l) = old-cell-at x k n hx (inr (sym (old-at x k l) ∙ h, p)) (eqb k last) refl
        row x k n hx h p (inr q) = new_row x k n p q

        by : (x k n : ℕ) → x < heads → Cell x more k n → Reach x more n (get_or linked k 0)
        by x k n hx (inl p) = old-cell-at x k n hx (inl p) (eqb k last) refl
        by x k n hx (inr p) = row x k n hx p.0 p.1 (below-or-last k i (subst (λ (w : ℕ). k < w) more-length (live_inside x more k p.0)))

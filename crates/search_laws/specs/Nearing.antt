-- The words keep each row, and the live rows of their nonterminal, when a candidate becomes a row. Assumes nothing.
use Rattle.std.specs.Prelude.{◌≡◌, Bool, ◌&&◌, ◌||◌, not, cond, ◌⊎◌, eqb, get_or, set}
use Rattle.std.proofs.Math.Path.{refl, sym, ap, subst}
use Rattle.std.proofs.Common.{ap₂, ◌∙◌, true≢false, inl, inr, arith, length-set, get_or-set_same}
use Rattle.std.proofs.Math.Bool.{true, false}
use Rattle.std.proofs.lemmas.Bool.{false≢true}
use mathlib.Core.List.{List, [], ◌∷◌, map}
use Prim.Native.Nat.{ℕ, suc, ◌+◌, ◌*◌, ◌≤◌, ◌<◌, ◌^◌}
use Rattle.std.proofs.Math.Dec.{ltb}
use Rattle.std.proofs.Math.ListN.{length, length-map, length-append, get_or-append}
use Rattle.std.proofs.Math.Seq.{get_or_at}
use borrow.Author.Tests.{eqb-true, eq-eqb, ne_eqb, ltb-true, ltb-false}
use Rattle.spec_basics.specs.Lists.{get_d_map}
use Rattle.spec_basics.specs.Tests.{and_intro, and-snd, or_right}
use Rattle.relation.specs.Relation.{states, contained}
use Rattle.spec_order.specs.Candidates.{Candidate}
use Rattle.spec_order.specs.Journal.{Row, live, live_of}
use Rattle.spec_order.specs.Order.{dropped, larger, born, retire, added}
use Rattle.search_state.specs.Layout.{row_cells, heads}
use Rattle.search_links.specs.Covers.{live_at}
use Rattle.search_links.specs.CoverLaws.{live_inside}
use Rattle.search_links.specs.RowLaws.{rows-length, is_at, holds-any}
use Rattle.search_links.specs.Rows.{rows_read}
use Rattle.search_cover.specs.Near.{near_words, count_of, is_near, row_effect_at, row_head_at, effect_at, as_candidate, Numbers, Among, NearTo, RowsIn, Beside}
use Rattle.search_cover.specs.NearLaws.{rows_same, above-among, above-numbers, numbers-wider, numbers_more, among-old, among-new, last-length, last-head, last-count, last-link, last-above, last-rows, row_other, row_before, row_here, row-numbers, row-among}
use Rattle.search_cover.specs.Seeking.{Finds}
use Rattle.search_cover.specs.Steps.{with_number, with_row, with_last, Drops, Stays}
use Rattle.search_cover.specs.declared.CoverAnswer.{CoverAnswer}
use Rattle.search_retire.specs.Clearing.{Inserted, ClearingEnd, Fresh, Added}

-- ---- the rows themselves

-- the rows after the candidate became one: effects and nonterminals are as they were, and what was covered is covered
module _ (k : ℕ) (c : Candidate ℕ) (rows : List (Row ℕ)) (u : ℕ) (w : List ℕ) (size : length rows ≡ u) (long : length w ≡ near_words) (g : RowsIn rows w) (room : u < row_cells) (fits : c.effect < 2 ^ (states * states)) where
  abbrev then : List (Row ℕ)
  then = added contained k c rows

  length-then : length then ≡ u + 1
  unfolding added
  length-then = length-append (map (retire contained k c) rows) (born k c ∷ []) ∙ ap (λ (n : ℕ). n + 1) (length-map rows (retire contained k c) ∙ size)

  -- row i, an old one or the new one
  old_row : (d : Row ℕ) (i : ℕ) → i < u → get_or then i d ≡ retire contained k c (get_or rows i d)
  unfolding added
  old_row d i h =
      get_or-append (map (retire contained k c) rows) (born k c ∷ []) d i (omega (arith, length-map rows (retire contained k c), size, h)) ∙ get_d_map (retire contained k c) d d rows i (omega (arith, size, h))

  new_row : (d : Row ℕ) → get_or then u d ≡ born k c
  unfolding added
  new_row d = get_or_at (map (retire contained k c) rows) (born k c) [] d u (length-map rows (retire contained k c) ∙ size)

  pub rows_then : ((e : Candidate ℕ) → dropped contained e rows ≡ true → dropped contained e then ≡ true) → ((e : Candidate ℕ) → e.head ≡ c.head → e.effect ≡ c.effect → dropped contained e then ≡ true) → RowsIn then (with_row w u c.head c.effect)
  unfolding retire born
  rows_then keeps self =
      record {
        effects = λ d i l. by i l (λ (j : ℕ). row_effect_at (with_row w u c.head c.effect) j ≡ (get_or then j d).effect)
            (λ h. (row_before w u c.head c.effect long room i h).0 ∙ g.effects d i (omega (arith, size, h)) ∙ sym (ap (λ (r : Row ℕ). r.effect) (old_row d i h)))
            ((row_here w u c.head c.effect long room fits).0 ∙ sym (ap (λ (r : Row ℕ). r.effect) (new_row d)));
        heads-of = λ d i l. by i l (λ (j : ℕ). row_head_at (with_row w u c.head c.effect) j ≡ (get_or then j d).head)
            (λ h. (row_before w u c.head c.effect long room i h).1 ∙ g.heads-of d i (omega (arith, size, h)) ∙ sym (ap (λ (r : Row ℕ). r.head) (old_row d i h)))
            ((row_here w u c.head c.effect long room fits).1 ∙ sym (ap (λ (r : Row ℕ). r.head) (new_row d)));
        under = λ d i l. by i l (λ (j : ℕ). dropped contained (as_candidate (get_or then j d)) then ≡ true)
            (λ h. subst (λ (r : Row ℕ). dropped contained (as_candidate r) then ≡ true) (sym (old_row d i h)) (keeps (as_candidate (get_or rows i d)) (g.under d i (omega (arith, size, h)))))
            (subst (λ (r : Row ℕ). dropped contained (as_candidate r) then ≡ true) (sym (new_row d)) (self (as_candidate (born k c)) refl refl));
      }
    where
      by : (i : ℕ) → i < length then → (P : ℕ → Type 0) → (i < u → P i) → P u → P i
      by i l P a b = split (ltb i u) refl
        where
          split : (t : Bool) → ltb i u ≡ t → P i
          split true e = a (ltb-true i u e)
          split false e = let q : u ≡ i = omega (arith, ltb-false i u e, l, length-then) in subst P q b

  -- the new row is live
  new-live : live_at c.head then u ≡ true
  unfolding born live_of live
  new-live =
      is_at (born k c) then u (omega (arith, length-then)) (live_of c.head) ∙ ap (live_of c.head) (new_row (born k c)) ∙ ap (λ (b : Bool). b && true) (eq-eqb c.head c.head refl)

-- a row that is live after it could retire in pass k was live, and is not larger
not-larger : (k : ℕ) → 0 < k → (c : Candidate ℕ) (r : Row ℕ) → live_of c.head (retire contained k c r) ≡ true → (live_of c.head r ≡ true) × (larger contained c r ≡ false)
unfolding retire live_of live
not-larger k h c r e = by (larger contained c r) refl e
  where
    by : (b : Bool) → larger contained c r ≡ b → (eqb r.head c.head && eqb (cond b k r.retired) 0) ≡ true → ((eqb r.head c.head && eqb r.retired 0) ≡ true) × (larger contained c r ≡ false)
    by true q z = absurd (omega (arith, eqb-true k 0 (and-snd (eqb r.head c.head) (eqb k 0) z), h))
    by false q z = (z, q)

-- of a live row that neither covers the candidate nor is larger, the effect does not contain the candidate's
no_cover : (c : Candidate ℕ) (rows : List (Row ℕ)) → dropped contained c rows ≡ false → (d : Row ℕ) (v : ℕ) → v < length rows → live_of c.head (get_or rows v d) ≡ true → larger contained c (get_or rows v d) ≡ false → contained c.effect (get_or rows v d).effect ≡ false
unfolding dropped larger
no_cover c rows none d v l alive q = by (contained c.effect r.effect) refl
  where
    r : Row ℕ
    r = get_or rows v d

    below : contained r.effect c.effect ≡ false
    below = off (contained r.effect c.effect) refl
      where
        off : (b : Bool) → contained r.effect c.effect ≡ b → b ≡ false
        off true z = absurd (false≢true (sym none ∙ holds-any (λ r. live_of c.head r && contained r.effect c.effect) rows v (is_at d rows v l (λ r. live_of c.head r && contained r.effect c.effect) ∙ and_intro _ _ alive z)))
        off false z = refl

    by : (b : Bool) → contained c.effect r.effect ≡ b → b ≡ false
    by true z = absurd (false≢true (sym q ∙ and_intro (live_of c.head r) (contained c.effect r.effect && not (contained r.effect c.effect)) alive (and_intro (contained c.effect r.effect) (not (contained r.effect c.effect)) z (ap not below))))
    by false z = refl

-- ---- the live rows of one nonterminal

-- the candidate c became row u, and no row covered it; w had the live rows of its nonterminal, and in w₁ all are left but those whose effect
-- contains the candidate's
module _ (k : ℕ) (c : Candidate ℕ) (rows : List (Row ℕ)) (u : ℕ) (w w₁ : List ℕ) (size : length rows ≡ u) (g : Beside rows w) (hh : c.head < heads) (near : is_near w c.head ≡ true) (room : u < row_cells) (fits : c.effect < 2 ^ (states * states)) (some : 0 < k) (none : dropped contained c rows ≡ false)
    (d : Drops c.effect (with_row w u c.head c.effect) w₁) (then-in : RowsIn (added contained k c rows) (with_row w u c.head c.effect)) where
  abbrev x : ℕ
  x = c.head

  abbrev w₀ : List ℕ
  w₀ = with_row w u x c.effect

  abbrev then' : List (Row ℕ)
  then' = added contained k c rows

  here : NearTo x rows w
  here = g.near x hh near

  few : count_of w ≤ u
  few = omega (arith, here.few, size)

  count₀ : count_of w₀ ≡ count_of w
  count₀ = row_other w u x c.effect g.size room 1 (omega arith)

  -- the numbers in w₁
  numbers₁ : Numbers x u (count_of w₁) w₁
  numbers₁ =
      d.keys x u (subst (λ (n : ℕ). Numbers x u n w₀) (sym count₀) (row-numbers w u x c.effect g.size room (omega (arith, few, room)) (subst (λ (m : ℕ). Numbers x m (count_of w) w) size here.numbers)))

  few₁ : count_of w₁ < row_cells
  few₁ = omega (arith, d.keeps.few, count₀, few, room)

  long-then : length then' ≡ u + 1
  long-then = length-then k c rows u w size g.size g.rows_in room fits

  -- a row that is live then was live, unless it is the new one, and is none of the larger ones
  was-live : (v : ℕ) → v < u → live_at x then' v ≡ true → (live_at x rows v ≡ true) × (contained c.effect (row_effect_at w v) ≡ false)
  was-live v l e = by rows (omega (arith, l, size))
    where
      with-row : Row ℕ → (live_at x rows v ≡ true) × (contained c.effect (row_effect_at w v) ≡ false)
      with-row q =
          let inside : v < length rows = omega (arith, l, size) in
          let r = get_or rows v q in
          let alive : live_of x (retire contained k c r) ≡ true =
          ap (live_of x) (sym (old_row k c rows u w size g.size g.rows_in room fits q v l)) ∙ sym (is_at q then' v (omega (arith, l, long-then)) (live_of x)) ∙ e in
          let stays = not-larger k some c r alive in
          (is_at q rows v inside (live_of x) ∙ stays.0, ap (contained c.effect) (g.rows_in.effects q v inside) ∙ no_cover c rows none q v inside stays.0 stays.1)

      by : (xs : List (Row ℕ)) → v < length xs → (live_at x rows v ≡ true) × (contained c.effect (row_effect_at w v) ≡ false)
      by [] h = absurd (omega (arith, h))
      by (q ∷ xs) h = with-row q

  -- so it stands in w₁
  kept : (v : ℕ) → v < u → live_at x then' v ≡ true → Among w₁ (count_of w₁) v
  kept v l e =
      let z = was-live v l e in
      let a = row-among w u x c.effect g.size room (omega (arith, few, room)) (here.all v z.0) in
      let low : contained c.effect (effect_at w₀ a.place) ≡ false =
      ap (contained c.effect) (ap (row_effect_at w₀) a.is ∙ (row_before w u x c.effect g.size room v l).0) ∙ z.1 in
      subst (Among w₁ (count_of w₁)) a.is (d.keeps.kept a.place (omega (arith, a.inside, count₀)) low)

  pub last-beside : Beside then' (with_last w₁ u)
  last-beside =
      record {
        size = last-length w₁ u d.size few₁;
        rows_in = rows_same (last-rows w₁ u d.size few₁) (rows_same d.same then-in);
        near = λ y hy o. subst (λ (z : ℕ). NearTo z then' (with_last w₁ u)) (same y o) last-near;
      }
    where
      same : (y : ℕ) → is_near (with_last w₁ u) y ≡ true → x ≡ y
      same y o = omega (arith, eqb-true _ (y + 1) o, eqb-true _ (x + 1) near, last-head w₁ u d.size few₁, d.head, row_other w u x c.effect g.size room 0 (omega arith))

      head-u : row_head_at w₁ u ≡ x
      head-u = d.same.heads-of u ∙ (row_here w u x c.effect g.size room fits).1

      count : count_of (with_last w₁ u) ≡ count_of w₁ + 1
      count = last-count w₁ u d.size few₁

      at : (v : ℕ) → live_at x then' v ≡ true → (b : Bool) → ltb v u ≡ b → Among (with_number w₁ (count_of w₁) u) (count_of w₁ + 1) v
      at v e true q = among-old w₁ (count_of w₁) u d.size few₁ (kept v (ltb-true v u q) e)
      at v e false q =
          let z : u ≡ v = omega (arith, ltb-false v u q, live_inside x then' v e, long-then) in subst (Among (with_number w₁ (count_of w₁) u) (count_of w₁ + 1)) z (among-new w₁ (count_of w₁) u d.size few₁)

      dead : (i : ℕ) → suc u ≤ i → (b : Bool) → live_at x then' i ≡ b → b ≡ false
      dead i a true e = absurd (omega (arith, live_inside x then' i e, long-then, a))
      dead i a false e = refl

      last-near : NearTo x then' (with_last w₁ u)
      last-near =
          record {
            numbers =
                subst (λ (n : ℕ). Numbers x (length then') n (with_last w₁ u)) (sym count)
                (above-numbers (last-above w₁ u d.size few₁) (numbers_more w₁ (count_of w₁) u d.size few₁ (omega (arith, long-then)) head-u (numbers-wider (omega (arith, long-then)) numbers₁)));
            few = omega (arith, count, long-then, d.keeps.few, count₀, few);
            all = λ v e. subst (λ (n : ℕ). Among (with_last w₁ u) n v) (sym count) (above-among (last-above w₁ u d.size few₁) (at v e (ltb v u) refl));
            from = suc u;
            is = inr (subst (λ (i : ℕ). live_at x then' i ≡ true) (sym (last-link w₁ u d.size few₁)) (new-live k c rows u w size g.size g.rows_in room fits), ap suc (sym (last-link w₁ u d.size few₁)));
            none = λ i a. dead i a (live_at x then' i) refl;
          }

-- ---- at the beginning

-- there are no rows, and the words were forgotten, whatever they were
pub near_first : (w : List ℕ) → length w ≡ near_words → Beside [] (set w 0 0)
near_first w size =
    record {
      size = length-set w 0 0 ∙ size;
      rows_in = record { effects = λ d i l. absurd (omega (arith, l)); heads-of = λ d i l. absurd (omega (arith, l)); under = λ d i l. absurd (omega (arith, l)) };
      near = λ y hy q. absurd (omega (arith, eqb-true _ (y + 1) q, get_or-set_same w 0 0 0 (omega (arith, size))));
    }

-- ---- after the candidate was inserted, or not, of u rows in the journal j₀, where it was looked for in w

module _ {R : Type 0} {row_of : R → Row ℕ} {blank : R} {k : ℕ} {c : Candidate ℕ} {u : ℕ} {l : CoverAnswer} {j₀ : List R} {t₀ : List ℕ} {j : List R} {t w : List ℕ} (i : Inserted contained row_of blank k c u l j₀ t₀ j t) (f : Finds contained c (rows_read row_of u j₀) u t₀ l)
    (g : Beside (rows_read row_of u j₀) w) (hh : c.head < heads) (near : l.covers ≡ false → is_near w c.head ≡ true) (room : u ≤ length j₀) (fits : c.effect < 2 ^ (states * states)) (some : 0 < k)
    (keeps : (e : Candidate ℕ) → dropped contained e (rows_read row_of u j₀) ≡ true → dropped contained e (added contained k c (rows_read row_of u j₀)) ≡ true)
    (self : (e : Candidate ℕ) → e.head ≡ c.head → e.effect ≡ c.effect → dropped contained e (added contained k c (rows_read row_of u j₀)) ≡ true) where
  -- the rows used then
  abbrev pub used_then : Bool → ℕ
  used_then dropped = cond dropped u (u + 1)

  pub beside-after : (dropped : Bool) → (l.covers || eqb u (length j₀)) ≡ dropped → {w' : List ℕ} → Stays w u c.head c.effect dropped w' → Beside (rows_read row_of (used_then dropped) j) w'
  beside-after dropped e {w'} s = by i.outcome dropped e s
    where
      idle : (l.covers ≡ true) ⊎ (u ≡ length j₀) → (l.covers || eqb u (length j₀)) ≡ true
      idle (inl z) = ap (λ (b : Bool). b || eqb u (length j₀)) z
      idle (inr z) = or_right l.covers (eqb u (length j₀)) (eq-eqb u (length j₀) z)

      fresh : Fresh contained row_of blank k c u l j₀ → (l.covers || eqb u (length j₀)) ≡ false
      fresh z = ap₂ (λ (a b : Bool). a || b) z.none (ne_eqb u (length j₀) (λ y. omega (arith, y, z.room)))

      new : Fresh contained row_of blank k c u l j₀ → Added contained row_of blank k c u l j₀ j t → Stays w u c.head c.effect false w' → Beside (rows_read row_of (u + 1) j) w'
      new z a s =
          let n = s.new refl in
          let rows = rows_read row_of u j₀ in
          let size = rows-length row_of u j₀ room in
          let inside : u < row_cells = omega (arith, z.room, z.limit) in
          subst (λ (v : List ℕ). Beside (rows_read row_of (u + 1) j) v) (sym n.2)
          (subst (λ (r : List (Row ℕ)). Beside r (with_last n.0 u)) (sym a.stored.front)
          (last-beside k c rows u w n.0 size g hh (near z.none) inside fits some (sym f.found ∙ z.none) n.1 (rows_then k c rows u w size g.size g.rows_in inside fits keeps self)))

      by : ClearingEnd contained row_of blank k c u l j₀ t₀ j t → (b : Bool) → (l.covers || eqb u (length j₀)) ≡ b → Stays w u c.head c.effect b w' → Beside (rows_read row_of (used_then b) j) w'
      by (inl z) true q s = subst (λ (v : List ℕ). Beside (rows_read row_of u j) v) (sym (s.idle refl)) (subst (λ (j : List R). Beside (rows_read row_of u j) w) (sym z.1) g)
      by (inl z) false q s = absurd (false≢true (sym q ∙ idle z.0))
      by (inr z) true q s = absurd (true≢false (sym q ∙ fresh z.0))
      by (inr z) false q s = new z.0 z.1 s

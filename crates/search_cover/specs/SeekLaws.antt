-- Laws of looking for a cover: what is known along the links, and what is found among the numbers. Assumes nothing.
use Rattle.std.specs.Prelude.{◌≡◌, Bool, ◌&&◌, List, [], ◌∷◌, ◌⊎◌, ℕ, suc, ◌+◌, ◌≤◌, ◌<◌, eqb, ltb, length, get_or}
use Rattle.std.proofs.Math.Path.{refl, sym}
use Rattle.std.proofs.Common.{ap, ◌∙◌, subst, true≢false, inl, inr, zero-lt-suc, arith, ltb-true, ltb-false, eqb-true, eq-eqb}
use Rattle.std.proofs.Math.Bool.{true, false, not}
use Rattle.std.proofs.lemmas.Bool.{false≢true}
use Rattle.spec_basics.specs.Elements.{any}
use Rattle.spec_basics.specs.Lists.{any_of, any_at}
use Rattle.spec_basics.specs.Tests.{and_intro, and-fst, and-snd}
use Rattle.relation.specs.DigitLaws.{subset-trans}
use Rattle.relation.specs.Relation.{contained}
use Rattle.spec_order.specs.Candidates.{Candidate}
use Rattle.spec_order.specs.Journal.{Row, live_of}
use Rattle.spec_order.specs.Order.{dropped, larger}
use Rattle.search_state.specs.Layout.{row_cells, heads, head_cell, lists_from, end}
use Rattle.search_links.specs.Covers.{live_at, Cell, Reach}
use Rattle.search_links.specs.CoverLaws.{live_inside}
use Rattle.search_links.specs.RowLaws.{is_at, any_none, holds-inside}
use Rattle.search_links.specs.Rows.{holds_at}
use Rattle.search_cover.specs.Near.{near_words, count_of, link_of, is_near, row_effect_at, row_head_at, number_at, effect_at, as_candidate, RowsIn, Numbers, Among, NearTo, Beside}
use Rattle.search_cover.specs.NearLaws.{above_rows, above-among, above-numbers, rows_same, numbers-none, with_rows, numbers_more, among-old, among-new, noted-length, noted-head, noted-count, noted-link, noted-above}
use Rattle.search_cover.specs.Seeking.{Leads, Finds, Copies, FoundIn}
use Rattle.search_cover.specs.Steps.{with_number, noted, Ready, FirstBelow, NoneAbove, LooksThrough}
use Rattle.search_cover.specs.declared.CoverAnswer.{CoverAnswer}

-- the slot is a cell of the hints
abbrev Slot : ℕ → Type 0
Slot slot = (head_cell heads ≤ slot) × (slot < lists_from)

-- ---- rows

-- a live row of x is a row of x
live-head : (x : ℕ) (rows : List (Row ℕ)) (d : Row ℕ) (v : ℕ) → live_at x rows v ≡ true → (get_or rows v d).head ≡ x
unfolding live_of
live-head x rows d v e =
    eqb-true (get_or rows v d).head x (and-fst _ _ (sym (is_at d rows v (live_inside x rows v e) (live_of x)) ∙ e))

-- a row of the candidate's nonterminal with a smaller effect, live or retired, tells that a live one covers the candidate
pub below-dropped : {rows : List (Row ℕ)} {w : List ℕ} → RowsIn rows w → (c : Candidate ℕ) (v : ℕ) → v < length rows → row_head_at w v ≡ c.head → contained (row_effect_at w v) c.effect ≡ true → dropped contained c rows ≡ true
unfolding dropped
below-dropped {rows} {w} g c v l h e = by rows l
  where
    covers : Candidate ℕ → Row ℕ → Bool
    covers a r = live_of a.head r && contained r.effect a.effect

    with-row : (d : Row ℕ) → any (covers c) rows ≡ true
    with-row d =
        let r = get_or rows v d in
        let z = any_of (covers (as_candidate r)) rows (g.under d v l) in
        let head : r.head ≡ c.head = sym (g.heads-of d v l) ∙ h in
        let alive = subst (λ (x : ℕ). live_of x z.0 ≡ true) head (and-fst (live_of r.head z.0) (contained z.0.effect r.effect) z.2) in
        let below = and-snd (live_of r.head z.0) (contained z.0.effect r.effect) z.2 in
        any_at (covers c) z.0 rows z.1 (and_intro _ _ alive (subset-trans z.0.effect r.effect c.effect below (subst (λ (y : ℕ). contained y c.effect ≡ true) (g.effects d v l) e)))

    -- there is a row
    by : (xs : List (Row ℕ)) → v < length xs → any (covers c) rows ≡ true
    by [] k = absurd (omega (arith, k))
    by (r ∷ xs) k = with-row r

-- and is a row
some-row : (c : Candidate ℕ) (rows : List (Row ℕ)) → dropped contained c rows ≡ true → 0 < length rows
unfolding dropped
some-row c [] e = absurd (false≢true e)
some-row c (r ∷ rows) e = zero-lt-suc (length rows)

-- what holds of no live row of x holds of no row, if it asks for one
none_of : (x : ℕ) (f : Row ℕ → Bool) → ((r : Row ℕ) → f r ≡ true → live_of x r ≡ true) → (rows : List (Row ℕ)) → ((d : Row ℕ) (v : ℕ) → live_at x rows v ≡ true → f (get_or rows v d) ≡ false) → any f rows ≡ false
none_of x f live rows h = any_none f rows (λ i. by i (holds_at f rows i) refl)
  where
    at : (d : Row ℕ) (i : ℕ) → holds_at f rows i ≡ true → ⊥
    at d i e =
        let l = holds-inside f rows i e in
        let q : f (get_or rows i d) ≡ true = sym (is_at d rows i l f) ∙ e in
        false≢true (sym (h d i (is_at d rows i l (live_of x) ∙ live (get_or rows i d) q)) ∙ q)

    some : (i : ℕ) → holds_at f rows i ≡ true → (ys : List (Row ℕ)) → i < length ys → ⊥
    some i e [] l = omega (arith, l)
    some i e (r ∷ ys) l = at r i e

    by : (i : ℕ) (b : Bool) → holds_at f rows i ≡ b → b ≡ false
    by i false e = refl
    by i true e = absurd (some i e rows (holds-inside f rows i e))

-- ---- where the table leads along the rows

module _ {rows : List (Row ℕ)} {u : ℕ} {t : List ℕ} (d : Leads rows u t) (x : ℕ) (hx : x < heads) where
  -- along the links: at the first one
  pub copy-first : {w : List ℕ} → RowsIn rows w → Copies x rows t (get_or t (head_cell x) 0) (head_cell x) 0 w
  copy-first {w} g =
      let r = d.covering.reach x (head_cell x) 0 hx (inl (refl, refl)) in
      record {
        rows_in = g;
        numbers = numbers-none x (length rows) w;
        few = omega arith;
        all = λ v l e. absurd (false≢true (sym (r.gap v (omega arith) l) ∙ e));
        from = 0;
        is = inl (refl, refl);
        at = refl;
      }

  module _ {v cell n : ℕ} {w : List ℕ} (z : Copies x rows t v cell n w) where
    reach : Reach x rows z.from v
    reach = subst (Reach x rows z.from) z.at (d.covering.reach x cell z.from hx z.is)

    -- at a row, which is live
    module _ (hv : v < u) where
      pub copy_live : live_at x rows v ≡ true
      copy_live = by reach.stop
        where
          by : (v ≡ end) ⊎ (live_at x rows v ≡ true) → live_at x rows v ≡ true
          by (inl q) = absurd (omega (arith, q, hv, d.limit))
          by (inr q) = q

      -- the next link leads on
      pub copy-rises : v < get_or t v 0
      copy-rises = (d.covering.reach x v (suc v) hx (inr (copy_live, refl))).within

      -- it is a row of x
      head-there : row_head_at w v ≡ x
      head-there = by rows inside
        where
          inside : v < length rows
          inside = omega (arith, hv, d.size)

          by : (xs : List (Row ℕ)) → v < length xs → row_head_at w v ≡ x
          by [] l = absurd (omega (arith, l))
          by (r ∷ xs) l = z.rows_in.heads-of r v inside ∙ live-head x rows r v copy_live

      pub copy-next : length w ≡ near_words → Copies x rows t (get_or t v 0) v (n + 1) (with_number w n v)
      copy-next size =
          let r = d.covering.reach x v (suc v) hx (inr (copy_live, refl)) in
          let room : n < row_cells = omega (arith, z.few, hv, d.limit) in
          let inside : v < length rows = omega (arith, hv, d.size) in
          record {
            rows_in = rows_same (with_rows w n v size room) z.rows_in;
            numbers = numbers_more w n v size room inside head-there z.numbers;
            few = omega (arith, z.few, r.within);
            all = λ y l e. by y l e (ltb y v) refl (ltb v y) refl;
            from = suc v;
            is = inr (copy_live, refl);
            at = refl;
          }
        where
          by : (y : ℕ) → y < get_or t v 0 → live_at x rows y ≡ true → (a : Bool) → ltb y v ≡ a → (b : Bool) → ltb v y ≡ b → Among (with_number w n v) (n + 1) y
          by y l e true p b q = among-old w n v size (omega (arith, z.few, hv, d.limit)) (z.all y (ltb-true y v p) e)
          by y l e false p true q = absurd (false≢true (sym ((d.covering.reach x v (suc v) hx (inr (copy_live, refl))).gap y (ltb-true v y q) l) ∙ e))
          by y l e false p false q = let k : v ≡ y = omega (arith, ltb-false y v p, ltb-false v y q) in subst (Among (with_number w n v) (n + 1)) k (among-new w n v size (omega (arith, z.few, hv, d.limit)))

    -- past the last one, all live rows are there
    pub copy_ended : length w ≡ near_words → n ≤ length rows → u ≤ v → Beside rows (noted w x n cell) × (is_near (noted w x n cell) x ≡ true)
    copy_ended size few h = (
      record {
        size = noted-length w x n cell size;
        rows_in = rows_same (above_rows (noted-above w x n cell size)) z.rows_in;
        near = λ y hy o. let q : x ≡ y = omega (arith, eqb-true _ (y + 1) o, noted-head w x n cell size) in subst (λ (k : ℕ). NearTo k rows (noted w x n cell)) q there;
      },
      ap (λ (k : ℕ). eqb k (x + 1)) (noted-head w x n cell size) ∙ eq-eqb (x + 1) (x + 1) refl,
    )
      where
        count : count_of (noted w x n cell) ≡ n
        count = noted-count w x n cell size

        there : NearTo x rows (noted w x n cell)
        there =
            record {
              numbers = subst (λ (k : ℕ). Numbers x (length rows) k (noted w x n cell)) (sym count) (above-numbers (noted-above w x n cell size) z.numbers);
              few = omega (arith, count, few);
              all = λ y e. subst (λ (k : ℕ). Among (noted w x n cell) k y) (sym count) (above-among (noted-above w x n cell size) (z.all y (omega (arith, live_inside x rows y e, d.size, h)) e));
              from = z.from;
              is = subst (λ (k : ℕ). Cell x rows k z.from) (sym (noted-link w x n cell size)) z.is;
              none = λ i a. dead i a (live_at x rows i) refl;
            }
          where
            dead : (i : ℕ) → z.from ≤ i → (b : Bool) → live_at x rows i ≡ b → b ≡ false
            dead i a true e = absurd (false≢true (sym (reach.gap i a (omega (arith, live_inside x rows i e, d.size, h))) ∙ e))
            dead i a false e = refl

  -- where the words have the rows of x, these can be looked through
  pub near-ready : {w : List ℕ} → Beside rows w → is_near w x ≡ true → Ready u w
  near-ready {w} g e =
      let n = g.near x hx e in
      record { size = g.size; limit = d.limit; few = omega (arith, n.few, d.size); head = x; numbers = subst (λ (m : ℕ). Numbers x m (count_of w) w) d.size n.numbers }

-- ---- what was found

module _ {rows : List (Row ℕ)} {u : ℕ} {t : List ℕ} (d : Leads rows u t) (c : Candidate ℕ) (hh : c.head < heads) {w : List ℕ} (g : Beside rows w) where
  module _ (near : is_near w c.head ≡ true) where
    n : NearTo c.head rows w
    n = g.near c.head hh near

    -- the effect of a live row stands among the numbers
    live-effect : (blank : Row ℕ) (v : ℕ) → live_at c.head rows v ≡ true → (i : ℕ) × (i < count_of w) × (effect_at w i ≡ (get_or rows v blank).effect)
    live-effect blank v e =
        let a = n.all v e in (a.place, a.inside, ap (row_effect_at w) a.is ∙ g.rows_in.effects blank v (live_inside c.head rows v e))

    none_below : (i : ℕ) → FirstBelow w (count_of w) c.effect i → count_of w ≤ i → dropped contained c rows ≡ false
    unfolding dropped
    none_below i f l =
        none_of c.head (λ r. live_of c.head r && contained r.effect c.effect) (λ r q. and-fst (live_of c.head r) (contained r.effect c.effect) q) rows
        (λ blank v e.
        let a = live-effect blank v e in
        let q = sym (ap (λ (y : ℕ). contained y c.effect) a.2) ∙ f.before a.0 (omega (arith, a.1, l)) in
        off (live_of c.head (get_or rows v blank)) (contained (get_or rows v blank).effect c.effect) q)
      where
        off : (a b : Bool) → b ≡ false → (a && b) ≡ false
        off true b q = q
        off false b q = refl

    none-larger : NoneAbove w (count_of w) c.effect → any (larger contained c) rows ≡ false
    unfolding larger
    none-larger h =
        none_of c.head (λ r. live_of c.head r && (contained c.effect r.effect && not (contained r.effect c.effect))) (λ r q. and-fst (live_of c.head r) (contained c.effect r.effect && not (contained r.effect c.effect)) q) rows
        (λ blank v e.
        let a = live-effect blank v e in
        let q = sym (ap (λ (y : ℕ). contained c.effect y) a.2) ∙ h a.0 a.1 in
        off (live_of c.head (get_or rows v blank)) (contained c.effect (get_or rows v blank).effect) (not (contained (get_or rows v blank).effect c.effect)) q)
      where
        off : (a b k : Bool) → b ≡ false → (a && (b && k)) ≡ false
        off true false k q = refl
        off true true k q = absurd (true≢false q)
        off false b k q = refl

    -- the last link leads to no row
    past : get_or t (link_of w) 0 ≡ end
    past = by q.stop
      where
        q : Reach c.head rows n.from (get_or t (link_of w) 0)
        q = d.covering.reach c.head (link_of w) n.from hh n.is

        by : (get_or t (link_of w) 0 ≡ end) ⊎ (live_at c.head rows (get_or t (link_of w) 0) ≡ true) → get_or t (link_of w) 0 ≡ end
        by (inl y) = y
        by (inr y) = absurd (false≢true (sym (n.none (get_or t (link_of w) 0) q.within) ∙ y))

    pub look-found : (slot : ℕ) → Slot slot → (r : CoverAnswer) → LooksThrough w c.effect slot r → FoundIn c rows u t w r
    look-found slot s r h =
        record {
          found = record { slot = subst Slot (sym h.slot_is) s; finds = by (ltb h.place (count_of w)) refl };
          beside = g;
          near = λ _. near;
        }
      where
        by : (b : Bool) → ltb h.place (count_of w) ≡ b → Finds contained c rows u t r
        by true e =
            let l = ltb-true h.place (count_of w) e in
            let covers : r.covers ≡ true = h.covers ∙ e in
            let inside = n.numbers.inside h.place l in
            record {
              found = covers ∙ sym (below-dropped g.rows_in c (number_at w h.place) inside (n.numbers.heads-of h.place l) (h.first.here l));
              row = λ _. omega (arith, h.row covers, inside, d.size);
              free = λ z. absurd (true≢false (sym covers ∙ z));
            }
        by false e =
            let covers : r.covers ≡ false = h.covers ∙ e in
            record {
              found = covers ∙ sym (none_below h.place h.first (ltb-false h.place (count_of w) e));
              row = λ z. absurd (true≢false (sym z ∙ covers));
              free = λ z. record {
                last = record { from = n.from; is = subst (λ (k : ℕ). Cell c.head rows k n.from) (sym (h.cell z)) n.is; last = ap (λ (k : ℕ). get_or t k 0) (h.cell z) ∙ past };
                small = λ y. none-larger (h.small z y);
              };
            }

  -- a hint covers it
  pub hint-found : (r : CoverAnswer) → Slot r.slot → r.covers ≡ true → r.row ≡ 0 → dropped contained c rows ≡ true → FoundIn c rows u t w r
  hint-found r s covers row e =
      record {
        found = record { slot = s; finds = record { found = covers ∙ sym e; row = λ _. omega (arith, row, some-row c rows e, d.size); free = λ z. absurd (true≢false (sym covers ∙ z)) } };
        beside = g;
        near = λ z. absurd (true≢false (sym covers ∙ z));
      }

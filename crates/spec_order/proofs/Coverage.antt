-- A live row of the nonterminal has an effect contained in the one given: what is covered stays covered. Assumes nothing.
use Rattle.std.specs.Prelude.{◌≡◌, Bool, ◌&&◌, List, [], ◌∷◌, ◌++◌, map, ℕ, eqb}
use Rattle.std.proofs.Math.Path.{refl, sym, subst}
use Rattle.std.proofs.Common.{◌∙◌, inl}
use Rattle.std.proofs.Math.Bool.{true, false, cond, not}
use borrow.Author.Tests.{eqb-true, eq-eqb}
use Rattle.spec_basics.specs.Elements.{In}
use Rattle.spec_basics.specs.Lists.{in_left, in_right, any_of, any_at, in_map}
use Rattle.spec_basics.specs.Tests.{and_intro, and-fst, and-snd}
use Rattle.spec_order.specs.Algebra.{Algebra, Laws}
use Rattle.spec_order.specs.Candidates.{Candidate}
use Rattle.spec_order.specs.Journal.{Row, live, live_of}
use Rattle.spec_order.specs.Order.{born, dropped, larger, retire, added}

module _ {E : Type 0} (A : Algebra E) where
  pub record Covered (p : ℕ) (e : E) (rows : List (Row E)) : Type 0 where
    pub row : Row E
    pub listed : In row rows
    pub alive : live_of p row ≡ true
    pub within : A.below row.effect e ≡ true

  pub dropped-covered : (c : Candidate E) (rows : List (Row E)) → dropped A.below c rows ≡ true → Covered c.head c.effect rows
  unfolding dropped
  dropped-covered c rows h =
      let r = any_of (λ (x : Row E). live_of c.head x && A.below x.effect c.effect) rows h in
      record { row = r.0; listed = r.1; alive = and-fst (live_of c.head r.0) (A.below r.0.effect c.effect) r.2; within = and-snd (live_of c.head r.0) (A.below r.0.effect c.effect) r.2 }

  pub covered-dropped : (c : Candidate E) (rows : List (Row E)) → Covered c.head c.effect rows → dropped A.below c rows ≡ true
  unfolding dropped
  covered-dropped c rows v =
      any_at (λ (x : Row E). live_of c.head x && A.below x.effect c.effect) v.row rows v.listed (and_intro (live_of c.head v.row) (A.below v.row.effect c.effect) v.alive v.within)

  born-in : (k : ℕ) (c : Candidate E) (rows : List (Row E)) → In (born k c) (added A.below k c rows)
  unfolding added
  born-in k c rows = in_right (born k c) (map (retire A.below k c) rows) (born k c ∷ []) (inl refl)

  born-alive : (k : ℕ) (c : Candidate E) → live_of c.head (born k c) ≡ true
  unfolding live_of live born
  born-alive k c = and_intro (eqb c.head c.head) (eqb 0 0) (eq-eqb c.head c.head refl) refl

  -- a row that is not larger than the candidate stays as it was
  pub kept : (k : ℕ) (c : Candidate E) (r : Row E) → larger A.below c r ≡ false → retire A.below k c r ≡ r
  unfolding retire
  kept k c r h = λ i. record { head = r.head; rule = r.rule; effect = r.effect; left = r.left; right = r.right; len = r.len; birth = r.birth; retired = cond (h i) k r.retired }

  module _ (L : Laws A) where
    pub added-covered : (k : ℕ) (c : Candidate E) (rows : List (Row E)) → Covered c.head c.effect (added A.below k c rows)
    unfolding born
    added-covered k c rows = record { row = born k c; listed = born-in k c rows; alive = born-alive k c; within = L.below-refl c.effect }

    -- what was covered is covered after a row is added
    pub covered-added : (k : ℕ) (c : Candidate E) (p : ℕ) (e : E) (rows : List (Row E)) → Covered p e rows → Covered p e (added A.below k c rows)
    unfolding added larger live_of live born
    covered-added k c p e rows v = by (larger A.below c v.row) refl
      where
        by : (b : Bool) → larger A.below c v.row ≡ b → Covered p e (map (retire A.below k c) rows ++ (born k c ∷ []))
        by false h =
            record {
              row = v.row;
              listed = in_left v.row (map (retire A.below k c) rows) (born k c ∷ [])
                  (subst (λ (x : Row E). In x (map (retire A.below k c) rows)) (kept k c v.row h) (in_map (retire A.below k c) v.row rows v.listed));
              alive = v.alive;
              within = v.within;
            }
        by true h =
            let l : live_of c.head v.row ≡ true = and-fst (live_of c.head v.row) (A.below c.effect v.row.effect && not (A.below v.row.effect c.effect)) h in
            let s : A.below c.effect v.row.effect ≡ true =
            and-fst (A.below c.effect v.row.effect) (not (A.below v.row.effect c.effect))
            (and-snd (live_of c.head v.row) (A.below c.effect v.row.effect && not (A.below v.row.effect c.effect)) h) in
            let same : c.head ≡ p =
            sym (eqb-true v.row.head c.head (and-fst (eqb v.row.head c.head) (live v.row) l))
            ∙ eqb-true v.row.head p (and-fst (eqb v.row.head p) (live v.row) v.alive) in
            record {
              row = born k c;
              listed = in_right (born k c) (map (retire A.below k c) rows) (born k c ∷ []) (inl refl);
              alive = subst (λ (x : ℕ). live_of x (born k c) ≡ true) same (born-alive k c);
              within = L.below-trans c.effect v.row.effect e s v.within;
            }

    -- and a candidate that a live row would drop is still one that a live row would drop
    pub dropped-added : (k : ℕ) (d c : Candidate E) (rows : List (Row E)) → dropped A.below c rows ≡ true → dropped A.below c (added A.below k d rows) ≡ true
    dropped-added k d c rows h = covered-dropped c (added A.below k d rows) (covered-added k d c.head c.effect rows (dropped-covered c rows h))

-- The end of a check: each row of its journal is covered by a live row of its nonterminal, so that a nonterminal has a live row exactly where it
-- has a row. Assumes nothing.
use Rattle.std.specs.Prelude.{◌≡◌, ◌⊎◌, true, List, [], ◌∷◌, map, ℕ, suc}
use Rattle.std.proofs.Common.{sym, inl, inr, eqb-true}
use Rattle.std.proofs.Math.Path.{subst}
use Rattle.std.proofs.Math.Dec.{eqb}
use Rattle.spec_basics.specs.Elements.{In, any}
use Rattle.spec_basics.specs.Lists.{in-cases, map-in, any_of, any_at}
use Rattle.spec_basics.specs.Tests.{and-fst, iff-equal}
use Rattle.spec_language.specs.Grammar.{Rule}
use Rattle.spec_order.specs.Algebra.{Algebra, Laws}
use Rattle.spec_order.specs.Candidates.{Candidate}
use Rattle.spec_order.proofs.Coverage.{Covered, added-covered, covered-added}
use Rattle.spec_order.specs.Journal.{Row, live, live_of}
use Rattle.spec_order.proofs.Journals.{journal-ind}
use Rattle.spec_order.specs.Order.{start, born, retire, added, has_row, check}

module _ {E : Type 0} (A : Algebra E) (L : Laws A) where
  -- a live row of its nonterminal covers each row
  abbrev pub EachCovered : List (Row E) → Type 0
  EachCovered rows = (r : Row E) → In r rows → Covered A r.head r.effect rows

  each-added : (k : ℕ) (c : Candidate E) (rows : List (Row E)) → EachCovered rows → EachCovered (added A.below k c rows)
  unfolding added retire born
  each-added k c rows a r m = by (in-cases r (map (retire A.below k c) rows) (born k c ∷ []) m)
    where
      by : In r (map (retire A.below k c) rows) ⊎ In r (born k c ∷ []) → Covered A r.head r.effect (added A.below k c rows)
      by (inl h) =
          let t = map-in (retire A.below k c) r rows h in
          subst (λ (x : Row E). Covered A x.head x.effect (added A.below k c rows)) (sym t.2) (covered-added A L k c t.0.head t.0.effect rows (a t.0 t.1))
      by (inr (inl e)) = subst (λ (x : Row E). Covered A x.head x.effect (added A.below k c rows)) (sym e) (added-covered A L k c rows)
      by (inr (inr h)) = absurd h

  pub check-covered : (rules : List Rule) (J B : ℕ) → EachCovered (check A rules J B).journal
  unfolding check
  check-covered rules J B =
      journal-ind A rules J B EachCovered (λ rows₀ rows. EachCovered rows) (λ rows p. p) (λ h rows₀ rows c m d p q. each-added (suc h) c rows q) (λ rows₀ rows q. q)
      (suc J) 0 start (λ r m. absurd m)

  -- what `finish` asks of the live rows of a nonterminal, it could ask of all of its rows
  pub live-or-retired : (rules : List Rule) (J B x : ℕ) → has_row (check A rules J B).journal x ≡ any (λ (r : Row E). eqb r.head x) (check A rules J B).journal
  unfolding has_row live_of
  live-or-retired rules J B x =
      let rows = (check A rules J B).journal in
      iff-equal (any (live_of x) rows) (any (λ (r : Row E). eqb r.head x) rows)
      (λ e. let m = any_of (live_of x) rows e in any_at (λ (r : Row E). eqb r.head x) m.0 rows m.1 (and-fst (eqb m.0.head x) (live m.0) m.2))
      (λ e.
      let m = any_of (λ (r : Row E). eqb r.head x) rows e in
      let v = check-covered rules J B m.0 m.1 in
      any_at (live_of x) v.row rows v.listed (subst (λ (n : ℕ). live_of n v.row ≡ true) (eqb-true m.0.head x m.2) v.alive))

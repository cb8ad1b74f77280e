-- A candidate whose rows were in the journal when the pass before began was formed in that pass already, so that a live row covers it.
-- Assumes nothing.
use Rattle.std.specs.Prelude.{◌≡◌, ◌⊎◌, Bool, ◌&&◌, cond, ℕ, suc, ◌+◌, ◌≤◌, ◌<◌, length}
use Rattle.std.proofs.Math.Path.{refl, subst}
use Rattle.std.proofs.Common.{sym, ap, ap₂, ◌∙◌, arith}
use Rattle.std.proofs.Math.Logic.{inl, inr}
use Rattle.std.proofs.Math.Bool.{true, false}
use Rattle.std.proofs.lemmas.Bool.{false≢true}
use mathlib.Core.List.{List, [], ◌∷◌, ◌++◌, map}
use Rattle.std.proofs.Math.Dec.{eqb}
use Rattle.spec_basics.specs.Tests.{and_intro, and-fst, and-snd}
use Rattle.spec_basics.specs.Elements.{In, concat_map}
use Rattle.spec_basics.specs.Lists.{in_left, in_right, in-cases, in_map, map-in, in-concat_map}
use Rattle.spec_language.specs.Grammar.{Symbol, terminal, nonterminal, Body, empty, one, two, Rule}
use Rattle.spec_order.specs.Algebra.{Algebra, Laws}
use Rattle.spec_order.specs.Candidates.{Choice, Candidate, live_rows, sole, paired, bare, choices, body_candidates, pass_candidates}
use Rattle.spec_order.proofs.Coverage.{covered-dropped}
use Rattle.spec_order.specs.Journal.{Row, absent, no_row, live, live_of}
use Rattle.spec_order.specs.Order.{Progress, Verdict, going, dropped, larger, retire, born, added, walk}
use Rattle.spec_order.proofs.Soundness.{live_rows-out, pairs-out, pass_candidates-out}
use Rattle.spec_order.proofs.Walking.{Post, AnyEnd, Covers, step-post, walk-post, walk-covers}

-- a pointer to one of the first n rows, or to none
abbrev pub PointsBelow : ℕ → ℕ → Type 0
PointsBelow n i = (i < n) ⊎ (i ≡ absent)

-- a candidate made from the first n rows alone
abbrev pub Repeats : {E : Type 0} → ℕ → Candidate E → Type 0
Repeats n c = PointsBelow n c.left × PointsBelow n c.right

-- ---- the candidates of a pass

module _ {E : Type 0} (A : Algebra E) (rows : List (Row E)) where
  choice-points : (s : Symbol) (c : Choice E) → In c (choices A.forms rows s) → PointsBelow (length rows) c.pointer
  unfolding choices
  choice-points (terminal a) c (inl e) = inr (ap (λ (d : Choice E). d.pointer) e)
  choice-points (terminal a) c (inr m) = absurd m
  choice-points (nonterminal x) c m = let o = live_rows-out x 0 c (no_row A.forms) rows m in inl (omega (arith, o.pointer, o.inside))

  body-points : (p r : ℕ) (b : Body) (c : Candidate E) → In c (body_candidates A.forms rows p r b) → Repeats (length rows) c
  unfolding body_candidates sole paired bare
  body-points p r empty c (inl e) = (inr (ap (λ (d : Candidate E). d.left) e), inr (ap (λ (d : Candidate E). d.right) e))
  body-points p r empty c (inr m) = absurd m
  body-points p r (one s) c m =
      let t = map-in (sole p r) c (choices A.forms rows s) m in
      subst (Repeats (length rows)) (sym t.2) (choice-points s t.0 t.1, inr refl)
  body-points p r (two s s') c m =
      let t = pairs-out A rows p r c (choices A.forms rows s) (choices A.forms rows s') m in
      subst (Repeats (length rows)) (sym t.6) (choice-points s t.0 t.3, choice-points s' t.1 t.4)

  -- each points to rows that the pass began with, or to none
  pub pass-points : (rules : List Rule) (r : ℕ) (c : Candidate E) → In c (pass_candidates A.forms rows r rules) → Repeats (length rows) c
  pass-points rules r c m = let t = pass_candidates-out A rows c rules r m in body-points t.0.head (r + t.1) t.0.body c t.4

-- ---- a journal later in a check

module _ {E : Type 0} where
  -- the row `new` is the row `old` later in the check: it may have retired
  pub record Later (old new : Row E) : Type 0 where
    pub effect : new.effect ≡ old.effect
    pub len : new.len ≡ old.len
    pub alive : (x : ℕ) → live_of x new ≡ true → live_of x old ≡ true

  -- the journal `new` has the rows of `old`, later, and perhaps more
  abbrev pub Grown : List (Row E) → List (Row E) → Type 0
  Grown [] new = Unit {0}
  Grown (r ∷ old) [] = ⊥
  Grown (r ∷ old) (s ∷ new) = Later r s × Grown old new

  grown-refl : (rows : List (Row E)) → Grown rows rows
  grown-refl [] = tt
  grown-refl (r ∷ rows) = (record { effect = refl; len = refl; alive = λ x h. h }, grown-refl rows)

  grown-more : (f : Row E → Row E) → ((r : Row E) → Later r (f r)) → (old new more : List (Row E)) → Grown old new → Grown old (map f new ++ more)
  grown-more f h [] new more g = tt
  grown-more f h (r ∷ old) [] more g = absurd g
  grown-more f h (r ∷ old) (s ∷ new) more g =
      (record { effect = (h s).effect ∙ g.0.effect; len = (h s).len ∙ g.0.len; alive = λ x a. g.0.alive x ((h s).alive x a) }, grown-more f h old new more g.1)

module _ {E : Type 0} (A : Algebra E) where
  -- a retirement leaves effect and length, and makes no row live
  pub retire-later : (k : ℕ) (c : Candidate E) (r : Row E) → Later r (retire A.below k c r)
  unfolding retire larger live_of live
  retire-later k c r = record { effect = refl; len = refl; alive = λ x. by x (larger A.below c r) refl }
    where
      by : (x : ℕ) (b : Bool) → larger A.below c r ≡ b → (eqb r.head x && eqb (cond b k r.retired) 0) ≡ true → (eqb r.head x && eqb r.retired 0) ≡ true
      by x false e h = h
      by x true e h =
          and_intro (eqb r.head x) (live r) (and-fst (eqb r.head x) (eqb k 0) h) (and-snd (eqb r.head c.head) (live r) (and-fst (live_of c.head r) _ e))

  grown-added : (k : ℕ) (c : Candidate E) (old rows : List (Row E)) → Grown old rows → Grown old (added A.below k c rows)
  unfolding added
  grown-added k c old rows g = grown-more (retire A.below k c) (retire-later k c) old rows (born k c ∷ []) g

  pub walk-grown : (J B k : ℕ) (cs : List (Candidate E)) (s t : Progress E) → walk A.below A.breaks J B k cs s ≡ going t → Grown s.rows t.rows
  walk-grown J B k cs s t e =
      subst (Post (λ u. Grown s.rows u.rows) R) e
      (walk-post A J B k (λ u. Grown s.rows u.rows) R cs
      (λ c m u g. step-post A J B k (λ v. Grown s.rows v.rows) R c u (λ _. tt) (λ _ _. g) (λ _ _ _. tt) (λ _ _ _ _. tt) (λ _ _ _ _. grown-added k c s.rows u.rows g))
      s (grown-refl s.rows))
    where
      R : Verdict → ℕ → Progress E → Type 0
      R v i u = Unit {0}

-- ---- what was formed before

module _ {E : Type 0} where
  -- a choice that points below i + n, among the rows from i on
  rows_before : (x i : ℕ) (old new : List (Row E)) → Grown old new → (c : Choice E) → In c (live_rows x i new) → c.pointer < i + length old → In c (live_rows x i old)
  unfolding live_rows
  rows_before x i [] new g c m h = let o = live_rows-out x i c (none c) new m in absurd (omega (arith, o.pointer, h))
    where
      none : Choice E → Row E
      none d = record { head = 0; rule = 0; effect = d.effect; left = 0; right = 0; len = 0; birth = 0; retired = 0 }
  rows_before x i (r ∷ old) [] g c m h = absurd g
  rows_before x i (r ∷ old) (s ∷ new) g c m h =
      by (λ q. rows_before x (suc i) old new g.1 c q (omega (arith, h))) (live_of x s) refl (live_of x r) refl m
    where
      here : Choice E
      here = record { effect = r.effect; pointer = i; len = r.len }

      later : (b : Bool) → In c (live_rows x (suc i) old) → In c (cond b (here ∷ live_rows x (suc i) old) (live_rows x (suc i) old))
      later true q = inr q
      later false q = q

      by : (In c (live_rows x (suc i) new) → In c (live_rows x (suc i) old)) → (a : Bool) → live_of x s ≡ a → (b : Bool) → live_of x r ≡ b → In c (cond a (record { effect = s.effect; pointer = i; len = s.len } ∷ live_rows x (suc i) new) (live_rows x (suc i) new))
          → In c (cond b (here ∷ live_rows x (suc i) old) (live_rows x (suc i) old))
      by next false e b f q = later b (next q)
      by next true e b f (inr q) = later b (next q)
      by next true e true f (inl q) = inl (q ∙ ap₂ (λ (y : E) (n : ℕ). record { effect = y; pointer = i; len = n }) g.0.effect g.0.len)
      by next true e false f (inl q) = absurd (false≢true (sym f ∙ g.0.alive x e))

module _ {E : Type 0} (A : Algebra E) (old new : List (Row E)) (g : Grown old new) (few : length new ≤ absent) where
  choice-before : (s : Symbol) (c : Choice E) → In c (choices A.forms new s) → PointsBelow (length old) c.pointer → In c (choices A.forms old s)
  unfolding choices
  choice-before (terminal a) c m h = m
  choice-before (nonterminal x) c m (inl h) = rows_before x 0 old new g c m (omega (arith, h))
  choice-before (nonterminal x) c m (inr h) = let o = live_rows-out x 0 c (no_row A.forms) new m in absurd (omega (arith, o.pointer, o.inside, h, few))

  body-before : (p r : ℕ) (b : Body) (c : Candidate E) → In c (body_candidates A.forms new p r b) → Repeats (length old) c → In c (body_candidates A.forms old p r b)
  unfolding body_candidates sole paired bare
  body-before p r empty c m h = m
  body-before p r (one s) c m h =
      let t = map-in (sole p r) c (choices A.forms new s) m in
      subst (λ (d : Candidate E). In d (map (sole p r) (choices A.forms old s))) (sym t.2)
      (in_map (sole p r) t.0 (choices A.forms old s) (choice-before s t.0 t.1 (subst (λ (d : Candidate E). PointsBelow (length old) d.left) t.2 h.0)))
  body-before p r (two s s') c m h =
      let t = pairs-out A new p r c (choices A.forms new s) (choices A.forms new s') m in
      let a : Choice E = t.0 in
      let b : Choice E = t.1 in
      subst (λ (d : Candidate E). In d (body_candidates A.forms old p r (two s s'))) (sym t.6)
      (in-concat_map (λ a. concat_map (λ b. map (paired p r a b) (A.forms.of_pair a.effect b.effect)) (choices A.forms old s')) (paired p r a b t.2) a (choices A.forms old s)
      (choice-before s a t.3 (subst (λ (d : Candidate E). PointsBelow (length old) d.left) t.6 h.0))
      (in-concat_map (λ b. map (paired p r a b) (A.forms.of_pair a.effect b.effect)) (paired p r a b t.2) b (choices A.forms old s')
      (choice-before s' b t.4 (subst (λ (d : Candidate E). PointsBelow (length old) d.right) t.6 h.1))
      (in_map (paired p r a b) t.2 (A.forms.of_pair a.effect b.effect) t.5)))

  pass-before : (rules : List Rule) (r : ℕ) (c : Candidate E) → In c (pass_candidates A.forms new r rules) → Repeats (length old) c → In c (pass_candidates A.forms old r rules)
  unfolding pass_candidates
  pass-before [] r c m h = m
  pass-before (x ∷ rules) r c m h =
      by (λ q. pass-before rules (suc r) c q h) (in-cases c (body_candidates A.forms new x.head r x.body) (pass_candidates A.forms new (suc r) rules) m)
    where
      by : (In c (pass_candidates A.forms new (suc r) rules) → In c (pass_candidates A.forms old (suc r) rules)) → In c (body_candidates A.forms new x.head r x.body) ⊎ In c (pass_candidates A.forms new (suc r) rules) → In c (body_candidates A.forms old x.head r x.body ++ pass_candidates A.forms old (suc r) rules)
      by next (inl q) = in_left c (body_candidates A.forms old x.head r x.body) (pass_candidates A.forms old (suc r) rules) (body-before x.head r x.body c q h)
      by next (inr q) = in_right c (body_candidates A.forms old x.head r x.body) (pass_candidates A.forms old (suc r) rules) (next q)

-- after a pass that went through, what it formed is covered, also where it is formed again
pub repeated-dropped : {E : Type 0} (A : Algebra E) (L : Laws A) (rules : List Rule) (J B k : ℕ) (s t : Progress E) → length t.rows ≤ absent
    → walk A.below A.breaks J B k (pass_candidates A.forms s.rows 0 rules) s ≡ going t
    → (c : Candidate E) → In c (pass_candidates A.forms t.rows 0 rules) → Repeats (length s.rows) c → dropped A.below c t.rows ≡ true
repeated-dropped A L rules J B k s t few e c m h =
    let v = subst (Post (Covers A (pass_candidates A.forms s.rows 0 rules) s) AnyEnd) e (walk-covers A J B k L (pass_candidates A.forms s.rows 0 rules) s) in
    covered-dropped A c t.rows (v.each c (pass-before A s.rows t.rows (walk-grown A J B k (pass_candidates A.forms s.rows 0 rules) s t e) few rules 0 c m h))

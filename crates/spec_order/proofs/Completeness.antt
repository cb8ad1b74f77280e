-- A pass's candidates cover what is derived one rule higher, and a set that covers every candidate formed from it covers everything derived.
-- Assumes nothing.
use Rattle.std.specs.Prelude.{◌≡◌, Bool, cond, ℕ, zero, suc}
use Rattle.std.proofs.Math.Path.{refl, sym, ap, subst}
use Rattle.std.proofs.Common.{◌∙◌}
use Rattle.std.proofs.Math.Logic.{inl, inr}
use Rattle.std.proofs.Math.Bool.{true, false}
use mathlib.Core.List.{List, [], ◌∷◌, map}
use Rattle.spec_basics.specs.Elements.{In, concat_map}
use Rattle.spec_basics.specs.Lists.{in_left, in_right, in_map, in-concat_map}
use Rattle.spec_language.specs.Grammar.{Symbol, terminal, nonterminal, Body, empty, one, two, Rule}
use Rattle.spec_order.specs.Algebra.{Algebra, Laws}
use Rattle.spec_order.specs.Candidates.{Choice, Candidate, live_rows, sole, paired, choices, body_candidates, pass_candidates}
use Rattle.spec_order.proofs.Carrying.{Along, gives_along}
use Rattle.spec_order.proofs.Coverage.{Covered}
use Rattle.spec_order.specs.Derivation.{Values, SymbolGives, Gives, Yields}
use Rattle.spec_order.specs.Journal.{Row, absent, live_of}

-- effects as values
abbrev pub effect_values : {E : Type 0} → Algebra E → Values E
effect_values A = record { IsEmpty = λ e. e ≡ A.forms.of_empty; IsTerminal = λ c e. e ≡ A.forms.of_terminal c; IsPair = λ x y e. In e (A.forms.of_pair x y) }

module _ {E : Type 0} (A : Algebra E) where
  -- the set P has an effect of p that is contained in e
  abbrev pub Above : (ℕ → E → Type 0) → ℕ → E → Type 0
  Above P p e = (d : E) × P p d × (A.below d e ≡ true)

  -- P covers whatever the rules form from Q
  abbrev pub FormsInto : List Rule → (ℕ → E → Type 0) → (ℕ → E → Type 0) → Type 0
  FormsInto rules Q P = (x : Rule) → In x rules → (e : E) → Gives (effect_values A) Q x.body e → Above P x.head e

module _ {E : Type 0} (A : Algebra E) (L : Laws A) where
  -- from smaller effects a rule forms a smaller effect
  pub smaller : Along (effect_values A) (effect_values A) (λ e d. A.below d e ≡ true)
  smaller =
      record {
        of_empty = λ e q. (A.forms.of_empty, refl, subst (λ (x : E). A.below A.forms.of_empty x ≡ true) (sym q) (L.below-refl A.forms.of_empty));
        of_terminal = λ c e q. (A.forms.of_terminal c, refl, subst (λ (x : E). A.below (A.forms.of_terminal c) x ≡ true) (sym q) (L.below-refl (A.forms.of_terminal c)));
        of_pair = λ x y e x' y' p q m. L.pair-below x' x y' y p q e m;
      }

  pub higher : (rules : List Rule) (h : ℕ) (Q P : ℕ → E → Type 0) → ((p : ℕ) (e : E) → Yields (effect_values A) rules h p e → Above A Q p e)
      → FormsInto A rules Q P → (p : ℕ) (e : E) → Yields (effect_values A) rules (suc h) p e → Above A P p e
  higher rules h Q P below all p e d =
      let g = gives_along (effect_values A) (effect_values A) (λ e d. A.below d e ≡ true) smaller (Yields (effect_values A) rules h) Q below d.0.body e d.3 in
      let a = all d.0 d.1 g.0 g.1 in
      subst (λ (q : ℕ). Above A P q e) d.2 (a.0, a.1, L.below-trans a.0 g.0 e a.2 g.2)

  -- a set that covers every candidate formed from it covers everything derived
  pub closed : (rules : List Rule) (P : ℕ → E → Type 0) → FormsInto A rules P P → (h p : ℕ) (e : E) → Yields (effect_values A) rules h p e → Above A P p e
  closed rules P all zero p e d = absurd d
  closed rules P all (suc h) p e d = higher rules h P P (closed rules P all h) all p e d

-- ---- the candidates are what the rules form from the live rows

module _ {E : Type 0} where
  -- a live row of p with this effect
  abbrev pub LiveIn : List (Row E) → ℕ → E → Type 0
  LiveIn rows p e = (r : Row E) × In r rows × (live_of p r ≡ true) × (r.effect ≡ e)

  pub live_rows-in : (p i : ℕ) (r : Row E) (rows : List (Row E)) → In r rows → live_of p r ≡ true → (c : Choice E) × In c (live_rows p i rows) × (c.effect ≡ r.effect)
  unfolding live_rows
  live_rows-in p i r [] h l = absurd h
  live_rows-in p i r (x ∷ rows) (inl e) l =
      let here : Choice E = record { effect = x.effect; pointer = i; len = x.len } in
      let on : live_of p x ≡ true = subst (λ (y : Row E). live_of p y ≡ true) e l in
      (here, subst (λ (b : Bool). In here (cond b (here ∷ live_rows p (suc i) rows) (live_rows p (suc i) rows))) (sym on) (inl refl), ap (λ (y : Row E). y.effect) (sym e))
  live_rows-in p i r (x ∷ rows) (inr h) l =
      let here : Choice E = record { effect = x.effect; pointer = i; len = x.len } in
      let ih = live_rows-in p (suc i) r rows h l in
      (ih.0, either (live_of p x) here ih.0 (live_rows p (suc i) rows) ih.1, ih.2)
    where
      either : (b : Bool) (here c : Choice E) (cs : List (Choice E)) → In c cs → In c (cond b (here ∷ cs) cs)
      either true here c cs m = inr m
      either false here c cs m = m

module _ {E : Type 0} (A : Algebra E) (rows : List (Row E)) where
  -- the candidates of each rule are among those of the pass
  pub pass_candidates-in : (x : Rule) (rules : List Rule) (i : ℕ) → In x rules
      → (r : ℕ) × ((c : Candidate E) → In c (body_candidates A.forms rows x.head r x.body) → In c (pass_candidates A.forms rows i rules))
  unfolding pass_candidates
  pass_candidates-in x [] i h = absurd h
  pass_candidates-in x (y ∷ rules) i (inl e) = (
    i,
    λ c m. in_left c (body_candidates A.forms rows y.head i y.body) (pass_candidates A.forms rows (suc i) rules)
        (subst (λ (z : Rule). In c (body_candidates A.forms rows z.head i z.body)) e m),
  )
  pass_candidates-in x (y ∷ rules) i (inr h) =
      let ih = pass_candidates-in x rules (suc i) h in
      (ih.0, λ c m. in_right c (body_candidates A.forms rows y.head i y.body) (pass_candidates A.forms rows (suc i) rules) (ih.1 c m))

  symbol-choice : (s : Symbol) (e : E) → SymbolGives (effect_values A) (LiveIn rows) s e → (c : Choice E) × In c (choices A.forms rows s) × (c.effect ≡ e)
  unfolding choices
  symbol-choice (terminal a) e q = (record { effect = A.forms.of_terminal a; pointer = absent; len = 1 }, inl refl, sym q)
  symbol-choice (nonterminal p) e v = let c = live_rows-in p 0 v.0 rows v.1 v.2 in (c.0, c.1, c.2 ∙ v.3)

  body-candidate : (p r : ℕ) (b : Body) (e : E) → Gives (effect_values A) (LiveIn rows) b e → (c : Candidate E) × In c (body_candidates A.forms rows p r b) × (c.head ≡ p) × (c.effect ≡ e)
  unfolding body_candidates sole paired
  body-candidate p r empty e q = (record { head = p; rule = r; effect = A.forms.of_empty; left = absent; right = absent; len = 0 }, inl refl, refl, sym q)
  body-candidate p r (one s) e g = let c = symbol-choice s e g in (sole p r c.0, in_map (sole p r) c.0 (choices A.forms rows s) c.1, refl, c.2)
  body-candidate p r (two s t) e g =
      let c = symbol-choice s g.0 g.2 in
      let d = symbol-choice t g.1 g.3 in (
        paired p r c.0 d.0 e,
        in-concat_map (λ c. concat_map (λ d. map (paired p r c d) (A.forms.of_pair c.effect d.effect)) (choices A.forms rows t)) (paired p r c.0 d.0 e) c.0 (choices A.forms rows s) c.1
            (in-concat_map (λ d. map (paired p r c.0 d) (A.forms.of_pair c.0.effect d.effect)) (paired p r c.0 d.0 e) d.0 (choices A.forms rows t) d.1
            (in_map (paired p r c.0 d.0) e (A.forms.of_pair c.0.effect d.0.effect)
            (subst (λ (x : E). In e (A.forms.of_pair x d.0.effect)) (sym c.2) (subst (λ (y : E). In e (A.forms.of_pair g.0 y)) (sym d.2) g.4)))),
        refl,
        refl,
      )

  -- rows that cover every candidate of a pass cover whatever the rules form from the live rows of its beginning
  pub follows : (rules : List Rule) (after : List (Row E)) → ((c : Candidate E) → In c (pass_candidates A.forms rows 0 rules) → Covered A c.head c.effect after)
      → FormsInto A rules (LiveIn rows) (LiveIn after)
  follows rules after all x m e g =
      let at = pass_candidates-in x rules 0 m in
      let b = body-candidate x.head at.0 x.body e g in
      let v = all b.0 (at.1 b.0 b.1) in
      (v.row.effect, (v.row, v.listed, subst (λ (p : ℕ). live_of p v.row ≡ true) b.2 v.alive, refl), subst (λ (x : E). A.below v.row.effect x ≡ true) b.3 v.within)

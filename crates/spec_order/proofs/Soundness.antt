-- The word behind a row derives from its nonterminal, with exactly the row's effect. Assumes nothing.
use Rattle.std.specs.Prelude.{◌≡◌, ◌⊎◌, Bool, true, false, cond, eqb}
use Rattle.std.proofs.Math.Path.{refl, sym, ap, subst}
use Rattle.std.proofs.Common.{ap₂, ◌∙◌, add-suc, add-zero, arith, eqb-true}
use Rattle.std.proofs.Math.Logic.{inl, inr}
use mathlib.Core.List.{List, [], ◌∷◌, ◌++◌, map}
use Prim.Native.Nat.{ℕ, suc, ◌+◌, ◌≤◌, ◌<◌, suc-le-suc}
use Rattle.std.proofs.Math.Nat.{le_refl, zero-add, zero-lt-suc, suc-add}
use Rattle.std.proofs.Math.ListN.{length, get_or, get_or-append}
use Rattle.spec_basics.specs.Elements.{In, concat_map}
use Rattle.spec_basics.specs.Lists.{in-cases, map-in, concat_map-in}
use Rattle.spec_basics.specs.Tests.{and-fst}
use Rattle.spec_language.specs.Grammar.{Symbol, terminal, nonterminal, Body, empty, one, two, Rule, no_rule}
use Rattle.spec_order.specs.Algebra.{Algebra}
use Rattle.spec_order.specs.Behind.{Spelling, symbol_word, body_word, row_word, words_from, words_of}
use Rattle.spec_order.specs.Candidates.{Choice, Candidate, live_rows, sole, paired, choices, body_candidates, pass_candidates}
use Rattle.spec_order.proofs.Carrying.{within-le}
use Rattle.spec_order.specs.Derivation.{Values, SymbolGives, Gives, Yields}
use Rattle.spec_order.specs.Journal.{Row, absent, capped, no_row, live, live_of}
use Rattle.spec_order.specs.Order.{born, retire, added}
use Rattle.spec_order.proofs.SideBySide.{SideBySide, side-keep, side-map, side-snoc, side-at, side-length}

-- a word with its effect, as a value
abbrev pub spelled_values : {E W : Type 0} → Algebra E → Spelling E W → Values (W × E)
spelled_values A S =
    record {
      IsEmpty = λ v. (v.0 ≡ S.nothing) × (v.1 ≡ A.forms.of_empty);
      IsTerminal = λ c v. (v.0 ≡ S.single c) × (v.1 ≡ A.forms.of_terminal c);
      IsPair = λ x y v. In v.1 (A.forms.of_pair x.1 y.1) × (v.0 ≡ S.joined v.1 x.0 y.0);
    }

pub record Sizes {E W : Type 0} (S : Spelling E W) : Type 0 where
  pub of-nothing : S.size S.nothing ≡ 0
  pub of-single : (c : ℕ) → S.size (S.single c) ≡ 1
  pub of-joined : (e : E) (u v : W) → S.size (S.joined e u v) ≡ S.size u + S.size v

-- ---- the words of a journal that grows

module _ {E W : Type 0} (A : Algebra E) (S : Spelling E W) (rules : List Rule) where
  words_from-snoc : (done : List W) (rows : List (Row E)) (r : Row E)
      → words_from S rules done (rows ++ (r ∷ [])) ≡ words_from S rules done rows ++ (row_word S rules (words_from S rules done rows) r ∷ [])
  unfolding words_from
  words_from-snoc done [] r = refl
  words_from-snoc done (x ∷ rows) r = words_from-snoc (done ++ (row_word S rules done x ∷ [])) rows r

  words_from-retire : (done : List W) (k : ℕ) (c : Candidate E) (rows : List (Row E)) → words_from S rules done (map (retire A.below k c) rows) ≡ words_from S rules done rows
  unfolding words_from row_word retire
  words_from-retire done k c [] = refl
  words_from-retire done k c (x ∷ rows) = words_from-retire (done ++ (row_word S rules done x ∷ [])) k c rows

  pub words-added : (k : ℕ) (c : Candidate E) (rows : List (Row E)) → words_of S rules (added A.below k c rows) ≡ words_of S rules rows ++ (row_word S rules (words_of S rules rows) (born k c) ∷ [])
  unfolding words_of added
  words-added k c rows =
      words_from-snoc [] (map (retire A.below k c) rows) (born k c)
      ∙ ap (λ (x : List W). x ++ (row_word S rules x (born k c) ∷ [])) (words_from-retire [] k c rows)

capped-capped : (a b : ℕ) → capped (capped a + capped b) ≡ capped (a + b)
unfolding capped
capped-capped a b = omega arith

capped-one : 1 ≡ capped 1
unfolding capped
capped-one = refl

capped-none : 0 ≡ capped 0
unfolding capped
capped-none = refl

-- ---- a choice is a row, and where a candidate comes from

module _ {E : Type 0} where
  pub record ChoiceAt (p i : ℕ) (c : Choice E) (d : Row E) (rows : List (Row E)) : Type 0 where
    pub j : ℕ
    pub inside : j < length rows
    pub pointer : c.pointer ≡ i + j
    pub alive : live_of p (get_or rows j d) ≡ true
    pub effect : c.effect ≡ (get_or rows j d).effect
    pub len : c.len ≡ (get_or rows j d).len

  pub live_rows-out : (p i : ℕ) (c : Choice E) (d : Row E) (rows : List (Row E)) → In c (live_rows p i rows) → ChoiceAt p i c d rows
  unfolding live_rows
  live_rows-out p i c d [] h = absurd h
  live_rows-out p i c d (x ∷ rows) h = by (live_of p x) refl h (live_rows-out p (suc i) c d rows)
    where
      later : ChoiceAt p (suc i) c d rows → ChoiceAt p i c d (x ∷ rows)
      later r = record { j = suc r.j; inside = suc-le-suc r.inside; pointer = r.pointer ∙ suc-add i r.j ∙ sym (add-suc i r.j); alive = r.alive; effect = r.effect; len = r.len }

      by : (b : Bool) → live_of p x ≡ b → In c (cond b (record { effect = x.effect; pointer = i; len = x.len } ∷ live_rows p (suc i) rows) (live_rows p (suc i) rows))
          → (In c (live_rows p (suc i) rows) → ChoiceAt p (suc i) c d rows) → ChoiceAt p i c d (x ∷ rows)
      by true l (inl e) ih =
          record { j = 0; inside = zero-lt-suc (length rows); pointer = ap (λ (y : Choice E). y.pointer) e ∙ sym (add-zero i); alive = l; effect = ap (λ (y : Choice E). y.effect) e; len = ap (λ (y : Choice E). y.len) e }
      by true l (inr m) ih = later (ih m)
      by false l m ih = later (ih m)

module _ {E : Type 0} (A : Algebra E) (rows : List (Row E)) where
  -- a candidate c of rule r of p, from the choices cs for the first symbol and ds for the second, comes from a choice a of cs and b of ds,
  -- whose effects form e
  pub pairs-out : (p r : ℕ) (c : Candidate E) (cs ds : List (Choice E)) → In c (concat_map (λ a. concat_map (λ b. map (paired p r a b) (A.forms.of_pair a.effect b.effect)) ds) cs)
      → (a : Choice E) × (b : Choice E) × (e : E) × In a cs × In b ds × In e (A.forms.of_pair a.effect b.effect) × (c ≡ paired p r a b e)
  pairs-out p r c cs ds m =
      let s = concat_map-in (λ (a : Choice E). concat_map (λ b. map (paired p r a b) (A.forms.of_pair a.effect b.effect)) ds) c cs m in
      let a : Choice E = s.0 in
      let t = concat_map-in (λ (b : Choice E). map (paired p r a b) (A.forms.of_pair a.effect b.effect)) c ds s.2 in
      let b : Choice E = t.0 in
      let u = map-in (paired p r a b) c (A.forms.of_pair a.effect b.effect) t.2 in
      (a, b, u.0, s.1, t.1, u.1, u.2)

  pub pass_candidates-out : (c : Candidate E) (rules : List Rule) (i : ℕ) → In c (pass_candidates A.forms rows i rules)
      → (x : Rule) × (j : ℕ) × In x rules × (get_or rules j no_rule ≡ x) × In c (body_candidates A.forms rows x.head (i + j) x.body) × (j < length rules)
  unfolding pass_candidates
  pass_candidates-out c [] i m = absurd m
  pass_candidates-out c (y ∷ rules) i m = by (in-cases c (body_candidates A.forms rows y.head i y.body) (pass_candidates A.forms rows (suc i) rules) m) (pass_candidates-out c rules (suc i))
    where
      by : In c (body_candidates A.forms rows y.head i y.body) ⊎ In c (pass_candidates A.forms rows (suc i) rules)
          → (In c (pass_candidates A.forms rows (suc i) rules) → (x : Rule) × (j : ℕ) × In x rules × (get_or rules j no_rule ≡ x) × In c (body_candidates A.forms rows x.head (suc i + j) x.body) × (j < length rules))
          → (x : Rule) × (j : ℕ) × ((x ≡ y) ⊎ In x rules) × (get_or (y ∷ rules) j no_rule ≡ x) × In c (body_candidates A.forms rows x.head (i + j) x.body) × (j < suc (length rules))
      by (inl h) ih = (y, 0, inl refl, refl, subst (λ (z : ℕ). In c (body_candidates A.forms rows y.head z y.body)) (sym (add-zero i)) h, zero-lt-suc (length rules))
      by (inr h) ih =
          let t = ih h in
          (t.0, suc t.1, inr t.2, t.3, subst (λ (z : ℕ). In c (body_candidates A.forms rows t.0.head z t.0.body)) (suc-add i t.1 ∙ sym (add-suc i t.1)) t.4, suc-le-suc t.5)

-- ---- soundness

module _ {E W : Type 0} (A : Algebra E) (S : Spelling E W) (rules : List Rule) where
  -- the word w behind the row r derives from its nonterminal, within the height of the pass in which the row was born, with exactly the
  -- row's effect; and h is no earlier pass
  pub record RowSound (h : ℕ) (r : Row E) (w : W) : Type 0 where
    pub born-by : r.birth ≤ h
    pub derived : Yields (spelled_values A S) rules r.birth r.head (w, r.effect)
    pub size : r.len ≡ capped (S.size w)

  abbrev pub Sound : ℕ → List (Row E) → Type 0
  Sound h rows = SideBySide (RowSound h) rows (words_of S rules rows)

  pub sound-taller : (h : ℕ) (rows : List (Row E)) → Sound h rows → Sound (suc h) rows
  sound-taller h rows b =
      side-keep (RowSound h) (RowSound (suc h)) (λ r w s. record { born-by = omega (arith, s.born-by); derived = s.derived; size = s.size }) rows (words_of S rules rows) b

  -- a candidate c that was formed from the rows of the journal `rows`: its word, which does not depend on the rows that come after
  pub record CandidateSound (h : ℕ) (rows : List (Row E)) (c : Candidate E) : Type 0 where
    pub word : W
    pub spelled : (k : ℕ) (more : List W) → row_word S rules (words_of S rules rows ++ more) (born k c) ≡ word
    pub derived : Yields (spelled_values A S) rules h c.head (word, c.effect)
    pub size : c.len ≡ capped (S.size word)

  pub record ChoiceSound (h : ℕ) (rows : List (Row E)) (s : Symbol) (c : Choice E) : Type 0 where
    pub word : W
    pub spelled : (more : List W) → symbol_word S (words_of S rules rows ++ more) s c.pointer ≡ word
    pub derived : SymbolGives (spelled_values A S) (Yields (spelled_values A S) rules h) s (word, c.effect)
    pub size : c.len ≡ capped (S.size word)

  pub sound-added : (h : ℕ) (c : Candidate E) (rows₀ rows : List (Row E)) (more : List W) → CandidateSound h rows₀ c
      → words_of S rules rows ≡ words_of S rules rows₀ ++ more → Sound h rows → Sound h (added A.below h c rows)
  unfolding added retire born
  sound-added h c rows₀ rows more cs e b =
      let w = cs.word in
      let here : row_word S rules (words_of S rules rows) (born h c) ≡ w = ap (λ (x : List W). row_word S rules x (born h c)) e ∙ cs.spelled h more in
      subst (λ (x : List W). SideBySide (RowSound h) (added A.below h c rows) x)
      (sym (words-added A S rules h c rows ∙ ap (λ (x : W). words_of S rules rows ++ (x ∷ [])) here))
      (side-snoc (RowSound h) (born h c) w (record { born-by = le_refl h; derived = cs.derived; size = cs.size }) (map (retire A.below h c) rows) (words_of S rules rows)
      (side-map (RowSound h) (RowSound h) (retire A.below h c) (λ r u s. record { born-by = s.born-by; derived = s.derived; size = s.size }) rows (words_of S rules rows) b))

  -- ---- the candidates that sound rows form are sound

  module _ (Z : Sizes S) where
    symbol-sound : (h : ℕ) (rows : List (Row E)) → Sound h rows → (s : Symbol) (c : Choice E) → In c (choices A.forms rows s) → ChoiceSound h rows s c
    unfolding choices symbol_word live_of live
    symbol-sound h rows b (terminal a) c (inr m) = absurd m
    symbol-sound h rows b (terminal a) c (inl e) =
        record {
          word = S.single a;
          spelled = λ more. refl;
          derived = (refl, ap (λ (x : Choice E). x.effect) e);
          size = ap (λ (x : Choice E). x.len) e ∙ capped-one ∙ ap capped (sym (Z.of-single a));
        }
    symbol-sound h rows b (nonterminal p) c m =
        let r = live_rows-out p 0 c (no_row A.forms) rows m in
        let row : Row E = get_or rows r.j (no_row A.forms) in
        let w : W = get_or (words_of S rules rows) r.j S.nothing in
        let s = side-at (RowSound h) (no_row A.forms) S.nothing rows (words_of S rules rows) b r.j r.inside in
        record {
          word = w;
          spelled = λ more. ap (λ (x : ℕ). get_or (words_of S rules rows ++ more) x S.nothing) (r.pointer ∙ zero-add r.j)
              ∙ get_or-append (words_of S rules rows) more S.nothing r.j (subst (λ (x : ℕ). r.j < x) (side-length (RowSound h) rows (words_of S rules rows) b) r.inside);
          derived = subst (λ (x : E). Yields (spelled_values A S) rules h p (w, x)) (sym r.effect)
              (subst (λ (x : ℕ). Yields (spelled_values A S) rules h x (w, row.effect)) (eqb-true row.head p (and-fst (eqb row.head p) (live row) r.alive))
              (within-le (spelled_values A S) rules row.birth h row.head (w, row.effect) s.born-by s.derived));
          size = r.len ∙ s.size;
        }

    -- the rule that the candidate names has the body
    body-sound : (h : ℕ) (rows : List (Row E)) → Sound h rows → (x : Rule) (i : ℕ) → In x rules → get_or rules i no_rule ≡ x
        → (c : Candidate E) → In c (body_candidates A.forms rows x.head i x.body) → CandidateSound (suc h) rows c
    unfolding body_candidates row_word born body_word sole paired capped
    body-sound h rows b x i listed at c m = by x.body refl m
      where
        Y : ℕ → W × E → Type 0
        Y = Yields (spelled_values A S) rules h

        -- what the candidate of the rule i spells, and that it derives, by the rule's body
        made : (d : Body) → x.body ≡ d → (c₀ : Candidate E) → c ≡ c₀ → c₀.rule ≡ i → c₀.head ≡ x.head → (w : W)
            → ((more : List W) → body_word S (words_of S rules rows ++ more) d c₀.effect c₀.left c₀.right ≡ w)
            → Gives (spelled_values A S) Y d (w, c₀.effect) → c₀.len ≡ capped (S.size w) → CandidateSound (suc h) rows c
        made d e c₀ q ri hd w sp g z =
            record {
              word = w;
              spelled = λ k more.
                  ap (λ (y : Candidate E). body_word S (words_of S rules rows ++ more) (get_or rules y.rule no_rule).body y.effect y.left y.right) q
                  ∙ ap (λ (v : Body). body_word S (words_of S rules rows ++ more) v c₀.effect c₀.left c₀.right) (ap (λ (v : ℕ). (get_or rules v no_rule).body) ri ∙ ap (λ (y : Rule). y.body) at ∙ e)
                  ∙ sp more;
              derived = subst (λ (y : Candidate E). Yields (spelled_values A S) rules (suc h) y.head (w, y.effect)) (sym q)
                  (x, listed, sym hd, subst (λ (v : Body). Gives (spelled_values A S) Y v (w, c₀.effect)) (sym e) g);
              size = ap (λ (y : Candidate E). y.len) q ∙ z;
            }

        by : (d : Body) → x.body ≡ d → In c (body_candidates A.forms rows x.head i d) → CandidateSound (suc h) rows c
        by empty e (inr m') = absurd m'
        by empty e (inl q) =
            made empty e (record { head = x.head; rule = i; effect = A.forms.of_empty; left = absent; right = absent; len = 0 }) q refl refl S.nothing
            (λ more. refl) (refl, refl) (capped-none ∙ ap capped (sym Z.of-nothing))
        by (one s) e m' =
            let t = map-in (sole x.head i) c (choices A.forms rows s) m' in
            let o = symbol-sound h rows b s t.0 t.1 in
            made (one s) e (sole x.head i t.0) t.2 refl refl o.word o.spelled o.derived o.size
        by (two s s') e m' =
            let t = pairs-out A rows x.head i c (choices A.forms rows s) (choices A.forms rows s') m' in
            let o = symbol-sound h rows b s t.0 t.3 in
            let o' = symbol-sound h rows b s' t.1 t.4 in
            made (two s s') e (paired x.head i t.0 t.1 t.2) t.6 refl refl (S.joined t.2 o.word o'.word)
            (λ more. ap₂ (S.joined t.2) (o.spelled more) (o'.spelled more))
            ((o.word, t.0.effect), (o'.word, t.1.effect), o.derived, o'.derived, (t.5, refl))
            (ap₂ (λ (u v : ℕ). capped (u + v)) o.size o'.size ∙ capped-capped (S.size o.word) (S.size o'.word) ∙ ap capped (sym (Z.of-joined t.2 o.word o'.word)))

    -- every candidate of a pass is sound
    pub candidates-sound : (h : ℕ) (rows : List (Row E)) → Sound h rows → (c : Candidate E) → In c (pass_candidates A.forms rows 0 rules) → CandidateSound (suc h) rows c
    candidates-sound h rows b c m =
        let r = pass_candidates-out A rows c rules 0 m in
        let at : get_or rules (0 + r.1) no_rule ≡ r.0 = ap (λ (z : ℕ). get_or rules z no_rule) (zero-add r.1) ∙ r.3 in
        body-sound h rows b r.0 (0 + r.1) r.2 at c r.4

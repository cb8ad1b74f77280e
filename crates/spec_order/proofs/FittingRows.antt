-- Every row of a check's journal fits the rules. Assumes nothing.
use Rattle.std.specs.Prelude.{◌≡◌, ◌⊎◌, true, ◌&&◌, ℕ, suc, ◌+◌, ◌≤◌, ◌<◌, length}
use Rattle.std.proofs.Math.Path.{refl, sym, ap, subst}
use Rattle.std.proofs.Common.{ap₂, ◌∙◌, inl, inr, le_refl, le_of_suc-le-suc, le_trans, not-suc-le-zero, eq-or-lt_of_le, arith, length-append}
use Rattle.std.proofs.Math.Bool.{Bool}
use mathlib.Core.List.{List, [], ◌∷◌, ◌++◌, map}
use Rattle.std.proofs.Math.Nat.{zero-add}
use Rattle.std.proofs.Math.Dec.{eqb, ltb}
use Rattle.std.proofs.Math.ListN.{get_or, get_or-append}
use Rattle.std.proofs.lemmas.List.{length-map}
use borrow.Author.Tests.{eqb-true, eq-eqb, ltb-true, lt-ltb}
use Rattle.spec_basics.specs.Elements.{In}
use Rattle.spec_basics.specs.Lists.{map-in, get_d_map}
use Rattle.spec_basics.specs.Tests.{and_intro, and-fst, and-snd}
use Rattle.spec_language.specs.Grammar.{Symbol, terminal, nonterminal, Body, empty, one, two, Rule, no_rule}
use Rattle.spec_order.specs.Algebra.{Forms, Algebra}
use Rattle.spec_order.specs.Candidates.{Choice, Candidate, sole, paired, bare, choices, body_candidates, pass_candidates}
use Rattle.spec_order.specs.Fitting.{pointer_fits, symbol_len, body_fits, row_fits}
use Rattle.spec_order.specs.Journal.{Row, absent, capped, no_row, live, live_of}
use Rattle.spec_order.proofs.Journals.{journal-ind}
use Rattle.spec_order.specs.Order.{born, retire, added, check}
use Rattle.spec_order.proofs.Soundness.{live_rows-out, pairs-out, pass_candidates-out}
use Rattle.spec_order.proofs.Truth.{length-added, last-added}

-- the fields that a pass leaves alone
abbrev core : {E : Type 0} → Row E → Row E
core r = record { head = r.head; rule = r.rule; effect = r.effect; left = r.left; right = r.right; len = r.len; birth = r.birth; retired = 0 }

module _ {E : Type 0} (A : Algebra E) where
  abbrev M : Forms E
  M = A.forms

  abbrev none_row : Row E
  none_row = no_row A.forms

  -- `rows` has the rows of `rows₀` at their places, with the same fields but for retirement
  pub record Keeps (rows₀ rows : List (Row E)) : Type 0 where
    pub least : length rows₀ ≤ length rows
    pub same : (j : ℕ) → j < length rows₀ → core (get_or rows j (no_row A.forms)) ≡ core (get_or rows₀ j (no_row A.forms))

  keeps-refl : (rows : List (Row E)) → Keeps rows rows
  keeps-refl rows = record { least = le_refl (length rows); same = λ j h. refl }

  keeps-added : (k : ℕ) (c : Candidate E) (rows : List (Row E)) → Keeps rows (added A.below k c rows)
  unfolding added retire
  keeps-added k c rows =
      record {
        least = omega (arith, length-added A k c rows);
        same = λ j h.
            ap core (get_or-append (map (retire A.below k c) rows) (born k c ∷ []) none_row j (subst (λ (x : ℕ). j < x) (sym (length-map rows (retire A.below k c))) h)
            ∙ get_d_map (retire A.below k c) none_row none_row rows j h);
      }

  pub keeps-more : (rows more : List (Row E)) → Keeps rows (rows ++ more)
  keeps-more rows more = record { least = omega (arith, length-append rows more); same = λ j h. ap core (get_or-append rows more none_row j h) }

  keeps-trans : (a b c : List (Row E)) → Keeps a b → Keeps b c → Keeps a c
  keeps-trans a b c p q = record { least = le_trans p.least q.least; same = λ j h. q.same j (le_trans h p.least) ∙ p.same j h }

  -- a row fits by its own fields and those of lower rows
  module _ (rows₀ rows : List (Row E)) (i i' : ℕ) (hi : i ≤ length rows₀) (up : i ≤ i') (keeps : Keeps rows₀ rows) where
    pointer-same : (s : Symbol) (p : ℕ) → pointer_fits M rows₀ i s p ≡ true → pointer_fits M rows i' s p ≡ true
    unfolding pointer_fits
    pointer-same (terminal c) p f = f
    pointer-same (nonterminal q) p f =
        let l = and-fst (ltb p i) (eqb (get_or rows₀ p none_row).head q) f in
        let e : core (get_or rows p none_row) ≡ core (get_or rows₀ p none_row) = keeps.same p (le_trans (ltb-true p i l) hi) in
        and_intro (ltb p i') (eqb (get_or rows p none_row).head q) (lt-ltb p i' (le_trans (ltb-true p i l) up))
        (ap (λ (x : Row E). eqb x.head q) e ∙ and-snd (ltb p i) (eqb (get_or rows₀ p none_row).head q) f)

    len-same : (s : Symbol) (p : ℕ) → pointer_fits M rows₀ i s p ≡ true → symbol_len M rows s p ≡ symbol_len M rows₀ s p
    unfolding pointer_fits symbol_len
    len-same (terminal c) p f = refl
    len-same (nonterminal q) p f =
        let e : core (get_or rows p none_row) ≡ core (get_or rows₀ p none_row) = keeps.same p (le_trans (ltb-true p i (and-fst (ltb p i) (eqb (get_or rows₀ p none_row).head q) f)) hi) in
        ap (λ (x : Row E). x.len) e

    body_same : (b : Body) (l r n : ℕ) → body_fits M rows₀ i b l r n ≡ true → body_fits M rows i' b l r n ≡ true
    unfolding body_fits
    body_same empty l r n f = f
    body_same (one s) l r n f =
        let P = pointer_fits M rows₀ i s l in
        let N = eqb n (capped (symbol_len M rows₀ s l)) in
        let h = and-fst (P && eqb r absent) N f in
        let a = and-fst P (eqb r absent) h in
        and_intro (pointer_fits M rows i' s l && eqb r absent) (eqb n (capped (symbol_len M rows s l)))
        (and_intro (pointer_fits M rows i' s l) (eqb r absent) (pointer-same s l a) (and-snd P (eqb r absent) h))
        (ap (λ (x : ℕ). eqb n (capped x)) (len-same s l a) ∙ and-snd (P && eqb r absent) N f)
    body_same (two s t) l r n f =
        let P = pointer_fits M rows₀ i s l in
        let Q = pointer_fits M rows₀ i t r in
        let N = eqb n (capped (symbol_len M rows₀ s l + symbol_len M rows₀ t r)) in
        let h = and-fst (P && Q) N f in
        let a = and-fst P Q h in
        let b = and-snd P Q h in
        and_intro (pointer_fits M rows i' s l && pointer_fits M rows i' t r) (eqb n (capped (symbol_len M rows s l + symbol_len M rows t r)))
        (and_intro (pointer_fits M rows i' s l) (pointer_fits M rows i' t r) (pointer-same s l a) (pointer-same t r b))
        (ap₂ (λ (x y : ℕ). eqb n (capped (x + y))) (len-same s l a) (len-same t r b) ∙ and-snd (P && Q) N f)

  -- ---- the length of a row that fits is at most 65,535

  body-short : (rows : List (Row E)) (i : ℕ) (b : Body) (l r n : ℕ) → body_fits M rows i b l r n ≡ true → capped n ≡ n
  unfolding body_fits capped
  body-short rows i empty l r n f = let e = eqb-true n 0 (and-snd (eqb l absent && eqb r absent) (eqb n 0) f) in omega (arith, e)
  body-short rows i (one s) l r n f =
      let m = capped (symbol_len M rows s l) in
      let e = eqb-true n m (and-snd (pointer_fits M rows i s l && eqb r absent) (eqb n m) f) in
      omega (arith, e)
  body-short rows i (two s t) l r n f =
      let m = capped (symbol_len M rows s l + symbol_len M rows t r) in
      let e = eqb-true n m (and-snd (pointer_fits M rows i s l && pointer_fits M rows i t r) (eqb n m) f) in
      omega (arith, e)

  row-short : (rows : List (Row E)) (rules : List Rule) (i : ℕ) → row_fits M rows rules i ≡ true → capped (get_or rows i none_row).len ≡ (get_or rows i none_row).len
  unfolding row_fits
  row-short rows rules i f =
      let r : Row E = get_or rows i none_row in
      let x = get_or rules r.rule no_rule in
      let body = body_fits M rows i x.body r.left r.right r.len in
      body-short rows i x.body r.left r.right r.len (and-snd (ltb r.rule (length rules) && eqb x.head r.head) body f)

  -- ---- the candidates of a pass fit

  module _ (rules : List Rule) (rows : List (Row E)) where
    choice-fits : (s : Symbol) (c : Choice E) → In c (choices M rows s) → (pointer_fits M rows (length rows) s c.pointer ≡ true) × (c.len ≡ symbol_len M rows s c.pointer)
    unfolding choices pointer_fits symbol_len live_of
    choice-fits (terminal a) c (inr m) = absurd m
    choice-fits (terminal a) c (inl e) = (ap (λ (x : Choice E). eqb x.pointer absent) e, ap (λ (x : Choice E). x.len) e)
    choice-fits (nonterminal p) c m =
        let r = live_rows-out p 0 c none_row rows m in
        let q : c.pointer ≡ r.j = r.pointer ∙ zero-add r.j in
        let row : Row E = get_or rows r.j none_row in (
          subst (λ (x : ℕ). (ltb x (length rows) && eqb (get_or rows x none_row).head p) ≡ true) (sym q)
              (and_intro (ltb r.j (length rows)) (eqb row.head p) (lt-ltb r.j (length rows) r.inside) (and-fst (eqb row.head p) (live row) r.alive)),
          r.len ∙ ap (λ (x : ℕ). (get_or rows x none_row).len) (sym q),
        )

    pub record CandidateFits (c : Candidate E) : Type 0 where
      pub rule-in : c.rule < length rules
      pub head-is : (get_or rules c.rule no_rule).head ≡ c.head
      pub body-fits : body_fits A.forms rows (length rows) (get_or rules c.rule no_rule).body c.left c.right c.len ≡ true

    abbrev fits_body : Body → Candidate E → Bool
    fits_body b x = body_fits M rows (length rows) b x.left x.right x.len

    -- where the lengths of the rows are at most 65,535
    module _ (short : (i : ℕ) → i < length rows → capped (get_or rows i none_row).len ≡ (get_or rows i none_row).len) where
      symbol-short : (s : Symbol) (p : ℕ) → pointer_fits M rows (length rows) s p ≡ true → capped (symbol_len M rows s p) ≡ symbol_len M rows s p
      unfolding pointer_fits symbol_len capped
      symbol-short (terminal c) p f = refl
      symbol-short (nonterminal q) p f = short p (ltb-true p (length rows) (and-fst (ltb p (length rows)) (eqb (get_or rows p none_row).head q) f))

      body-candidate-fits : (p r : ℕ) (b : Body) (c : Candidate E) → In c (body_candidates M rows p r b) → (c.head ≡ p) × (c.rule ≡ r) × (fits_body b c ≡ true)
      unfolding body_candidates body_fits sole paired bare
      body-candidate-fits p r empty c (inr m) = absurd m
      body-candidate-fits p r empty c (inl e) = (ap (λ (x : Candidate E). x.head) e, ap (λ (x : Candidate E). x.rule) e, ap (fits_body empty) e)
      body-candidate-fits p r (one s) c m =
          let t = map-in (sole p r) c (choices M rows s) m in
          let a : Choice E = t.0 in
          let f = choice-fits s a t.1 in (
            ap (λ (x : Candidate E). x.head) t.2,
            ap (λ (x : Candidate E). x.rule) t.2,
            ap (fits_body (one s)) t.2
                ∙ and_intro (pointer_fits M rows (length rows) s a.pointer && eqb absent absent) (eqb a.len (capped (symbol_len M rows s a.pointer)))
                (and_intro (pointer_fits M rows (length rows) s a.pointer) (eqb absent absent) f.0 refl)
                (eq-eqb a.len (capped (symbol_len M rows s a.pointer)) (f.1 ∙ sym (symbol-short s a.pointer f.0))),
          )
      body-candidate-fits p r (two s s') c m =
          let t = pairs-out A rows p r c (choices M rows s) (choices M rows s') m in
          let a : Choice E = t.0 in
          let b : Choice E = t.1 in
          let f = choice-fits s a t.3 in
          let g = choice-fits s' b t.4 in
          let N = eqb (capped (a.len + b.len)) (capped (symbol_len M rows s a.pointer + symbol_len M rows s' b.pointer)) in
          let P = pointer_fits M rows (length rows) s a.pointer in
          let Q = pointer_fits M rows (length rows) s' b.pointer in (
            ap (λ (x : Candidate E). x.head) t.6,
            ap (λ (x : Candidate E). x.rule) t.6,
            ap (fits_body (two s s')) t.6
                ∙ and_intro (P && Q) N (and_intro P Q f.0 g.0)
                (eq-eqb (capped (a.len + b.len)) (capped (symbol_len M rows s a.pointer + symbol_len M rows s' b.pointer)) (ap₂ (λ (x y : ℕ). capped (x + y)) f.1 g.1)),
          )

      candidate-fits : (c : Candidate E) → In c (pass_candidates M rows 0 rules) → CandidateFits c
      candidate-fits c m =
          let t = pass_candidates-out A rows c rules 0 m in
          let f = body-candidate-fits t.0.head (0 + t.1) t.0.body c t.4 in
          let e : c.rule ≡ t.1 = f.1 ∙ zero-add t.1 in
          let x : get_or rules c.rule no_rule ≡ t.0 = ap (λ (z : ℕ). get_or rules z no_rule) e ∙ t.3 in
          record {
            rule-in = subst (λ (z : ℕ). z < length rules) (sym e) t.5;
            head-is = ap (λ (z : Rule). z.head) x ∙ sym f.0;
            body-fits = subst (λ (z : Rule). fits_body z.body c ≡ true) (sym x) f.2;
          }

  -- ---- the rows of a journal that grows still fit

  module _ (rules : List Rule) where
    abbrev pub AllFit : List (Row E) → Type 0
    AllFit rows = (i : ℕ) → i < length rows → row_fits A.forms rows rules i ≡ true

    -- the row i' of rows has the fields of c, which fits rows₀ at i
    fits-as : (rows₀ rows : List (Row E)) (i i' : ℕ) → i ≤ length rows₀ → i ≤ i' → Keeps rows₀ rows
        → (c : Row E) → core (get_or rows i' none_row) ≡ core c → c.rule < length rules → (get_or rules c.rule no_rule).head ≡ c.head
        → body_fits M rows₀ i (get_or rules c.rule no_rule).body c.left c.right c.len ≡ true → row_fits M rows rules i' ≡ true
    unfolding row_fits
    fits-as rows₀ rows i i' hi up keeps c e l h f =
        let D : Row E → Bool = λ x. body_fits M rows i' (get_or rules x.rule no_rule).body x.left x.right x.len in
        ap (λ (x : Row E). (ltb x.rule (length rules) && eqb (get_or rules x.rule no_rule).head x.head) && body_fits M rows i' (get_or rules x.rule no_rule).body x.left x.right x.len) e
        ∙ and_intro (ltb c.rule (length rules) && eqb (get_or rules c.rule no_rule).head c.head) (D c)
        (and_intro (ltb c.rule (length rules)) (eqb (get_or rules c.rule no_rule).head c.head) (lt-ltb c.rule (length rules) l) (eq-eqb (get_or rules c.rule no_rule).head c.head h))
        (body_same rows₀ rows i i' hi up keeps (get_or rules c.rule no_rule).body c.left c.right c.len f)

    -- a row still fits where the rows are kept
    pub fits_on : (rows rows' : List (Row E)) → Keeps rows rows' → (i : ℕ) → i < length rows → row_fits A.forms rows rules i ≡ true → row_fits A.forms rows' rules i ≡ true
    unfolding row_fits
    fits_on rows rows' keeps i l f =
        let r : Row E = get_or rows i none_row in
        let a = ltb r.rule (length rules) in
        let b = eqb (get_or rules r.rule no_rule).head r.head in
        let d = body_fits M rows i (get_or rules r.rule no_rule).body r.left r.right r.len in
        fits-as rows rows' i i (omega arith) (le_refl i) keeps
        r (keeps.same i l) (ltb-true r.rule (length rules) (and-fst a b (and-fst (a && b) d f)))
        (eqb-true (get_or rules r.rule no_rule).head r.head (and-snd a b (and-fst (a && b) d f))) (and-snd (a && b) d f)

    fit-added : (k : ℕ) (c : Candidate E) (rows₀ rows : List (Row E)) → CandidateFits rules rows₀ c → Keeps rows₀ rows → AllFit rows → AllFit (added A.below k c rows)
    unfolding row_fits born
    fit-added k c rows₀ rows cf keeps all i h = by (eq-or-lt_of_le (le_of_suc-le-suc (subst (λ (x : ℕ). i < x) (length-added A k c rows) h)))
      where
        rows' : List (Row E)
        rows' = added A.below k c rows

        by : (i ≡ length rows) ⊎ (i < length rows) → row_fits M (added A.below k c rows) rules i ≡ true
        by (inl e) =
            fits-as rows₀ rows' (length rows₀) i (le_refl (length rows₀)) (omega (arith, keeps.least)) (keeps-trans rows₀ rows rows' keeps (keeps-added k c rows))
            (born k c) (ap (λ (x : ℕ). core (get_or rows' x none_row)) e ∙ ap core (last-added A k c rows)) cf.rule-in cf.head-is cf.body-fits
        by (inr l) = fits_on rows rows' (keeps-added k c rows) i l (all i l)

    -- every row of a check's journal fits
    pub check-fits : (J B : ℕ) → AllFit (check A rules J B).journal
    unfolding check
    check-fits J B =
        journal-ind A rules J B AllFit (λ rows₀ rows. Keeps rows₀ rows × AllFit rows)
        (λ rows p. (keeps-refl rows, p))
        (λ h rows₀ rows c m d p q. (keeps-trans rows₀ rows (added A.below (suc h) c rows) q.0 (keeps-added (suc h) c rows), fit-added (suc h) c rows₀ rows (candidate-fits rules rows₀ (λ i l. row-short rows₀ rules i (p i l)) c m) q.0 q.1))
        (λ rows₀ rows q. q.1)
        (suc J) 0 (record { rows = []; joins = 0 }) (λ i h. absurd (not-suc-le-zero h))

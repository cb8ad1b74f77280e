-- One pass, place by place: the candidates left from the place give the answer, and the rows that the pass began with still form what they
-- formed then. Assumes nothing.
use Rattle.std.specs.Prelude.{◌≡◌, Bool, true, false, ◌&&◌, ◌||◌, ℕ, suc, ◌≤◌, ◌<◌, eqb, ltb, get_or}
use Rattle.std.proofs.Math.Path.{refl, ap, ap₂}
use Rattle.std.proofs.Common.{sym, ◌∙◌, subst, inl, le_refl, arith, eqb-true, ltb-true}
use mathlib.Core.List.{List, [], ◌∷◌, map}
use Rattle.std.proofs.Math.Logic.{inr}
use Rattle.std.proofs.Math.ListN.{length, length-map, length-append, get_or-append, get_or-eq_default}
use Rattle.spec_basics.specs.Elements.{In}
use Rattle.spec_basics.specs.Lists.{get_d_map}
use Rattle.spec_basics.specs.Tests.{and-fst, and-snd}
use Rattle.spec_language.specs.Grammar.{Symbol, terminal, nonterminal, Body, empty, one, two}
use Rattle.spec_order.specs.Algebra.{Laws}
use Rattle.spec_order.specs.Candidates.{Choice, Candidate, sole, paired, bare}
use Rattle.spec_order.proofs.Coverage.{dropped-added}
use Rattle.spec_order.specs.Journal.{Row, absent}
use Rattle.spec_order.specs.Order as order
use Rattle.spec_order.specs.Order.{Progress, Verdict, going, and_then, dropped, walk, retire, born, added}
use Rattle.spec_order.proofs.Repeating.{PointsBelow, Repeats, pass-points}
use Rattle.spec_order.proofs.Walking.{Post, step-post}
use Rattle.spec_calls.specs.Checking.{journal_limit}
use Rattle.search_state.specs.Forming.{Part, none, some, left_part, right_part, entry_at, Composing, row_choice, symbol_choice, part_choice, joined, combined}
use Rattle.search_state.specs.declared.Place.{Place}
use Rattle.search_state.specs.Layout.{lists_in}
use Rattle.search_order.specs.Candidates.{candidate_at, LeftFrom}
use Rattle.search_order.specs.CandidateLaws.{left-first, left-next}
use Rattle.search_order.specs.Lists.{Listed}
use Rattle.search_order.specs.Places.{FirstPlace, NextPlace}
use Rattle.search_order.specs.PlacesLeft.{PassFrom}
use Rattle.search_order.specs.PlacesLeftLaws.{places-next, places-first}
use Rattle.search_spans.specs.Spans.{Measured}
use Rattle.search_links.specs.Covers.{Covering}
use Rattle.search_links.specs.RowLaws.{rows-length}
use Rattle.search_laws.specs.Meanings.{progress_of, counts_in, with_join}
use Rattle.search_laws.specs.Problems.{RuleBytes, Problem, algebra_of, rules_in, first_rows, unread}
use Rattle.search_laws.specs.Steps.{is_before, repeats_at}
use Rattle.search_laws.specs.Walks.{consider_in, walk_in, candidates_in, candidate_in, pass_in, Known, KnownFrom}
use Rattle.search_laws.specs.Clauses.{PassReady, Answers}
use Rattle.search_laws.specs.Deciding.{answers-dropped}
use Rattle.search_laws.specs.Remaining.{Remaining, EndsFrom, remaining-start, remaining-going, remaining-stopped, remaining-none}
use Rattle.search_state.specs.declared.Counts.{Counts}
use Rattle.search_laws.specs.declared.Outcome.TheVariants.{Going}
use Rattle.search_laws.specs.declared.Outcome.{Outcome}
use Rattle.search_state.specs.declared.Terms.{Terms}

-- ---- rows that the pass began with

-- `unread` stands where there is no row
module _ {E : Type 0} (unread : Row E) where
  -- each is there, with the effect and the length that it had
  abbrev Kept : List (Row E) → List (Row E) → Type 0
  Kept A rows = (length A ≤ length rows) × ((i : ℕ) → i < length A → row_choice i (get_or rows i unread) ≡ row_choice i (get_or A i unread))

  kept-added : (below : E → E → Bool) (k : ℕ) (c : Candidate E) (A rows : List (Row E)) → Kept A rows → Kept A (added below k c rows)
  unfolding added retire
  kept-added below k c A rows h =
      let f : Row E → Row E = retire below k c in
      let n : length (map f rows) ≡ length rows = length-map rows f in (
        omega (arith, h.0, n, length-append (map f rows) (born k c ∷ [])),
        λ i l.
            let m : i < length rows = omega (arith, l, h.0) in
            ap (row_choice i) (get_or-append (map f rows) (born k c ∷ []) unread i (omega (arith, m, n)) ∙ get_d_map f unread unread rows i m) ∙ h.1 i l,
      )

-- a candidate that goes on is one join more, over the same rows or with one added
consider-goes : {E R : Type 0} (P : Problem E R) (b : Terms) (J : ℕ) (I : Progress E → Type 0) (c : Candidate E) (s s' : Progress E) → going s' ≡ consider_in P b J c s
    → I (record { rows = s.rows; joins = suc s.joins }) → I (record { rows = added P.below b.pass c s.rows; joins = suc s.joins }) → I s'
consider-goes {E} P b J I c s s' e p q =
    subst (Post I Any) (sym e)
    (step-post (algebra_of P) J b.budget b.pass I Any c s (λ e₁. tt) (λ e₁ e₂. p) (λ e₁ e₂ e₃. tt) (λ e₁ e₂ e₃ e₄. tt) (λ e₁ e₂ e₃ e₄. q))
  where
    Any : Verdict → ℕ → Progress E → Type 0
    Any v i u = Unit

-- ---- what is formed from them

-- the rows A are kept among `rows`, none of which has the number of no row
module _ {E : Type 0} (F : Composing E) (unread : Row E) (A rows : List (Row E)) (few : length rows ≤ absent) (kept : Kept unread A rows) where
  row_same : (i : ℕ) → PointsBelow (length A) i → row_choice i (get_or rows i unread) ≡ row_choice i (get_or A i unread)
  row_same i (inl l) = kept.1 i l
  row_same i (inr e) =
      ap (row_choice i) (get_or-eq_default rows unread (omega (arith, few, e)) ∙ sym (get_or-eq_default A unread (omega (arith, kept.0, few, e))))

  symbol-same : (s : Symbol) (i : ℕ) → PointsBelow (length A) (symbol_choice F s i (get_or A i unread)).pointer → symbol_choice F s i (get_or rows i unread) ≡ symbol_choice F s i (get_or A i unread)
  symbol-same (terminal c) i h = refl
  symbol-same (nonterminal x) i h = row_same i h

  -- a candidate of rows of A is formed from the used rows as it is from A
  formed-same : (rules : RuleBytes) (p : Place) → Repeats (length A) (candidate_at F unread A rules p) → candidate_at F unread rows rules p ≡ candidate_at F unread A rules p
  unfolding bare sole paired
  formed-same rules p = by (entry_at rules p.rule).body
    where
      formed : Body → List (Row E) → Candidate E
      formed b rs = combined F (entry_at rules p.rule).head p.rule b (part_choice F (left_part b) p.left (get_or rs p.left unread)) (part_choice F (right_part b) p.right (get_or rs p.right unread))

      by : (b : Body) → Repeats (length A) (formed b A) → formed b rows ≡ formed b A
      by empty h = refl
      by (one s) h = ap (λ (c : Choice E). sole (entry_at rules p.rule).head p.rule c) (symbol-same s p.left h.0)
      by (two s s') h = ap₂ (joined F (entry_at rules p.rule).head p.rule) (symbol-same s p.left h.0) (symbol-same s' p.right h.1)

-- what is formed at a place whose rows are among the first n points to no others
before-below : (n i : ℕ) → is_before n i ≡ true → PointsBelow n i
before-below n i e = by (ltb i n) refl e
  where
    by : (b : Bool) → ltb i n ≡ b → (b || eqb i absent) ≡ true → PointsBelow n i
    by true l h = inl (ltb-true i n l)
    by false l h = inr (eqb-true i absent h)

module _ {E : Type 0} (F : Composing E) where
  part-below : (p : Part) (n i : ℕ) (r : Row E) → PointsBelow n i → PointsBelow n (part_choice F p i r).pointer
  part-below none n i r h = inr refl
  part-below (some (terminal c)) n i r h = inr refl
  part-below (some (nonterminal x)) n i r h = h

  formed-repeats : (unread : Row E) (n : ℕ) (A : List (Row E)) (rules : RuleBytes) (p : Place) → repeats_at n p ≡ true → (0 < n) × Repeats n (candidate_at F unread A rules p)
  unfolding bare sole paired
  formed-repeats unread n A rules p e =
      let both = and-snd (ltb 0 n) (is_before n p.left && is_before n p.right) e in
      (ltb-true 0 n (and-fst (ltb 0 n) (is_before n p.left && is_before n p.right) e), by (entry_at rules p.rule).body (before-below n p.left (and-fst (is_before n p.left) (is_before n p.right) both)) (before-below n p.right (and-snd (is_before n p.left) (is_before n p.right) both)))
    where
      by : (b : Body) → PointsBelow n p.left → PointsBelow n p.right → Repeats n (combined F (entry_at rules p.rule).head p.rule b (part_choice F (left_part b) p.left (get_or A p.left unread)) (part_choice F (right_part b) p.right (get_or A p.right unread)))
      by empty f g = (inr refl, inr refl)
      by (one s) f g = (part-below (some s) n p.left (get_or A p.left unread) f, inr refl)
      by (two s s') f g = (part-below (some s) n p.left (get_or A p.left unread) f, part-below (some s') n p.right (get_or A p.right unread) g)

-- ---- the loop

-- the invariant: the pass under the terms b, which began with the counts `first` over the journal j₁, is at the place p, with the counts w over
-- the journal j and the table t
pub record InPass {E R : Type 0} (b : Terms) (P : Problem E R) (first : Counts) (j₁ : List R) (t : List ℕ) (w : Counts) (j : List R) (p : Place) : Type 0 where
  -- the rows that the pass began with: the lists have those that were live, and are measured, the place is one of theirs, and all are kept
  pub rows : List (Row E)
  pub listed : Listed rows (lists_in t)
  pub measured : Measured b.old (lists_in t)
  pub places : PassFrom (lists_in t) P.rules p
  pub kept : Kept (unread P) rows (first_rows P w.used j)
  -- what is left of the pass: each points to these rows, or to none
  pub candidates : List (Candidate E)
  pub stands : LeftFrom P.composing (unread P) rows P.rules (lists_in t) p candidates
  pub points : (c : Candidate E) → In c candidates → Repeats (length rows) c
  pub known : Known P b.old candidates (first_rows P w.used j)
  pub left : Remaining P.row_of b.budget (pass_in P b first j₁) (walk_in P b (length j₁) candidates (progress_of P.row_of w j)) first j₁ w j
  pub limit : length j₁ ≤ journal_limit
  pub covering : Covering (first_rows P w.used j) t

pub pass-start : {E R : Type 0} {b : Terms} {P : Problem E R} {first : Counts} {j₁ : List R} {t : List ℕ} {p : Place} → Listed (first_rows P first.used j₁) (lists_in t) → Measured b.old (lists_in t) → PassReady P.row_of b first j₁ t
    → KnownFrom P b.old first.used j₁ → FirstPlace (lists_in t) P.rules 0 p → InPass b P first j₁ t first j₁ p
pass-start {E} {R} {b} {P} {first} {j₁} {t} {p} l m r k o =
    let A = first_rows P first.used j₁ in
    record {
      rows = A;
      listed = l;
      measured = m;
      places = places-first A (omega (arith, rows-length P.row_of first.used j₁ r.room, r.room, r.limit)) l o;
      kept = (le_refl (length A), λ i h. refl);
      candidates = candidates_in P A;
      stands = left-first P.composing (unread P) A P.rules (lists_in t) l p o;
      points = pass-points (algebra_of P) A (rules_in P) 0;
      known = k;
      left = remaining-start r.room r.paid;
      limit = r.limit;
      covering = r.covering;
    }

module _ {E R : Type 0} {b : Terms} {P : Problem E R} {first : Counts} {j₁ : List R} {t : List ℕ} {w : Counts} {j : List R} {p : Place} (g : InPass b P first j₁ t w j p) where
  abbrev used : List (Row E)
  used = first_rows P w.used j

  abbrev at : Progress E
  at = progress_of P.row_of w j

  -- these candidates are left
  abbrev Rest : List (Candidate E) → Type 0
  Rest cs = Remaining P.row_of b.budget (pass_in P b first j₁) (walk_in P b (length j₁) cs at) first j₁ w j

  pub pass-end : length P.rules ≤ p.rule → Answers P.row_of b.budget (pass_in P b first j₁) first j₁ j (Going w)
  unfolding walk
  pass-end h = by g.candidates g.stands g.left
    where
      by : (cs : List (Candidate E)) → LeftFrom P.composing (unread P) g.rows P.rules (lists_in t) p cs → Rest cs → Answers P.row_of b.budget (pass_in P b first j₁) first j₁ j (Going w)
      by [] s l = remaining-none l
      by (c ∷ cs) s l = absurd (omega (arith, h, s.0))

  -- the candidate is formed from the used rows
  module _ (h : p.rule < length P.rules) {c : Candidate E} (e : c ≡ candidate_in P used p) where
    -- the candidate is the first that is left
    abbrev Next : Candidate E → List (Candidate E) → Type 0
    Next d ds = (d ≡ c) × ((q : Place) → NextPlace (lists_in t) P.rules p q → LeftFrom P.composing (unread P) g.rows P.rules (lists_in t) q ds)
        × Rest (d ∷ ds)
        × Known P b.old (d ∷ ds) used
        × ((f : Candidate E) → In f (d ∷ ds) → Repeats (length g.rows) f)

    -- what the working order makes of it
    abbrev given : order.Outcome E
    given = consider_in P b (length j) c at

    few : length used ≤ absent
    few = omega (arith, rows-length P.row_of w.used j (omega (arith, g.left.room, g.left.same)), g.left.room, g.limit)

    next : (d : Candidate E) × (ds : List (Candidate E)) × Next d ds
    next = by g.candidates g.stands g.left g.known g.points
      where
        by : (cs : List (Candidate E)) → LeftFrom P.composing (unread P) g.rows P.rules (lists_in t) p cs → Rest cs → Known P b.old cs used → ((f : Candidate E) → In f cs → Repeats (length g.rows) f) → (d : Candidate E) × (ds : List (Candidate E)) × Next d ds
        by [] z l k m = absurd (z h)
        by (d ∷ ds) z l k m = (
          d,
          ds,
          (
            z.1
                ∙ sym (formed-same P.composing (unread P) g.rows used few g.kept P.rules p (subst (Repeats (length g.rows)) z.1 (m d (inl refl))))
                ∙ sym e,
            λ q f. left-next P.composing (unread P) g.rows P.rules (lists_in t) g.listed p q f d ds z,
            l,
            k,
            m,
          ),
        )

    -- it would be dropped, if the pass before formed it
    there : 0 < b.old → Repeats b.old c → dropped P.below c used ≡ true
    there z y = subst (λ (d : Candidate E). dropped P.below d used ≡ true) next.2.0 (next.2.3 z next.0 (inl refl) (subst (Repeats b.old) (sym next.2.0) y))

    others : Known P b.old next.1 used
    others z d m e = next.2.3 z d (inr m) e

    module _ {j' : List R} (s : length j' ≡ length j) {r : Outcome} (a : Answers P.row_of b.budget given w j j' r) where
      -- it is taken, and the others are left
      split : walk_in P b (length j₁) (next.0 ∷ next.1) at ≡ and_then given (walk_in P b (length j₁) next.1)
      unfolding walk
      split = ap₂ (λ (n : ℕ) (d : Candidate E). and_then (consider_in P b n d at) (walk_in P b (length j₁) next.1)) (sym g.left.same) next.2.0

      pub pass-stopped : EndsFrom P.row_of r → Answers P.row_of b.budget (pass_in P b first j₁) first j₁ j' r
      pass-stopped z = remaining-stopped next.2.2 given (walk_in P b (length j₁) next.1) split j' s r z a

      gone : {w' : Counts} → r ≡ Going w' → Answers P.row_of b.budget given w j j' (Going w')
      gone z = subst (λ (o : Outcome). Answers P.row_of b.budget given w j j' o) z a

      -- the pass goes on at the next place, over a table with the same lists
      pub pass-going : Laws (algebra_of P) → {w' : Counts} → r ≡ Going w' → {t' : List ℕ} → lists_in t' ≡ lists_in t → Covering (first_rows P (counts_in r).used j') t' → {q : Place} → NextPlace (lists_in t') P.rules p q → InPass b P first j₁ t' w' j' q
      pass-going L {w'} z {t'} u v {q} f =
          let x = gone z in
          record {
            rows = g.rows;
            listed = subst (Listed g.rows) (sym u) g.listed;
            measured = subst (Measured b.old) (sym u) g.measured;
            places = subst (λ (lists : List ℕ). PassFrom lists P.rules q) (sym u) (places-next h (subst (λ (lists : List ℕ). NextPlace lists P.rules p q) u f) g.places).0;
            kept = consider-goes P b (length j) (λ y. Kept (unread P) g.rows y.rows) c at (progress_of P.row_of w' j') x.answer g.kept (kept-added (unread P) P.below b.pass c g.rows used g.kept);
            candidates = next.1;
            stands = subst (λ (lists : List ℕ). LeftFrom P.composing (unread P) g.rows P.rules lists q next.1) (sym u) (next.2.1 q (subst (λ (lists : List ℕ). NextPlace lists P.rules p q) u f));
            points = λ d m. next.2.4 d (inr m);
            known = consider-goes P b (length j) (λ y. Known P b.old next.1 y.rows) c at (progress_of P.row_of w' j') x.answer others (λ z d m e. dropped-added (algebra_of P) L b.pass c d used (others z d m e));
            left = remaining-going next.2.2 given (walk_in P b (length j₁) next.1) split j' s w' x;
            limit = g.limit;
            covering = subst (λ (o : Outcome). Covering (first_rows P (counts_in o).used j') t') z v;
          }

  -- a candidate that a live row covers is one join, and nothing else
  pub pass-covered : Laws (algebra_of P) → p.rule < length P.rules → w.joins < b.budget → dropped P.below (candidate_in P used p) used ≡ true → {q : Place} → NextPlace (lists_in t) P.rules p q
      → InPass b P first j₁ t (with_join w) j q
  pass-covered L h paid e {q} f =
      let c : Candidate E = candidate_in P used p in
      let room : w.used ≤ length j = omega (arith, g.left.room, g.left.same) in
      pass-going h {c = c} refl refl (answers-dropped P b c w j room g.left.paid (λ y. omega (arith, y, paid)) e) L refl refl g.covering f

  -- a candidate that the pass before formed is one join, and nothing else
  pub pass-over : Laws (algebra_of P) → p.rule < length P.rules → w.joins < b.budget → repeats_at b.old p ≡ true → {q : Place} → NextPlace (lists_in t) P.rules p q
      → InPass b P first j₁ t (with_join w) j q
  pass-over L h paid e {q} f =
      let c : Candidate E = candidate_in P used p in
      let z = formed-repeats P.composing (unread P) b.old used P.rules p e in
      pass-covered L h paid (there h {c = c} refl z.0 z.1) f

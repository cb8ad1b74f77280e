-- The steps of the search between candidates: each comes to where the working order is. Assumes nothing.
use Rattle.std.specs.Prelude.{◌≡◌, refl, Bool, true, false, T, List, ℕ, ◌+◌, ◌≤◌, ◌<◌, ltb, length}
use Rattle.std.proofs.Common.{sym, ap, ◌∙◌, subst, le_refl, le_trans, arith, leb-true, leb-false, eq-eqb, ne_eqb, ltb-true, ltb-false}
use Rattle.spec_order.specs.Algebra.{Laws}
use Rattle.spec_order.specs.Candidates.{Candidate}
use Rattle.spec_order.specs.Journal.{Row}
use Rattle.spec_order.specs.Order.{has_row}
use Rattle.search_state.specs.declared.Place.{Place}
use Rattle.search_state.specs.Layout.{row_cells, lists_in}
use Rattle.spec_basics.specs.Lists.{each_same}
use Rattle.spec_calls.specs.Base.{members_of}
use Rattle.spec_calls.proofs.MemberLaws.{member-bit}
use Rattle.search_order.specs.Lists.{live_numbers, Listed}
use Rattle.search_order.specs.Places as places
use Rattle.search_order.specs.PlacesLeft.{PassFrom}
use Rattle.search_order.specs.PlacesLeftLaws.{places-first}
use Rattle.search_spans.specs.SpanLaws.{measures-listed}
use Rattle.search_links.specs.CoverLaws.{linked-live, covering-links}
use Rattle.search_links.specs.Covers.{is_linked, Covering}
use Rattle.search_links.specs.Listing.{Gathered, gathered-listed, gathered-covering}
use Rattle.search_links.specs.RowLaws.{rows-length}
use Rattle.search_state.specs.Budgets.{is_spent}
use Rattle.search_state.specs.declared.Counts.{Counts}
use Rattle.search_state.specs.Phases.{is_going}
use Rattle.search_state.specs.declared.Phase.TheVariants as phase
use Rattle.search_state.specs.declared.Phase.{Phase}
use Rattle.search_state.specs.declared.State.{State}
use Rattle.search_state.specs.declared.Terms.{Terms}
use Rattle.search_state.specs.declared.Unbroken.TheVariants as unbroken
use Rattle.search_state.specs.declared.Unbroken.{Unbroken}
use Rattle.search_laws.specs.Closing.{Again, Done, end_by, end_of}
use Rattle.search_laws.specs.Clauses.{PassReady, Answers, Checked}
use Rattle.search_laws.specs.Deciding.{answers-spent}
use Rattle.search_laws.specs.declared.Totals.{Totals}
use Rattle.search_laws.specs.Meanings.{counts_in, in_next_pass, totals_of, finished_by, answer_at, answer_numbered, answer_in, code_of, unbroken_at}
use Rattle.search_laws.specs.Problems.{RuleBytes, Problem, algebra_of, first_rows, terms_of}
use Rattle.search_laws.specs.Passes.{AtPass, pass-done, pass-again, pass-known}
use Rattle.search_laws.specs.Passing.{InPass, pass-start, pass-end, pass-stopped}
use Rattle.search_laws.specs.Steps.{MeasuresIn, LinksAlong, PassesOver}
use Rattle.search_laws.specs.StepLaws.{over-counted}
use Rattle.search_laws.specs.PassingOver.{over-stands}
use Rattle.search_laws.specs.Running.{target, InLimits, PassBegun, Onward}
use Rattle.search_laws.specs.States.{ending, ended, standing_by, standing, all_linked, finished, opening_by, opening}
use Rattle.search_laws.specs.Walks.{candidate_in, pass_in, nonempty_in, KnownFrom}
use Rattle.search_laws.specs.declared.Answer.TheVariants as answer
use Rattle.search_laws.specs.declared.Answer.{Answer}
use Rattle.search_laws.specs.declared.Outcome.TheVariants as outcome
use Rattle.search_laws.specs.declared.Outcome.{Outcome}
use Rattle.search_laws.specs.declared.Reached.{Reached}
use Rattle.search_laws.specs.declared.Stop.TheVariants as stop

-- the lists of the nonterminals whose words count have rows exactly where each of these has a live row
all-linked : {E R : Type 0} (P : Problem E R) (u : ℕ) (j : List R) (t : List ℕ) → length (first_rows P u j) ≤ row_cells → Covering (first_rows P u j) t → all_linked P.starts t ≡ nonempty_in P u j
unfolding has_row
all-linked P u j t few c =
    each_same (λ (p : ℕ). is_linked p t) (has_row (first_rows P u j)) (members_of P.starts) (λ p m. linked-live (first_rows P u j) t few c p (omega (arith, (member-bit P.starts p m).0)))

-- an end does not go on
ending-stays : (g : Phase) → T (is_going (ending g)) → ⊥
ending-stays phase.Going z = z
ending-stays phase.Waiting z = z
ending-stays (phase.Ended v) z = z
ending-stays (phase.Broken i) z = z

-- a verdict's number gives the verdict back, and not the broken one; and a search that ended with it answers so
pub unbroken-back : (v : Unbroken) (n : Totals) → (answer_numbered (code_of v) 0 n ≡ answer.Ended v n) × (unbroken_at (code_of v) ≡ v) × (answer_at (phase.Ended v) n ≡ answer.Ended v n)
unbroken-back unbroken.Holds n = (refl, refl, refl)
unbroken-back unbroken.Full n = (refl, refl, refl)
unbroken-back unbroken.Spent n = (refl, refl, refl)
unbroken-back unbroken.Empty n = (refl, refl, refl)

-- the lists are measured, and the links as they were
measures-covering : {E : Type 0} {A : List (Row E)} {b : ℕ} {t t' : List ℕ} → length A ≤ row_cells → MeasuresIn b t t' → Covering A t → Covering A t'
measures-covering {E} {A} {b} {t} {t'} few m c = covering-links A t t' few m.size (λ i l. m.links i (omega (arith, l))) c

-- the first place along the lists of the links is one of the pass
pub opens-place : {u b : ℕ} {t t' t'' : List ℕ} {rules : RuleBytes} {p : Place} → LinksAlong u t → u ≤ row_cells → Gathered u t t' → MeasuresIn b t' t'' → places.FirstPlace (lists_in t'') rules 0 p → PassFrom (lists_in t'') rules p
opens-place {u} {b} {t} {t'} {t''} l h g m o =
    let few : length l.rows ≤ row_cells = omega (arith, l.size, h) in
    places-first l.rows few (measures-listed (live_numbers 0 l.rows) m.lists (gathered-listed l.rows few t t' l.covering (subst (λ (n : ℕ). Gathered n t t') (sym l.size) g))) o

module _ {E R : Type 0} (P : Problem E R) (B : ℕ) (j₀ : List R) (s : State) (rows : s.rows ≡ length j₀) (count : s.rules ≡ length P.rules) where
  -- the terms of pass k, which began at w, after one that began with n rows
  abbrev pub at : ℕ → ℕ → Counts → Terms
  at k n w = terms_of P B k w.used n

  -- an end, with whatever is handed in for it
  over : (w : Counts) (b : Terms) (g : Phase) (j : List R) (t : List ℕ) → length j ≡ length j₀ → b.budget ≡ B → Checked P.row_of (target P B j₀) j₀ j (answer_in (ended s b w g)) → Onward P B j₀ w (ended s b w g) j t
  over w b g j t e f c = record { stands = record { size = e; rows = rows; count = count; goes = λ z. absurd (ending-stays g z); ends = λ _. c }; joins = le_refl w.joins; used = refl; budget = f }

  pub onward-from : {w₀ w : Counts} {r : State} {j : List R} {t : List ℕ} → w₀.joins ≤ w.joins → w.used ≡ w₀.used → Onward P B j₀ w r j t → Onward P B j₀ w₀ r j t
  onward-from h e o = record { stands = o.stands; joins = le_trans h o.joins; used = o.used ∙ e; budget = o.budget }

  module _ {first : Counts} {j₁ : List R} {k : ℕ} (a : AtPass P B (target P B j₀) j₀ first j₁ k) (n : ℕ) where
    -- an outcome that ends everything
    pub stops : {j : List R} → length j ≡ length j₁ → (o : Outcome) {y : Answer} → Answers P.row_of B (pass_in P (at k n first) first j₁) first j₁ j o
        → end_of (nonempty_in P (counts_in o).used j) k o ≡ Done y → Checked P.row_of (target P B j₀) j₀ j y
    stops e o x d = pass-done a e {r = o} x d

    -- ---- at a place

    module _ (fits : n ≤ row_cells) (known : KnownFrom P n first.used j₁) {t : List ℕ} {w : Counts} {j : List R} {p : Place} (g : InPass (at k n first) P first j₁ t w j p) where
      size : length j ≡ length j₀
      size = g.left.same ∙ a.same

      -- the budget is spent there
      spent-there : p.rule < length P.rules → w.joins ≡ B → Checked P.row_of (target P B j₀) j₀ j (answer.Ended unbroken.Spent (totals_of w k))
      spent-there h e =
          let c : Candidate E = candidate_in P (first_rows P w.used j) p in
          stops g.left.same (outcome.Stopped (stop.Ended unbroken.Spent w))
          (pass-stopped g h {c = c} refl refl {r = outcome.Stopped (stop.Ended unbroken.Spent w)}
          (answers-spent P (at k n first) c w j (omega (arith, g.left.room, g.left.same)) g.left.paid e) (λ i K. refl)) refl

      pub stand-there : p.rule < length P.rules → Onward P B j₀ w (standing s (at k n first) w p) j t
      stand-there h = by (is_spent B w.joins) refl
        where
          by : (b : Bool) → is_spent B w.joins ≡ b → Onward P B j₀ w (standing_by b s (at k n first) w p) j t
          by true e = over w (at k n first) (phase.Ended unbroken.Spent) j t size refl (spent-there h (omega (arith, leb-true B w.joins e, g.left.paid)))
          by false e =
              record {
                stands = record {
                  size = size;
                  rows = rows;
                  count = count;
                  goes = λ _. record {
                    first = first;
                    journal = j₁;
                    begun = record { pass = k; before = n; at-pass = a; fits = fits; known = known; terms = refl };
                    in-pass = g;
                    here = h;
                    left = refl;
                    right = refl;
                    unspent = leb-false B w.joins e;
                  };
                  ends = λ z. absurd z;
                };
                joins = le_refl w.joins;
                used = refl;
                budget = refl;
              }

    -- ---- after the last place

    module _ {j : List R} (e : length j ≡ length j₁) {w : Counts} (x : Answers P.row_of B (pass_in P (at k n first) first j₁) first j₁ j (outcome.Going w)) where
      abbrev nonempty : Bool
      nonempty = nonempty_in P w.used j

      pub close-last : length j₀ ≤ row_cells → (t : List ℕ) → Covering (first_rows P w.used j) t → w.added ≡ 0 → Onward P B j₀ w (finished s (at k n first) w (all_linked P.starts t)) j t
      close-last few t c u =
          let fits : length (first_rows P w.used j) ≤ row_cells = omega (arith, rows-length P.row_of w.used j (omega (arith, x.room, e)), x.room, a.same, few) in
          let done : end_of nonempty k (outcome.Going w) ≡ Done (answer.Ended (finished_by nonempty) (totals_of w k)) = ap (λ (b : Bool). end_by b nonempty w k) (eq-eqb w.added 0 u) in
          subst (λ (b : Bool). Onward P B j₀ w (finished s (at k n first) w b) j t) (sym (all-linked P w.used j t fits c))
          (over w (at k n first) (phase.Ended (finished_by nonempty)) j t (e ∙ a.same) refl (stops e (outcome.Going w) x done))

      again : (w.added ≡ 0 → ⊥) → end_of nonempty k (outcome.Going w) ≡ Again w
      again z = ap (λ (b : Bool). end_by b nonempty w k) (ne_eqb w.added 0 z)

      pub close-again : (w.added ≡ 0 → ⊥) → AtPass P B (target P B j₀) j₀ (in_next_pass w) j (k + 1)
      close-again z = pass-again a e {r = outcome.Going w} x (again z)

      pub close-known : Laws (algebra_of P) → (w.added ≡ 0 → ⊥) → length j₀ ≤ row_cells → KnownFrom P first.used w.used j
      close-known L z few = pass-known a e {r = outcome.Going w} x (again z) L few

  -- where the pass has begun
  pub stand-on : {first : Counts} {j₁ : List R} (y : PassBegun P B j₀ s first j₁) {t : List ℕ} {w : Counts} {j : List R} {p : Place}
      → InPass s.terms P first j₁ t w j p → p.rule < length P.rules → Onward P B j₀ w (standing s s.terms w p) j t
  stand-on {first} {j₁} y {t} {w} {j} {p} g h =
      subst (λ (b : Terms). Onward P B j₀ w (standing s b w p) j t) (sym y.terms)
      (stand-there y.at-pass y.before y.fits y.known (subst (λ (b : Terms). InPass b P first j₁ t w j p) y.terms g) h)

  -- ---- a pass begins

  module _ (L : Laws (algebra_of P)) (z : InLimits j₀) {w : Counts} {j : List R} {k : ℕ} (a : AtPass P B (target P B j₀) j₀ w j k) (n : ℕ) (fits : n ≤ row_cells) (known : KnownFrom P n w.used j) {t t' t'' : List ℕ} (c : Covering (first_rows P w.used j) t) (g : Gathered w.used t t') (m : MeasuresIn n t' t'') where
    size-first : length (first_rows P w.used j) ≡ w.used
    size-first = rows-length P.row_of w.used j (omega (arith, a.room, a.same))

    few : length (first_rows P w.used j) ≤ row_cells
    few = omega (arith, size-first, a.room, z.limit)

    g' : Gathered (length (first_rows P w.used j)) t t'
    g' = subst (λ (m : ℕ). Gathered m t t') (sym size-first) g

    listed : Listed (first_rows P w.used j) (lists_in t'')
    listed = measures-listed (live_numbers 0 (first_rows P w.used j)) m.lists (gathered-listed (first_rows P w.used j) few t t' c g')

    ready : PassReady P.row_of (at k n w) w j t''
    ready =
        record { room = omega (arith, a.room, a.same); limit = omega (arith, z.limit, a.same); paid = a.paid; pass = omega (arith, a.first); covering = measures-covering few m (gathered-covering (first_rows P w.used j) few t t' c g') }

    -- at its first place, and then at one that is reached from there
    module _ (p : Place) (o : places.FirstPlace (lists_in t'') P.rules 0 p) {r : Reached} (v : PassesOver P.rules t'' (at k n w) (record { counts = w; place = p }) r) where
      reached : InPass (at k n w) P w j t'' r.counts j r.place
      reached = over-stands L v (pass-start listed m.lists.measured ready known o)

      pub open-reached : Onward P B j₀ w (opening s (at k n w) r (all_linked P.starts t'')) j t''
      open-reached = onward-from (over-counted P.rules t'' (at k n w) v).joins (over-counted P.rules t'' (at k n w) v).used (by (ltb r.place.rule s.rules) refl)
        where
          by : (b : Bool) → ltb r.place.rule s.rules ≡ b → Onward P B j₀ r.counts (opening_by b s (at k n w) r (all_linked P.starts t'')) j t''
          by true e = stand-there a n fits known reached (omega (arith, ltb-true r.place.rule s.rules e, count))
          by false e = close-last a n refl (pass-end reached (omega (arith, ltb-false r.place.rule s.rules e, count))) z.limit t'' reached.covering ((over-counted P.rules t'' (at k n w) v).added ∙ a.none-added)

-- One candidate: what became of it is what the working order makes of it, and the invariant of the search holds after it. Assumes nothing.
use Rattle.std.specs.Prelude.{◌≡◌, refl, Bool, true, false, not, cond, List, map, ◌⊎◌, ℕ, suc, ◌+◌, ◌-◌, ◌≤◌, ◌<◌, T, eqb, length, take}
use Rattle.std.proofs.Common.{sym, ap, ◌∙◌, subst, subst₂, true≢false, inl, inr, arith, length-take, length-take-le, eqb-true}
use Rattle.std.proofs.Math.Arith.{lt_of_le-ne}
use Rattle.std.proofs.lemmas.List.{length-map}
use Rattle.std.proofs.lemmas.Bool.{eqb-false}
use Rattle.spec_order.specs.Algebra.{Laws}
use Rattle.spec_order.specs.Candidates.{Candidate}
use Rattle.spec_order.specs.Journal.{Row}
use Rattle.spec_order.specs.Order as order
use Rattle.spec_order.specs.Order.{dropped}
use Rattle.search_state.specs.Layout.{row_cells, table_cells}
use Rattle.search_order.specs.PlacesLeft.{PassFrom}
use Rattle.search_spans.specs.Spans.{Measured}
use Rattle.search_links.specs.Covers.{Covering, without_effect}
use Rattle.search_links.specs.CoverLaws.{covering-links, covering-without}
use Rattle.search_links.specs.RowLaws.{rows-length}
use Rattle.search_retire.specs.Clearing.{ClearingEnd as Ending}
use Rattle.search_cover.specs.Seeking.{Finds}
use Rattle.search_cover.specs.declared.CoverAnswer.{CoverAnswer}
use Rattle.search_state.specs.Fates.{full_in}
use Rattle.search_state.specs.declared.Counts.{Counts}
use Rattle.search_state.specs.declared.Fate.{Fate}
use Rattle.search_state.specs.Phases.{is_going}
use Rattle.search_state.specs.declared.State.{State}
use Rattle.search_state.specs.declared.Terms.{Terms}
use Rattle.search_laws.specs.Clauses.{Answers, Checked}
use Rattle.search_laws.specs.Deciding.{answers-dropped, answers-full, answers-new}
use Rattle.search_laws.specs.Meanings.{progress_of, counts_in, with_join, with_row, born_by, full_by, decided_by, decided_in, answer_to, answer_in}
use Rattle.search_laws.specs.Problems.{RuleBytes, Problem, algebra_of, first_rows, terms_of}
use Rattle.search_laws.specs.Steps.{MayAdvance, Remembers}
use Rattle.search_laws.specs.Running.{problem_at, target, Goes, SearchAt, Running, fate_for, Considered, GoesOn, GoesOnOver, Onward, candidates_left}
use Rattle.search_laws.specs.RunLaws.{started, stands_on, goes_on, sized, used-fits, limit}
use Rattle.search_laws.specs.RunningLaws.{stops}
use Rattle.search_laws.specs.States.{stopped_in}
use Rattle.search_laws.specs.Passing.{pass-stopped, pass-going}
use Rattle.search_laws.specs.Remaining.{EndsFrom}
use Rattle.search_laws.specs.Walks.{consider_in, pass_in}
use Rattle.search_laws.specs.declared.Outcome.TheVariants as outcome
use Rattle.search_laws.specs.declared.Outcome.{Outcome}
use Rattle.search_laws.specs.declared.Stop.TheVariants as stop
use Rattle.search_laws.specs.declared.Stop.{Stop}

stopped-answer : (s : State) (p : Stop) → answer_in (stopped_in s p) ≡ answer_to s.terms.pass p
stopped-answer s (stop.Ended v w) = refl
stopped-answer s (stop.Broken i w) = refl

-- nothing is considered after it
stop-ends : {E R : Type 0} (row_of : R → Row E) (p : Stop) → EndsFrom row_of (outcome.Stopped p)
stop-ends row_of (stop.Ended v w) = λ j K. refl
stop-ends row_of (stop.Broken i w) = λ j K. refl

module _ {E R : Type 0} {P : Problem E R} {rules : RuleBytes} {start : State} {j₀ : List R} {s : State} {c : Candidate E} {f : Fate} {l : CoverAnswer} {j : List R} {t : List ℕ} (x : Considered P rules start j₀ s c f l j t) where
  abbrev Q : Problem E R
  Q = problem_at P rules start

  abbrev u : ℕ
  u = s.counts.used

  go : Goes Q start.terms.budget j₀ s x.before x.table
  go = goes_on x.running x.going

  room : u ≤ length x.before
  room = used-fits x.running x.going

  budget-is : s.terms.budget ≡ start.terms.budget
  budget-is = ap (λ (b : _). b.budget) go.begun.terms

  unspent : s.counts.joins < s.terms.budget
  unspent = omega (arith, go.unspent, budget-is)

  finds : Finds P.below c (first_rows P u x.before) u x.table l
  finds = x.found.finds

  cells : length t ≡ table_cells
  cells = by x.inserted.outcome
    where
      by : Ending P.below P.row_of P.blank s.terms.pass c u l x.before x.table j t → length t ≡ table_cells
      by (inl z) = ap length z.2 ∙ go.in-pass.covering.size
      by (inr z) = z.1.covering.size

  -- ---- what became of the candidate

  rows_are : s.rows ≡ length x.before
  rows_are = (stands_on x.running x.going).rows ∙ sym (stands_on x.running x.going).size

  abbrev became : Outcome
  became = decided_in s (fate_for P s c l.covers)

  -- and what the fate says
  pub decided-so : decided_in s f ≡ became
  decided-so = ap (decided_in s) x.fate

  -- what the working order makes of it
  abbrev given : order.Outcome E
  given = consider_in P s.terms (length x.before) c (progress_of P.row_of s.counts x.before)

  -- it is that, and the table leads along the rows
  abbrev pub Right : Outcome → Type 0
  Right o = Answers P.row_of s.terms.budget given s.counts x.before j o
      × Covering (first_rows P (counts_in o).used j) t

  not-spent : s.counts.joins ≡ s.terms.budget → ⊥
  not-spent e = omega (arith, e, unspent)

  pub decided-right : Right became
  decided-right = by l.covers refl x.inserted.outcome
    where
      hb : s.counts.joins ≤ s.terms.budget
      hb = omega (arith, unspent)

      -- nothing changed
      kept : (o : Outcome) → j ≡ x.before → t ≡ x.table → (counts_in o).used ≡ u → Answers P.row_of s.terms.budget given s.counts x.before x.before o → Right o
      kept o e f n a = (
        subst (λ (i : List R). Answers P.row_of s.terms.budget given s.counts x.before i o) (sym e) a,
        rw (e, f, n) go.in-pass.covering,
      )

      none : (v : Bool) → l.covers ≡ v → dropped P.below c (first_rows P u x.before) ≡ v
      none v e = sym finds.found ∙ e

      by-room : (b : Bool) → eqb u s.rows ≡ b → l.covers ≡ false → Ending P.below P.row_of P.blank s.terms.pass c u l x.before x.table j t → Right (full_by b (P.breaks c.head c.effect) (with_join s.counts))
      by-room true e f (inl z) = kept _ z.1 z.2 refl (answers-full P s.terms c s.counts x.before room hb not-spent (none false f) (eqb-true u s.rows e ∙ rows_are))
      by-room true e f (inr z) = absurd (omega (arith, z.0.room, eqb-true u s.rows e, rows_are))
      by-room false e f (inl z) = absurd (idle z.0)
        where
          idle : (l.covers ≡ true) ⊎ (u ≡ length x.before) → ⊥
          idle (inl h) = true≢false (sym h ∙ f)
          idle (inr h) = eqb-false u s.rows e (h ∙ sym rows_are)
      by-room false e f (inr z) = (
        answers-new P s.terms c s.counts x.before room hb not-spent (none false f) (λ h. omega (arith, h, z.0.room)) j z.1.stored (P.breaks c.head c.effect) refl,
        new (P.breaks c.head c.effect),
      )
        where
          new : (b : Bool) → Covering (first_rows P (counts_in (born_by b u (with_row (with_join s.counts)))).used j) t
          new true = z.1.covering
          new false = z.1.covering

      by : (b : Bool) → l.covers ≡ b → Ending P.below P.row_of P.blank s.terms.pass c u l x.before x.table j t → Right (decided_by b (eqb u s.rows) (P.breaks c.head c.effect) (with_join s.counts))
      by true e (inl z) = kept _ z.1 z.2 refl (answers-dropped P s.terms c s.counts x.before room hb not-spent (none true e))
      by true e (inr z) = absurd (true≢false (sym e ∙ z.0.none))
      by false e z = by-room (eqb u s.rows) refl e z

  rules-same : s.rules ≡ start.rules
  rules-same = (stands_on x.running x.going).count ∙ length-take-le start.rules rules (x.running.whole (started x.running x.going))

  pub may-advance : MayAdvance rules s f l t
  may-advance =
      let few = limit x.running x.going in
      let at = stands_on x.running x.going in
      let used = decided-right.0.room in
      record {
        full = ap (λ (z : Fate). z.full) x.fate;
        remember = record { used = omega (arith, room, few); table = cells; above = x.found.slot.0; below = x.found.slot.1; row = finds.row };
        decide = record { used = omega (arith, room, few); joins = unspent; added = omega (arith, go.in-pass.left.adds, go.begun.at-pass.none-added) };
        here = omega (arith, go.here, at.count);
        passes = record {
          table = cells;
          count = omega (arith, at.count, length-take start.rules rules);
          old = omega (arith, ap (λ (b : Terms). b.old) go.begun.terms, go.begun.fits);
          measured = subst (Measured s.terms.old) (sym x.inserted.lists) go.in-pass.measured;
          places = subst₂ (λ (lists : List ℕ) (k : ℕ). PassFrom lists (take k rules) s.place) (sym x.inserted.lists) (sym rules-same) go.in-pass.places;
        };
        links = record {
          rows = map without_effect (first_rows P (counts_in became).used j);
          size = length-map (first_rows P (counts_in became).used j) without_effect ∙ rows-length P.row_of (counts_in became).used j (omega (arith, used, x.inserted.size)) ∙ ap (λ (o : Outcome). (counts_in o).used) (sym decided-so);
          covering = covering-without (first_rows P (counts_in became).used j) t decided-right.1;
        };
        start = omega (arith, ap (λ (b : Terms). b.present) go.begun.terms, go.in-pass.left.grows, room, few);
        pass = omega (arith, ap (λ (b : _). b.pass) go.begun.terms, go.begun.at-pass.count, go.begun.at-pass.room, (sized x.running x.going).limit);
        room = omega (arith, room, at.rows, at.size);
        limit = omega (arith, at.rows, (sized x.running x.going).limit);
      }

  -- ---- it stops the search

  stopped-right : (o : Outcome) → EndsFrom P.row_of o → Right o → Answers P.row_of start.terms.budget (pass_in Q (terms_of Q start.terms.budget go.begun.pass go.first.used go.begun.before) go.first go.journal) go.first go.journal j o
  stopped-right o e a =
      subst (λ (b : Terms). Answers P.row_of b.budget (pass_in Q b go.first go.journal) go.first go.journal j o) go.begun.terms
      (pass-stopped go.in-pass go.here x.formed x.inserted.size a.0 e)

  pass-is : s.terms.pass ≡ go.begun.pass
  pass-is = ap (λ (b : Terms). b.pass) go.begun.terms

  size-first : length j ≡ length go.journal
  size-first = x.inserted.size ∙ go.in-pass.left.same

  pub stopped-checked : (p : Stop) → Right (outcome.Stopped p) → Checked P.row_of (target Q start.terms.budget j₀) j₀ j (answer_in (stopped_in s p))
  stopped-checked p a =
      subst (Checked P.row_of (target Q start.terms.budget j₀) j₀ j) (ap (λ (k : ℕ). answer_to k p) (sym pass-is) ∙ sym (stopped-answer s p))
      (stops Q start.terms.budget j₀ s (stands_on x.running x.going).rows (stands_on x.running x.going).count go.begun.at-pass go.begun.before size-first (outcome.Stopped p) (stopped-right (outcome.Stopped p) (stop-ends P.row_of p) a) refl)

  -- ---- the search stands on

  resumes : {r : State} {t' : List ℕ} → SearchAt Q start.terms.budget j₀ r j t' → Running P rules start j₀ r j t'
  resumes st = record { idle = λ z. absurd (both (is_going start.phase) (started x.running x.going) z); sized = x.running.sized; whole = x.running.whole; stands = λ _. st }
    where
      both : (b : Bool) → T b → T (not b) → ⊥
      both true y n = n
      both false y n = y

  left_is : (b : Bool) → T b → (n : ℕ) → cond b (suc n) 0 ≡ suc n
  left_is true y n = refl
  left_is false y n = absurd y

  pub stopped-running : (p : Stop) → Right (outcome.Stopped p) → (t' : List ℕ)
      → Running P rules start j₀ (stopped_in s p) j t' × (candidates_left (stopped_in s p) < candidates_left s) × (T (is_going (stopped_in s p).phase) → (stopped_in s p).counts.used ≡ (counts_in (decided_in s f)).used)
  stopped-running p a t' = (
    resumes (record { size = x.inserted.size ∙ (stands_on x.running x.going).size; rows = rows_of p; count = count_of p; goes = λ y. absurd (ended_so p y); ends = λ _. stopped-checked p a }),
    subst (λ (n : ℕ). candidates_left (stopped_in s p) < n) (sym (left_is (is_going s.phase) x.going (s.terms.budget - s.counts.joins))) (none_left p),
    λ y. absurd (ended_so p y),
  )
    where
      rows_of : (p : Stop) → (stopped_in s p).rows ≡ length j₀
      rows_of (stop.Ended v w) = (stands_on x.running x.going).rows
      rows_of (stop.Broken i w) = (stands_on x.running x.going).rows

      count_of : (p : Stop) → (stopped_in s p).rules ≡ length Q.rules
      count_of (stop.Ended v w) = (stands_on x.running x.going).count
      count_of (stop.Broken i w) = (stands_on x.running x.going).count

      ended_so : (p : Stop) → T (is_going (stopped_in s p).phase) → ⊥
      ended_so (stop.Ended v w) y = y
      ended_so (stop.Broken i w) y = y

      none_left : (p : Stop) → candidates_left (stopped_in s p) < suc (s.terms.budget - s.counts.joins)
      none_left (stop.Ended v w) = omega arith
      none_left (stop.Broken i w) = omega arith

  -- ---- and goes on

  joins-more : (counts_in became).joins ≡ s.counts.joins + 1
  joins-more = by l.covers (eqb u s.rows) (P.breaks c.head c.effect)
    where
      by : (d f b : Bool) → (counts_in (decided_by d f b (with_join s.counts))).joins ≡ s.counts.joins + 1
      by true f b = refl
      by false true b = refl
      by false false true = refl
      by false false false = refl

  pub going-running : Laws (algebra_of P) → (tn : List ℕ) → Remembers t tn → {w : Counts} → outcome.Going w ≡ became → {t' : List ℕ} {r : State} → GoesOn P rules tn s w t' r
      → Running P rules start j₀ r j t' × (candidates_left r < candidates_left s) × (T (is_going r.phase) → r.counts.used ≡ (counts_in (decided_in s f)).used)
  going-running L tn nt {w} e {t'} {r} g =
      let a = decided-right in
      let n : (counts_in became).used ≤ row_cells = omega (arith, a.0.room, limit x.running x.going) in
      let cov : Covering (first_rows P (counts_in became).used j) tn = covering-links (first_rows P (counts_in became).used j) t tn (omega (arith, n, rows-length P.row_of (counts_in became).used j (omega (arith, a.0.room, x.inserted.size)))) nt.size nt.links a.1 in
      let on : Onward Q start.terms.budget j₀ w r j t' =
      subst (λ (k : ℕ). GoesOnOver P (take k rules) tn s w t' r) rules-same g start.terms.budget j₀ go.first go.journal j (sized x.running x.going) (stands_on x.running x.going).rows go.here go.begun
      (λ q f. pass-going go.in-pass go.here x.formed x.inserted.size a.0 L (sym e) (nt.lists ∙ x.inserted.lists) cov f)
      in
      let m : w.joins ≡ s.counts.joins + 1 = ap (λ (o : Outcome). (counts_in o).joins) e ∙ joins-more in (
        resumes on.stands,
        subst (λ (k : ℕ). candidates_left r < k) (sym (left_is (is_going s.phase) x.going (s.terms.budget - s.counts.joins)))
            (less (is_going r.phase) r.terms.budget r.counts.joins (on.budget ∙ sym budget-is) (omega (arith, on.joins, m))),
        λ _. on.used ∙ ap (λ (o : Outcome). (counts_in o).used) (e ∙ sym decided-so),
      )
    where
      less : (b : Bool) (B n : ℕ) → B ≡ s.terms.budget → s.counts.joins < n → cond b (suc (B - n)) 0 < suc (s.terms.budget - s.counts.joins)
      less true B n p q = omega (arith, p, q, unspent)
      less false B n p q = omega arith

-- a row more at most
pub decided-used : (s : State) (f : Fate) → f.full ≡ full_in s → s.counts.used ≤ s.rows → s.rows ≤ row_cells → (counts_in (decided_in s f)).used ≤ row_cells
decided-used s f e h m = by f.covered f.full e f.breaks
  where
    fits : eqb s.counts.used s.rows ≡ false → s.counts.used + 1 ≤ row_cells
    fits z = let n : s.counts.used < s.rows = lt_of_le-ne h (eqb-false s.counts.used s.rows z) in omega (arith, n, m)

    by : (d k : Bool) → k ≡ full_in s → (b : Bool) → (counts_in (decided_by d k b (with_join s.counts))).used ≤ row_cells
    by true k e b = omega (arith, h, m)
    by false true e b = omega (arith, h, m)
    by false false e true = fits (sym e)
    by false false e false = fits (sym e)

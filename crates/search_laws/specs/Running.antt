-- The invariant of the search between candidates, and what each step keeps of it, for every journal, whatever an effect is. The letters are
-- those at the head of src/lib.rt. Definitions only. Assumes nothing.
use Rattle.std.specs.Prelude.{◌≡◌, Bool, not, cond, List, ℕ, suc, ◌-◌, ◌≤◌, ◌<◌, T, length, take}
use Rattle.spec_order.specs.Candidates.{Candidate}
use Rattle.spec_order.specs.Order as order
use Rattle.search_state.specs.declared.Place.{Place}
use Rattle.search_state.specs.Layout.{row_cells, lists_in}
use Rattle.search_order.specs.Places as places
use Rattle.search_links.specs.Covers.{Covering}
use Rattle.search_cover.specs.Seeking.{Leads, Finds, Found}
use Rattle.search_cover.specs.declared.CoverAnswer.{CoverAnswer}
use Rattle.search_retire.specs.Clearing.{Inserted}
use Rattle.search_state.specs.Fates.{fate_in}
use Rattle.search_state.specs.Positions.{position_row}
use Rattle.search_state.specs.declared.Counts.{Counts}
use Rattle.search_state.specs.declared.Fate.{Fate}
use Rattle.search_state.specs.Phases.{is_going}
use Rattle.search_state.specs.declared.State.{State}
use Rattle.search_state.specs.declared.Terms.{Terms}
use Rattle.search_laws.specs.Clauses.{Answers, Checked, order_of}
use Rattle.search_laws.specs.Meanings.{counts_in, decided_in, answer_in}
use Rattle.search_laws.specs.Passes.{AtPass}
use Rattle.search_laws.specs.Passing.{InPass}
use Rattle.search_laws.specs.Problems.{RuleBytes, Problem, first_rows, with_rules, terms_of}
use Rattle.search_laws.specs.States.{all_linked, opening}
use Rattle.search_laws.specs.Walks.{candidate_in, pass_in, KnownFrom}
use Rattle.search_laws.specs.declared.Outcome.TheVariants.{Going}
use Rattle.search_laws.specs.declared.Reached.{Reached}

-- ---- the invariant

-- the journal has a row and not too many
pub record InLimits {R : Type 0} (j₀ : List R) : Type 0 where
  pub some : 0 < length j₀
  pub limit : length j₀ ≤ row_cells

-- of a search on the problem P, with a budget of B joins, that began over the journal j₀
module _ {E R : Type 0} (P : Problem E R) (B : ℕ) (j₀ : List R) where
  -- the answer that the search must come to
  abbrev pub target : order.Answer E
  target = order_of P (length j₀) B

  -- the search is in pass `pass`, which began with the counts w over the journal j; `before` is the rows used when the pass before began
  pub record PassBegun (s : State) (w : Counts) (j : List R) : Type 0 where
    pub pass : ℕ
    pub before : ℕ
    pub at-pass : AtPass P B target j₀ w j pass
    pub fits : before ≤ row_cells
    pub known : KnownFrom P before w.used j
    pub terms : s.terms ≡ terms_of P B pass w.used before

  -- the search is at a place of the pass: `first` and `journal` are the counts and the journal when the pass began, the candidates from the
  -- place on give the answer, and the budget leaves a join
  pub record Goes (s : State) (j : List R) (t : List ℕ) : Type 0 where
    pub first : Counts
    pub journal : List R
    pub begun : PassBegun s first journal
    pub in-pass : InPass s.terms P first journal t s.counts j s.place
    pub here : s.place.rule < length P.rules
    pub left : s.left_row ≡ position_row s.place.left s.counts.used
    pub right : s.right_row ≡ position_row s.place.right s.counts.used
    pub unspent : s.counts.joins < B

  -- the search is at a place, or has ended with the answer that it must come to
  pub record SearchAt (s : State) (j : List R) (t : List ℕ) : Type 0 where
    pub size : length j ≡ length j₀
    pub rows : s.rows ≡ length j₀
    pub count : s.rules ≡ length P.rules
    pub goes : T (is_going s.phase) → Goes s j t
    pub ends : T (not (is_going s.phase)) → Checked P.row_of target j₀ j (answer_in s)

  -- what every step between candidates keeps: the invariant `SearchAt`, at least the joins of `w`, its rows, the same budget
  pub record Onward (w : Counts) (r : State) (j : List R) (t : List ℕ) : Type 0 where
    pub stands : SearchAt r j t
    pub joins : w.joins ≤ r.counts.joins
    pub used : r.counts.used ≡ w.used
    pub budget : r.terms.budget ≡ B

module _ {E R : Type 0} (P : Problem E R) where
  -- ---- a candidate

  -- what looking for a cover asks: the used rows are within the journal, it has a row to read, and the links lead over the live rows
  abbrev pub MayFind : State → List R → List ℕ → Type 0
  MayFind s j t = (s.counts.used ≤ length j) × (0 < length j) × Leads (first_rows P s.counts.used j) s.counts.used t

  -- looking for a cover of the candidate c gave l
  abbrev pub CoverFound : State → Candidate E → List R → List ℕ → CoverAnswer → Type 0
  CoverFound s c j t l = Found P.below c (first_rows P s.counts.used j) s.counts.used t l

  -- the candidate c has become a row, unless a row covers it or the journal is full: j and t were the journal and the table before, j' and t'
  -- are those after
  abbrev pub CandidateInserted : State → Candidate E → CoverAnswer → List R → List ℕ → List R → List ℕ → Type 0
  CandidateInserted s c l j t j' t' = Inserted P.below P.row_of P.blank s.terms.pass c s.counts.used l j t j' t'

  -- what becomes of the candidate c, where a row covers it or not
  abbrev pub fate_for : State → Candidate E → Bool → Fate
  fate_for s c covered = fate_in s c.head covered (P.breaks c.head c.effect)

  -- what inserting the candidate c asks
  pub record MayInsert (s : State) (c : Candidate E) (f : Fate) (l : CoverAnswer) (j : List R) (t : List ℕ) : Type 0 where
    pub fate : f ≡ fate_for s c l.covers
    pub pass : 0 < s.terms.pass
    pub rows : s.rows ≡ length j
    pub room : s.counts.used ≤ length j
    pub limit : length j ≤ row_cells
    pub covering : Covering (first_rows P s.counts.used j) t
    pub finds : Finds P.below c (first_rows P s.counts.used j) s.counts.used t l

-- the measure of the loop: at most this many candidates are left, since each is one join
abbrev pub candidates_left : State → ℕ
candidates_left s = cond (is_going s.phase) (suc (s.terms.budget - s.counts.joins)) 0

-- ---- the loop

-- on the problem P with the first ones of these rules, as many as the state `start` says
module _ {E R : Type 0} (P : Problem E R) (rules : RuleBytes) where
  abbrev pub problem_at : State → Problem E R
  problem_at start = with_rules P (take start.rules rules)

  -- the invariant of the loop: the search that began in the state `start` over the journal j₀ is now in s, over j and t
  pub record Running (start : State) (j₀ : List R) (s : State) (j : List R) (t : List ℕ) : Type 0 where
    -- a search that had ended before it began leaves all as it is
    pub idle : T (not (is_going start.phase)) → (s ≡ start) × (j ≡ j₀)
    pub sized : T (is_going start.phase) → InLimits j₀
    pub whole : T (is_going start.phase) → start.rules ≤ length rules
    pub stands : T (is_going start.phase) → SearchAt (problem_at start) start.terms.budget j₀ s j t

  -- the candidate c of the place has been looked for, and inserted where no row covers it and there is room
  pub record Considered (start : State) (j₀ : List R) (s : State) (c : Candidate E) (f : Fate) (l : CoverAnswer) (j : List R) (t : List ℕ) : Type 0 where
    pub before : List R
    pub table : List ℕ
    pub running : Running start j₀ s before table
    pub going : T (is_going s.phase)
    pub formed : c ≡ candidate_in (problem_at start) (first_rows P s.counts.used before) s.place
    pub found : CoverFound P s c before table l
    pub fate : f ≡ fate_for P s c l.covers
    pub inserted : CandidateInserted P s c l before table j t

-- ---- the steps between candidates

-- P: any problem; Q: the same with the rules of the search. B: the budget. j₀: the journal when the search began; j₁, first: the journal and
-- the counts when the pass began; j, w: those now. k: the pass; m: the rows used when the pass before began. t, t': the table before and after
-- the step; s, r: the state

-- under the terms b the candidate of x is done, with its counts: the invariant of the pass holds at the place after it
abbrev pub DoneAt : {E R : Type 0} → Terms → Problem E R → Counts → List R → List ℕ → List R → Reached → Type 0
DoneAt b Q first j₁ t j x = (q : Place) → places.NextPlace (lists_in t) Q.rules x.place q → InPass b Q first j₁ t x.counts j q

module _ {E R : Type 0} (P : Problem E R) where
  -- opening a pass over the first n rules with the counts w, which has come to x: the invariant holds of the state there
  abbrev pub OpensPass : RuleBytes → List ℕ → ℕ → Terms → Counts → List ℕ → Reached → Type 0
  OpensPass rules t n b w t' x =
      (B : ℕ) (j₀ j : List R) (k m : ℕ) (s : State) → let Q = with_rules P (take n rules) in s.rules ≡ n → InLimits j₀ → s.rows ≡ length j₀
      → AtPass Q B (target Q B j₀) j₀ w j k → b ≡ terms_of P B k w.used m
      → KnownFrom Q m w.used j → Covering (first_rows Q w.used j) t → Onward Q B j₀ w (opening s b x (all_linked b.starts t')) j t'

  -- closing the pass of s, which is over with the counts w: the invariant holds of r, in the next pass or at the end
  abbrev pub Closes : RuleBytes → List ℕ → State → Counts → List ℕ → State → Type 0
  Closes rules t s w t' r =
      (B : ℕ) (j₀ : List R) (first : Counts) (j₁ j : List R) → let Q = with_rules P (take s.rules rules) in InLimits j₀ → s.rows ≡ length j₀
      → PassBegun Q B j₀ s first j₁ → length j ≡ length j₁ → Answers Q.row_of B (pass_in Q s.terms first j₁) first j₁ j (Going w)
      → Covering (first_rows Q w.used j) t → Onward Q B j₀ w r j t'

  -- from the place x that the pass of s has come to: the invariant holds of r, at x, at a later place or past the pass
  abbrev pub GoesFrom : RuleBytes → List ℕ → State → Reached → List ℕ → State → Type 0
  GoesFrom rules t s x t' r =
      (B : ℕ) (j₀ : List R) (first : Counts) (j₁ j : List R) → let Q = with_rules P (take s.rules rules) in InLimits j₀ → s.rows ≡ length j₀ → PassBegun Q B j₀ s first j₁
      → InPass s.terms Q first j₁ t x.counts j x.place → Onward Q B j₀ x.counts r j t'

  -- after the candidate of s, which is done with the counts w: the invariant holds of r
  abbrev pub GoesOnOver : RuleBytes → List ℕ → State → Counts → List ℕ → State → Type 0
  GoesOnOver rules t s w t' r =
      (B : ℕ) (j₀ : List R) (first : Counts) (j₁ j : List R) → let Q = with_rules P rules in InLimits j₀ → s.rows ≡ length j₀ → s.place.rule < length rules → PassBegun Q B j₀ s first j₁
      → DoneAt s.terms Q first j₁ t j (record { counts = w; place = s.place }) → Onward Q B j₀ w r j t'

  abbrev pub GoesOn : RuleBytes → List ℕ → State → Counts → List ℕ → State → Type 0
  GoesOn rules t s w t' r = GoesOnOver (take s.rules rules) t s w t' r

  -- after a candidate c that was considered: the invariant of the loop holds of r, its measure has fallen, and no row was used but for c
  abbrev pub Advances : RuleBytes → List ℕ → State → Fate → CoverAnswer → List ℕ → State → Type 0
  Advances rules t s f l t' r =
      (start : State) (j₀ j : List R) (c : Candidate E) → Considered P rules start j₀ s c f l j t
      → Running P rules start j₀ r j t' × (candidates_left r < candidates_left s) × (T (is_going r.phase) → r.counts.used ≡ (counts_in (decided_in s f)).used)

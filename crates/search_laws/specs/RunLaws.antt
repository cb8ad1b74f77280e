-- What the invariant says of a search that is going, and of the candidate of its place. Assumes nothing.
use Rattle.std.specs.Prelude.{◌≡◌, refl, Bool, true, false, not, List, [], ℕ, ◌≤◌, ◌<◌, T, length, get_or}
use Rattle.std.proofs.Common.{sym, ap, ap₂, ◌∙◌, subst, arith, length-take, get_or-take}
use Rattle.spec_language.specs.Grammar.{Rule}
use Rattle.spec_file.specs.Entries.{entry_of}
use Rattle.search_state.specs.Forming.{entry_at, formed_by, among_first, formed_from}
use Rattle.search_state.specs.Layout.{row_cells}
use Rattle.search_links.specs.RowLaws.{rows-length, among-row}
use Rattle.search_state.specs.PositionLaws.{position-inside, position-row}
use Rattle.search_state.specs.Positions.{position_row}
use Rattle.search_state.specs.Phases.{is_going}
use Rattle.search_state.specs.declared.State.{State}
use Rattle.search_laws.specs.Problems.{RuleBytes, Problem, first_rows, unread}
use Rattle.search_laws.specs.Walks.{candidate_in}
use Rattle.search_laws.specs.Running.{InLimits, Goes, SearchAt, MayFind, problem_at, Running}

module _ {E R : Type 0} {P : Problem E R} {rules : RuleBytes} {start : State} {j₀ : List R} {s : State} {j : List R} {t : List ℕ} (r : Running P rules start j₀ s j t) (g : T (is_going s.phase)) where
  -- what it works on
  abbrev pub works-on : Problem E R
  works-on = problem_at P rules start

  pub started : T (is_going start.phase)
  started = by (is_going start.phase) refl
    where
      by : (b : Bool) → is_going start.phase ≡ b → T b
      by true e = tt
      by false e = subst T (ap (λ (x : State). is_going x.phase) (r.idle (subst (λ (b : Bool). T (not b)) (sym e) tt)).0 ∙ e) g

  pub stands_on : SearchAt works-on start.terms.budget j₀ s j t
  stands_on = r.stands started

  pub goes_on : Goes works-on start.terms.budget j₀ s j t
  goes_on = stands_on.goes g

  pub sized : InLimits j₀
  sized = r.sized started

  pub used-fits : s.counts.used ≤ length j
  used-fits = omega (arith, goes_on.in-pass.left.room, goes_on.in-pass.left.same)

  pub limit : length j ≤ row_cells
  limit = omega (arith, sized.limit, stands_on.size)

  some-row : 0 < length j
  some-row = omega (arith, sized.some, stands_on.size)

  pub left-inside : s.left_row < length j
  left-inside = subst (λ (n : ℕ). n < length j) (sym goes_on.left) (position-inside s.place.left s.counts.used (length j) used-fits some-row)

  pub right-inside : s.right_row < length j
  right-inside = subst (λ (n : ℕ). n < length j) (sym goes_on.right) (position-inside s.place.right s.counts.used (length j) used-fits some-row)

  pub rule-inside : s.place.rule < length rules
  rule-inside = omega (arith, goes_on.here, length-take start.rules rules)

  pub may-find : MayFind P s j t
  may-find = (used-fits, some-row, record { covering = goes_on.in-pass.covering; size = rows-length P.row_of s.counts.used j used-fits; limit = omega (arith, used-fits, limit) })

  pub pass-some : 0 < s.terms.pass
  pass-some = omega (arith, goes_on.begun.at-pass.first, ap (λ (x : _). x.pass) goes_on.begun.terms)

  -- ---- the candidate of the place

  row-there : (p i : ℕ) → i ≡ position_row p s.counts.used → P.row_of (among_first P.blank (get_or j i P.blank) p s.counts.used) ≡ get_or (first_rows P s.counts.used j) p (unread P)
  row-there p i e =
      among-row P.row_of P.blank s.counts.used j used-fits p (get_or j i P.blank) (λ h. ap (λ (n : ℕ). get_or j n P.blank) (e ∙ position-row p s.counts.used h))

  pub rule-there : entry_at rules s.place.rule ≡ entry_at works-on.rules s.place.rule
  rule-there = ap entry_of (sym (get_or-take start.rules rules s.place.rule [] (omega (arith, goes_on.here, length-take start.rules rules))))

  pub formed-there : formed_from P.composing P.row_of P.blank (entry_at rules s.place.rule) s (get_or j s.left_row P.blank) (get_or j s.right_row P.blank) ≡ candidate_in works-on (first_rows P s.counts.used j) s.place
  formed-there =
      ap (λ (x : Rule). formed_from P.composing P.row_of P.blank x s (get_or j s.left_row P.blank) (get_or j s.right_row P.blank)) rule-there
      ∙ ap₂ (formed_by P.composing (entry_at works-on.rules s.place.rule) s.place) (row-there s.place.left s.left_row goes_on.left) (row-there s.place.right s.right_row goes_on.right)

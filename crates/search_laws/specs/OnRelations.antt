-- The search of the code: an effect is a relation on states, and the journal has the rows that are lent. Its names are those of the contracts
-- in code. Definitions only. Assumes nothing.
use Rattle.std.specs.Prelude.{◌≡◌, Bool, true, false, not, List, [], ℕ, ◌≤◌, T, length}
use Rattle.relation.specs.Relation.{contained}
use Rattle.spec_file.specs.Limits.{letter_words}
use Rattle.spec_order.specs.Algebra.{Laws}
use Rattle.spec_calls.specs.Base.{members_of, breaks_by}
use Rattle.spec_calls.specs.Rows.{row_of, blank, Journal}
use Rattle.spec_calls.specs.declared.Row.{Row}
use Rattle.search_rows.specs.Base.{rejecting}
use Rattle.search_rows.specs.Meanings.{composing_of, candidate_of}
use Rattle.search_rows.specs.declared.Candidate.{Candidate}
use Rattle.search_state.specs.declared.Counts.{Counts}
use Rattle.search_state.specs.declared.Fate.{Fate}
use Rattle.search_state.specs.Phases.{is_going}
use Rattle.search_state.specs.declared.State.{State}
use Rattle.search_state.specs.declared.Terms.{Terms}
use Rattle.search_links.specs.Rows.{rows_read}
use Rattle.search_cover.specs.Near.{is_near, Beside}
use Rattle.search_cover.specs.declared.CoverAnswer.{CoverAnswer}
use Rattle.search_laws.specs.Problems.{RuleBytes, Problem, algebra_of}
use Rattle.search_laws.specs.Running as running
use Rattle.search_laws.specs.declared.Reached.{Reached}

-- the table of letters, word by word
abbrev pub Letters : Type 0
Letters = List ℕ

-- `starts` is the set of the nonterminals whose words count, `finals` that of the final states; `letters` has the relation of each terminal,
-- and `rules` the rules
abbrev pub problem_in : ℕ → ℕ → Letters → RuleBytes → Problem ℕ Row
problem_in starts finals letters rules =
    record {
      composing = composing_of letters;
      below = contained;
      starts = starts;
      breaks = breaks_by (members_of starts) (rejecting finals);
      row_of = row_of;
      blank = blank;
      rules = rules;
      finals = finals;
    }

-- ---- a candidate, whatever the letters and the rules

abbrev pub CoverFound : State → Candidate → Journal → List ℕ → CoverAnswer → Type 0
CoverFound s c j t l = running.CoverFound (problem_in s.terms.starts s.terms.finals [] []) s (candidate_of c) j t l

-- the effects that stand beside each other in the words w are those of live rows among the used ones
abbrev pub NearIn : State → Journal → List ℕ → Type 0
NearIn s j w = Beside (rows_read row_of s.counts.used j) w

-- and after looking for a cover in vain those of the candidate's nonterminal
pub record Looked (s : State) (c : Candidate) (j : Journal) (t w : List ℕ) (l : CoverAnswer) : Type 0 where
  pub found : CoverFound s c j t l
  pub beside : NearIn s j w
  pub near : l.covers ≡ false → is_near w c.head ≡ true

abbrev pub fate_for : State → Candidate → Bool → Fate
fate_for s c covered = running.fate_for (problem_in s.terms.starts s.terms.finals [] []) s (candidate_of c) covered

abbrev pub MayInsert : State → Candidate → Fate → CoverAnswer → Journal → List ℕ → Type 0
MayInsert s c f l j t = running.MayInsert (problem_in s.terms.starts s.terms.finals [] []) s (candidate_of c) f l j t

abbrev pub CandidateInserted : State → Candidate → CoverAnswer → Journal → List ℕ → Journal → List ℕ → Type 0
CandidateInserted s c l j t j' t' = running.CandidateInserted (problem_in s.terms.starts s.terms.finals [] []) s (candidate_of c) l j t j' t'

-- ---- the loop

-- the invariant of the loop; the table of letters is whole
pub record Running (letters : Letters) (rules : RuleBytes) (start : State) (j₀ : Journal) (s : State) (j : Journal) (t : List ℕ) : Type 0 where
  pub all : T (is_going start.phase) → letter_words ≤ length letters
  pub search : running.Running (problem_in start.terms.starts start.terms.finals letters rules) rules start j₀ s j t

-- the search has run to its end
abbrev pub Ran : Letters → RuleBytes → State → Journal → Journal → List ℕ → State → Type 0
Ran letters rules start j₀ j t r = T (not (is_going r.phase)) × Running letters rules start j₀ r j t

abbrev pub Considered : Letters → RuleBytes → State → Journal → State → Candidate → Fate → CoverAnswer → Journal → List ℕ → Type 0
Considered letters rules start j₀ s c f l j t = running.Considered (problem_in start.terms.starts start.terms.finals letters rules) rules start j₀ s (candidate_of c) f l j t

-- ---- the steps between candidates

-- they name no effect: what they keep, they keep for every problem with the laws of the working order
abbrev ForAll : (Problem ℕ Row → Type 0) → Type 0
ForAll keeps = (P : Problem ℕ Row) → Laws (algebra_of P) → keeps P

abbrev pub OpensPass : RuleBytes → List ℕ → ℕ → Terms → Counts → List ℕ → Reached → Type 0
OpensPass rules t n b w t' x = ForAll (λ P. running.OpensPass P rules t n b w t' x)

abbrev pub Closes : RuleBytes → List ℕ → State → Counts → List ℕ → State → Type 0
Closes rules t s w t' r = ForAll (λ P. running.Closes P rules t s w t' r)

abbrev pub GoesFrom : RuleBytes → List ℕ → State → Reached → List ℕ → State → Type 0
GoesFrom rules t s x t' r = ForAll (λ P. running.GoesFrom P rules t s x t' r)

abbrev pub GoesOn : RuleBytes → List ℕ → State → Counts → List ℕ → State → Type 0
GoesOn rules t s w t' r = ForAll (λ P. running.GoesOn P rules t s w t' r)

abbrev pub Advances : RuleBytes → List ℕ → State → Fate → CoverAnswer → List ℕ → State → Type 0
Advances rules t s f l t' r = ForAll (λ P. running.Advances P rules t s f l t' r)

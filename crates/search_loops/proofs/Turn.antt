-- A turn of the loop of candidates: what a glance gives runs on, the candidate that is formed there is the one that stands there, it is looked for,
-- inserted or not, kept beside the others, and left behind. Assumes nothing.
use Rattle.std.proofs.Common.{◌≡◌, refl, sym, ap, ◌∙◌, subst, true, not, ◌||◌, T, List, ℕ, ◌*◌, ◌<◌, ◌^◌, get_or, lt_of_lt_of_le}
use Rattle.relation.specs.Relation.{states, contained}
use Rattle.relation.specs.Representation.{value as value_of}
use Rattle.spec_order.specs.Order.{dropped}
use Rattle.spec_calls.specs.Rows.{row_of, blank, Journal}
use Rattle.search_rows.specs.Base as order
use Rattle.search_rows.specs.FormLaws.{formed-with}
use Rattle.search_rows.specs.Forming.{formed_in, formed_with}
use Rattle.search_rows.specs.Meanings.{candidate_of}
use Rattle.search_rows.specs.declared.Candidate.{Candidate}
use Rattle.search_state.specs.Layout.{heads}
use Rattle.search_state.specs.declared.Fate.{Fate}
use Rattle.search_state.specs.Phases.{is_going}
use Rattle.search_state.specs.declared.Phase.TheVariants.{Going, Waiting, Ended, Broken}
use Rattle.search_state.specs.declared.Phase.{Phase}
use Rattle.search_state.specs.declared.State.{State}
use Rattle.search_links.specs.Rows.{rows_read}
use Rattle.search_cover.specs.Seeking.{FindsIn}
use Rattle.search_cover.specs.Steps.{Stays}
use Rattle.search_cover.specs.declared.CoverAnswer.{CoverAnswer}
use Rattle.search_laws.specs.Meanings.{counts_in, decided_in}
use Rattle.search_laws.specs.OnRelations.{NearIn, Looked, fate_for, CandidateInserted, Running, Considered, Advances, problem_in}
use Rattle.search_laws.specs.ProblemLaws.{problem-laws, looked-for, considered, near-after}
use Rattle.search_laws.specs.Running as running
use Rattle.search_laws.specs.Running.{candidates_left}
use Rattle.search_glance.specs.GlanceLaws.{Glanced, glanced}
use Rattle.search_glance.specs.Glancing.{Tries}
use Rattle.search_glance.specs.declared.Tried.{Tried}

-- the loop goes on at one phase alone
pub at-going : {g : Phase} → g ≡ Going → T (is_going g)
at-going e = subst (λ (x : Phase). T (is_going x)) (sym e) tt

pub not-going : (g : Phase) → (g ≡ Going → ⊥) → T (not (is_going g))
not-going Going n = n refl
not-going Waiting n = tt
not-going (Ended v) n = tt
not-going (Broken i) n = tt

module _ {letters : List ℕ} {rules : List (List ℕ)} {s₀ : State} {j₀ : Journal} {s : State} {j : Journal} {t n : List ℕ} (runs : Running letters rules s₀ j₀ s j t) (y : T (is_going s.phase)) (near : NearIn s j n) (r : Tried) (h : Tries letters rules t n s r) where
  pub seen : Glanced runs y near r
  seen = glanced runs y near r h

  -- the candidate is formed with the effect that was made of it
  module _ (c : Candidate) (h' : candidate_of c ≡ formed_with (value_of r.effect) rules r.state (get_or j r.state.left_row blank) (get_or j r.state.right_row blank)) where
    pub formed : candidate_of c ≡ formed_in letters rules r.state (get_or j r.state.left_row blank) (get_or j r.state.right_row blank)
    formed =
        h' ∙ ap (λ (e : ℕ). formed_with e rules r.state (get_or j r.state.left_row blank) (get_or j r.state.right_row blank)) seen.effect
        ∙ formed-with letters rules r.state (get_or j r.state.left_row blank) (get_or j r.state.right_row blank)

    pub looked : {n₁ : List ℕ} {l : CoverAnswer} → FindsIn r.state.counts.used c.head (value_of r.effect) r.covers r.slot t n n₁ l → Looked r.state c j t n₁ l
    looked f =
        looked-for seen.runs seen.goes c (value_of r.effect) r.slot r.covers (ap (λ (z : order.Candidate). z.effect) h') seen.beside f
        (λ e. subst (λ (z : order.Candidate). dropped contained z (rows_read row_of r.state.counts.used j) ≡ true) (sym formed) (seen.covered e)) seen.slot

    -- it is inserted or not
    module _ {n₁ : List ℕ} {l : CoverAnswer} (f : FindsIn r.state.counts.used c.head (value_of r.effect) r.covers r.slot t n n₁ l) {w : Fate} (hw : w ≡ fate_for r.state c l.covers) {j' : Journal} {t₁ : List ℕ} (h₂ : CandidateInserted r.state c l j t j' t₁) where
      pub considered-here : Considered letters rules s₀ j₀ r.state c w l j' t₁
      considered-here = considered seen.runs seen.goes c (looked f).found hw formed h₂

      -- and left behind
      module _ {t' : List ℕ} {r' : State} (h₃ : Advances rules t₁ r.state w l t' r') where
        advanced : running.Running (problem_in s₀.terms.starts s₀.terms.finals letters rules) rules s₀ j₀ r' j' t' × (candidates_left r' < candidates_left r.state) × (T (is_going r'.phase) → r'.counts.used ≡ (counts_in (decided_in r.state w)).used)
        advanced = h₃ (problem_in s₀.terms.starts s₀.terms.finals letters rules) (problem-laws s₀.terms.starts s₀.terms.finals letters rules) s₀ j₀ j' (candidate_of c) considered-here

        pub fewer : candidates_left r' < candidates_left s
        fewer = lt_of_lt_of_le advanced.1 seen.fewer

        pub runs-on : Running letters rules s₀ j₀ r' j' t'
        runs-on = record { all = runs.all; search = advanced.0 }

        pub near-then : c.head < heads → value_of c.relation < 2 ^ (states * states) → {n₂ : List ℕ} → Stays n₁ r.state.counts.used c.head (candidate_of c).effect (w.covered || w.full) n₂ → T (is_going r'.phase) → NearIn r' j' n₂
        near-then hh fits e₂ z = near-after seen.runs seen.goes c (looked f) hw hh fits h₂ e₂ r' (advanced.2 z)

-- The problem of relations has the laws that the working order asks for, and what its loop asks of each call follows from the invariant.
-- Assumes nothing.
use Rattle.std.specs.Prelude.{◌≡◌, refl, Bool, true, false, ◌||◌, cond, List, [], ℕ, ◌+◌, ◌*◌, ◌≤◌, ◌<◌, ◌^◌, T, eqb, length, get_or}
use Rattle.std.proofs.Common.{sym, ap, ◌∙◌, subst, subst₂, lt_of_lt_of_le}
use Rattle.std.proofs.Math.Arith.{lt_of_le-ne}
use Rattle.std.proofs.lemmas.Bool.{eqb-false}
use Rattle.spec_basics.specs.Tests.{or-neither}
use Rattle.relation.specs.Digits.{bit}
use Rattle.relation.specs.Relation.{states, contained}
use Rattle.relation.specs.Representation.{value}
use Rattle.relation.specs.Stored.{relation_in}
use Rattle.spec_order.specs.Algebra.{Algebra, Laws}
use Rattle.spec_order.proofs.Coverage.{Covered, covered-dropped, added-covered, dropped-added}
use Rattle.spec_order.specs.Journal.{Row}
use Rattle.spec_order.specs.Order.{dropped, added}
use Rattle.spec_calls.specs.Base.{members_of}
use Rattle.spec_calls.proofs.BaseLaws.{base-by-laws}
use Rattle.spec_calls.specs.Rows.{row_of, blank, Journal}
use Rattle.search_rows.specs.Forming.{formed_in}
use Rattle.search_rows.specs.Meanings.{candidate_of}
use Rattle.search_rows.specs.declared.Candidate.{Candidate}
use Rattle.search_state.specs.Fates.{fate_in}
use Rattle.search_state.specs.Layout.{row_cells, heads, head_cell, lists_from}
use Rattle.search_state.specs.declared.Fate.{Fate}
use Rattle.search_state.specs.Phases.{is_going}
use Rattle.search_state.specs.declared.State.{State}
use Rattle.search_state.specs.declared.Terms.{Terms}
use Rattle.search_links.specs.Rows.{rows_read}
use Rattle.search_cover.specs.Near.{near_words, Beside}
use Rattle.search_cover.specs.Seeking.{MayLook, FindsIn}
use Rattle.search_cover.specs.SeekLaws.{near-ready}
use Rattle.search_cover.specs.Steps.{Ready, Stays}
use Rattle.search_cover.specs.declared.CoverAnswer.{CoverAnswer}
use Rattle.search_laws.specs.Meanings.{counts_in, with_join, decided_by, decided_in}
use Rattle.search_laws.specs.Nearing.{beside-after}
use Rattle.search_laws.specs.OnRelations.{Letters, problem_in, CoverFound, NearIn, Looked, fate_for, MayInsert, CandidateInserted, Running, Considered}
use Rattle.search_laws.specs.Problems.{RuleBytes, algebra_of}
use Rattle.search_laws.specs.RunLaws.{may-find, stands_on, goes_on, used-fits, limit, pass-some, rule-inside, formed-there}

pub problem-laws : (starts finals : ℕ) (letters : Letters) (rules : RuleBytes) → Laws (algebra_of (problem_in starts finals letters rules))
problem-laws starts finals letters rules = base-by-laws states (members_of starts) (λ c. value (relation_in letters c)) (bit finals)

module _ {letters : Letters} {rules : RuleBytes} {start : State} {j₀ : Journal} {s : State} {j : Journal} {t : List ℕ} (r : Running letters rules start j₀ s j t) (g : T (is_going s.phase)) where
  pub may-form : s.place.rule < length rules
  may-form = rule-inside r.search g

  module _ (c : Candidate) {f : Fate} {l : CoverAnswer} (found : CoverFound s c j t l) (fate : f ≡ fate_for s c l.covers) where
    pub may-insert : MayInsert s c f l j t
    may-insert =
        record {
          fate = fate;
          pass = pass-some r.search g;
          rows = (stands_on r.search g).rows ∙ sym (stands_on r.search g).size;
          room = used-fits r.search g;
          limit = limit r.search g;
          covering = (goes_on r.search g).in-pass.covering;
          finds = found.finds;
        }

    pub considered : candidate_of c ≡ formed_in letters rules s (get_or j s.left_row blank) (get_or j s.right_row blank) → {j' : Journal} {t' : List ℕ} → CandidateInserted s c l j t j' t'
        → Considered letters rules start j₀ s c f l j' t'
    considered formed inserted =
        record {
          before = j;
          table = t;
          running = r.search;
          going = g;
          formed = formed ∙ formed-there r.search g;
          found = found;
          -- what breaks is what broke where the search began
          fate = fate ∙ ap (λ (b : Terms). fate_in s c.head l.covers ((problem_in b.starts b.finals letters rules).breaks c.head (value c.relation))) (goes_on r.search g).begun.terms;
          inserted = inserted;
        }

  -- ---- looking for the candidate, in the words w

  pub may-look : {w : List ℕ} → NearIn s j w → MayLook s.counts.used t w
  may-look near = record { rows = rows_read row_of s.counts.used j; leads = (may-find r.search g).2; beside = near }

  pub looked-for : (c : Candidate) (e slot : ℕ) (known : Bool) {w w' : List ℕ} {l : CoverAnswer} → (candidate_of c).effect ≡ e → NearIn s j w → FindsIn s.counts.used c.head e known slot t w w' l
      → (known ≡ true → dropped contained (candidate_of c) (rows_read row_of s.counts.used j) ≡ true) → (head_cell heads ≤ slot) × (slot < lists_from) → Looked s c j t w' l
  looked-for c e slot known is near finds covered inside =
      let z = finds (rows_read row_of s.counts.used j) (candidate_of c) refl is (may-find r.search g).2 near covered inside in
      record { found = z.found; beside = z.beside; near = z.near }

  -- ---- the words after it, where it was looked for in w

  module _ (c : Candidate) {f : Fate} {l : CoverAnswer} {w : List ℕ} (looked : Looked s c j t w l) (fate : f ≡ fate_for s c l.covers) (hh : c.head < heads) (fits : (candidate_of c).effect < 2 ^ (states * states)) where
    -- a row covers it, or there is no room
    dropped-is : (l.covers || eqb s.counts.used (length j)) ≡ (f.covered || f.full)
    dropped-is =
        ap (λ (n : ℕ). l.covers || eqb s.counts.used n) (sym ((stands_on r.search g).rows ∙ sym (stands_on r.search g).size))
        ∙ sym (ap (λ (z : Fate). z.covered || z.full) fate)

    pub may-keep : (length w ≡ near_words) × ((f.covered || f.full) ≡ false → Ready s.counts.used w × (s.counts.used < row_cells))
    may-keep = (looked.beside.size, few)
      where
        few : (f.covered || f.full) ≡ false → Ready s.counts.used w × (s.counts.used < row_cells)
        few e =
            let o = or-neither l.covers (eqb s.counts.used (length j)) (dropped-is ∙ e) in
            let n = eqb-false s.counts.used (length j) o.1 in
            (near-ready (may-find r.search g).2 c.head hh looked.beside (looked.near o.0), lt_of_lt_of_le (lt_of_le-ne (used-fits r.search g) n) (limit r.search g))

    -- they have the rows still, when the search stands at a candidate again
    pub near-after : {j' : Journal} {t' w' : List ℕ} → CandidateInserted s c l j t j' t' → Stays w s.counts.used c.head (candidate_of c).effect (f.covered || f.full) w'
        → (s' : State) → s'.counts.used ≡ (counts_in (decided_in s f)).used → NearIn s' j' w'
    near-after {j'} {t'} {w'} i e s' u =
        subst (λ (n : ℕ). Beside (rows_read row_of n j') w') (sym (u ∙ counted f.covered f.full f.breaks))
        (beside-after i looked.found.finds looked.beside hh looked.near (used-fits r.search g) fits (pass-some r.search g)
        (λ e q. dropped-added A L s.terms.pass (candidate_of c) e rows q)
        (λ e p q. covered-dropped A e (added contained s.terms.pass (candidate_of c) rows) (subst₂ (λ (x y : ℕ). Covered A x y (added contained s.terms.pass (candidate_of c) rows)) (sym p) (sym q) (added-covered A L s.terms.pass (candidate_of c) rows)))
        (f.covered || f.full) dropped-is e)
      where
        A : Algebra ℕ
        A = algebra_of (problem_in 0 0 [] [])

        L : Laws A
        L = problem-laws 0 0 [] []

        rows : List (Row ℕ)
        rows = rows_read row_of s.counts.used j

        counted : (d m b : Bool) → (counts_in (decided_by d m b (with_join s.counts))).used ≡ cond (d || m) s.counts.used (s.counts.used + 1)
        counted true m b = refl
        counted false true b = refl
        counted false false true = refl
        counted false false false = refl

-- The five ways through one candidate, as the code goes them. Assumes nothing.
use Rattle.std.specs.Prelude.{◌≡◌, Bool, List, ℕ, suc, ◌+◌, ◌≤◌, eqb, length}
use Rattle.std.proofs.Math.Path.{refl, sym, ap, ap₂}
use Rattle.std.proofs.Common.{◌∙◌, add-one, eq-eqb, ne_eqb}
use Rattle.std.proofs.Math.Bool.{true, false}
use native.Mathlib.Omega.{arith}
use Rattle.spec_order.specs.Candidates.{Candidate}
use Rattle.spec_order.specs.Journal.{Row, absent}
use Rattle.spec_order.specs.Order.{Progress, Outcome, broken, full, going, stopped, dropped, added, decide, consider}
use Rattle.search_links.specs.Rows.{Stored}
use Rattle.search_laws.specs.Meanings.{progress_of, with_join, with_row, born_by}
use Rattle.search_laws.specs.Problems.{Problem, first_rows}
use Rattle.search_laws.specs.Walks.{consider_in}
use Rattle.search_laws.specs.Clauses.{Answers}
use Rattle.search_links.specs.RowLaws.{rows-length}
use Rattle.search_state.specs.declared.Counts.{Counts}
use Rattle.search_laws.specs.declared.Outcome.TheVariants.{Going, Stopped}
use Rattle.search_laws.specs.declared.Stop.TheVariants.{Ended}
use Rattle.search_state.specs.declared.Unbroken.TheVariants.{Full, Spent}
use Rattle.search_state.specs.declared.Terms.{Terms}

module _ {E R : Type 0} (P : Problem E R) (t : Terms) (c : Candidate E) (w : Counts) (j : List R) (hu : w.used ≤ length j) (hb : w.joins ≤ t.budget) where
  abbrev rs : List (Row E)
  rs = first_rows P w.used j

  abbrev at : Progress E
  at = progress_of P.row_of w j

  abbrev given : Outcome E
  given = consider_in P t (length j) c at

  decided : (s d f b : Bool) → eqb w.joins t.budget ≡ s → dropped P.below c rs ≡ d → eqb (length rs) (length j) ≡ f → P.breaks c.head c.effect ≡ b
      → given ≡ decide P.below s d f b t.pass c at
  unfolding consider
  decided s d f b p q r x = cc

  -- the code's sum
  one_more : (l : List (Row E)) → ◌≡◌ {A = Progress E} (record { rows = l; joins = w.joins + 1 }) (record { rows = l; joins = suc w.joins })
  one_more l = ap {B = Progress E} (λ (n : ℕ). record { rows = l; joins = n }) (add-one w.joins)

  pub answers-spent : w.joins ≡ t.budget → Answers P.row_of t.budget given w j j (Stopped (Ended Spent w))
  unfolding decide
  answers-spent p =
      record {
        answer = sym (decided true _ _ _ (eq-eqb w.joins t.budget p) refl refl refl);
        beyond = refl;
        grows = omega arith;
        adds = refl;
        room = hu;
        paid = hb;
      }

  module _ (p : w.joins ≡ t.budget → ⊥) where
    pub answers-dropped : dropped P.below c rs ≡ true → Answers P.row_of t.budget given w j j (Going (with_join w))
    unfolding decide
    answers-dropped q =
        record {
          answer = ap going (one_more rs) ∙ sym (decided false true _ _ (ne_eqb w.joins t.budget p) q refl refl);
          beyond = refl;
          grows = omega arith;
          adds = refl;
          room = hu;
          paid = omega arith;
        }

    module _ (q : dropped P.below c rs ≡ false) where
      pub answers-full : w.used ≡ length j → Answers P.row_of t.budget given w j j (Stopped (Ended Full (with_join w)))
      unfolding decide
      answers-full e =
          record {
            answer =
                ap (stopped full absent) (one_more rs)
                ∙ sym (decided false false true _ (ne_eqb w.joins t.budget p) q (eq-eqb (length rs) (length j) (rows-length P.row_of w.used j hu ∙ e)) refl);
            beyond = refl;
            grows = omega arith;
            adds = refl;
            room = hu;
            paid = omega arith;
          }

      module _ (e : w.used ≡ length j → ⊥) (new : List R) (s : Stored P.row_of (w.used + 1) (added P.below t.pass c rs) j new) where
        fresh : (b : Bool) → P.breaks c.head c.effect ≡ b → given ≡ decide P.below false false false b t.pass c at
        fresh b x =
            decided false false false b (ne_eqb w.joins t.budget p) q (ne_eqb (length rs) (length j) (λ h. e (sym (rows-length P.row_of w.used j hu) ∙ h))) x

        grown : ◌≡◌ {A = Progress E} (record { rows = first_rows P (w.used + 1) new; joins = w.joins + 1 }) (record { rows = added P.below t.pass c rs; joins = suc w.joins })
        grown = ap {B = Progress E} (λ (l : List (Row E)). record { rows = l; joins = w.joins + 1 }) s.front ∙ one_more (added P.below t.pass c rs)

        pub answers-new : (b : Bool) → P.breaks c.head c.effect ≡ b → Answers P.row_of t.budget given w j new (born_by b w.used (with_row (with_join w)))
        unfolding decide
        answers-new true x =
            record { answer = ap₂ (stopped broken) (sym (rows-length P.row_of w.used j hu)) grown ∙ sym (fresh true x); beyond = s.beyond; grows = omega arith; adds = omega arith; room = omega arith; paid = omega arith }
        answers-new false x = record { answer = ap going grown ∙ sym (fresh false x); beyond = s.beyond; grows = omega arith; adds = omega arith; room = omega arith; paid = omega arith }

-- How a pass ends: the code's end of a pass is the working order's. Assumes nothing.
use Rattle.std.specs.Prelude.{◌≡◌, refl, Bool, true, false, List, ℕ, ◌+◌, ◌≤◌, eqb, length}
use Rattle.std.proofs.Common.{sym, ◌∙◌, arith, eqb-true, eq-eqb}
use Rattle.std.proofs.Math.Path.{ap}
use Rattle.std.proofs.lemmas.Bool.{eqb-false}
use Rattle.spec_basics.specs.Elements.{each}
use Rattle.spec_basics.specs.Tests.{iff-equal}
use Rattle.spec_order.specs.Journal.{Row, absent}
use Rattle.spec_order.specs.Order.{Verdict, broken, answer as answer_with, finish_by, has_row, close_by, close}
use Rattle.spec_order.specs.Order as order
use Rattle.search_links.specs.Rows.{rows_read}
use Rattle.search_laws.specs.Meanings.{progress_of, verdict_of, finished_by, outcome_of, counts_in, totals_of, answer_by, answer_of, totals_in, answer_to}
use Rattle.search_links.specs.RowLaws.{rows-length}
use Rattle.search_laws.specs.declared.Answer.TheVariants as answer
use Rattle.search_laws.specs.declared.Answer.{Answer}
use Rattle.search_state.specs.declared.Counts.{Counts}
use Rattle.search_laws.specs.declared.Outcome.TheVariants as outcome
use Rattle.search_laws.specs.declared.Outcome.{Outcome}
use Rattle.search_laws.specs.declared.Stop.TheVariants as stop

-- a pass is followed by another, or by the answer
pub data PassEnd : Type 0 where
  Again : Counts → PassEnd
  Done : Answer → PassEnd

-- `nonempty` says whether each nonterminal whose words count has a live row
abbrev pub end_by : Bool → Bool → Counts → ℕ → PassEnd
end_by true nonempty w k = Done (answer.Ended (finished_by nonempty) (totals_of w k))
end_by false nonempty w k = Again w

-- the end of pass k, by the rows that it added
abbrev pub end_of : Bool → ℕ → Outcome → PassEnd
end_of nonempty k (outcome.Going w) = end_by (eqb w.added 0) nonempty w k
end_of nonempty k (outcome.Stopped x) = Done (answer_to k x)

-- the answer of a pass that ends so, where N is the rest of the check
module _ {E R : Type 0} (row_of : R → Row E) where
  abbrev pub end_answer : PassEnd → List R → (order.Progress E → order.Answer E) → order.Answer E
  end_answer (Again w) j N = N (progress_of row_of w j)
  end_answer (Done a) j N = answer_of row_of a j

abbrev pub end_used : PassEnd → ℕ
end_used (Again w) = w.used
end_used (Done a) = (totals_in a).used

-- of n used rows m are added since there were u
added_none : (n u m : ℕ) → n ≡ u + m → eqb m 0 ≡ eqb n u
added_none n u m e = iff-equal (eqb m 0) (eqb n u) (λ p. eq-eqb n u (omega (arith, e, eqb-true m 0 p))) (λ p. eq-eqb m 0 (omega (arith, e, eqb-true n u p)))

-- pass k began with u rows
module _ {E R : Type 0} (row_of : R → Row E) (starts : List ℕ) (u k : ℕ) (j : List R) (N : order.Progress E → order.Answer E) where
  answer-given : (v : Verdict) (i : ℕ) (w : Counts) → w.used ≤ length j → answer_by row_of v i (totals_of w k) j ≡ answer_with v k i (progress_of row_of w j)
  unfolding answer_with
  answer-given v i w h = ap (λ (n : ℕ). record { verdict = v; joins = w.joins; used = n; pass = k; row = i; journal = rows_read row_of w.used j }) (sym (rows-length row_of w.used j h))

  -- the verdict of the last pass
  finish-given : (nonempty : Bool) (w : Counts) → w.used ≤ length j → answer_by row_of (verdict_of (finished_by nonempty)) absent (totals_of w k) j ≡ answer_with (finish_by nonempty) k absent (progress_of row_of w j)
  finish-given true w h = answer-given (finish_by true) absent w h
  finish-given false w h = answer-given (finish_by false) absent w h

  -- that it added no row is that it used no row more
  pub close-end : (r : Outcome) → (counts_in r).used ≤ length j → (counts_in r).used ≡ u + (counts_in r).added
      → end_answer row_of (end_of (each (has_row (rows_read row_of (counts_in r).used j)) starts) k r) j N ≡ close starts k u N (outcome_of row_of r j)
  close-end (outcome.Stopped (stop.Ended v w)) h a = answer-given (verdict_of v) absent w h
  close-end (outcome.Stopped (stop.Broken i w)) h a = answer-given broken i w h
  close-end (outcome.Going w) h a =
      split (eqb w.added 0)
      ∙ ap (λ (b : Bool). close_by starts b k N (progress_of row_of w j)) (added_none w.used u w.added a)
      ∙ ap (λ (n : ℕ). close_by starts (eqb n u) k N (progress_of row_of w j)) (sym (rows-length row_of w.used j h))
    where
      split : (b : Bool) → end_answer row_of (end_by b (each (has_row (rows_read row_of w.used j)) starts) w k) j N ≡ close_by starts b k N (progress_of row_of w j)
      split true = finish-given (each (has_row (rows_read row_of w.used j)) starts) w h
      split false = refl

pub close-used : (nonempty : Bool) (k : ℕ) (r : Outcome) → end_used (end_of nonempty k r) ≡ (counts_in r).used
close-used nonempty k (outcome.Stopped (stop.Ended v w)) = refl
close-used nonempty k (outcome.Stopped (stop.Broken i w)) = refl
close-used nonempty k (outcome.Going w) = split (eqb w.added 0)
  where
    split : (b : Bool) → end_used (end_by b nonempty w k) ≡ w.used
    split true = refl
    split false = refl

done-again : {w : Counts} {a : Answer} → Again w ≡ Done a → ⊥
done-again e = let z : ◌≡◌ {A = ℕ} 0 1 = cc in omega arith

pub again-going : (nonempty : Bool) (k : ℕ) (r : Outcome) (w' : Counts) → end_of nonempty k r ≡ Again w' → (r ≡ outcome.Going w') × (w'.added ≡ 0 → ⊥)
again-going nonempty k (outcome.Stopped x) w' e = absurd (done-again (sym e))
again-going nonempty k (outcome.Going w) w' e = split (eqb w.added 0) refl e
  where
    split : (b : Bool) → eqb w.added 0 ≡ b → end_by b nonempty w k ≡ Again w' → (outcome.Going w ≡ outcome.Going w') × (w'.added ≡ 0 → ⊥)
    split true p q = absurd (done-again (sym q))
    split false p q =
        let x : w ≡ w' = cc in
        (ap outcome.Going x, λ y. eqb-false w.added 0 p (ap (λ (v : Counts). v.added) x ∙ y))

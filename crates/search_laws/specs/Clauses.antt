-- What a candidate, a pass and the whole search ask and ensure, each in one record. Definitions only. Assumes nothing.
use Rattle.std.specs.Prelude.{◌≡◌, List, ℕ, ◌+◌, ◌≤◌, ◌<◌, length}
use Rattle.spec_order.specs.Journal.{Row}
use Rattle.spec_order.specs.Order as order
use Rattle.spec_order.specs.Order.{check}
use Rattle.spec_calls.specs.Checking.{journal_limit}
use Rattle.search_links.specs.Covers.{Covering}
use Rattle.search_links.specs.Rows.{KeptBeyond, rows_read}
use Rattle.search_state.specs.declared.Counts.{Counts}
use Rattle.search_state.specs.declared.Terms.{Terms}
use Rattle.search_laws.specs.Problems.{Problem, algebra_of, rules_in}
use Rattle.search_laws.specs.Meanings.{outcome_of, counts_in, answer_of, totals_in}
use Rattle.search_laws.specs.declared.Answer.{Answer}
use Rattle.search_laws.specs.declared.Outcome.{Outcome}

module _ {E R : Type 0} (row_of : R → Row E) where
  -- where a candidate may be taken
  pub record PassReady (b : Terms) (w : Counts) (j : List R) (covers : List ℕ) : Type 0 where
    pub room : w.used ≤ length j
    pub limit : length j ≤ journal_limit
    pub paid : w.joins ≤ b.budget
    pub pass : 0 < b.pass
    pub covering : Covering (rows_read row_of w.used j) covers

  -- a part of a pass that began at w gave r: it is what the working order gives, and the rows beyond those used are as they were
  pub record Answers (B : ℕ) (given : order.Outcome E) (w : Counts) (old new : List R) (r : Outcome) : Type 0 where
    pub answer : outcome_of row_of r new ≡ given
    pub beyond : KeptBeyond (counts_in r).used old new
    pub grows : w.used ≤ (counts_in r).used
    -- by as many rows as were added
    pub adds : (counts_in r).used + w.added ≡ w.used + (counts_in r).added
    pub room : (counts_in r).used ≤ length old
    pub paid : (counts_in r).joins ≤ B

  -- the passes gave r
  pub record Checked (given : order.Answer E) (old new : List R) (r : Answer) : Type 0 where
    pub answer : answer_of row_of r new ≡ given
    pub beyond : KeptBeyond (totals_in r).used old new
    pub room : (totals_in r).used ≤ length old

-- the working order on a problem, with J rows and a budget of B joins
unfoldable pub order_of : {E R : Type 0} → Problem E R → ℕ → ℕ → order.Answer E
order_of P J B = check (algebra_of P) (rules_in P) J B

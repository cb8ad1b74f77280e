-- The working order of document 01: what is done with one candidate, a pass, and the check. J is the journal's size and B the
-- budget. Definitions only. Assumes nothing.
use Rattle.std.specs.Prelude.{Bool, true, false, not, ◌&&◌, cond, List, [], ◌∷◌, ◌++◌, map, ℕ, zero, suc, eqb, length}
use Rattle.spec_basics.specs.Elements.{any, each}
use Rattle.spec_language.specs.Grammar.{Rule}
use Rattle.spec_order.specs.Algebra.{Algebra}
use Rattle.spec_order.specs.Journal.{Row, absent, live_of}
use Rattle.spec_order.specs.Candidates.{Candidate, pass_candidates}

-- the used rows, and the joins made
pub record Progress (E : Type 0) : Type 0 where
  pub rows : List (Row E)
  pub joins : ℕ

abbrev pub start : {E : Type 0} → Progress E
start = record { rows = []; joins = 0 }

pub data Verdict : Type 0 where
  holds broken full spent empty : Verdict

-- a pass is going, or has stopped with a verdict and a row
pub data Outcome (E : Type 0) : Type 0 where
  going : Progress E → Outcome E
  stopped : Verdict → ℕ → Progress E → Outcome E

pub record Answer (E : Type 0) : Type 0 where
  pub verdict : Verdict
  pub joins : ℕ
  pub used : ℕ
  pub pass : ℕ
  -- absent unless broken
  pub row : ℕ
  -- the used rows
  pub journal : List (Row E)

module _ {E : Type 0} where
  abbrev pub and_then : Outcome E → (Progress E → Outcome E) → Outcome E
  and_then (going s) k = k s
  and_then (stopped v i s) k = stopped v i s

  -- the row that a candidate becomes in pass k
  unfoldable pub born : ℕ → Candidate E → Row E
  born k c = record { head = c.head; rule = c.rule; effect = c.effect; left = c.left; right = c.right; len = c.len; birth = k; retired = 0 }

  unfoldable pub answer : Verdict → ℕ → ℕ → Progress E → Answer E
  answer v k i s = record { verdict = v; joins = s.joins; used = length s.rows; pass = k; row = i; journal = s.rows }

-- ---- one candidate

module _ {E : Type 0} (below : E → E → Bool) where
  -- a live row of its nonterminal has an effect contained in or equal to the candidate's
  unfoldable pub dropped : Candidate E → List (Row E) → Bool
  dropped c rows = any (λ r. live_of c.head r && below r.effect c.effect) rows

  -- the row is live, of the candidate's nonterminal, and has a strictly larger effect
  unfoldable pub larger : Candidate E → Row E → Bool
  larger c r = live_of c.head r && (below c.effect r.effect && not (below r.effect c.effect))

  -- the row after the candidate c became a row in pass k: a larger one retires
  unfoldable pub retire : ℕ → Candidate E → Row E → Row E
  retire k c r =
      record { head = r.head; rule = r.rule; effect = r.effect; left = r.left; right = r.right; len = r.len; birth = r.birth; retired = cond (larger c r) k r.retired }

  -- the journal with the candidate as its next row
  unfoldable pub added : ℕ → Candidate E → List (Row E) → List (Row E)
  added k c rows = map (retire k c) rows ++ (born k c ∷ [])

  -- the four tests, in this order: the budget is used up; dropped; no row is unused; the new row breaks
  unfoldable pub decide : Bool → Bool → Bool → Bool → ℕ → Candidate E → Progress E → Outcome E
  decide true d f b k c s = stopped spent absent s
  decide false true f b k c s = going (record { rows = s.rows; joins = suc s.joins })
  decide false false true b k c s = stopped full absent (record { rows = s.rows; joins = suc s.joins })
  decide false false false true k c s = stopped broken (length s.rows) (record { rows = added k c s.rows; joins = suc s.joins })
  decide false false false false k c s = going (record { rows = added k c s.rows; joins = suc s.joins })

  module _ (breaks : ℕ → E → Bool) (J B : ℕ) where
    -- what is done with the candidate c in pass k
    unfoldable pub consider : ℕ → Candidate E → Progress E → Outcome E
    consider k c s = decide (eqb s.joins B) (dropped c s.rows) (eqb (length s.rows) J) (breaks c.head c.effect) k c s

    -- one candidate after the other, until one stops the check
    unfoldable pub walk : ℕ → List (Candidate E) → Progress E → Outcome E
    walk k [] s = going s
    walk k (c ∷ cs) s = and_then (consider k c s) (walk k cs)

-- ---- the check

-- the verdict of a check whose last pass added no row: the flag says whether each nonterminal whose words count has a live row
abbrev pub finish_by : Bool → Verdict
finish_by true = holds
finish_by false = empty

module _ {E : Type 0} where
  -- a live row is one of the nonterminal
  unfoldable pub has_row : List (Row E) → ℕ → Bool
  has_row rows x = any (live_of x) rows

  -- that verdict, from the nonterminals whose words count and the rows: "it is empty if some member has no run, and holds if all have"
  abbrev pub finish : List ℕ → List (Row E) → Verdict
  finish starts rows = finish_by (each (has_row rows) starts)

module _ {E : Type 0} (starts : List ℕ) where
  -- the flag says whether pass k added no row: then the check ends; `next` is the rest of the check otherwise
  abbrev pub close_by : Bool → ℕ → (Progress E → Answer E) → Progress E → Answer E
  close_by true k next s = answer (finish starts s.rows) k absent s
  close_by false k next s = next s

  -- the check from the end of pass k on, which began with u rows and came to the given outcome
  abbrev pub close : ℕ → ℕ → (Progress E → Answer E) → Outcome E → Answer E
  close k u next (stopped v i s) = answer v k i s
  close k u next (going s) = close_by (eqb (length s.rows) u) k next s

-- a check with J rows and a budget of B joins has at most this many passes: each but the last adds a row
abbrev pub pass_limit : ℕ → ℕ → ℕ
pass_limit J B = suc J

module _ {E : Type 0} (A : Algebra E) (rules : List Rule) (J B : ℕ) where
  -- pass k, over the candidates of the journal as it stands when the pass begins
  unfoldable pub one_pass : ℕ → Progress E → Outcome E
  one_pass k s = walk A.below A.breaks J B k (pass_candidates A.forms s.rows 0 rules) s

  -- passes from pass k on, f of them at most. A check is never cut short by f (Counting.antt), and the answer there is not "holds"
  unfoldable pub passes : ℕ → ℕ → Progress E → Answer E
  passes zero k s = answer full k absent s
  passes (suc f) k s = close A.starts k (length s.rows) (passes f (suc k)) (one_pass k s)

  -- passes count from 1, with no row used and no join made
  unfoldable pub check : Answer E
  check = passes (pass_limit J B) 1 start

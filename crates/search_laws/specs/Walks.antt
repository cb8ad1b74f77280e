-- One candidate, candidates one after the other, and a pass, under the terms of the pass; and those that the pass before formed too.
-- Definitions only. Assumes nothing.
use Rattle.std.specs.Prelude.{◌≡◌, Bool, true, List, ℕ, ◌<◌, length}
use Rattle.spec_basics.specs.Elements.{In, each}
use Rattle.spec_order.specs.Candidates.{Candidate, pass_candidates}
use Rattle.spec_order.specs.Journal.{Row}
use Rattle.spec_order.specs.Order.{Progress, Outcome, dropped, consider, walk, has_row}
use Rattle.spec_order.proofs.Repeating.{Repeats}
use Rattle.search_state.specs.declared.Place.{Place}
use Rattle.search_order.specs.Candidates.{candidate_at}
use Rattle.search_state.specs.declared.Counts.{Counts}
use Rattle.search_state.specs.declared.Terms.{Terms}
use Rattle.search_laws.specs.Meanings.{progress_of}
use Rattle.search_laws.specs.Problems.{Problem, algebra_of, rules_in, first_rows, unread}

module _ {E R : Type 0} (P : Problem E R) where
  abbrev pub consider_in : Terms → ℕ → Candidate E → Progress E → Outcome E
  consider_in b J = consider P.below P.breaks J b.budget b.pass

  abbrev pub walk_in : Terms → ℕ → List (Candidate E) → Progress E → Outcome E
  walk_in b J = walk P.below P.breaks J b.budget b.pass

  abbrev pub candidates_in : List (Row E) → List (Candidate E)
  candidates_in rows = pass_candidates (algebra_of P).forms rows 0 (rules_in P)

  -- the candidate of the place p, from these rows
  abbrev pub candidate_in : List (Row E) → Place → Candidate E
  candidate_in rows p = candidate_at P.composing (unread P) rows P.rules p

  -- the whole pass that begins at w over the journal j
  abbrev pub pass_in : Terms → Counts → List R → Outcome E
  pass_in b w j = walk_in b (length j) (candidates_in (first_rows P w.used j)) (progress_of P.row_of w j)

  -- among the first u rows of the journal j is a live one of each nonterminal whose words count
  abbrev pub nonempty_in : ℕ → List R → Bool
  nonempty_in u j = each (has_row (first_rows P u j)) (algebra_of P).starts

  -- ---- what the pass before formed

  -- every candidate of `cs` whose rows are all below n is already covered by a live row of `rows`
  abbrev pub Known : ℕ → List (Candidate E) → List (Row E) → Type 0
  Known n cs rows = 0 < n → (c : Candidate E) → In c cs → Repeats n c → dropped P.below c rows ≡ true

  -- every candidate of a pass that begins with the first u rows of the journal j is
  abbrev pub KnownFrom : ℕ → ℕ → List R → Type 0
  KnownFrom n u j = Known n (candidates_in (first_rows P u j)) (first_rows P u j)

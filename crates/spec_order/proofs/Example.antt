-- The working order computed on a small plan over a toy algebra: effects are numbers, a pair forms the sum, and only equal ones compare.
-- It settles which candidates a pass has: none of the rows born in it, and those of every rule. Assumes nothing.
use Rattle.std.specs.Prelude.{◌≡◌, refl, false, List, [], ◌∷◌, ℕ, ◌+◌, eqb}
use Rattle.spec_language.specs.Grammar.{terminal, nonterminal, one, two, Rule}
use Rattle.spec_order.specs.Algebra.{Algebra}
use Rattle.spec_order.specs.Journal.{capped, live, live_of}
use Rattle.spec_order.specs.Candidates.{live_rows, sole, paired, bare, choices, body_candidates, pass_candidates}
use Rattle.spec_order.specs.Order.{Verdict, holds, born, answer, dropped, larger, retire, added, decide, consider, walk, has_row, one_pass, passes, check}

abbrev pub toy : Algebra ℕ
toy = record { forms = record { of_empty = 0; of_terminal = λ c. c; of_pair = λ x y. (x + y) ∷ [] }; below = eqb; starts = []; breaks = λ x e. false }

-- 1 gives 5; 0 gives (nonterminal 1); 2 gives (nonterminal 0) 7
abbrev pub rules : List Rule
rules = record { head = 1; body = one (terminal 5) } ∷ record { head = 0; body = one (nonterminal 1) } ∷ record { head = 2; body = two (nonterminal 0) (terminal 7) } ∷ []

pub record CountedAs : Type 0 where
  pub verdict : Verdict
  pub joins : ℕ
  pub used : ℕ
  pub pass : ℕ

pub counted : ℕ → ℕ → CountedAs
unfolding check passes one_pass walk consider decide added retire larger dropped has_row answer born pass_candidates body_candidates choices bare sole paired live_rows live live_of capped
counted J B = let a = check toy rules J B in record { verdict = a.verdict; joins = a.joins; used = a.used; pass = a.pass }

-- one row is born in each of three passes, and the fourth adds none: 1 + 2 + 3 + 3 joins
pub one-row-a-pass : counted 9 99 ≡ record { verdict = holds; joins = 9; used = 3; pass = 4 }
unfolding counted
one-row-a-pass = refl

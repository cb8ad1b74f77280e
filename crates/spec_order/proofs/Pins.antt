-- The rows of two small plans over toy algebras, computed field by field. They settle what no theorem says: the order of a pass's candidates
-- (the left symbol outer, the right one inner, rows rising), what each row points to, and the passes in which rows are added and retire.
-- And the verdict at the end of a check. Assumes nothing.
use Rattle.std.specs.Prelude.{◌≡◌, refl, false, List, [], ◌∷◌, ℕ, ◌+◌, leb}
use Rattle.spec_language.specs.Grammar.{Symbol, terminal, nonterminal, one, two, Rule}
use Rattle.spec_order.specs.Algebra.{Algebra}
use Rattle.spec_order.specs.Journal.{Row, absent, capped, live, live_of}
use Rattle.spec_order.specs.Candidates.{live_rows, sole, paired, bare, choices, body_candidates, pass_candidates}
use Rattle.spec_order.specs.Order.{Verdict, holds, empty, born, answer, dropped, larger, retire, added, decide, consider, walk, has_row, finish, one_pass, passes, check}
use Rattle.spec_order.proofs.Example.{toy}

-- the numbers that name no row and cap a length
pub lengths : (absent ≡ 65535) × (capped 65534 ≡ 65534) × (capped 65535 ≡ 65535) × (capped 65536 ≡ 65535)
unfolding capped
lengths = (refl, refl, refl, refl)

-- x gives s; x gives s t
abbrev pub gives : ℕ → Symbol → Rule
gives x s = record { head = x; body = one s }

abbrev pub gives_both : ℕ → Symbol → Symbol → Rule
gives_both x s t = record { head = x; body = two s t }

-- nonterminal, rule, effect, left, right, length, birth pass, retirement pass
abbrev pub row : ℕ → ℕ → ℕ → ℕ → ℕ → ℕ → ℕ → ℕ → Row ℕ
row x r e i j n p q = record { head = x; rule = r; effect = e; left = i; right = j; len = n; birth = p; retired = q }

pub journal : Algebra ℕ → List Rule → List (Row ℕ)
unfolding check passes one_pass walk consider decide added retire larger dropped has_row answer born pass_candidates body_candidates choices bare sole paired live_rows live live_of capped
journal A rules = (check A rules 9 99).journal

-- ---- two rows for each symbol of a body of two: the sums tell the pairs apart

abbrev pub pairing : List Rule
pairing =
    gives 1 (terminal 5) ∷ gives 1 (terminal 6) ∷ gives 2 (terminal 10) ∷ gives 2 (terminal 20) ∷ gives_both 0 (nonterminal 1) (nonterminal 2) ∷ []

-- rows 4 to 7: row 0 with 2 and 3, and then row 1 with 2 and 3
pub left-outer : journal toy pairing
    ≡ row 1 0 5 65535 65535 1 1 0
    ∷ row 1 1 6 65535 65535 1 1 0
    ∷ row 2 2 10 65535 65535 1 1 0
    ∷ row 2 3 20 65535 65535 1 1 0
    ∷ row 0 4 15 0 2 2 2 0
    ∷ row 0 4 25 0 3 2 2 0
    ∷ row 0 4 16 1 2 2 2 0
    ∷ row 0 4 26 1 3 2 2 0
    ∷ []
unfolding journal
left-outer = refl

-- ---- effects of one nonterminal that fall from pass to pass, where the smaller number is the smaller effect

abbrev pub falling : Algebra ℕ
falling = record { forms = record { of_empty = 0; of_terminal = λ c. c; of_pair = λ x y. (x + y) ∷ [] }; below = leb; starts = []; breaks = λ x e. false }

abbrev pub chain : List Rule
chain =
    gives 1 (terminal 9) ∷ gives 2 (terminal 5) ∷ gives 4 (terminal 3) ∷ gives 1 (nonterminal 2) ∷ gives 3 (nonterminal 4) ∷ gives 1 (nonterminal 3) ∷ []

-- of nonterminal 1: 9 retires in pass 2 for 5, and 5 in pass 3 for 3. A row that has retired keeps its pass
pub row-passes : journal falling chain
    ≡ row 1 0 9 65535 65535 1 1 2
    ∷ row 2 1 5 65535 65535 1 1 0
    ∷ row 4 2 3 65535 65535 1 1 0
    ∷ row 1 3 5 1 65535 1 2 3
    ∷ row 3 4 3 2 65535 1 2 0
    ∷ row 1 5 3 4 65535 1 3 0
    ∷ []
unfolding journal
row-passes = refl

-- ---- the end of a check

-- in which only the words of nonterminal 7 count
pub ended : List (Row ℕ) → Verdict
unfolding has_row live live_of
ended rows = finish (7 ∷ []) rows

-- it holds where 7 has a live row, also as the last of several. A row of another nonterminal is none, and neither is one that has retired
pub ends :
    (ended [] ≡ empty)
    × (ended (row 0 0 5 65535 65535 1 1 0 ∷ row 8 1 5 65535 65535 1 1 0 ∷ []) ≡ empty)
    × (ended (row 7 0 5 65535 65535 1 1 2 ∷ []) ≡ empty)
    × (ended (row 7 0 5 65535 65535 1 1 0 ∷ []) ≡ holds)
    × (ended (row 7 0 5 65535 65535 1 1 2 ∷ row 0 1 5 65535 65535 1 1 0 ∷ row 7 2 3 65535 65535 1 2 0 ∷ []) ≡ holds)
unfolding ended
ends = (refl, refl, refl, refl, refl)

-- in which the words of 7 and of 9 count: both have to have a live row. With no such nonterminal it holds
pub ends-several :
    (finish (7 ∷ 9 ∷ []) (row 9 0 5 65535 65535 1 1 0 ∷ row 7 1 5 65535 65535 1 1 0 ∷ []) ≡ holds)
    × (finish (7 ∷ 9 ∷ []) (row 7 0 5 65535 65535 1 1 0 ∷ []) ≡ empty)
    × (finish (7 ∷ 9 ∷ []) (row 9 0 5 65535 65535 1 1 0 ∷ []) ≡ empty)
    × (finish {E = ℕ} [] [] ≡ holds)
unfolding has_row live live_of
ends-several = (refl, refl, refl, refl)

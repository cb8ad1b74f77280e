-- The candidates of a pass, as one list made from the rows that were live when the pass began: rules in file order, the left
-- symbol outer, the right one inner, rows rising (document 01, "Working order"). Definitions only. Assumes nothing.
use Rattle.std.specs.Prelude.{cond, ℕ, suc, ◌+◌}
use mathlib.Core.List.{List, [], ◌∷◌, ◌++◌, map}
use Rattle.spec_basics.specs.Elements.{concat_map}
use Rattle.spec_language.specs.Grammar.{Symbol, terminal, nonterminal, Body, empty, one, two, Rule}
use Rattle.spec_order.specs.Algebra.{Forms}
use Rattle.spec_order.specs.Journal.{Row, absent, capped, live_of}

-- one way to take a symbol: its effect, the row that it points to, its length
pub record Choice (E : Type 0) : Type 0 where
  pub effect : E
  pub pointer : ℕ
  pub len : ℕ

-- what would become a row
pub record Candidate (E : Type 0) : Type 0 where
  pub head : ℕ
  pub rule : ℕ
  pub effect : E
  pub left : ℕ
  pub right : ℕ
  pub len : ℕ

module _ {E : Type 0} where
  -- the live rows of the nonterminal x, rising; i is the number of the first row of the list
  unfoldable pub live_rows : ℕ → ℕ → List (Row E) → List (Choice E)
  live_rows x i [] = []
  live_rows x i (r ∷ rows) =
      cond (live_of x r) (record { effect = r.effect; pointer = i; len = r.len } ∷ live_rows x (suc i) rows) (live_rows x (suc i) rows)

  -- the candidate of a body of one symbol, in rule r of the nonterminal x
  unfoldable pub sole : ℕ → ℕ → Choice E → Candidate E
  sole x r c = record { head = x; rule = r; effect = c.effect; left = c.pointer; right = absent; len = c.len }

  -- the candidate of a body of two symbols, whose effects form e
  unfoldable pub paired : ℕ → ℕ → Choice E → Choice E → E → Candidate E
  paired x r c d e = record { head = x; rule = r; effect = e; left = c.pointer; right = d.pointer; len = capped (c.len + d.len) }

module _ {E : Type 0} (M : Forms E) where
  -- the candidate of an empty body
  unfoldable pub bare : ℕ → ℕ → Candidate E
  bare x r = record { head = x; rule = r; effect = M.of_empty; left = absent; right = absent; len = 0 }

  module _ (rows : List (Row E)) where
    -- a terminal is one choice
    unfoldable pub choices : Symbol → List (Choice E)
    choices (terminal c) = record { effect = M.of_terminal c; pointer = absent; len = 1 } ∷ []
    choices (nonterminal x) = live_rows x 0 rows

    unfoldable pub body_candidates : ℕ → ℕ → Body → List (Candidate E)
    unfolding bare
    body_candidates x r empty = bare x r ∷ []
    body_candidates x r (one s) = map (sole x r) (choices s)
    body_candidates x r (two s t) = concat_map (λ c. concat_map (λ d. map (paired x r c d) (M.of_pair c.effect d.effect)) (choices t)) (choices s)

    -- r is the number of the first rule of the list
    unfoldable pub pass_candidates : ℕ → List Rule → List (Candidate E)
    pass_candidates r [] = []
    pass_candidates r (x ∷ rules) = body_candidates x.head r x.body ++ pass_candidates (suc r) rules

-- Bodies of any length unfolded into bodies of at most two symbols (document 02, C-17: "a longer body becomes its first symbol and a chain
-- procedure for the rest"). Definitions only. Assumes nothing.
use Rattle.std.specs.Prelude.{List, [], ◌∷◌, ◌++◌, ℕ, suc, ◌+◌, ◌-◌, max, length}

-- a rule with a body of any length. S: symbols, or the bytes that stand for them in a file
pub record RuleOver (S : Type 0) : Type 0 where
  pub head : ℕ
  pub body : List S

module _ {S : Type 0} where
  -- how many chain procedures the rule takes
  abbrev pub chains_for : RuleOver S → ℕ
  chains_for p = length p.body - 2

  -- and all rules together
  unfoldable pub chains_in : List (RuleOver S) → ℕ
  chains_in [] = 0
  chains_in (p ∷ ps) = chains_for p + chains_in ps

-- call: the symbol of a procedure
module _ {S : Type 0} (call : ℕ → S) where
  -- the rules for head x and a body, whose chain procedures are numbered from n on, "left to right"
  unfoldable pub chain : ℕ → ℕ → List S → List (RuleOver S)
  chain x n [] = record { head = x; body = [] } ∷ []
  chain x n (s ∷ []) = record { head = x; body = s ∷ [] } ∷ []
  chain x n (s ∷ t ∷ []) = record { head = x; body = s ∷ t ∷ [] } ∷ []
  chain x n (s ∷ t ∷ u ∷ rest) = record { head = x; body = s ∷ call n ∷ [] } ∷ chain n (suc n) (t ∷ u ∷ rest)

  -- the rules for a list of rules, numbered "in file order" from n on
  unfoldable pub unfolded : ℕ → List (RuleOver S) → List (RuleOver S)
  unfolded n [] = []
  unfolded n (p ∷ ps) = chain p.head n p.body ++ unfolded (n + chains_for p) ps

-- above: the first number above a symbol's procedure, 0 for a terminal
module _ {S : Type 0} (above : S → ℕ) where
  -- the first number that is m or above it, and above each procedure among the symbols
  unfoldable pub above_body : ℕ → List S → ℕ
  above_body m [] = m
  above_body m (s ∷ ss) = above_body (max m (above s)) ss

  -- the first number that is m or above it, and "above the highest procedure in use as head or symbol"
  unfoldable pub first_free : ℕ → List (RuleOver S) → ℕ
  first_free m [] = m
  first_free m (p ∷ ps) = first_free (above_body (max m (suc p.head)) p.body) ps

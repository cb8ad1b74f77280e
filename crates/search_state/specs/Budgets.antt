-- Whether a search may make one more join. Definitions only. Assumes nothing.
use Rattle.std.specs.Prelude.{Bool, ℕ, leb}

-- a budget of B joins is used up by n joins
abbrev pub is_spent : ℕ → ℕ → Bool
is_spent B n = leb B n

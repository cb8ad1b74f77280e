-- Words of terminals. Definitions only. Assumes nothing.
use Rattle.std.specs.Prelude.{Bool, List, ℕ, leb}
use Rattle.spec_basics.specs.Elements.{any}
use Rattle.spec_file.specs.Limits.{terminals}

-- some letter of the word is no terminal (document 01: a code above 127)
abbrev pub strays : List ℕ → Bool
strays w = any (λ c. leb terminals c) w

-- The first bytes of a record, and those of its symbols. Definitions only. Assumes nothing.
use Rattle.std.specs.Prelude.{List, [], ◌∷◌, ℕ, take, drop}
use Rattle.spec_file.specs.Forms.{sixteen}
use Rattle.spec_file.specs.Records.{byte}

-- as many as a record of document 01 has
abbrev pub front_of : List ℕ → List ℕ
front_of r = byte r 0 ∷ byte r 1 ∷ byte r 2 ∷ byte r 3 ∷ byte r 4 ∷ byte r 5 ∷ byte r 6 ∷ byte r 7 ∷ []

-- "twelve symbols in bytes 3 to 14"
abbrev pub symbols_of : List ℕ → List ℕ
symbols_of r = take sixteen.body_limit (drop 3 r)

-- A file as a list of records of w bytes, and back. Definitions only. Assumes nothing.
use Rattle.std.specs.Prelude.{List, [], ◌∷◌, ◌++◌, ℕ, zero, suc, ◌/◌, length, take, drop}

-- the bytes of records, one after the other
abbrev pub bytes_of : List (List ℕ) → List ℕ
bytes_of [] = []
bytes_of (r ∷ rs) = r ++ bytes_of rs

-- the first n blocks of w bytes
abbrev pub blocks : ℕ → ℕ → List ℕ → List (List ℕ)
blocks w zero bs = []
blocks w (suc n) bs = take w bs ∷ blocks w n (drop w bs)

-- the whole records of a file, of w bytes each
abbrev pub records_of : ℕ → List ℕ → List (List ℕ)
records_of w bs = blocks w (length bs / w) bs

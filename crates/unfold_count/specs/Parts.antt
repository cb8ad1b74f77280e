-- A part of a record's bytes. Definitions only. Assumes nothing.
use Rattle.std.specs.Prelude.{List, ℕ, ◌-◌, take, drop}

-- the bytes from byte j up to byte `end`
abbrev pub part : ℕ → ℕ → List ℕ → List ℕ
part j end r = take (end - j) (drop j r)

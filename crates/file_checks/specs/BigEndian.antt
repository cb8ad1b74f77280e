-- A record's bytes as one number, the first byte the highest, over any base. Definitions only. Assumes nothing.
use Rattle.std.specs.Prelude.{List, ℕ, zero, suc, ◌+◌, ◌*◌}
use Rattle.spec_file.specs.Records.{byte}

-- the number of the first k bytes
unfoldable pub big_endian : ℕ → ℕ → List ℕ → ℕ
big_endian base zero r = 0
big_endian base (suc k) r = big_endian base k r * base + byte r k

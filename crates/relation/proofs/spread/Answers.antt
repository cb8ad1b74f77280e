-- A row less its lowest digit, of the next row's lowest digit, is the row's digits.
use Rattle.std.proofs.Common.{◌≡◌, ℕ, ◌+◌, ◌-◌, ◌*◌, ◌%◌, ◌^◌, ◌<◌, arith}
use Rattle.relation.specs.Digits.{pieces}
use Rattle.relation.specs.Product.{column, spread, spread-lt}
use Rattle.relation.specs.Relation.{states}
use Rattle.relation.specs.Representation.{rows_of_word}
use Rattle.relation.proofs.spread.Goals as goal

-- the difference does not wrap, whatever the sum of which it is the remainder
difference : (l : ℕ) → l * 65535 < 2 ^ 64 → (l * 2 ^ 16 % 2 ^ 64 + (2 ^ 64 - l)) % 2 ^ 64 ≡ l * 65535
difference l h = omega arith

pub returns : goal.returns
unfolding spread column pieces
returns c = difference _ (spread-lt states rows_of_word (omega arith) c.args.x)

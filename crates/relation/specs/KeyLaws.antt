-- Keys of relations. Assumes nothing.
use Rattle.std.specs.Prelude.{◌≡◌, ℕ, ◌*◌, ◌^◌, true, bit_and}
use Rattle.relation.specs.Digits.{piece, subset}
use Rattle.relation.specs.DigitLaws.{subset-and, subset-shl, subset-or}
use Rattle.relation.specs.Pieces.{subset-piece}
use Rattle.relation.specs.Relation.{contained, lower_halves, key_of}

-- a relation that is contained in another has a key that is: keys tell that it is not
pub key_below : (a b : ℕ) → contained a b ≡ true → subset (key_of a) (key_of b) ≡ true
unfolding key_of
key_below a b s =
    subset-or (low a 0) (low b 0) (low a 1 * 2 ^ 8) (low b 1 * 2 ^ 8) (below 0) (subset-shl 8 (low a 1) (low b 1) (below 1))
  where
    low : ℕ → ℕ → ℕ
    low r k = bit_and (piece 64 r k) lower_halves

    below : (k : ℕ) → subset (low a k) (low b k) ≡ true
    below k = subset-and lower_halves (piece 64 a k) (piece 64 b k) (subset-piece 64 a b k s)

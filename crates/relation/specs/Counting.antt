-- The ones of a word are the places in it; of a relation, its pairs. Assumes nothing.
use Rattle.std.specs.Prelude.{◌≡◌, ℕ, zero, suc, ◌+◌, ◌*◌, ◌/◌, ◌%◌, ◌^◌, ◌<◌, Bool, true, false, refl}
use Rattle.std.proofs.Common.{sym, ap, ap₂, ◌∙◌, subst, suc-le-suc, le_refl, le_of_lt, mod-lt, add_comm, arith, pow_pos}
use Rattle.std.proofs.Math.Arith.{le-zero}
use Rattle.std.specs.Int.Count.{ones, ones_in}
use Rattle.std.proofs.lemmas.Nat.{ones_cat, ones-le}
use Rattle.std.proofs.Math.Pow.{recompose}
use Rattle.relation.specs.Digits.{bit, digit, count, sum, pieces}
use Rattle.relation.specs.DigitLaws.{digit-is, bit-mod}
use Rattle.relation.specs.Pieces.{pieces-lt}
use Rattle.relation.specs.Relation.{pairs}

count_same : (m : ℕ) (f g : ℕ → Bool) → ((k : ℕ) → k < m → f k ≡ g k) → count m f ≡ count m g
unfolding count
count_same zero f g h = refl
count_same (suc m) f g h =
    ap₂ (λ (a : Bool) (b : ℕ). digit a + b) (h m (le_refl (suc m))) (count_same m f g (λ k l. h k (le_of_lt (suc-le-suc l))))

ones-digit : (b : Bool) → ones (digit b) ≡ digit b
unfolding ones ones_in
ones-digit true = refl
ones-digit false = refl

pub ones-count : (m x : ℕ) → x < 2 ^ m → ones x ≡ count m (bit x)
unfolding count
ones-count zero x h = le-zero (ones-le 0 x h)
ones-count (suc m) x h =
    ap ones (sym (recompose 1 m (subst (λ (z : ℕ). x < 2 ^ z) (let p : suc m ≡ 1 + m = omega arith in p) h)))
    ∙ ones_cat m (x / 2 ^ m % 2) (x % 2 ^ m) (mod-lt x (pow_pos m))
    ∙ ap₂ (λ (a b : ℕ). a + b)
    (ap ones (digit-is x m) ∙ ones-digit (bit x m))
    (ones-count m (x % 2 ^ m) (mod-lt x (pow_pos m)) ∙ count_same m (bit (x % 2 ^ m)) (bit x) (bit-mod x m))

pub ones-pairs : (n r : ℕ) → r < 2 ^ (n * n) → ones r ≡ pairs n r
unfolding pairs
ones-pairs n r h = ones-count (n * n) r h

-- the ones of several words
pub ones-pieces : (n k : ℕ) (f : ℕ → ℕ) → ((a : ℕ) → f a < 2 ^ n) → sum k (λ a. ones (f a)) ≡ ones (pieces n k f)
unfolding sum pieces
ones-pieces n zero f h = sym (le-zero (ones-le 0 0 (pow_pos 0)))
ones-pieces n (suc k) f h =
    ap (λ (z : ℕ). z + ones (f k)) (ones-pieces n k f h)
    ∙ add_comm (ones (pieces n k f)) (ones (f k))
    ∙ sym (ones_cat (k * n) (f k) (pieces n k f) (pieces-lt n k f h))

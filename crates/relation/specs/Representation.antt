-- How the code holds a relation: as words of 64 bits, whose bits are the places, the first word lowest. The one file that says so. Assumes
-- nothing.
use Rattle.std.specs.Prelude.{◌≡◌, ℕ, zero, suc, ◌*◌, ◌^◌, ◌<◌, refl}
use Rattle.std.proofs.Common.{le_of_suc-le-suc, not-suc-le-zero, Fits, pow_pos}
use Rattle.std.specs.Int.{w64}
use Rattle.relation.specs.declared.Relation.{Relation}
use Rattle.relation.specs.Digits.{pieces}
use Rattle.relation.specs.Pieces.{pieces-lt}
use Rattle.relation.specs.Relation.{states}

-- how many digits a word has, how many rows of a relation stand in a word, and how many words hold one relation
abbrev pub word_digits : ℕ
word_digits = 64

abbrev pub rows_of_word : ℕ
rows_of_word = 4

abbrev pub relation_words : ℕ
relation_words = 4

-- the code's value with the given words
abbrev pub of_words : ℕ → ℕ → ℕ → ℕ → Relation
of_words a b c d = record { w0 = a; w1 = b; w2 = c; w3 = d }

-- word k of a relation
abbrev pub word : Relation → ℕ → ℕ
word r zero = r.w0
word r (suc zero) = r.w1
word r (suc (suc zero)) = r.w2
word r (suc (suc (suc zero))) = r.w3
word r (suc (suc (suc (suc k)))) = 0

-- the relation that the code's value stands for
unfoldable pub value : Relation → ℕ
value r = pieces word_digits relation_words (word r)

-- the code's value for the relation without pairs
unfoldable pub none : Relation
none = of_words 0 0 0 0

pub value_none : value none ≡ 0
unfolding value none pieces
value_none = refl

-- each word fits, which holds of every value at run time
abbrev pub Fit : Relation → Type 0
Fit r = Fits w64 r.w0 × Fits w64 r.w1 × Fits w64 r.w2 × Fits w64 r.w3

pub word_lt : (r : Relation) → Fit r → (k : ℕ) → word r k < 2 ^ word_digits
word_lt r h zero = h.0.fits
word_lt r h (suc zero) = h.1.fits
word_lt r h (suc (suc zero)) = h.2.fits
word_lt r h (suc (suc (suc zero))) = h.3.fits
word_lt r h (suc (suc (suc (suc k)))) = pow_pos word_digits

-- the places are pairs of states
pub value-lt : (r : Relation) → Fit r → value r < 2 ^ (states * states)
unfolding value
value-lt r h = pieces-lt word_digits relation_words (word r) (word_lt r h)

-- what holds of each word
pub each_word : (P : ℕ → Type 0) → P 0 → P 1 → P 2 → P 3 → (k : ℕ) → k < relation_words → P k
each_word P a b c d zero h = a
each_word P a b c d (suc zero) h = b
each_word P a b c d (suc (suc zero)) h = c
each_word P a b c d (suc (suc (suc zero))) h = d
each_word P a b c d (suc (suc (suc (suc k)))) h =
    absurd (not-suc-le-zero (le_of_suc-le-suc (le_of_suc-le-suc (le_of_suc-le-suc (le_of_suc-le-suc h)))))

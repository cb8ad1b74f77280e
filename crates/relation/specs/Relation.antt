-- Relations on n states (document 01: an effect, a set of pairs of stages), for any n, as numbers below 2 ^ (n * n):
-- the pair (a, b) is the place a * n + b. Definitions only. Assumes nothing.
use Rattle.std.specs.Prelude.{ℕ, ◌+◌, ◌-◌, ◌*◌, ◌/◌, ◌%◌, ◌^◌, Bool, not, ◌&&◌, ◌||◌, ◌==◌, bit_and, bit_or, bit_xor, nat_eq}
use Rattle.relation.specs.Digits.{bit, number, pieces, piece, some, count, subset}

-- how many states an automaton has (request C-14: stages 0 to 15; all sixteen always exist)
abbrev pub states : ℕ
states = 16

-- the pair (a, b) is in r
unfoldable pub has : ℕ → ℕ → ℕ → ℕ → Bool
has n r a b = bit r (a * n + b)

-- the relation with the pairs that f says
unfoldable pub table : ℕ → (ℕ → ℕ → Bool) → ℕ
table n f = number (n * n) (λ k. f (k / n) (k % n))

-- every (a, a) (document 01: the effect of the empty run)
unfoldable pub identity : ℕ → ℕ
identity n = table n (λ a b. nat_eq a b)

-- relational composition (document 01: joining two effects)
unfoldable pub compose : ℕ → ℕ → ℕ → ℕ
compose n x y = table n (λ a b. some n (λ m. has n x a m && has n y m b))

-- every pair of x is one of y
abbrev pub contained : ℕ → ℕ → Bool
contained x y = subset x y

-- the relation of the one pair (a, b), empty where one of them is no state
unfoldable pub single : ℕ → ℕ → ℕ → ℕ
single n a b = table n (λ x y. (x == a) && y == b)

-- r and the pair (a, b)
unfoldable pub insert : ℕ → ℕ → ℕ → ℕ → ℕ
insert n r a b = table n (λ x y. has n r x y || (x == a && y == b))

-- the number of pairs
unfoldable pub pairs : ℕ → ℕ → ℕ
pairs n r = count (n * n) (bit r)

-- a word x of 64 digits turned by k places: the digits that leave it above come in below
abbrev pub turned : ℕ → ℕ → ℕ
turned k x = bit_or (x * 2 ^ k % 2 ^ 64) (x / 2 ^ (64 - k))

-- a small number of the relation, where a table is to be looked up: its words of 64 digits, each turned by other places so that rows do not
-- meet, in one word, and the remainder of that by a prime, so that unlike relations seldom share one
abbrev pub digest : ℕ → ℕ
digest r =
    bit_xor (bit_xor (piece 64 r 0) (turned 8 (piece 64 r 1))) (turned 29 (bit_xor (piece 64 r 2) (turned 8 (piece 64 r 3)))) % 32749

-- the eight lowest places of each of four rows: the pairs of four states to the states below 8
unfoldable pub lower_halves : ℕ
lower_halves = pieces 16 4 (λ a. 2 ^ 8 - 1)

-- the pairs among the states below 8 in one word of 64 digits: the rows of the states 0 to 3 in the lower halves, of 4 to 7 in the upper
unfoldable pub key_of : ℕ → ℕ
key_of r = bit_or (bit_and (piece 64 r 0) lower_halves) (bit_and (piece 64 r 1) lower_halves * 2 ^ 8)

-- no pair (0, f) with f final (document 000, section 3: rejecting)
unfoldable pub rejects : ℕ → (ℕ → Bool) → ℕ → Bool
rejects n final r = not (some n (λ f. final f && has n r 0 f))

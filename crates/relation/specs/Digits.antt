-- Numbers as sets of places: place k is in x where binary digit k of x is set. Definitions only. Assumes nothing.
use Rattle.std.specs.Prelude.{ℕ, zero, suc, ◌+◌, ◌*◌, ◌/◌, ◌%◌, ◌^◌, Bool, true, false, ◌&&◌, ◌||◌, ◌==◌, bit_and, bit_or}

-- place k is in x
unfoldable pub bit : ℕ → ℕ → Bool
bit x k = x / 2 ^ k % 2 == 1

abbrev pub digit : Bool → ℕ
digit true = 1
digit false = 0

-- the number below 2 ^ m with the places that f says
unfoldable pub number : ℕ → (ℕ → Bool) → ℕ
number zero f = 0
number (suc m) f = digit (f m) * 2 ^ m + number m f

-- k pieces of n digits each, piece 0 lowest
unfoldable pub pieces : ℕ → ℕ → (ℕ → ℕ) → ℕ
pieces n zero f = 0
pieces n (suc k) f = f k * 2 ^ (k * n) + pieces n k f

-- piece a of x, where a piece has n digits
unfoldable pub piece : ℕ → ℕ → ℕ → ℕ
piece n x a = x / 2 ^ (a * n) % 2 ^ n

-- f holds at some number below m
unfoldable pub some : ℕ → (ℕ → Bool) → Bool
some zero f = false
some (suc m) f = f m || some m f

-- f holds at all numbers below m
unfoldable pub all : ℕ → (ℕ → Bool) → Bool
all zero f = true
all (suc m) f = all m f && f m

-- at how many numbers below m f holds
unfoldable pub count : ℕ → (ℕ → Bool) → ℕ
count zero f = 0
count (suc m) f = digit (f m) + count m f

-- the sum of the first m numbers of f
unfoldable pub sum : ℕ → (ℕ → ℕ) → ℕ
sum zero f = 0
sum (suc m) f = sum m f + f m

-- the places of the first m numbers of f
unfoldable pub union : ℕ → (ℕ → ℕ) → ℕ
union zero f = 0
union (suc m) f = bit_or (union m f) (f m)

-- every place of x is one of y
unfoldable pub subset : ℕ → ℕ → Bool
subset x y = bit_and x y == x

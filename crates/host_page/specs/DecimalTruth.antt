-- What is printed of a number reads as that number: no two numbers are printed alike. A theorem for the reader; nothing cites it. Assumes nothing.
use Rattle.std.specs.Prelude.{◌≡◌, refl, Bool, true, false, List, [], ◌∷◌, ◌++◌, ℕ, zero, suc, ◌+◌, ◌*◌, ◌-◌, ◌/◌, ◌%◌, ◌≤◌, ltb}
use Rattle.std.proofs.Common.{◌∙◌, arith, ltb-false}
use Rattle.spec_calls.specs.Printing.{digit_byte, decimal_by, decimal_in, decimal}

-- reads the decimal digits after those of n
abbrev pub read_from : ℕ → List ℕ → ℕ
read_from n [] = n
read_from n (d ∷ ds) = read_from (10 * n + (d - 48)) ds

read_more : (n : ℕ) (ds es : List ℕ) → read_from n (ds ++ es) ≡ read_from (read_from n ds) es
read_more n [] es = refl
read_more n (d ∷ ds) es = read_more (10 * n + (d - 48)) ds es

-- one digit_byte, and the digits in front of the last one
read_by : (b : Bool) (n : ℕ) (front : List ℕ) → ltb n 10 ≡ b → (10 ≤ n → read_from 0 front ≡ n / 10) → read_from 0 (decimal_by b n front) ≡ n
read_by true n front e h = omega arith
read_by false n front e h =
    let f = h (ltb-false n 10 e) in
    read_more 0 front (digit_byte (n % 10) ∷ []) ∙ (let z : 10 * read_from 0 front + (digit_byte (n % 10) - 48) ≡ n = omega arith in z)

read-in : (f n : ℕ) → n ≤ f → read_from 0 (decimal_in f n) ≡ n
unfolding decimal_in
read-in zero n h = omega arith
read-in (suc f) n h = read_by (ltb n 10) n (decimal_in f (n / 10)) refl (λ l. read-in f (n / 10) (omega arith))

pub decimal-reads : (n : ℕ) → read_from 0 (decimal n) ≡ n
unfolding decimal
decimal-reads n = read-in n n (omega arith)

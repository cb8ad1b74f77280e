-- Decimal numbers, digit_byte by digit_byte, and how long they are. Assumes nothing.
use Rattle.std.specs.Prelude.{◌≡◌, refl, Bool, true, false, List, [], ◌∷◌, ◌++◌, ℕ, zero, suc, ◌+◌, ◌/◌, ◌%◌, ◌^◌, ◌≤◌, ◌<◌, ltb, length, get_or, drop}
use Rattle.std.proofs.Common.{sym, ap, ◌∙◌, add-one, arith, length-append, drop-cons, lt-ltb, le-ltb, ltb-true, ltb-false}
use Rattle.spec_calls.specs.Printing.{blank_byte, digit_byte, decimal_by, decimal_in, decimal, blanked, separated}
use Rattle.host_page.specs.Page.{Page, put, puts}
use Rattle.host_page.specs.PageLaws.{puts_none, puts_one, puts_then}

-- one digit_byte
in_small : (f n : ℕ) → n < 10 → decimal_in f n ≡ digit_byte n ∷ []
unfolding decimal_in
in_small zero n h = refl
in_small (suc f) n h = rw (lt-ltb n 10 h)

in-more : (f n : ℕ) → 10 ≤ n → decimal_in (suc f) n ≡ decimal_in f (n / 10) ++ (digit_byte (n % 10) ∷ [])
unfolding decimal_in
in-more f n h = rw (le-ltb n 10 h)

-- where the digits in front are the same
same-front : (f g n : ℕ) → (10 ≤ n → decimal_in f (n / 10) ≡ decimal_in g (n / 10)) → decimal_in (suc f) n ≡ decimal_in (suc g) n
same-front f g n h = by (ltb n 10) refl
  where
    by : (t : Bool) → ltb n 10 ≡ t → decimal_in (suc f) n ≡ decimal_in (suc g) n
    by true e = in_small (suc f) n (ltb-true n 10 e) ∙ sym (in_small (suc g) n (ltb-true n 10 e))
    by false e =
        let l : 10 ≤ n = ltb-false n 10 e in
        in-more f n l ∙ ap (λ (ds : List ℕ). ds ++ (digit_byte (n % 10) ∷ [])) (h l) ∙ sym (in-more g n l)

-- with f and with g the same, if both are enough
same_in : (f g n : ℕ) → n ≤ f → n ≤ g → decimal_in f n ≡ decimal_in g n
same_in zero g n a b = in_small zero n (omega arith) ∙ sym (in_small g n (omega arith))
same_in (suc f) zero n a b = in_small (suc f) n (omega arith) ∙ sym (in_small zero n (omega arith))
same_in (suc f) (suc g) n a b = same-front f g n (λ l. same_in f g (n / 10) (omega arith) (omega arith))

-- ---- digit_byte by digit_byte

pub decimal-small : (n : ℕ) → n < 10 → decimal n ≡ digit_byte n ∷ []
unfolding decimal
decimal-small n h = in_small n n h

pub decimal-more : (n : ℕ) → 10 ≤ n → decimal n ≡ decimal (n / 10) ++ (digit_byte (n % 10) ∷ [])
unfolding decimal
decimal-more zero h = absurd (omega arith)
decimal-more (suc m) h =
    in-more m (suc m) h ∙ ap (λ (ds : List ℕ). ds ++ (digit_byte (suc m % 10) ∷ [])) (same_in m (suc m / 10) (suc m / 10) (omega arith) (omega arith))

-- ---- put on a page

pub puts-small : (n b : ℕ) (p q : Page) → n < 10 → b ≡ digit_byte n → q ≡ put b p → q ≡ puts (decimal n) p
puts-small n b p q h d e = puts_one (digit_byte n) p q (e ∙ ap (λ (x : ℕ). put x p) d) ∙ ap (λ (ds : List ℕ). puts ds p) (sym (decimal-small n h))

-- the digits in front of the last one, and that one
pub puts-digits : (n b : ℕ) (p q r : Page) → 10 ≤ n → q ≡ puts (decimal (n / 10)) p → b ≡ digit_byte (n % 10) → r ≡ put b q → r ≡ puts (decimal n) p
puts-digits n b p q r h f d e =
    puts_then (decimal (n / 10)) (digit_byte (n % 10) ∷ []) p q r f (puts_one (digit_byte (n % 10)) q r (e ∙ ap (λ (x : ℕ). put x q) d))
    ∙ ap (λ (ds : List ℕ). puts ds p) (sym (decimal-more n h))

-- the number at i after a blank, and then those after it
pub puts-blanked : (ns : List ℕ) (i : ℕ) (p q : Page) → i < length ns → q ≡ puts (blank_byte ∷ decimal (get_or ns i 0)) p → puts (blanked (drop (i + 1) ns)) q ≡ puts (blanked (drop i ns)) p
unfolding blanked
puts-blanked ns i p q h e =
    puts_then (blank_byte ∷ decimal (get_or ns i 0)) (blanked (drop (i + 1) ns)) p q (puts (blanked (drop (i + 1) ns)) q) e refl
    ∙ ap (λ (k : ℕ). puts (blank_byte ∷ (decimal (get_or ns i 0) ++ blanked (drop k ns))) p) (add-one i)
    ∙ ap (λ (xs : List ℕ). puts (blanked xs) p) (sym (drop-cons ns i 0 h))

-- no number, and the first one with those after it
pub puts-no-number : (ns : List ℕ) (p : Page) → length ns ≡ 0 → p ≡ puts (separated ns) p
unfolding separated
puts-no-number [] p e = puts_none p
puts-no-number (n ∷ ns) p e = absurd (omega arith)

pub puts-numbers : (ns : List ℕ) (p q r : Page) → (length ns ≡ 0 → ⊥) → q ≡ puts (decimal (get_or ns 0 0)) p → r ≡ puts (blanked (drop 1 ns)) q → r ≡ puts (separated ns) p
unfolding separated
puts-numbers [] p q r h e f = absurd (h refl)
puts-numbers (n ∷ ns) p q r h e f = puts_then (decimal n) (blanked ns) p q r e f

-- ---- how long

in-length : (k f n : ℕ) → n < 10 ^ suc k → length (decimal_in f n) ≤ suc k
unfolding decimal_in
in-length k zero n h = omega arith
in-length zero (suc f) n h = ap-length (in_small (suc f) n (omega arith))
  where
    ap-length : decimal_in (suc f) n ≡ digit_byte n ∷ [] → length (decimal_in (suc f) n) ≤ 1
    ap-length e = omega (arith, ap length e)
in-length (suc k) (suc f) n h = by (ltb n 10) (in-length k f (n / 10) (omega arith))
  where
    by : (t : Bool) → length (decimal_in f (n / 10)) ≤ suc k → length (decimal_by t n (decimal_in f (n / 10))) ≤ suc (suc k)
    by true l = omega arith
    by false l = omega (arith, length-append (decimal_in f (n / 10)) (digit_byte (n % 10) ∷ []))

pub decimal-length : (k n : ℕ) → n < 10 ^ suc k → length (decimal n) ≤ suc k
unfolding decimal
decimal-length k n h = in-length k n n h

-- No text is longer than the buffer that it is put into: 4 bytes for each step of a run, and few for the rest. Assumes nothing.
use Rattle.std.specs.Prelude.{Bool, true, false, List, [], ◌∷◌, ◌++◌, ℕ, zero, suc, ◌+◌, ◌*◌, ◌^◌, ◌≤◌, ◌<◌, eqb, get_or, take}
use Rattle.std.proofs.Common.{suc-mul, length-take}
use native.Mathlib.Omega.{arith}
use Rattle.std.proofs.Math.ListN.{length, length-append}
use Rattle.spec_order.specs.Order.{Verdict, holds, broken, full, spent, empty}
use Rattle.spec_calls.specs.Printing.{bytes, line_feed, decimal, blanked, separated, verdict_word, numbers_line, word_line, refused_line}
use Rattle.host_page.specs.DecimalLaws.{decimal-length}
use Rattle.spec_calls.specs.Codes.{holds_code, broken_code, full_code, spent_code, empty_code}
use Rattle.host_result.specs.declared.CheckResult.{CheckResult}
use Rattle.host_lines.specs.Lines.{totals_line, row_line, run_by, run_line, broken_text, pick, text_told}

-- each number is below a power of 10
abbrev pub Shorter : ℕ → List ℕ → Type 0
Shorter k ns = (i : ℕ) → get_or ns i 0 < 10 ^ suc k

-- ---- numbers

blanked-length : (k : ℕ) (ns : List ℕ) → Shorter k ns → length (blanked ns) ≤ length ns * (k + 2)
unfolding blanked
blanked-length k [] h = omega arith
blanked-length k (n ∷ ns) h =
    omega (arith, decimal-length k n (h 0), blanked-length k ns (λ i. h (suc i)), length-append (decimal n) (blanked ns), suc-mul (length ns) (k + 2))

separated-length : (k : ℕ) (ns : List ℕ) → Shorter k ns → length (separated ns) ≤ length ns * (k + 2)
unfolding separated
separated-length k [] h = omega arith
separated-length k (n ∷ ns) h =
    omega (arith, decimal-length k n (h 0), blanked-length k ns (λ i. h (suc i)), length-append (decimal n) (blanked ns), suc-mul (length ns) (k + 2))

-- the front of a list
take_below : (k n : ℕ) (xs : List ℕ) → Shorter k xs → Shorter k (take n xs)
take_below k zero xs h i = omega (arith, h i)
take_below k (suc n) [] h i = h i
take_below k (suc n) (x ∷ xs) h zero = h 0
take_below k (suc n) (x ∷ xs) h (suc i) = take_below k n xs (λ j. h (suc j)) i

-- ---- lines

numbers-long : (k : ℕ) (ns : List ℕ) → Shorter k ns → length (numbers_line ns) ≤ length ns * (k + 2) + 1
unfolding numbers_line
numbers-long k ns h = omega (arith, separated-length k ns h, length-append (separated ns) (line_feed ∷ []))

word-long : (k : ℕ) (word ns : List ℕ) → Shorter k ns → length (word_line word ns) ≤ length word + length ns * (k + 2) + 1
unfolding word_line
word-long k word ns h =
    omega (arith, blanked-length k ns h, length-append word (blanked ns ++ (line_feed ∷ [])), length-append (blanked ns) (line_feed ∷ []))

-- numbers of 64 bits have 20 digits at most
abbrev pub Wide : ℕ → Type 0
Wide n = n < 2 ^ 64

one_below : (a : ℕ) → Wide a → Shorter 19 (a ∷ [])
one_below a h zero = omega arith
one_below a h (suc i) = omega arith

three-below : (a b c : ℕ) → Wide a → Wide b → Wide c → Shorter 19 (a ∷ b ∷ c ∷ [])
three-below a b c h j k zero = omega arith
three-below a b c h j k (suc zero) = omega arith
three-below a b c h j k (suc (suc zero)) = omega arith
three-below a b c h j k (suc (suc (suc i))) = omega arith

-- ---- all lines

verdict-long : (v : Verdict) → length (verdict_word v) ≤ 6
verdict-long holds = omega arith
verdict-long broken = omega arith
verdict-long full = omega arith
verdict-long spent = omega arith
verdict-long empty = omega arith

refused-long : (n : ℕ) → Wide n → length (refused_line n) ≤ 29
unfolding refused_line
refused-long n h = word-long 19 (bytes "refused") (n ∷ []) (one_below n h)

pick-long : (b : Bool) (x y : List ℕ) (m : ℕ) → length x ≤ m → length y ≤ m → length (pick b x y) ≤ m
pick-long true x y m h k = h
pick-long false x y m h k = k

-- all numbers of a check have 64 bits, and those in the run buffer are bytes
pub record Machine (t : CheckResult) (buffer : List ℕ) : Type 0 where
  pub code : Wide t.code
  pub joins : Wide t.joins
  pub used : Wide t.used
  pub pass : Wide t.pass
  pub row : Wide t.row
  pub pairs : Wide t.pairs
  pub length : Wide t.length
  pub refused : Wide t.refused
  pub steps : Shorter 2 buffer

module _ (t : CheckResult) (buffer : List ℕ) (m : Machine t buffer) where
  totals-long : (v : Verdict) → length (totals_line (verdict_word v) t) ≤ 70
  unfolding totals_line
  totals-long v =
      omega (arith, verdict-long v, word-long 19 (verdict_word v) (t.joins ∷ t.used ∷ t.pass ∷ []) (three-below t.joins t.used t.pass m.joins m.used m.pass))

  row-long : length (row_line t) ≤ 64
  unfolding row_line
  row-long = numbers-long 19 (t.row ∷ t.pairs ∷ t.length ∷ []) (three-below t.row t.pairs t.length m.row m.pairs m.length)

  run_long : (f n : ℕ) → Wide f → length (run_by f n buffer) ≤ 29 + length buffer * 4
  run_long zero n h = omega (arith, numbers-long 2 (take n buffer) (take_below 2 n buffer m.steps), length-take n buffer)
  run_long (suc f) n h = omega (arith, refused-long (suc f) h)

  broken-long : length (broken_text t buffer) ≤ 163 + length buffer * 4
  unfolding broken_text run_line
  broken-long =
      omega (
        arith,
        length-append (totals_line (verdict_word broken) t) (row_line t ++ run_by t.refused t.length buffer),
        length-append (row_line t) (run_by t.refused t.length buffer),
        totals-long broken,
        row-long,
        run_long t.refused t.length m.refused,
      )

  pub told-long : length (text_told t buffer) ≤ 163 + length buffer * 4
  unfolding text_told
  told-long =
      let most = 163 + length buffer * 4 in
      pick-long (eqb t.code holds_code) _ _ most (omega (arith, totals-long holds))
      (pick-long (eqb t.code full_code) _ _ most (omega (arith, totals-long full))
      (pick-long (eqb t.code spent_code) _ _ most (omega (arith, totals-long spent))
      (pick-long (eqb t.code empty_code) _ _ most (omega (arith, totals-long empty))
      (pick-long (eqb t.code broken_code) _ _ most broken-long
      (omega (arith, refused-long t.code m.code))))))

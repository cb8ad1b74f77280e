-- Lines put on a page piece by piece. Assumes nothing.
use Rattle.std.specs.Prelude.{◌≡◌, refl, List, [], ◌∷◌, ◌++◌, Bool, true, false, ℕ, zero, suc, min, ◌≤◌, leb, length, take}
use Rattle.std.proofs.Common.{sym, ap, ◌∙◌, append_assoc, arith, take_all}
use borrow.Author.Tests.{eq-eqb, ne_eqb, leb-true, leb-false}
use Rattle.spec_order.specs.Order.{holds, full, spent, empty}
use Rattle.spec_calls.specs.Printing.{blank_byte, line_feed, decimal, blanked, separated, verdict_word, numbers_line, word_line, refused_line}
use Rattle.host_page.specs.Page.{Page, put, puts}
use Rattle.host_page.specs.PageLaws.{puts_one, puts_then}
use Rattle.spec_calls.specs.Codes.{holds_code, broken_code, full_code, spent_code, empty_code}
use Rattle.host_result.specs.declared.CheckResult.{CheckResult}
use Rattle.host_lines.specs.Lines.{totals_line, run_by, run_line, broken_text, text_told}

-- the end of a line
pub puts-end : (p q : Page) → q ≡ put line_feed p → q ≡ puts (blanked [] ++ (line_feed ∷ [])) p
unfolding blanked
puts-end p q e = puts_one line_feed p q e

-- a number after a blank, and the rest of the line
pub puts-blank : (n : ℕ) (ns rest : List ℕ) (p q r : Page) → q ≡ puts (blank_byte ∷ decimal n) p → r ≡ puts (blanked ns ++ rest) q → r ≡ puts (blanked (n ∷ ns) ++ rest) p
unfolding blanked
puts-blank n ns rest p q r e f =
    puts_then (blank_byte ∷ decimal n) (blanked ns ++ rest) p q r e f ∙ ap (λ (xs : List ℕ). puts (blank_byte ∷ xs) p) (sym (append_assoc (decimal n) (blanked ns) rest))

-- a word, and the numbers after it
pub puts_word : (word ns : List ℕ) (p q r : Page) → q ≡ puts word p → r ≡ puts (blanked ns ++ (line_feed ∷ [])) q → r ≡ puts (word_line word ns) p
unfolding word_line
puts_word word ns p q r e f = puts_then word (blanked ns ++ (line_feed ∷ [])) p q r e f

-- a number, and those after it
pub puts_first : (n : ℕ) (ns : List ℕ) (p q r : Page) → q ≡ puts (decimal n) p → r ≡ puts (blanked ns ++ (line_feed ∷ [])) q → r ≡ puts (numbers_line (n ∷ ns)) p
unfolding numbers_line separated
puts_first n ns p q r e f =
    puts_then (decimal n) (blanked ns ++ (line_feed ∷ [])) p q r e f ∙ ap (λ (xs : List ℕ). puts xs p) (sym (append_assoc (decimal n) (blanked ns) (line_feed ∷ [])))

-- numbers, and the end of the line
pub puts-line : (ns : List ℕ) (p q r : Page) → q ≡ puts (separated ns) p → r ≡ put line_feed q → r ≡ puts (numbers_line ns) p
unfolding numbers_line
puts-line ns p q r e f = puts_then (separated ns) (line_feed ∷ []) p q r e (puts_one line_feed q r f)

-- ---- which lines

-- no more numbers than there are
pub take-least : (n k : ℕ) (xs : List ℕ) → k ≡ min n (length xs) → take k xs ≡ take n xs
take-least n k xs e = by (leb n (length xs)) refl
  where
    by : (b : Bool) → leb n (length xs) ≡ b → take k xs ≡ take n xs
    by true h = let l : n ≤ length xs = leb-true n (length xs) h in ap (λ (m : ℕ). take m xs) (let z : k ≡ n = omega arith in z)
    by false h =
        let l = leb-false n (length xs) h in
        take_all k xs (omega arith) ∙ sym (take_all n xs (omega arith))

pub run-refused : (t : CheckResult) (buffer : List ℕ) → (t.refused ≡ 0 → ⊥) → refused_line t.refused ≡ run_line t buffer
unfolding run_line
run-refused t buffer h = by t.refused h
  where
    by : (f : ℕ) → (f ≡ 0 → ⊥) → refused_line f ≡ run_by f t.length buffer
    by zero g = absurd (g refl)
    by (suc f) g = refl

pub run-written : (t : CheckResult) (buffer : List ℕ) → t.refused ≡ 0 → numbers_line (take t.length buffer) ≡ run_line t buffer
unfolding run_line
run-written t buffer e = sym (ap (λ (f : ℕ). run_by f t.length buffer) e)

module _ (t : CheckResult) (buffer : List ℕ) where
  pub told-holds : t.code ≡ holds_code → totals_line (verdict_word holds) t ≡ text_told t buffer
  unfolding text_told
  told-holds e = rw (eq-eqb t.code holds_code e)

  pub told-full : (t.code ≡ holds_code → ⊥) → t.code ≡ full_code → totals_line (verdict_word full) t ≡ text_told t buffer
  unfolding text_told
  told-full a e = rw (ne_eqb t.code holds_code a, eq-eqb t.code full_code e)

  pub told-spent : (t.code ≡ holds_code → ⊥) → (t.code ≡ full_code → ⊥) → t.code ≡ spent_code → totals_line (verdict_word spent) t ≡ text_told t buffer
  unfolding text_told
  told-spent a b e = rw (ne_eqb t.code holds_code a, ne_eqb t.code full_code b, eq-eqb t.code spent_code e)

  pub told-empty : (t.code ≡ holds_code → ⊥) → (t.code ≡ full_code → ⊥) → (t.code ≡ spent_code → ⊥) → t.code ≡ empty_code → totals_line (verdict_word empty) t ≡ text_told t buffer
  unfolding text_told
  told-empty a b c e = rw (ne_eqb t.code holds_code a, ne_eqb t.code full_code b, ne_eqb t.code spent_code c, eq-eqb t.code empty_code e)

  pub told-broken : (t.code ≡ holds_code → ⊥) → (t.code ≡ full_code → ⊥) → (t.code ≡ spent_code → ⊥) → (t.code ≡ empty_code → ⊥) → t.code ≡ broken_code → broken_text t buffer ≡ text_told t buffer
  unfolding text_told
  told-broken a b c d e = rw (ne_eqb t.code holds_code a, ne_eqb t.code full_code b, ne_eqb t.code spent_code c, ne_eqb t.code empty_code d, eq-eqb t.code broken_code e)

  pub told-refused : (t.code ≡ holds_code → ⊥) → (t.code ≡ full_code → ⊥) → (t.code ≡ spent_code → ⊥) → (t.code ≡ empty_code → ⊥) → (t.code ≡ broken_code → ⊥) → refused_line t.code ≡ text_told t buffer
  unfolding text_told
  told-refused a b c d e = rw (ne_eqb t.code holds_code a, ne_eqb t.code full_code b, ne_eqb t.code spent_code c, ne_eqb t.code empty_code d, ne_eqb t.code broken_code e)

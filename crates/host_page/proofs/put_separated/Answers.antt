-- For no number nothing is stored, and else the first and then the others, each after a blank. Assumes nothing.
use Rattle.std.proofs.Common.{ℕ, List, length, get_or, drop, sym, ap, ◌∙◌, arith}
use Rattle.spec_calls.specs.Printing.{decimal, blanked}
use Rattle.host_page.specs.Page.{page, puts}
use Rattle.host_page.specs.DecimalLaws.{puts-no-number, puts-numbers}
use Rattle.host_page.proofs.put_separated.Goals as goal

pub returns-in_default : goal.returns-in_default
returns-in_default c = puts-no-number _ _ c.in_default.ensures.cases

pub returns : goal.returns
returns c =
    let p = page c.args.at c.args.text.now in
    let q = page c.put_decimal-next.result c.put_decimal-next.new.text in
    let s = c.in-Some.ensures.cases.0 in
    puts-numbers c.args.numbers.now p q _ (λ e. omega (arith, ap length s))
    (c.put_decimal-next.ensures ∙ ap (λ (n : ℕ). puts (decimal n) p) (c.from.ensures ∙ sym (ap (λ (xs : List ℕ). get_or xs 0 0) s)))
    (c.put_all_blanked.ensures ∙ ap (λ (xs : List ℕ). puts (blanked xs) q) (sym (ap (λ (xs : List ℕ). drop 1 xs) s)))

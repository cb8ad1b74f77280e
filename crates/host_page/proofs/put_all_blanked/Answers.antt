-- The next number, and at the end none that is left.
use Rattle.std.proofs.Common.{arith, ◌∷◌, ◌∙◌, sym, ap, List, ℕ}
use Rattle.std.proofs.lemmas.List.{at_drop_all}
use Rattle.spec_calls.specs.Printing.{blank_byte, decimal, blanked}
use Rattle.host_page.specs.Page.{page, puts}
use Rattle.host_page.specs.PageLaws.{puts_none}
use Rattle.host_page.specs.DecimalLaws.{puts-blanked}
use Rattle.host_page.proofs.put_all_blanked.Goals as goal

pub loop-n-preserved : goal.loop-n-preserved
loop-n-preserved c =
    let l = c.loop-n in
    let p = page l.place l.text in
    puts-blanked c.args.numbers.now l.n-index p _ (omega arith)
    (c.put_blanked-place.ensures ∙ ap (λ (n : ℕ). puts (blank_byte ∷ decimal n) p) c.from.ensures) ∙ l.invariant

pub returns : goal.returns
unfolding blanked
returns c =
    let p = page c.loop-n.place c.loop-n.text in
    puts_none p ∙ sym (at_drop_all (λ (xs : List ℕ). puts (blanked xs) p) c.args.numbers.now c.loop-n.n-index (omega arith)) ∙ c.loop-n.invariant

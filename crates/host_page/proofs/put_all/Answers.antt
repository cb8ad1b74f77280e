-- The next byte, and at the end none that is left.
use Rattle.std.proofs.Common.{arith, ◌∙◌, sym, ap, List, ℕ}
use Rattle.std.proofs.lemmas.List.{at_drop_all}
use Rattle.host_page.specs.Page.{page, puts}
use Rattle.host_page.specs.PageLaws.{puts_none, puts-next}
use Rattle.host_page.proofs.put_all.Goals as goal

pub loop-byte-preserved : goal.loop-byte-preserved
loop-byte-preserved c =
    let l = c.loop-byte in
    ap (puts _) c.put-place.ensures ∙ puts-next c.args.bytes.now l.byte-index (page l.place l.text) (omega arith) ∙ l.invariant

pub returns : goal.returns
returns c =
    let p = page c.loop-byte.place c.loop-byte.text in
    puts_none p ∙ sym (at_drop_all (λ (xs : List ℕ). puts xs p) c.args.bytes.now c.loop-byte.byte-index (omega arith)) ∙ c.loop-byte.invariant

-- The rules from their keys in order, and then the other records into what remains of the output. Assumes nothing.
use Rattle.std.proofs.Common.{◌≡◌, sym, ap, ◌∙◌, List, ℕ, ◌-◌, ◌*◌, arith, length, take, drop}
use Rattle.spec_unfold.specs.Moving.{narrowed}
use Rattle.call_move.specs.Fronts.{over}
use Rattle.call_unfold.specs.Results.{rules_in, keys_from, unfolded_bytes}
use Rattle.call_unfold.specs.ResultLaws.{keys_length}
use Rattle.call_unfold.specs.WriteLaws.{written, digits-length, put_both, tail-part}
use Rattle.call_unfold.proofs.put_unfolded.Goals as goal

pub returns : goal.returns
unfolding unfolded_bytes
returns c =
    let file = c.args.file.now in
    let old = c.args.out.now in
    let k = c.add_rules-count.ensures in
    let at = c.add_rules-count.result * 8 in
    let keys = keys_from c.args.first file in
    let e = c.put_rules.ensures ∙ ap (λ (l : List ℕ). over (written l) old) k.2 in
    let n : length (written keys) ≡ at = digits-length keys ∙ ap (λ (m : ℕ). m * 8) (keys_length c.args.first (rules_in file) ∙ sym k.0) in
    let out = c.put_rules.new.out in
    put_both (written keys) (narrowed (drop (c.args.rules * 16) file)) old out _ at n (omega (arith, c.requires.room-enough, c.requires.inside, c.requires.counted, k.0)) e
    (c.put_narrower.ensures ∙ ap (λ (l : List ℕ). over (narrowed l) (take (length out - at) (drop at out))) (tail-part file (c.args.rules * 16)))

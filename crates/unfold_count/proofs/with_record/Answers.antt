use Rattle.std.proofs.Common.{◌≡◌, ℕ, ◌+◌, suc, max, ap, ◌∙◌, add-one, eq-eqb, ne_eqb}
use Rattle.spec_file.specs.Records.{byte}
use Rattle.spec_records.specs.OnRecords.{body_in}
use Rattle.spec_unfold.specs.Chains.{above_body}
use Rattle.spec_unfold.specs.Unfolding.{above_byte}
use Rattle.unfold_count.specs.Counting.{with_record}
use Rattle.unfold_count.proofs.with_record.Goals as goal

pub returns-then-r-ne-RULE_KIND : goal.returns-then-r-ne-RULE_KIND
unfolding with_record
returns-then-r-ne-RULE_KIND c = rw (ne_eqb _ _ c.if-r-ne-RULE_KIND.true)

pub returns : goal.returns
unfolding with_record
returns c =
    let t = c.args.t in
    let r = c.args.r in
    let f : c.above_body-first.result ≡ above_body above_byte (max t.first (suc (byte r 1))) (body_in r) =
    c.above_body-first.ensures ∙ ap (λ (m : ℕ). above_body above_byte m (body_in r)) (c.max.ensures ∙ ap (max t.first) (add-one (byte r 1))) in
    let g = c.chains_for.ensures.0 in
    rw (eq-eqb _ _ c.if-r-ne-RULE_KIND.false) (λ i. record { first = f i; chains = t.chains + g i; rules = t.rules + 1 })

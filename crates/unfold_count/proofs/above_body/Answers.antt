use Rattle.std.proofs.Common.{◌≡◌, ap, ◌∙◌, max, fold, rules}
use Rattle.spec_unfold.specs.Chains.{above_body}
use Rattle.spec_unfold.specs.Unfolding.{above_byte}
use Rattle.unfold_count.specs.Parts.{part}
use Rattle.unfold_count.specs.CountingLaws.{above-fold}
use Rattle.unfold_count.proofs.above_body.Goals as goal

pub returns : goal.returns
returns c =
    let body = part 3 c.body_end.result c.args.r in
    let folded : c.fold.result ≡ fold (λ top s. max top (above_byte s)) c.args.m body = search rules in
    folded ∙ above-fold c.args.m body ∙ ap (above_body above_byte c.args.m) c.body_end.ensures.2

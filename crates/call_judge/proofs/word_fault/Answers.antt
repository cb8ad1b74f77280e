-- One test or the other, as the definition has them. Assumes nothing.
use Rattle.std.proofs.Common.{◌∙◌, le-ltb, lt-ltb, ap, Bool, cond}
use Rattle.spec_file.proofs.RefusalLaws.{refused_if}
use Rattle.spec_calls.specs.Judging.{word_fault}
use Rattle.call_judge.proofs.AnyStray.{any-strays}
use Rattle.call_judge.proofs.word_fault.Goals as goal
use Rattle.call_judge.proofs.word_fault.Goals.{then-word-gt-WORD_LIMIT, else-word-gt-WORD_LIMIT}

pub returns : goal.returns
unfolding word_fault
returns c =
    refused_if c.refuse_if.result _ _ c.refuse_if.ensures
    ∙ ap (λ (b : Bool). cond b 11 0)
    (elim c.if-word-gt-WORD_LIMIT.branch [
      | then-word-gt-WORD_LIMIT w ↦ let e = lt-ltb _ _ w.if-word-gt-WORD_LIMIT.true in rw e (w.refuse_if-is ∙ e)
      | else-word-gt-WORD_LIMIT w ↦ rw (le-ltb _ _ w.if-word-gt-WORD_LIMIT.false) (w.refuse_if-is ∙ w.strays.ensures ∙ any-strays c.args.word.now)
    ])

use Rattle.std.proofs.Common.{◌≡◌, ◌+◌, length, drop, sym, ap, ◌∙◌, arith, rules}
use Rattle.spec_records.specs.Blocks.{records_of}
use Rattle.unfold_count.specs.declared.Needed.{Needed}
use Rattle.unfold_count.specs.Counting.{with_record, with_records}
use Rattle.unfold_count.specs.CountingLaws.{few-chains, few-rules, count_turn, count-end}
use Rattle.unfold_count.proofs.count_file.Goals as goal

pub loop-i-preserved : goal.loop-i-preserved
loop-i-preserved c =
    let f = c.args.file.now in
    let l = c.loop-i in
    let r = c.record_at.result in
    let n : length r ≡ 16 = search rules in
    let e = c.with_record-t.ensures in (
      omega (arith, l.invariant.0, ap (λ (t : Needed). t.chains) e, few-chains l.t r n),
      omega (arith, l.invariant.1, ap (λ (t : Needed). t.rules) e, few-rules l.t r),
      ap (λ (t : Needed). with_records t (drop (l.i + 1) (records_of 16 f))) (e ∙ ap (with_record l.t) c.record_at.ensures)
          ∙ count_turn f l.i l.t (omega arith) ∙ l.invariant.2,
    )

pub returns : goal.returns
returns c =
    let l = c.loop-i in
    (sym (count-end c.args.file.now l.i l.t (omega arith)) ∙ l.invariant.2, omega (arith, l.invariant.0), omega (arith, l.invariant.1))

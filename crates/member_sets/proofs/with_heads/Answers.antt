use Rattle.std.proofs.Common.{[], rules, arith, slice_index_or}
use Rattle.spec_file.specs.Entries.{entry_of}
use Rattle.member_laws.specs.RoundLaws.{row_in}
use Rattle.member_sets.specs.GatheringLaws.{gathered-miss, gathered-hit}
use Rattle.member_sets.proofs.with_heads.Goals as goal
use Rattle.member_sets.proofs.with_heads.Goals.{then-test, else-test}

pub with_one-out-requires : goal.with_one-out-requires
with_one-out-requires g c =
    c.requires.heads (entry_of (slice_index_or c.args.rules.now c.loop-rule.rule-index []))
    (row_in c.args.rules.now c.loop-rule.rule-index (omega arith))

pub loop-rule-preserved : goal.loop-rule-preserved
loop-rule-preserved g c =
    let l = c.loop-rule in
    elim c.if-test.branch [
      | then-test w ↦ rw (w.out-is, w.with_one-out.ensures) (gathered-hit c.args.rules.now _ c.args.set l.rule-index l.out l.invariant (search rules))
      | else-test w ↦ rw w.out-is (gathered-miss c.args.rules.now _ c.args.set l.rule-index l.out l.invariant (search rules))
    ]

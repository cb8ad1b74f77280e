-- No state, then one record more at a time, and all of them. Assumes nothing.
use Rattle.std.proofs.Common.{◌≡◌, sym, ap, ◌∙◌, arith, length, ◌/◌}
use Rattle.relation.specs.Relation.{states}
use Rattle.spec_language.specs.WordRelation.{is_final}
use Rattle.spec_file.specs.Records.{final_kind}
use Rattle.spec_file.specs.Views.{final_of, finals_of}
use Rattle.file_tables.specs.FinalLaws.{mask_of, mask-none, mask_next}
use Rattle.file_tables.specs.Prefixes.{none_yet, turn}
use Rattle.file_tables.specs.Tables.{with_state}
use Rattle.file_tables.proofs.final_states.Goals as goal

pub loop-i-init : goal.loop-i-init
loop-i-init c = mask-none states ∙ sym (ap (mask_of states) (none_yet final_kind final_of c.args.file.now))

pub loop-i-preserved : goal.loop-i-preserved
loop-i-preserved c =
    let l = c.loop-i in
    c.read_final-mask.ensures ∙ turn final_kind final_of c.args.file.now (mask_of states) (with_state states) (mask_next states) l.i l.mask l.invariant

pub returns : goal.returns
unfolding is_final finals_of
returns c = let e : c.loop-i.i ≡ length c.args.file.now / 8 = omega arith in rw e at c.loop-i.invariant

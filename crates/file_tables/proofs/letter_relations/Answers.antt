-- Without a transition, then one record more at a time, and all of them. Assumes nothing.
use Rattle.std.proofs.Common.{◌≡◌, sym, ap, ◌∙◌, arith, length, ◌/◌}
use Rattle.relation.specs.Relation.{states}
use Rattle.spec_file.specs.Records.{transition_kind}
use Rattle.spec_file.specs.Views.{transition_of, transitions_of}
use Rattle.file_tables.specs.LetterLaws.{letters-length, letters-next}
use Rattle.file_tables.specs.Prefixes.{none_yet, turn}
use Rattle.file_tables.specs.Tables.{letter_table, with_transition}
use Rattle.file_tables.proofs.letter_relations.Goals as goal

pub loop-i-init : goal.loop-i-init
loop-i-init c = c.without_transitions.ensures ∙ sym (ap (letter_table states) (none_yet transition_kind transition_of c.args.file.now))

pub read_transition-requires : goal.read_transition-requires
read_transition-requires c = (omega arith, ap length c.loop-i.invariant ∙ letters-length states _)

pub loop-i-preserved : goal.loop-i-preserved
loop-i-preserved c =
    let l = c.loop-i in
    c.read_transition.ensures ∙ turn transition_kind transition_of c.args.file.now (letter_table states) (with_transition states) letters-next l.i l.table l.invariant

pub returns : goal.returns
unfolding transitions_of
returns c = let e : c.loop-i.i ≡ length c.args.file.now / 8 = omega arith in rw e at c.loop-i.invariant

-- By the record's kind and its letter; below the remarks a pair is inserted into the letter's relation. Assumes nothing.
use mathlib.Core.Path.{sym, ap, ◌∙◌}
use native.Mathlib.Omega.{arith}
use Rattle.relation.specs.declared.Relation.{Relation}
use Rattle.relation.specs.Relation.{states, insert}
use Rattle.relation.specs.Representation.{value}
use Rattle.relation.specs.Stored.{with_relation}
use Rattle.spec_file.specs.declared.Transition.{Transition}
use Rattle.spec_file.specs.Entries.{transition_in, automaton_transition}
use Rattle.spec_file.proofs.EntryLaws.{whole}
use Rattle.file_tables.specs.Tables.{with_transition}
use Rattle.file_tables.specs.LetterLaws.{with-left-out, with-inserted}
use Rattle.file_tables.proofs.read_transition.Goals as goal

pub returns-then-not-of_kind : goal.returns-then-not-of_kind
returns-then-not-of_kind c = rw (sym c.of_kind.ensures ∙ c.if-not-of_kind.true)

pub returns-then-letter-ge-FIRST_REMARK : goal.returns-then-letter-ge-FIRST_REMARK
returns-then-letter-ge-FIRST_REMARK c =
    let a = c.args in
    let e = c.transition_at-t.ensures ∙ sym (ap transition_in (whole a.file.now a.i c.requires.0)) in
    rw (sym c.of_kind.ensures ∙ c.if-not-of_kind.false)
    (sym (with-left-out states a.table.now (automaton_transition c.transition_at-t.result) (omega arith))
    ∙ ap (λ (t : Transition). with_transition states a.table.now (automaton_transition t)) e)

pub returns : goal.returns
returns c =
    let a = c.args in
    let t = c.transition_at-t.result in
    let e = c.transition_at-t.ensures ∙ sym (ap transition_in (whole a.file.now a.i c.requires.0)) in
    rw (sym c.of_kind.ensures ∙ c.if-not-of_kind.false)
    (c.store.ensures
    ∙ ap (with_relation a.table.now t.letter) (c.insert-new.ensures ∙ ap (λ (r : Relation). insert states (value r) t.source t.target) c.read-old.ensures)
    ∙ sym (with-inserted states a.table.now (automaton_transition t) (omega arith))
    ∙ ap (λ (t : Transition). with_transition states a.table.now (automaton_transition t)) e)

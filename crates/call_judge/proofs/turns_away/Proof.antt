-- The table and the mask are the file's, so the test is the definition's. Assumes nothing.
use mathlib.Core.Path.{sym, ap, ◌∙◌}
use mathlib.Core.List.{List}
use Prim.Native.Nat.{ℕ}
use borrow.Author.Rules.{rules}
use Rattle.relation.specs.Digits.{bit}
use Rattle.relation.specs.Masks.{rejects-number}
use Rattle.relation.specs.Relation.{states, rejects}
use Rattle.relation.specs.Representation.{value}
use Rattle.spec_language.specs.WordRelation.{is_final, rejected}
use Rattle.spec_file.specs.Views.{transitions_of, automaton_of}
use Rattle.call_judge.specs.TableRelation.{table_relation}
use Rattle.call_judge.specs.TableRelationLaws.{by-letters}
use Rattle.call_judge.proofs.turns_away.Statement.{statement}
use Rattle.call_judge.proofs.turns_away.Tie as tie

returns : tie.Need-returns
unfolding rejected
returns c =
    let s = c.before.before.before.before.before.before.before.before in
    let bs = s.args.file.now in
    let w = s.args.word.now in
    let r = c.before.before.relation_by-r in
    c.rejects.ensures
    ∙ ap (λ (m : ℕ). rejects states (bit m) (value r.result)) c.before.final_states-finals.ensures
    ∙ sym (rejects-number states (is_final (automaton_of bs)) (value r.result))
    ∙ ap (rejects states (is_final (automaton_of bs)))
    (r.ensures
    ∙ ap (λ (t : List ℕ). table_relation states t w) c.before.before.before.before.letter_relations.ensures
    ∙ by-letters (transitions_of bs) w s.requires)

pub turns_away_spec : {M : Type 1} → statement M
turns_away_spec =
    tie.close
    (tie.spec
    (λ c κs. search rules)
    (λ c κs. search rules)
    (λ c κs. search rules)
    (λ c κs. search rules)
    returns)

-- The file's rules, as many as there are, are those of the table. Assumes nothing.
use mathlib.Core.Path.{sym, subst}
use mathlib.Core.List.{List, map}
use lib.Seq.{length-take-le}
use borrow.Author.Rules.{rules}
use Rattle.spec_language.specs.Grammar.{Rule, production_of}
use Rattle.call_refusals.specs.RuleLaws.{rules-fit, rules-in}
use Rattle.spec_calls.specs.Recognizing.{TableShows}
use Rattle.member_laws.specs.Sets.{Heads}
use Rattle.call_member.specs.RecognizeLaws.{heads-low, letters-low}
use Rattle.call_member.proofs.fill.Statement.{statement}
use Rattle.call_member.proofs.fill.Tie as tie

array-share-prefix-rules : tie.Need-slice_bounds-rules-end
array-share-prefix-rules c = rules-fit _ _ _ _ c.rule_table-n.ensures

slice-aggregate-fill : tie.Need-slice_bounds-fill-end
slice-aggregate-fill c = sym (length-take-le _ _ (rules-fit _ _ _ _ c.before.rule_table-n.ensures))

fill-requires : tie.Need-fill-requires
fill-requires c κs =
    let s = c.before.before.before.before.before.before.before in
    let e = rules-in s.args.file.now s.requires.0 _ _ _ c.before.before.rule_table-n.ensures in
    (subst Heads (sym e) (heads-low s.args.file.now s.requires.0), s.requires.2, letters-low s.args.word.now s.requires.1, s.requires.3)

returns : tie.Need-returns
returns c =
    let s = c.before.before.before.before.before.before.before.before.before.before in
    let e = rules-in s.args.file.now s.requires.0 _ _ _ c.before.before.before.before.before.rule_table-n.ensures in
    subst (λ (r : List Rule). TableShows (map production_of r) s.args.word.now c.before.before.fill.new.table) e c.before.before.fill.ensures

pub fill_spec : {M : Type 1} → statement M
fill_spec =
    tie.close
    (tie.spec
    (λ c κs. search rules)
    array-share-prefix-rules
    slice-aggregate-fill
    fill-requires
    (λ c. search rules)
    returns)

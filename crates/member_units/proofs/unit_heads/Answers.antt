use Rattle.std.proofs.Common.{map, [], length, get_or, le_refl, rules}
use Rattle.spec_file.specs.Views.{symbol_of}
use Rattle.spec_file.specs.Entries.{entry_of}
use Rattle.member_laws.specs.Sets.{is_unit, Carries}
use Rattle.member_laws.specs.SetLaws.{unit-rule}
use Rattle.member_laws.specs.RoundLaws.{unit-all, row_in}
use Rattle.member_sets.specs.GatheringLaws.{round_of}
use Rattle.member_units.proofs.unit_heads.Goals as goal

-- the closure says whether the body is a unit, and the head of such a rule derives whatever the symbol spells
pub returns : goal.returns
returns c =
    let rows = c.args.rules.now in
    let n = c.args.empties in
    let N = c.requires.1 in
    let s = symbol_of c.args.symbol in
    unit-all rows n N s (length rows) c.with_heads.result (le_refl (length rows))
    (round_of rows _ (λ x. is_unit n s (entry_of x).body) (Carries (map entry_of rows) s) 0 c.with_heads.result
    (λ k b l e. search rules)
    (λ a k h e. unit-rule (map entry_of rows) n N.sound s (entry_of (get_or rows k [])) (row_in rows k h) e)
    c.with_heads.ensures)

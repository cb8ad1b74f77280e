use Rattle.std.proofs.Common.{map, [], length, get_or, le_refl, rules}
use Rattle.spec_file.specs.Entries.{entry_of}
use Rattle.member_laws.specs.Sets.{all_in, DerivesBy}
use Rattle.member_laws.specs.SetLaws.{null-rule}
use Rattle.member_laws.specs.RoundLaws.{null-all, row_in}
use Rattle.member_sets.specs.GatheringLaws.{round_of}
use Rattle.member_sets.proofs.null_round.Goals as goal

-- the closure says whether the body is in the set, and the head of such a rule derives the empty word where all of the set do
pub returns : goal.returns
returns c =
    let rows = c.args.rules.now in
    let set = c.args.set in
    null-all rows set (length rows) c.with_heads.result (le_refl (length rows))
    (round_of rows _ (λ x. all_in set (entry_of x).body) (λ p. DerivesBy (map entry_of rows) p []) set c.with_heads.result
    (λ k b l e. search rules)
    (λ a k h e. null-rule (map entry_of rows) set a (entry_of (get_or rows k [])) (row_in rows k h) e)
    c.with_heads.ensures)

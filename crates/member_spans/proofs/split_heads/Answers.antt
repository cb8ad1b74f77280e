use Rattle.std.proofs.Common.{◌<◌, [], length, get_or, le_refl, arith, rules}
use Rattle.member_laws.specs.Spans.{splits}
use Rattle.member_laws.specs.RoundLaws.{row_in}
use Rattle.member_laws.specs.SpanLaws.{split-all, by_row}
use Rattle.member_sets.specs.GatheringLaws.{round_of}
use Rattle.member_spans.proofs.split_heads.Goals as goal

-- the closure says whether the rule splits the stretch, and the head of such a rule derives it
pub returns : goal.returns
returns c =
    let a = c.args in
    let rows = a.rules.now in
    let word = a.word.now in
    let ends = a.ends.now in
    let starts = a.starts.now in
    let low : a.i < a.j = omega (arith, c.requires.1) in
    split-all rows word ends starts a.i a.j low c.requires.2 (length rows) c.with_heads.result (le_refl (length rows))
    (round_of rows _ (splits word ends starts a.i a.j) _ 0 c.with_heads.result
    (λ k b l e. search rules)
    (λ g k h e. by_row rows word ends starts a.i a.j low c.requires.2 (get_or rows k []) (row_in rows k h) e)
    c.with_heads.ensures)

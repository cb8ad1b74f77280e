use Rattle.std.proofs.Common.{◌+◌, ◌<◌, map, refl, sym, subst, arith}
use Rattle.spec_file.specs.Entries.{entry_of}
use Rattle.member_laws.specs.Filling.{Done, Filled}
use Rattle.member_laws.specs.FillLaws.{full-none, row_next, starts-right, starts-full, filled_next}
use Rattle.member_table.proofs.fill_stretch.Goals as goal

-- a stretch of no letter
pub returns-then-i-j-clause-filled : goal.returns-then-i-j-clause-filled
returns-then-i-j-clause-filled c =
    let a = c.args in
    let rules = map entry_of a.sentence.now.rules.now in
    let word = a.sentence.now.word.now in
    let l = c.requires.stretch in
    let d = c.derive-set in
    let F = c.requires.filled in
    subst (Filled rules word (Done a.i (a.j + 1)) a.starts.now) (sym c.put.ensures)
    (filled_next rules word a.i a.j l.0 l.1 d.result d.ensures c.requires.prepared.short a.starts.now a.starts.now a.table.now F F.right
    (full-none rules word a.i a.j l.0 l.1 d.result d.ensures a.starts.now c.if-i-j.true F.full) refl)

-- one up to step 64
pub returns-then-j-ge-RUN_LIMIT-clause-filled : goal.returns-then-j-ge-RUN_LIMIT-clause-filled
returns-then-j-ge-RUN_LIMIT-clause-filled c =
    let a = c.args in
    let rules = map entry_of a.sentence.now.rules.now in
    let word = a.sentence.now.word.now in
    let l = c.requires.stretch in
    let d = c.derive-set in
    let F = c.requires.filled in
    let n = c.mark_all in
    let more : a.i < a.j = omega (arith, l.0, c.if-i-j.false) in
    subst (Filled rules word (Done a.i (a.j + 1)) n.new.cells) (sym c.put.ensures)
    (filled_next rules word a.i a.j l.0 l.1 d.result d.ensures c.requires.prepared.short a.starts.now n.new.cells a.table.now F
    (starts-right rules word a.i a.j l.0 l.1 d.result d.ensures more a.starts.now n.new.cells n.ensures F.right)
    (starts-full rules word a.i a.j l.0 l.1 d.result d.ensures more a.starts.now n.new.cells n.ensures F.full) n.auto.cells)

-- any other
pub returns-clause-row : goal.returns-clause-row
returns-clause-row c =
    let a = c.args in
    let l = c.requires.stretch in
    let more : a.i < a.j = omega (arith, l.0, c.if-i-j.false) in
    row_next (map entry_of a.sentence.now.rules.now) a.sentence.now.word.now a.i a.j l.0 l.1 c.derive-set.result c.derive-set.ensures more a.ends.now
    c.mark_all-2.new.cells c.mark_all-2.ensures c.requires.row

pub returns-clause-filled : goal.returns-clause-filled
returns-clause-filled c =
    let a = c.args in
    let rules = map entry_of a.sentence.now.rules.now in
    let word = a.sentence.now.word.now in
    let l = c.requires.stretch in
    let d = c.derive-set in
    let F = c.requires.filled in
    let n = c.mark_all in
    let more : a.i < a.j = omega (arith, l.0, c.if-i-j.false) in
    subst (Filled rules word (Done a.i (a.j + 1)) n.new.cells) (sym c.put.ensures)
    (filled_next rules word a.i a.j l.0 l.1 d.result d.ensures c.requires.prepared.short a.starts.now n.new.cells a.table.now F
    (starts-right rules word a.i a.j l.0 l.1 d.result d.ensures more a.starts.now n.new.cells n.ensures F.right)
    (starts-full rules word a.i a.j l.0 l.1 d.result d.ensures more a.starts.now n.new.cells n.ensures F.full) n.auto.cells)

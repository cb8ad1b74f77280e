use Rattle.std.proofs.Common.{ℕ, ◌+◌, ◌<◌, length, map, sym, subst, arith}
use Rattle.spec_file.specs.Entries.{entry_of}
use Rattle.member_laws.specs.Sets.{UnionOf}
use Rattle.member_laws.specs.Spans.{Exact}
use Rattle.member_laws.specs.FillLaws.{exact_none, exact-closure, base-letter, base-pairs}
use Rattle.member_table.proofs.derive.Goals as goal
use Rattle.member_table.proofs.derive.Goals.{then-j-i, else-j-i}

-- no letter
pub returns-then-i-j : goal.returns-then-i-j
returns-then-i-j c =
    let s = c.args.sentence.now in
    let rules = map entry_of s.rules.now in
    subst (λ (j : ℕ). Exact rules s.word.now c.args.i j s.empties) c.if-i-j.true (exact_none rules s.word.now s.empties c.args.i c.requires.prepared.null)

-- one, or more
pub returns : goal.returns
returns c =
    let a = c.args in
    let s = a.sentence.now in
    let rules = map entry_of s.rules.now in
    let word = s.word.now in
    let P = c.requires.prepared in
    elim c.if-j-i.branch [
      | then-j-i w ↦
          let e = w.if-j-i.true in
          let low : a.i < length word = omega (arith, c.requires.stretch.1, e) in
          let h = w.unit_heads-heads in
          subst (λ (j : ℕ). Exact rules word a.i j c.union.result) (sym e)
          (exact-closure rules word s.empties s.units.now P a.i (a.i + 1) (omega arith) (omega (arith, low)) h.result c.union.result
          (base-letter rules word s.empties a.i low (P.letters a.i low) h.result h.ensures)
          (subst (λ (x : ℕ). UnionOf s.units.now x c.union.result) w.heads-is c.union.ensures))
      | else-j-i w ↦
          let more : a.i + 1 < a.j = omega (arith, c.requires.stretch.0, c.if-i-j.false, w.if-j-i.false) in
          let h = w.split_heads-heads in
          exact-closure rules word s.empties s.units.now P a.i a.j (omega (arith, more)) c.requires.stretch.1 h.result c.union.result
          (base-pairs s.rules.now word s.empties s.units.now P a.i a.j more c.requires.stretch.1 a.ends.now a.starts.now c.requires.row c.requires.right
          c.requires.full h.result h.ensures)
          (subst (λ (x : ℕ). UnionOf s.units.now x c.union.result) w.heads-is c.union.ensures)
    ]

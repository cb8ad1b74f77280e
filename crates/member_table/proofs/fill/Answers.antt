use Rattle.std.proofs.Common.{◌≡◌, ℕ, map, length, ◌∙◌, rules}
use Rattle.std.proofs.Math.ListN.{replicate, length-replicate}
use Rattle.spec_file.specs.Entries.{entry_of}
use Rattle.member_laws.specs.FillLaws.{filled_none, shown, zeros}
use Rattle.member_table.proofs.fill.Goals as goal

-- no cell is known yet, and all are 0
pub fill_rows-requires-clause-filled : goal.fill_rows-requires-clause-filled
fill_rows-requires-clause-filled c =
    let a = c.args in
    let e : c.fill.new.self ≡ replicate (length a.table.now) 0 = c.fill.ensures.after (λ y k. search rules) in
    filled_none (map entry_of a.rules.now) a.word.now _ c.fill.new.self (length-replicate {A = ℕ} 4160 0) (zeros 4160)
    (c.fill.ensures.len ∙ c.requires.3) (λ x. rw e (zeros (length a.table.now) x))

pub returns : goal.returns
returns c = let f = c.fill_rows in shown (map entry_of c.args.rules.now) c.args.word.now f.new.starts f.new.table f.ensures

-- `search_passes::linked` meets its contract: a nonterminal of the set is asked for its cell, and any other for nothing. Assumes nothing.
use borrow.Author.Rules.{rules}
use mathlib.Core.Path.{sym, ◌∙◌}
use Rattle.search_laws.specs.LinkedLaws.{linked-in, linked-out}
use Rattle.search_passes.proofs.linked.Statement.{statement}
use Rattle.search_passes.proofs.linked.Tie as tie

returns : tie.Need-returns-then-is_member
returns c =
    let s = c.before.before.before.before in
    linked-in s.args.starts s.args.table.now s.args.p s.requires.1 (sym c.before.before.is_member.ensures ∙ c.before.if-is_member.true)

returns-2 : tie.Need-returns
returns-2 c =
    let s = c.before.before.before in
    linked-out s.args.starts s.args.table.now s.args.p s.requires.1 (sym c.before.is_member.ensures ∙ c.if-is_member.false)

pub linked_spec : {M : Type 1} → statement M
linked_spec = tie.close (tie.spec (λ c κs. search rules) (λ c. search rules) (λ c. search rules) (λ c. search rules) returns returns-2)

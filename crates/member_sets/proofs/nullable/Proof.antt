-- The loop's invariant: every nonterminal of `set` derives the empty word. The measure falls, for a round that adds something makes the word
-- larger. Assumes nothing.
use mathlib.Core.Path.{sym, ◌∙◌, subst}
use mathlib.Core.Bool.{false≢true}
use mathlib.Core.List.{[], map}
use Prim.Native.Nat.{◌-◌, ◌^◌}
use native.Mathlib.Omega.{arith}
use Rattle.relation.specs.DigitLaws.{bit-zero}
use Rattle.spec_file.specs.Entries.{entry_of}
use Rattle.member_laws.specs.Sets.{AllDerive}
use Rattle.member_laws.specs.Rounds.{NullRound}
use Rattle.member_laws.specs.RoundLaws.{null-done}
use Rattle.member_sets.proofs.nullable.Statement.{statement}
use Rattle.member_sets.proofs.nullable.Tie as tie

abbrev invariant-loop-set : tie.invariant-loop-set
invariant-loop-set rules set₀ set = AllDerive (map entry_of rules) set []

abbrev decreases-loop-set : tie.decreases-loop-set
decreases-loop-set rules set₀ set = 2 ^ 64 - set

loop-holds : tie.Need-loop-set-init invariant-loop-set decreases-loop-set
loop-holds c p e = absurd (false≢true (sym (bit-zero p) ∙ e))

null-round-requires : tie.Need-null_round-next-requires invariant-loop-set decreases-loop-set
null-round-requires c κs = c.before.requires

returns : tie.Need-returns-then-next-set invariant-loop-set decreases-loop-set
returns c =
    let rules = map entry_of c.before.before.before.args.rules.now in
    let l = c.before.before.loop-set in
    null-done rules l.set l.invariant (subst (NullRound rules l.set) c.if-next-set.true c.before.null_round-next.ensures)

loop-less : tie.Need-loop-set-smaller invariant-loop-set decreases-loop-set
loop-less c = let h = c.before.null_round-next.ensures.larger in omega (arith, c.before.null_round-next.type_inv, c.if-next-set.false)

loop-again : tie.Need-loop-set-preserved invariant-loop-set decreases-loop-set
loop-again c = c.before.null_round-next.ensures.sound c.before.before.loop-set.invariant

pub nullable_spec : {M : Type 1} → statement M
nullable_spec =
    tie.close
    (tie.spec invariant-loop-set decreases-loop-set loop-holds null-round-requires returns loop-less loop-again)

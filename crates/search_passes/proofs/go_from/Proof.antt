-- `search_passes::go_from` meets its contract: at the first place that needs work, or at the end of the pass. Assumes nothing.
use mathlib.Core.Path.{◌≡◌, sym, ap, subst}
use Prim.Native.Nat.{ℕ}
use native.Mathlib.Omega.{arith}
use lib.ListN.{length, take}
use lib.Seq.{length-take-le}
use borrow.Author.Rules.{rules}
use Rattle.search_laws.specs.Clauses.{Answers}
use Rattle.search_laws.specs.Passing.{pass-end}
use Rattle.search_laws.specs.PassingOver.{over-stands}
use Rattle.search_laws.specs.StepLaws.{over-counted}
use Rattle.search_laws.specs.Steps.{LinksAlong}
use Rattle.search_laws.specs.Walks.{pass_in}
use Rattle.search_laws.specs.declared.Outcome.TheVariants.{Going}
use Rattle.search_laws.specs.Problems.{with_rules}
use Rattle.search_laws.specs.RunningLaws.{onward-from, stand-on}
use Rattle.search_state.specs.declared.Terms.{Terms}
use Rattle.search_passes.proofs.go_from.Statement.{statement}
use Rattle.search_passes.proofs.go_from.Tie as tie

returns : tie.Need-returns-then-place-n
returns c P L B j₀ first j₁ j z rows y g =
    let o = c.pass_over-at in
    let s = c in
    let st = s.args.state in
    let rs = take st.rules s.args.rules.now in
    let Q = with_rules P rs in
    let n : st.rules ≡ length rs = sym (length-take-le st.rules s.args.rules.now s.requires.0.opens.count) in
    rw c.stand_at.ensures
    (onward-from Q B j₀ st rows n (over-counted rs s.args.table.now st.terms o.ensures).joins (over-counted rs s.args.table.now st.terms o.ensures).used
    (stand-on Q B j₀ st rows n y (over-stands L o.ensures g) (omega (arith, c.if-place-n.true, n))))

asked : tie.Need-close_pass-requires
asked c κs =
    let o = c.pass_over-at in
    let s = c in
    let a = s.requires.0.opens in
    let same = (over-counted (take s.args.state.rules s.args.rules.now) s.args.table.now s.args.state.terms o.ensures).used in
    record { opens = record { table = a.table; count = a.count; old = a.old; used = omega (arith, same, a.used); links = subst (λ (u : ℕ). LinksAlong u s.args.table.now) (sym same) a.links }; pass = s.requires.0.pass }

returns-2 : tie.Need-returns
returns-2 c P L B j₀ first j₁ j z rows y g =
    let o = c.pass_over-at in
    let s = c in
    let st = s.args.state in
    let rs = take st.rules s.args.rules.now in
    let Q = with_rules P rs in
    let n : st.rules ≡ length rs = sym (length-take-le st.rules s.args.rules.now s.requires.0.opens.count) in
    let r = over-stands {P = Q} L o.ensures g in
    onward-from Q B j₀ st rows n (over-counted rs s.args.table.now st.terms o.ensures).joins (over-counted rs s.args.table.now st.terms o.ensures).used
    (c.close_pass.ensures P L B j₀ first j₁ j z rows y r.left.same
    (subst (λ (k : ℕ). Answers Q.row_of k (pass_in Q st.terms first j₁) first j₁ j (Going o.result.counts)) (ap (λ (b : Terms). b.budget) y.terms)
    (pass-end r (omega (arith, c.if-place-n.false, n))))
    r.covering)

pub go_from_spec : {M : Type 1} → statement M
go_from_spec = tie.close (tie.spec (λ c κs. search rules) (λ c κs. search rules) (λ c. search rules) returns asked (λ c. search rules) returns-2)

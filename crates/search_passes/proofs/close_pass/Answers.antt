-- `search_passes::close_pass` meets its contract: the last pass, or one more. Assumes nothing.
use mathlib.Core.Path.{◌≡◌, refl, sym, ap, ◌∙◌, subst}
use Prim.Native.Nat.{◌+◌, ◌≤◌}
use native.Mathlib.Nat.{le_refl}
use native.Mathlib.Omega.{arith}
use lib.ListN.{length, take}
use lib.Seq.{length-take-le}
use Rattle.search_laws.specs.Clauses.{Answers}
use Rattle.search_laws.specs.Running.{Onward}
use Rattle.search_laws.specs.States.{all_linked, finished}
use Rattle.search_laws.specs.Walks.{pass_in}
use Rattle.search_laws.specs.declared.Outcome.TheVariants.{Going}
use Rattle.search_laws.specs.Problems.{with_rules}
use Rattle.search_laws.specs.RunningLaws.{onward-from, close-last, close-again, close-known}
use Rattle.search_state.specs.Layout.{row_cells}
use Rattle.search_state.specs.NextPass.{next_pass}
use Rattle.search_state.specs.declared.Terms.{Terms}
use Rattle.search_passes.proofs.close_pass.Goals as goal

pub returns-then-counts-eq0 : goal.returns-then-counts-eq0
returns-then-counts-eq0 c P L B j₀ first j₁ j z rows y h x g =
    let st = c.args.state in
    let rs = take c.args.state.rules c.args.rules.now in
    let Q = with_rules P rs in
    let n : st.rules ≡ length rs = sym (length-take-le st.rules c.args.rules.now c.requires.opens.count) in
    rw (c.finish.ensures, c.all_linked.ensures)
    (subst (λ (b : Terms). Onward Q B j₀ c.args.counts (finished st b c.args.counts (all_linked b.starts c.args.table.now)) j c.args.table.now) (sym y.terms)
    (close-last Q B j₀ st rows n y.at-pass y.before h (subst (λ (b : Terms). Answers Q.row_of B (pass_in Q b first j₁) first j₁ j (Going c.args.counts)) y.terms x) z.limit c.args.table.now g (omega arith)))

pub open_pass-at-requires : goal.open_pass-at-requires
open_pass-at-requires c =
    let a = c.requires.opens in
    record { table = a.table; count = a.count; old = subst (λ (b : Terms). b.old ≤ row_cells) (sym c.next_pass-next.ensures) a.old; used = a.used; links = a.links }

pub returns : goal.returns
returns c P L B j₀ first j₁ j z rows y h x g =
    let st = c.args.state in
    let rs = take c.args.state.rules c.args.rules.now in
    let Q = with_rules P rs in
    let n : st.rules ≡ length rs = sym (length-take-le st.rules c.args.rules.now c.requires.opens.count) in
    let w = c.args.counts in
    let more : w.added ≡ 0 → ⊥ = λ e. omega (arith, e) in
    let gave = subst (λ (b : Terms). Answers Q.row_of B (pass_in Q b first j₁) first j₁ j (Going w)) y.terms x in
    rw (c.stand_or_finish.ensures, c.all_linked-2.ensures)
    (onward-from Q B j₀ st rows n (le_refl w.joins) refl
    (c.open_pass-at.ensures P L B j₀ j (y.pass + 1) first.used st refl z rows (close-again Q B j₀ st rows n y.at-pass y.before h gave more)
    (c.next_pass-next.ensures ∙ ap (λ (b : Terms). next_pass b w.used) y.terms)
    (close-known Q B j₀ st rows n y.at-pass y.before h gave L more z.limit) g))

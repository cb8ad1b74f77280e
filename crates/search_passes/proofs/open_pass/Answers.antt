-- `search_passes::open_pass` meets its contract: at the first place that needs work, or past the last rule where there is none. Assumes nothing.
use mathlib.Core.Path.{sym, ◌∙◌, subst}
use Prim.Native.Nat.{◌≤◌}
use native.Mathlib.Omega.{arith}
use lib.ListN.{take}
use lib.Seq.{length-take-le}
use Rattle.search_laws.specs.Steps.{MeasuresIn, PassesOver}
use Rattle.search_laws.specs.Running.{Onward}
use Rattle.search_laws.specs.States.{all_linked, opening}
use Rattle.search_laws.specs.Problems.{with_rules}
use Rattle.search_laws.specs.RunningLaws.{opens-place, open-reached}
use Rattle.search_state.specs.Layout.{row_cells}
use Rattle.search_state.specs.declared.Terms.{Terms}
use Rattle.search_passes.proofs.open_pass.Goals as goal

pub measure_in-requires : goal.measure_in-requires
measure_in-requires c = (c.gather.ensures.size ∙ c.requires.table, omega (arith, c.requires.old, c.requires.used))

pub first_in-place-requires : goal.first_in-place-requires
first_in-place-requires c = (c.measure_in.ensures.size ∙ c.gather.ensures.size ∙ c.requires.table, c.requires.count)

pub pass_over-requires : goal.pass_over-requires
pass_over-requires c =
    let measured = c.measure_in.ensures in
    let gathered = c.gather.ensures in
    record {
      table = measured.size ∙ gathered.size ∙ c.requires.table;
      count = c.requires.count;
      old = c.requires.old;
      measured = measured.lists.measured;
      places = opens-place c.requires.links c.requires.used gathered measured c.first_in-place.ensures;
    }

pub returns : goal.returns
returns c P L B j₀ j k m st count z rows a e known g =
    let o = c.pass_over in
    let p = c.first_in-place in
    let measured = c.measure_in in
    let gathered = c.gather in
    let rs = take c.args.n c.args.rules.now in
    let t = measured.new.table in
    let Q = with_rules P rs in
    subst (λ (b : Terms). Onward Q B j₀ c.args.counts (opening st b o.result (all_linked b.starts t)) j t) (sym e)
    (open-reached Q B j₀ st rows (count ∙ sym (length-take-le c.args.n c.args.rules.now c.requires.count)) L z a m (subst (λ (b : Terms). b.old ≤ row_cells) e c.requires.old) known g gathered.ensures
    (subst (λ (b : Terms). MeasuresIn b.old gathered.new.table t) e measured.ensures) p.result p.ensures
    (subst (λ (b : Terms). PassesOver rs t b (record { counts = c.args.counts; place = p.result }) o.result) e o.ensures))

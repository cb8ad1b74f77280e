-- `search_skip::measure_in` meets its contract: the lists are the last part of the table. Assumes nothing.
use mathlib.Core.Path.{◌≡◌, sym, ap, ◌∙◌, subst}
use mathlib.Core.List.{List, ◌++◌, append-nil}
use Prim.Native.Nat.{ℕ, ◌-◌}
use native.Mathlib.Nat.{le_of_eq}
use native.Mathlib.Omega.{arith}
use lib.ListN.{length, take, drop, length-drop, length-take, length-append, drop_of_length-le, get_or-append}
use lib.Seq.{drop-append_seam, get_or-take, length-take-le}
use borrow.Author.Rules.{rules}
use borrow.Rule.Slice.PartMut.{put_mid}
use Rattle.search_state.specs.Layout.{lists_from, table_cells, lists_in}
use Rattle.search_spans.specs.Spans.{Measures}
use Rattle.search_laws.specs.Steps.{MeasuresIn}
use Rattle.search_laws.specs.StepLaws.{lent-lists}
use Rattle.search_skip.proofs.measure_in.Statement.{statement}
use Rattle.search_skip.proofs.measure_in.Tie as tie

-- the table t with the lists `ys`
module _ (b : ℕ) (t ys : List ℕ) (z : length t ≡ table_cells) (m : Measures b (lists_in t) ys) where
  abbrev front : List ℕ
  front = take lists_from t

  front-size : length front ≡ lists_from
  front-size = length-take-le lists_from t (omega (arith, z))

  -- nothing is behind the lists
  put_is : put_mid lists_from (length t - lists_from) t ys ≡ front ++ ys
  put_is = ap (λ (l : List ℕ). front ++ (ys ++ l)) (drop_of_length-le (lists_in t) (le_of_eq (length-drop lists_from t))) ∙ ap (λ (l : List ℕ). front ++ l) (append-nil ys)

  put-measures : MeasuresIn b t (front ++ ys)
  put-measures =
      record {
        size = omega (arith, length-append front ys, front-size, m.size, length-drop lists_from t, z);
        links = λ i l. get_or-append front ys 0 i (omega (arith, l, front-size)) ∙ get_or-take lists_from t i 0 l;
        lists = subst (Measures b (lists_in t)) (sym (ap (λ (n : ℕ). drop n (front ++ ys)) (sym front-size) ∙ drop-append_seam front ys)) m;
      }

asked : tie.Need-measure-requires
asked c κs =
    let s = c in
    let t = s.args.table.now in
    (omega (arith, s.requires.0, length-drop lists_from t, length-take (length t - lists_from) (drop lists_from t)), s.requires.1)

returns : tie.Need-returns
returns c =
    let s = c in
    let t = s.args.table.now in
    let ys = c.measure.new.lists in
    let m = subst (λ (l : List ℕ). Measures s.args.old l ys) (lent-lists t) c.measure.ensures in
    subst (MeasuresIn s.args.old t) (sym (put_is s.args.old t ys s.requires.0 m)) (put-measures s.args.old t ys s.requires.0 m)

pub measure_in_spec : {M : Type 1} → statement M
measure_in_spec = tie.close (tie.spec (λ c. search rules) (λ c. search rules) (λ c. search rules) asked (λ c. search rules) returns)

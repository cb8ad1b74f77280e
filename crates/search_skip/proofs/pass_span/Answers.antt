-- `search_skip::pass_span` meets its contract: the place alone, with its rights, or with the lefts after it too. Assumes nothing.
use mathlib.Core.Path.{◌≡◌, sym, ap, ◌∙◌, subst, subst₂}
use mathlib.Core.Bool.{true, false, not, ◌||◌}
use mathlib.Core.List.{List, []}
use Prim.Native.Nat.{ℕ, ◌+◌, ◌*◌, ◌-◌, ◌≤◌}
use native.Mathlib.Nat.{mul-le-mul}
use native.Mathlib.Omega.{arith}
use lib.Dec.{eqb, ltb}
use lib.ListN.{length, get_or, take, drop, length-drop, length-take}
use lib.Seq.{get_or-take, length-take-le}
use borrow.Author.Rules.{rules}
use borrow.Author.Tests.{eqb-true, ltb-false}
use Rattle.spec_basics.specs.Tests.{or-neither, not-fails}
use Rattle.spec_language.specs.Grammar.{Rule}
use Rattle.spec_file.specs.Entries.{entry_of}
use Rattle.search_state.specs.Forming.{left_part, right_part, entry_at}
use Rattle.search_state.specs.Layout.{lists_from, span_cells, lists_in, end}
use Rattle.search_state.specs.declared.Terms.{Terms}
use Rattle.search_order.specs.Lists.{after_in}
use Rattle.search_spans.specs.Spans.{Measured, Spans}
use Rattle.search_spans.specs.declared.Span.{Span}
use Rattle.search_laws.specs.declared.Reached.{Reached}
use Rattle.search_laws.specs.StepLaws.{lent-lists, passes-here, passes-paid, span-alone, span-rights, span-lefts}
use Rattle.search_laws.specs.Steps.{passes_at, moved_to, MayPass, PassesSpan}
use Rattle.search_skip.proofs.pass_span.Goals as goal

-- a product of two numbers of 32 bits
product : (m n : ℕ) → m ≤ 4294967295 → n ≤ 4294967295 → m * (n + 1) ≤ 18446744069414584320
product m n h l = let k : n + 1 ≤ 4294967296 = omega (arith, l) in mul-le-mul h k

-- what a test that fails says: the position is the first of its list, and the budget leaves enough joins
fitting : (i k room steps : ℕ) → (not (eqb i k) || ltb room steps) ≡ false → (i ≡ k) × (steps ≤ room)
fitting i k room steps e =
    let o = or-neither (not (eqb i k)) (ltb room steps) e in
    (eqb-true i k (not-fails (eqb i k) o.0), ltb-false room steps o.1)

-- the lists are the last part of the table, which is lent
abbrev lent_lists : List ℕ → List ℕ
lent_lists t = take (length t - lists_from) (drop lists_from t)

lent : (rules : List (List ℕ)) (n : ℕ) (b : Terms) (t : List ℕ) (x : Reached) → MayPass rules n b t x.place → (span_cells ≤ length (lent_lists t)) × Measured b.old (lent_lists t)
lent rules n b t x m = (
  omega (arith, m.table, length-drop lists_from t, length-take (length t - lists_from) (drop lists_from t)),
  subst (Measured b.old) (sym (lent-lists t)) m.measured,
)

module _ (rules : List (List ℕ)) (n : ℕ) (b : Terms) (t : List ℕ) (x : Reached) (m : MayPass rules n b t x.place) (e : passes_at b n x ≡ true) where
  abbrev one : ℕ
  one = x.counts.joins + 1

  paid : one ≤ b.budget
  paid = omega (arith, passes-paid b n x e)

  here : entry_at (take n rules) x.place.rule ≡ entry_of (get_or rules x.place.rule [])
  here = ap entry_of (get_or-take n rules x.place.rule [] (passes-here b n x e))

  -- over the first n rules
  whole : passes_at b (length (take n rules)) x ≡ true
  whole = subst (λ (k : ℕ). passes_at b k x ≡ true) (sym (length-take-le n rules m.count)) e

  abbrev Passed : ℕ → ℕ → ℕ → Type 0
  Passed j i k = PassesSpan (take n rules) t b x (moved_to x j i k)

  by_place : Passed one x.place.left x.place.right
  by_place = span-alone (take n rules) t b m.old x whole

  module _ (r : Span) (v : Spans b.old (lent_lists t) (right_part (entry_of (get_or rules x.place.rule [])).body) r) (f : (not (eqb r.first x.place.right) || ltb (b.budget - one) r.steps) ≡ false) where
    rights : one + r.steps ≤ b.budget
    rights = omega (arith, (fitting r.first x.place.right (b.budget - one) r.steps f).1, paid)

    right-spans : Spans b.old (lists_in t) (right_part (entry_at (take n rules) x.place.rule).body) r
    right-spans = subst₂ (λ (l : List ℕ) (q : Rule). Spans b.old l (right_part q.body) r) (lent-lists t) (sym here) v

    by-rights : Passed (one + r.steps) x.place.left r.last
    by-rights = span-rights (take n rules) t b m.old x whole r right-spans (fitting r.first x.place.right (b.budget - one) r.steps f).0 rights

    module _ (l : Span) (w : Spans b.old (lent_lists t) (left_part (entry_of (get_or rules x.place.rule [])).body) l) (g : (not (eqb l.first x.place.left) || ltb (b.budget - (one + r.steps)) (l.steps * (r.steps + 1))) ≡ false) where
      lefts : one + r.steps + l.steps * (r.steps + 1) ≤ b.budget
      lefts = omega (arith, (fitting l.first x.place.left (b.budget - (one + r.steps)) (l.steps * (r.steps + 1)) g).1, rights)

      by-lefts : after_in (lists_in t) r.last ≡ end → Passed (one + r.steps + l.steps * (r.steps + 1)) l.last r.last
      by-lefts last =
          span-lefts (take n rules) t b m.old x whole r right-spans (fitting r.first x.place.right (b.budget - one) r.steps f).0 rights last l
          (subst₂ (λ (k : List ℕ) (q : Rule). Spans b.old k (left_part q.body) l) (lent-lists t) (sym here) w) (fitting l.first x.place.left (b.budget - (one + r.steps)) (l.steps * (r.steps + 1)) g).0 lefts

pub offset_bounds-rules-r : goal.offset_bounds-rules-r
offset_bounds-rules-r c =
    omega (arith, passes-here c.args.terms c.args.n c.args.at c.requires.1, c.requires.0.count)

pub bounds-rules-r : goal.bounds-rules-r
bounds-rules-r c =
    omega (arith, passes-here c.args.terms c.args.n c.args.at c.requires.1, c.requires.0.count)

pub overflow_add-joins : goal.overflow_add-joins
overflow_add-joins c =
    omega (arith, passes-paid c.args.terms c.args.n c.args.at c.requires.1)

pub right_span-rights-requires : goal.right_span-rights-requires
right_span-rights-requires c =
    lent c.args.rules.now c.args.n c.args.terms c.args.table.now c.args.at c.requires.0

pub overflow_sub-terms : goal.overflow_sub-terms
overflow_sub-terms c =
    omega (arith, passes-paid c.args.terms c.args.n c.args.at c.requires.1)

pub returns-then-rights-place : goal.returns-then-rights-place
returns-then-rights-place c =
    let a = c.args in
    rw c.moved.ensures (by_place a.rules.now a.n a.terms a.table.now a.at c.requires.0 c.requires.1)

pub overflow_add-row : goal.overflow_add-row
overflow_add-row c =
    let a = c.args in
    let r = c.right_span-rights in
    omega (arith, rights a.rules.now a.n a.terms a.table.now a.at c.requires.0 c.requires.1 r.result r.ensures c.if-rights-place.false)

pub returns-then-next-ne-END : goal.returns-then-next-ne-END
returns-then-next-ne-END c =
    let a = c.args in
    let r = c.right_span-rights in
    rw c.moved-then-next-ne-END.ensures (by-rights a.rules.now a.n a.terms a.table.now a.at c.requires.0 c.requires.1 r.result r.ensures c.if-rights-place.false)

pub left_span-lefts-requires : goal.left_span-lefts-requires
left_span-lefts-requires c =
    lent c.args.rules.now c.args.n c.args.terms c.args.table.now c.args.at c.requires.0

pub overflow_add-more : goal.overflow_add-more
overflow_add-more c = omega (arith, c.right_span-rights.ensures.few)

pub overflow_mul-more : goal.overflow_mul-more
overflow_mul-more c =
    let l = c.left_span-lefts in
    let r = c.right_span-rights in
    omega (arith, product l.result.steps r.result.steps l.ensures.few r.ensures.few)

pub overflow_sub-terms-2 : goal.overflow_sub-terms-2
overflow_sub-terms-2 c =
    let a = c.args in
    let r = c.right_span-rights in
    omega (arith, rights a.rules.now a.n a.terms a.table.now a.at c.requires.0 c.requires.1 r.result r.ensures c.if-rights-place.false)

pub returns-then-lefts-place : goal.returns-then-lefts-place
returns-then-lefts-place c =
    let a = c.args in
    let r = c.right_span-rights in
    rw c.moved-then-lefts-place.ensures
    (by-rights a.rules.now a.n a.terms a.table.now a.at c.requires.0 c.requires.1 r.result r.ensures c.if-rights-place.false)

pub overflow_add-row-2 : goal.overflow_add-row-2
overflow_add-row-2 c =
    let a = c.args in
    let r = c.right_span-rights in
    let l = c.left_span-lefts in
    omega
    (arith, lefts a.rules.now a.n a.terms a.table.now a.at c.requires.0 c.requires.1 r.result r.ensures c.if-rights-place.false l.result l.ensures c.if-lefts-place.false)

pub returns : goal.returns
returns c =
    let a = c.args in
    let r = c.right_span-rights in
    let l = c.left_span-lefts in
    rw c.moved-2.ensures
    (by-lefts a.rules.now a.n a.terms a.table.now a.at c.requires.0 c.requires.1 r.result r.ensures c.if-rights-place.false l.result l.ensures c.if-lefts-place.false
    (sym c.after_in-next.ensures ∙ c.if-next-ne-END.false))

-- `search_glance::glance` meets its contract: no left row has several candidates there, or the first may not be passed, or those that are known to be
-- covered are. Assumes nothing.
use mathlib.Core.Path.{refl, sym, ap, ◌∙◌, subst}
use mathlib.Core.List.{List, []}
use mathlib.Core.Logic.{inl}
use Prim.Native.Nat.{ℕ}
use lib.ListN.{get_or}
use borrow.Author.Rules.{rules}
use Rattle.search_glance.specs.Glancing.{after_left, PassedFrom}
use Rattle.search_glance.specs.GlanceLaws.{effect-two, tries-past}
use Rattle.search_glance.proofs.glance.Statement.{statement}
use Rattle.search_glance.proofs.glance.Tie as tie

effect-at-requires : tie.Need-effect_at-effect-requires
effect-at-requires c κs = let p = c.before.before.before.before.before.before.requires in (p.letters-all, p.near, p.used)

try-hints-requires : tie.Need-try_hints-hinted-requires
try-hints-requires c κs = let p = c.before.before.before.before.before.before.before.requires in (p.near, p.table, p.used)

returns : tie.Need-returns-then-rule-ne2
returns c = let h = c.before in record { glances = inl refl; effect = h.before.effect_at-effect.ensures; known = h.try_hints-hinted.ensures.known; slot = h.try_hints-hinted.ensures.slot }

returns-2 : tie.Need-returns-then-rule-lt-TERMINALS
returns-2 c = let h = c.before.before in record { glances = inl refl; effect = h.before.effect_at-effect.ensures; known = h.try_hints-hinted.ensures.known; slot = h.try_hints-hinted.ensures.slot }

after-in-requires : tie.Need-after_in-next-requires
after-in-requires c κs = c.before.before.before.before.before.before.before.before.before.before.requires.table

may-pass-requires : tie.Need-may_pass-requires
may-pass-requires c κs = c.before.before.before.before.before.before.before.before.before.before.before.requires.paid

returns-3 : tie.Need-returns-then-not-may_pass
returns-3 c =
    let h = c.before.before.before.before.before in
    record { glances = inl refl; effect = h.before.effect_at-effect.ensures; known = h.try_hints-hinted.ensures.known; slot = h.try_hints-hinted.ensures.slot }

effect-of-requires : tie.Need-effect_of-left-requires
effect-of-requires c κs =
    let p = c.before.before.before.before.before.before.before.before.before.before.before.before.before.requires in
    (p.letters-all, p.near, p.used)

over-known-requires : tie.Need-over_known-requires
over-known-requires c κs =
    let i2 = c.before.before.before.before in
    let h = i2.before.before in
    let s = h.before.before.before.before.before.before.before.before in
    let a = s.args in
    let p = s.requires in
    let xs : List ℕ = get_or a.rules.now a.state.place.rule [] in
    record {
      near = p.near;
      table = p.table;
      used = p.used;
      paid = p.paid;
      next = c.before.before.before.after_in-next.ensures;
      effect =
          h.before.effect_at-effect.ensures
          ∙ effect-two a.letters.now a.near.now a.state.counts.used xs i2.before.if-rule-ne2.false i2.if-rule-lt-TERMINALS.false a.state.place.left a.state.place.right
          ∙ ap (λ (e : ℕ). after_left a.near.now a.state.counts.used e a.state.place.right) (sym c.effect_of-left.ensures);
      hints = h.try_hints-hinted.ensures;
    }

returns-4 : tie.Need-returns
returns-4 c =
    let l = c.before in
    let i2 = l.before.before.before.before in
    let s = i2.before.before.before.before.before.before.before.before.before.before in
    let a = s.args in
    let xs : List ℕ = get_or a.rules.now a.state.place.rule [] in
    tries-past a.letters.now a.rules.now a.table.now a.near.now a.state i2.before.if-rule-ne2.false i2.if-rule-lt-TERMINALS.false
    (subst (λ (e : ℕ). PassedFrom a.table.now a.near.now (get_or xs 0 0) e a.state c.over_known.result) l.effect_of-left.ensures c.over_known.ensures)

pub glance_spec : {M : Type 1} → statement M
glance_spec =
    tie.close
    (tie.spec
    (λ c. search rules)
    (λ c. search rules)
    effect-at-requires
    (λ c. search rules)
    try-hints-requires
    (λ c. search rules)
    returns
    (λ c. search rules)
    returns-2
    after-in-requires
    may-pass-requires
    returns-3
    (λ c. search rules)
    effect-of-requires
    (λ c. search rules)
    over-known-requires
    returns-4)

-- No effect before place `i` is contained in `effect`. Assumes nothing.
use Rattle.std.proofs.Common.{◌≡◌, ℕ, ◌<◌, false}
use Rattle.relation.specs.Relation.{contained}
use Rattle.relation.specs.Representation.{value}
use Rattle.search_cover.specs.Near.{effect_at}
use Rattle.search_cover.proofs.first_below.Given as goal

abbrev pub invariant-loop-i : goal.invariant-loop-i
invariant-loop-i l = (k : ℕ) → k < l.i → contained (effect_at l.near k) (value l.effect) ≡ false

-- The lower of the two rows. Assumes nothing.
use Rattle.std.proofs.Common.{◌≡◌, ℕ, Bool, true, false, min, cond, ltb, refl, ◌∙◌, arith, ltb-true, ltb-false}
use Rattle.call_write_fit.specs.ByValue.{lower_of}
use Rattle.call_write_fit.proofs.lower.Goals as goal

min-lower : (p i : ℕ) → min i p ≡ lower_of p i
unfolding lower_of
min-lower p i = by (ltb p i) refl
  where
    by : (b : Bool) → ltb p i ≡ b → min i p ≡ cond b p i
    by true e = let h = ltb-true p i e in omega arith
    by false e = let h = ltb-false p i e in omega arith

pub returns : goal.returns
returns c = c.min.ensures ∙ min-lower c.args.pointer c.args.i

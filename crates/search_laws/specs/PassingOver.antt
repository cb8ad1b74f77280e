-- Passing over candidates that the pass before formed: the invariant of the pass holds at the place where it ends. Assumes nothing.
use Rattle.std.proofs.Common.{sym, subst}
use Rattle.std.specs.Prelude.{List, ℕ, length}
use Rattle.spec_order.specs.Algebra.{Laws}
use Rattle.search_state.specs.declared.Counts.{Counts}
use Rattle.search_state.specs.declared.Terms.{Terms}
use Rattle.search_laws.specs.Passing.{InPass, pass-over}
use Rattle.search_laws.specs.Problems.{Problem, algebra_of}
use Rattle.search_laws.specs.StepLaws.{moves-keep, passes-here, passes-paid, passes-again}
use Rattle.search_laws.specs.Steps.{OverStep, PassesOver}
use Rattle.search_laws.specs.declared.Reached.{Reached}

pub over-stands : {E R : Type 0} {b : Terms} {P : Problem E R} {first : Counts} {j₁ : List R} {t : List ℕ} {j : List R} {x r : Reached} → Laws (algebra_of P) → PassesOver P.rules t b x r
    → InPass b P first j₁ t x.counts j x.place → InPass b P first j₁ t r.counts j r.place
over-stands {E} {R} {b} {P} {first} {j₁} {t} {j} L v = moves-keep (λ (z : Reached). InPass b P first j₁ t z.counts j z.place) step v
  where
    step : (y z : Reached) → OverStep P.rules t b y z → InPass b P first j₁ t y.counts j y.place → InPass b P first j₁ t z.counts j z.place
    step y z o g =
        let n = length P.rules in
        subst (λ (w : Counts). InPass b P first j₁ t w j z.place) (sym o.counts)
        (pass-over g L (passes-here b n y o.passes) (passes-paid b n y o.passes) (passes-again b n y o.passes) o.next)

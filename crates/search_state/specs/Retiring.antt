-- A row that a candidate outgrows retires, and another stays as it is. Assumes nothing.
use Rattle.std.specs.Prelude.{◌≡◌, Bool, ◌&&◌, cond, ℕ, ◌<◌}
use Rattle.std.proofs.Math.Path.{refl, ap}
use Rattle.std.proofs.Common.{◌∙◌, arith, ne_eqb}
use Rattle.std.proofs.Math.Bool.{true, false}
use Rattle.std.proofs.Math.Dec.{eqb}
use Rattle.spec_order.specs.Candidates.{Candidate}
use Rattle.spec_order.specs.Journal.{Row, live, live_of}
use Rattle.spec_order.specs.Order.{larger, retire}
use Rattle.search_state.specs.Comparing.{retired_in}

module _ {E : Type 0} (below : E → E → Bool) (k : ℕ) (c : Candidate E) (r : Row E) where
  pub retire-yes : larger below c r ≡ true → retire below k c r ≡ retired_in k r
  unfolding retire
  retire-yes e = ap (λ (b : Bool). retired_in (cond b k r.retired) r) e

  pub retire-no : larger below c r ≡ false → retire below k c r ≡ r
  unfolding retire
  retire-no e = ap (λ (b : Bool). retired_in (cond b k r.retired) r) e

  -- a row that retired in a pass is live no more
  pub retire-gone : 0 < k → larger below c r ≡ true → (x : ℕ) → live_of x (retire below k c r) ≡ false
  unfolding live_of live
  retire-gone h e x =
      ap (live_of x) (retire-yes e) ∙ ap (λ (b : Bool). eqb r.head x && b) (ne_eqb k 0 (λ z. omega (arith, h, z))) ∙ right (eqb r.head x)
    where
      right : (b : Bool) → (b && false) ≡ false
      right true = refl
      right false = refl

-- What depends on whether the verdict is broken. Assumes nothing.
use Rattle.std.specs.Prelude.{◌≡◌, refl}
use Rattle.spec_order.specs.Order.{Verdict, holds, broken, full, spent, empty}
use Rattle.host_check.specs.Details.{if_broken}

module _ {A : Type 0} where
  -- the other thing, where it is not
  pub if-not-broken : (v : Verdict) (x y : A) → (v ≡ broken → ⊥) → if_broken v x y ≡ y
  if-not-broken holds x y n = refl
  if-not-broken broken x y n = absurd (n refl)
  if-not-broken full x y n = refl
  if-not-broken spent x y n = refl
  if-not-broken empty x y n = refl

  -- two things that are the same where it is
  pub if-broken-same : (v : Verdict) (x z y : A) → (v ≡ broken → x ≡ z) → if_broken v x y ≡ if_broken v z y
  if-broken-same holds x z y e = refl
  if-broken-same broken x z y e = e refl
  if-broken-same full x z y e = refl
  if-broken-same spent x z y e = refl
  if-broken-same empty x z y e = refl

-- The token of a lifetime that is made for a loan. A definition only. Assumes nothing.
use mathlib.Core.List.{[], ◌∷◌}
use Prim.Native.Nat.{ℕ}
use seplogic.Ra.Ura.{Ura}
use base.Fraction.{full_share}
use base.Fml.{flft}
use types.Kit.{Item, ‵}

-- all of the lifetime ν
abbrev pub tok : {M : Type 1} {𝓤 : Ura M} → ℕ → Item 𝓤
tok ν = ‵ (flft (ν ∷ []) full_share)

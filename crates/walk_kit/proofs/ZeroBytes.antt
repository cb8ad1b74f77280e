-- An array of n bytes in a walk, and the one of zeros. The definition assumes nothing; the laws of a model assume `Logic`.
use mathlib.Core.Path.{refl}
use mathlib.Core.List.{[], ◌∷◌}
use Prim.Native.Nat.{ℕ}
use lib.Dec.{T, lit<}
use lib.ListN.{replicate}
use seplogic.Ra.Ura.{Ura}
use mir.Syntax.{ty_array, ty_int, w8}
use mir.Val.{Val, vint, has_ty, WT}
use types.Logic.{Logic}
use denote.Array.{Array, array_val, Array-Lawful, Array-Makes}
use denote.Builtin.{u8}
use denote.Laws.{Is, Lawful, Makes}
use denote.Plain.{uint_Lawful, uint_Makes}
use Rattle.walk_kit.proofs.LocalArrays.{repeat-is, repeat-typed}

module _ (n : ℕ) where
  abbrev pub zeros : Val
  zeros = array_val (replicate n (vint w8 0))

  pub zeros-is : Is (Array u8 n) (replicate n 0) (zeros ∷ [])
  zeros-is = repeat-is u8 0 (vint w8 0) (refl, lit< tt) n

  module _ {M : Type 1} {𝓤 : Ura M} (𝓛 : Logic 𝓤) where
    pub bytes-lawful : Lawful 𝓛 (Array u8 n)
    bytes-lawful = Array-Lawful 𝓛 u8 (uint_Lawful 𝓛 w8) n

    pub bytes-makes : Makes 𝓛 (Array u8 n) (Is (Array u8 n))
    bytes-makes = Array-Makes 𝓛 u8 (uint_Makes 𝓛 w8) n

    pub zeros-typed : T (has_ty (ty_array (ty_int w8) n) zeros) × WT zeros
    zeros-typed = repeat-typed 𝓛 u8 (uint_Lawful 𝓛 w8) 0 (vint w8 0) (refl, lit< tt) n

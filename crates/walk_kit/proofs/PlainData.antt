-- A declared type of plain data in a walk: `Data` has its laws, and what a walk cites of a value of it is here.
--     Means            the value is of its type, at its machine value.        typed, makes     so the machine value may be stored, and what the value owns is had for nothing
--     copied, sharable, row-laws       so a slice of it is read (`Elements.antt`), lent as a `&[T]` (`LendingAgain.antt`, `LocalArrays.antt`), and its reference copied (`Sharing.antt`)
--     Value            a value that is passed to a callee: `value` of a declared type, a `number`, a `flag`
-- Definitions assume nothing; the laws of a model assume `Logic`.
use mathlib.Core.Path.{refl, subst}
use mathlib.Core.Bool.{Bool}
use mathlib.Core.List.{List, [], ◌∷◌}
use Prim.Native.Nat.{ℕ, ◌<◌, ◌^◌}
use lib.Dec.{T}
use seplogic.Ra.Ura.{Ura}
use base.Fraction.{full_share}
use mir.Syntax.{Ty, Width}
use mir.Val.{Val, vbool, vint, bits, has_ty, WT}
use base.Logic.{ent, sep, emp, via, id⊢, emp∗, mono∗}
use types.Logic.{Logic, sem}
use denote.Copied.{Copied}
use denote.Shares.{Shares}
use denote.RattleType.{RattleType, RowLaws, Denots, Valss, owns}
use denote.Plain.{UInt, Boolean, uint_Makes, bool_Makes}
use denote.Laws.{Is, Tells, Typed, Makes, Copy as CopyOf}
use denote.Struct.Declared.{Declared, row, fields}
use denote.Struct.Laws as LL
use borrow.Table.Copies.{parts_laws}
use denote.Struct.Struct.{Plains}

pub record Data : Type 2 where
  pub type : Declared
  pub laws : LL.Laws type
  pub plain : Plains (fields type)
  pub copy : LL.Copyables type.parts
  pub low : LL.Lowered type

module _ (D : Data) where
  abbrev pub Row : RattleType
  Row = row D.type

  abbrev pub val : Row.Denot → Val
  val = D.low.lowered

  abbrev pub Means : Row.Denot → Type 0
  Means x = Is Row x (val x ∷ [])

  pub tells : Tells Row (Is Row) (λ x. val x ∷ [])
  tells = D.low.val_is

  pub row-laws : RowLaws Row
  row-laws = parts_laws D.type (LL.copy_row_laws D.type.parts D.copy)

  module _ {M : Type 1} {𝓤 : Ura M} (𝓛 : Logic 𝓤) where
    pub makes : Makes 𝓛 Row (Is Row)
    makes = LL.makes D.type D.plain 𝓛

    module _ where
      pub copies : CopyOf 𝓛 Row
      copies = LL.copy D.type D.copy 𝓛

      pub copied : Copied 𝓛 Row
      copied = LL.copied D.type D.copy 𝓛

      pub sharable : Shares 𝓛 Row []
      sharable = copied.shares full_share []

      pub typed : (x : Row.Denot) → Means x → T (has_ty D.low.mir (val x)) × WT (val x)
      typed x is = (subst (λ (τs : List Ty). Typed τs (val x ∷ [])) D.low.layout_is ((LL.lawful D.type D.laws 𝓛).typed x (val x ∷ []) is)).0

-- ---- values that are passed: plain data, which own nothing
pub record Value : Type 2 where
  pub type : RattleType
  pub it : type.Denot
  pub machine : Val
  -- what it owns is had for nothing
  pub free : {M : Type 1} {𝓤 : Ura M} (𝓛 : Logic 𝓤) → ent 𝓤 (emp 𝓤) (sem 𝓛 (type.own_val it (machine ∷ [])))

-- a value of a declared type
abbrev pub value : (D : Data) (x : (Row D).Denot) → Means D x → Value
value D x is = record { type = Row D; it = x; machine = val D x; free = λ 𝓛. makes D 𝓛 x (val D x ∷ []) is }

-- a number of this width
abbrev pub number : (w : Width) (n : ℕ) → n < 2 ^ bits w → Value
number w n fits = record { type = UInt w; it = n; machine = vint w n; free = λ 𝓛. uint_Makes 𝓛 w n (vint w n ∷ []) (refl, fits) }

abbrev pub flag : Bool → Value
flag b = record { type = Boolean; it = b; machine = vbool b; free = λ 𝓛. bool_Makes 𝓛 b (vbool b ∷ []) refl }

abbrev pub types_of : List Value → List RattleType
types_of [] = []
types_of (v ∷ vs) = v.type ∷ types_of vs

abbrev pub values_of : (vs : List Value) → Denots (types_of vs)
values_of [] = tt
values_of (v ∷ vs) = (v.it, values_of vs)

abbrev pub machine-of : (vs : List Value) → Valss (types_of vs)
machine-of [] = tt
machine-of (v ∷ vs) = (v.machine ∷ [], machine-of vs)

pub values-owned : {M : Type 1} {𝓤 : Ura M} (𝓛 : Logic 𝓤) → (vs : List Value) → ent 𝓤 (emp 𝓤) (sem 𝓛 (owns (types_of vs) (values_of vs) (machine-of vs)))
values-owned {𝓤 = 𝓤} 𝓛 [] = id⊢ 𝓤 (emp 𝓤)
values-owned {𝓤 = 𝓤} 𝓛 (v ∷ vs) = via 𝓤 (sep 𝓤 (emp 𝓤) (emp 𝓤)) (emp∗ 𝓤 (emp 𝓤)) (mono∗ 𝓤 (v.free 𝓛) (values-owned 𝓛 vs))

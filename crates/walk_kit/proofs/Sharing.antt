-- A `&κ [T]` that a walk holds and hands to callees, as one entry of the context: the reference and the token of its lifetime. A callee gets a
-- copy of the reference, and the token until it returns.
--     loan-of-shared   a parameter's, as a `Loan`
--     shown            the reference, where the list is xs. It has no name: of a `Loan` it is the place alone
--     Sees, Shared     what it owns, and that with its lifetime's token
--     copies           a copy of the reference. What a `&` to an element holds can be had twice (`RowLaws`)
-- Definitions assume nothing; the step assumes `Logic`.
use mathlib.Core.List.{List, [], ◌∷◌}
use seplogic.Ra.Ura.{Ura}
use mir.Syntax.{named}
use base.Fml.{Lft, Share, Fml, fsep, flft}
use types.Logic.{Logic}
use types.Kit.{Goal, Item, Step, step, ‵, ◌⊛◌, ◌$◌, move, use1, split, fsplit, fjoin}
use denote.Bor.{Bor}
use denote.RattleType.{RattleType, RowLaws}
use denote.Slice.{ShrSlice, shr_slice_vals, shr_slice_copy}
use Rattle.walk_kit.proofs.Loans.{Loan}

-- of a parameter. A `&[T]` has no name, so any will do
abbrev pub loan-of-shared : {X : Type 0} → Lft → Share → Bor X → Loan
loan-of-shared κ q x = record { lifetime = κ; share = q; label = 0; block = x.ref_ptr.0; start = x.ref_ptr.1 }

abbrev pub shown : (R : RattleType) → Loan → List R.Denot → Bor (List R.Denot)
shown R L xs = record { ref_ptr = (L.block, L.start); now = xs }

-- the reference by itself
abbrev pub Sees : (R : RattleType) → Loan → List R.Denot → Fml
Sees R L xs = (ShrSlice (named 0) L.lifetime R).own_val (shown R L xs) (shr_slice_vals (shown R L xs))

abbrev pub Shared : (R : RattleType) → Loan → List R.Denot → Fml
Shared R L xs = fsep (Sees R L xs) (flft L.lifetime L.share)

-- what a callee is handed, beside the reference that is kept
pub copies : {M : Type 1} {𝓤 : Ura M} {𝓛 : Logic 𝓤} {K : Type 0} {Γ : List (Item 𝓤)} {G : Goal 𝓤 𝓛.H} → K → (R : RattleType) → RowLaws R → (L : Loan) (xs : List R.Denot)
    → Step K 𝓛 (‵ (Shared R L xs) ∷ ‵ (Sees R L xs) ∷ Γ) G (‵ (Shared R L xs) ∷ Γ) G
copies {𝓤 = 𝓤} {𝓛 = 𝓛} t R laws L xs = step (λ s.
    fsplit t $ use1 𝓛 (‵ (Sees R L xs) ⊛ ‵ (Sees R L xs)) ((shr_slice_copy 𝓛 (named 0) L.lifetime R laws).twice (shown R L xs) (shr_slice_vals (shown R L xs))) $ split t $ move t (0 ∷ 2 ∷ []) $ fjoin t $ s)

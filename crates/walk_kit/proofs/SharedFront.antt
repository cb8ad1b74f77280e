-- The first elements of a `&κ [T]` that a walk holds, as a `&κ [T]` of the same lifetime: `&s[..m]`. Nothing is to come back but the token.
--     front_of         the reference to the first m elements
--     sees-front       from [[κ]_q; own (the slice); Γ] to [[κ]_q; own (its first m elements); Γ]
-- Assumes `Logic`.
use mathlib.Core.Path.{sym, ap}
use mathlib.Core.List.{List, [], ◌∷◌}
use Prim.Native.Nat.{ℕ, ◌≤◌}
use lib.ListN.{length, take}
use lib.Seq.{length-take-le}
use seplogic.Ra.Ura.{Ura}
use mir.Syntax.{Lifetime}
use mir.Val.{Val}
use base.Fml.{Lft, Share, flft}
use types.Logic.{Logic}
use types.Kit.{Goal, Soaks, Item, Step, step, ‵, ◌⊛◌, later, ◌$◌, move, use2, split, fsplit, fjoin, feq_l, feq_i, await}
use denote.RattleType.{RattleType}
use denote.Bor.{Bor}
use denote.Slice.{slice_val, shr_slice_vals, ShrSlice}
use borrow.Rule.Slice.Prefix.{shs_prefix_same}
use borrow.Table.Owned as Bare

abbrev pub front_of : {X : Type 0} → Bor (List X) → ℕ → Bor (List X)
front_of s m = record { ref_ptr = s.ref_ptr; now = take m s.now }

pub sees-front : {M : Type 1} {𝓤 : Ura M} {𝓛 : Logic 𝓤} {K : Type 0} {Γ : List (Item 𝓤)} {G : Goal 𝓤 𝓛.H} → K → Soaks G → (R : RattleType) (ℓ : Lifetime) (κ : Lft) (q : Share) (s : Bor (List R.Denot)) (m : ℕ) → m ≤ length s.now
    → Step K 𝓛 (‵ (flft κ q) ∷ ‵ ((ShrSlice ℓ κ R).own_val (front_of s m) (slice_val s.ref_ptr m ∷ [])) ∷ Γ) G (‵ (flft κ q) ∷ ‵ ((ShrSlice ℓ κ R).own_val s (shr_slice_vals s)) ∷ Γ) G
sees-front {𝓤 = 𝓤} {𝓛 = 𝓛} t z R ℓ κ q s m le = step (λ k.
    move t (1 ∷ []) $ fsplit t $ fsplit t $ feq_l t (λ _. fjoin t $
    use2 𝓛 (later (‵ ((Bare.ShrSlice ℓ κ R).own_val (front_of s m)) ⊛ ‵ (flft κ q))) (shs_prefix_same 𝓛 R κ q s.ref_ptr.0 s.ref_ptr.1 s.now m) $ await t z $ split t $
    fsplit t $ feq_i t (List Val) (slice_val s.ref_ptr m ∷ []) (shr_slice_vals (front_of s m)) (ap (λ (n : ℕ). slice_val s.ref_ptr n ∷ []) (sym (length-take-le m s.now le))) $ fjoin t $ fjoin t $ move t (1 ∷ []) $ k))

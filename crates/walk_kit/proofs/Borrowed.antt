-- A parameter `&κ mut T` in a walk, where T has one machine value: the walk takes out the value that it points to, and gives back another.
--     borrows          opens the reference and the token
--     hands-back       closes them at the value h
-- Assumes `Logic`.
use mathlib.Core.Path.{refl}
use mathlib.Core.List.{List, [], ◌∷◌}
use seplogic.Ra.Ura.{Ura}
use base.Fraction.{full_share}
use mir.Syntax.{named}
use mir.Val.{Val}
use base.Stored.{Gv}
use base.Fml.{Lft, Share, flft, fobs, fauth, fobor}
use types.Logic.{Logic}
use types.Kit.{Goal, Soaks, Item, Seq, Step, step, ‵, ◌$◌, move, drop, fsplit3, fjoin3, feq_i}
use types.SemTy.{Body}
use denote.RattleType.{RattleType}
use denote.Laws.{Is, Tells, shows}
use denote.Memory.{cell_at, mem}
use denote.Ref.{MutBor, MutRef, mut_vals, at_last}
use denote.Steps.{opens, closes, peeks}
use denote.Struct.Steps.{spelt}

module _ {M : Type 1} {𝓤 : Ura M} {𝓛 : Logic 𝓤} {K : Type 0} {Γ : List (Item 𝓤)} {G : Goal 𝓤 𝓛.H} (R : RattleType) (val : R.Denot → Val) (x : MutBor R.Denot) (κ : Lft) (q : Share) where
  pub borrows : K → Soaks G → Tells R (Is R) (λ h. val h ∷ []) → (Is R x.now (val x.now ∷ [])
      → Seq K 𝓛 (‵ (cell_at full_share R.mir (val x.now ∷ []) x.ref_ptr.0 x.ref_ptr.1) ∷ ‵ (R.own_val x.now (val x.now ∷ [])) ∷ ‵ (fobor κ q (Body (mem R) x.ref_ptr.0 x.ref_ptr.1 x.ghost_name)) ∷ ‵ (fobs x.ghost_name (R.coded.code x.now)) ∷ ‵ (fauth x.ghost_name (R.coded.code x.now)) ∷ Γ) G)
      → Seq K 𝓛 (‵ (flft κ q) ∷ ‵ ((MutRef (named 0) κ R).own_val x (mut_vals x)) ∷ Γ) G
  borrows t z tells k =
      move t (1 ∷ []) $ fsplit3 t $ drop t $ opens t z R {h = x.now} x.ref_ptr.0 x.ref_ptr.1 (λ vs. spelt t R (Is R) (shows 𝓛 R) (λ h. val h ∷ []) tells full_share x.now vs x.ref_ptr.0 x.ref_ptr.1 $
      move t (1 ∷ []) $ peeks t R (Is R) (shows 𝓛 R) x.now (val x.now ∷ []) (λ was. move t (1 ∷ 0 ∷ []) $ k was))

  pub hands-back : K → Soaks G → (h : R.Denot) {u v : Gv}
      → Step K 𝓛 (‵ ((MutRef (named 0) κ R).own_val (at_last x h) (mut_vals x)) ∷ ‵ (flft κ q) ∷ Γ) G
      (‵ (cell_at full_share R.mir (val h ∷ []) x.ref_ptr.0 x.ref_ptr.1) ∷ ‵ (R.own_val h (val h ∷ [])) ∷ ‵ (fobor κ q (Body (mem R) x.ref_ptr.0 x.ref_ptr.1 x.ghost_name)) ∷ ‵ (fobs x.ghost_name u) ∷ ‵ (fauth x.ghost_name v) ∷ Γ) G
  hands-back t z h = step (λ s. closes t z R h (val h ∷ []) x.ref_ptr.0 x.ref_ptr.1 $ feq_i t (List Val) (mut_vals x) (mut_vals x) refl $ fjoin3 t $ s)

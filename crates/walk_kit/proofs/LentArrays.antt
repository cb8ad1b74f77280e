-- A parameter `&κ mut [T; n]` in a walk, which lends its elements on as a `&mut [T]`, as often as it likes.
--     behind           the parameter (`Parameters.antt`), which is owned at exit
--     given-away       the parameter, which a callee was given for good
--     Behind           what the walk holds of it while it is open: the elements, its own borrow, and both halves of its name
--     BehindLent       the same while the elements are lent for ν under the name δ
--     array-opens, array-closes      from the reference and its token, and back, at the list that the elements are then
--     lends-behind, behind-back      the head of the context is lent as a `&mut [T]`, and comes back at the list that the callee left
-- Definitions assume nothing; the steps assume `Logic`.
use mathlib.Core.Path.{◌≡◌, refl, sym, subst}
use mathlib.Core.List.{List, [], ◌∷◌}
use Prim.Native.Nat.{ℕ}
use lib.ListN.{length}
use seplogic.Ra.Ura.{Ura}
use base.Fraction.{full_share}
use mir.Syntax.{named}
use mir.Val.{Val}
use base.Fml.{Lft, GName, Share, Fml, fsep, fobs, fauth, fobor, flent, flft}
use types.Logic.{Logic}
use contract.Lifetimes.{lft_at}
use types.Kit.{Goal, Soaks, Item, Seq, Step, step, ‵, ◌⊛◌, some, later, ◌$◌, move, drop, use1, use3, split, pick, rewrite, fsplit, fjoin, fjoin3, feq_l, feq_i, await}
use types.Mut.{open_ref, close_ref}
use types.SemTy.{cells, Arr, Body}
use types.Share.{arr_parts}
use types.Tokens.{lft_new, lft_end}
use denote.Array.{Array}
use denote.ArrayMemory.{Single, Array-apart, Array-whole}
use denote.Exit.{yes}
use denote.Index.{row, whole_in, whole_out}
use denote.Lend.{Held, lends_slice, slice_back}
use denote.Memory.{mem, shares}
use denote.RattleType.{RattleType}
use denote.Ref.{MutBor, MutRef, mut_vals, at_last, mut_Tells, mut_Lawful}
use denote.Signature.{Slot, AllWithin, mut_ref_to}
use denote.Slice.{slice_val, MutSlice, Room, finally}
use denote.Triple.Walked.{stay_ref, gave_ref, Goes-ref, Goes-gave_ref}
use Rattle.walk_kit.proofs.Parameters.{Param}
use Rattle.walk_kit.proofs.Tokens.{tok}

-- ---- the parameter
module _ {n : ℕ} (j : ℕ) (ok : AllWithin n (j ∷ [])) (s : Slot n) where
  abbrev pub behind : Param n
  behind = record {
    slot = mut_ref_to (j ∷ []) ok s;
    kept = yes;
    stay = stay_ref (j ∷ []) ok s;
    goes = λ 𝓛. Goes-ref 𝓛 n j ok s;
    vals = λ κs. mut_vals;
    tells = λ κs. mut_Tells (named j) (lft_at n j ok κs) (s.row κs);
    lawful = λ 𝓛 κs. mut_Lawful 𝓛 (named j) (lft_at n j ok κs) (s.row κs);
  }

  abbrev pub given-away : Param n
  given-away = record {
    slot = mut_ref_to (j ∷ []) ok s;
    kept = yes;
    stay = gave_ref (j ∷ []) ok s;
    goes = λ 𝓛. Goes-gave_ref 𝓛 n j ok s;
    vals = λ κs. mut_vals;
    tells = λ κs. mut_Tells (named j) (lft_at n j ok κs) (s.row κs);
    lawful = λ 𝓛 κs. mut_Lawful 𝓛 (named j) (lft_at n j ok κs) (s.row κs);
  }

-- ---- what is held
module _ (R : RattleType) (n : ℕ) (κ : Lft) (q : Share) (x : MutBor (List R.Denot)) where
  abbrev b : ℕ
  b = x.ref_ptr.0

  abbrev o : ℕ
  o = x.ref_ptr.1

  abbrev Own : Fml
  Own = fsep (fobor κ q (Body (mem (Array R n)) b o x.ghost_name)) (fsep (fobs x.ghost_name ((Array R n).coded.code x.now)) (fauth x.ghost_name ((Array R n).coded.code x.now)))

  unfoldable pub Behind : List R.Denot → Fml
  Behind xs = fsep (row R full_share xs b o) Own

  unfoldable pub BehindLent : ℕ → GName → Fml
  BehindLent ν δ = fsep (flent (ν ∷ []) (Held R n b o δ)) Own

  -- the slice that the callee is lent
  abbrev pub slice_of : GName → List R.Denot → MutBor (List R.Denot)
  slice_of δ xs = record { ref_ptr = x.ref_ptr; ghost_name = δ; now = xs }

  module _ {M : Type 1} {𝓤 : Ura M} {𝓛 : Logic 𝓤} {K : Type 0} {Γ : List (Item 𝓤)} {G : Goal 𝓤 𝓛.H} where
    pub array-opens : K → Soaks G → Single R.mir → (length x.now ≡ n → Seq K 𝓛 (‵ (Behind x.now) ∷ Γ) G) → Seq K 𝓛 (‵ (flft κ q) ∷ ‵ ((MutRef (named 0) κ (Array R n)).own_val x (mut_vals x)) ∷ Γ) G
    unfolding Behind
    array-opens t z s k =
        move t (1 ∷ []) $ fsplit t $ drop t $ fsplit t $ open_ref t z (mem (Array R n)) {b = b} {o = o} $
        use1 𝓛 (‵ ((arr_parts (shares R) n).part full_share x.now b o)) (Array-apart 𝓛 R full_share s n x.now b o) $ fsplit t $ feq_l t (λ l.
        move t (2 ∷ 3 ∷ []) $ fjoin t $ move t (2 ∷ 0 ∷ []) $ fjoin t $ move t (1 ∷ 0 ∷ []) $ fjoin t $ k l)

    pub array-closes : K → Soaks G → (zs : List R.Denot) → length zs ≡ n → Step K 𝓛 (‵ ((MutRef (named 0) κ (Array R n)).own_val (at_last x zs) (mut_vals x)) ∷ ‵ (flft κ q) ∷ Γ) G (‵ (Behind zs) ∷ Γ) G
    unfolding Behind
    array-closes t z zs e = step (λ s.
        fsplit t $ feq_i t ℕ (length zs) n e $ fjoin t $ use1 𝓛 (‵ ((mem (Array R n)).own_at zs b o)) (Array-whole 𝓛 R full_share n zs b o) $
        move t (1 ∷ []) $ fsplit t $ move t (1 ∷ []) $ fsplit t $ move t (3 ∷ 2 ∷ 0 ∷ 1 ∷ []) $ close_ref t z (mem (Array R n)) zs {b = b} {o = o} $ feq_i t (List Val) (mut_vals x) (mut_vals x) refl $ fjoin3 t $ s)

    pub lends-behind : K → Soaks G → (xs : List R.Denot) → length xs ≡ n → Room R n
        → ((ν : ℕ) (δ : GName) → Seq K 𝓛 (‵ (BehindLent ν δ) ∷ tok ν ∷ ‵ ((MutSlice (named 0) (ν ∷ []) R).own_val (slice_of δ xs) (slice_val x.ref_ptr n ∷ [])) ∷ Γ) G) → Seq K 𝓛 (‵ (Behind xs) ∷ Γ) G
    unfolding Behind BehindLent
    lends-behind t z xs e room k =
        fsplit t $ use1 𝓛 (‵ (cells (mem R) xs b o)) (whole_in 𝓛 R xs b o) $ lft_new t z (λ ν. move t (1 ∷ []) $
        use1 𝓛 (later (some (λ (δ : GName). ‵ ((MutSlice (named 0) (ν ∷ []) R).own_val (slice_of δ xs) (slice_val x.ref_ptr (length xs) ∷ [])) ⊛ ‵ (flent (ν ∷ []) (Held R (length xs) b o δ)))))
        (lends_slice 𝓛 R (named 0) (ν ∷ []) xs b o (subst (Room R) (sym e) room)) $ await t z $ pick t (λ δ. split t $
        rewrite t 0 (λ (m : ℕ). ‵ ((MutSlice (named 0) (ν ∷ []) R).own_val (slice_of δ xs) (slice_val x.ref_ptr m ∷ []))) e refl $ rewrite t 1 (λ (m : ℕ). ‵ (flent (ν ∷ []) (Held R m b o δ))) e refl $
        -- [the slice; the lender's part; the token; the rest]
        move t (1 ∷ 3 ∷ []) $ fjoin t $ move t (0 ∷ 2 ∷ []) $ k ν δ))

    pub behind-back : K → Soaks G → (ν : ℕ) (δ : GName) (zs : List R.Denot) → (length zs ≡ n → Seq K 𝓛 (‵ (Behind zs) ∷ Γ) G) → Seq K 𝓛 (‵ (BehindLent ν δ) ∷ tok ν ∷ ‵ (finally R δ zs) ∷ Γ) G
    unfolding Behind BehindLent
    behind-back t z ν δ zs k =
        move t (1 ∷ []) $ lft_end t z $ move t (1 ∷ []) $ fsplit t $ move t (2 ∷ 0 ∷ 3 ∷ []) $
        use3 𝓛 (later (‵ ((Arr (mem R) n).own_at zs b o))) (slice_back 𝓛 R (ν ∷ []) δ zs n b o) $ await t z $ fsplit t $ feq_l t (λ l.
        use1 𝓛 (‵ (row R full_share zs b o)) (whole_out 𝓛 R zs b o) $ fjoin t $ k l)

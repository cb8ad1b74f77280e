-- A `&κ mut [T]` that a walk holds and uses again, as one entry of the context: the reference and the token of its lifetime.
--     Loan             where it points, its name, its lifetime and the share of the token
--     Lent R L ys      what the walk holds, where the list is ys
--     offset-fits      where the slice has room, so has the offset of an element
--     takes, gives     a parameter's reference and token, out of all that there is at entry, and into what a callee asks and what there is at
--                      exit
-- Definitions assume nothing; the steps assume `Logic`.
use mathlib.Core.Path.{◌≡◌, refl}
use mathlib.Core.List.{List, [], ◌∷◌}
use Prim.Native.Nat.{ℕ, suc, ◌<◌, ◌*◌, ◌^◌}
use native.Mathlib.Nat.{le_of_lt, lt_of_le_of_lt, mul-le-mul_right}
use native.Mathlib.Omega.{arith}
use lib.ListN.{length}
use seplogic.Ra.Ura.{Ura}
use mir.Syntax.{named}
use base.Logic.{id⊢}
use base.Fml.{Lft, GName, Share, Fml, fsep, flft}
use types.Logic.{Logic}
use contract.Lifetimes.{Lfts, Shares, toks}
use types.Kit.{Goal, Item, Step, step, ‵, raw, ◌⊛◌, ◌$◌, move, rewrite, use1, split, join, fsplit, fjoin}
use denote.RattleType.{RattleType}
use denote.Ref.{MutBor}
use denote.Memory.{mem}
use denote.Slice.{slice_val, MutSlice, Room, mut_slice_vals}

pub record Loan : Type 0 where
  pub lifetime : Lft
  pub share : Share
  pub label : GName
  pub block : ℕ
  pub start : ℕ

-- of a parameter
abbrev pub loan-of : {X : Type 0} → Lft → Share → MutBor X → Loan
loan-of κ q x = record { lifetime = κ; share = q; label = x.ghost_name; block = x.ref_ptr.0; start = x.ref_ptr.1 }

-- the reference, where the list is ys
abbrev pub ref : (R : RattleType) → Loan → List R.Denot → MutBor (List R.Denot)
ref R L ys = record { ref_ptr = (L.block, L.start); ghost_name = L.label; now = ys }

abbrev pub Lent : (R : RattleType) → Loan → List R.Denot → Fml
Lent R L ys = fsep ((MutSlice (named 0) L.lifetime R).own_val (ref R L ys) (mut_slice_vals (ref R L ys))) (flft L.lifetime L.share)

-- the offset of an element, in bytes, fits a word
pub offset-fits : (R : RattleType) {n i : ℕ} → Room R n → i < n → i * (mem R).size < 2 ^ 64
offset-fits R room l = let m = lt_of_le_of_lt (mul-le-mul_right (mem R).size (le_of_lt l)) room.1 in omega (arith, m)

module _ {M : Type 1} {𝓤 : Ura M} {𝓛 : Logic 𝓤} {K : Type 0} {Γ : List (Item 𝓤)} {G : Goal 𝓤 𝓛.H} where
  -- at the machine value that it was passed at
  pub as_passed : K → (R : RattleType) (L : Loan) (ys : List R.Denot) {n : ℕ} → length ys ≡ n
      → Step K 𝓛 (‵ (fsep ((MutSlice (named 0) L.lifetime R).own_val (ref R L ys) (slice_val (L.block, L.start) n ∷ [])) (flft L.lifetime L.share)) ∷ Γ) G (‵ (Lent R L ys) ∷ Γ) G
  as_passed t R L ys e = rewrite t 0 (λ (m : ℕ). ‵ (fsep ((MutSlice (named 0) L.lifetime R).own_val (ref R L ys) (slice_val (L.block, L.start) m ∷ [])) (flft L.lifetime L.share))) e refl

  -- of all tokens and of all that the parameters own, those of the first parameter, with what is left of either before them
  pub takes : K → (n : ℕ) (κs : Lfts (suc n)) (qs : Shares (suc n)) {O P : Fml}
      → Step K 𝓛 (raw (toks 𝓛 n κs.1 qs.1) ∷ ‵ P ∷ ‵ (fsep O (flft κs.0 qs.0)) ∷ Γ) G (raw (toks 𝓛 (suc n) κs qs) ∷ ‵ (fsep O P) ∷ Γ) G
  takes t n κs qs = step (λ s. use1 𝓛 (‵ (flft κs.0 qs.0) ⊛ raw (toks 𝓛 n κs.1 qs.1)) (id⊢ 𝓤 _) $ split t $ move t (2 ∷ []) $ fsplit t $ move t (0 ∷ 2 ∷ []) $ fjoin t $ move t (2 ∷ 1 ∷ []) $ s)

  -- and the other way
  pub gives : K → {i : Item 𝓤} {O P : Fml} {κ : Lft} {q : Share} → Step K 𝓛 ((‵ (flft κ q) ⊛ i) ∷ ‵ (fsep O P) ∷ Γ) G (i ∷ ‵ P ∷ ‵ (fsep O (flft κ q)) ∷ Γ) G
  gives t = step (λ s. move t (2 ∷ []) $ fsplit t $ move t (0 ∷ 3 ∷ []) $ fjoin t $ move t (1 ∷ 2 ∷ []) $ join t $ s)

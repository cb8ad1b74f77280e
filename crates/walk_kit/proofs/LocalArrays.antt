-- A local array in a walk: it is made, lent or shared as a slice, whole or its first elements, comes back, is read by the element, and is let
-- go. Its entry is in the context where the local's cell was, so no position shifts.
--     lifts, lays      entry k comes to the head, with nothing left in its place, and the head goes to entry k
--     entry-as         entry k becomes what it entails
--     array_made       `a = [v; n]`: the local's cell becomes n elements in a row
--     row-of-cell      the same of any array's machine value
--     array-gone       the row becomes the room of the local, to be freed
--     lends-array, array_back        the row is lent as a `&mut [T]` for a lifetime that is made, and comes back at the list that the callee left
--     lends-front, front-back        the same of the first m elements, `&mut a[..m]`
--     shares_array, array-unshared, shares-front, front-unshared       the same as a `&[T]`
--     lends-whole, whole_back        all of it as a `&mut [T; n]`
--     big-lit          a big number of the source, as an operand
--     elem-loads       `d = *p`, where p is the address of element i
-- Assumes `Logic`.
use mathlib.Core.Path.{◌≡◌, refl, sym, ◌∙◌, ap, subst}
use Prim.Native.Nat.{ℕ, zero, suc, ◌+◌, ◌^◌, ◌<◌, ◌≤◌}
use native.Mathlib.Nat.{min-eq_left, not-suc-le-zero, le_of_suc-le-suc}
use mathlib.Core.List.{List, [], ◌∷◌, ◌++◌}
use lib.ListN.{length, get_or, replicate, length-replicate, take, drop as drop_first, length-take, take-append-drop}
use lib.Dec.{T}
use seplogic.Ra.Ura.{Ura}
use base.Fraction.{full_share}
use mir.Syntax.{Ty, ty_array, named, Width, int_big, Place, place as placed, Opd as Operand, Body, seq, assign, rv_opd, repeat}
use mir.Val.{Val, vint, bits, Fits, has_ty, WT, vptr}
use base.Logic.{SProp, ent, sep, wand, ex, emp, via, comm∗, assoc∗, mono_l, mono_r, snd∗, emp∗, wand_i, apply∗, ex_i, guard_i}
use base.Fml.{GName, Share, Fml, ftrue, fsep, fat, froom, flft, fdead, flent, fres}
use prog.Wp.{Env, Calls, Loops, spot_of}
use types.Logic.{Logic, sem}
use contract.BorrowLft.{⊑_refl, ⊑_static}
use types.Kit.{Item, ‵, raw, ◌⊛◌, some, given, later, mean, ⋆, nth, del, put, pull, unpull, fill, push, pop, Goal, Soaks, Post, runs, Seq, Step, step, cut, ◌$◌, ◌∵◌, !, qed, by, move, drop, use1, use2, use3, split, join, pick, learn, rewrite, fsplit, fjoin, fpick, fpack, feq_l, feq_i, frame, await, updating, now as at_once, assume, check, show, done}
use types.Part.{rep}
use types.Run.{Reads, Writes, Finds, Opd, of_opd, assigns}
use types.SemTy.{cells, Arr, Body as Behind}
use types.Share.{arr_parts}
use types.Tokens.{lft_new, lft_end, lent_back}
use denote.Array.{Array, array_val, each, Array-Lawful, Array-Makes}
use denote.ArrayMemory.{Single, Array-apart, Array-whole}
use denote.Index.{place, row, whole_in, whole_out, elem_out, elem_back}
use denote.Laws.{Is, Tells, Lawful, Makes, shows}
use denote.Lend.{Held, lends_ref, ref_back, lends_slice, slice_back, lends_shr_slice}
use denote.Memory.{cell_at, lone, part_at, mem, shares, part_of}
use denote.RattleType.{RattleType}
use denote.Bor.{Bor}
use denote.Ref.{MutBor, MutRef}
use denote.Shadow.{shadow}
use denote.Shares.{Shares}
use denote.Slice.{slice_val, MutSlice, ShrSlice, Room, finally}
use denote.Steps.{owned}
use Rattle.walk_kit.proofs.Locals.{sets}
use Rattle.walk_kit.proofs.Tokens.{tok}

-- ---- one entry of the context
module _ {M : Type 1} {𝓤 : Ura M} {𝓛 : Logic 𝓤} {K : Type 0} {Γ : List (Item 𝓤)} {G : Goal 𝓤 𝓛.H} where
  pub entry-as : K → (k : ℕ) {i : Item 𝓤} (j : Item 𝓤) → ent 𝓤 (mean 𝓛 i) (mean 𝓛 j) → nth 𝓛 k Γ ≡ i → Step K 𝓛 (put 𝓛 k j Γ) G Γ G
  entry-as t k {i} j h e = step (λ s. record {
    prf = via 𝓤 (sep 𝓤 (mean 𝓛 i) (⋆ 𝓛 (del 𝓛 k Γ))) (subst (λ (x : Item 𝓤). ent 𝓤 (⋆ 𝓛 Γ) (sep 𝓤 (mean 𝓛 x) (⋆ 𝓛 (del 𝓛 k Γ)))) e (pull 𝓛 k Γ))
        (via 𝓤 (sep 𝓤 (mean 𝓛 j) (⋆ 𝓛 (del 𝓛 k Γ))) (mono_l 𝓤 (⋆ 𝓛 (del 𝓛 k Γ)) h) (via 𝓤 (⋆ 𝓛 (put 𝓛 k j Γ)) (fill 𝓛 k j Γ) s.prf));
  })

  -- the entries Δ at the head, replaced by what they entail
  pub uses : K → (Δ : List (Item 𝓤)) (j : Item 𝓤) → ent 𝓤 (⋆ 𝓛 Δ) (mean 𝓛 j) → Step K 𝓛 (j ∷ Γ) G (Δ ++ Γ) G
  uses t Δ j h = cut Δ (j ∷ []) Γ h

  pub lifts : K → (k : ℕ) {i : Item 𝓤} → nth 𝓛 k Γ ≡ i → Step K 𝓛 (i ∷ put 𝓛 k (‵ ftrue) Γ) G Γ G
  lifts t k {i} e = step (λ s. record {
    prf = via 𝓤 (sep 𝓤 (mean 𝓛 i) (⋆ 𝓛 (del 𝓛 k Γ))) (subst (λ (x : Item 𝓤). ent 𝓤 (⋆ 𝓛 Γ) (sep 𝓤 (mean 𝓛 x) (⋆ 𝓛 (del 𝓛 k Γ)))) e (pull 𝓛 k Γ))
        (via 𝓤 (sep 𝓤 (mean 𝓛 i) (⋆ 𝓛 (put 𝓛 k (‵ ftrue) Γ)))
        (mono_r 𝓤 (mean 𝓛 i) (via 𝓤 (sep 𝓤 (emp 𝓤) (⋆ 𝓛 (del 𝓛 k Γ))) (emp∗ 𝓤 (⋆ 𝓛 (del 𝓛 k Γ))) (fill 𝓛 k (‵ ftrue) Γ)))
        (via 𝓤 (⋆ 𝓛 (i ∷ put 𝓛 k (‵ ftrue) Γ)) (push 𝓛 i (put 𝓛 k (‵ ftrue) Γ)) s.prf));
  })

  pub lays : K → (k : ℕ) {i : Item 𝓤} → Step K 𝓛 (put 𝓛 k i Γ) G (i ∷ Γ) G
  lays t k {i} = step (λ s. record {
    prf = via 𝓤 (sep 𝓤 (mean 𝓛 i) (⋆ 𝓛 Γ)) (pop 𝓛 i Γ)
        (via 𝓤 (sep 𝓤 (mean 𝓛 i) (⋆ 𝓛 (del 𝓛 k Γ))) (mono_r 𝓤 (mean 𝓛 i) (via 𝓤 (sep 𝓤 (mean 𝓛 (nth 𝓛 k Γ)) (⋆ 𝓛 (del 𝓛 k Γ))) (pull 𝓛 k Γ) (snd∗ 𝓤 (mean 𝓛 (nth 𝓛 k Γ)) (⋆ 𝓛 (del 𝓛 k Γ)))))
        (via 𝓤 (⋆ 𝓛 (put 𝓛 k i Γ)) (fill 𝓛 k i Γ) s.prf));
  })

-- ---- an array in a local
-- the elements xs, side by side from the start of the local b
unfoldable pub Elements : (R : RattleType) → List R.Denot → ℕ → Fml
Elements R xs b = row R full_share xs b zero

module _ (R : RattleType) where
  repeat-each : (x : R.Denot) (u : Val) → Is R x (u ∷ []) → (n : ℕ) → shadow (each R.Denot R.own_val (replicate n x) (replicate n u))
  repeat-each x u is zero = tt
  repeat-each x u is (suc n) = (is, repeat-each x u is n)

  pub repeat-is : (x : R.Denot) (u : Val) → Is R x (u ∷ []) → (n : ℕ) → Is (Array R n) (replicate n x) (array_val (replicate n u) ∷ [])
  repeat-is x u is n = (replicate n u, ((refl, length-replicate n x), repeat-each x u is n))

module _ {M : Type 1} {𝓤 : Ura M} (𝓛 : Logic 𝓤) (R : RattleType) where
  open 𝓛 use {H}

  pub repeat-typed : Lawful 𝓛 R → (x : R.Denot) (u : Val) → Is R x (u ∷ []) → (n : ℕ) → T (has_ty (ty_array (lone R.mir) n) (array_val (replicate n u))) × WT (array_val (replicate n u))
  repeat-typed L x u is n = ((Array-Lawful 𝓛 R L n).typed (replicate n x) (array_val (replicate n u) ∷ []) (repeat-is R x u is n)).0

  -- the machine value of an array in a local is its elements
  pub elements-of-cell : Single R.mir → Makes 𝓛 R (Is R) → (n : ℕ) (xs : List R.Denot) (us : List Val) → Is (Array R n) xs (array_val us ∷ []) → (b : ℕ)
      → ent 𝓤 (H.at full_share (ty_array (lone R.mir) n) b zero (array_val us)) (sem 𝓛 (Elements R xs b))
  unfolding part_of Elements
  elements-of-cell s mk n xs us is b =
      qed 𝓛 (‵ (fat full_share (ty_array (lone R.mir) n) b zero (array_val us)) ∷ []) ∵
      use1 𝓛 (‵ (cell_at full_share (Array R n).mir (array_val us ∷ []) b zero)) (𝓛.laws.at_raw full_share (ty_array (lone R.mir) n) b zero (array_val us)) $
      owned ! (Array R n) (Is (Array R n)) (Array-Makes 𝓛 R mk n) xs (array_val us ∷ []) is $ move ! (1 ∷ 0 ∷ []) $ fjoin ! $
      fpack ! (List Val) (λ vs. fsep (cell_at full_share (Array R n).mir vs b zero) ((Array R n).own_val xs vs)) (array_val us ∷ []) $
      use1 𝓛 (‵ ((arr_parts (shares R) n).part full_share xs b zero)) (Array-apart 𝓛 R full_share s n xs b zero) $ fsplit ! $ drop ! $ done !

  pub room-of-elements : (n : ℕ) (xs : List R.Denot) → length xs ≡ n → (b : ℕ) → ent 𝓤 (sem 𝓛 (Elements R xs b)) (H.room (ty_array (lone R.mir) n) b zero)
  unfolding part_of Elements
  room-of-elements n xs e b =
      qed 𝓛 (‵ (row R full_share xs b zero) ∷ []) ∵ feq_i ! ℕ (length xs) n e $ fjoin ! $ use1 𝓛 (‵ (part_at (Array R n) full_share xs b zero)) (Array-whole 𝓛 R full_share n xs b zero) $
      fpick ! (λ vs. fsplit ! $ move ! (1 ∷ []) $ fpick ! (λ us. fsplit ! $ fsplit ! $ feq_l ! (λ is. drop ! $ drop ! $
      rewrite ! 0 (λ (ws : List Val). ‵ (cell_at full_share (Array R n).mir ws b zero)) is refl $
      use1 𝓛 (‵ (fat full_share (ty_array (lone R.mir) n) b zero (array_val us))) (𝓛.laws.raw_at full_share (ty_array (lone R.mir) n) b zero (array_val us)) $ by ! (𝓛.laws.at_room (ty_array (lone R.mir) n) b zero (array_val us)))))

module _ {M : Type 1} {𝓤 : Ura M} {𝓛 : Logic 𝓤} {K : Type 0} {Γ : List (Item 𝓤)} where
  -- a constant that the MIR has as a big number
  open 𝓛 use {H}

  pub big-lit : K → {E : Env 𝓤 H} {w : Width} {n : ℕ} → n < 2 ^ bits w → Opd K 𝓛 Γ E (int_big w n) (vint w n)
  big-lit t {w = w} {n = n} l = record { go = λ Kt h. via 𝓤 (Kt (vint w n)) h (guard_i 𝓤 (Fits w n) (Kt (vint w n)) (record { fits = l })) }

  -- entry k is room for a value, and once the value is stored what its cell entails stands there
  init-as : K → (k : ℕ) {τ : Ty} {b o : ℕ} {v : Val} (j : Item 𝓤) → ent 𝓤 (H.at full_share τ b o v) (mean 𝓛 j) → nth 𝓛 k Γ ≡ ‵ (froom τ b o) → T (has_ty τ v) × WT v → Writes K 𝓛 Γ τ b o v (put 𝓛 k j Γ)
  init-as t k {τ} {b} {o} {v} j into e wt = record {
    go = λ P h.
        via 𝓤 (sep 𝓤 (H.room τ b o) (⋆ 𝓛 (del 𝓛 k Γ))) (subst (λ (x : Item 𝓤). ent 𝓤 (⋆ 𝓛 Γ) (sep 𝓤 (mean 𝓛 x) (⋆ 𝓛 (del 𝓛 k Γ)))) e (pull 𝓛 k Γ))
        (via 𝓤 (sep 𝓤 (H.room τ b o) (wand 𝓤 (H.at full_share τ b o v) P))
        (mono_r 𝓤 (H.room τ b o) (wand_i 𝓤 (⋆ 𝓛 (del 𝓛 k Γ)) (H.at full_share τ b o v) P
        (via 𝓤 (sep 𝓤 (H.at full_share τ b o v) (⋆ 𝓛 (del 𝓛 k Γ))) (comm∗ 𝓤 (⋆ 𝓛 (del 𝓛 k Γ)) (H.at full_share τ b o v))
        (via 𝓤 (sep 𝓤 (mean 𝓛 j) (⋆ 𝓛 (del 𝓛 k Γ))) (mono_l 𝓤 (⋆ 𝓛 (del 𝓛 k Γ)) into) (via 𝓤 (⋆ 𝓛 (put 𝓛 k j Γ)) (fill 𝓛 k j Γ) h)))))
        (guard_i 𝓤 (T (has_ty τ v) × WT v) (sep 𝓤 (H.room τ b o) (wand 𝓤 (H.at full_share τ b o v) P)) wt));
  }

  -- the list stands for what it is: only the equation says that it is n times x
  pub array_made : K → (R : RattleType) → Single R.mir → Lawful 𝓛 R → Makes 𝓛 R (Is R) → (x : R.Denot) (u : Val) → Is R x (u ∷ [])
      → {E : Env 𝓤 H} {C : Calls 𝓤 H} {Λ : Loops 𝓤 H} {q : Post 𝓤 H} {p : Place} {y : Operand} {n : ℕ} {rest : Body} {b : ℕ} (k : ℕ)
      → Opd K 𝓛 Γ E y u → Finds K 𝓛 Γ E p (ty_array (lone R.mir) n, b, zero) → nth 𝓛 k Γ ≡ ‵ (froom (ty_array (lone R.mir) n) b zero)
      → ((xs : List R.Denot) → xs ≡ replicate n x → length xs ≡ n → Seq K 𝓛 (put 𝓛 k (‵ (Elements R xs b)) Γ) (runs C Λ E rest q))
      → Seq K 𝓛 Γ (runs C Λ E (seq (assign p (repeat y n)) rest) q)
  array_made t R s L mk x u is {n = n} {b = b} k y f e go =
      assigns t (rep t n y) f (init-as t k (‵ (Elements R (replicate n x) b)) (elements-of-cell 𝓛 R s mk n (replicate n x) (replicate n u) (repeat-is R x u is n) b) e
      (repeat-typed 𝓛 R L x u is n)) $ go (replicate n x) refl (length-replicate n x)

module _ {M : Type 1} {𝓤 : Ura M} {𝓛 : Logic 𝓤} {K : Type 0} {Γ : List (Item 𝓤)} {G : Goal 𝓤 𝓛.H} where
  pub array-gone : K → (R : RattleType) (n : ℕ) (xs : List R.Denot) (b k : ℕ) → length xs ≡ n → nth 𝓛 k Γ ≡ ‵ (Elements R xs b)
      → Step K 𝓛 (put 𝓛 k (‵ (froom (ty_array (lone R.mir) n) b zero)) Γ) G Γ G
  array-gone t R n xs b k e at = entry-as t k (‵ (froom (ty_array (lone R.mir) n) b zero)) (room-of-elements 𝓛 R n xs e b) at

-- ---- the elements, or the first of them, lent and shared
-- the slice ys from the start of the local b, under the name δ
abbrev pub from_start : (R : RattleType) → ℕ → GName → List R.Denot → MutBor (List R.Denot)
from_start R b δ ys = record { ref_ptr = (b, zero); ghost_name = δ; now = ys }

-- and shared, which has no name
abbrev pub seen-from_start : (R : RattleType) → ℕ → List R.Denot → Bor (List R.Denot)
seen-from_start R b ys = record { ref_ptr = (b, zero); now = ys }

-- what the lender keeps of m elements that are lent for ν under the name δ, and the elements after them
unfoldable pub Lent : (R : RattleType) → ℕ → GName → ℕ → List R.Denot → ℕ → Fml
Lent R ν δ m rest b = fsep (flent (ν ∷ []) (Held R m b zero δ)) (row R full_share rest b (place (mem R).size zero m))

-- the same of elements ys that are shared
unfoldable pub Shared : (R : RattleType) → ℕ → List R.Denot → List R.Denot → ℕ → Fml
Shared R ν ys rest b = fsep (flent (ν ∷ []) ((arr_parts (shares R) (length ys)).part full_share ys b zero)) (row R full_share rest b (place (mem R).size zero (length ys)))

module _ {M : Type 1} {𝓤 : Ura M} (𝓛 : Logic 𝓤) (R : RattleType) where
  open 𝓛 use {H, A}

  abbrev ◌∗◌ : SProp 𝓤 → SProp 𝓤 → SProp 𝓤
  P ∗ Q = sep 𝓤 P Q

  abbrev ⟦◌⟧ : Fml → SProp 𝓤
  ⟦ P ⟧ = sem 𝓛 P

  infixr 35 ◌∗◌
  abbrev all : List R.Denot → ℕ → ℕ → Fml
  all ys b o = row R full_share ys b o

  -- the elements of two lists, side by side
  apart : (ys rest : List R.Denot) (b o : ℕ) → ent 𝓤 ⟦ all (ys ++ rest) b o ⟧ (⟦ all ys b o ⟧ ∗ ⟦ all rest b (place (mem R).size o (length ys)) ⟧)
  apart [] rest b o = emp∗ 𝓤 ⟦ all rest b o ⟧
  apart (y ∷ ys) rest b o =
      qed 𝓛 (‵ (all (y ∷ (ys ++ rest)) b o) ∷ []) ∵ fsplit ! $ move ! (1 ∷ []) $
      use1 𝓛 (‵ (all ys b (o + (mem R).size)) ⊛ ‵ (all rest b (place (mem R).size (o + (mem R).size) (length ys)))) (apart ys rest b (o + (mem R).size)) $ split ! $ move ! (2 ∷ 0 ∷ []) $ fjoin ! $ done !

  together : (ys rest : List R.Denot) (b o : ℕ) → ent 𝓤 (⟦ all ys b o ⟧ ∗ ⟦ all rest b (place (mem R).size o (length ys)) ⟧) ⟦ all (ys ++ rest) b o ⟧
  together [] rest b o = snd∗ 𝓤 (emp 𝓤) ⟦ all rest b o ⟧
  together (y ∷ ys) rest b o =
      qed 𝓛 (‵ (all (y ∷ ys) b o) ∷ ‵ (all rest b (place (mem R).size (o + (mem R).size) (length ys))) ∷ []) ∵ fsplit ! $ move ! (1 ∷ 2 ∷ []) $
      use2 𝓛 (‵ (all (ys ++ rest) b (o + (mem R).size))) (together ys rest b (o + (mem R).size)) $ move ! (1 ∷ 0 ∷ []) $ fjoin ! $ done !

  abbrev Out : ℕ → List R.Denot → ℕ → ℕ × GName → Item 𝓤
  Out m ys b x = ‵ (flft (x.0 ∷ []) full_share) ⊛ ‵ ((MutSlice (named 0) (x.0 ∷ []) R).own_val (from_start R b x.1 ys) (slice_val (b, zero) m ∷ []))

  abbrev OutShared : ℕ → List R.Denot → ℕ → ℕ → Item 𝓤
  OutShared m ys b ν = ‵ (flft (ν ∷ []) full_share) ⊛ ‵ ((ShrSlice (named 0) (ν ∷ []) R).own_val (seen-from_start R b ys) (slice_val (b, zero) m ∷ []))

  -- of the elements xs the first, ys, of which there are m
  lends_out : (xs ys rest : List R.Denot) → ys ++ rest ≡ xs → (m : ℕ) → length ys ≡ m → Room R m → (b : ℕ)
      → ent 𝓤 ⟦ Elements R xs b ⟧ (H.⇛ (ex 𝓤 (λ (x : ℕ × GName). mean 𝓛 (Out m ys b x) ∗ ⟦ Lent R x.0 x.1 m rest b ⟧)))
  unfolding Elements Lent
  lends_out xs ys rest e m l room b =
      qed 𝓛 (‵ (all xs b zero) ∷ []) ∵ updating ! $ rewrite ! 0 (λ (zs : List R.Denot). ‵ (all zs b zero)) (sym e) refl $
      use1 𝓛 (‵ (all ys b zero) ⊛ ‵ (all rest b (place (mem R).size zero (length ys)))) (apart ys rest b zero) $ split ! $
      use1 𝓛 (‵ (cells (mem R) ys b zero)) (whole_in 𝓛 R ys b zero) $ lft_new ! tt (λ ν. move ! (1 ∷ []) $
      use1 𝓛 (later (some (λ (δ : GName). ‵ ((MutSlice (named 0) (ν ∷ []) R).own_val (from_start R b δ ys) (slice_val (b, zero) (length ys) ∷ [])) ⊛ ‵ (flent (ν ∷ []) (Held R (length ys) b zero δ)))))
      (lends_slice 𝓛 R (named 0) (ν ∷ []) ys b zero (subst (Room R) (sym l) room)) $ await ! tt $ pick ! (λ δ. split ! $ at_once ! $
      show ! (λ (x : ℕ × GName). mean 𝓛 (Out m ys b x) ∗ ⟦ Lent R x.0 x.1 m rest b ⟧) (ν, δ) $
      rewrite ! 0 (λ (n : ℕ). ‵ ((MutSlice (named 0) (ν ∷ []) R).own_val (from_start R b δ ys) (slice_val (b, zero) n ∷ []))) l refl $ rewrite ! 1 (λ (n : ℕ). ‵ (flent (ν ∷ []) (Held R n b zero δ))) l refl $
      rewrite ! 3 (λ (n : ℕ). ‵ (all rest b (place (mem R).size zero n))) l refl $ move ! (2 ∷ 0 ∷ []) $ join ! $ frame ! $ fjoin ! $ done !))

  comes-in : (ν : ℕ) (δ : GName) (m : ℕ) (xs zs rest : List R.Denot) → zs ++ rest ≡ xs → (b : ℕ)
      → ent 𝓤 (⟦ Lent R ν δ m rest b ⟧ ∗ (A.dead (ν ∷ []) ∗ ⟦ finally R δ zs ⟧)) (H.⇛ (mean 𝓛 (given (length zs ≡ m) (‵ (Elements R xs b)))))
  unfolding Elements Lent
  comes-in ν δ m xs zs rest e b =
      qed 𝓛 (‵ (Lent R ν δ m rest b) ∷ ‵ (fdead (ν ∷ [])) ∷ ‵ (finally R δ zs) ∷ []) ∵ updating ! $ fsplit ! $ move ! (2 ∷ 0 ∷ 3 ∷ []) $
      use3 𝓛 (later (‵ ((Arr (mem R) m).own_at zs b zero))) (slice_back 𝓛 R (ν ∷ []) δ zs m b zero) $ await ! tt $ fsplit ! $ feq_l ! (λ l. use1 𝓛 (‵ (all zs b zero)) (whole_out 𝓛 R zs b zero) $
      rewrite ! 1 (λ (n : ℕ). ‵ (all rest b (place (mem R).size zero n))) (sym l) refl $ use2 𝓛 (‵ (all (zs ++ rest) b zero)) (together zs rest b zero) $
      rewrite ! 0 (λ (us : List R.Denot). ‵ (all us b zero)) e refl $ at_once ! $ check ! l $ done !)

  -- the type holds no `&mut`, so sharing its elements takes no token but that of the lifetime that is made (`denote.Shares`). `PlainData.sharable` is it at plain data
  shares_out : Shares 𝓛 R [] → (xs ys rest : List R.Denot) → ys ++ rest ≡ xs → (m : ℕ) → length ys ≡ m → Room R m → (b : ℕ)
      → ent 𝓤 ⟦ Elements R xs b ⟧ (H.⇛ (ex 𝓤 (λ (ν : ℕ). mean 𝓛 (OutShared m ys b ν) ∗ ⟦ Shared R ν ys rest b ⟧)))
  unfolding Elements Shared
  shares_out law xs ys rest e m l room b =
      qed 𝓛 (‵ (all xs b zero) ∷ []) ∵ updating ! $ rewrite ! 0 (λ (zs : List R.Denot). ‵ (all zs b zero)) (sym e) refl $
      use1 𝓛 (‵ (all ys b zero) ⊛ ‵ (all rest b (place (mem R).size zero (length ys)))) (apart ys rest b zero) $ split ! $
      feq_i ! ℕ (length ys) (length ys) refl $ fjoin ! $ lft_new ! tt (λ ν. move ! (1 ∷ 0 ∷ []) $
      use2 𝓛 (later ((‵ ((ShrSlice (named 0) (ν ∷ []) R).own_val (seen-from_start R b ys) (slice_val (b, zero) (length ys) ∷ [])) ⊛ ‵ (flent (ν ∷ []) ((arr_parts (shares R) (length ys)).part full_share ys b zero))) ⊛ ‵ (flft (ν ∷ []) full_share)))
      (lends_shr_slice 𝓛 R (named 0) (ν ∷ []) full_share ys b zero (subst (Room R) (sym l) room) [] law ((ν ∷ [], full_share) ∷ []) (⊑_static (ν ∷ [])) (⊑_refl (ν ∷ []))) $ await ! tt $ split ! $ split ! $ at_once ! $
      show ! (λ (ν' : ℕ). mean 𝓛 (OutShared m ys b ν') ∗ ⟦ Shared R ν' ys rest b ⟧) ν $
      rewrite ! 0 (λ (n : ℕ). ‵ ((ShrSlice (named 0) (ν ∷ []) R).own_val (seen-from_start R b ys) (slice_val (b, zero) n ∷ []))) l refl $ move ! (2 ∷ 0 ∷ []) $ join ! $ frame ! $ fjoin ! $ done !)

  shared-in : (ν : ℕ) (xs ys rest : List R.Denot) → ys ++ rest ≡ xs → (b : ℕ) → ent 𝓤 (⟦ Shared R ν ys rest b ⟧ ∗ A.dead (ν ∷ [])) (H.⇛ ⟦ Elements R xs b ⟧)
  unfolding Elements Shared
  shared-in ν xs ys rest e b =
      qed 𝓛 (‵ (Shared R ν ys rest b) ∷ ‵ (fdead (ν ∷ [])) ∷ []) ∵ updating ! $ fsplit ! $ move ! (2 ∷ 0 ∷ []) $ lent_back ! tt $ fsplit ! $ drop ! $ at_once ! $
      use2 𝓛 (‵ (all (ys ++ rest) b zero)) (together ys rest b zero) $ rewrite ! 0 (λ (zs : List R.Denot). ‵ (all zs b zero)) e refl $ done !

appended : {X : Type 0} (xs : List X) → xs ++ [] ≡ xs
appended [] = refl
appended (x ∷ xs) = ap (λ (l : List _). x ∷ l) (appended xs)

as_long : {X : Type 0} (zs xs : List X) → length zs ≤ length xs → length (zs ++ drop_first (length zs) xs) ≡ length xs
as_long [] xs le = refl
as_long (z ∷ zs) [] le = absurd (not-suc-le-zero le)
as_long (z ∷ zs) (x ∷ xs) le = ap suc (as_long zs xs (le_of_suc-le-suc le))

-- as many are taken as there are
pub take_all : {X : Type 0} (m : ℕ) (xs : List X) → m ≤ length xs → length (take m xs) ≡ m
take_all m xs le = length-take m xs ∙ min-eq_left le

-- a list of as many elements, with those after them
pub front_length : {X : Type 0} (m : ℕ) (zs xs : List X) → length zs ≡ m → m ≤ length xs → length (zs ++ drop_first m xs) ≡ length xs
front_length m zs xs e le = subst (λ (k : ℕ). length (zs ++ drop_first k xs) ≡ length xs) e (as_long zs xs (subst (λ (k : ℕ). k ≤ length xs) (sym e) le))

put-put : {M : Type 1} {𝓤 : Ura M} (𝓛 : Logic 𝓤) (k : ℕ) (i j : Item 𝓤) (Γ : List (Item 𝓤)) → put 𝓛 k i (put 𝓛 k j Γ) ≡ put 𝓛 k i Γ
put-put 𝓛 k i j [] = refl
put-put 𝓛 zero i j (x ∷ Γ) = refl
put-put {𝓤 = 𝓤} 𝓛 (suc k) i j (x ∷ Γ) = ap (λ (Δ : List (Item 𝓤)). x ∷ Δ) (put-put 𝓛 k i j Γ)

put_same : {M : Type 1} {𝓤 : Ura M} (𝓛 : Logic 𝓤) (k : ℕ) (i : Item 𝓤) (Γ : List (Item 𝓤)) → nth 𝓛 k Γ ≡ i → put 𝓛 k i Γ ≡ Γ
put_same 𝓛 k i [] e = refl
put_same {𝓤 = 𝓤} 𝓛 zero i (x ∷ Γ) e = ap (λ (j : Item 𝓤). j ∷ Γ) (sym e)
put_same {𝓤 = 𝓤} 𝓛 (suc k) i (x ∷ Γ) e = ap (λ (Δ : List (Item 𝓤)). x ∷ Δ) (put_same 𝓛 k i Γ e)

module _ {M : Type 1} {𝓤 : Ura M} {𝓛 : Logic 𝓤} {K : Type 0} {Γ : List (Item 𝓤)} {G : Goal 𝓤 𝓛.H} where
  -- entry k gives f x for some x, and j x is left in its place
  open 𝓛 use {H}

  draws : K → Soaks G → (k : ℕ) {i : Item 𝓤} {X : Type 0} (f j : X → Item 𝓤) → ent 𝓤 (mean 𝓛 i) (H.⇛ (ex 𝓤 (λ (x : X). sep 𝓤 (mean 𝓛 (f x)) (mean 𝓛 (j x))))) → nth 𝓛 k Γ ≡ i
      → ((x : X) → Seq K 𝓛 (f x ∷ put 𝓛 k (j x) Γ) G) → Seq K 𝓛 Γ G
  draws t z k f j h e go = lifts t k e $ use1 𝓛 (later (some (λ x. f x ⊛ j x))) h $ await t z $ pick t (λ x. split t $ move t (1 ∷ []) $ lays t (suc k) $
      subst (λ (Δ : List (Item 𝓤)). Seq K 𝓛 (f x ∷ Δ) G) (sym (put-put 𝓛 k (j x) (‵ ftrue) Γ)) (go x))

  -- the head and entry k give j there, and φ
  gives : K → Soaks G → (k : ℕ) {i h : Item 𝓤} (φ : Type 0) (j : Item 𝓤) → ent 𝓤 (sep 𝓤 (mean 𝓛 i) (mean 𝓛 h)) (H.⇛ (mean 𝓛 (given φ j))) → nth 𝓛 k Γ ≡ i
      → (φ → Seq K 𝓛 (put 𝓛 k j Γ) G) → Seq K 𝓛 (h ∷ Γ) G
  gives t z k φ j into e go = lifts t (suc k) e $ use2 𝓛 (later (given φ j)) into $ await t z $ learn t (λ x. lays t k $ subst (λ (Δ : List (Item 𝓤)). Seq K 𝓛 Δ G) (sym (put-put 𝓛 k j (‵ ftrue) Γ)) (go x))

  -- the first elements ys of xs, of which there are m
  pub lends_part : K → Soaks G → (R : RattleType) (xs ys rest : List R.Denot) → ys ++ rest ≡ xs → (m : ℕ) → length ys ≡ m → Room R m → (b k : ℕ) → nth 𝓛 k Γ ≡ ‵ (Elements R xs b)
      → ((ν : ℕ) (δ : GName) → Seq K 𝓛 (tok ν ∷ ‵ ((MutSlice (named 0) (ν ∷ []) R).own_val (from_start R b δ ys) (slice_val (b, zero) m ∷ [])) ∷ put 𝓛 k (‵ (Lent R ν δ m rest b)) Γ) G) → Seq K 𝓛 Γ G
  lends_part t z R xs ys rest e m l room b k at go = draws t z k (Out 𝓛 R m ys b) (λ x. ‵ (Lent R x.0 x.1 m rest b)) (lends_out 𝓛 R xs ys rest e m l room b) at (λ x. split t $ go x.0 x.1)

  pub shares-part : K → Soaks G → (R : RattleType) → Shares 𝓛 R [] → (xs ys rest : List R.Denot) → ys ++ rest ≡ xs → (m : ℕ) → length ys ≡ m → Room R m → (b k : ℕ) → nth 𝓛 k Γ ≡ ‵ (Elements R xs b)
      → ((ν : ℕ) → Seq K 𝓛 (tok ν ∷ ‵ ((ShrSlice (named 0) (ν ∷ []) R).own_val (seen-from_start R b ys) (slice_val (b, zero) m ∷ [])) ∷ put 𝓛 k (‵ (Shared R ν ys rest b)) Γ) G) → Seq K 𝓛 Γ G
  shares-part t z R law xs ys rest e m l room b k at go = draws t z k (OutShared 𝓛 R m ys b) (λ ν. ‵ (Shared R ν ys rest b)) (shares_out 𝓛 R law xs ys rest e m l room b) at (λ ν. split t $ go ν)

  -- ---- the rules: of the whole array, which has no elements after what is lent, and of the first m
  pub lends-array : K → Soaks G → (R : RattleType) (xs : List R.Denot) (m : ℕ) → length xs ≡ m → Room R m → (b k : ℕ) → nth 𝓛 k Γ ≡ ‵ (Elements R xs b)
      → ((ν : ℕ) (δ : GName) → Seq K 𝓛 (tok ν ∷ ‵ ((MutSlice (named 0) (ν ∷ []) R).own_val (from_start R b δ xs) (slice_val (b, zero) m ∷ [])) ∷ put 𝓛 k (‵ (Lent R ν δ m [] b)) Γ) G) → Seq K 𝓛 Γ G
  lends-array t z R xs = lends_part t z R xs xs [] (appended xs)

  pub lends-front : K → Soaks G → (R : RattleType) (xs : List R.Denot) (m : ℕ) → m ≤ length xs → Room R m → (b k : ℕ) → nth 𝓛 k Γ ≡ ‵ (Elements R xs b)
      → ((ν : ℕ) (δ : GName) → Seq K 𝓛 (tok ν ∷ ‵ ((MutSlice (named 0) (ν ∷ []) R).own_val (from_start R b δ (take m xs)) (slice_val (b, zero) m ∷ [])) ∷ put 𝓛 k (‵ (Lent R ν δ m (drop_first m xs) b)) Γ) G)
      → Seq K 𝓛 Γ G
  lends-front t z R xs m le = lends_part t z R xs (take m xs) (drop_first m xs) (take-append-drop m xs) m (take_all m xs le)

  pub array_back : K → Soaks G → (R : RattleType) (ν : ℕ) (δ : GName) (m : ℕ) (zs : List R.Denot) (b k : ℕ) → nth 𝓛 k Γ ≡ ‵ (Lent R ν δ m [] b)
      → (length zs ≡ m → Seq K 𝓛 (put 𝓛 k (‵ (Elements R zs b)) Γ) G) → Seq K 𝓛 (tok ν ∷ ‵ (finally R δ zs) ∷ Γ) G
  array_back t z R ν δ m zs b k at go = lft_end t z $ join t $ gives t z k (length zs ≡ m) (‵ (Elements R zs b)) (comes-in 𝓛 R ν δ m zs zs [] (appended zs) b) at go

  pub front-back : K → Soaks G → (R : RattleType) (ν : ℕ) (δ : GName) (m : ℕ) (zs rest : List R.Denot) (b k : ℕ) → nth 𝓛 k Γ ≡ ‵ (Lent R ν δ m rest b)
      → (length zs ≡ m → Seq K 𝓛 (put 𝓛 k (‵ (Elements R (zs ++ rest) b)) Γ) G) → Seq K 𝓛 (tok ν ∷ ‵ (finally R δ zs) ∷ Γ) G
  front-back t z R ν δ m zs rest b k at go = lft_end t z $ join t $ gives t z k (length zs ≡ m) (‵ (Elements R (zs ++ rest) b)) (comes-in 𝓛 R ν δ m (zs ++ rest) zs rest refl b) at go

  pub shares_array : K → Soaks G → (R : RattleType) → Shares 𝓛 R [] → (xs : List R.Denot) (m : ℕ) → length xs ≡ m → Room R m → (b k : ℕ) → nth 𝓛 k Γ ≡ ‵ (Elements R xs b)
      → ((ν : ℕ) → Seq K 𝓛 (tok ν ∷ ‵ ((ShrSlice (named 0) (ν ∷ []) R).own_val (seen-from_start R b xs) (slice_val (b, zero) m ∷ [])) ∷ put 𝓛 k (‵ (Shared R ν xs [] b)) Γ) G) → Seq K 𝓛 Γ G
  shares_array t z R law xs = shares-part t z R law xs xs [] (appended xs)

  pub shares-front : K → Soaks G → (R : RattleType) → Shares 𝓛 R [] → (xs : List R.Denot) (m : ℕ) → m ≤ length xs → Room R m → (b k : ℕ) → nth 𝓛 k Γ ≡ ‵ (Elements R xs b)
      → ((ν : ℕ) → Seq K 𝓛 (tok ν ∷ ‵ ((ShrSlice (named 0) (ν ∷ []) R).own_val (seen-from_start R b (take m xs)) (slice_val (b, zero) m ∷ [])) ∷ put 𝓛 k (‵ (Shared R ν (take m xs) (drop_first m xs) b)) Γ) G)
      → Seq K 𝓛 Γ G
  shares-front t z R law xs m le = shares-part t z R law xs (take m xs) (drop_first m xs) (take-append-drop m xs) m (take_all m xs le)

  -- the walk gets back what was shared, as it was
  pub part-unshared : K → Soaks G → (R : RattleType) (ν : ℕ) (xs ys rest : List R.Denot) → ys ++ rest ≡ xs → (b k : ℕ) → nth 𝓛 k Γ ≡ ‵ (Shared R ν ys rest b)
      → Step K 𝓛 (put 𝓛 k (‵ (Elements R xs b)) Γ) G (tok ν ∷ Γ) G
  part-unshared t z R ν xs ys rest e b k at = step (λ s. lft_end t z $ gives t z k (Unit {0}) (‵ (Elements R xs b)) (via 𝓤 _ (shared-in 𝓛 R ν xs ys rest e b) (𝓛.laws.⇛_mono _ _ (guard_i 𝓤 (Unit {0}) _ tt))) at (λ _. s))

  pub array-unshared : K → Soaks G → (R : RattleType) (ν : ℕ) (xs : List R.Denot) (b k : ℕ) → nth 𝓛 k Γ ≡ ‵ (Shared R ν xs [] b)
      → Step K 𝓛 (put 𝓛 k (‵ (Elements R xs b)) Γ) G (tok ν ∷ Γ) G
  array-unshared t z R ν xs = part-unshared t z R ν xs xs [] (appended xs)

  pub front-unshared : K → Soaks G → (R : RattleType) (ν m : ℕ) (xs : List R.Denot) (b k : ℕ) → nth 𝓛 k Γ ≡ ‵ (Shared R ν (take m xs) (drop_first m xs) b)
      → Step K 𝓛 (put 𝓛 k (‵ (Elements R xs b)) Γ) G (tok ν ∷ Γ) G
  front-unshared t z R ν m xs = part-unshared t z R ν xs (take m xs) (drop_first m xs) (take-append-drop m xs)

-- ---- all of it, lent as a `&mut [T; n]`
-- what the lender keeps of an array of n elements that is lent for ν under the name δ
unfoldable pub LentWhole : (R : RattleType) → ℕ → GName → ℕ → ℕ → Fml
LentWhole R ν δ n b = flent (ν ∷ []) (Behind (mem (Array R n)) b zero δ)

module _ {M : Type 1} {𝓤 : Ura M} (𝓛 : Logic 𝓤) (R : RattleType) (n : ℕ) where
  open 𝓛 use {H, A}

  abbrev OutWhole : List R.Denot → ℕ → ℕ × GName → Item 𝓤
  OutWhole xs b x = ‵ (flft (x.0 ∷ []) full_share) ⊛ ‵ ((MutRef (named 0) (x.0 ∷ []) (Array R n)).own_val (from_start R b x.1 xs) (vptr b zero ∷ []))

  whole-out-for : (xs : List R.Denot) → length xs ≡ n → (b : ℕ)
      → ent 𝓤 (sem 𝓛 (Elements R xs b)) (H.⇛ (ex 𝓤 (λ (x : ℕ × GName). sep 𝓤 (mean 𝓛 (OutWhole xs b x)) (sem 𝓛 (LentWhole R x.0 x.1 n b)))))
  unfolding part_of Elements LentWhole
  whole-out-for xs e b =
      qed 𝓛 (‵ (row R full_share xs b zero) ∷ []) ∵ updating ! $ feq_i ! ℕ (length xs) n e $ fjoin ! $ use1 𝓛 (‵ ((mem (Array R n)).own_at xs b zero)) (Array-whole 𝓛 R full_share n xs b zero) $ lft_new ! tt (λ ν. move ! (1 ∷ []) $
      use1 𝓛 (later (some (λ (δ : GName). ‵ ((MutRef (named 0) (ν ∷ []) (Array R n)).own_val (from_start R b δ xs) (vptr b zero ∷ [])) ⊛ ‵ (flent (ν ∷ []) (Behind (mem (Array R n)) b zero δ)))))
      (lends_ref 𝓛 (Array R n) (named 0) (ν ∷ []) xs b zero) $ await ! tt $ pick ! (λ δ. split ! $ at_once ! $
      show ! (λ (x : ℕ × GName). sep 𝓤 (mean 𝓛 (OutWhole xs b x)) (sem 𝓛 (LentWhole R x.0 x.1 n b))) (ν, δ) $ move ! (2 ∷ 0 ∷ []) $ join ! $ frame ! $ done !))

  whole-in-from : Single R.mir → (ν : ℕ) (δ : GName) (zs : List R.Denot) (b : ℕ)
      → ent 𝓤 (sep 𝓤 (sem 𝓛 (LentWhole R ν δ n b)) (sep 𝓤 (A.dead (ν ∷ [])) (A.res δ ((Array R n).coded.code zs)))) (H.⇛ (mean 𝓛 (given (length zs ≡ n) (‵ (Elements R zs b)))))
  unfolding part_of Elements LentWhole
  whole-in-from s ν δ zs b =
      qed 𝓛 (‵ (LentWhole R ν δ n b) ∷ ‵ (fdead (ν ∷ [])) ∷ ‵ (fres δ ((Array R n).coded.code zs)) ∷ []) ∵ updating ! $ move ! (1 ∷ 0 ∷ []) $
      use3 𝓛 (later (‵ ((mem (Array R n)).own_at zs b zero))) (ref_back 𝓛 (Array R n) (ν ∷ []) δ zs b zero) $ await ! tt $
      use1 𝓛 (‵ ((arr_parts (shares R) n).part full_share zs b zero)) (Array-apart 𝓛 R full_share s n zs b zero) $ fsplit ! $ feq_l ! (λ l. at_once ! $ check ! l $ done !)

module _ {M : Type 1} {𝓤 : Ura M} {𝓛 : Logic 𝓤} {K : Type 0} {Γ : List (Item 𝓤)} {G : Goal 𝓤 𝓛.H} where
  pub lends-whole : K → Soaks G → (R : RattleType) (n : ℕ) (xs : List R.Denot) → length xs ≡ n → (b k : ℕ) → nth 𝓛 k Γ ≡ ‵ (Elements R xs b)
      → ((ν : ℕ) (δ : GName) → Seq K 𝓛 (tok ν ∷ ‵ ((MutRef (named 0) (ν ∷ []) (Array R n)).own_val (from_start R b δ xs) (vptr b zero ∷ [])) ∷ put 𝓛 k (‵ (LentWhole R ν δ n b)) Γ) G) → Seq K 𝓛 Γ G
  lends-whole t z R n xs l b k at go = draws t z k (OutWhole 𝓛 R n xs b) (λ x. ‵ (LentWhole R x.0 x.1 n b)) (whole-out-for 𝓛 R n xs l b) at (λ x. split t $ go x.0 x.1)

  pub whole_back : K → Soaks G → (R : RattleType) → Single R.mir → (ν : ℕ) (δ : GName) (n : ℕ) (zs : List R.Denot) (b k : ℕ) → nth 𝓛 k Γ ≡ ‵ (LentWhole R ν δ n b)
      → (length zs ≡ n → Seq K 𝓛 (put 𝓛 k (‵ (Elements R zs b)) Γ) G) → Seq K 𝓛 (tok ν ∷ ‵ (fres δ ((Array R n).coded.code zs)) ∷ Γ) G
  whole_back t z R s ν δ n zs b k at go = lft_end t z $ join t $ gives t z k (length zs ≡ n) (‵ (Elements R zs b)) (whole-in-from 𝓛 R n s ν δ zs b) at go

-- ---- an element is read
module _ {M : Type 1} {𝓤 : Ura M} (𝓛 : Logic 𝓤) (q : Share) where
  open 𝓛 use {H}

  cell-at : (τs : List Ty) → Single τs → (v : Val) (b o : ℕ) → ent 𝓤 (sem 𝓛 (cell_at q τs (v ∷ []) b o)) (H.at q (lone τs) b o v)
  cell-at [] s v b o = absurd s
  cell-at (τ ∷ []) s v b o = 𝓛.laws.raw_at q τ b o v
  cell-at (τ ∷ σ ∷ τs) s v b o = absurd s

  at-cell : (τs : List Ty) → Single τs → (v : Val) (b o : ℕ) → ent 𝓤 (H.at q (lone τs) b o v) (sem 𝓛 (cell_at q τs (v ∷ []) b o))
  at-cell [] s v b o = absurd s
  at-cell (τ ∷ []) s v b o = 𝓛.laws.at_raw q τ b o v
  at-cell (τ ∷ σ ∷ τs) s v b o = absurd s

module _ {M : Type 1} {𝓤 : Ura M} (𝓛 : Logic 𝓤) (R : RattleType) (val : R.Denot → Val) (tells : Tells R (Is R) (λ x. val x ∷ [])) (xs : List R.Denot) (b i : ℕ) (d : R.Denot) (l : i < length xs) where
  open 𝓛 use {H}

  abbrev x : R.Denot
  x = get_or xs i d

  abbrev o : ℕ
  o = place (mem R).size zero i

  is_at : ent 𝓤 (sem 𝓛 (Elements R xs b)) (mean 𝓛 (given (Is R x (val x ∷ [])) (‵ (Elements R xs b))))
  unfolding Elements
  is_at = qed 𝓛 (‵ (row R full_share xs b zero) ∷ []) ∵ elem_out ! R (Is R) (shows 𝓛 R) (λ z. val z ∷ []) tells full_share xs i d b zero l (λ is.
      elem_back ! R full_share xs i d (val x ∷ []) b zero l $ check ! is $ done !)

  -- its cell is taken out, and put back
  way_at : Single R.mir → ent 𝓤 (sem 𝓛 (Elements R xs b)) (sep 𝓤 (H.at full_share (lone R.mir) b o (val x)) (wand 𝓤 (H.at full_share (lone R.mir) b o (val x)) (sem 𝓛 (Elements R xs b))))
  unfolding Elements
  way_at s = qed 𝓛 (‵ (row R full_share xs b zero) ∷ []) ∵ elem_out ! R (Is R) (shows 𝓛 R) (λ z. val z ∷ []) tells full_share xs i d b zero l (λ is.
      use1 𝓛 (‵ (fat full_share (lone R.mir) b o (val x))) (cell-at 𝓛 full_share R.mir s (val x) b o) $ frame ! $ assume ! (‵ (fat full_share (lone R.mir) b o (val x))) $
      use1 𝓛 (‵ (cell_at full_share R.mir (val x ∷ []) b o)) (at-cell 𝓛 full_share R.mir s (val x) b o) $ elem_back ! R full_share xs i d (val x ∷ []) b zero l $ done !)

module _ {M : Type 1} {𝓤 : Ura M} {𝓛 : Logic 𝓤} {K : Type 0} {Γ : List (Item 𝓤)} where
  open 𝓛 use {H}

  elem_is : {G : Goal 𝓤 H} → K → (R : RattleType) (val : R.Denot → Val) → Tells R (Is R) (λ x. val x ∷ []) → (xs : List R.Denot) (b i : ℕ) (d : R.Denot) → i < length xs → (k : ℕ) → nth 𝓛 k Γ ≡ ‵ (Elements R xs b)
      → (Is R (get_or xs i d) (val (get_or xs i d) ∷ []) → Seq K 𝓛 Γ G) → Seq K 𝓛 Γ G
  elem_is {G} t R val tells xs b i d l k e go = lifts t k e $ use1 𝓛 (given (Is R (get_or xs i d) (val (get_or xs i d) ∷ [])) (‵ (Elements R xs b))) (is_at 𝓛 R val tells xs b i d l) $ learn t (λ is. lays t k $
      subst (λ (Δ : List (Item 𝓤)). Seq K 𝓛 Δ G) (sym (put-put 𝓛 k (‵ (Elements R xs b)) (‵ ftrue) Γ ∙ put_same 𝓛 k (‵ (Elements R xs b)) Γ e)) (go is))

  -- at the offset c, which is where element i lies
  elem-reads : K → (R : RattleType) → Single R.mir → (val : R.Denot → Val) → Tells R (Is R) (λ x. val x ∷ []) → (xs : List R.Denot) (b i : ℕ) (d : R.Denot) → i < length xs → (k : ℕ) → nth 𝓛 k Γ ≡ ‵ (Elements R xs b)
      → (c : ℕ) → place (mem R).size zero i ≡ c → Reads K 𝓛 Γ (lone R.mir) b c (val (get_or xs i d))
  elem-reads t R s val tells xs b i d l k e c at = subst (λ (o : ℕ). Reads K 𝓛 Γ (lone R.mir) b o (val (get_or xs i d))) at (record {
    go = λ Kt h.
        let cell = H.at full_share (lone R.mir) b (place (mem R).size zero i) (val (get_or xs i d)) in
        let els = sem 𝓛 (Elements R xs b) in
        let others = ⋆ 𝓛 (del 𝓛 k Γ) in
        via 𝓤 (sep 𝓤 els others) (subst (λ (j : Item 𝓤). ent 𝓤 (⋆ 𝓛 Γ) (sep 𝓤 (mean 𝓛 j) others)) e (pull 𝓛 k Γ))
        (via 𝓤 (sep 𝓤 (sep 𝓤 cell (wand 𝓤 cell els)) others) (mono_l 𝓤 others (way_at 𝓛 R val tells xs b i d l s))
        (via 𝓤 (sep 𝓤 cell (sep 𝓤 (wand 𝓤 cell els) others)) (assoc∗ 𝓤 cell (wand 𝓤 cell els) others)
        (via 𝓤 (sep 𝓤 cell (wand 𝓤 cell (Kt (val (get_or xs i d)))))
        (mono_r 𝓤 cell (wand_i 𝓤 (sep 𝓤 (wand 𝓤 cell els) others) cell (Kt (val (get_or xs i d)))
        (qed 𝓛 ((raw (wand 𝓤 cell els) ⊛ raw others) ∷ raw cell ∷ []) ∵ split ! $ move ! (2 ∷ 0 ∷ []) $ use2 𝓛 (raw els) (apply∗ 𝓤 cell els) $
        by ! (via 𝓤 (⋆ 𝓛 Γ) (subst (λ (j : Item 𝓤). ent 𝓤 (sep 𝓤 (mean 𝓛 j) others) (⋆ 𝓛 Γ)) e (unpull 𝓛 k Γ)) h))))
        (via 𝓤 (ex 𝓤 (λ (u : Val). sep 𝓤 (H.at full_share (lone R.mir) b (place (mem R).size zero i) u) (wand 𝓤 (H.at full_share (lone R.mir) b (place (mem R).size zero i) u) (Kt u))))
        (ex_i 𝓤 (λ (u : Val). sep 𝓤 (H.at full_share (lone R.mir) b (place (mem R).size zero i) u) (wand 𝓤 (H.at full_share (lone R.mir) b (place (mem R).size zero i) u) (Kt u))) (val (get_or xs i d)))
        (ex_i 𝓤 (λ (r : Share). ex 𝓤 (λ (u : Val). sep 𝓤 (H.at r (lone R.mir) b (place (mem R).size zero i) u) (wand 𝓤 (H.at r (lone R.mir) b (place (mem R).size zero i) u) (Kt u)))) full_share)))));
  })

module _ {M : Type 1} {𝓤 : Ura M} {𝓛 : Logic 𝓤} {K : Type 0} {Γ : List (Item 𝓤)} {E : Env 𝓤 𝓛.H} {C : Calls 𝓤 𝓛.H} {Λ : Loops 𝓤 𝓛.H} {z : Post 𝓤 𝓛.H} where
  open 𝓛 use {H}

  pub elem-loads : K → (R : RattleType) → Single R.mir → (val : R.Denot → Val) → Tells R (Is R) (λ x. val x ∷ []) → (xs : List R.Denot) (b i : ℕ) (d : R.Denot) → i < length xs → (k : ℕ) → nth 𝓛 k Γ ≡ ‵ (Elements R xs b) → (c : ℕ) → place (mem R).size zero i ≡ c
      → {to : ℕ} {x : Operand} {rest : Body} {Γ' : List (Item 𝓤)} → let y = get_or xs i d in (Reads K 𝓛 Γ (lone R.mir) b c (val y) → Opd K 𝓛 Γ E x (val y)) → (Is R y (val y ∷ []) → Writes K 𝓛 Γ (spot_of 𝓤 H E to).0 (spot_of 𝓤 H E to).1 0 (val y) Γ')
      → (Is R y (val y ∷ []) → Seq K 𝓛 Γ' (runs C Λ E rest z)) → Seq K 𝓛 Γ (runs C Λ E (seq (assign (placed to []) (rv_opd x)) rest) z)
  elem-loads t R s val tells xs b i d l k e c at o w go = elem_is t R val tells xs b i d l k e (λ is. sets t (of_opd t (o (elem-reads t R s val tells xs b i d l k e c at))) (w is) $ go is)

-- An element of a slice that a walk holds (`Loans.antt`, `Sharing.antt`): it is read, and in a `&mut [T]` another is stored in its place.
--     points           the address of element i is computed
--     Cell, Shut       while the slice is open: the element's cell, which comes first, and what shuts the slice again
--     elem-read        `d = *p`, p being the address of element i
--     elem-store       `*p = x`
--     seen_read        `d = *p` in a `&[T]`
-- The premises are read with the slice open: there each entry of Γ is one place further on.
-- Assumes `Logic`.
use mathlib.Core.Path.{◌≡◌, refl, sym, ap, subst}
use mathlib.Core.List.{List, [], ◌∷◌}
use Prim.Native.Nat.{ℕ, zero, suc, ◌+◌, ◌*◌, ◌<◌, ◌^◌}
use lib.Dec.{T, ltb}
use lib.ListN.{length, get_or, set, length-set}
use seplogic.Ra.Ura.{Ura}
use base.Fraction.{full_share}
use mir.Syntax.{Place, place, Opd as Operand, copy, int, w64, Body, seq, assign, rv_opd, op2, mul, unsigned, offset}
use mir.Val.{Val, vint, vptr}
use base.Fml.{Share, Fml, fsep, fobs, fauth, fobor, fhide}
use prog.Wp.{Env, Calls, Loops, Spot, spot_of}
use types.Logic.{Logic}
use types.Kit.{Goal, Soaks, Item, Post, Seq, Step, step, ‵, ◌⊛◌, runs, ◌$◌, move, drop, rewrite, split, join, fsplit, fjoin}
use types.Run.{Opd, Finds, Writes, of_opd, bin, lit, assigns}
use denote.RattleType.{RattleType}
use denote.Shadow.{pure_l, pure_i}
use denote.Copied.{Copied}
use denote.Laws.{Is, Tells, Makes, shows}
use denote.Memory.{cell_at, mem, shares}
use denote.Opens.{Shut as TokenBack}
use denote.Slice.{Room, room, heres, coded_holeys, mut_slice_at, mut_slice_vals, shr_slice_at, shr_slice_vals, elements_shared}
use denote.Lend.{Held}
use denote.Index.{place_is, row, others, elem_out, elem_back, elem_put, opens_slice, closes_slice, looks_slice, shuts_slice}
use denote.Steps.{owned}
use Rattle.walk_kit.proofs.Locals.{sets}
use Rattle.walk_kit.proofs.Loans.{Loan, Lent, ref}
use Rattle.walk_kit.proofs.Sharing.{Shared, shown}

set_same : {X : Type 0} (ys : List X) (i : ℕ) (d : X) → set ys i (get_or ys i d) ≡ ys
set_same [] i d = refl
set_same (y ∷ ys) zero d = refl
set_same (y ∷ ys) (suc i) d = ap (λ (zs : List _). y ∷ zs) (set_same ys i d)

module _ (R : RattleType) (L : Loan) where
  abbrev pub Cell : Share → Val → ℕ → Fml
  Cell q v i = cell_at q R.mir (v ∷ []) L.block (i * (mem R).size + L.start)

  abbrev pub Shut : List R.Denot → ℕ → Fml
  Shut ys i = fsep (room R (length ys)) (fsep (others (shares R) full_share ys i L.block L.start) (fsep (fobor L.lifetime L.share (Held R (length ys) L.block L.start L.label))
      (fsep (fobs L.label ((coded_holeys R).code (heres R ys))) (fauth L.label ((coded_holeys R).code (heres R ys))))))

  -- of a `&[T]`: the walk has some share of the elements, and the token's way back
  abbrev pub ShutSeen : {M : Type 1} {𝓤 : Ura M} (𝓛 : Logic 𝓤) → Share → List R.Denot → ℕ → Item 𝓤
  ShutSeen 𝓛 q ys i = ‵ (others (shares R) q ys i L.block L.start) ⊛ (TokenBack 𝓛 L.lifetime L.share (row R q ys L.block L.start) ⊛ ‵ (fhide (elements_shared R ys L.block L.start L.lifetime)))

  abbrev pub OpenSeen : {M : Type 1} {𝓤 : Ura M} (𝓛 : Logic 𝓤) → (R.Denot → Val) → Share → List R.Denot → ℕ → R.Denot → List (Item 𝓤) → List (Item 𝓤)
  OpenSeen 𝓛 val q ys i y Γ = ‵ (Cell q (val y) i) ∷ (‵ (R.own_val y (val y ∷ [])) ⊛ ShutSeen 𝓛 q ys i) ∷ Γ

  -- the context while a `&mut [T]` is open: the cell holds v, and y is owned
  abbrev pub Open : {M : Type 1} {𝓤 : Ura M} → (R.Denot → Val) → List R.Denot → ℕ → Val → R.Denot → List (Item 𝓤) → List (Item 𝓤)
  Open val ys i v y Γ = ‵ (Cell full_share v i) ∷ ‵ (fsep (R.own_val y (val y ∷ [])) (Shut ys i)) ∷ Γ

module _ {M : Type 1} {𝓤 : Ura M} {𝓛 : Logic 𝓤} {K : Type 0} {Γ : List (Item 𝓤)} {G : Goal 𝓤 𝓛.H} (R : RattleType) (L : Loan) (val : R.Denot → Val) (ys : List R.Denot) (i : ℕ) (l : i < length ys) where
  opens : K → Soaks G → Tells R (Is R) (λ y. val y ∷ []) → (d : R.Denot)
      → (Is R (get_or ys i d) (val (get_or ys i d) ∷ []) → Seq K 𝓛 (Open R L val ys i (val (get_or ys i d)) (get_or ys i d) Γ) G)
      → Seq K 𝓛 (‵ (Lent R L ys) ∷ Γ) G
  opens t z tells d k =
      fsplit t $ fsplit t $ pure_l t (mut_slice_at R (ref R L ys) (mut_slice_vals (ref R L ys))) (λ p. fsplit t $ opens_slice t z R ys L.block L.start $
      elem_out t R (Is R) (shows 𝓛 R) (λ y. val y ∷ []) tells full_share ys i d L.block L.start l (λ is.
      rewrite t 0 (λ (p : ℕ). ‵ (cell_at full_share R.mir (val (get_or ys i d) ∷ []) L.block p)) (place_is (mem R).size L.start i) refl $
      -- [the cell; what it owns; the others; the open borrow; obs; auth]
      move t (4 ∷ 5 ∷ []) $ fjoin t $ move t (4 ∷ 0 ∷ []) $ fjoin t $ move t (3 ∷ 0 ∷ []) $ fjoin t $ pure_i t (room R (length ys)) (tt, tt) p.1 $ fjoin t $ move t (2 ∷ 0 ∷ []) $ fjoin t $ move t (1 ∷ 0 ∷ []) $ k is))

  -- y is in the place, and the cell holds its machine value
  shuts : K → Soaks G → (y : R.Denot) → Step K 𝓛 (‵ (Lent R L (set ys i y)) ∷ Γ) G (Open R L val ys i (val y) y Γ) G
  shuts t z y = step (λ s.
      rewrite t 0 (λ (p : ℕ). ‵ (cell_at full_share R.mir (val y ∷ []) L.block p)) (sym (place_is (mem R).size L.start i)) refl $ move t (1 ∷ []) $ fsplit t $ move t (1 ∷ []) $ fsplit t $
      pure_l t (room R (length ys)) (λ p. fsplit t $ move t (1 ∷ []) $ fsplit t $ move t (1 ∷ []) $ fsplit t $
      -- [obs; auth; the open borrow; the others; what it owns; the cell]
      move t (5 ∷ 4 ∷ 3 ∷ 2 ∷ 0 ∷ 1 ∷ []) $ elem_put t R full_share ys i y (val y ∷ []) L.block L.start l $ closes_slice t z R ys (set ys i y) (length-set ys i y) L.block L.start $ fjoin t $
      pure_i t (mut_slice_at R (ref R L (set ys i y)) (mut_slice_vals (ref R L (set ys i y)))) (tt, (tt, tt)) (refl, subst (Room R) (sym (length-set ys i y)) p) $ fjoin t $ fjoin t $ s))

module _ {M : Type 1} {𝓤 : Ura M} {𝓛 : Logic 𝓤} {K : Type 0} {Γ : List (Item 𝓤)} {E : Env 𝓤 𝓛.H} {C : Calls 𝓤 𝓛.H} {Λ : Loops 𝓤 𝓛.H} {z : Post 𝓤 𝓛.H} (R : RattleType) (L : Loan)
    (val : R.Denot → Val) (tells : Tells R (Is R) (λ y. val y ∷ [])) (ys : List R.Denot) (i : ℕ) (l : i < length ys) (d : R.Denot) where
  open 𝓛 use {H}

  pub elem-read : K → {to : ℕ} {x : Operand} {rest : Body} {Γ' : List (Item 𝓤)}
      → let y = get_or ys i d in Opd K 𝓛 (Open R L val ys i (val y) y Γ) E x (val y) → (Is R y (val y ∷ []) → Writes K 𝓛 (Open R L val ys i (val y) y Γ) (spot_of 𝓤 H E to).0 (spot_of 𝓤 H E to).1 0 (val y) (Open R L val ys i (val y) y Γ'))
      → (Is R y (val y ∷ []) → Seq K 𝓛 (‵ (Lent R L ys) ∷ Γ') (runs C Λ E rest z)) → Seq K 𝓛 (‵ (Lent R L ys) ∷ Γ) (runs C Λ E (seq (assign (place to []) (rv_opd x)) rest) z)
  elem-read t o w k =
      opens R L val ys i l t tt tells d (λ is. sets t (of_opd t o) (w is) $ shuts R L val ys i l t tt (get_or ys i d) $ rewrite t 0 (λ (zs : List R.Denot). ‵ (Lent R L zs)) (set_same ys i d) refl $ k is)

  pub elem-store : K → Makes 𝓛 R (Is R) → (y : R.Denot) → Is R y (val y ∷ []) → {to : Place} {from : Operand} {rest : Body} {sp : Spot 𝓤 H}
      → let x = get_or ys i d in Opd K 𝓛 (Open R L val ys i (val x) x Γ) E from (val y) → Finds K 𝓛 (Open R L val ys i (val x) x Γ) E to sp → Writes K 𝓛 (Open R L val ys i (val x) x Γ) sp.0 sp.1 sp.2 (val y) (Open R L val ys i (val y) x Γ)
      → Seq K 𝓛 (‵ (Lent R L (set ys i y)) ∷ Γ) (runs C Λ E rest z) → Seq K 𝓛 (‵ (Lent R L ys) ∷ Γ) (runs C Λ E (seq (assign to (rv_opd from)) rest) z)
  elem-store t makes y is o f w k =
      opens R L val ys i l t tt tells d (λ _. assigns t (of_opd t o) f w $ move t (1 ∷ []) $ fsplit t $ drop t $ owned t R (Is R) makes y (val y ∷ []) is $ fjoin t $ move t (1 ∷ 0 ∷ []) $
      shuts R L val ys i l t tt y $ k)

  pub seen_read : K → Copied 𝓛 R → {to : ℕ} {x : Operand} {rest : Body} {Γ' : List (Item 𝓤)}
      → let y = get_or ys i d in ((q : Share) → Opd K 𝓛 (OpenSeen R L 𝓛 val q ys i y Γ) E x (val y))
      → ((q : Share) → Is R y (val y ∷ []) → Writes K 𝓛 (OpenSeen R L 𝓛 val q ys i y Γ) (spot_of 𝓤 H E to).0 (spot_of 𝓤 H E to).1 0 (val y) (OpenSeen R L 𝓛 val q ys i y Γ'))
      → (Is R y (val y ∷ []) → Seq K 𝓛 (‵ (Shared R L ys) ∷ Γ') (runs C Λ E rest z)) → Seq K 𝓛 (‵ (Shared R L ys) ∷ Γ) (runs C Λ E (seq (assign (place to []) (rv_opd x)) rest) z)
  seen_read t copied o w k =
      let b = L.block in
      let s = L.start in
      let v = val (get_or ys i d) in
      fsplit t $ fsplit t $ pure_l t (shr_slice_at R (shown R L ys) (shr_slice_vals (shown R L ys))) (λ p. move t (0 ∷ 1 ∷ []) $ looks_slice t tt R copied ys b s (λ q.
      elem_out t R (Is R) (shows 𝓛 R) (λ y. val y ∷ []) tells q ys i d b s l (λ is.
      rewrite t 0 (λ (m : ℕ). ‵ (cell_at q R.mir (v ∷ []) b m)) (place_is (mem R).size s i) refl $
      -- [the cell; what it owns; the others; the token's way back; what is shared]
      move t (3 ∷ 4 ∷ []) $ join t $ move t (3 ∷ 0 ∷ []) $ join t $ move t (2 ∷ 0 ∷ []) $ join t $ move t (1 ∷ 0 ∷ []) $
      sets t (of_opd t (o q)) (w q is) $
      rewrite t 0 (λ (m : ℕ). ‵ (cell_at q R.mir (v ∷ []) b m)) (sym (place_is (mem R).size s i)) refl $ move t (1 ∷ []) $ split t $ move t (1 ∷ []) $ split t $ move t (3 ∷ 2 ∷ 0 ∷ []) $ elem_back t R q ys i d (v ∷ []) b s l $
      move t (1 ∷ []) $ split t $ move t (2 ∷ 0 ∷ []) $ shuts_slice t tt R q ys b s $ move t (1 ∷ []) $
      pure_i t (shr_slice_at R (shown R L ys) (shr_slice_vals (shown R L ys))) (tt, (tt, tt)) p $ fjoin t $ fjoin t $ k is)))

-- `m = i * size; p = &s[i]`, s being a slice at (b, o)
module _ {M : Type 1} {𝓤 : Ura M} {𝓛 : Logic 𝓤} {K : Type 0} {Γ : List (Item 𝓤)} {E : Env 𝓤 𝓛.H} {C : Calls 𝓤 𝓛.H} {Λ : Loops 𝓤 𝓛.H} {z : Post 𝓤 𝓛.H} where
  open 𝓛 use {H}

  pub points : K → (size : ℕ) → T (ltb size (2 ^ 64)) → {i b o : ℕ} → i * size < 2 ^ 64 → {m p : ℕ} {index at : Operand} {rest : Body} {Γ₁ Γ₂ : List (Item 𝓤)}
      → Opd K 𝓛 Γ E index (vint w64 i) → Writes K 𝓛 Γ (spot_of 𝓤 H E m).0 (spot_of 𝓤 H E m).1 0 (vint w64 (i * size)) Γ₁
      → Opd K 𝓛 Γ₁ E at (vptr b o) → Opd K 𝓛 Γ₁ E (copy (place m [])) (vint w64 (i * size)) → Writes K 𝓛 Γ₁ (spot_of 𝓤 H E p).0 (spot_of 𝓤 H E p).1 0 (vptr b (i * size + o)) Γ₂
      → Step K 𝓛 Γ₂ (runs C Λ E rest z) Γ (runs C Λ E (seq (assign (place m []) (op2 (mul unsigned) index (int w64 size))) (seq (assign (place p []) (op2 offset at (copy (place m [])))) rest)) z)
  points t size small fits index_is m-set at-is m-is p-set = step (λ s. sets t (bin t index_is (lit t small) (record { fits = fits })) m-set $ sets t (bin t at-is m-is tt) p-set $ s)

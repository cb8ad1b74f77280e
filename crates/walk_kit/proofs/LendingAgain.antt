-- A `&mut [T]` that a walk holds (`Loans.antt`) is lent on for a call: as a `&mut [T]`, which comes back at the last list that the callee says,
-- or as a `&[T]`, which comes back as it was.
--     passed_on L ν δ      what the callee is lent: the same elements, for the lifetime ν that is made for the call, under a name δ of its own. A `&[T]` has no name, so there δ is L's
--     Keeping              what the holder keeps meanwhile: the lender's part at ν, its own borrow, open, and both halves of its name
--     Kept, KeptSeen       that, for either loan
--     Left                 what the callee leaves of a `&mut [T]`
--     passes_on, comes_back, shows-on, seen_back       the loan, and its end
-- Assumes `Logic`.
use mathlib.Core.Path.{◌≡◌, refl, sym, ap, subst}
use mathlib.Core.List.{List, [], ◌∷◌}
use Prim.Native.Nat.{ℕ, ◌<◌, ◌^◌}
use lib.Dec.{T}
use lib.ListN.{length}
use seplogic.Ra.Ura.{Ura}
use base.Fraction.{full_share}
use mir.Syntax.{Ty, Lifetime, Mutability, named, ty_ref, deref, field, place, copy, addr_of, aggregate, Body, seq, assign}
use mir.Val.{vptr, has_ty}
use base.Fml.{GName, Fml, fsep, fat, froom, flft, fobs, fauth, flent, fobor}
use prog.Memory.{field_of}
use prog.Wp.{Env, Calls, Loops, spot_of}
use types.Logic.{Logic}
use contract.BorrowLft.{⊑_refl, ⊑_static}
use types.Kit.{Goal, Soaks, Item, Post, Seq, Step, step, ‵, nth, put, runs, ◌⊛◌, some, later, ◌$◌, move, drop, use1, use2, use3, split, pick, fsplit, fjoin, feq_l, feq_i, await}
use types.Part.{agg}
use types.Run.{init, stop, hop, fld, from, addr, and_then, no_more}
use types.SemTy.{cells, Arr}
use types.Share.{arr_parts}
use types.Tokens.{lft_new, lft_end, lent_back}
use denote.Exit.{left, yes}
use denote.RattleType.{RattleType}
use denote.Shadow.{pure_l, pure_i}
use denote.Memory.{mem, shares}
use denote.Shares.{Shares}
use denote.Slice.{slice_ty, slice_val, MutSlice, Room, room, heres, coded_holeys, mut_slice_at, mut_slice_vals}
use denote.Lend.{Held, lends_slice, slice_back, lends_shr_slice}
use denote.Index.{row, whole_out, whole_in, opens_slice, closes_slice}
use Rattle.walk_kit.proofs.Locals.{its, reads-field, field-of, sets}
use Rattle.walk_kit.proofs.Loans.{Loan, Lent, ref}
use Rattle.walk_kit.proofs.Sharing.{Sees, Shared}
use Rattle.walk_kit.proofs.Tokens.{tok}

abbrev pub passed_on : Loan → ℕ → GName → Loan
passed_on L ν δ = record { lifetime = ν ∷ []; share = full_share; label = δ; block = L.block; start = L.start }

abbrev pub Keeping : (R : RattleType) → Loan → ℕ → Fml → List R.Denot → Fml
Keeping R L ν lent ys = fsep (room R (length ys)) (fsep (flent (ν ∷ []) lent) (fsep (fobor L.lifetime L.share (Held R (length ys) L.block L.start L.label))
    (fsep (fobs L.label ((coded_holeys R).code (heres R ys))) (fauth L.label ((coded_holeys R).code (heres R ys))))))

abbrev pub Kept : (R : RattleType) → Loan → ℕ → GName → List R.Denot → Fml
Kept R L ν δ ys = Keeping R L ν (Held R (length ys) L.block L.start δ) ys

-- what a callee leaves of a slice that it was lent at ys, and that it left at zs: the last list, and the borrow, closed
abbrev pub Left : (R : RattleType) → Loan → List R.Denot → List R.Denot → Fml
Left R L ys zs = left ((MutSlice (named 0) L.lifetime R).exit yes) (ref R L ys) zs

-- all elements, shared out
abbrev Seen : (R : RattleType) → Loan → List R.Denot → Fml
Seen R L ys = (arr_parts (shares R) (length ys)).part full_share ys L.block L.start

abbrev pub KeptSeen : (R : RattleType) → Loan → ℕ → List R.Denot → Fml
KeptSeen R L ν ys = Keeping R L ν (Seen R L ys) ys

module _ {M : Type 1} {𝓤 : Ura M} {𝓛 : Logic 𝓤} {K : Type 0} {Γ : List (Item 𝓤)} {G : Goal 𝓤 𝓛.H} where
  pub passes_on : K → Soaks G → (R : RattleType) (L : Loan) (ys : List R.Denot) → ((ν : ℕ) (δ : GName) → Seq K 𝓛 (‵ (Lent R (passed_on L ν δ) ys) ∷ ‵ (Kept R L ν δ ys) ∷ Γ) G) → Seq K 𝓛 (‵ (Lent R L ys) ∷ Γ) G
  passes_on t z R L ys k =
      let b = L.block in
      let o = L.start in
      fsplit t $ fsplit t $ pure_l t (mut_slice_at R (ref R L ys) (mut_slice_vals (ref R L ys))) (λ p. fsplit t $ opens_slice t z R ys b o $ use1 𝓛 (‵ (cells (mem R) ys b o)) (whole_in 𝓛 R ys b o) $
      lft_new t z (λ ν. move t (1 ∷ []) $
      use1 𝓛 (later (some (λ (δ : GName). ‵ ((MutSlice (named 0) (ν ∷ []) R).own_val (ref R (passed_on L ν δ) ys) (mut_slice_vals (ref R (passed_on L ν δ) ys))) ⊛ ‵ (flent (ν ∷ []) (Held R (length ys) b o δ)))))
      (lends_slice 𝓛 R (named 0) (ν ∷ []) ys b o p.1) $ await t z $ pick t (λ δ. split t $
      -- [the new slice; the lender's part; the token; the open borrow; obs; auth]
      move t (4 ∷ 5 ∷ []) $ fjoin t $ move t (4 ∷ 0 ∷ []) $ fjoin t $ move t (2 ∷ 0 ∷ []) $ fjoin t $ pure_i t (room R (length ys)) (tt, tt) p.1 $ fjoin t $ move t (1 ∷ 2 ∷ []) $ fjoin t $ k ν δ)))

  -- what the callee's `post` leaves of the slice stands between the token and what was kept
  pub comes_back : K → Soaks G → (R : RattleType) (L : Loan) {ν : ℕ} {δ : GName} (ys zs : List R.Denot) → (length zs ≡ length ys → Seq K 𝓛 (‵ (Lent R L zs) ∷ Γ) G)
      → Seq K 𝓛 (tok ν ∷ ‵ (Left R (passed_on L ν δ) ys zs) ∷ ‵ (Kept R L ν δ ys) ∷ Γ) G
  comes_back t z R L {ν} {δ} ys zs k =
      let b = L.block in
      let o = L.start in
      lft_end t z $ move t (1 ∷ []) $ fsplit t $ move t (1 ∷ []) $ drop t $ fsplit t $ move t (1 ∷ []) $ feq_l t (λ e. move t (2 ∷ []) $ fsplit t $ pure_l t (room R (length ys)) (λ p. fsplit t $ move t (3 ∷ 0 ∷ 2 ∷ []) $
      use3 𝓛 (later (‵ ((Arr (mem R) (length ys)).own_at zs b o))) (slice_back 𝓛 R (ν ∷ []) δ zs (length ys) b o) $ await t z $ fsplit t $ drop t $ use1 𝓛 (‵ (row R full_share zs b o)) (whole_out 𝓛 R zs b o) $
      move t (1 ∷ []) $ fsplit t $ move t (1 ∷ []) $ fsplit t $ move t (3 ∷ 2 ∷ 0 ∷ 1 ∷ []) $ closes_slice t z R ys zs e b o $ fjoin t $
      pure_i t (mut_slice_at R (ref R L zs) (mut_slice_vals (ref R L zs))) (tt, (tt, tt)) (refl, subst (Room R) (sym e) p) $ fjoin t $ fjoin t $ k e))

module _ {M : Type 1} {𝓤 : Ura M} {𝓛 : Logic 𝓤} {K : Type 0} {Γ : List (Item 𝓤)} {G : Goal 𝓤 𝓛.H} where
  -- the type holds no `&mut`, so sharing its elements takes no token but that of the lifetime that is made (`denote.Shares`). `PlainData.sharable` is it at plain data
  pub shows-on : K → Soaks G → (R : RattleType) → Shares 𝓛 R [] → (L : Loan) (ys : List R.Denot) → ((ν : ℕ) → Seq K 𝓛 (‵ (Shared R (passed_on L ν L.label) ys) ∷ ‵ (KeptSeen R L ν ys) ∷ Γ) G) → Seq K 𝓛 (‵ (Lent R L ys) ∷ Γ) G
  shows-on t z R shared L ys k =
      let b = L.block in
      let o = L.start in
      fsplit t $ fsplit t $ pure_l t (mut_slice_at R (ref R L ys) (mut_slice_vals (ref R L ys))) (λ p. fsplit t $ opens_slice t z R ys b o $ feq_i t ℕ (length ys) (length ys) refl $ fjoin t $
      lft_new t z (λ ν. move t (1 ∷ 0 ∷ []) $
      use2 𝓛 (later ((‵ (Sees R (passed_on L ν L.label) ys) ⊛ ‵ (flent (ν ∷ []) (Seen R L ys))) ⊛ ‵ (flft (ν ∷ []) full_share)))
      (lends_shr_slice 𝓛 R (named 0) (ν ∷ []) full_share ys b o p.1 [] shared ((ν ∷ [], full_share) ∷ []) (⊑_static (ν ∷ [])) (⊑_refl (ν ∷ []))) $ await t z $ split t $ split t $
      -- [the shared slice; the lender's part; the token; the open borrow; obs; auth]
      move t (4 ∷ 5 ∷ []) $ fjoin t $ move t (4 ∷ 0 ∷ []) $ fjoin t $ move t (2 ∷ 0 ∷ []) $ fjoin t $ pure_i t (room R (length ys)) (tt, tt) p.1 $ fjoin t $ move t (1 ∷ 2 ∷ []) $ fjoin t $ k ν))

  pub seen_back : K → Soaks G → (R : RattleType) (L : Loan) {ν : ℕ} (ys : List R.Denot) → Step K 𝓛 (‵ (Lent R L ys) ∷ Γ) G (tok ν ∷ ‵ (KeptSeen R L ν ys) ∷ Γ) G
  seen_back t z R L {ν} ys = step (λ s.
      let b = L.block in
      let o = L.start in
      lft_end t z $ move t (1 ∷ []) $ fsplit t $ pure_l t (room R (length ys)) (λ p. fsplit t $ move t (2 ∷ 0 ∷ []) $ lent_back t z $ fsplit t $ drop t $
      move t (1 ∷ []) $ fsplit t $ move t (1 ∷ []) $ fsplit t $ move t (3 ∷ 2 ∷ 0 ∷ 1 ∷ []) $ closes_slice t z R ys ys refl b o $ fjoin t $
      pure_i t (mut_slice_at R (ref R L ys) (mut_slice_vals (ref R L ys))) (tt, (tt, tt)) (refl, p) $ fjoin t $ fjoin t $ s))

-- the two statements that make the slice which the callee is lent, of the local at n: the address, into the local at m, and the address with the
-- length, into the local at k
pub relends : {M : Type 1} {𝓤 : Ura M} {𝓛 : Logic 𝓤} {K : Type 0} {Γ : List (Item 𝓤)} {E : Env 𝓤 𝓛.H} {C : Calls 𝓤 𝓛.H} {Λ : Loops 𝓤 𝓛.H} {z : Post 𝓤 𝓛.H} → K → (n m k : ℕ) {s a l : ℕ} {τ σ : Ty} {ℓ : Lifetime} {μ : Mutability} {b o c : ℕ} {rest : Body}
    → let slice = ‵ (fat full_share (slice_ty (ty_ref ℓ μ σ)) (spot_of 𝓤 𝓛.H E s).1 0 (slice_val (b, o) c)) in
    let address = ‵ (fat full_share (spot_of 𝓤 𝓛.H E a).0 (spot_of 𝓤 𝓛.H E a).1 0 (vptr b o)) in
    let Γ' = put 𝓛 m address Γ in nth 𝓛 n Γ ≡ slice → (spot_of 𝓤 𝓛.H E s).0 ≡ slice_ty (ty_ref ℓ μ σ)
    → nth 𝓛 m Γ ≡ ‵ (froom (spot_of 𝓤 𝓛.H E a).0 (spot_of 𝓤 𝓛.H E a).1 0) → T (has_ty (spot_of 𝓤 𝓛.H E a).0 (vptr b o)) → nth 𝓛 m Γ' ≡ address → nth 𝓛 n Γ' ≡ slice
    → nth 𝓛 k Γ' ≡ ‵ (froom (spot_of 𝓤 𝓛.H E l).0 (spot_of 𝓤 𝓛.H E l).1 0) → T (has_ty (spot_of 𝓤 𝓛.H E l).0 (slice_val (b, o) c)) → c < 2 ^ 64
    → Step K 𝓛 (put 𝓛 k (‵ (fat full_share (spot_of 𝓤 𝓛.H E l).0 (spot_of 𝓤 𝓛.H E l).1 0 (slice_val (b, o) c))) Γ') (runs C Λ E rest z) Γ
    (runs C Λ E (seq (assign (place a []) (addr_of (place s (field 0 ∷ deref τ ∷ [])))) (seq (assign (place l []) (aggregate (copy (place a []) ∷ copy (place s (field 1 ∷ [])) ∷ []))) rest)) z)
relends {𝓤 = 𝓤} {𝓛 = 𝓛} {K = K} {Γ = Γ} {E = E} t n m k {s} {a} {l} {τ} {σ} {ℓ} {μ} {b} {o} {c} e is e₁ h₁ e₂ e₃ e₄ h₂ f = step (λ go.
    sets t (addr t (from t (fld t (ap (λ (τ : Ty). field_of τ 0) is) (hop t (reads-field t n 0 e refl) (stop t))))) (init t m e₁ (h₁, tt)) $ sets t (agg t (and_then t (its t m e₂) (and_then t (field-of t n e₃ (ap (λ (τ : Ty). field_of τ 1) is) refl) (no_more t)))) (init t k e₄ (h₂, (tt, (record { fits = f }, tt)))) $ go)

-- A part of a `&κ mut [T]`, from element n to the end, is lent for the time of a call, and comes back with what the callee left there. At n = 0
-- all of it is lent.
--     start            where the part begins: n elements further
--     Keeps            what the lender keeps meanwhile
--     part-call        from [i; own (the slice at ys); [κ]_q; Γ] the walk runs the call, and then is at [j; own (the slice at take n ys ++ zs);
--                      [κ]_q; Γ], where P r zs is what the callee's `post` says of its result and of the part's last list. i is what the callee
--                      takes beside the part, and j what it gives back. The operands are read at [the callee's pre; what the lender keeps; Γ]
-- Assumes `Logic`, and that the table of calls is monotone under a frame.
use mathlib.Core.Path.{◌≡◌, refl, sym, ◌∙◌, ap, subst}
use Prim.Native.Nat.{ℕ, ◌+◌, ◌≤◌}
use native.Mathlib.Nat.{le_refl}
use mathlib.Core.List.{List, [], ◌∷◌, ◌++◌, append-nil}
use lib.ListN.{length, take, drop as rest_of, length-map, length-append, take-append-drop, drop_of_length-le}
use lib.Seq.{take-length, length-take-le}
use seplogic.Ra.Ura.{Ura}
use base.Fraction.{full_share}
use mir.Syntax.{Lifetime, Callee, Place, Opd as Operand, Body, seq, call}
use mir.Val.{Val}
use base.Logic.{ent, sep, ex, guard}
use base.Fml.{Lft, GName, Share, Fml, fsep, flft, fobs, fbor}
use prog.Wp.{Env, Calls, Loops}
use types.Logic.{Logic, sem}
use sound.WpLaws.{FmC}
use types.Kit.{Item, ‵, raw, given, ◌⊛◌, some, later, mean, Post, runs, lands, Seq, ◌$◌, ◌∵◌, !, qed, move, rewrite, use1, use2, use3, split, pick, learn, fsplit, fjoin, feq_l, feq_i, show, await, updating, now as at_once, done}
use types.Run.{Opds}
use types.Tokens.{lft_new, lft_end}
use types.SemTy.{Arr, Body as Behind}
use types.Hole.{Holey, here}
use denote.RattleType.{RattleType}
use denote.Builtin.{u8}
use denote.Memory.{mem}
use denote.Ref.{MutBor}
use denote.Slice.{slice_val, MutSlice, room, heres, finally, coded_holeys}
use denote.Triple.Call.{calls_from}
use denote.Triple.Statement.{Contract}
use borrow.Table.Elements.{at, at_byte}
use borrow.Rule.Slice.PartMut.{start_at, kept_m, mid_of, put_mid, sl_relendᵐ, sl_relent_backᵐ}
use Rattle.walk_kit.proofs.Tokens.{tok}

-- the reference at (b, o) under the name δ, to the list l
abbrev pub slice_at : (R : RattleType) → ℕ → ℕ → GName → List R.Denot → MutBor (List R.Denot)
slice_at R b o δ l = record { ref_ptr = (b, o); ghost_name = δ; now = l }

-- what it owns beside its machine value
abbrev Bare : (R : RattleType) → Lft → ℕ → ℕ → GName → List R.Denot → Fml
Bare R κ b o δ l = fsep (room R (length l)) (fsep (fobs δ ((coded_holeys R).code (heres R l))) (fbor κ (Behind (Arr (Holey (mem R)) (length l)) b o δ)))

-- nothing lies after the part

put_back : {X : Type 0} (n : ℕ) (ys zs : List X) → put_mid n (length (rest_of n ys)) ys zs ≡ take n ys ++ zs
put_back n ys zs = ap (λ (l : List _). take n ys ++ l) (ap (λ (l : List _). zs ++ l) (drop_of_length-le (rest_of n ys) {i = length (rest_of n ys)} (le_refl (length (rest_of n ys)))) ∙ append-nil zs)

abbrev pub start : (R : RattleType) → ℕ → List R.Denot → ℕ → ℕ
start R o ys n = start_at R ys n o

module _ (R : RattleType) (κ : Lft) (q : Share) (γ : GName) (b o : ℕ) (ys : List R.Denot) (n : ℕ) where
  abbrev pub Keeps : Lft → GName → Fml
  Keeps κ' δ = kept_m R κ q κ' γ δ ys n (length (rest_of n ys)) b o

  -- what the callee is lent, at the lifetime ν and under the name δ
  abbrev pub Lent : Lifetime → ℕ → GName → Fml
  Lent ℓ ν δ = (MutSlice ℓ (ν ∷ []) R).own_val (slice_at R b (start R o ys n) δ (rest_of n ys)) (slice_val (b, start R o ys n) (length (rest_of n ys)) ∷ [])

  module _ {M : Type 1} {𝓤 : Ura M} (𝓛 : Logic 𝓤) (ℓ ℓ' : Lifetime) (m : ℕ) (e : length ys ≡ m) (ν : ℕ) where
    open 𝓛 use {H, A}

    lends_part : ent 𝓤 (sep 𝓤 (sem 𝓛 ((MutSlice ℓ κ R).own_val (slice_at R b o γ ys) (slice_val (b, o) m ∷ []))) (A.lft κ q))
        (H.⇛ (ex 𝓤 (λ (δ : GName). sep 𝓤 (sem 𝓛 (Lent ℓ' ν δ)) (sem 𝓛 (Keeps (ν ∷ []) δ)))))
    lends_part =
        qed 𝓛 (‵ ((MutSlice ℓ κ R).own_val (slice_at R b o γ ys) (slice_val (b, o) m ∷ [])) ∷ ‵ (flft κ q) ∷ []) ∵ updating ! $ fsplit ! $ fsplit ! $ feq_l ! (λ _. fjoin ! $
        use2 𝓛 (later (some (λ (δ : GName). ‵ (Bare R (ν ∷ []) b (start R o ys n) δ (mid_of n (length (rest_of n ys)) ys)) ⊛ ‵ (Keeps (ν ∷ []) δ)))) (sl_relendᵐ 𝓛 R κ q (ν ∷ []) b o γ ys n (length (rest_of n ys))) $ await ! tt $ pick ! (λ δ. split ! $
        rewrite ! 0 (λ (l : List R.Denot). ‵ (Bare R (ν ∷ []) b (start R o ys n) δ l)) (take-length (rest_of n ys)) refl $ at_once ! $
        show ! (λ (δ' : GName). sep 𝓤 (sem 𝓛 (Lent ℓ' ν δ')) (sem 𝓛 (Keeps (ν ∷ []) δ'))) δ $
        fsplit ! $ feq_i ! (List Val) (slice_val (b, start R o ys n) (length (rest_of n ys)) ∷ []) (slice_val (b, start R o ys n) (length (rest_of n ys)) ∷ []) refl $ fjoin ! $ fjoin ! $ done !))

    part-back : (δ : GName) (zs : List R.Denot) → ent 𝓤 (sep 𝓤 (A.dead (ν ∷ [])) (sep 𝓤 (sem 𝓛 (Keeps (ν ∷ []) δ)) (sem 𝓛 (finally R δ zs))))
        (H.⇛ (guard 𝓤 (length zs ≡ length (rest_of n ys)) (sep 𝓤 (sem 𝓛 (Bare R κ b o γ (take n ys ++ zs))) (A.lft κ q))))
    part-back δ zs =
        subst (λ (l : List R.Denot). ent 𝓤 (sep 𝓤 (A.dead (ν ∷ [])) (sep 𝓤 (sem 𝓛 (Keeps (ν ∷ []) δ)) (sem 𝓛 (finally R δ zs)))) (H.⇛ (guard 𝓤 (length zs ≡ length l) (sep 𝓤 (sem 𝓛 (Bare R κ b o γ (take n ys ++ zs))) (A.lft κ q)))))
        (take-length (rest_of n ys))
        (subst (λ (l : List R.Denot). ent 𝓤 (sep 𝓤 (A.dead (ν ∷ [])) (sep 𝓤 (sem 𝓛 (Keeps (ν ∷ []) δ)) (sem 𝓛 (finally R δ zs)))) (H.⇛ (guard 𝓤 (length zs ≡ length (mid_of n (length (rest_of n ys)) ys)) (sep 𝓤 (sem 𝓛 (Bare R κ b o γ l)) (A.lft κ q)))))
        (put_back n ys zs)
        (sl_relent_backᵐ 𝓛 R κ q (ν ∷ []) b o γ δ ys n (length (rest_of n ys)) zs))

-- the length of the whole, once the part is back
pub same_length : {X : Type 0} (n : ℕ) (ys zs : List X) → length zs ≡ length (rest_of n ys) → length (take n ys ++ zs) ≡ length ys
same_length n ys zs l = length-append (take n ys) zs ∙ ap (λ (k : ℕ). length (take n ys) + k) l ∙ sym (length-append (take n ys) (rest_of n ys)) ∙ ap length (take-append-drop n ys)

-- of bytes, the part begins n bytes further
pub start-byte : (o : ℕ) (ys : List ℕ) (n : ℕ) → n ≤ length ys → start u8 o ys n ≡ n + o
start-byte o ys n h = ap (at o (mem u8).size) (length-map (take n ys) (here (mem u8)) ∙ length-take-le n ys h) ∙ at_byte o n

module _ {M : Type 1} {𝓤 : Ura M} {𝓛 : Logic 𝓤} {K : Type 0} {Γ : List (Item 𝓤)} {E : Env 𝓤 𝓛.H} {C : Calls 𝓤 𝓛.H} {Λ : Loops 𝓤 𝓛.H} {p : Post 𝓤 𝓛.H} {f : Callee} {xs : List Operand} {d : Place} {rest : Body} where
  open 𝓛 use {H, A}

  pub part-call : K → FmC 𝓤 H 𝓛.laws C → (R : RattleType) (ℓ ℓ' : Lifetime) (κ : Lft) (q : Share) (γ : GName) (b o : ℕ) (ys : List R.Denot) (m : ℕ) → length ys ≡ m → (n : ℕ)
      → (c : Contract 𝓤) (y : ℕ → GName → c.Ghost) → ((ν : ℕ) (δ : GName) → ent 𝓤 (c.pre (y ν δ)) (C f (c.args (y ν δ)) (c.post (y ν δ))))
      → (i j : Item 𝓤) (P : Val → List R.Denot → Type 0)
      → ((ν : ℕ) (δ : GName) → ent 𝓤 (sep 𝓤 (mean 𝓛 i) (sep 𝓤 (A.lft (ν ∷ []) full_share) (sem 𝓛 (Lent R κ q γ b o ys n ℓ' ν δ)))) (c.pre (y ν δ)))
      → ((ν : ℕ) (δ : GName) (r : Val) → ent 𝓤 (c.post (y ν δ) r) (H.⇛ (ex 𝓤 (λ (zs : List R.Denot). guard 𝓤 (P r zs) (sep 𝓤 (mean 𝓛 j) (sep 𝓤 (A.lft (ν ∷ []) full_share) (sem 𝓛 (finally R δ zs))))))))
      → ((ν : ℕ) (δ : GName) → Opds K 𝓛 (raw (c.pre (y ν δ)) ∷ ‵ (Keeps R κ q γ b o ys n (ν ∷ []) δ) ∷ Γ) E xs (c.args (y ν δ)))
      → ((r : Val) (zs : List R.Denot) → P r zs → length (take n ys ++ zs) ≡ m → Seq K 𝓛 (j ∷ ‵ ((MutSlice ℓ κ R).own_val (slice_at R b o γ (take n ys ++ zs)) (slice_val (b, o) m ∷ [])) ∷ ‵ (flft κ q) ∷ Γ) (lands C Λ E d r rest p))
      → Seq K 𝓛 (i ∷ ‵ ((MutSlice ℓ κ R).own_val (slice_at R b o γ ys) (slice_val (b, o) m ∷ [])) ∷ ‵ (flft κ q) ∷ Γ) (runs C Λ E (seq (call f xs d) rest) p)
  part-call t fm R ℓ ℓ' κ q γ b o ys m e n c y met i j P pre post os k =
      lft_new t tt (λ ν. move t (2 ∷ 3 ∷ []) $
      use2 𝓛 (later (some (λ (δ : GName). ‵ (Lent R κ q γ b o ys n ℓ' ν δ) ⊛ ‵ (Keeps R κ q γ b o ys n (ν ∷ []) δ)))) (lends_part R κ q γ b o ys n 𝓛 ℓ ℓ' m e ν) $ await t tt $ pick t (λ δ. split t $
      move t (3 ∷ 2 ∷ 0 ∷ []) $ use3 𝓛 (raw (c.pre (y ν δ))) (pre ν δ) $
      calls_from t fm (raw (c.pre (y ν δ))) (c.args (y ν δ)) (c.post (y ν δ)) (met ν δ) (os ν δ) (λ r.
      use1 𝓛 (later (some (λ (zs : List R.Denot). given (P r zs) (j ⊛ (tok ν ⊛ ‵ (finally R δ zs)))))) (post ν δ r) $ await t tt $ pick t (λ zs. learn t (λ h. split t $ move t (1 ∷ []) $ split t $ lft_end t tt $
      move t (0 ∷ 3 ∷ 1 ∷ []) $ use3 𝓛 (later (given (length zs ≡ length (rest_of n ys)) (‵ (Bare R κ b o γ (take n ys ++ zs)) ⊛ ‵ (flft κ q)))) (part-back R κ q γ b o ys n 𝓛 ℓ ℓ' m e ν δ zs) $ await t tt $ learn t (λ l. split t $
      fsplit t $ feq_i t (List Val) (slice_val (b, o) m ∷ []) (slice_val (b, o) (length (take n ys ++ zs)) ∷ []) (ap (λ (z : ℕ). slice_val (b, o) z ∷ []) (sym (same_length n ys zs l ∙ e))) $ fjoin t $ fjoin t $
      move t (2 ∷ 0 ∷ []) $ k r zs h (same_length n ys zs l ∙ e)))))))

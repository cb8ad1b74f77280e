-- The last steps of a walk: the result is read, and the locals are freed, whether they hold a value or not; what remains is what the function
-- owes its caller.
--     closing, closing-within      the step, at the end and inside a branch: n is the number of entries before the locals, and both equations
--                                  are `refl`
--     locals_of                    the locals, of which the first hold what is listed
--     keeping                      the locals after the first m are emptied
--     leaving                      the end of the walk: what remains is the result, the tokens and what the parameters own, and the function's
--                                  `ensures` is shown
-- Definitions assume nothing; the steps assume `Logic`.
use mathlib.Core.Path.{◌≡◌, refl, sym, subst}
use mathlib.Core.Option.{Option, some, none}
use mathlib.Core.List.{List, [], ◌∷◌, ◌++◌}
use Prim.Native.Nat.{ℕ, zero, suc}
use seplogic.Ra.Ura.{Ura}
use mir.Syntax.{Ty, return}
use mir.Val.{Val}
use base.Logic.{SProp, ent, sep, wand, emp, id⊢, via, comm∗, assoc∗, assoc', emp∗, mono_l, mono_r, fst∗, wand_i, apply∗}
use base.Fml.{Fml, ftrue, ffalse, feq, flt, fsep, fand, for, fwand, fex, fall, fupd, fat, froom, fdies, flft, fdead, fobs, fauth, fres, fbor, fobor, flent, fshr_bor, fhide, fleft, fown, finv, fnamed, ftok, fkid, fme, fsent}
use prog.Wp.{Env, Calls, Loops, release, read, returns as returnsᴼ, at_return}
use types.Logic.{Logic}
use sound.WpLaws.{read_fm}
use types.Kit.{Goal, Item, Post, post, frees, ⊢++, Seq, Step, step, ‵, raw, ◌⊛◌, some as exists, given, later, mean, ⋆, push, pop, runs, prop, at_ret, ◌$◌, move, suffices, frame, done}
use types.Run.{Reads, look, returns_within}
use denote.Signature.{type_at}
use denote.Triple.Clauses.{Ended, Clauses, Lasts, at_exit}
use denote.Triple.Entry.{Res, alive}
use denote.Triple.Walked.{Stays, Fit, has_of, on_exit, walk_of, ends_at}
use Rattle.walk_kit.proofs.Locals.{has, free}

-- all the locals: each stands before those that were made before it
abbrev rooms : {M : Type 1} {𝓤 : Ura M} → List (Ty × ℕ) → List (Item 𝓤) → List (Item 𝓤)
rooms [] Γ = Γ
rooms (e ∷ E) Γ = rooms E (free e.0 e.1 Γ)

module _ {M : Type 1} {𝓤 : Ura M} (𝓛 : Logic 𝓤) where
  open 𝓛 use {H}

  abbrev one : Ty × ℕ → SProp 𝓤
  one e = sep 𝓤 (H.room e.0 e.1 0) (H.dies e.0 e.1)

  past : (P Q R : SProp 𝓤) → ent 𝓤 (sep 𝓤 P (sep 𝓤 Q R)) (sep 𝓤 Q (sep 𝓤 P R))
  past P Q R = via 𝓤 (sep 𝓤 (sep 𝓤 P Q) R) (assoc' 𝓤 P Q R) (via 𝓤 (sep 𝓤 (sep 𝓤 Q P) R) (mono_l 𝓤 R (comm∗ 𝓤 P Q)) (assoc∗ 𝓤 Q P R))

  -- entries beside the locals stay as they are where the locals are freed, and the other way round
  into : (E : Env 𝓤 H) (Q P : SProp 𝓤) {P' : SProp 𝓤} → ent 𝓤 (sep 𝓤 Q P) P' → ent 𝓤 (sep 𝓤 Q (release 𝓤 H E P)) (release 𝓤 H E P')
  into [] Q P h = h
  into (e ∷ E) Q P h = via 𝓤 (sep 𝓤 (one e) (sep 𝓤 Q (release 𝓤 H E P))) (past Q (one e) (release 𝓤 H E P)) (mono_r 𝓤 (one e) (into E Q P h))

  out : (E : Env 𝓤 H) (Q P : SProp 𝓤) → ent 𝓤 (release 𝓤 H E (sep 𝓤 Q P)) (sep 𝓤 Q (release 𝓤 H E P))
  out [] Q P = id⊢ 𝓤 (sep 𝓤 Q P)
  out (e ∷ E) Q P = via 𝓤 (sep 𝓤 (one e) (sep 𝓤 Q (release 𝓤 H E P))) (mono_r 𝓤 (one e) (out E Q P)) (past (one e) Q (release 𝓤 H E P))

  emptied : (E : Env 𝓤 H) (Γ : List (Item 𝓤)) (P : SProp 𝓤) → ent 𝓤 (⋆ 𝓛 Γ) P → ent 𝓤 (⋆ 𝓛 (rooms E Γ)) (release 𝓤 H E P)
  emptied [] Γ P h = h
  emptied (e ∷ E) Γ P h =
      via 𝓤 (release 𝓤 H E (sep 𝓤 (one e) P))
      (emptied E (free e.0 e.1 Γ) (sep 𝓤 (one e) P)
      (via 𝓤 (sep 𝓤 (H.room e.0 e.1 0) (sep 𝓤 (H.dies e.0 e.1) (⋆ 𝓛 Γ))) (mono_r 𝓤 (H.room e.0 e.1 0) (pop 𝓛 (‵ (fdies e.0 e.1)) Γ))
      (via 𝓤 (sep 𝓤 (one e) (⋆ 𝓛 Γ)) (assoc' 𝓤 (H.room e.0 e.1 0) (H.dies e.0 e.1) (⋆ 𝓛 Γ)) (mono_r 𝓤 (one e) h))))
      (out E (one e) P)

module _ {M : Type 1} {𝓤 : Ura M} {𝓛 : Logic 𝓤} {K : Type 0} where
  -- Δ: the entries before the locals, which remain
  open 𝓛 use {H}

  releases : K → (Δ : List (Item 𝓤)) {E : Env 𝓤 H} {g : Goal 𝓤 H} → Step K 𝓛 Δ g (Δ ++ rooms E []) (frees E g)
  releases t Δ {E} {g} = step (λ s. record {
    prf = via 𝓤 (sep 𝓤 (⋆ 𝓛 Δ) (⋆ 𝓛 (rooms E []))) (⊢++ 𝓛 Δ (rooms E []))
        (via 𝓤 (sep 𝓤 (⋆ 𝓛 Δ) (release 𝓤 H E (emp 𝓤))) (mono_r 𝓤 (⋆ 𝓛 Δ) (emptied 𝓛 E [] (emp 𝓤) (id⊢ 𝓤 (emp 𝓤))))
        (into 𝓛 E (⋆ 𝓛 Δ) (emp 𝓤) (via 𝓤 (⋆ 𝓛 Δ) (fst∗ 𝓤 (⋆ 𝓛 Δ) (emp 𝓤)) s.prf)));
  })

-- the value that a local holds, read off its entry
abbrev value_in : Fml → Option Val
value_in ftrue = none
value_in ffalse = none
value_in (feq X x y) = none
value_in (flt m n) = none
value_in (fsep P Q) = none
value_in (fand P Q) = none
value_in (for P Q) = none
value_in (fwand P Q) = none
value_in (fex X P) = none
value_in (fall X P) = none
value_in (fupd P) = none
value_in (fat q τ b o v) = some v
value_in (froom τ b o) = none
value_in (fdies τ b) = none
value_in (flft κ q) = none
value_in (fdead κ) = none
value_in (fobs γ x) = none
value_in (fauth γ x) = none
value_in (fres γ x) = none
value_in (fbor κ P) = none
value_in (fobor κ q P) = none
value_in (flent κ P) = none
value_in (fshr_bor κ P) = none
value_in (fhide P) = none
value_in (fleft q ω τs b o) = none
value_in (fown R γ x) = none
value_in (finv P) = none
value_in (fnamed n P) = none
value_in (ftok m) = none
value_in (fkid h a) = none
value_in (fme h) = none
value_in (fsent h) = none

abbrev holds : {M : Type 1} {𝓤 : Ura M} → Item 𝓤 → Option Val
holds (‵ P) = value_in P
holds (raw P) = none
holds (i ⊛ j) = none
holds (exists F) = none
holds (given φ i) = none
holds (later i) = none

-- of all locals, the result's first
abbrev held : {M : Type 1} {𝓤 : Ura M} → List (Option Val) → List (Item 𝓤) → List (Option Val)
held os [] = os
held os (i ∷ []) = os
held os (i ∷ d ∷ Γ) = held (holds i ∷ os) Γ

abbrev local-of : {M : Type 1} {𝓤 : Ura M} → Ty → ℕ → Option Val → List (Item 𝓤) → List (Item 𝓤)
local-of τ l none Γ = free τ l Γ
local-of τ l (some v) Γ = has τ l v Γ

-- all locals, of which the first hold what is listed, and the others nothing
abbrev pub locals_of : {M : Type 1} {𝓤 : Ura M} → List (Ty × ℕ) → List (Option Val) → List (Item 𝓤) → List (Item 𝓤)
locals_of E [] Γ = rooms E Γ
locals_of [] (o ∷ os) Γ = Γ
locals_of (e ∷ E) (o ∷ os) Γ = locals_of E os (local-of e.0 e.1 o Γ)

abbrev firsts : ℕ → List (Option Val) → List (Option Val)
firsts n [] = []
firsts zero (o ∷ os) = []
firsts (suc n) (o ∷ os) = o ∷ firsts n os

abbrev before : {M : Type 1} {𝓤 : Ura M} → ℕ → List (Item 𝓤) → List (Item 𝓤)
before zero Γ = []
before (suc n) [] = []
before (suc n) (i ∷ Γ) = i ∷ before n Γ

abbrev after : {M : Type 1} {𝓤 : Ura M} → ℕ → List (Item 𝓤) → List (Item 𝓤)
after zero Γ = Γ
after (suc n) [] = []
after (suc n) (i ∷ Γ) = after n Γ

module _ {M : Type 1} {𝓤 : Ura M} (𝓛 : Logic 𝓤) where
  more : (i : Item 𝓤) (Γ Γ' : List (Item 𝓤)) → ent 𝓤 (⋆ 𝓛 Γ) (⋆ 𝓛 Γ') → ent 𝓤 (⋆ 𝓛 (i ∷ Γ)) (⋆ 𝓛 (i ∷ Γ'))
  more i Γ Γ' h = via 𝓤 (sep 𝓤 (mean 𝓛 i) (⋆ 𝓛 Γ)) (pop 𝓛 i Γ) (via 𝓤 (sep 𝓤 (mean 𝓛 i) (⋆ 𝓛 Γ')) (mono_r 𝓤 (mean 𝓛 i) h) (push 𝓛 i Γ'))

  more-rooms : (E : List (Ty × ℕ)) (Γ Γ' : List (Item 𝓤)) → ent 𝓤 (⋆ 𝓛 Γ) (⋆ 𝓛 Γ') → ent 𝓤 (⋆ 𝓛 (rooms E Γ)) (⋆ 𝓛 (rooms E Γ'))
  more-rooms [] Γ Γ' h = h
  more-rooms (e ∷ E) Γ Γ' h = more-rooms E (free e.0 e.1 Γ) (free e.0 e.1 Γ') (more (‵ (froom e.0 e.1 0)) (‵ (fdies e.0 e.1) ∷ Γ) (‵ (fdies e.0 e.1) ∷ Γ') (more (‵ (fdies e.0 e.1)) Γ Γ' h))

  vacates : (τ : Ty) (l : ℕ) (o : Option Val) (Γ : List (Item 𝓤)) → ent 𝓤 (⋆ 𝓛 (local-of τ l o Γ)) (⋆ 𝓛 (free τ l Γ))
  vacates τ l none Γ = id⊢ 𝓤 _
  vacates τ l (some v) Γ = mono_l 𝓤 (⋆ 𝓛 (‵ (fdies τ l) ∷ Γ)) (𝓛.laws.at_room τ l 0 v)

  vacated : (E : List (Ty × ℕ)) (os : List (Option Val)) (Γ : List (Item 𝓤)) → ent 𝓤 (⋆ 𝓛 (locals_of E os Γ)) (⋆ 𝓛 (rooms E Γ))
  vacated E [] Γ = id⊢ 𝓤 _
  vacated [] (o ∷ os) Γ = id⊢ 𝓤 _
  vacated (e ∷ E) (o ∷ os) Γ = via 𝓤 (⋆ 𝓛 (rooms E (local-of e.0 e.1 o Γ))) (vacated E os (local-of e.0 e.1 o Γ)) (more-rooms E (local-of e.0 e.1 o Γ) (free e.0 e.1 Γ) (vacates e.0 e.1 o Γ))

  fewer : (n : ℕ) (E : List (Ty × ℕ)) (os : List (Option Val)) (Γ : List (Item 𝓤)) → ent 𝓤 (⋆ 𝓛 (locals_of E os Γ)) (⋆ 𝓛 (locals_of E (firsts n os) Γ))
  fewer n E [] Γ = id⊢ 𝓤 _
  fewer zero E (o ∷ os) Γ = vacated E (o ∷ os) Γ
  fewer (suc n) [] (o ∷ os) Γ = id⊢ 𝓤 _
  fewer (suc n) (e ∷ E) (o ∷ os) Γ = fewer n E os (local-of e.0 e.1 o Γ)

  behind-all : (Δ Γ Γ' : List (Item 𝓤)) → ent 𝓤 (⋆ 𝓛 Γ) (⋆ 𝓛 Γ') → ent 𝓤 (⋆ 𝓛 (Δ ++ Γ)) (⋆ 𝓛 (Δ ++ Γ'))
  behind-all [] Γ Γ' h = h
  behind-all (i ∷ Δ) Γ Γ' h = more i (Δ ++ Γ) (Δ ++ Γ') (behind-all Δ Γ Γ' h)

module _ {M : Type 1} {𝓤 : Ura M} {𝓛 : Logic 𝓤} {K : Type 0} where
  -- what is read is read beside another entry too
  open 𝓛 use {H}

  beside : K → {Γ : List (Item 𝓤)} (i : Item 𝓤) {τ : Ty} {b o : ℕ} {v : Val} → Reads K 𝓛 Γ τ b o v → Reads K 𝓛 (i ∷ Γ) τ b o v
  beside t {Γ} i {τ} {b} {o} {v} r = record {
    go = λ Kt h.
        let I : SProp 𝓤 = mean 𝓛 i in
        let G : SProp 𝓤 = ⋆ 𝓛 Γ in
        let on : Val → SProp 𝓤 = λ u. wand 𝓤 I (Kt u) in
        via 𝓤 (sep 𝓤 I G) (pop 𝓛 i Γ)
        (via 𝓤 (sep 𝓤 G I) (comm∗ 𝓤 I G)
        (via 𝓤 (sep 𝓤 (read 𝓤 H τ b o on) I) (mono_l 𝓤 I (r.go on (wand_i 𝓤 G I (Kt v) (via 𝓤 (sep 𝓤 I G) (comm∗ 𝓤 G I) (via 𝓤 (⋆ 𝓛 (i ∷ Γ)) (push 𝓛 i Γ) h)))))
        (read_fm 𝓤 H 𝓛.laws τ b o on Kt I (λ u. via 𝓤 (sep 𝓤 I (on u)) (comm∗ 𝓤 (on u) I) (apply∗ 𝓤 I (Kt u))))));
  }

  beside-local : K → {Γ : List (Item 𝓤)} (σ : Ty) (l : ℕ) (s : Option Val) {τ : Ty} {b o : ℕ} {v : Val} → Reads K 𝓛 Γ τ b o v → Reads K 𝓛 (local-of σ l s Γ) τ b o v
  beside-local t σ l none r = beside t _ (beside t _ r)
  beside-local t σ l (some u) r = beside t _ (beside t _ r)

  beside-rooms : K → (E : List (Ty × ℕ)) {Γ : List (Item 𝓤)} {τ : Ty} {b o : ℕ} {v : Val} → Reads K 𝓛 Γ τ b o v → Reads K 𝓛 (rooms E Γ) τ b o v
  beside-rooms t [] r = r
  beside-rooms t (e ∷ E) r = beside-rooms t E (beside t _ (beside t _ r))

  beside-locals : K → (E : List (Ty × ℕ)) (os : List (Option Val)) {Γ : List (Item 𝓤)} {τ : Ty} {b o : ℕ} {v : Val} → Reads K 𝓛 Γ τ b o v → Reads K 𝓛 (locals_of E os Γ) τ b o v
  beside-locals t E [] r = beside-rooms t E r
  beside-locals t [] (s ∷ os) r = r
  beside-locals t (e ∷ E) (s ∷ os) r = beside-locals t E os (beside-local t e.0 e.1 s r)

  beside-all : K → (Δ : List (Item 𝓤)) {Γ : List (Item 𝓤)} {τ : Ty} {b o : ℕ} {v : Val} → Reads K 𝓛 Γ τ b o v → Reads K 𝓛 (Δ ++ Γ) τ b o v
  beside-all t [] r = r
  beside-all t (i ∷ Δ) r = beside t i (beside-all t Δ r)

  -- the first m locals hold what they hold, and the others nothing
  pub keeping : K → (E : List (Ty × ℕ)) (n m : ℕ) {Γ : List (Item 𝓤)} {G : Goal 𝓤 H} → Γ ≡ before n Γ ++ locals_of E (held [] (after n Γ)) [] → Step K 𝓛 (before n Γ ++ locals_of E (firsts m (held [] (after n Γ))) []) G Γ G
  keeping t E n m {Γ} {G} same = step (λ s. subst (λ (Δ : List (Item 𝓤)). Seq K 𝓛 Δ G) (sym same)
      (record { prf = via 𝓤 _ (behind-all 𝓛 (before n Γ) (locals_of E (held [] (after n Γ)) []) (locals_of E (firsts m (held [] (after n Γ))) []) (fewer 𝓛 m E (held [] (after n Γ)) [])) s.prf }))

  module _ (t : K) (n : ℕ) {Γ : List (Item 𝓤)} {τ : Ty} {l : ℕ} {E : Env 𝓤 H} {C : Calls 𝓤 H} {Λ : Loops 𝓤 H} {r : Val} {os : List (Option Val)} where
    -- inside a branch, as `returns_within` has it
    pub closing-within : {q : Post 𝓤 H} (Kf : Val → SProp 𝓤) → post 𝓤 H q returnsᴼ ≡ at_return 𝓤 H ((τ, l) ∷ E) Kf returnsᴼ
        → held [] (after n Γ) ≡ some r ∷ os → Γ ≡ before n Γ ++ locals_of E os (has τ l r []) → Step K 𝓛 (before n Γ) (prop (Kf r)) Γ (runs C Λ ((τ, l) ∷ E) return q)
    closing-within {q} Kf within e same = step (λ s.
        subst (λ (Δ : List (Item 𝓤)). Seq K 𝓛 Δ (runs C Λ ((τ, l) ∷ E) return q)) (sym same)
        (returns_within t Kf within (beside-all t (before n Γ) (beside-locals t E os (look t 0 refl))) $
        record { prf = via 𝓤 _ (behind-all 𝓛 (before n Γ) (locals_of E os (has τ l r [])) (rooms ((τ, l) ∷ E) []) (vacated 𝓛 ((τ, l) ∷ E) (some r ∷ os) [])) (releases t (before n Γ) {E = (τ, l) ∷ E} $ s).prf }))

    pub closing : {Kf : Val → SProp 𝓤} → held [] (after n Γ) ≡ some r ∷ os → Γ ≡ before n Γ ++ locals_of E os (has τ l r []) → Step K 𝓛 (before n Γ) (prop (Kf r)) Γ (runs C Λ ((τ, l) ∷ E) return (at_ret ((τ, l) ∷ E) Kf))
    closing {Kf} = closing-within Kf refl

module _ {M : Type 1} {𝓤 : Ura M} {𝓛 : Logic 𝓤} {K : Type 0} (T : Ended) (hs : Stays T.signature.params T.kept) (c : Clauses 𝓤 T) (y : (walk_of 𝓛 T hs c).Ghost) where
  -- `fact_i 𝓤 _ _ p` shows an `ensures` that is a fact
  pub leaving : K → {v : Val} (r : Res T.signature y.0.0) (ws : Lasts T y.0.0 y.0.3) → Fit T hs y.0.0 y.0.3 ws → ent 𝓤 (emp 𝓤) ((c y.0.0 y.0.3).ensures y.1 r (at_exit T y.0.0 y.0.3 ws))
      → Seq K 𝓛 (‵ ((type_at T.signature.result y.0.0).own_val r (v ∷ [])) ∷ raw (alive 𝓛 T.signature y.0.0 y.0.1) ∷ ‵ (has_of y.0.0 T.signature.params T.kept hs y.0.3 ws y.0.4) ∷ []) (prop ((walk_of 𝓛 T hs c).post y v))
  leaving t {v} r ws fits shown =
      let P : SProp 𝓤 = on_exit 𝓛 T hs y.0.0 y.0.1 y.0.4 v r y.0.3 ws in
      suffices t P (via 𝓤 (sep 𝓤 (emp 𝓤) P) (emp∗ 𝓤 P) (via 𝓤 (sep 𝓤 P (emp 𝓤)) (comm∗ 𝓤 (emp 𝓤) P) (via 𝓤 _ (mono_r 𝓤 P shown) (ends_at 𝓛 T hs c y v r ws fits)))) $
      move t (1 ∷ 2 ∷ []) $ frame t $ frame t $ done t

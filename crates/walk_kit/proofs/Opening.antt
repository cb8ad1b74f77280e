-- The first step of a walk: a function's locals are made, and its arguments stored.
--     Blocks, env      where the locals lie, and the environment that they are
--     Arguments        the arguments are of the types of the locals that they are stored in: `denote.Laws.all_Typed` shows it of a function's
--                      parameters
--     opened           the context then: each local comes before those that were made before it, and all before what there was
--     entering         the step
--     walking          the step, from what there is at entry: the tokens, and what the parameters own
-- Definitions assume nothing; the steps assume `Logic`.
use mathlib.Core.Path.{refl}
use mathlib.Core.List.{List, [], ◌∷◌}
use Prim.Native.Nat.{ℕ}
use lib.Dec.{T}
use seplogic.Ra.Ura.{Ura}
use mir.Syntax.{Ty, Local, local, Fn}
use mir.Val.{Val, WT, has_ty}
use base.Logic.{SProp, ent, sep, wand, via, comm∗, mono_l, wand_i, apply∗}
use prog.Wp.{Env, Calls, Loops, WpFn, write}
use types.Logic.{Logic}
use sound.WpLaws.{write_fm}
use types.Kit.{Goal, Go, !, Item, Seq, ‵, raw, mean, ⋆, push, pop, runs, prop, allocs, params', passes, at_ret, ◌$◌}
use types.Run.{Writes, init, enter, alloc1, alloc0, params1, pass1, pass0}
use contract.Lifetimes.{Lfts, Shares}
use denote.RattleType.{owns, flat}
use denote.Signature.{Signature, types_at}
use denote.Triple.Entry.{Args, Vals, alive, on_entry}
use Rattle.walk_kit.proofs.Locals.{has, free}

abbrev pub Blocks : List Local → Type 0
Blocks [] = Unit
Blocks (l ∷ ls) = ℕ × Blocks ls

abbrev pub env : (ls : List Local) → Blocks ls → List (Ty × ℕ)
env [] bs = []
env (local τ h ∷ ls) bs = (τ, bs.0) ∷ env ls bs.1

abbrev Stored : List Local → List Val → Type 0
Stored ls [] = Unit
Stored [] (v ∷ vs) = ⊥
Stored (local τ h ∷ ls) (v ∷ vs) = (T (has_ty τ v) × WT v) × Stored ls vs

-- the first local is the result's
abbrev pub Arguments : List Local → List Val → Type 0
Arguments [] vs = ⊥
Arguments (l ∷ ls) vs = Stored ls vs

abbrev made : {M : Type 1} {𝓤 : Ura M} (ls : List Local) → Blocks ls → List (Item 𝓤) → List (Item 𝓤)
made [] bs Γ = Γ
made (local τ h ∷ ls) bs Γ = made ls bs.1 (free τ bs.0 Γ)

abbrev filled : {M : Type 1} {𝓤 : Ura M} (ls : List Local) (vs : List Val) → Blocks ls → List (Item 𝓤) → List (Item 𝓤)
filled ls [] bs Γ = made ls bs Γ
filled [] (v ∷ vs) bs Γ = Γ
filled (local τ h ∷ ls) (v ∷ vs) bs Γ = filled ls vs bs.1 (has τ bs.0 v Γ)

abbrev pub opened : {M : Type 1} {𝓤 : Ura M} (ls : List Local) (vs : List Val) → Blocks ls → List (Item 𝓤) → List (Item 𝓤)
opened [] vs bs Γ = Γ
opened (local τ h ∷ ls) vs bs Γ = filled ls vs bs.1 (free τ bs.0 Γ)

module _ {M : Type 1} {𝓤 : Ura M} {𝓛 : Logic 𝓤} {K : Type 0} where
  -- what is stored is stored beside another entry too
  open 𝓛 use {H}

  beside : K → {Γ Γ' : List (Item 𝓤)} (i : Item 𝓤) {τ : Ty} {b o : ℕ} {v : Val} → Writes K 𝓛 Γ τ b o v Γ' → Writes K 𝓛 (i ∷ Γ) τ b o v (i ∷ Γ')
  beside t {Γ} {Γ'} i {τ} {b} {o} {v} w = record {
    go = λ P h.
        let I : SProp 𝓤 = mean 𝓛 i in
        let G : SProp 𝓤 = ⋆ 𝓛 Γ in
        let G' : SProp 𝓤 = ⋆ 𝓛 Γ' in
        via 𝓤 (sep 𝓤 I G) (pop 𝓛 i Γ)
        (via 𝓤 (sep 𝓤 G I) (comm∗ 𝓤 I G)
        (via 𝓤 (sep 𝓤 (write 𝓤 H τ b o v (wand 𝓤 I P)) I) (mono_l 𝓤 I (w.go (wand 𝓤 I P) (wand_i 𝓤 G' I P (via 𝓤 (sep 𝓤 I G') (comm∗ 𝓤 G' I) (via 𝓤 (⋆ 𝓛 (i ∷ Γ')) (push 𝓛 i Γ') h)))))
        (write_fm 𝓤 H 𝓛.laws τ b o v (wand 𝓤 I P) P I (via 𝓤 (sep 𝓤 I (wand 𝓤 I P)) (comm∗ 𝓤 (wand 𝓤 I P) I) (apply∗ 𝓤 I P)))));
  }

  under : K → (ls : List Local) (bs : Blocks ls) {Γ Γ' : List (Item 𝓤)} {τ : Ty} {b o : ℕ} {v : Val} → Writes K 𝓛 Γ τ b o v Γ' → Writes K 𝓛 (made ls bs Γ) τ b o v (made ls bs Γ')
  under t [] bs w = w
  under t (local τ h ∷ ls) bs w = under t ls bs.1 (beside t _ (beside t _ w))

  makes-all : K → (ls : List Local) {Γ : List (Item 𝓤)} {Kt : Env 𝓤 H → Goal 𝓤 H} → ((bs : Blocks ls) → Seq K 𝓛 (made ls bs Γ) (Kt (env ls bs))) → Seq K 𝓛 Γ (allocs ls Kt)
  makes-all t [] k = alloc0 t $ k tt
  makes-all t (local τ h ∷ ls) k = alloc1 t (λ b. makes-all t ls (λ bs. k (b, bs)))

  stores-all : K → (ls : List Local) (vs : List Val) (bs : Blocks ls) (Γ : List (Item 𝓤)) {g : Goal 𝓤 H} → Stored ls vs → Seq K 𝓛 (filled ls vs bs Γ) g → Seq K 𝓛 (made ls bs Γ) (passes (env ls bs) vs g)
  stores-all t ls [] bs Γ are s = pass0 t $ s
  stores-all t [] (v ∷ vs) bs Γ are s = absurd are
  stores-all t (local τ h ∷ ls) (v ∷ vs) bs Γ are s = pass1 t (under t ls bs.1 (init t 0 refl are.0)) $ stores-all t ls vs bs.1 (has τ bs.0 v Γ) are.1 s

  from-locals : K → (ls : List Local) (vs : List Val) {Γ : List (Item 𝓤)} {Kt : Env 𝓤 H → Goal 𝓤 H} → Arguments ls vs → ((bs : Blocks ls) → Seq K 𝓛 (opened ls vs bs Γ) (Kt (env ls bs))) → Seq K 𝓛 Γ (allocs ls (λ E. params' E vs (Kt E)))
  from-locals t [] vs are k = absurd are
  from-locals t (local τ h ∷ ls) vs {Γ} are k = makes-all t (local τ h ∷ ls) (λ bs. params1 t $ stores-all t ls vs bs.1 (free τ bs.0 Γ) are (k bs))

  pub entering : K → (C : Calls 𝓤 H) (Λ : Loops 𝓤 H) (f : Fn) (vs : List Val) {Kf : Val → SProp 𝓤} {Γ : List (Item 𝓤)} → Arguments f.locals vs
      → ((bs : Blocks f.locals) → Seq K 𝓛 (opened f.locals vs bs Γ) (runs C Λ (env f.locals bs) f.body (at_ret (env f.locals bs) Kf))) → Seq K 𝓛 Γ (prop (WpFn 𝓤 H C Λ f vs Kf))
  entering t C Λ f vs {Kf} are k = enter t C Λ f vs Kf $ from-locals t f.locals vs are k

-- a walk from what there is at entry
pub walking : {M : Type 1} {𝓤 : Ura M} (𝓛 : Logic 𝓤) (S : Signature) (κs : Lfts S.lifetimes) (qs : Shares S.lifetimes) (a : Args S κs) (vs : Vals S κs) (C : Calls 𝓤 𝓛.H) (Λ : Loops 𝓤 𝓛.H) (f : Fn) {Kf : Val → SProp 𝓤}
    → Arguments f.locals (flat (types_at S.params κs) vs)
    → ((bs : Blocks f.locals) → Seq (Go {0}) 𝓛 (opened f.locals (flat (types_at S.params κs) vs) bs (raw (alive 𝓛 S κs qs) ∷ ‵ (owns (types_at S.params κs) a vs) ∷ [])) (runs C Λ (env f.locals bs) f.body (at_ret (env f.locals bs) Kf)))
    → ent 𝓤 (on_entry 𝓛 S κs qs a vs) (WpFn 𝓤 𝓛.H C Λ f (flat (types_at S.params κs) vs) Kf)
walking 𝓛 S κs qs a vs C Λ f are k = (entering ! C Λ f _ are k).prf

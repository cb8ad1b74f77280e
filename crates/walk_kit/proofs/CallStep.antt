-- A call as one step of a walk, for a callee whose `ensures` is a fact. Before the call the walk gives the callee what its contract asks for;
-- after it the walk owns the result, at its machine value, and the tokens, and knows the fact.
--     calls-lasting    keeps what the contract says of the last values of what the callee was lent
--     calls-for        for a contract that says nothing of them
-- Assumes `Logic`.
use mathlib.Core.Path.{sym, ap, subst}
use mathlib.Core.List.{List, [], ◌∷◌}
use seplogic.Ra.Ura.{Ura}
use mir.Syntax.{Callee, Place, Opd as Operand, Body, seq, call}
use mir.Val.{Val}
use base.Logic.{ent, id⊢}
use prog.Wp.{Env, Calls, Loops}
use types.Logic.{Logic}
use sound.WpLaws.{FmC}
use contract.Monad.{fact}
use types.Kit.{Item, ‵, raw, ◌⊛◌, some, later, Post, Goal, Soaks, runs, lands, settles, Seq, ◌$◌, move, drop, use1, split, pick, await}
use types.Run.{Opds}
use denote.RattleType.{RattleType}
use denote.Laws.{Is, Tells, shows}
use denote.Signature.{type_at}
use denote.Steps.{only, heard, peeks}
use denote.Triple.Bound.{Bound}
use denote.Triple.Call.{calls_at, calls_at_last}
use denote.Triple.Clauses.{Ended, Clauses, Lasts, at_exit, ensured, lasts, closing}
use denote.Triple.Entry.{alive}
use denote.Triple.Spec.{triple_of}
use denote.Triple.Statement.{Contract, Triple}

module _ {M : Type 1} {𝓤 : Ura M} (𝓛 : Logic 𝓤) (T : Ended) where
  abbrev pub Called : Clauses 𝓤 T → Contract 𝓤
  Called c = triple_of 𝓛 T.signature (closing 𝓛 T c)

  -- the result's type, and what the walk owns for a result r at the machine value u
  abbrev pub Result : Bound 𝓛 T.signature → RattleType
  Result x = type_at T.signature.result x.0

  abbrev pub Back : (x : Bound 𝓛 T.signature) → (Result x).Denot → Val → List (Item 𝓤) → List (Item 𝓤)
  Back x r u Γ = ‵ ((Result x).own_val r (u ∷ [])) ∷ raw (alive 𝓛 T.signature x.0 x.1) ∷ Γ

-- the walk of what follows the call, for each result r and the last values ws
abbrev pub After : {M : Type 1} {𝓤 : Ura M} (K : Type 0) (𝓛 : Logic 𝓤) (Γ : List (Item 𝓤)) (T : Ended) (x : Bound 𝓛 T.signature)
    (φ : (Result 𝓛 T x).Denot → Lasts T x.0 x.3 → Type 0) (val : (Result 𝓛 T x).Denot → Val) (after : Val → Goal 𝓤 𝓛.H) → Type 1
After {𝓤 = 𝓤} K 𝓛 Γ T x φ val after =
    (r : (Result 𝓛 T x).Denot) (ws : Lasts T x.0 x.3) → φ r ws → Is (Result 𝓛 T x) r (val r ∷ []) → Seq K 𝓛 (Back 𝓛 T x r (val r) (‵ (lasts T x.0 x.3 ws) ∷ Γ)) (after (val r))

module _ {M : Type 1} {𝓤 : Ura M} {𝓛 : Logic 𝓤} {K : Type 0} {Γ : List (Item 𝓤)} (T : Ended) (c : Clauses 𝓤 T) (x : Bound 𝓛 T.signature) (g : (c x.0 x.3).ghost)
    (φ : (Result 𝓛 T x).Denot → Lasts T x.0 x.3 → Type 0) (says : (r : (Result 𝓛 T x).Denot) (ws : Lasts T x.0 x.3) → ent 𝓤 ((c x.0 x.3).ensures g r (at_exit T x.0 x.3 ws)) (fact 𝓤 (φ r ws)))
    (val : (Result 𝓛 T x).Denot → Val) (tells : Tells (Result 𝓛 T x) (Is (Result 𝓛 T x)) (λ r. val r ∷ [])) where
  open 𝓛 use {H}

  answered : K → (after : Val → Goal 𝓤 H) → ((u : Val) → Soaks (after u)) → After K 𝓛 Γ T x φ val after → (u : Val) → Seq K 𝓛 (raw ((Called 𝓛 T c).post (x, g) u) ∷ Γ) (after u)
  answered t after soaks go u =
      let R = Result 𝓛 T x in
      use1 𝓛 (later (some (λ (r : R.Denot). (raw (alive 𝓛 T.signature x.0 x.1) ⊛ ‵ (R.own_val r (u ∷ []))) ⊛ raw (ensured 𝓛 T c x.0 x.3 g r)))) (id⊢ 𝓤 _) $ await t (soaks u) $ pick t (λ r.
      split t $ move t (1 ∷ []) $ use1 𝓛 (some (λ (ws : Lasts T x.0 x.3). ‵ (lasts T x.0 x.3 ws) ⊛ raw ((c x.0 x.3).ensures g r (at_exit T x.0 x.3 ws)))) (id⊢ 𝓤 _) $ pick t (λ ws.
      split t $ move t (1 ∷ []) $ use1 𝓛 (raw (fact 𝓤 (φ r ws))) (says r ws) $ heard t (φ r ws) (λ e. move t (1 ∷ []) $ split t $ move t (1 ∷ []) $
      peeks t R (Is R) (shows 𝓛 R) r (u ∷ []) (λ is.
      subst (λ (w : Val). Seq K 𝓛 (Back 𝓛 T x r w (‵ (lasts T x.0 x.3 ws) ∷ Γ)) (after w)) (sym (ap only (tells r (u ∷ []) is))) (go r ws e (subst (Is R r) (tells r (u ∷ []) is) is))))))

  module _ {E : Env 𝓤 H} {C : Calls 𝓤 H} {Λ : Loops 𝓤 H} {z : Post 𝓤 H} {k : Callee} {xs : List Operand} {d : Place} (t : K) (fm : FmC 𝓤 H 𝓛.laws C) (known : Triple 𝓤 (C k) (Called 𝓛 T c)) where
    pub calls-lasting : {rest : Body} → Opds K 𝓛 (raw ((Called 𝓛 T c).pre (x, g)) ∷ Γ) E xs ((Called 𝓛 T c).args (x, g))
        → After K 𝓛 Γ T x φ val (λ u. lands C Λ E d u rest z) → Seq K 𝓛 (raw ((Called 𝓛 T c).pre (x, g)) ∷ Γ) (runs C Λ E (seq (call k xs d) rest) z)
    calls-lasting {rest} os go = calls_at t fm (Called 𝓛 T c) known (x, g) os (answered t (λ u. lands C Λ E d u rest z) (λ _. tt) go)

    -- a call that is the last statement of its part
    pub calls-lasting-last : Opds K 𝓛 (raw ((Called 𝓛 T c).pre (x, g)) ∷ Γ) E xs ((Called 𝓛 T c).args (x, g))
        → After K 𝓛 Γ T x φ val (λ u. settles E d u z) → Seq K 𝓛 (raw ((Called 𝓛 T c).pre (x, g)) ∷ Γ) (runs C Λ E (call k xs d) z)
    calls-lasting-last os go = calls_at_last t fm (Called 𝓛 T c) known (x, g) os (answered t (λ u. settles E d u z) (λ _. tt) go)

-- the same where nothing is said of the last values
module _ {M : Type 1} {𝓤 : Ura M} {𝓛 : Logic 𝓤} {K : Type 0} {Γ : List (Item 𝓤)} (T : Ended) (c : Clauses 𝓤 T) (x : Bound 𝓛 T.signature) (g : (c x.0 x.3).ghost)
    (φ : (Result 𝓛 T x).Denot → Type 0) (says : (r : (Result 𝓛 T x).Denot) (ws : Lasts T x.0 x.3) → ent 𝓤 ((c x.0 x.3).ensures g r (at_exit T x.0 x.3 ws)) (fact 𝓤 (φ r)))
    (val : (Result 𝓛 T x).Denot → Val) (tells : Tells (Result 𝓛 T x) (Is (Result 𝓛 T x)) (λ r. val r ∷ []))
    {E : Env 𝓤 𝓛.H} {C : Calls 𝓤 𝓛.H} {Λ : Loops 𝓤 𝓛.H} {z : Post 𝓤 𝓛.H} {k : Callee} {xs : List Operand} {d : Place} (t : K) (fm : FmC 𝓤 𝓛.H 𝓛.laws C) (known : Triple 𝓤 (C k) (Called 𝓛 T c)) where
  pub calls-for : {rest : Body} → Opds K 𝓛 (raw ((Called 𝓛 T c).pre (x, g)) ∷ Γ) E xs ((Called 𝓛 T c).args (x, g))
      → ((r : (Result 𝓛 T x).Denot) → φ r → Is (Result 𝓛 T x) r (val r ∷ []) → Seq K 𝓛 (Back 𝓛 T x r (val r) Γ) (lands C Λ E d (val r) rest z))
      → Seq K 𝓛 (raw ((Called 𝓛 T c).pre (x, g)) ∷ Γ) (runs C Λ E (seq (call k xs d) rest) z)
  calls-for os go = calls-lasting T c x g (λ r ws. φ r) says val tells t fm known os (λ r ws e is. move t (2 ∷ []) $ drop t $ go r e is)

  pub calls-for-last : Opds K 𝓛 (raw ((Called 𝓛 T c).pre (x, g)) ∷ Γ) E xs ((Called 𝓛 T c).args (x, g))
      → ((r : (Result 𝓛 T x).Denot) → φ r → Is (Result 𝓛 T x) r (val r ∷ []) → Seq K 𝓛 (Back 𝓛 T x r (val r) Γ) (settles E d (val r) z))
      → Seq K 𝓛 (raw ((Called 𝓛 T c).pre (x, g)) ∷ Γ) (runs C Λ E (call k xs d) z)
  calls-for-last os go = calls-lasting-last T c x g (λ r ws. φ r) says val tells t fm known os (λ r ws e is. move t (2 ∷ []) $ drop t $ go r e is)

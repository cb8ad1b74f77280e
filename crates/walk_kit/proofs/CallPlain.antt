-- A call as one step of a walk, as `CallStep`, for a callee that takes and returns plain data: the walk gives it nothing of its context, and
-- then has the result's machine value and the fact.
--     past_head        operands are read as they were with another entry at the head, so no position shifts at a call's operands, whatever
--                      the callee is given
--     calls-plain      the call
-- Assumes `Logic`.
use mathlib.Core.List.{List, [], ◌∷◌}
use seplogic.Ra.Ura.{Ura}
use mir.Syntax.{Callee, Place, Opd as Operand, Body, seq, call}
use mir.Val.{Val}
use base.Logic.{SProp, ent, sep, wand, emp, via, comm∗, mono_l, mono∗, emp∗, wand_i, apply∗}
use prog.Wp.{Env, Calls, Loops, eval_opds}
use types.Logic.{Logic}
use sound.WpLaws.{FmC, eval_opds_fm}
use contract.Monad.{fact}
use types.Kit.{Item, raw, mean, ⋆, push, pop, Post, runs, lands, settles, Seq, ◌$◌, use0, drop}
use types.Run.{Opds}
use denote.Laws.{Is, Ises, Are, Tells, Makess, owns_make}
use denote.Signature.{types_at}
use denote.Triple.Bound.{Bound}
use denote.Triple.Clauses.{Ended, Clauses, Lasts, at_exit}
use denote.Triple.Entry.{alive}
use denote.Triple.Statement.{Triple}
use Rattle.walk_kit.proofs.CallStep.{Called, Result, calls-for, calls-for-last}

module _ {M : Type 1} {𝓤 : Ura M} {𝓛 : Logic 𝓤} {K : Type 0} {Γ : List (Item 𝓤)} {E : Env 𝓤 𝓛.H} where
  open 𝓛 use {H}

  pub past_head : K → {i : Item 𝓤} {xs : List Operand} {vs : List Val} → Opds K 𝓛 Γ E xs vs → Opds K 𝓛 (i ∷ Γ) E xs vs
  past_head t {i} {xs} {vs} os = record {
    go = λ Kt h.
        let P : SProp 𝓤 = mean 𝓛 i in
        let G : SProp 𝓤 = ⋆ 𝓛 Γ in
        let on : List Val → SProp 𝓤 = λ us. wand 𝓤 P (Kt us) in
        via 𝓤 (sep 𝓤 P G) (pop 𝓛 i Γ)
        (via 𝓤 (sep 𝓤 G P) (comm∗ 𝓤 P G)
        (via 𝓤 (sep 𝓤 (eval_opds 𝓤 H E xs on) P) (mono_l 𝓤 P (os.go on (wand_i 𝓤 G P (Kt vs) (via 𝓤 (sep 𝓤 P G) (comm∗ 𝓤 G P) (via 𝓤 (⋆ 𝓛 (i ∷ Γ)) (push 𝓛 i Γ) h)))))
        (eval_opds_fm 𝓤 H 𝓛.laws E xs on Kt P (λ us. via 𝓤 (sep 𝓤 P (on us)) (comm∗ 𝓤 (on us) P) (apply∗ 𝓤 P (Kt us))))));
  }

module _ {M : Type 1} {𝓤 : Ura M} (𝓛 : Logic 𝓤) (T : Ended) (c : Clauses 𝓤 T) (x : Bound 𝓛 T.signature) (g : (c x.0 x.3).ghost) where
  -- what a callee of plain data asks: `id⊢ 𝓤 _` shows the tokens of no lifetime and a `requires` that is not written, and `fact_i 𝓤 φ _ p` a
  -- `requires` that is a fact
  pub asks-plain : ent 𝓤 (emp 𝓤) (alive 𝓛 T.signature x.0 x.1) → ent 𝓤 (emp 𝓤) ((c x.0 x.3).requires g)
      → Makess 𝓛 (types_at T.signature.params x.0) (Ises (types_at T.signature.params x.0)) → Are (types_at T.signature.params x.0) (Ises (types_at T.signature.params x.0)) x.3 x.4
      → ent 𝓤 (emp 𝓤) ((Called 𝓛 T c).pre (x, g))
  asks-plain tokens asked makes are = via 𝓤 (sep 𝓤 (emp 𝓤) (emp 𝓤)) (emp∗ 𝓤 (emp 𝓤)) (mono∗ 𝓤
      (via 𝓤 (sep 𝓤 (emp 𝓤) (emp 𝓤)) (emp∗ 𝓤 (emp 𝓤)) (mono∗ 𝓤 tokens (owns_make 𝓛 (types_at T.signature.params x.0) (Ises (types_at T.signature.params x.0)) makes x.3 x.4 are))) asked)

module _ {M : Type 1} {𝓤 : Ura M} {𝓛 : Logic 𝓤} {K : Type 0} {Γ : List (Item 𝓤)} (T : Ended) (c : Clauses 𝓤 T) (x : Bound 𝓛 T.signature) (g : (c x.0 x.3).ghost)
    (asked : ent 𝓤 (emp 𝓤) ((Called 𝓛 T c).pre (x, g)))
    (φ : (Result 𝓛 T x).Denot → Type 0) (says : (r : (Result 𝓛 T x).Denot) (ws : Lasts T x.0 x.3) → ent 𝓤 ((c x.0 x.3).ensures g r (at_exit T x.0 x.3 ws)) (fact 𝓤 (φ r)))
    (val : (Result 𝓛 T x).Denot → Val) (tells : Tells (Result 𝓛 T x) (Is (Result 𝓛 T x)) (λ r. val r ∷ []))
    {E : Env 𝓤 𝓛.H} {C : Calls 𝓤 𝓛.H} {Λ : Loops 𝓤 𝓛.H} {z : Post 𝓤 𝓛.H} {k : Callee} {xs : List Operand} {d : Place} (t : K) (fm : FmC 𝓤 𝓛.H 𝓛.laws C) (known : Triple 𝓤 (C k) (Called 𝓛 T c)) where
  pub calls-plain : {rest : Body} → Opds K 𝓛 Γ E xs ((Called 𝓛 T c).args (x, g)) → ((r : (Result 𝓛 T x).Denot) → φ r → Is (Result 𝓛 T x) r (val r ∷ []) → Seq K 𝓛 Γ (lands C Λ E d (val r) rest z))
      → Seq K 𝓛 Γ (runs C Λ E (seq (call k xs d) rest) z)
  calls-plain os go = use0 𝓛 (raw ((Called 𝓛 T c).pre (x, g))) asked $ calls-for T c x g φ says val tells t fm known (past_head t os) (λ r e is. drop t $ drop t $ go r e is)

  -- a call that is the last statement of its part
  pub calls-plain-last : Opds K 𝓛 Γ E xs ((Called 𝓛 T c).args (x, g)) → ((r : (Result 𝓛 T x).Denot) → φ r → Is (Result 𝓛 T x) r (val r ∷ []) → Seq K 𝓛 Γ (settles E d (val r) z)) → Seq K 𝓛 Γ (runs C Λ E (call k xs d) z)
  calls-plain-last os go = use0 𝓛 (raw ((Called 𝓛 T c).pre (x, g))) asked $ calls-for-last T c x g φ says val tells t fm known (past_head t os) (λ r e is. drop t $ drop t $ go r e is)

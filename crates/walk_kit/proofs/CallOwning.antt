-- A call as one step of a walk, as `CallStep`, where the callee's tokens and what its parameters own come first in the context; and how the
-- walk gets what the callee's parameters own from what the caller's own.
--     with-plain       what a type owns, and plain data after it, which own nothing
--     yields           what the first of several types gives, being kept, they give, being kept
--     calls-owning     the call: the operands are read as if nothing were handed over
-- Assumes `Logic`.
use mathlib.Core.List.{List, [], ◌∷◌}
use seplogic.Ra.Ura.{Ura}
use mir.Syntax.{Callee, Place, Opd as Operand, Body, seq, call}
use mir.Val.{Val}
use base.Logic.{SProp, ent, sep, emp, via, comm∗, emp∗, mono_r}
use base.Fml.{Fml, fsep}
use prog.Wp.{Env, Calls, Loops}
use types.Logic.{Logic, sem}
use sound.WpLaws.{FmC}
use contract.Monad.{fact}
use types.Kit.{Goal, Item, ‵, raw, ◌⊛◌, Post, runs, lands, Seq, Step, step, ◌$◌, move, use1, use2, split, fsplit, fjoin}
use types.Run.{Opds}
use denote.RattleType.{RattleType, Denots, Valss, owns}
use denote.Laws.{Is, Ises, Are, Tells, Makess, owns_make}
use denote.Signature.{types_at}
use denote.Triple.Bound.{Bound}
use denote.Triple.Clauses.{Ended, Clauses, Lasts, at_exit}
use denote.Triple.Entry.{alive, on_entry}
use denote.Triple.Statement.{Triple}
use Rattle.walk_kit.proofs.CallStep.{Called, Result, Back, calls-for}
use Rattle.walk_kit.proofs.CallPlain.{past_head}

module _ {M : Type 1} {𝓤 : Ura M} (𝓛 : Logic 𝓤) where
  beside_nothing : (P : SProp 𝓤) {Q : SProp 𝓤} → ent 𝓤 (emp 𝓤) Q → ent 𝓤 P (sep 𝓤 P Q)
  beside_nothing P {Q} h = via 𝓤 (sep 𝓤 (emp 𝓤) P) (emp∗ 𝓤 P) (via 𝓤 (sep 𝓤 P (emp 𝓤)) (comm∗ 𝓤 (emp 𝓤) P) (mono_r 𝓤 P h))

  module _ (R : RattleType) (x : R.Denot) (vs : List Val) (Rs : List RattleType) where
    pub with-plain : Makess 𝓛 Rs (Ises Rs) → (a : Denots Rs) (vss : Valss Rs) → Are Rs (Ises Rs) a vss → ent 𝓤 (sem 𝓛 (R.own_val x vs)) (sem 𝓛 (owns (R ∷ Rs) (x, a) (vs, vss)))
    with-plain makes a vss are = beside_nothing (sem 𝓛 (R.own_val x vs)) (owns_make 𝓛 Rs (Ises Rs) makes a vss are)

-- the first type of several gives P, and is kept
pub yields : {M : Type 1} {𝓤 : Ura M} {𝓛 : Logic 𝓤} {K : Type 0} {Γ : List (Item 𝓤)} {G : Goal 𝓤 𝓛.H} → K → {O Q : Fml} (P : Fml) → ent 𝓤 (sem 𝓛 O) (sep 𝓤 (sem 𝓛 P) (sem 𝓛 O))
    → Step K 𝓛 (‵ P ∷ ‵ (fsep O Q) ∷ Γ) G (‵ (fsep O Q) ∷ Γ) G
yields {𝓛 = 𝓛} t {O} {Q} P h = step (λ s. fsplit t $ use1 𝓛 (‵ P ⊛ ‵ O) h $ split t $ move t (1 ∷ 2 ∷ []) $ fjoin t $ move t (1 ∷ 0 ∷ []) $ s)

module _ {M : Type 1} {𝓤 : Ura M} {𝓛 : Logic 𝓤} {K : Type 0} {Γ : List (Item 𝓤)} (T : Ended) (c : Clauses 𝓤 T) (x : Bound 𝓛 T.signature) (g : (c x.0 x.3).ghost)
    (asked : ent 𝓤 (emp 𝓤) ((c x.0 x.3).requires g))
    (φ : (Result 𝓛 T x).Denot → Type 0) (says : (r : (Result 𝓛 T x).Denot) (ws : Lasts T x.0 x.3) → ent 𝓤 ((c x.0 x.3).ensures g r (at_exit T x.0 x.3 ws)) (fact 𝓤 (φ r)))
    (val : (Result 𝓛 T x).Denot → Val) (tells : Tells (Result 𝓛 T x) (Is (Result 𝓛 T x)) (λ r. val r ∷ []))
    {E : Env 𝓤 𝓛.H} {C : Calls 𝓤 𝓛.H} {Λ : Loops 𝓤 𝓛.H} {z : Post 𝓤 𝓛.H} {k : Callee} {xs : List Operand} {d : Place} (t : K) (fm : FmC 𝓤 𝓛.H 𝓛.laws C) (known : Triple 𝓤 (C k) (Called 𝓛 T c)) where
  pub calls-owning : {rest : Body} → Opds K 𝓛 Γ E xs ((Called 𝓛 T c).args (x, g)) → ((r : (Result 𝓛 T x).Denot) → φ r → Is (Result 𝓛 T x) r (val r ∷ []) → Seq K 𝓛 (Back 𝓛 T x r (val r) Γ) (lands C Λ E d (val r) rest z))
      → Seq K 𝓛 (raw (alive 𝓛 T.signature x.0 x.1) ∷ ‵ (owns (types_at T.signature.params x.0) x.3 x.4) ∷ Γ) (runs C Λ E (seq (call k xs d) rest) z)
  calls-owning os go = use2 𝓛 (raw ((Called 𝓛 T c).pre (x, g))) (beside_nothing 𝓛 (on_entry 𝓛 T.signature x.0 x.1 x.3 x.4) asked) $ calls-for T c x g φ says val tells t fm known (past_head t os) go

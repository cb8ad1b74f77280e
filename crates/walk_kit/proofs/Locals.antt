-- The locals of a function in a walk, the test of a `while`, and an `if`.
--     has, free        a local that holds a value, and one that holds none, with what is owed at its death
--     its, field-of, behind, sets      a local is read, as it is, a field of it, and what lies where it points; and it is set
--     tests            the test of a `while`
--     if-then          `if c { a }`, with what follows it
-- Definitions assume nothing; the steps assume `Logic`.
use mathlib.Core.Path.{◌≡◌, sym, subst}
use mathlib.Core.Bool.{Bool, not}
use mathlib.Core.Option.{some}
use mathlib.Core.List.{List, [], ◌∷◌}
use Prim.Native.Nat.{ℕ, ◌+◌}
use lib.Dec.{T}
use seplogic.Ra.Ura.{Ura}
use base.Fraction.{full_share}
use mir.Syntax.{Sym, Ty, Tys, ty_struct, deref, field, place, Opd as Operand, copy, Rv as RValue, Body, seq, assign, cond, skip, exit}
use mir.Raw.{raw as raw_ty}
use mir.Val.{Val, Vals, vbool, vptr, vstruct}
use mir.Fields.{get_v, set_v}
use base.Fml.{Share, fat, froom, fdies}
use prog.Memory.{field_at, field_of}
use prog.Wp.{Env, Calls, Loops, Wp, exits, spot_of, after_seq}
use types.Logic.{Logic}
use types.Kit.{Item, Post, Seq, Step, ‵, nth, post, any_q, runs, prop, ◌$◌}
use types.Run.{Reads, Opd, Rv, Writes, look, look_raw, stop, hop, fld, from, load, assigns, first, branches, skips, jumps}
use types.Part.{Part, whole, sub, look_in}

abbrev pub has : {M : Type 1} {𝓤 : Ura M} → Ty → ℕ → Val → List (Item 𝓤) → List (Item 𝓤)
has τ l v Γ = ‵ (fat full_share τ l 0 v) ∷ ‵ (fdies τ l) ∷ Γ

abbrev pub free : {M : Type 1} {𝓤 : Ura M} → Ty → ℕ → List (Item 𝓤) → List (Item 𝓤)
free τ l Γ = ‵ (froom τ l 0) ∷ ‵ (fdies τ l) ∷ Γ

module _ {M : Type 1} {𝓤 : Ura M} {𝓛 : Logic 𝓤} {K : Type 0} {Γ : List (Item 𝓤)} where
  -- a field of what stands at n
  pub reads-field : K → (n k : ℕ) {q : Share} {ν : Sym} {τs : Tys} {l : ℕ} {vs : Vals} {τ : Ty} {d : ℕ} → nth 𝓛 n Γ ≡ ‵ (fat q (ty_struct ν τs) l 0 (vstruct vs)) → field_at 0 τs k ≡ some (τ, d) → Reads K 𝓛 Γ τ l (0 + d) (get_v vs k)
  reads-field t n k {q} {ν} {τs} {l} {vs} {τ} {d} e g = look_in t n (subst (λ (j : Item 𝓤). Part K 𝓛 j q τ l (0 + d) (get_v vs k) (λ u. ‵ (fat q (ty_struct ν τs) l 0 (vstruct (set_v vs k u))))) (sym e) (sub t k g (whole t)))

-- ---- a local is read: all of it, a field, and what lies where it points; and it is set
module _ {M : Type 1} {𝓤 : Ura M} {𝓛 : Logic 𝓤} {K : Type 0} {Γ : List (Item 𝓤)} {E : Env 𝓤 𝓛.H} where
  open 𝓛 use {H}

  pub its : K → (n : ℕ) {i : ℕ} {q : Share} {v : Val} → nth 𝓛 n Γ ≡ ‵ (fat q (spot_of 𝓤 H E i).0 (spot_of 𝓤 H E i).1 0 v) → Opd K 𝓛 Γ E (copy (place i [])) v
  its t n e = load t (from t (stop t)) (look t n e)

  pub field-of : K → (n : ℕ) {i k : ℕ} {q : Share} {ν : Sym} {τs : Tys} {vs : Vals} {τ : Ty} {d : ℕ} → nth 𝓛 n Γ ≡ ‵ (fat q (ty_struct ν τs) (spot_of 𝓤 H E i).1 0 (vstruct vs)) → field_of (spot_of 𝓤 H E i).0 k ≡ some (τ, d)
      → field_at 0 τs k ≡ some (τ, d) → Opd K 𝓛 Γ E (copy (place i (field k ∷ []))) (get_v vs k)
  field-of t n {i} {k} e f g = load t (from t (fld t f (stop t))) (reads-field t n k e g)

  pub behind : K → (n m : ℕ) {i : ℕ} {q q' : Share} {τ : Ty} {b o : ℕ} {v : Val} → nth 𝓛 n Γ ≡ ‵ (fat q (spot_of 𝓤 H E i).0 (spot_of 𝓤 H E i).1 0 (vptr b o)) → nth 𝓛 m Γ ≡ ‵ (fat q' (raw_ty τ) b o v)
      → Opd K 𝓛 Γ E (copy (place i (deref τ ∷ []))) v
  behind t n m e f = load t (from t (hop t (look t n e) (stop t))) (look_raw t m f)

  pub sets : K → {C : Calls 𝓤 H} {Λ : Loops 𝓤 H} {z : Post 𝓤 H} {i : ℕ} {rv : RValue} {rest : Body} {v : Val} {Γ' : List (Item 𝓤)}
      → Rv K 𝓛 Γ E rv v → Writes K 𝓛 Γ (spot_of 𝓤 H E i).0 (spot_of 𝓤 H E i).1 0 v Γ' → Step K 𝓛 Γ' (runs C Λ E rest z) Γ (runs C Λ E (seq (assign (place i []) rv) rest) z)
  sets t r w = assigns t r (from t (stop t)) w

module _ {M : Type 1} {𝓤 : Ura M} {𝓛 : Logic 𝓤} {K : Type 0} {Γ : List (Item 𝓤)} {E : Env 𝓤 𝓛.H} {C : Calls 𝓤 𝓛.H} {Λ : Loops 𝓤 𝓛.H} {z : Post 𝓤 𝓛.H} where
  -- `while c`: a local is set to c, and tested
  open 𝓛 use {H}

  pub tests : K → {i n : ℕ} {rv : RValue} {y : Bool} {rest : Body} {Γ' : List (Item 𝓤)} → Rv K 𝓛 Γ E rv (vbool y) → Writes K 𝓛 Γ (spot_of 𝓤 H E i).0 (spot_of 𝓤 H E i).1 0 (vbool y) Γ' → Opd K 𝓛 Γ' E (copy (place i [])) (vbool y)
      → (T y → Seq K 𝓛 Γ' (runs C Λ E rest z)) → (T (not y) → Seq K 𝓛 Γ' (prop (post 𝓤 H z (exits n)))) → Seq K 𝓛 Γ (runs C Λ E (seq (assign (place i []) rv) (seq (cond (copy (place i [])) skip (exit n)) rest)) z)
  tests t r w o on off = sets t r w $ first t $ branches t o (λ y. skips t $ record { prf = (on y).prf }) (λ n. jumps t $ record { prf = (off n).prf })

  pub if-then : K → {c : Operand} {a rest : Body} {y : Bool} → Opd K 𝓛 Γ E c (vbool y) → (T y → Seq K 𝓛 Γ (runs C Λ E a (any_q (after_seq 𝓤 H (Wp 𝓤 H C Λ E rest (post 𝓤 H z)) (post 𝓤 H z))))) → (T (not y) → Seq K 𝓛 Γ (runs C Λ E rest z)) → Seq K 𝓛 Γ (runs C Λ E (seq (cond c a skip) rest) z)
  if-then t o taken left = first t $ branches t o taken (λ n. skips t $ record { prf = (left n).prf })

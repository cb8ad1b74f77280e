-- A function that is proved by a walk of its MIR, and from the walk to the theorem about it.
--     Callee           a function that it calls, with the theorem about that
--     Knows            the theorems about all callees, as a walk cites them
--     Function         its parameters, its contract, its callees and its MIR
--     Walk             the walk that is to be shown, from what the function owns on entry
--     WalkAsking       the same for a function with a `requires`, which `needs` brings in as a fact
--     walked           the theorem about a function with no `requires`
--     walked-asking    and about one that has one
-- `walked` is for every model; the rest assumes nothing.
use mathlib.Core.List.{List, [], ◌∷◌}
use Prim.Native.Nat.{ℕ}
use seplogic.Ra.Ura.{Ura}
use mir.Syntax.{Fn}
use base.Logic.{SProp, ent, sep, via, fst∗}
use prog.Memory.{Memory}
use prog.Wp.{Heap, Tables, Closed, WpFn}
use prog.Model.{Model}
use prog.Routine.{Callee as Name, Env, Routine}
use prog.Wired.{Code, Wired}
use types.Logic.{Logic}
use contract.Lifetimes.{Lfts, Shares, AllOutlive, Outlives}
use contract.Monad.{Fun}
use contract.Running.{Running, tables, tables_of}
use sound.WpLaws.{WpFn-mono}
use denote.RattleType.{flat}
use denote.Laws.{Are, Ises, Spells, valss, Tellss}
use denote.Signature.{Slot, types_at}
use denote.Triple.Clauses.{Clauses, Ended, closing}
use denote.Triple.Entry.{Args, on_entry}
use denote.Triple.Spec.{Meets}
use denote.Triple.Statement.{Triple}
use denote.Triple.Table.{entered}
use denote.Triple.Walked.{Stays, AllGo, walk_of, walked as as-walk, walk_Meets}
use Rattle.walk_kit.proofs.CallStep.{Called}
use Rattle.walk_kit.proofs.Parameters.{Param, slots, kepts, stays, all_go, spells, all_tell}

module _ {M : Type 1} {𝓤 : Ura M} (𝓛 : Logic 𝓤) (T : Ended) (hs : Stays T.signature.params T.kept) (gs : AllGo 𝓛 T.signature.lifetimes T.signature.params T.kept hs)
    (c : Clauses 𝓤 T) (𝓣 : Tables 𝓤 𝓛.H) (fn : Fn) (sp : (κs : Lfts T.signature.lifetimes) → Spells (types_at T.signature.params κs))
    (tells : (κs : Lfts T.signature.lifetimes) → Tellss (types_at T.signature.params κs) (Ises (types_at T.signature.params κs)) (sp κs)) where
  -- the walk from what there is on entry, beside what the function asks
  open 𝓛 use {H}

  abbrev From : ((κs : Lfts T.signature.lifetimes) (a : Args T.signature κs) → (c κs a).ghost → SProp 𝓤 → SProp 𝓤) → Type 1
  From asked = (κs : Lfts T.signature.lifetimes) (qs : Shares T.signature.lifetimes) (bounds : AllOutlive T.signature.lifetimes T.signature.outlives κs) (a : Args T.signature κs) (g : (c κs a).ghost)
      → let vs = valss (types_at T.signature.params κs) (sp κs) a in Are (types_at T.signature.params κs) (Ises (types_at T.signature.params κs)) a vs
      → ent 𝓤 (asked κs a g (on_entry 𝓛 T.signature κs qs a vs)) (WpFn 𝓤 H 𝓣.C 𝓣.Λ fn (flat (types_at T.signature.params κs) vs) ((walk_of 𝓛 T hs c).post ((κs, qs, bounds, a, vs), g)))

  -- the function's `requires` stands beside what there is on entry: `needs` learns it
  met-asking : From (λ κs a g p. sep 𝓤 p ((c κs a).requires g)) → Meets 𝓛 T.signature (WpFn 𝓤 H 𝓣.C 𝓣.Λ fn) (closing 𝓛 T c)
  met-asking walk = walk_Meets 𝓛 T hs gs c (WpFn 𝓤 H 𝓣.C 𝓣.Λ fn) (WpFn-mono 𝓤 H 𝓛.laws 𝓣 fn) (as-walk 𝓛 T hs c (WpFn 𝓤 H 𝓣.C 𝓣.Λ fn) sp tells walk)

pub record Callee : Type 3 where
  pub ended : Ended
  pub clauses : {M : Type 1} {𝓤 : Ura M} (𝓛 : Logic 𝓤) → (Memory → SProp 𝓤) → (Routine → Fun 𝓤) → Clauses 𝓤 ended
  pub name : Name
  pub code : Code
  pub met : {M : Type 1} {𝓤 : Ura M} (𝓛 : Logic 𝓤) (𝓜 : Model 𝓤 𝓛.H) (𝓡 : Running 𝓤 𝓛.H 𝓜) → Wired 𝓡.env code → Triple 𝓤 (𝓡.run (𝓡.env name)) (Called 𝓛 ended (clauses 𝓛 𝓜.mem 𝓡.returns))

-- with `name` and `code` of the callee's `Symbol`, and `met` of its `Met`
abbrev pub callee : (T : Ended) (c : (M : Type 1) (𝓤 : Ura M) (𝓛 : Logic 𝓤) → (Memory → SProp 𝓤) → (Routine → Fun 𝓤) → Clauses 𝓤 T) (k : Name) (w : Code)
    → ((M : Type 1) (𝓤 : Ura M) (𝓛 : Logic 𝓤) (𝓜 : Model 𝓤 𝓛.H) (𝓡 : Running 𝓤 𝓛.H 𝓜) → Wired 𝓡.env w → Triple 𝓤 (𝓡.run (𝓡.env k)) (Called 𝓛 T (c M 𝓤 𝓛 𝓜.mem 𝓡.returns))) → Callee
callee T c k w met = record { ended = T; clauses = λ {M} {𝓤}. c M 𝓤; name = k; code = w; met = λ {M} {𝓤}. met M 𝓤 }

module _ {M : Type 1} {𝓤 : Ura M} (𝓛 : Logic 𝓤) (mem : Memory → SProp 𝓤) (run : Routine → Fun 𝓤) (𝓣 : Tables 𝓤 𝓛.H) where
  abbrev pub Knows : List Callee → Type 1
  Knows [] = Unit {1}
  Knows (k ∷ ks) = Triple 𝓤 (𝓣.C k.name) (Called 𝓛 k.ended (k.clauses 𝓛 mem run)) × Knows ks

-- each callee's name means its code, as `code.calls-..` of the function's `Code` has it
abbrev pub Binds : Env → List Callee → Type 0
Binds γ [] = Unit {0}
Binds γ (k ∷ ks) = Wired γ k.code × Binds γ ks

-- the tables that a function runs in
abbrev tables-of : {M : Type 1} (𝓤 : Ura M) (H : Heap 𝓤) (𝓜 : Model 𝓤 H) → Running 𝓤 H 𝓜 → Tables 𝓤 H
tables-of 𝓤 H 𝓜 𝓡 = tables_of 𝓤 H 𝓜 (tables 𝓤 H 𝓜 𝓡 𝓡.env)

knows : {M : Type 1} {𝓤 : Ura M} (𝓛 : Logic 𝓤) (𝓜 : Model 𝓤 𝓛.H) (𝓡 : Running 𝓤 𝓛.H 𝓜) (ks : List Callee) → Binds 𝓡.env ks → Knows 𝓛 𝓜.mem 𝓡.returns (tables-of 𝓤 𝓛.H 𝓜 𝓡) ks
unfolding tables_of
knows 𝓛 𝓜 𝓡 [] bs = tt
knows 𝓛 𝓜 𝓡 (k ∷ ks) bs = (k.met 𝓛 𝓜 𝓡 bs.0, knows 𝓛 𝓜 𝓡 ks bs.1)

abbrev pub ended_of : {n : ℕ} → List (Outlives n) → List (Param n) → Slot n → Ended
ended_of {n} os ps r = record { signature = record { lifetimes = n; outlives = os; params = slots ps; result = r }; kept = kepts ps }

pub record Function : Type 3 where
  pub lifetimes : ℕ
  pub outlives : List (Outlives lifetimes)
  pub params : List (Param lifetimes)
  pub result : Slot lifetimes
  pub clauses : {M : Type 1} {𝓤 : Ura M} (𝓛 : Logic 𝓤) → (Memory → SProp 𝓤) → (Routine → Fun 𝓤) → Clauses 𝓤 (ended_of outlives params result)
  pub callees : List Callee
  pub mir : Fn

module _ (F : Function) where
  abbrev T : Ended
  T = ended_of F.outlives F.params F.result

  abbrev pub Walk : Type 2
  Walk = (M : Type 1) (𝓤 : Ura M) (𝓛 : Logic 𝓤) (mem : Memory → SProp 𝓤) (run : Routine → Fun 𝓤) (𝓣 : Tables 𝓤 𝓛.H) → Knows 𝓛 mem run 𝓣 F.callees
      → From 𝓛 T (stays F.params) (all_go F.params 𝓛) (F.clauses 𝓛 mem run) 𝓣 F.mir (spells F.params) (all_tell F.params) (λ κs a g p. p)

  abbrev pub WalkAsking : Type 2
  WalkAsking = (M : Type 1) (𝓤 : Ura M) (𝓛 : Logic 𝓤) (mem : Memory → SProp 𝓤) (run : Routine → Fun 𝓤) (𝓣 : Tables 𝓤 𝓛.H) → Knows 𝓛 mem run 𝓣 F.callees
      → From 𝓛 T (stays F.params) (all_go F.params 𝓛) (F.clauses 𝓛 mem run) 𝓣 F.mir (spells F.params) (all_tell F.params) (λ κs a g p. sep 𝓤 p ((F.clauses 𝓛 mem run κs a).requires g))

  module _ {M : Type 1} {𝓤 : Ura M} (𝓛 : Logic 𝓤) (𝓜 : Model 𝓤 𝓛.H) (𝓡 : Running 𝓤 𝓛.H 𝓜) (k : Name) (closed : Closed 𝓤 𝓛.H (tables 𝓤 𝓛.H 𝓜 𝓡 𝓡.env).C (tables 𝓤 𝓛.H 𝓜 𝓡 𝓡.env).Λ k F.mir) (bound : Binds 𝓡.env F.callees) where
    open 𝓛 use {H}

    abbrev c : Clauses 𝓤 T
    c = F.clauses 𝓛 𝓜.mem 𝓡.returns

    concluded : Triple 𝓤 (WpFn 𝓤 H (tables-of 𝓤 H 𝓜 𝓡).C (tables-of 𝓤 H 𝓜 𝓡).Λ F.mir) (Called 𝓛 T c) → Triple 𝓤 ((tables 𝓤 H 𝓜 𝓡 𝓡.env).C k) (Called 𝓛 T c)
    unfolding tables_of
    concluded = entered 𝓤 H (Called 𝓛 T c) (tables 𝓤 H 𝓜 𝓡 𝓡.env).C (tables 𝓤 H 𝓜 𝓡 𝓡.env).Λ k F.mir closed

    pub walked-asking : WalkAsking → Triple 𝓤 ((tables 𝓤 H 𝓜 𝓡 𝓡.env).C k) (Called 𝓛 T c)
    walked-asking walk = concluded
        (met-asking 𝓛 T (stays F.params) (all_go F.params 𝓛) c (tables-of 𝓤 H 𝓜 𝓡) F.mir (spells F.params) (all_tell F.params)
        (walk M 𝓤 𝓛 𝓜.mem 𝓡.returns (tables-of 𝓤 H 𝓜 𝓡) (knows 𝓛 𝓜 𝓡 F.callees bound)))

    pub walked : Walk → Triple 𝓤 ((tables 𝓤 H 𝓜 𝓡 𝓡.env).C k) (Called 𝓛 T c)
    walked walk = walked-asking (λ M 𝓤 𝓛 mem run 𝓣 known κs qs bounds a g are. via 𝓤 _ (fst∗ 𝓤 _ ((F.clauses 𝓛 mem run κs a).requires g)) (walk M 𝓤 𝓛 mem run 𝓣 known κs qs bounds a g are))

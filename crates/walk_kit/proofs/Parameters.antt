-- A function's parameters.
--     Param            a parameter: its slot, what the walk owns of it at exit, and its machine values
--     shared, lent     a `&'j [T]` and a `&'j mut [T]`, which are owned at exit
--     handed           a `&'j mut [T]` that a callee was given for good
--     by_value, number, datum      plain data: of any type, an unsigned number, a declared struct
--     dropped          a parameter of which nothing is owned at exit
--     stays, all_go, spells, all_tell      what the theorem asks of all of them (`Functions.antt`)
--     typed-all        and what `Opening.antt` asks
-- Assumes nothing.
use mathlib.Core.Path.{◌≡◌, refl}
use mathlib.Core.List.{List, [], ◌∷◌}
use Prim.Native.Nat.{ℕ}
use seplogic.Ra.Ura.{Ura}
use mir.Syntax.{Width, named}
use mir.Val.{Val}
use base.Fml.{ftrue}
use types.Logic.{Logic}
use contract.Lifetimes.{Lfts, lft_at}
use denote.RattleType.{RattleType, Denots, flat, mirs}
use denote.Exit.{Kept, yes, Last, left}
use denote.Laws.{Is, Tells, Ises, Are, Spells, Tellss, Lawful, Lawfuls, Typed, valss, all_Typed}
use denote.Plain.{UInt, uint_vals, uint_Tells, uint_Lawful}
use denote.Signature.{Slot, AllWithin, plain, shr_slice_of, mut_slice_of, types_at}
use denote.Slice.{shr_slice_vals, mut_slice_vals, shr_slice_Tells, shr_slice_Lawful, mut_slice_Tells, mut_slice_Lawful}
use denote.Struct.Laws as LL
use denote.Triple.End.{Kepts}
use denote.Triple.Walked.{Stay, Stays, Goes, AllGo, stay_none, stay_none_slice, stay_slice, gave_slice, stay_dropped, Goes-none, Goes-none_slice, Goes-slice, Goes-gave_slice, Goes-dropped}
use Rattle.walk_kit.proofs.PlainData.{Data, Row, val, tells}

pub record Param (n : ℕ) : Type 3 where
  pub slot : Slot n
  pub kept : Kept
  pub stay : Stay slot kept
  pub goes : {M : Type 1} {𝓤 : Ura M} (𝓛 : Logic 𝓤) → Goes 𝓛 n slot kept stay
  pub vals : (κs : Lfts n) → (slot.row κs).Denot → List Val
  pub tells : (κs : Lfts n) → Tells (slot.row κs) (Is (slot.row κs)) (vals κs)
  pub lawful : {M : Type 1} {𝓤 : Ura M} (𝓛 : Logic 𝓤) (κs : Lfts n) → Lawful 𝓛 (slot.row κs)

-- nothing is said at exit of what was passed
abbrev Quiet : RattleType → Type 1
Quiet R = (x : R.Denot) (f : Last (R.exit yes) x) → left (R.exit yes) x f ≡ ftrue

module _ {n : ℕ} where
  abbrev pub by_value : (R : RattleType) (vals : R.Denot → List Val) → Tells R (Is R) vals → ((M : Type 1) (𝓤 : Ura M) (𝓛 : Logic 𝓤) → Lawful 𝓛 R) → Quiet R → Param n
  by_value R vals tell lawful quiet = record {
    slot = plain (λ _. R);
    kept = yes;
    stay = stay_none (λ _. R) yes;
    goes = λ 𝓛. Goes-none 𝓛 n (λ _. R) yes (λ κs. quiet);
    vals = λ κs. vals;
    tells = λ κs. tell;
    lawful = λ {M} {𝓤 = 𝓤} 𝓛 κs. lawful M 𝓤 𝓛;
  }

  abbrev pub number : Width → Param n
  number w = by_value (UInt w) (uint_vals w) (uint_Tells w) (λ M 𝓤 𝓛. uint_Lawful 𝓛 w) (λ x f. refl)

  abbrev pub datum : (D : Data) → Quiet (Row D) → Param n
  datum D = by_value (Row D) (λ x. val D x ∷ []) (tells D) (λ M 𝓤 𝓛. LL.lawful D.type D.laws 𝓛)

  abbrev pub dropped : (p : Param n) → ((κs : Lfts n) (x : (p.slot.row κs).Denot) (f : Last ((p.slot.row κs).exit p.kept) x) → left ((p.slot.row κs).exit p.kept) x f ≡ ftrue) → Param n
  dropped p quiet = record {
    slot = p.slot;
    kept = p.kept;
    stay = stay_dropped p.slot p.kept;
    goes = λ 𝓛. Goes-dropped 𝓛 n p.slot p.kept quiet;
    vals = p.vals;
    tells = p.tells;
    lawful = p.lawful;
  }

  module _ (j : ℕ) (ok : AllWithin n (j ∷ [])) (s : Slot n) where
    abbrev pub shared : Param n
    shared = record {
      slot = shr_slice_of (j ∷ []) ok s;
      kept = yes;
      stay = stay_none_slice (j ∷ []) ok s yes;
      goes = λ 𝓛. Goes-none_slice 𝓛 n (j ∷ []) ok s yes;
      vals = λ κs. shr_slice_vals;
      tells = λ κs. shr_slice_Tells (named j) (lft_at n j ok κs) (s.row κs);
      lawful = λ 𝓛 κs. shr_slice_Lawful 𝓛 (named j) (lft_at n j ok κs) (s.row κs);
    }

    -- a `&'j mut [T]`, which holds h at exit
    abbrev mutable : (h : Stay (mut_slice_of (j ∷ []) ok s) yes) → ((M : Type 1) (𝓤 : Ura M) (𝓛 : Logic 𝓤) → Goes 𝓛 n (mut_slice_of (j ∷ []) ok s) yes h) → Param n
    mutable h go = record {
      slot = mut_slice_of (j ∷ []) ok s;
      kept = yes;
      stay = h;
      goes = λ {M} {𝓤 = 𝓤} 𝓛. go M 𝓤 𝓛;
      vals = λ κs. mut_slice_vals;
      tells = λ κs. mut_slice_Tells (named j) (lft_at n j ok κs) (s.row κs);
      lawful = λ 𝓛 κs. mut_slice_Lawful 𝓛 (named j) (lft_at n j ok κs) (s.row κs);
    }

    abbrev pub lent : Param n
    lent = mutable (stay_slice (j ∷ []) ok s) (λ M 𝓤 𝓛. Goes-slice 𝓛 n j ok s)

    abbrev pub handed : Param n
    handed = mutable (gave_slice (j ∷ []) ok s) (λ M 𝓤 𝓛. Goes-gave_slice 𝓛 n j ok s)

abbrev pub slots : {n : ℕ} → List (Param n) → List (Slot n)
slots [] = []
slots (p ∷ ps) = p.slot ∷ slots ps

abbrev pub kepts : {n : ℕ} (ps : List (Param n)) → Kepts (slots ps)
kepts [] = tt
kepts (p ∷ ps) = (p.kept, kepts ps)

abbrev pub stays : {n : ℕ} (ps : List (Param n)) → Stays (slots ps) (kepts ps)
stays [] = tt
stays (p ∷ ps) = (p.stay, stays ps)

pub all_go : {n : ℕ} (ps : List (Param n)) {M : Type 1} {𝓤 : Ura M} (𝓛 : Logic 𝓤) → AllGo 𝓛 n (slots ps) (kepts ps) (stays ps)
all_go [] 𝓛 = tt
all_go (p ∷ ps) 𝓛 = (p.goes 𝓛, all_go ps 𝓛)

abbrev pub spells : {n : ℕ} (ps : List (Param n)) (κs : Lfts n) → Spells (types_at (slots ps) κs)
spells [] κs = tt
spells (p ∷ ps) κs = (p.vals κs, spells ps κs)

pub all_tell : {n : ℕ} (ps : List (Param n)) (κs : Lfts n) → Tellss (types_at (slots ps) κs) (Ises (types_at (slots ps) κs)) (spells ps κs)
all_tell [] κs = tt
all_tell (p ∷ ps) κs = (p.tells κs, all_tell ps κs)

lawfuls : {n : ℕ} (ps : List (Param n)) {M : Type 1} {𝓤 : Ura M} (𝓛 : Logic 𝓤) (κs : Lfts n) → Lawfuls 𝓛 (types_at (slots ps) κs)
lawfuls [] 𝓛 κs = tt
lawfuls (p ∷ ps) 𝓛 κs = (p.lawful 𝓛 κs, lawfuls ps 𝓛 κs)

-- the arguments may be stored
pub typed-all : {n : ℕ} (ps : List (Param n)) {M : Type 1} {𝓤 : Ura M} (𝓛 : Logic 𝓤) (κs : Lfts n) (a : Denots (types_at (slots ps) κs))
    → let vss = valss (types_at (slots ps) κs) (spells ps κs) a in Are (types_at (slots ps) κs) (Ises (types_at (slots ps) κs)) a vss → Typed (mirs (types_at (slots ps) κs)) (flat (types_at (slots ps) κs) vss)
typed-all ps 𝓛 κs a are = all_Typed 𝓛 (types_at (slots ps) κs) (lawfuls ps 𝓛 κs) a (valss (types_at (slots ps) κs) (spells ps κs) a) are

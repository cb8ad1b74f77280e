-- A call as one step of a walk, for a callee that takes slices and after them plain data, and whose `requires` and `ensures` are facts. What the walk holds of the slices stands first, and stands there again afterwards.
--     Hand             a slice that is handed over: lent on as a `&mut [T]` (`again`) or as a `&[T]` (`seen`), where the walk holds a `&mut [T]`, or copied, where it holds a `&[T]` (`copied`)
--     Law              what that takes of the slice's type. Plain data has it (`PlainData.antt`)
--     Names            the lifetime and the name that are made for each. A `&[T]` has no name, and the one here says nothing.        Lasts     what the callee says of each at the end
--     Holding, After   what the walk holds before the call, and after it
--     calls-handing    the call.        calls-handing-last     where it is the last statement of its part
-- Definitions assume nothing; the steps assume `Logic`.
use mathlib.Core.Path.{◌≡◌, refl, ◌∙◌}
use mathlib.Core.List.{List, [], ◌∷◌}
use Prim.Native.Nat.{ℕ}
use lib.ListN.{length}
use seplogic.Ra.Ura.{Ura}
use mir.Syntax.{Callee, Place, Opd as Operand, Body, seq, call, named}
use mir.Val.{Val}
use base.Logic.{ent, sep, emp, via, comm∗, emp∗, mono∗}
use base.Fml.{GName, Fml, ftrue, fsep, flft}
use prog.Wp.{Env, Calls, Loops}
use types.Logic.{Logic, sem}
use sound.WpLaws.{FmC}
use contract.Lifetimes.{Lfts, Shares}
use contract.Monad.{fact}
use types.Kit.{Goal, Soaks, Item, Post, Seq, ‵, raw, runs, lands, settles, ◌$◌, move, drop, use0, use1, use2, rewrite, fsplit, fjoin}
use types.Run.{Opds}
use denote.RattleType.{RattleType, RowLaws, Denots, Valss, owns}
use denote.Laws.{Is, Tells}
use denote.Bor.{Bor}
use denote.MutBor.{MutBor}
use denote.Shares.{Shares as SharesLaw}
use denote.Slice.{slice_val, MutSlice, ShrSlice}
use denote.Steps.{nothing}
use denote.Triple.Bound.{Bound}
use denote.Triple.Clauses.{Ended, Clauses, Lasts as LastsOf, at_exit, lasts}
use denote.Triple.Entry.{alive, on_entry}
use denote.Triple.Statement.{Triple}
use Rattle.walk_kit.proofs.CallStep.{Called, Result, After as AfterCall, calls-lasting, calls-lasting-last}
use Rattle.walk_kit.proofs.CallPlain.{past_head}
use Rattle.walk_kit.proofs.PlainData.{Value, types_of, values_of, machine-of, values-owned}
use Rattle.walk_kit.proofs.Loans.{Loan, Lent, ref}
use Rattle.walk_kit.proofs.LendingAgain.{passed_on, Kept, KeptSeen, Left, passes_on, comes_back, shows-on, seen_back}
use Rattle.walk_kit.proofs.Sharing.{Sees, Shared, copies, shown}

pub data Mode : Type 0 where
  again : Mode
  seen : Mode
  copied : Mode

-- what this takes of the type: to lend a `&[T]`, that it holds no `&mut`, and to copy one, that what a `&` to an element holds can be had twice
abbrev pub Law : Mode → RattleType → Type 2
Law again R = Unit
Law seen R = (M : Type 1) (𝓤 : Ura M) (𝓛 : Logic 𝓤) → SharesLaw 𝓛 R []
Law copied R = RowLaws R

pub record Hand : Type 2 where
  pub mode : Mode
  pub type : RattleType
  pub law : Law mode type
  pub loan : Loan
  pub elements : List type.Denot
  -- as the machine value counts them
  pub count : ℕ
  pub counted : length elements ≡ count

-- ---- one slice
-- what the callee is lent
abbrev pub to-callee : Mode → Loan → ℕ × GName → Loan
to-callee again L c = passed_on L c.0 c.1
to-callee seen L c = passed_on L c.0 L.label
to-callee copied L c = L

abbrev Held : Mode → (R : RattleType) → Loan → List R.Denot → Fml
Held again R L ys = Lent R L ys
Held seen R L ys = Lent R L ys
Held copied R L ys = Shared R L ys

abbrev Has : Mode → (R : RattleType) → Loan → List R.Denot → ℕ → Fml
Has again R L ys n = (MutSlice (named 0) L.lifetime R).own_val (ref R L ys) (slice_val (L.block, L.start) n ∷ [])
Has seen R L ys n = (ShrSlice (named 0) L.lifetime R).own_val (shown R L ys) (slice_val (L.block, L.start) n ∷ [])
Has copied R L ys n = (ShrSlice (named 0) L.lifetime R).own_val (shown R L ys) (slice_val (L.block, L.start) n ∷ [])

abbrev Keeps : Mode → (R : RattleType) → Loan → ℕ × GName → List R.Denot → Fml
Keeps again R L c ys = Kept R L c.0 c.1 ys
Keeps seen R L c ys = KeptSeen R L c.0 ys
Keeps copied R L c ys = Sees R L ys

-- the reference that the callee is given
abbrev Passed : Mode → RattleType → Type 0
Passed again R = MutBor (List R.Denot)
Passed seen R = Bor (List R.Denot)
Passed copied R = Bor (List R.Denot)

abbrev passed : (m : Mode) (R : RattleType) → Loan → List R.Denot → Passed m R
passed again R L ys = ref R L ys
passed seen R L ys = shown R L ys
passed copied R L ys = shown R L ys

abbrev Last : Mode → RattleType → Type 0
Last again R = List R.Denot
Last seen R = Unit
Last copied R = Unit

abbrev Says : (m : Mode) (R : RattleType) → Loan → ℕ × GName → List R.Denot → Last m R → Fml
Says again R L c ys zs = Left R (passed_on L c.0 c.1) ys zs
Says seen R L c ys zs = ftrue
Says copied R L c ys zs = ftrue

abbrev last : (m : Mode) (R : RattleType) → List R.Denot → Last m R → List R.Denot
last again R ys zs = zs
last seen R ys zs = ys
last copied R ys zs = ys

module _ {M : Type 1} {𝓤 : Ura M} {𝓛 : Logic 𝓤} {K : Type 0} {Γ : List (Item 𝓤)} {G : Goal 𝓤 𝓛.H} where
  hands : K → Soaks G → (m : Mode) (R : RattleType) → Law m R → (L : Loan) (ys : List R.Denot) {n : ℕ} → length ys ≡ n
      → ((c : ℕ × GName) → Seq K 𝓛 (‵ (Has m R (to-callee m L c) ys n) ∷ ‵ (flft (to-callee m L c).lifetime (to-callee m L c).share) ∷ ‵ (Keeps m R L c ys) ∷ Γ) G) → Seq K 𝓛 (‵ (Held m R L ys) ∷ Γ) G
  hands t z again R w L ys e k = passes_on t z R L ys (λ ν δ. fsplit t $ rewrite t 0 (λ (n : ℕ). ‵ (Has again R (passed_on L ν δ) ys n)) e refl $ k (ν, δ))
  hands t z seen R w L ys e k = shows-on t z R (w M 𝓤 𝓛) L ys (λ ν. fsplit t $ rewrite t 0 (λ (n : ℕ). ‵ (Has seen R (passed_on L ν L.label) ys n)) e refl $ k (ν, L.label))
  hands t z copied R w L ys e k = copies t R w L ys $ fsplit t $ rewrite t 0 (λ (n : ℕ). ‵ (Has copied R L ys n)) e refl $ k (0, L.label)

  back : K → Soaks G → (m : Mode) (R : RattleType) (L : Loan) (c : ℕ × GName) (ys : List R.Denot) (zs : Last m R) → (length (last m R ys zs) ≡ length ys → Seq K 𝓛 (‵ (Held m R L (last m R ys zs)) ∷ Γ) G)
      → Seq K 𝓛 (‵ (flft (to-callee m L c).lifetime (to-callee m L c).share) ∷ ‵ (Says m R L c ys zs) ∷ ‵ (Keeps m R L c ys) ∷ Γ) G
  back t z again R L c ys zs k = comes_back t z R L ys zs k
  back t z seen R L c ys zs k = move t (1 ∷ []) $ drop t $ seen_back t z R L ys $ k refl
  back t z copied R L c ys zs k = move t (1 ∷ []) $ drop t $ move t (1 ∷ 0 ∷ []) $ fjoin t $ k refl

-- ---- all of them
abbrev pub Names : List Hand → Type 0
Names [] = Unit
Names (h ∷ hs) = (ℕ × GName) × Names hs

abbrev pub Lasts : List Hand → Type 0
Lasts [] = Unit
Lasts (h ∷ hs) = Last h.mode h.type × Lasts hs

abbrev Tokens : (hs : List Hand) → Names hs → Fml
Tokens [] cs = ftrue
Tokens (h ∷ hs) cs = let L = to-callee h.mode h.loan cs.0 in fsep (flft L.lifetime L.share) (Tokens hs cs.1)

-- with what the plain data own
abbrev Owns : (hs : List Hand) → Names hs → Fml → Fml
Owns [] cs P = P
Owns (h ∷ hs) cs P = fsep (Has h.mode h.type (to-callee h.mode h.loan cs.0) h.elements h.count) (Owns hs cs.1 P)

abbrev Keepings : (hs : List Hand) → Names hs → Fml
Keepings [] cs = ftrue
Keepings (h ∷ hs) cs = fsep (Keeps h.mode h.type h.loan cs.0 h.elements) (Keepings hs cs.1)

-- with what is said of the plain data
abbrev Sayings : (hs : List Hand) → Names hs → Lasts hs → Fml → Fml
Sayings [] cs zs P = P
Sayings (h ∷ hs) cs zs P = fsep (Says h.mode h.type h.loan cs.0 h.elements zs.0) (Sayings hs cs.1 zs.1 P)

abbrev pub Holding : {M : Type 1} {𝓤 : Ura M} → List Hand → List (Item 𝓤) → List (Item 𝓤)
Holding [] Γ = Γ
Holding (h ∷ hs) Γ = ‵ (Held h.mode h.type h.loan h.elements) ∷ Holding hs Γ

abbrev pub After : {M : Type 1} {𝓤 : Ura M} → (hs : List Hand) → Lasts hs → List (Item 𝓤) → List (Item 𝓤)
After [] zs Γ = Γ
After (h ∷ hs) zs Γ = ‵ (Held h.mode h.type h.loan (last h.mode h.type h.elements zs.0)) ∷ After hs zs.1 Γ

-- each list is as long as it was
abbrev pub Long : (hs : List Hand) → Lasts hs → Type 0
Long [] zs = Unit
Long (h ∷ hs) zs = (length (last h.mode h.type h.elements zs.0) ≡ h.count) × Long hs zs.1

module _ {M : Type 1} {𝓤 : Ura M} {𝓛 : Logic 𝓤} {K : Type 0} {Γ : List (Item 𝓤)} {G : Goal 𝓤 𝓛.H} where
  -- P is what stands before them
  hands-all : K → Soaks G → (hs : List Hand) (P Q : Fml) → ent 𝓤 (emp 𝓤) (sem 𝓛 Q) → ((cs : Names hs) → Seq K 𝓛 (‵ (Tokens hs cs) ∷ ‵ (Owns hs cs Q) ∷ ‵ (Keepings hs cs) ∷ ‵ P ∷ Γ) G) → Seq K 𝓛 (‵ P ∷ Holding hs Γ) G
  hands-all t z [] P Q q k = nothing t $ use0 𝓛 (‵ Q) q $ nothing t $ k tt
  hands-all t z (h ∷ hs) P Q q k =
      move t (1 ∷ []) $ hands t z h.mode h.type h.law h.loan h.elements h.counted (λ c.
      move t (2 ∷ 3 ∷ []) $ fjoin t $ move t (2 ∷ 0 ∷ []) $ fjoin t $ move t (1 ∷ 0 ∷ []) $ fjoin t $ hands-all t z hs _ Q q (λ cs.
      move t (3 ∷ []) $ fsplit t $ move t (1 ∷ []) $ fsplit t $
      -- [the token; what is kept, and P; the slice; the tokens; the slices; what is kept]
      move t (0 ∷ 3 ∷ []) $ fjoin t $ move t (2 ∷ 3 ∷ []) $ fjoin t $ move t (2 ∷ []) $ fsplit t $ move t (0 ∷ 4 ∷ []) $ fjoin t $ move t (3 ∷ 2 ∷ 0 ∷ []) $ k (c, cs)))

  back-all : K → Soaks G → (hs : List Hand) (cs : Names hs) (zs : Lasts hs) (P Q : Fml) → (Long hs zs → Seq K 𝓛 (‵ P ∷ After hs zs Γ) G) → Seq K 𝓛 (‵ (Tokens hs cs) ∷ ‵ (Sayings hs cs zs Q) ∷ ‵ (Keepings hs cs) ∷ ‵ P ∷ Γ) G
  back-all t z [] cs zs P Q k = drop t $ drop t $ drop t $ k tt
  back-all t z (h ∷ hs) cs zs P Q k =
      fsplit t $ move t (2 ∷ []) $ fsplit t $ move t (4 ∷ []) $ fsplit t $
      -- [what is kept, of one and of the others; what is said; the tokens; P]
      move t (0 ∷ 6 ∷ []) $ fjoin t $ move t (2 ∷ 0 ∷ []) $ fjoin t $ move t (3 ∷ 0 ∷ []) $ fjoin t $ move t (3 ∷ 2 ∷ 1 ∷ 0 ∷ []) $ back-all t z hs cs.1 zs.1 _ Q (λ ls.
      fsplit t $ move t (1 ∷ []) $ fsplit t $ move t (1 ∷ []) $ fsplit t $ move t (3 ∷ 2 ∷ 0 ∷ []) $
      back t z h.mode h.type h.loan cs.0 h.elements zs.0 (λ l. move t (1 ∷ 0 ∷ []) $ k (l ∙ h.counted, ls)))

-- what a callee with these slices and values is bound at: the lifetimes, the shares, the arguments and their machine values
abbrev lifetimes-of : (hs : List Hand) → Names hs → Lfts (length hs)
lifetimes-of [] cs = tt
lifetimes-of (h ∷ hs) cs = ((to-callee h.mode h.loan cs.0).lifetime, lifetimes-of hs cs.1)

abbrev shares_of : (hs : List Hand) → Names hs → Shares (length hs)
shares_of [] cs = tt
shares_of (h ∷ hs) cs = ((to-callee h.mode h.loan cs.0).share, shares_of hs cs.1)

abbrev Arguments : List Hand → List Value → Type 0
Arguments [] vs = Denots (types_of vs)
Arguments (h ∷ hs) vs = Passed h.mode h.type × Arguments hs vs

abbrev arguments : (hs : List Hand) → Names hs → (vs : List Value) → Arguments hs vs
arguments [] cs vs = values_of vs
arguments (h ∷ hs) cs vs = (passed h.mode h.type (to-callee h.mode h.loan cs.0) h.elements, arguments hs cs.1 vs)

abbrev Machine : List Hand → List Value → Type 0
Machine [] vs = Valss (types_of vs)
Machine (h ∷ hs) vs = List Val × Machine hs vs

abbrev machine : (hs : List Hand) (vs : List Value) → Machine hs vs
machine [] vs = machine-of vs
machine (h ∷ hs) vs = (slice_val (h.loan.block, h.loan.start) h.count ∷ [], machine hs vs)

abbrev pub binds : (hs : List Hand) (vs : List Value) → Names hs → Lfts (length hs) × Shares (length hs) × Unit {0} × Arguments hs vs × Machine hs vs
binds hs vs cs = (lifetimes-of hs cs, shares_of hs cs, tt, arguments hs cs vs, machine hs vs)

-- ---- the call
-- the callee's signature is of these slices and these values
pub record Fits {M : Type 1} {𝓤 : Ura M} (𝓛 : Logic 𝓤) (T : Ended) (c : Clauses 𝓤 T) (slices : List Hand) (values : List Value) : Type 2 where
  -- `binds slices values`, at a callee that is written out
  pub bound : Names slices → Bound 𝓛 T.signature
  pub ghost : (cs : Names slices) → (c (bound cs).0 (bound cs).3).ghost
  -- what is handed is what the callee is entered with, and what it gives back are the tokens: `id⊢ 𝓤 _` at a callee that is written out
  pub enters : (cs : Names slices) → ent 𝓤 (sep 𝓤 (sem 𝓛 (Tokens slices cs)) (sem 𝓛 (Owns slices cs (owns (types_of values) (values_of values) (machine-of values))))) (on_entry 𝓛 T.signature (bound cs).0 (bound cs).1 (bound cs).3 (bound cs).4)
  pub leaves : (cs : Names slices) → ent 𝓤 (alive 𝓛 T.signature (bound cs).0 (bound cs).1) (sem 𝓛 (Tokens slices cs))
  pub lists : (cs : Names slices) → LastsOf T (bound cs).0 (bound cs).3 → Lasts slices
  -- and what it says is of the slices, and of the plain data: `refl`
  pub others : (cs : Names slices) → LastsOf T (bound cs).0 (bound cs).3 → Fml
  pub ends : (cs : Names slices) (ws : LastsOf T (bound cs).0 (bound cs).3) → lasts T (bound cs).0 (bound cs).3 ws ≡ Sayings slices cs (lists cs ws) (others cs ws)

pub record Handing {M : Type 1} {𝓤 : Ura M} (𝓛 : Logic 𝓤) (T : Ended) (c : Clauses 𝓤 T) : Type 2 where
  pub slices : List Hand
  pub values : List Value
  pub fits : Fits 𝓛 T c slices values
  -- the two facts
  pub asked : (cs : Names slices) → ent 𝓤 (emp 𝓤) ((c (fits.bound cs).0 (fits.bound cs).3).requires (fits.ghost cs))
  pub φ : (cs : Names slices) → (Result 𝓛 T (fits.bound cs)).Denot → LastsOf T (fits.bound cs).0 (fits.bound cs).3 → Type 0
  pub says : (cs : Names slices) (r : (Result 𝓛 T (fits.bound cs)).Denot) (ws : LastsOf T (fits.bound cs).0 (fits.bound cs).3) → ent 𝓤 ((c (fits.bound cs).0 (fits.bound cs).3).ensures (fits.ghost cs) r (at_exit T (fits.bound cs).0 (fits.bound cs).3 ws)) (fact 𝓤 (φ cs r ws))
  -- the result
  pub val : (cs : Names slices) → (Result 𝓛 T (fits.bound cs)).Denot → Val
  pub tells : (cs : Names slices) → Tells (Result 𝓛 T (fits.bound cs)) (Is (Result 𝓛 T (fits.bound cs))) (λ r. val cs r ∷ [])

module _ {M : Type 1} {𝓤 : Ura M} {𝓛 : Logic 𝓤} {T : Ended} {c : Clauses 𝓤 T} (h : Handing 𝓛 T c) where
  open 𝓛 use {H}

  abbrev pre : Names h.slices → Item 𝓤
  pre cs = raw ((Called 𝓛 T c).pre (h.fits.bound cs, h.fits.ghost cs))

  asks : (cs : Names h.slices) → ent 𝓤 (sep 𝓤 (sem 𝓛 (Tokens h.slices cs)) (sem 𝓛 (Owns h.slices cs (owns (types_of h.values) (values_of h.values) (machine-of h.values))))) ((Called 𝓛 T c).pre (h.fits.bound cs, h.fits.ghost cs))
  asks cs = let P = sep 𝓤 (sem 𝓛 (Tokens h.slices cs)) (sem 𝓛 (Owns h.slices cs (owns (types_of h.values) (values_of h.values) (machine-of h.values)))) in
      via 𝓤 (sep 𝓤 (emp 𝓤) P) (emp∗ 𝓤 P) (via 𝓤 (sep 𝓤 P (emp 𝓤)) (comm∗ 𝓤 (emp 𝓤) P) (mono∗ 𝓤 (h.fits.enters cs) (h.asked cs)))

  handing : {K : Type 0} {Γ : List (Item 𝓤)} {G : Goal 𝓤 H} → K → Soaks G → ((cs : Names h.slices) → Seq K 𝓛 (pre cs ∷ ‵ (Keepings h.slices cs) ∷ Γ) G) → Seq K 𝓛 (Holding h.slices Γ) G
  handing t s go =
      nothing t $ hands-all t s h.slices ftrue (owns (types_of h.values) (values_of h.values) (machine-of h.values)) (values-owned 𝓛 h.values) (λ cs. use2 𝓛 (pre cs) (asks cs) $ move t (2 ∷ []) $ drop t $ go cs)

-- what follows the call
abbrev pub Goes : {M : Type 1} {𝓤 : Ura M} (K : Type 0) (𝓛 : Logic 𝓤) (Γ : List (Item 𝓤)) {T : Ended} {c : Clauses 𝓤 T} (h : Handing 𝓛 T c) → (Val → Goal 𝓤 𝓛.H) → Type 1
Goes {𝓤 = 𝓤} K 𝓛 Γ {T} h after =
    (cs : Names h.slices) (r : (Result 𝓛 T (h.fits.bound cs)).Denot) (ws : LastsOf T (h.fits.bound cs).0 (h.fits.bound cs).3) → h.φ cs r ws → Is (Result 𝓛 T (h.fits.bound cs)) r (h.val cs r ∷ []) → Long h.slices (h.fits.lists cs ws)
    → Seq K 𝓛 (After h.slices (h.fits.lists cs ws) Γ) (after (h.val cs r))

module _ {M : Type 1} {𝓤 : Ura M} {𝓛 : Logic 𝓤} {K : Type 0} {Γ : List (Item 𝓤)} {T : Ended} {c : Clauses 𝓤 T} where
  open 𝓛 use {H}

  finished : K → (h : Handing 𝓛 T c) (after : Val → Goal 𝓤 H) → ((u : Val) → Soaks (after u)) → Goes K 𝓛 Γ h after → (cs : Names h.slices) → AfterCall K 𝓛 (‵ (Keepings h.slices cs) ∷ Γ) T (h.fits.bound cs) (h.φ cs) (h.val cs) after
  finished t h after s go cs r ws e is =
      drop t $ use1 𝓛 (‵ (Tokens h.slices cs)) (h.fits.leaves cs) $ move t (1 ∷ []) $ rewrite t 0 (λ (P : Fml). ‵ P) (h.fits.ends cs ws) refl $ move t (1 ∷ 0 ∷ 2 ∷ []) $
      nothing t $ move t (1 ∷ 2 ∷ 3 ∷ 0 ∷ []) $ back-all t (s (h.val cs r)) h.slices cs (h.fits.lists cs ws) ftrue (h.fits.others cs ws) (λ l. drop t $ go cs r ws e is l)

  module _ {E : Env 𝓤 H} {C : Calls 𝓤 H} {Λ : Loops 𝓤 H} {z : Post 𝓤 H} {k : Callee} {xs : List Operand} {d : Place} (t : K) (fm : FmC 𝓤 H 𝓛.laws C) (known : Triple 𝓤 (C k) (Called 𝓛 T c)) (h : Handing 𝓛 T c) where
    -- the operands are read as if nothing were handed over
    pub calls-handing : {rest : Body} → ((cs : Names h.slices) → Opds K 𝓛 Γ E xs ((Called 𝓛 T c).args (h.fits.bound cs, h.fits.ghost cs))) → Goes K 𝓛 Γ h (λ u. lands C Λ E d u rest z) → Seq K 𝓛 (Holding h.slices Γ) (runs C Λ E (seq (call k xs d) rest) z)
    calls-handing {rest} os go =
        handing h t tt (λ cs. calls-lasting T c (h.fits.bound cs) (h.fits.ghost cs) (h.φ cs) (h.says cs) (h.val cs) (h.tells cs) t fm known (past_head t (past_head t (os cs))) (finished t h (λ u. lands C Λ E d u rest z) (λ _. tt) go cs))

    pub calls-handing-last : ((cs : Names h.slices) → Opds K 𝓛 Γ E xs ((Called 𝓛 T c).args (h.fits.bound cs, h.fits.ghost cs))) → Goes K 𝓛 Γ h (λ u. settles E d u z) → Seq K 𝓛 (Holding h.slices Γ) (runs C Λ E (call k xs d) z)
    calls-handing-last os go =
        handing h t tt (λ cs. calls-lasting-last T c (h.fits.bound cs) (h.fits.ghost cs) (h.φ cs) (h.says cs) (h.val cs) (h.tells cs) t fm known (past_head t (past_head t (os cs))) (finished t h (λ u. settles E d u z) (λ _. tt) go cs))

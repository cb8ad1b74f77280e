-- The first refusal wins: its laws, for two and for a list; and the tests of a record one by one. Assumes nothing.
use Rattle.std.specs.Prelude.{◌≡◌, refl, Bool, true, false, ◌&&◌, cond, List, [], ◌∷◌, ◌++◌, ℕ, zero, suc, ltb, Ok, Err, MatchResult}
use Rattle.std.proofs.Common.{sym, ap, ◌∙◌, arith, ltb-true}
use Rattle.std.proofs.Math.Path.{ap₂}
use Rattle.spec_basics.specs.Tests.{and-fst, and-snd}
use Rattle.std.specs.declared.result.Result.{Result}
use Rattle.std.specs.Result.{is_err}
use Rattle.spec_file.specs.declared.Fault.{Fault}
use Rattle.spec_file.specs.declared.Fault.TheVariants as fault
use Rattle.spec_file.specs.declared.Refusal.{Refusal as RefusalAnswer}
use Rattle.spec_file.specs.Answers.{number_of, refusal_of, fault_of, tested_of}
use Rattle.spec_file.specs.Refusals.{Refusal, refuse, by_number, or_next, first_of, first_holding}

-- ---- by a number

module _ {A : Type 0} (x y : A) where
  pub number-some : (k : ℕ) → (k ≡ 0 → ⊥) → by_number k x y ≡ x
  number-some zero z = absurd (z refl)
  number-some (suc k) z = refl

  pub number-none : (k : ℕ) → k ≡ 0 → by_number k x y ≡ y
  number-none k e = ap (λ (n : ℕ). by_number n x y) e

-- a test whose number is not said does not hold
pub not-held : (b : Bool) (k : ℕ) → cond b (suc k) 0 ≡ 0 → b ≡ false
not-held true k e = absurd (let z : ⊥ = omega arith in z)
not-held false k e = refl

-- ---- two refusals, and a list of them

module _ (r s : Refusal) where
  pub neither-refuses : (or_next r s).number ≡ 0 → (r.number ≡ 0) × (s.number ≡ 0)
  neither-refuses q = by r.number refl q
    where
      by : (k : ℕ) → r.number ≡ k → (by_number k r s).number ≡ 0 → (r.number ≡ 0) × (s.number ≡ 0)
      by zero e q = (e, q)
      by (suc k) e q = absurd (let z : ⊥ = omega (arith, sym e ∙ q) in z)

  -- what comes after r matters only where r does not refuse
  pub next-same : (t : Refusal) → (r.number ≡ 0 → s ≡ t) → or_next r s ≡ or_next r t
  next-same t e = by r.number refl
    where
      by : (k : ℕ) → r.number ≡ k → by_number k r s ≡ by_number k r t
      by zero z = e z
      by (suc k) z = refl

  pub next-again : (t : Refusal) → or_next (or_next r s) t ≡ or_next r (or_next s t)
  next-again t = by r.number refl
    where
      by : (k : ℕ) → r.number ≡ k → or_next (by_number k r s) t ≡ by_number k r (or_next s t)
      by zero e = refl
      by (suc k) e = ap (λ (n : ℕ). by_number n r t) e

-- ---- the code's refusals

-- each fault has a number, and none is 0
pub fault-next : (f : Fault) → (k : ℕ) × (number_of f ≡ suc k)
fault-next fault.TornRecord = (0, refl)
fault-next fault.TooManyRecords = (1, refl)
fault-next fault.UnknownKind = (2, refl)
fault-next fault.AboveRange = (3, refl)
fault-next fault.StrayByte = (4, refl)
fault-next fault.NotRising = (5, refl)
fault-next fault.OverLimit = (6, refl)
fault-next fault.JournalSize = (7, refl)
fault-next fault.UnfitRow = (8, refl)
fault-next fault.NoRoom = (9, refl)
fault-next fault.UnfitRun = (10, refl)
fault-next fault.MoveOnRemark = (11, refl)
fault-next fault.LongRun = (12, refl)
fault-next fault.TableSize = (13, refl)
fault-next fault.ShortList = (14, refl)
fault-next fault.TornWideRecord = (15, refl)
fault-next fault.LongBody = (16, refl)
fault-next fault.TooManyChains = (17, refl)

pub fault-some : (f : Fault) → number_of f ≡ 0 → ⊥
fault-some f z = let z' : ⊥ = omega (arith, z, (fault-next f).1) in z'

-- a refusal is the first, whatever comes after it
pub refused-first : (x : RefusalAnswer) (s : Refusal) → or_next (refusal_of x) s ≡ refusal_of x
refused-first x s = number-some (refusal_of x) s (number_of x.fault) (fault-some x.fault)

-- what the code's r says, the first of x and y that refuses (as `?` has it), is the first of what these say
pub said_or : (r x y : Result (Unit {0}) RefusalAnswer) {a b : Refusal} → r ≡ cond (is_err x) x y → tested_of x ≡ a → tested_of y ≡ b → tested_of r ≡ or_next a b
said_or r x y e p q = ap tested_of e ∙ by x ∙ ap₂ or_next p q
  where
    by : (z : Result (Unit {0}) RefusalAnswer) → tested_of (cond (is_err z) z y) ≡ or_next (tested_of z) (tested_of y)
    by (Ok u) = refl
    by (Err z) = sym (refused-first z (tested_of y))

-- a test that has no number passes
pub passes : (r : Result (Unit {0}) Fault) → fault_of r ≡ 0 → r ≡ Ok tt
passes (Ok u) e = refl
passes (Err f) e = absurd (fault-some f e)

-- what refuses has a number, and what passes has none
pub refuses-some : (r : Result (Unit {0}) RefusalAnswer) → is_err r ≡ true → (tested_of r).number ≡ 0 → ⊥
refuses-some (Ok u) e z = let no : ⊥ = cc in no
refuses-some (Err x) e z = fault-some x.fault z

pub passes-none : (r : Result (Unit {0}) RefusalAnswer) → is_err r ≡ false → (tested_of r).number ≡ 0
passes-none (Ok u) e = refl
passes-none (Err x) e = let no : ⊥ = cc in absurd no

-- what a test refuses with, by what `refuse_if` promises
pub refused_if : (r : Result (Unit {0}) Fault) (b : Bool) (f : Fault)
    → MatchResult r (λ u. b ≡ false) (λ g. (b ≡ true) × (g ≡ f)) → fault_of r ≡ cond b (number_of f) 0
refused_if (Ok u) b f e = rw e refl
refused_if (Err g) b f e = rw (e.0, e.1) refl

-- none of them refuses
abbrev pub NoneRefuses : List Refusal → Type 0
NoneRefuses [] = Unit {0}
NoneRefuses (r ∷ rs) = (r.number ≡ 0) × NoneRefuses rs

pub none-refuses : (rs : List Refusal) → (first_of rs).number ≡ 0 → NoneRefuses rs
none-refuses [] e = tt
none-refuses (r ∷ rs) e = let both = neither-refuses r (first_of rs) e in (both.0, none-refuses rs both.1)

-- the last of a list is a number without a record
pub first-last : (k : ℕ) → first_of (refuse k 0 ∷ []) ≡ refuse k 0
first-last zero = refl
first-last (suc k) = refl

-- the first of two lists, one after the other, is the first of the one, and else of the other
pub first-append : (rs ss : List Refusal) → first_of (rs ++ ss) ≡ or_next (first_of rs) (first_of ss)
first-append [] ss = refl
first-append (r ∷ rs) ss = ap (or_next r) (first-append rs ss) ∙ sym (next-again r (first_of rs) (first_of ss))

-- ---- the tests of a record

-- every number refuses
abbrev pub positive : List (ℕ × Bool) → Bool
positive [] = true
positive (t ∷ ts) = ltb 0 t.0 && positive ts

abbrev pub NoneHolds : List (ℕ × Bool) → Type 0
NoneHolds [] = Unit {0}
NoneHolds (t ∷ ts) = (t.1 ≡ false) × NoneHolds ts

-- where no number is said, no test holds
pub none-holds : (ts : List (ℕ × Bool)) → positive ts ≡ true → first_holding ts ≡ 0 → NoneHolds ts
none-holds [] p e = tt
none-holds (t ∷ ts) p e = by t.1 e (none-holds ts (and-snd (ltb 0 t.0) (positive ts) p))
  where
    by : (b : Bool) → cond b t.0 (first_holding ts) ≡ 0 → (first_holding ts ≡ 0 → NoneHolds ts) → (b ≡ false) × NoneHolds ts
    by true e next = absurd (let z : ⊥ = omega (arith, e, ltb-true 0 t.0 (and-fst (ltb 0 t.0) (positive ts) p)) in z)
    by false e next = (refl, next e)

-- one more test, before those that are known
pub test-next : (f : ℕ) {m k : ℕ} {a b : Bool} → a ≡ b → m ≡ k → cond a f m ≡ cond b f k
test-next f p q = λ i. cond (p i) f (q i)

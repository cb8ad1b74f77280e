-- A longer journal or a larger budget leaves "holds", "empty" and "broken" as they are, with the whole answer. Assumes nothing.
use Rattle.std.specs.Prelude.{◌≡◌, Bool}
use Rattle.std.proofs.Math.Path.{refl, subst}
use Rattle.std.proofs.Common.{sym, ap, ap₂, ◌∙◌, le_of_suc-le-suc, not-suc-le-zero, arith, ne_eqb}
use Rattle.std.proofs.Math.Bool.{true, false}
use mathlib.Core.List.{List, [], ◌∷◌}
use Prim.Native.Nat.{ℕ, zero, suc, ◌≤◌, ◌<◌, suc-le-suc, zero-le}
use Rattle.std.proofs.Math.Dec.{eqb}
use Rattle.std.proofs.Math.ListN.{length}
use Rattle.std.proofs.lemmas.Bool.{eqb-false}
use Rattle.spec_language.specs.Grammar.{Rule}
use Rattle.spec_order.specs.Algebra.{Algebra}
use Rattle.spec_order.specs.Candidates.{Candidate, pass_candidates}
use Rattle.spec_order.specs.Order.{Progress, Verdict, holds, broken, full, spent, empty, Outcome, going, stopped, and_then, answer, dropped, decide, consider, walk, close_by, close, one_pass, passes, check}
use Rattle.spec_order.proofs.Truth.{length-added}

-- a verdict that a larger journal and budget keep
abbrev pub Firm : Verdict → Type 0
Firm holds = Unit {0}
Firm empty = Unit {0}
Firm broken = Unit {0}
Firm full = ⊥
Firm spent = ⊥

abbrev FirmRes : {E : Type 0} → Outcome E → Type 0
FirmRes (going s) = Unit {0}
FirmRes (stopped v i s) = Firm v

-- the rows are within the journal and the joins within the budget
pub record Held {E : Type 0} (J B : ℕ) (s : Progress E) : Type 0 where
  pub rows-held : length s.rows ≤ J
  pub joins-held : s.joins ≤ B

abbrev HeldRes : {E : Type 0} → ℕ → ℕ → Outcome E → Type 0
HeldRes J B (going s) = Held J B s
HeldRes J B (stopped v i s) = Unit {0}

lt_of : (a b : ℕ) → a ≤ b → eqb a b ≡ false → a < b
lt_of a b l e = let ne : a ≡ b → ⊥ = eqb-false a b e in omega arith

below : (a b c : ℕ) → a < b → b ≤ c → eqb a c ≡ false
below a b c l m = ne_eqb a c (λ e. omega arith)

module _ {E : Type 0} (A : Algebra E) (rules : List Rule) (J B J' B' : ℕ) (hJ : J ≤ J') (hB : B ≤ B') where
  step-mono : (k : ℕ) (c : Candidate E) (s : Progress E) → Held J B s → FirmRes (consider A.below A.breaks J B k c s)
      → (consider A.below A.breaks J' B' k c s ≡ consider A.below A.breaks J B k c s) × HeldRes J B (consider A.below A.breaks J B k c s)
  unfolding consider decide
  step-mono k c s l f =
      by (eqb s.joins B) (dropped A.below c s.rows) (eqb (length s.rows) J) (A.breaks c.head c.effect) refl refl f
    where
      by : (b₁ b₂ b₃ b₄ : Bool) → eqb s.joins B ≡ b₁ → eqb (length s.rows) J ≡ b₃
          → FirmRes (decide A.below b₁ b₂ b₃ b₄ k c s)
          → (decide A.below (eqb s.joins B') b₂ (eqb (length s.rows) J') b₄ k c s ≡ decide A.below b₁ b₂ b₃ b₄ k c s) × HeldRes J B (decide A.below b₁ b₂ b₃ b₄ k c s)
      by true b₂ b₃ b₄ e₁ e₃ g = absurd g
      by false true b₃ b₄ e₁ e₃ g =
          let j = lt_of s.joins B l.joins-held e₁ in
          (ap (λ (x : Bool). decide A.below x true (eqb (length s.rows) J') b₄ k c s) (below s.joins B B' j hB), record { rows-held = l.rows-held; joins-held = j })
      by false false true b₄ e₁ e₃ g = absurd g
      by false false false b₄ e₁ e₃ g =
          let j = lt_of s.joins B l.joins-held e₁ in
          let r = lt_of (length s.rows) J l.rows-held e₃ in
          (ap₂ (λ (x y : Bool). decide A.below x false y b₄ k c s) (below s.joins B B' j hB) (below (length s.rows) J J' r hJ), last b₄ j r)
        where
          last : (b : Bool) → s.joins < B → length s.rows < J → HeldRes J B (decide A.below false false false b k c s)
          last true j r = tt
          last false j r = record { rows-held = subst (λ (x : ℕ). x ≤ J) (sym (length-added A k c s.rows)) r; joins-held = j }

  walk-mono : (k : ℕ) (cs : List (Candidate E)) (s : Progress E) → Held J B s → FirmRes (walk A.below A.breaks J B k cs s)
      → (walk A.below A.breaks J' B' k cs s ≡ walk A.below A.breaks J B k cs s) × HeldRes J B (walk A.below A.breaks J B k cs s)
  unfolding walk
  walk-mono k [] s l f = (refl, l)
  walk-mono k (c ∷ cs) s l f = by (consider A.below A.breaks J B k c s) refl f (walk-mono k cs)
    where
      by : (r : Outcome E) → consider A.below A.breaks J B k c s ≡ r → FirmRes (and_then r (walk A.below A.breaks J B k cs))
          → ((t : Progress E) → Held J B t → FirmRes (walk A.below A.breaks J B k cs t) → (walk A.below A.breaks J' B' k cs t ≡ walk A.below A.breaks J B k cs t) × HeldRes J B (walk A.below A.breaks J B k cs t))
          → (and_then (consider A.below A.breaks J' B' k c s) (walk A.below A.breaks J' B' k cs) ≡ and_then r (walk A.below A.breaks J B k cs)) × HeldRes J B (and_then r (walk A.below A.breaks J B k cs))
      by (going t) e g ih =
          let m = step-mono k c s l (subst FirmRes (sym e) tt) in
          let i = ih t (subst (HeldRes J B) e m.1) g in
          (ap (λ (x : Outcome E). and_then x (walk A.below A.breaks J' B' k cs)) (m.0 ∙ e) ∙ i.0, i.1)
      by (stopped v i t) e g ih =
          let m = step-mono k c s l (subst FirmRes (sym e) g) in
          (ap (λ (x : Outcome E). and_then x (walk A.below A.breaks J' B' k cs)) (m.0 ∙ e), tt)

  passes-mono : (f f' k : ℕ) (s : Progress E) → f ≤ f' → Held J B s → Firm (passes A rules J B f k s).verdict → passes A rules J' B' f' k s ≡ passes A rules J B f k s
  unfolding passes answer one_pass
  passes-mono zero f' k s h l g = absurd g
  passes-mono (suc f) zero k s h l g = absurd (not-suc-le-zero h)
  passes-mono (suc f) (suc f') k s h l g = by (one_pass A rules J B k s) refl g (λ t. passes-mono f f' (suc k) t (le_of_suc-le-suc h))
    where
      same : FirmRes (one_pass A rules J B k s) → (one_pass A rules J' B' k s ≡ one_pass A rules J B k s) × HeldRes J B (one_pass A rules J B k s)
      same = walk-mono k (pass_candidates A.forms s.rows 0 rules) s l

      fork : (b : Bool) (t : Progress E) → Firm (close_by A.starts b k (passes A rules J B f (suc k)) t).verdict
          → (Firm (passes A rules J B f (suc k) t).verdict → passes A rules J' B' f' (suc k) t ≡ passes A rules J B f (suc k) t)
          → close_by A.starts b k (passes A rules J' B' f' (suc k)) t ≡ close_by A.starts b k (passes A rules J B f (suc k)) t
      fork true t g'' ih = refl
      fork false t g'' ih = ih g''

      by : (r : Outcome E) → one_pass A rules J B k s ≡ r → Firm (close A.starts k (length s.rows) (passes A rules J B f (suc k)) r).verdict
          → ((t : Progress E) → Held J B t → Firm (passes A rules J B f (suc k) t).verdict → passes A rules J' B' f' (suc k) t ≡ passes A rules J B f (suc k) t)
          → close A.starts k (length s.rows) (passes A rules J' B' f' (suc k)) (one_pass A rules J' B' k s) ≡ close A.starts k (length s.rows) (passes A rules J B f (suc k)) r
      by (stopped v i t) e g' ih = ap (close A.starts k (length s.rows) (passes A rules J' B' f' (suc k))) ((same (subst FirmRes (sym e) g')).0 ∙ e)
      by (going t) e g' ih =
          let m = same (subst FirmRes (sym e) tt) in
          ap (close A.starts k (length s.rows) (passes A rules J' B' f' (suc k))) (m.0 ∙ e)
          ∙ fork (eqb (length t.rows) (length s.rows)) t g' (ih t (subst (HeldRes J B) e m.1))

  pub check-mono : Firm (check A rules J B).verdict → check A rules J' B' ≡ check A rules J B
  unfolding check
  check-mono g = passes-mono (suc J) (suc J') 1 (record { rows = []; joins = 0 }) (suc-le-suc hJ) (record { rows-held = zero-le; joins-held = zero-le }) g

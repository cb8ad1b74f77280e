-- Symbols by their bytes: which are in a set, and which are the same. Assumes nothing.
use Rattle.std.specs.Prelude.{◌≡◌, refl, Bool, true, false, ℕ, ◌+◌, ◌-◌, ◌/◌, ◌^◌, ◌≤◌, ◌<◌, eqb, ltb}
use Rattle.std.proofs.Common.{sym, ap, ap₂, ◌∙◌, lt_of_lt_of_le, arith, pow_mono, lt-ltb, le-ltb, eqb-true, eq-eqb, ltb-true, ltb-false}
use Rattle.std.specs.Int.Bits.{bit_and}
use Rattle.spec_basics.specs.Tests.{iff-equal, fails}
use Rattle.relation.specs.Digits.{bit}
use Rattle.relation.specs.DigitLaws.{digit-of, bit-beyond}
use Rattle.spec_language.specs.Grammar.{terminal, nonterminal}
use Rattle.spec_file.specs.Limits.{terminals, nonterminals, symbol_bytes}
use Rattle.spec_file.specs.Views.{symbol_by, symbol_of}
use Rattle.member_laws.specs.Sets.{among, same}

pub terminal-at : (b : ℕ) → b < terminals → symbol_of b ≡ terminal b
terminal-at b h = ap (λ (t : Bool). symbol_by t b) (lt-ltb b terminals h)

pub nonterminal-at : (b : ℕ) → terminals ≤ b → symbol_of b ≡ nonterminal (b - terminals)
nonterminal-at b h = ap (λ (t : Bool). symbol_by t b) (le-ltb b terminals h)

-- ---- in a set

module _ (set b : ℕ) where
  pub among-terminal : b < terminals → false ≡ among set (symbol_of b)
  among-terminal h = sym (ap (among set) (terminal-at b h))

  pub among-digit : terminals ≤ b → eqb (bit_and (set / 2 ^ (b - terminals)) 1) 1 ≡ among set (symbol_of b)
  among-digit h = digit-of set (b - terminals) ∙ sym (ap (among set) (nonterminal-at b h))

  -- a set of 64 digits among nothing beyond them
  pub among-beyond : set < 2 ^ nonterminals → symbol_bytes ≤ b → false ≡ among set (symbol_of b)
  among-beyond f h =
      sym (ap (among set) (nonterminal-at b (omega arith))
      ∙ bit-beyond set (b - terminals) (lt_of_lt_of_le f (pow_mono {i = nonterminals} {j = b - terminals} (omega arith))))

-- ---- the same symbol

pub same_bytes : (a b : ℕ) → eqb a b ≡ same (symbol_of a) (symbol_of b)
same_bytes a b = by (ltb a terminals) refl (ltb b terminals) refl
  where
    by : (s : Bool) → ltb a terminals ≡ s → (t : Bool) → ltb b terminals ≡ t → eqb a b ≡ same (symbol_by (ltb a terminals) a) (symbol_by (ltb b terminals) b)
    by true p true q = sym (ap₂ (λ (x y : Bool). same (symbol_by x a) (symbol_by y b)) p q)
    by true p false q =
        let l = ltb-true a terminals p in
        let m = ltb-false b terminals q in
        fails (eqb a b) (λ e. let z = eqb-true a b e in let y : ⊥ = omega arith in y) ∙ sym (ap₂ (λ (x y : Bool). same (symbol_by x a) (symbol_by y b)) p q)
    by false p true q =
        let l = ltb-false a terminals p in
        let m = ltb-true b terminals q in
        fails (eqb a b) (λ e. let z = eqb-true a b e in let y : ⊥ = omega arith in y) ∙ sym (ap₂ (λ (x y : Bool). same (symbol_by x a) (symbol_by y b)) p q)
    by false p false q =
        let l = ltb-false a terminals p in
        let m = ltb-false b terminals q in
        iff-equal (eqb a b) (eqb (a - terminals) (b - terminals))
        (λ e. eq-eqb (a - terminals) (b - terminals) (ap (λ (x : ℕ). x - terminals) (eqb-true a b e)))
        (λ e. eq-eqb a b (let z = eqb-true (a - terminals) (b - terminals) e in omega arith))
        ∙ sym (ap₂ (λ (x y : Bool). same (symbol_by x a) (symbol_by y b)) p q)

-- ---- the byte of a nonterminal

pub nonterminal-byte : (q : ℕ) → symbol_of (128 + q) ≡ nonterminal q
nonterminal-byte q = nonterminal-at (128 + q) (omega arith) ∙ ap nonterminal (let z : 128 + q - 128 ≡ q = omega arith in z)

pub among-byte : (set q : ℕ) → among set (symbol_of (128 + q)) ≡ bit set q
among-byte set q = ap (among set) (nonterminal-byte q)

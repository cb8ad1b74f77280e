-- The bytes of a record gone through from the left, one after the other: what is left to look at decides. Assumes nothing.
use Rattle.std.specs.Prelude.{◌≡◌, refl, Bool, true, false, ◌&&◌, ◌||◌, List, eqb, leb}
use Rattle.std.proofs.Common.{sym, ◌∙◌, ne_eqb, eq-eqb, le-ltb, lt-ltb, ltb-true, leb-true, le-leb}
use Rattle.std.proofs.Math.Path.{ap, ap₂}
use Prim.Native.Nat.{ℕ, zero, suc, ◌+◌, ◌-◌, ◌≤◌, ◌<◌}
use Rattle.std.proofs.Math.Numerals.{add-one}
use native.Mathlib.Omega.{arith}
use Rattle.std.proofs.Math.Dec.{ltb}
use Rattle.spec_basics.specs.Tests.{iff-equal}
use Rattle.spec_file.specs.Limits.{symbol_bytes}
use Rattle.spec_file.specs.Records.{byte}
use Rattle.spec_file.specs.Refusals.{high_symbol, stray_symbol, some_byte, rises_from}

-- ---- a test on numbers

module _ (test : ℕ → Bool) where
  -- some of the m numbers from j on passes
  unfoldable pub some_from : ℕ → ℕ → Bool
  some_from zero j = false
  some_from (suc m) j = test j || some_from m (suc j)

  module _ (j end : ℕ) where
    pub scan-here : j < end → test j ≡ true → some_from (end - j) j ≡ true
    unfolding some_from
    scan-here h t = let z : end - j ≡ suc (end - (j + 1)) = omega arith in rw (z, t)

    pub scan-next : j < end → test j ≡ false → some_from (end - (j + 1)) (j + 1) ≡ some_from (end - j) j
    unfolding some_from
    scan-next h t = let z : end - j ≡ suc (end - (j + 1)) = omega arith in rw (z, t, add-one j)

    pub scan-end : end ≤ j → some_from (end - j) j ≡ false
    unfolding some_from
    scan-end h = let z : end - j ≡ 0 = omega arith in rw z

or-none : (a : Bool) → (a || false) ≡ a
or-none true = refl
or-none false = refl

below_next : (a j : ℕ) → leb a j ≡ ltb a (suc j)
below_next a j = iff-equal (leb a j) (ltb a (suc j)) (λ e. lt-ltb a (suc j) (omega (arith, leb-true a j e))) (λ e. le-leb a j (omega (arith, ltb-true a (suc j) e)))

-- ---- the tests of a record's bytes

module _ (r : List ℕ) where
  -- symbol j is used, and above its range
  abbrev pub high_at : ℕ → Bool
  high_at j = ltb j (byte r 2) && leb symbol_bytes (byte r (3 + j))

  -- symbol j is not used, and not 0
  abbrev pub stray_at : ℕ → Bool
  stray_at j = leb (byte r 2) j && ltb 0 (byte r (3 + j))

  abbrev pub some_at : ℕ → Bool
  some_at j = ltb 0 (byte r j)

  pub high-scan : (m j : ℕ) → some_from high_at (suc m) j ≡ high_symbol m j r
  unfolding some_from
  high-scan zero j = or-none (high_at j)
  high-scan (suc m) j = ap (λ (b : Bool). high_at j || b) (high-scan m (suc j))

  pub byte-scan : (m j : ℕ) → some_from some_at (suc m) j ≡ some_byte m j r
  unfolding some_from
  byte-scan zero j = or-none (some_at j)
  byte-scan (suc m) j = ap (λ (b : Bool). some_at j || b) (byte-scan m (suc j))

  pub stray-scan : (m j : ℕ) → some_from stray_at (suc m) j ≡ stray_symbol m j r
  unfolding some_from
  stray-scan zero j = or-none (stray_at j) ∙ ap (λ (b : Bool). b && ltb 0 (byte r (3 + j))) (below_next (byte r 2) j)
  stray-scan (suc m) j =
      ap₂ (λ (a b : Bool). (a && ltb 0 (byte r (3 + j))) || b) (below_next (byte r 2) j) (stray-scan m (suc j))

-- ---- two records

module _ (r s : List ℕ) (j last : ℕ) (h : j < last) where
  rises_next : rises_from (last - j) j r s ≡ (ltb (byte r j) (byte s j) || (eqb (byte r j) (byte s j) && rises_from (last - (j + 1)) (j + 1) r s))
  unfolding rises_from
  rises_next = let z : last - j ≡ suc (last - (j + 1)) = omega arith in rw (z, add-one j)

  -- the first byte that differs decides
  pub rises-here : (byte r j ≡ byte s j → ⊥) → ltb (byte r j) (byte s j) ≡ rises_from (last - j) j r s
  rises-here d = sym (rises_next ∙ rw (ne_eqb (byte r j) (byte s j) d) (or-none (ltb (byte r j) (byte s j))))

  pub rises-on : byte r j ≡ byte s j → rises_from (last - (j + 1)) (j + 1) r s ≡ rises_from (last - j) j r s
  rises-on e = sym (rises_next ∙ rw (le-ltb (byte r j) (byte s j) (omega arith), eq-eqb (byte r j) (byte s j) e))

-- the last byte decides alone
pub rises-last : (r s : List ℕ) (j last : ℕ) → j ≡ last → ltb (byte r last) (byte s last) ≡ rises_from (last - j) j r s
unfolding rises_from
rises-last r s j last e = let z : last - j ≡ 0 = omega arith in rw (z, e)

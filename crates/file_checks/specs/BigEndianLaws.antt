-- A record's bytes as one number, over any base that the bytes are below: a record exceeds another where its number does. Assumes nothing.
use Rattle.std.specs.Prelude.{◌≡◌, refl, Bool, true, false, ◌&&◌, ◌||◌, List, eqb, ltb}
use Rattle.std.proofs.Math.Path.{ap₂}
use Rattle.std.proofs.Common.{◌∙◌, le_refl, mul-le-mul_right, pow-suc, ltb-true, ltb-false, eqb-true, lt-ltb, le-ltb, eq-eqb, ne_eqb}
use Prim.Native.Nat.{ℕ, zero, suc, ◌+◌, ◌*◌, ◌^◌, ◌<◌}
use Rattle.std.proofs.Math.Nat.{pow-zero, zero-add}
use Rattle.std.proofs.Math.Numerals.{add-one}
use native.Mathlib.Omega.{arith}
use Rattle.std.proofs.Math.Arith.{digits_lt}
use Rattle.std.proofs.lemmas.Bool.{eqb-false}
use Rattle.spec_file.specs.Records.{byte}
use Rattle.spec_file.specs.Refusals.{rises_from}
use Rattle.file_checks.specs.BigEndian.{big_endian}

abbrev pub BytesBelow : ℕ → List ℕ → Type 0
BytesBelow base r = (i : ℕ) → byte r i < base

pub big_endian-below : (base k : ℕ) (r : List ℕ) → BytesBelow base r → big_endian base k r < base ^ k
unfolding big_endian
big_endian-below base zero r h = rw pow-zero (le_refl 1)
big_endian-below base (suc k) r h = rw pow-suc (digits_lt (big_endian-below base k r h) (h k))

-- ---- two numbers of which each has one digit more, x and y

below : (base a b x y : ℕ) → x < base → a < b → a * base + x < b * base + y
below base a b x y hx h = omega (arith, mul-le-mul_right base h)

module _ (base a b x y : ℕ) (hx : x < base) (hy : y < base) where
  -- of two numbers the leading digits decide, and where these are the same, the last one
  digit-less : ltb (a * base + x) (b * base + y) ≡ (ltb a b || (eqb a b && ltb x y))
  digit-less = by_cases (ltb a b) (eqb a b) (ltb x y) refl refl refl
    where
      by_cases : (l s d : Bool) → ltb a b ≡ l → eqb a b ≡ s → ltb x y ≡ d → ltb (a * base + x) (b * base + y) ≡ (l || (s && d))
      by_cases true s d el es ed = lt-ltb _ _ (below base a b x y hx (ltb-true a b el))
      by_cases false true true el es ed = rw (eqb-true a b es) (lt-ltb (b * base + x) (b * base + y) (omega (arith, ltb-true x y ed)))
      by_cases false true false el es ed = rw (eqb-true a b es) (le-ltb (b * base + x) (b * base + y) (omega (arith, ltb-false x y ed)))
      by_cases false false d el es ed =
          let h : b < a = omega (arith, ltb-false a b el, eqb-false a b es) in
          le-ltb (a * base + x) (b * base + y) (omega (arith, below base b a y x hy h))

  digit-same : eqb (a * base + x) (b * base + y) ≡ (eqb a b && eqb x y)
  digit-same = by_cases (ltb a b) (eqb a b) (eqb x y) refl refl refl
    where
      by_cases : (l s d : Bool) → ltb a b ≡ l → eqb a b ≡ s → eqb x y ≡ d → eqb (a * base + x) (b * base + y) ≡ (s && d)
      by_cases l true true el es ed = rw (eqb-true a b es, eqb-true x y ed) (eq-eqb (b * base + y) (b * base + y) refl)
      by_cases l true false el es ed = rw (eqb-true a b es) (ne_eqb (b * base + x) (b * base + y) (λ e. eqb-false x y ed (omega arith)))
      by_cases true false d el es ed = ne_eqb (a * base + x) (b * base + y) (λ e. omega (arith, below base a b x y hx (ltb-true a b el)))
      by_cases false false d el es ed =
          let h : b < a = omega (arith, ltb-false a b el, eqb-false a b es) in
          ne_eqb (a * base + x) (b * base + y) (λ e. omega (arith, below base b a y x hy h))

-- ---- two records

regroup : (l s d e t : Bool) → ((l || (s && d)) || ((s && e) && t)) ≡ (l || (s && (d || (e && t))))
regroup true s d e t = refl
regroup false true d e t = refl
regroup false false d e t = refl

module _ (base : ℕ) (r s : List ℕ) (hr : BytesBelow base r) (hs : BytesBelow base s) where
  abbrev less : ℕ → Bool
  less k = ltb (big_endian base k r) (big_endian base k s)

  abbrev same : ℕ → Bool
  same k = eqb (big_endian base k r) (big_endian base k s)

  less-next : (k : ℕ) → less (suc k) ≡ (less k || (same k && ltb (byte r k) (byte s k)))
  unfolding big_endian
  less-next k = digit-less base (big_endian base k r) (big_endian base k s) (byte r k) (byte s k) (hr k) (hs k)

  same_next : (k : ℕ) → same (suc k) ≡ (same k && eqb (byte r k) (byte s k))
  unfolding big_endian
  same_next k = digit-same base (big_endian base k r) (big_endian base k s) (byte r k) (byte s k) (hr k) (hs k)

  -- the first k bytes decide, and where they are the same, the m + 1 after them
  first-decide : (m k : ℕ) → less (k + suc m) ≡ (less k || (same k && rises_from m k r s))
  unfolding rises_from
  first-decide zero k = rw add-one (less-next k)
  first-decide (suc m) k =
      let e : k + suc (suc m) ≡ suc k + suc m = omega arith in
      rw e
      (first-decide m (suc k) ∙ ap₂ (λ (l t : Bool). l || (t && rises_from m (suc k) r s)) (less-next k) (same_next k)
      ∙ regroup (less k) (same k) (ltb (byte r k) (byte s k)) (eqb (byte r k) (byte s k)) (rises_from m (suc k) r s))

  pub rises-as-numbers : (m : ℕ) → ltb (big_endian base (suc m) r) (big_endian base (suc m) s) ≡ rises_from m 0 r s
  unfolding big_endian
  rises-as-numbers m = rw zero-add at (first-decide m 0)

-- The tests of a record's bytes as the library's: a test on some byte of a list, and the order of two lists. Assumes nothing.
use Rattle.std.specs.Prelude.{◌≡◌, refl, Bool, true, false, cond, ◌&&◌, ◌||◌, List, [], ◌∷◌, ℕ, zero, suc, ◌+◌, ◌-◌, ◌≤◌, ◌<◌, eqb, leb, ltb, length, take, drop, Option}
use Rattle.std.specs.declared.cmp.Ordering.{Ordering}
use Rattle.std.specs.Cmp.Lexicographic.{slice_partial_cmp}
use Rattle.std.specs.List.{list_any}
use Rattle.std.specs.Ordering.{is_lt, is_some_and, nat_cmp, partial_lt, partial_ordering_then}
use Rattle.std.proofs.Common.{sym, ap, ◌∙◌, ne_eqb, ltb-true, ltb-false, drop-cons, drop_of_length-le, arith, Some, Less, Equal, Greater}
use Rattle.spec_file.specs.Limits.{nonterminals, symbol_bytes}
use Rattle.spec_file.specs.Forms.{eight, sixteen}
use Rattle.spec_file.specs.Records.{byte, rule_kind, transition_kind, final_kind}
use Rattle.spec_file.specs.Refusals.{high_symbol, stray_symbol, some_byte, rises_from, rises_in, above_range_in, stray_byte_in}
use Rattle.file_wide_checks.specs.Front.{front_of, symbols_of}

-- ---- joined tests

or-none : (a : Bool) → (a || false) ≡ a
or-none true = refl
or-none false = refl

-- ---- a record's range

-- of a record that is no rule, the first eight bytes decide
pub other-range : (r : List ℕ) → (byte r 0 ≡ rule_kind → ⊥) → above_range_in eight (front_of r) ≡ above_range_in sixteen r
unfolding above_range_in
other-range r k = rw (ne_eqb (byte r 0) rule_kind k)

-- of a rule, its head, its length and its symbols
pub rule-range : (r : List ℕ) → byte r 0 ≡ rule_kind
    → ((leb nonterminals (byte r 1) || ltb sixteen.body_limit (byte r 2)) || high_symbol (sixteen.body_limit - 1) 0 r) ≡ above_range_in sixteen r
unfolding above_range_in
rule-range r k = rw (k) (sym (or-none _))

-- ---- unused bytes, by the kind

module _ (r : List ℕ) where
  pub rule-stray : byte r 0 ≡ rule_kind → (stray_symbol (sixteen.body_limit - 1) 0 r || ltb 0 (byte r 15)) ≡ stray_byte_in sixteen r
  unfolding stray_byte_in
  rule-stray k = rw k (sym (or-none _))

  pub transition-stray : byte r 0 ≡ transition_kind → some_byte 11 4 r ≡ stray_byte_in sixteen r
  unfolding stray_byte_in
  transition-stray k = rw k (sym (or-none _))

  pub final-stray : byte r 0 ≡ final_kind → some_byte 13 2 r ≡ stray_byte_in sixteen r
  unfolding stray_byte_in
  final-stray k = rw k

-- ---- a test of the bytes, as a list

module _ (f : ℕ → Bool) where
  -- symbol j, of a body of n
  take-next : (n j x : ℕ) (ys : List ℕ) → list_any f (take (n - j) (x ∷ ys)) ≡ ((ltb j n && f x) || list_any f (take (n - suc j) ys))
  take-next n j x ys = by (ltb j n) (ltb-true j n) (ltb-false j n)
    where
      by : (b : Bool) → (b ≡ true → j < n) → (b ≡ false → n ≤ j) → list_any f (take (n - j) (x ∷ ys)) ≡ ((b && f x) || list_any f (take (n - suc j) ys))
      by true p q = let h = p refl in let z : n - j ≡ suc (n - suc j) = omega arith in rw z
      by false p q =
          let h = q refl in
          let z : n - j ≡ 0 = omega arith in
          let y : n - suc j ≡ 0 = omega arith in
          rw (z, y)

  -- symbol j, past a body of n
  drop-next : (n j x : ℕ) (ys : List ℕ) → list_any f (drop (n - j) (x ∷ ys)) ≡ ((ltb n (suc j) && f x) || list_any f (drop (n - suc j) ys))
  drop-next n j x ys = by (ltb n (suc j)) (ltb-true n (suc j)) (ltb-false n (suc j))
    where
      by : (b : Bool) → (b ≡ true → n < suc j) → (b ≡ false → suc j ≤ n) → list_any f (drop (n - j) (x ∷ ys)) ≡ ((b && f x) || list_any f (drop (n - suc j) ys))
      by true p q =
          let h = p refl in
          let z : n - j ≡ 0 = omega arith in
          let y : n - suc j ≡ 0 = omega arith in
          rw (z, y)
      by false p q = let h = q refl in let z : n - j ≡ suc (n - suc j) = omega arith in rw z

none_taken : (f : ℕ → Bool) (k : ℕ) → list_any f (take k []) ≡ false
none_taken f zero = refl
none_taken f (suc k) = refl

none_dropped : (f : ℕ → Bool) (k : ℕ) → list_any f (drop k []) ≡ false
none_dropped f zero = refl
none_dropped f (suc k) = refl

module _ (r : List ℕ) where
  abbrev size : ℕ
  size = byte r 2

  -- symbol j is used, and above its range
  abbrev high_at : ℕ → Bool
  high_at j = ltb j size && leb symbol_bytes (byte r (3 + j))

  -- symbol j is not used, and not 0
  abbrev stray_at : ℕ → Bool
  stray_at j = ltb size (suc j) && ltb 0 (byte r (3 + j))

  -- symbol j and the m after it, as far as they are used
  high-any : (m j : ℕ) → 3 + j + m < length r → list_any (leb symbol_bytes) (take (size - j) (take (suc m) (drop (3 + j) r))) ≡ high_symbol m j r
  high-any zero j h =
      rw (drop-cons r (3 + j) 0 (omega arith))
      (take-next (leb symbol_bytes) size j (byte r (3 + j)) [] ∙ ap (λ (b : Bool). high_at j || b) (none_taken (leb symbol_bytes) (size - suc j)) ∙ or-none (high_at j))
  high-any (suc m) j h =
      let z : suc (3 + j) ≡ 3 + suc j = omega arith in
      rw (drop-cons r (3 + j) 0 (omega arith))
      (take-next (leb symbol_bytes) size j (byte r (3 + j)) (take (suc m) (drop (suc (3 + j)) r))
      ∙ ap (λ (k : ℕ). high_at j || list_any (leb symbol_bytes) (take (size - suc j) (take (suc m) (drop k r)))) z
      ∙ ap (λ (b : Bool). high_at j || b) (high-any m (suc j) (omega arith)))

  -- the same, as far as they are not used
  stray-any : (m j : ℕ) → 3 + j + m < length r → list_any (ltb 0) (drop (size - j) (take (suc m) (drop (3 + j) r))) ≡ stray_symbol m j r
  stray-any zero j h =
      rw (drop-cons r (3 + j) 0 (omega arith))
      (drop-next (ltb 0) size j (byte r (3 + j)) [] ∙ ap (λ (b : Bool). stray_at j || b) (none_dropped (ltb 0) (size - suc j)) ∙ or-none _)
  stray-any (suc m) j h =
      let z : suc (3 + j) ≡ 3 + suc j = omega arith in
      rw (drop-cons r (3 + j) 0 (omega arith))
      (drop-next (ltb 0) size j (byte r (3 + j)) (take (suc m) (drop (suc (3 + j)) r))
      ∙ ap (λ (k : ℕ). stray_at j || list_any (ltb 0) (drop (size - suc j) (take (suc m) (drop k r)))) z
      ∙ ap (λ (b : Bool). stray_at j || b) (stray-any m (suc j) (omega arith)))

  -- of twelve symbols
  module _ (l : length r ≡ sixteen.width) where
    pub high-symbols : list_any (leb symbol_bytes) (take size (symbols_of r)) ≡ high_symbol (sixteen.body_limit - 1) 0 r
    high-symbols = let z : size ≡ size - 0 = omega arith in ap (λ (n : ℕ). list_any (leb symbol_bytes) (take n (symbols_of r))) z ∙ high-any 11 0 (omega (arith, l))

    pub stray-symbols : list_any (ltb 0) (drop size (symbols_of r)) ≡ stray_symbol (sixteen.body_limit - 1) 0 r
    stray-symbols = let z : size ≡ size - 0 = omega arith in ap (λ (n : ℕ). list_any (ltb 0) (drop n (symbols_of r))) z ∙ stray-any 11 0 (omega (arith, l))

  -- byte j and the m after it
  pub byte-any : (m j : ℕ) → j + m < length r → list_any (ltb 0) (take (suc m) (drop j r)) ≡ some_byte m j r
  byte-any zero j h = rw (drop-cons r j 0 (omega arith)) (or-none (ltb 0 (byte r j)))
  byte-any (suc m) j h = rw (drop-cons r j 0 (omega arith)) (ap (λ (b : Bool). ltb 0 (byte r j) || b) (byte-any m (suc j) (omega arith)))

-- ---- two records

-- a first byte decides where it differs, and else the bytes after it
first-decides : (less same : Bool) (rest : Option Ordering)
    → is_some_and is_lt (partial_ordering_then (Some (cond less Less (cond same Equal Greater))) rest) ≡ (less || (same && is_some_and is_lt rest))
first-decides true same rest = refl
first-decides false true rest = refl
first-decides false false rest = refl

abbrev bytes_cmp : List ℕ → List ℕ → Option Ordering
bytes_cmp = slice_partial_cmp (λ x y. Some (nat_cmp x y))

below-lt : (r s : List ℕ) (m j : ℕ) → length r ≡ suc m + j → length s ≡ suc m + j → is_some_and is_lt (bytes_cmp (drop j r) (drop j s)) ≡ rises_from m j r s
unfolding rises_from
below-lt r s zero j l k =
    let e : length r ≤ suc j = omega arith in
    let d : length s ≤ suc j = omega arith in
    rw (drop-cons r j 0 (omega arith), drop-cons s j 0 (omega arith), drop_of_length-le r e, drop_of_length-le s d)
    (first-decides (ltb (byte r j) (byte s j)) (eqb (byte r j) (byte s j)) (Some Equal) ∙ last (ltb (byte r j) (byte s j)) (eqb (byte r j) (byte s j)))
  where
    last : (x y : Bool) → (x || (y && false)) ≡ x
    last true y = refl
    last false true = refl
    last false false = refl
below-lt r s (suc m) j l k =
    rw (drop-cons r j 0 (omega arith), drop-cons s j 0 (omega arith))
    (first-decides (ltb (byte r j) (byte s j)) (eqb (byte r j) (byte s j)) (bytes_cmp (drop (suc j) r) (drop (suc j) s))
    ∙ ap (λ (b : Bool). ltb (byte r j) (byte s j) || (eqb (byte r j) (byte s j) && b)) (below-lt r s m (suc j) (omega arith) (omega arith)))

-- the order of the library on arrays is that of the definition
pub rises-lt : (r s : List ℕ) → length r ≡ sixteen.width → length s ≡ sixteen.width → partial_lt (slice_partial_cmp (λ x y. Some (nat_cmp x y))) r s ≡ rises_in sixteen r s
rises-lt r s l k = below-lt r s 15 0 l k

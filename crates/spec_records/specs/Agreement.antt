-- `fault_in` of spec_file, which reads a file by the places of its bytes, is `fault_on_records`, which reads the list of its records: for every
-- form that has room for its bodies, so for the forms of 8 and of 16 bytes. Assumes nothing.
use Rattle.std.specs.Prelude.{◌≡◌, Bool, not, ◌&&◌, ◌||◌, eqb, length, take, get_or}
use Rattle.std.proofs.Math.Path.{refl, sym, ap}
use Rattle.std.proofs.Common.{ap₂, ◌∙◌, true≢false, drop_of_length-le, drop-cons}
use Rattle.std.proofs.Math.Bool.{true, false, cond}
use mathlib.Core.List.{List, [], ◌∷◌}
use Prim.Native.Nat.{ℕ, zero, suc, ◌+◌, ◌-◌, ◌*◌, ◌/◌, ◌≤◌, ◌<◌}
use Rattle.std.proofs.Math.Nat.{zero-mul, suc-mul, div-add-mod'}
use native.Mathlib.Omega.{arith}
use Rattle.std.proofs.Math.Dec.{leb, ltb}
use Rattle.std.proofs.Math.ListN.{drop}
use Rattle.std.proofs.Math.Seq.{drop-drop}
use borrow.Author.Tests.{eq-eqb, ne_eqb, le-ltb, ltb-true, ltb-false, not-false}
use Rattle.spec_basics.specs.Elements.{any}
use Rattle.spec_basics.specs.Tests.{or-neither, and-snd}
use Rattle.relation.specs.Relation.{states}
use Rattle.spec_file.specs.Limits.{terminals, nonterminals, symbol_bytes}
use Rattle.spec_file.specs.Forms.{Form, eight, sixteen}
use Rattle.spec_file.specs.Records.{byte, bytes_after, record_count_in, record_in, count_in, rule_kind, transition_kind, final_kind}
use Rattle.spec_file.specs.Refusals.{Refusal, refuse, or_next, kind_known, high_symbol, stray_symbol, some_byte, rises_from, on_remark, over_limit, above_range_in, stray_byte_in, exceeds_in, fault_by_in, fault_at_in, length_fault_in, fault_from_in, fault_in}
use Rattle.spec_file.proofs.RefusalLaws.{test-next}
use Rattle.spec_records.specs.Blocks.{blocks, records_of}
use Rattle.spec_records.specs.OnRecords.{used_bytes, high_byte, unused_byte, precedes, follows, fault_of, fault_among, fault_on_records}

-- a record has room for its bodies, and bytes after them; a torn file has a number
pub record Fitting (F : Form) : Type 0 where
  pub some-symbol : 0 < F.body_limit
  pub room : F.body_limit + 4 ≤ F.width
  pub refuses : 0 < F.torn

-- ---- bytes at places, and the tail of a list

bytes_cut : (bs : List ℕ) (p m j : ℕ) → p + j + m ≤ length bs → bytes_after bs p m j ≡ take m (drop (p + j) bs)
bytes_cut bs p zero j h = refl
bytes_cut bs p (suc m) j h =
    let z : suc (p + j) ≡ p + suc j = omega arith in
    rw (drop-cons bs (p + j) 0 (omega arith)) (ap (λ (t : List ℕ). get_or bs (p + j) 0 ∷ t) (bytes_cut bs p m (suc j) (omega arith) ∙ ap (λ (k : ℕ). take m (drop k bs)) (sym z)))

drop-last : (r : List ℕ) (j : ℕ) → length r ≡ suc j → drop j r ≡ byte r j ∷ []
drop-last r j l = let h : length r ≤ suc j = omega arith in drop-cons r j 0 (omega arith) ∙ ap (λ (t : List ℕ). byte r j ∷ t) (drop_of_length-le r h)

or-none : (x : Bool) → (x || false) ≡ x
or-none true = refl
or-none false = refl

or_assoc : (x y z : Bool) → ((x || y) || z) ≡ (x || (y || z))
or_assoc true y z = refl
or_assoc false y z = refl

-- ---- the tests of one record, over its bytes and over its tails

-- f: a test of a byte; n: how many symbols are used
module _ (f : ℕ → Bool) (r : List ℕ) (n : ℕ) where
  take_next : (j : ℕ) → 3 + j < length r → any f (take (n - j) (drop (3 + j) r)) ≡ ((ltb j n && f (byte r (3 + j))) || any f (take (n - suc j) (drop (3 + suc j) r)))
  take_next j l = by (ltb j n) (ltb-true j n) (ltb-false j n)
    where
      by : (b : Bool) → (b ≡ true → j < n) → (b ≡ false → n ≤ j) → any f (take (n - j) (drop (3 + j) r)) ≡ ((b && f (byte r (3 + j))) || any f (take (n - suc j) (drop (3 + suc j) r)))
      by true p q =
          let h = p refl in
          let z : n - j ≡ suc (n - suc j) = omega arith in
          let e : suc (3 + j) ≡ 3 + suc j = omega arith in
          rw (z, drop-cons r (3 + j) 0 l) (ap (λ (k : ℕ). f (byte r (3 + j)) || any f (take (n - suc j) (drop k r))) e)
      by false p q =
          let h = q refl in
          let z : n - j ≡ 0 = omega arith in
          let y : n - suc j ≡ 0 = omega arith in
          rw (z, y)

  drop-next : (j : ℕ) → 3 + j < length r → any f (drop (3 + (j + (n - j))) r) ≡ ((ltb n (suc j) && f (byte r (3 + j))) || any f (drop (3 + (suc j + (n - suc j))) r))
  drop-next j l = by (ltb n (suc j)) (ltb-true n (suc j)) (ltb-false n (suc j))
    where
      by : (b : Bool) → (b ≡ true → n < suc j) → (b ≡ false → suc j ≤ n) → any f (drop (3 + (j + (n - j))) r) ≡ ((b && f (byte r (3 + j))) || any f (drop (3 + (suc j + (n - suc j))) r))
      by true p q =
          let h = p refl in
          let z : 3 + (j + (n - j)) ≡ 3 + j = omega arith in
          let e : suc (3 + j) ≡ 3 + (suc j + (n - suc j)) = omega arith in
          rw (z, drop-cons r (3 + j) 0 l) (ap (λ (k : ℕ). f (byte r (3 + j)) || any f (drop k r)) e)
      by false p q =
          let h = q refl in
          let z : 3 + (j + (n - j)) ≡ 3 + (suc j + (n - suc j)) = omega arith in
          ap (λ (k : ℕ). any f (drop k r)) z

-- symbol j and the m after it, of a body that ends with them or before
high-any : (r : List ℕ) (m j : ℕ) → 3 + j + suc m ≤ length r → byte r 2 ≤ j + suc m → high_symbol m j r ≡ any (leb symbol_bytes) (take (byte r 2 - j) (drop (3 + j) r))
high-any r zero j l n =
    let z : byte r 2 - suc j ≡ 0 = omega arith in
    sym (take_next (leb symbol_bytes) r (byte r 2) j (omega arith) ∙ ap (λ (k : ℕ). (ltb j (byte r 2) && leb symbol_bytes (byte r (3 + j))) || any (leb symbol_bytes) (take k (drop (3 + suc j) r))) z ∙ or-none _)
high-any r (suc m) j l n =
    ap (λ (x : Bool). (ltb j (byte r 2) && leb symbol_bytes (byte r (3 + j))) || x) (high-any r m (suc j) (omega arith) (omega arith)) ∙ sym (take_next (leb symbol_bytes) r (byte r 2) j (omega arith))

-- symbol j and the m after it, as far as they are not used, and the bytes after them
stray-any : (r : List ℕ) (m j : ℕ) → 3 + j + suc m ≤ length r → byte r 2 ≤ j + suc m
    → (stray_symbol m j r || any (ltb 0) (drop (3 + (j + suc m)) r)) ≡ any (ltb 0) (drop (3 + (j + (byte r 2 - j))) r)
stray-any r zero j l n =
    let z : 3 + (j + 1) ≡ 3 + (suc j + (byte r 2 - suc j)) = omega arith in
    ap (λ (k : ℕ). (ltb (byte r 2) (suc j) && ltb 0 (byte r (3 + j))) || any (ltb 0) (drop k r)) z ∙ sym (drop-next (ltb 0) r (byte r 2) j (omega arith))
stray-any r (suc m) j l n =
    let z : 3 + (j + suc (suc m)) ≡ 3 + (suc j + suc m) = omega arith in
    let A = ltb (byte r 2) (suc j) && ltb 0 (byte r (3 + j)) in
    or_assoc A (stray_symbol m (suc j) r) (any (ltb 0) (drop (3 + (j + suc (suc m))) r))
    ∙ ap (λ (k : ℕ). A || (stray_symbol m (suc j) r || any (ltb 0) (drop k r))) z
    ∙ ap (λ (x : Bool). A || x) (stray-any r m (suc j) (omega arith) (omega arith))
    ∙ sym (drop-next (ltb 0) r (byte r 2) j (omega arith))

some-any : (r : List ℕ) (m j : ℕ) → length r ≡ j + suc m → some_byte m j r ≡ any (ltb 0) (drop j r)
some-any r zero j l = rw (drop-last r j (omega arith)) (sym (or-none (ltb 0 (byte r j))))
some-any r (suc m) j l = rw (drop-cons r j 0 (omega arith)) (ap (λ (x : Bool). ltb 0 (byte r j) || x) (some-any r m (suc j) (omega arith)))

-- ---- the numbers 4 and 5 of one record

module _ (F : Form) (fits : Fitting F) (r : List ℕ) (wide : length r ≡ F.width) where
  abbrev most : ℕ
  most = F.body_limit

  -- the tests of a body
  abbrev inside : Bool
  inside = (leb nonterminals (byte r 1) || ltb most (byte r 2)) || high_symbol (most - 1) 0 r

  high_same : ((leb nonterminals (byte r 1) || ltb most (byte r 2)) || any (leb symbol_bytes) (take (byte r 2) (drop 3 r))) ≡ inside
  high_same = by (leb nonterminals (byte r 1)) (ltb most (byte r 2)) (ltb-false most (byte r 2))
    where
      by : (h b : Bool) → (b ≡ false → byte r 2 ≤ most) → ((h || b) || any (leb symbol_bytes) (take (byte r 2) (drop 3 r))) ≡ ((h || b) || high_symbol (most - 1) 0 r)
      by true b p = refl
      by false true p = refl
      by false false p =
          let n = p refl in
          let z : byte r 2 ≡ byte r 2 - 0 = omega arith in
          ap (λ (k : ℕ). any (leb symbol_bytes) (take k (drop 3 r))) z
          ∙ sym (high-any r (most - 1) 0 (omega (arith, fits.room, fits.some-symbol)) (omega (arith, fits.some-symbol)))

  above_same : high_byte most r ≡ above_range_in F r
  unfolding high_byte above_range_in
  above_same =
      ap (λ (x : Bool). (eqb (byte r 0) rule_kind && x)
      || ((eqb (byte r 0) transition_kind && ((leb states (byte r 1) || leb terminals (byte r 2)) || leb states (byte r 3))) || (eqb (byte r 0) final_kind && leb states (byte r 1))))
      high_same

  few-symbols : byte r 0 ≡ rule_kind → above_range_in F r ≡ false → byte r 2 ≤ most
  unfolding above_range_in
  few-symbols k h =
      let p : inside ≡ false = sym (ap (λ (b : Bool). b && inside) (eq-eqb (byte r 0) rule_kind k)) ∙ (or-neither (eqb (byte r 0) rule_kind && inside) _ h).0 in
      ltb-false most (byte r 2) (or-neither (leb nonterminals (byte r 1)) (ltb most (byte r 2)) (or-neither _ (high_symbol (most - 1) 0 r) p).0).1

  unused-same : kind_known r ≡ true → above_range_in F r ≡ false → unused_byte r ≡ stray_byte_in F r
  unfolding kind_known unused_byte stray_byte_in
  unused-same known range = by (byte r 0) refl known
    where
      by : (k : ℕ) → byte r 0 ≡ k → (ltb 0 k && ltb k 4) ≡ true
          → any (ltb 0) (drop (used_bytes r) r)
          ≡ ((eqb (byte r 0) rule_kind && (stray_symbol (most - 1) 0 r || some_byte (F.width - (most + 4)) (3 + most) r))
          || ((eqb (byte r 0) transition_kind && some_byte (F.width - 5) 4 r) || (eqb (byte r 0) final_kind && some_byte (F.width - 3) 2 r)))
      by zero e known = absurd (true≢false (sym known))
      by (suc zero) e known =
          let n = few-symbols e range in
          let room = fits.room in
          let some = fits.some-symbol in
          let z : 3 + (0 + suc (most - 1)) ≡ 3 + most = omega arith in
          let y : 3 + (0 + (byte r 2 - 0)) ≡ 3 + byte r 2 = omega arith in
          rw e
          (sym (or-none _
          ∙ ap (λ (x : Bool). stray_symbol (most - 1) 0 r || x) (some-any r (F.width - (most + 4)) (3 + most) (omega arith))
          ∙ ap (λ (k : ℕ). stray_symbol (most - 1) 0 r || any (ltb 0) (drop k r)) (sym z)
          ∙ stray-any r (most - 1) 0 (omega arith) (omega arith)
          ∙ ap (λ (k : ℕ). any (ltb 0) (drop k r)) y))
      by (suc (suc zero)) e known = rw e (sym (or-none _ ∙ some-any r (F.width - 5) 4 (omega (arith, fits.room, fits.some-symbol))))
      by (suc (suc (suc zero))) e known = rw e (sym (some-any r (F.width - 3) 2 (omega (arith, fits.room, fits.some-symbol))))
      by (suc (suc (suc (suc k)))) e known =
          absurd (true≢false (sym (and-snd (ltb 0 (suc (suc (suc (suc k))))) (ltb (suc (suc (suc (suc k)))) 4) known) ∙ le-ltb (suc (suc (suc (suc k)))) 4 (omega arith)))

-- ---- a record and the one before it

precedes-same : (r s : List ℕ) (m j : ℕ) → length r ≡ suc m + j → length s ≡ suc m + j → precedes (drop j r) (drop j s) ≡ rises_from m j r s
unfolding rises_from
precedes-same r s zero j lr ls =
    rw (drop-last r j (omega arith), drop-last s j (omega arith)) (last (ltb (byte r j) (byte s j)) (eqb (byte r j) (byte s j)))
  where
    last : (x y : Bool) → (x || (y && false)) ≡ x
    last true y = refl
    last false true = refl
    last false false = refl
precedes-same r s (suc m) j lr ls =
    rw (drop-cons r j 0 (omega arith), drop-cons s j 0 (omega arith))
    (ap (λ (x : Bool). ltb (byte r j) (byte s j) || (eqb (byte r j) (byte s j) && x)) (precedes-same r s m (suc j) (omega arith) (omega arith)))

-- one more test, which is the same, and before it none has held
test-if : (f : ℕ) {m k : ℕ} {a b : Bool} → a ≡ b → (b ≡ false → m ≡ k) → cond a f m ≡ cond b f k
test-if f {m} {k} {a} {b} e h = ap (λ (x : Bool). cond x f m) e ∙ by b h
  where
    by : (b : Bool) → (b ≡ false → m ≡ k) → cond b f m ≡ cond b f k
    by true h = refl
    by false h = h refl

-- ---- the whole file

module _ (F : Form) (fits : Fitting F) (bs : List ℕ) where
  abbrev w : ℕ
  w = F.width

  -- record i by its place in the file
  pub record-cut : (i : ℕ) → i * w + w ≤ length bs → record_in F bs i ≡ take w (drop (i * w) bs)
  record-cut i h =
      let room = fits.room in
      let z : suc (w - 1) ≡ w = omega arith in
      let y : i * w + 1 ≡ suc (i * w) = omega arith in
      ap (λ (t : List ℕ). get_or bs (i * w) 0 ∷ t) (bytes_cut bs (i * w) (w - 1) 1 (omega arith) ∙ ap (λ (k : ℕ). take (w - 1) (drop k bs)) y)
      ∙ ap (take (suc (w - 1))) (sym (drop-cons bs (i * w) 0 (omega arith)))
      ∙ ap (λ (k : ℕ). take k (drop (i * w) bs)) z

  length-record : (i : ℕ) → length (record_in F bs i) ≡ w
  length-record i = let room = fits.room in let l = long (w - 1) 1 in omega arith
    where
      long : (m j : ℕ) → length (bytes_after bs (i * w) m j) ≡ m
      long zero j = refl
      long (suc m) j = ap suc (long m (suc j))

  -- the record before record i
  before : ℕ → List ℕ
  before zero = []
  before (suc i) = record_in F bs i

  follows_same : (i : ℕ) → follows (before i) (record_in F bs i) ≡ exceeds_in F bs i
  unfolding before exceeds_in
  follows_same zero = refl
  follows_same (suc i) =
      let room = fits.room in
      let z : suc i - 1 ≡ i = omega arith in
      rw (ne_eqb (suc i) 0 (λ e. omega arith), z)
      (precedes-same (record_in F bs i) (record_in F bs (suc i)) (w - 1) 0 (length-record i ∙ (let y : w ≡ suc (w - 1) + 0 = omega arith in y)) (length-record (suc i) ∙ (let y : w ≡ suc (w - 1) + 0 = omega arith in y)))

  fault-same : (i rules transitions : ℕ) → fault_of F.body_limit (before i) rules transitions (record_in F bs i) ≡ fault_by_in F bs i rules transitions
  unfolding fault_of fault_by_in
  fault-same i rules transitions =
      let r = record_in F bs i in
      let l = length-record i in
      test-if 3 refl
      (λ known. test-if 4 (above_same F fits r l)
      (λ range. test-next 5 (unused-same F fits r l (not-false (kind_known r) known) range)
      (ap (λ (b : Bool). cond (on_remark r) 12 (cond (not b) 6 (cond (over_limit r rules transitions) 7 0))) (follows_same i))))

  among_same : (m i : ℕ) → i * w + m * w ≤ length bs
      → fault_among F.body_limit (before i) (count_in F bs rule_kind i) (count_in F bs transition_kind i) i (blocks w m (drop (i * w) bs)) ≡ fault_from_in F bs m i
  unfolding fault_among fault_from_in fault_at_in before count_in
  among_same zero i h = refl
  among_same (suc m) i h =
      let on : drop w (drop (i * w) bs) ≡ drop (suc i * w) bs = drop-drop w (i * w) bs ∙ ap (λ (n : ℕ). drop n bs) (sym (suc-mul i w)) in
      rw (sym (record-cut i (omega (arith, suc-mul m w))), on)
      (ap₂ (λ (f : ℕ) (x : Refusal). or_next (refuse f i) x) (fault-same i (count_in F bs rule_kind i) (count_in F bs transition_kind i)) (among_same m (suc i) (omega (arith, suc-mul m w, suc-mul i w))))

  pub on-records : fault_on_records F bs ≡ fault_in F bs
  unfolding fault_on_records fault_in length_fault_in before count_in
  on-records =
      ap (or_next (refuse (length_fault_in F bs) 0)) (from_start (among_same (length bs / w) 0 (omega (arith, zero-mul w, div-add-mod' (length bs) w))))
    where
      from_start : fault_among F.body_limit (before 0) (count_in F bs rule_kind 0) (count_in F bs transition_kind 0) 0 (blocks w (length bs / w) (drop (0 * w) bs)) ≡ fault_from_in F bs (length bs / w) 0
          → fault_among F.body_limit [] 0 0 0 (records_of w bs) ≡ fault_from_in F bs (record_count_in F bs) 0
      from_start h = rw (zero-mul w) at h

-- ---- the two forms

pub eight_fits : Fitting eight
eight_fits = record { some-symbol = omega arith; room = omega arith; refuses = omega arith }

pub sixteen-fits : Fitting sixteen
sixteen-fits = record { some-symbol = omega arith; room = omega arith; refuses = omega arith }

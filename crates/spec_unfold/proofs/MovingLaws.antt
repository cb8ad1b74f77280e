-- Every file of 8-byte records moves over, and moving back gives the same bytes (document 02, C-17). Assumes nothing.
use Rattle.std.specs.Prelude.{◌≡◌, Bool, ◌&&◌, ◌||◌, cond, length, drop, replicate}
use Rattle.std.proofs.Math.Path.{refl, sym, ap, ap₂, subst}
use Rattle.std.proofs.Common.{◌∙◌, inl, inr, length-append, length-take, take-append-drop}
use Rattle.std.proofs.Math.Bool.{true, false, true≢false}
use mathlib.Core.List.{List, [], ◌∷◌, ◌++◌, map}
use Prim.Native.Nat.{ℕ, ◌+◌, ◌-◌, ◌/◌, ◌≤◌, ◌<◌, min}
use native.Mathlib.Omega.{arith}
use Rattle.std.proofs.Math.Dec.{eqb, leb, ltb}
use Rattle.std.proofs.Math.ListN.{take, length-drop, get_or-append}
use Rattle.std.proofs.lemmas.List.{length-map, drop-append-le}
use Rattle.std.proofs.Math.Seq.{take-append-le, take_at}
use borrow.Author.Tests.{eqb-true, eq-eqb, le-ltb, ltb-false, ltb-true}
use Rattle.spec_basics.specs.Tests.{or-neither, fails, and_intro, and-fst, and-snd}
use Rattle.spec_basics.specs.Elements.{In, any}
use Rattle.spec_basics.specs.Lists.{map-in, any_append, any_of, any_at}
use Rattle.relation.specs.Relation.{states}
use Rattle.spec_language.specs.Remarks.{first_remark}
use Rattle.spec_file.specs.Records.{byte, rule_kind, transition_kind, final_kind}
use Rattle.spec_file.specs.Refusals.{refuse, kind_known, on_remark, fault}
use Rattle.spec_records.specs.Blocks.{bytes_of, records_of}
use Rattle.spec_records.specs.BlockLaws.{Wide, length-blocks, records-bytes, records-wide, bytes-records}
use Rattle.spec_file.specs.Limits.{terminals, nonterminals, symbol_bytes}
use Rattle.spec_file.specs.Forms.{eight, sixteen}
use Rattle.spec_file.specs.Refusals.{fault_in}
use Rattle.spec_records.specs.OnRecords.{body_in, used_bytes, high_byte, unused_byte, precedes}
use Rattle.spec_records.specs.FormLaws.{Alone, count_among, Sound, SoundFile, sound, records-file}
use Rattle.spec_records.specs.RecordLaws.{precedes-append, precedes-cancel, zeros, none-stray, rule-bytes}
use Rattle.spec_records.specs.Agreement.{eight_fits, sixteen-fits}
use Rattle.spec_unfold.specs.Moving.{wider, narrower, widened, narrowed, is_long, has_long}
use Rattle.spec_unfold.proofs.OrderLaws.{rising-ordered, ordered-rising, ordered-map}

-- ---- one record

-- t: eight bytes; x: the bytes after them
module _ (t x : List ℕ) (eight-long : length t ≡ 8) where
  pub byte-same : (j : ℕ) → j < 8 → byte (t ++ x) j ≡ byte t j
  byte-same j h = get_or-append t x 0 j (omega arith)

  pub body_same : byte t 2 ≤ 5 → body_in (t ++ x) ≡ body_in t
  body_same h =
      ap₂ (λ (n : ℕ) (l : List ℕ). take n l) (byte-same 2 (omega arith)) (drop-append-le 3 t x (omega arith))
      ∙ take-append-le (byte t 2) (drop 3 t) x (omega (arith, length-drop 3 t))

  used-same : used_bytes (t ++ x) ≡ used_bytes t
  used-same = ap₂ (λ (k n : ℕ). cond (eqb k rule_kind) (3 + n) (cond (eqb k transition_kind) 4 2)) (byte-same 0 (omega arith)) (byte-same 2 (omega arith))

  stray-same : used_bytes t ≤ 8 → unused_byte (t ++ x) ≡ (unused_byte t || any (ltb 0) x)
  unfolding unused_byte
  stray-same h =
      ap (λ (u : ℕ). any (ltb 0) (drop u (t ++ x))) used-same ∙ ap (any (ltb 0)) (drop-append-le (used_bytes t) t x (omega arith)) ∙ any_append (ltb 0) (drop (used_bytes t) t) x

  known_same : kind_known (t ++ x) ≡ kind_known t
  unfolding kind_known
  known_same = ap (λ (k : ℕ). ltb 0 k && ltb k 4) (byte-same 0 (omega arith))

  step_same : on_remark (t ++ x) ≡ on_remark t
  unfolding on_remark
  step_same = ap₂ (λ (k c : ℕ). eqb k transition_kind && leb first_remark c) (byte-same 0 (omega arith)) (byte-same 2 (omega arith))

  -- where a rule's body is short, a limit on bodies that it keeps does not matter
  range_same : (m m' : ℕ) → (byte t 0 ≡ rule_kind → (byte t 2 ≤ 2) × (byte t 2 ≤ m) × (byte t 2 ≤ m')) → high_byte m' (t ++ x) ≡ high_byte m t
  unfolding high_byte
  range_same m m' few =
      rw (byte-same 0 (omega arith), byte-same 1 (omega arith), byte-same 2 (omega arith), byte-same 3 (omega arith))
      (ap (λ (b : Bool). b || ((eqb (byte t 0) transition_kind && ((leb states (byte t 1) || leb terminals (byte t 2)) || leb states (byte t 3))) || (eqb (byte t 0) final_kind && leb states (byte t 1)))) (by (eqb (byte t 0) rule_kind) (eqb-true (byte t 0) rule_kind)))
    where
      by : (b : Bool) → (b ≡ true → byte t 0 ≡ rule_kind)
          → (b && ((leb nonterminals (byte t 1) || ltb m' (byte t 2)) || any (leb symbol_bytes) (take (byte t 2) (drop 3 (t ++ x)))))
          ≡ (b && ((leb nonterminals (byte t 1) || ltb m (byte t 2)) || any (leb symbol_bytes) (body_in t)))
      by false p = refl
      by true p =
          let f = few (p refl) in
          let n = f.0 in
          let body : take (byte t 2) (drop 3 (t ++ x)) ≡ body_in t = ap (take (byte t 2)) (drop-append-le 3 t x (omega arith)) ∙ take-append-le (byte t 2) (drop 3 t) x (omega (arith, length-drop 3 t)) in
          rw (le-ltb m (byte t 2) f.1, le-ltb m' (byte t 2) f.2, body)

-- a record whose body is short uses eight bytes at most
used-few : (r : List ℕ) → (byte r 0 ≡ rule_kind → byte r 2 ≤ 2) → used_bytes r ≤ 8
used-few r h = by (eqb (byte r 0) rule_kind) (eqb-true (byte r 0) rule_kind) (eqb (byte r 0) transition_kind)
  where
    by : (a : Bool) → (a ≡ true → byte r 0 ≡ rule_kind) → (b : Bool) → cond a (3 + byte r 2) (cond b 4 2) ≤ 8
    by true p b = let l = h (p refl) in omega arith
    by false p true = omega arith
    by false p false = omega arith

pub wider-alone : (r : List ℕ) → length r ≡ 8 → Alone 2 r → Alone 12 (wider r)
wider-alone r l a =
    let short : byte r 0 ≡ rule_kind → byte r 2 ≤ 2 = λ k. (rule-bytes 2 r a.range k).size in
    record {
      kind = known_same r (replicate 8 0) l ∙ a.kind;
      range = range_same r (replicate 8 0) l 2 12 (λ k. let s = short k in (s, s, omega arith)) ∙ a.range;
      zeros = stray-same r (replicate 8 0) l (used-few r short) ∙ ap (λ (b : Bool). b || any (ltb 0) (replicate 8 0)) a.zeros ∙ none-stray 8;
      step = step_same r (replicate 8 0) l ∙ a.step;
    }

-- a record of 16 bytes whose body is not long
pub record Narrows (r : List ℕ) : Type 0 where
  pub alone : Alone 2 (narrower r)
  pub back : wider (narrower r) ≡ r

pub narrows : (r : List ℕ) → length r ≡ 16 → (byte r 0 ≡ rule_kind → byte r 2 ≤ 2) → Alone 12 r → Narrows r
narrows r l short a =
    let t = take 8 r in
    let x = drop 8 r in
    let lt : length t ≡ 8 = length-take 8 r ∙ (let z : min 8 (length r) ≡ 8 = omega arith in z) in
    let whole : t ++ x ≡ r = take-append-drop 8 r in
    let short' : byte t 0 ≡ rule_kind → byte t 2 ≤ 2 =
    λ k. rw (byte-same t x lt 2 (omega arith)) at (subst (λ (v : List ℕ). byte v 2 ≤ 2) (sym whole) (short (subst (λ (v : List ℕ). byte v 0 ≡ rule_kind) whole (byte-same t x lt 0 (omega arith) ∙ k)))) in
    let a' : Alone 12 (t ++ x) = subst (Alone 12) (sym whole) a in
    let clean = or-neither (unused_byte t) (any (ltb 0) x) (sym (stray-same t x lt (used-few t short')) ∙ a'.zeros) in
    let ends : x ≡ replicate 8 0 = zeros x clean.1 ∙ ap (λ (n : ℕ). replicate n 0) (length-drop 8 r ∙ (let z : length r - 8 ≡ 8 = omega arith in z)) in
    record {
      alone = record { kind = sym (known_same t x lt) ∙ a'.kind; range = sym (range_same t x lt 2 12 (λ k. let s = short' k in (s, s, omega arith))) ∙ a'.range; zeros = clean.0; step = sym (step_same t x lt) ∙ a'.step };
      back = ap (λ (v : List ℕ). t ++ v) (sym ends) ∙ whole;
    }

-- ---- a list of records, each moved

pub count_map : (k : ℕ) (f : List ℕ → List ℕ) (rs : List (List ℕ)) → ((r : List ℕ) → In r rs → byte (f r) 0 ≡ byte r 0) → count_among k (map f rs) ≡ count_among k rs
count_map k f [] h = refl
count_map k f (r ∷ rs) h = ap₂ (λ (a b : ℕ). cond (eqb a k) 1 0 + b) (h r (inl refl)) (count_map k f rs (λ s m. h s (inr m)))

-- g, and f back again
pub map-fixed : {A B : Type 0} (f : B → A) (g : A → B) (xs : List A) → ((x : A) → In x xs → f (g x) ≡ x) → map f (map g xs) ≡ xs
map-fixed f g [] h = refl
map-fixed {A} f g (x ∷ xs) h = ap₂ (λ (y : A) (ys : List A). y ∷ ys) (h x (inl refl)) (map-fixed f g xs (λ s m. h s (inr m)))

-- a list of sound records moved by f to records of another width
module _ (m m' : ℕ) (f : List ℕ → List ℕ) (rs : List (List ℕ)) (full : (r : List ℕ) → In r rs → 0 < length r) (s : Sound m [] 0 0 rs)
    (alone : (r : List ℕ) → In r rs → Alone m' (f r)) (kind : (r : List ℕ) → In r rs → byte (f r) 0 ≡ byte r 0)
    (order : (r t : List ℕ) → In r rs → In t rs → precedes r t ≡ true → precedes (f r) (f t) ≡ true) where
  moved-sound : Sound m' [] 0 0 (map f rs)
  moved-sound =
      record {
        alone = λ x h. let t = map-in f x rs h in subst (Alone m') (sym t.2) (alone t.0 t.1);
        rising = ordered-rising (map f rs) (ordered-map f rs order (rising-ordered rs full s.rising));
        few-rules = rw (count_map rule_kind f rs kind) s.few-rules;
        few-transitions = rw (count_map transition_kind f rs kind) s.few-transitions;
      }

length-wider : (r : List ℕ) → length r ≡ 8 → length (wider r) ≡ 16
length-wider r h = length-append r (replicate 8 0) ∙ (let z : length r + 8 ≡ 16 = omega arith in z)

pub length-narrower : (r : List ℕ) → length r ≡ 16 → length (narrower r) ≡ 8
length-narrower r h = length-take 8 r ∙ (let z : min 8 (length r) ≡ 8 = omega arith in z)

map-wide : (w w' : ℕ) (f : List ℕ → List ℕ) (rs : List (List ℕ)) → ((r : List ℕ) → length r ≡ w → length (f r) ≡ w') → Wide w rs → Wide w' (map f rs)
map-wide w w' f rs h wide x m = let t = map-in f x rs m in ap length t.2 ∙ h t.0 (wide t.0 t.1)

-- ---- moving over

module _ (bs : List ℕ) (v : (fault bs).number ≡ 0) where
  pub old : SoundFile eight eight_fits bs
  old = sound eight eight_fits bs v

  pub wide : Wide 8 (records_of 8 bs)
  wide = records-wide 8 (omega arith) bs

  pub wide' : Wide 16 (map wider (records_of 8 bs))
  wide' = map-wide 8 16 wider (records_of 8 bs) length-wider wide

  -- the widened file is not refused
  pub widened-passes : fault_in sixteen (widened bs) ≡ refuse 0 0
  unfolding widened
  widened-passes =
      let rs = records_of 8 bs in
      records-file sixteen sixteen-fits (map wider rs) wide'
      (rw (length-map rs wider, length-blocks 8 (length bs / 8) bs) old.few)
      (moved-sound 2 12 wider rs (λ r h. let z = wide r h in omega arith) old.records (λ r h. wider-alone r (wide r h) (old.records.alone r h))
      (λ r h. byte-same r (replicate 8 0) (wide r h) 0 (omega arith)) (λ r t p q h. precedes-append r t (replicate 8 0) (replicate 8 0) h))

  pub widened-records : records_of 16 (widened bs) ≡ map wider (records_of 8 bs)
  unfolding widened
  widened-records = records-bytes 16 (omega arith) (map wider (records_of 8 bs)) wide'

  -- it has no long body
  pub widened-short : has_long (widened bs) ≡ false
  unfolding has_long
  widened-short = ap (any is_long) widened-records ∙ fails (any is_long (map wider (records_of 8 bs))) none
    where
      none : any is_long (map wider (records_of 8 bs)) ≡ true → ⊥
      none h =
          let y = any_of is_long (map wider (records_of 8 bs)) h in
          let t = map-in wider y.0 (records_of 8 bs) y.1 in
          let r : List ℕ = t.0 in
          let l = wide r t.1 in
          let long : is_long (wider r) ≡ true = subst (λ (x : List ℕ). is_long x ≡ true) t.2 y.2 in
          let k = eqb-true (byte (wider r) 0) rule_kind (and-fst (eqb (byte (wider r) 0) rule_kind) (ltb 2 (byte (wider r) 2)) long) in
          let n = ltb-true 2 (byte (wider r) 2) (and-snd (eqb (byte (wider r) 0) rule_kind) (ltb 2 (byte (wider r) 2)) long) in
          let few = (rule-bytes 2 r (old.records.alone r t.1).range (sym (byte-same r (replicate 8 0) l 0 (omega arith)) ∙ k)).size in
          let e = byte-same r (replicate 8 0) l 2 (omega arith) in omega arith

  -- and moving it back gives the same bytes
  pub moved_back : narrowed (widened bs) ≡ bs
  unfolding narrowed
  moved_back =
      ap (λ (l : List (List ℕ)). bytes_of (map narrower l)) widened-records
      ∙ ap bytes_of (map-fixed narrower wider (records_of 8 bs) (λ r h. take_at r (replicate 8 0) 8 (wide r h)))
      ∙ bytes-records 8 (omega arith) bs old.whole

-- ---- moving back

module _ (bs : List ℕ) (v : (fault_in sixteen bs).number ≡ 0) (short : has_long bs ≡ false) where
  new : SoundFile sixteen sixteen-fits bs
  new = sound sixteen sixteen-fits bs v

  wide16 : Wide 16 (records_of 16 bs)
  wide16 = records-wide 16 (omega arith) bs

  pub few-symbols : (r : List ℕ) → In r (records_of 16 bs) → byte r 0 ≡ rule_kind → byte r 2 ≤ 2
  unfolding has_long
  few-symbols r h k = ltb-false 2 (byte r 2) (fails (ltb 2 (byte r 2)) (λ e. true≢false (sym (any_at is_long r (records_of 16 bs) h (and_intro (eqb (byte r 0) rule_kind) (ltb 2 (byte r 2)) (eq-eqb (byte r 0) rule_kind k) e)) ∙ short)))

  each : (r : List ℕ) → In r (records_of 16 bs) → Narrows r
  each r h = narrows r (wide16 r h) (few-symbols r h) (new.records.alone r h)

  narrow_wide : Wide 8 (map narrower (records_of 16 bs))
  narrow_wide = map-wide 16 8 narrower (records_of 16 bs) length-narrower wide16

  -- the narrowed file is not refused
  pub narrowed-passes : fault (narrowed bs) ≡ refuse 0 0
  unfolding narrowed
  narrowed-passes =
      let rs = records_of 16 bs in
      records-file eight eight_fits (map narrower rs) narrow_wide
      (rw (length-map rs narrower, length-blocks 16 (length bs / 16) bs) new.few)
      (moved-sound 12 2 narrower rs (λ r h. let z = wide16 r h in omega arith) new.records (λ r h. (each r h).alone)
      (λ r h. sym (byte-same (narrower r) (replicate 8 0) (length-narrower r (wide16 r h)) 0 (omega arith)) ∙ ap (λ (x : List ℕ). byte x 0) (each r h).back)
      (λ r t p q h. precedes-cancel (narrower r) (narrower t) (replicate 8 0) (length-narrower r (wide16 r p) ∙ sym (length-narrower t (wide16 t q))) (rw ((each r p).back, (each t q).back) h)))

  -- and moving it over again gives the same bytes
  pub moved-again : widened (narrowed bs) ≡ bs
  unfolding widened narrowed
  moved-again =
      ap (λ (l : List (List ℕ)). bytes_of (map wider l)) (records-bytes 8 (omega arith) (map narrower (records_of 16 bs)) narrow_wide)
      ∙ ap bytes_of (map-fixed wider narrower (records_of 16 bs) (λ r h. (each r h).back))
      ∙ bytes-records 16 (omega arith) bs new.whole

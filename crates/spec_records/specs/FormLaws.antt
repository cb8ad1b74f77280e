-- What the records of a file that is not refused pass, and that a file whose records pass it is not refused: for any form that fits. Assumes
-- nothing.
use Rattle.std.specs.Prelude.{◌≡◌, refl, Bool, false, ◌&&◌, cond, ℕ, suc, ◌+◌, ◌/◌, ◌%◌, ◌≤◌, ◌<◌, eqb, ltb, length}
use Rattle.std.proofs.Math.Path.{sym}
use Rattle.std.proofs.Common.{ap, ◌∙◌, inl, inr, true≢false, mul-div_cancel, arith}
use Rattle.std.proofs.Math.Bool.{true}
use mathlib.Core.List.{List, [], ◌∷◌}
use Rattle.std.proofs.Math.Nat.{mul-mod_left}
use borrow.Author.Tests.{eqb-true, eqb-false, eq-eqb, ne_eqb, lt-ltb, ltb-false, le-ltb, not-false}
use Rattle.spec_basics.specs.Tests.{or-neither, and_intro}
use Rattle.spec_basics.specs.Elements.{In}
use Rattle.spec_file.specs.Limits.{record_limit, rule_limit, transition_limit}
use Rattle.spec_file.specs.Forms.{Form}
use Rattle.spec_file.specs.Records.{byte, rule_kind, transition_kind}
use Rattle.spec_file.specs.Refusals.{Refusal, refuse, kind_known, on_remark, over_limit, first_holding, length_tests_in, fault_in}
use Rattle.spec_file.proofs.RefusalLaws.{neither-refuses, none-holds}
use Rattle.spec_records.specs.Blocks.{bytes_of, records_of}
use Rattle.spec_records.specs.BlockLaws.{Wide, length-bytes, records-bytes}
use Rattle.spec_records.specs.OnRecords.{high_byte, unused_byte, follows, tests_on, fault_of, of_kind, fault_among, fault_on_records}
use Rattle.spec_records.specs.Agreement.{Fitting, on-records}

-- ---- the checks of a record by itself, of its neighbours, and of the counts

-- 3, 4, 5 and 12 do not refuse the record
pub record Alone (most : ℕ) (r : List ℕ) : Type 0 where
  pub kind : kind_known r ≡ true
  pub range : high_byte most r ≡ false
  pub zeros : unused_byte r ≡ false
  pub step : on_remark r ≡ false

-- 6 refuses none
abbrev pub Rising : List ℕ → List (List ℕ) → Type 0
Rising before [] = Unit {0}
Rising before (r ∷ rs) = (follows before r ≡ true) × Rising r rs

-- how many are of the kind
abbrev pub count_among : ℕ → List (List ℕ) → ℕ
count_among k [] = 0
count_among k (r ∷ rs) = of_kind k r + count_among k rs

pub record Sound (most : ℕ) (before : List ℕ) (rules transitions : ℕ) (rs : List (List ℕ)) : Type 0 where
  pub alone : (r : List ℕ) → In r rs → Alone most r
  pub rising : Rising before rs
  pub few-rules : rules + count_among rule_kind rs ≤ rule_limit
  pub few-transitions : transitions + count_among transition_kind rs ≤ transition_limit

-- ---- from the numbers to the facts, and back

-- where 7 does not refuse, the counts stay below their limits
kind-few : (limit k n : ℕ) (r : List ℕ) → n ≤ limit → (eqb (byte r 0) k && eqb n limit) ≡ false → n + of_kind k r ≤ limit
kind-few limit k n r l h = by (eqb (byte r 0) k) (eqb n limit) (eqb-false n limit) h
  where
    by : (a b : Bool) → (b ≡ false → n ≡ limit → ⊥) → (a && b) ≡ false → n + cond a 1 0 ≤ limit
    by true true f e = absurd (true≢false e)
    by true false f e = let d = f refl in omega arith
    by false b f e = omega arith

few-kind : (limit k n : ℕ) (r : List ℕ) → n + of_kind k r ≤ limit → (eqb (byte r 0) k && eqb n limit) ≡ false
few-kind limit k n r l = by (eqb (byte r 0) k) l
  where
    by : (a : Bool) → n + cond a 1 0 ≤ limit → (a && eqb n limit) ≡ false
    by true h = ne_eqb n limit (λ e. omega arith)
    by false h = refl

sound-records : (most : ℕ) (before : List ℕ) (rules transitions i : ℕ) (rs : List (List ℕ)) → rules ≤ rule_limit → transitions ≤ transition_limit
    → (fault_among most before rules transitions i rs).number ≡ 0 → Sound most before rules transitions rs
unfolding fault_among fault_of over_limit
sound-records most before rules transitions i [] hr ht h = record { alone = λ r m. absurd m; rising = tt; few-rules = omega arith; few-transitions = omega arith }
sound-records most before rules transitions i (r ∷ rs) hr ht h =
    let both = neither-refuses (refuse (fault_of most before rules transitions r) i) (fault_among most r (rules + of_kind rule_kind r) (transitions + of_kind transition_kind r) (suc i) rs) h in
    let three = none-holds (tests_on most before rules transitions r) refl both.0 in
    let four = three.1 in
    let five = four.1 in
    let twelve = five.1 in
    let six = twelve.1 in
    let seven = six.1 in
    let q = or-neither (eqb (byte r 0) rule_kind && eqb rules rule_limit) (eqb (byte r 0) transition_kind && eqb transitions transition_limit) seven.0 in
    let s = sound-records most r (rules + of_kind rule_kind r) (transitions + of_kind transition_kind r) (suc i) rs
    (kind-few rule_limit rule_kind rules r hr q.0) (kind-few transition_limit transition_kind transitions r ht q.1) both.1 in
    record {
      alone = each (record { kind = not-false (kind_known r) three.0; range = four.0; zeros = five.0; step = twelve.0 }) s.alone;
      rising = (not-false (follows before r) six.0, s.rising);
      few-rules = omega (arith, s.few-rules);
      few-transitions = omega (arith, s.few-transitions);
    }
  where
    each : Alone most r → ((x : List ℕ) → In x rs → Alone most x) → (x : List ℕ) → In x (r ∷ rs) → Alone most x
    each a f x (inl e) = rw e a
    each a f x (inr m) = f x m

pub records-pass : (most : ℕ) (before : List ℕ) (rules transitions i : ℕ) (rs : List (List ℕ)) → Sound most before rules transitions rs → fault_among most before rules transitions i rs ≡ refuse 0 0
unfolding fault_among fault_of over_limit
records-pass most before rules transitions i [] s = refl
records-pass most before rules transitions i (r ∷ rs) s =
    let a = s.alone r (inl refl) in
    let later = records-pass most r (rules + of_kind rule_kind r) (transitions + of_kind transition_kind r) (suc i) rs
    (record { alone = λ x m. s.alone x (inr m); rising = s.rising.1; few-rules = omega (arith, s.few-rules); few-transitions = omega (arith, s.few-transitions) }) in
    rw (
      a.kind,
      a.range,
      a.zeros,
      a.step,
      s.rising.0,
      few-kind rule_limit rule_kind rules r (omega (arith, s.few-rules)),
      few-kind transition_limit transition_kind transitions r (omega (arith, s.few-transitions)),
    ) later

-- ---- the whole file

module _ (F : Form) (fits : Fitting F) (bs : List ℕ) where
  pub record SoundFile : Type 0 where
    pub whole : length bs % F.width ≡ 0
    pub few : length bs / F.width ≤ record_limit
    pub records : Sound F.body_limit [] 0 0 (records_of F.width bs)

  pub sound : (fault_in F bs).number ≡ 0 → SoundFile
  unfolding fault_on_records
  sound h =
      let both = neither-refuses (refuse (first_holding (length_tests_in F bs)) 0) (fault_among F.body_limit [] 0 0 0 (records_of F.width bs)) (ap (λ (x : Refusal). x.number) (on-records F fits bs) ∙ h) in
      let one = none-holds (length_tests_in F bs) (and_intro (ltb 0 F.torn) true (lt-ltb 0 F.torn fits.refuses) refl) both.0 in
      record {
        whole = eqb-true (length bs % F.width) 0 (not-false (eqb (length bs % F.width) 0) one.0);
        few = ltb-false record_limit (length bs / F.width) one.1.0;
        records = sound-records F.body_limit [] 0 0 0 (records_of F.width bs) (omega arith) (omega arith) both.1;
      }

  pub passes : SoundFile → fault_in F bs ≡ refuse 0 0
  unfolding fault_on_records
  passes s =
      sym (on-records F fits bs)
      ∙ rw (eq-eqb (length bs % F.width) 0 s.whole, le-ltb record_limit (length bs / F.width) s.few) (records-pass F.body_limit [] 0 0 0 (records_of F.width bs) s.records)

-- records, put together
pub records-file : (F : Form) → Fitting F → (rs : List (List ℕ)) → Wide F.width rs → length rs ≤ record_limit → Sound F.body_limit [] 0 0 rs → fault_in F (bytes_of rs) ≡ refuse 0 0
records-file F fits rs wide few s =
    let n = length-bytes F.width rs wide in
    let pos : 0 < F.width = omega (arith, fits.room) in
    passes F fits (bytes_of rs)
    (record {
      whole = ap (λ (m : ℕ). m % F.width) n ∙ mul-mod_left (length rs) F.width;
      few = rw (n, mul-div_cancel (length rs) pos) few;
      records = rw (records-bytes F.width pos rs wide) s;
    })

-- What the records of a file that is not refused pass, that the states of its automaton are states, and that none of its transitions is on
-- a remark. Assumes nothing.
use Rattle.std.specs.Prelude.{◌≡◌, refl, Bool, true, false, ◌&&◌, ◌||◌, List, ℕ, zero, suc, ◌+◌, ◌%◌, ◌≤◌, ◌<◌, eqb, leb, length}
use Rattle.std.proofs.Common.{sym, ap, ◌∙◌, inl, inr, le_refl, not-suc-le-zero, le_of_suc-le-suc, arith, eqb-true, eq-eqb, leb-false, ltb-false}
use Rattle.std.proofs.Math.Path.{subst}
use Rattle.std.proofs.lemmas.Bool.{not-false}
use Rattle.spec_basics.specs.Tests.{or-neither}
use Rattle.spec_basics.specs.Elements.{In}
use Rattle.relation.specs.Relation.{states}
use Rattle.spec_language.specs.Remarks.{first_remark, is_remark}
use Rattle.spec_language.proofs.RemarkLaws.{below-remarks}
use Rattle.spec_language.specs.Automaton.{Transition, Within}
use Rattle.spec_file.specs.Limits.{record_limit, terminals}
use Rattle.spec_file.specs.Records.{record_count, record_at, byte, kind_at, rule_kind, transition_kind, final_kind, count_of}
use Rattle.spec_file.specs.Forms.{eight}
use Rattle.spec_file.specs.Refusals.{refuse, kind_known, above_range, above_range_in, stray_byte, exceeds, on_remark, over_limit, record_tests, length_tests_in, length_fault, length_fault_in, fault_by_in, fault_at, fault_at_in, or_next, fault_from, fault_from_in, fault, fault_in}
use Rattle.spec_file.proofs.RefusalLaws.{neither-refuses, none-holds}
use Rattle.spec_file.specs.Views.{transition_of, final_of, cons_if, collect, transitions_of, finals_of, automaton_of}

-- none of the checks 3, 4, 5, 12, 6, 7 refuses record i
pub record Passes (bs : List ℕ) (i : ℕ) : Type 0 where
  pub kind : kind_known (record_at bs i) ≡ true
  pub range : above_range (record_at bs i) ≡ false
  pub zeros : stray_byte (record_at bs i) ≡ false
  pub step : on_remark (record_at bs i) ≡ false
  pub order : exceeds bs i ≡ true
  pub few : over_limit (record_at bs i) (count_of bs rule_kind i) (count_of bs transition_kind i) ≡ false

pub passes : (bs : List ℕ) (i : ℕ) → fault_at bs i ≡ 0 → Passes bs i
unfolding fault_at_in fault_by_in
passes bs i h =
    let three = none-holds (record_tests bs i (count_of bs rule_kind i) (count_of bs transition_kind i)) refl h in
    let four = three.1 in
    let five = four.1 in
    let twelve = five.1 in
    let six = twelve.1 in
    let seven = six.1 in
    record {
      kind = not-false (kind_known (record_at bs i)) three.0;
      range = four.0;
      zeros = five.0;
      step = twelve.0;
      order = not-false (exceeds bs i) six.0;
      few = seven.0;
    }

none-at : (bs : List ℕ) (m i : ℕ) → (fault_from bs m i).number ≡ 0 → (j : ℕ) → j < m → fault_at bs (i + j) ≡ 0
unfolding fault_from_in
none-at bs zero i h j l = absurd (not-suc-le-zero l)
none-at bs (suc m) i h j l = by (fault_at bs i) refl h (none-at bs m (suc i)) j l
  where
    by : (f : ℕ) → fault_at bs i ≡ f → (or_next (refuse f i) (fault_from bs m (suc i))).number ≡ 0
        → ((fault_from bs m (suc i)).number ≡ 0 → (j : ℕ) → j < m → fault_at bs (suc i + j) ≡ 0) → (j : ℕ) → j < suc m → fault_at bs (i + j) ≡ 0
    by (suc f) e h ih j l = absurd (let z : ⊥ = omega arith in z)
    by zero e h ih zero l = let z : i + 0 ≡ i = omega arith in ap (fault_at bs) z ∙ e
    by zero e h ih (suc j) l = let z : i + suc j ≡ suc i + j = omega arith in ap (fault_at bs) z ∙ ih h j (le_of_suc-le-suc l)

-- where the file is not refused, neither its length nor a record is
pub valid : (bs : List ℕ) → (fault bs).number ≡ 0 → (length bs % 8 ≡ 0) × (record_count bs ≤ record_limit) × ((fault_from bs (record_count bs) 0).number ≡ 0)
unfolding fault_in length_fault_in
valid bs v =
    let both = neither-refuses (refuse (length_fault bs) 0) (fault_from bs (record_count bs) 0) v in
    let one = none-holds (length_tests_in eight bs) refl both.0 in
    (eqb-true (length bs % 8) 0 (not-false (eqb (length bs % 8) 0) one.0), ltb-false record_limit (record_count bs) one.1.0, both.1)

pub valid-passes : (bs : List ℕ) → (fault bs).number ≡ 0 → (j : ℕ) → j < record_count bs → Passes bs j
valid-passes bs v j h =
    let z : 0 + j ≡ j = omega arith in
    passes bs j (sym (ap (fault_at bs) z) ∙ none-at bs (record_count bs) 0 (valid bs v).2 j h)

-- an element of a view is a record of the kind
pub collect-at : {A : Type 0} (k : ℕ) (g : List ℕ → A) (bs : List ℕ) (x : A) (m i : ℕ) → In x (collect k g bs m i)
    → (j : ℕ) × (i ≤ j) × (j < i + m) × (kind_at bs j ≡ k) × (x ≡ g (record_at bs j))
unfolding collect
collect-at k g bs x zero i h = absurd h
collect-at {A} k g bs x (suc m) i h = by (eqb (kind_at bs i) k) refl h (collect-at k g bs x m (suc i))
  where
    by : (b : Bool) → eqb (kind_at bs i) k ≡ b → In x (cons_if b (g (record_at bs i)) (collect k g bs m (suc i)))
        → (In x (collect k g bs m (suc i)) → (j : ℕ) × (suc i ≤ j) × (j < suc i + m) × (kind_at bs j ≡ k) × (x ≡ g (record_at bs j)))
        → (j : ℕ) × (i ≤ j) × (j < i + suc m) × (kind_at bs j ≡ k) × (x ≡ g (record_at bs j))
    by true t (inl e) ih = (i, le_refl i, omega arith, eqb-true (kind_at bs i) k t, e)
    by true t (inr h') ih = let r = ih h' in (r.0, omega (arith, r.1), omega (arith, r.2), r.3, r.4)
    by false t h' ih = let r = ih h' in (r.0, omega (arith, r.1), omega (arith, r.2), r.3, r.4)

-- check 4, at a transition and at a final state
pub transition-range : (r : List ℕ) → above_range r ≡ false → byte r 0 ≡ transition_kind → (byte r 1 < states) × (byte r 2 < terminals) × (byte r 3 < states)
unfolding above_range_in
transition-range r a k =
    let T = (leb states (byte r 1) || leb terminals (byte r 2)) || leb states (byte r 3) in
    let p = (or-neither _ ((eqb (byte r 0) transition_kind && T) || (eqb (byte r 0) final_kind && leb states (byte r 1))) a).1 in
    let q = (or-neither (eqb (byte r 0) transition_kind && T) (eqb (byte r 0) final_kind && leb states (byte r 1)) p).0 in
    let s : T ≡ false = sym (ap (λ (b : Bool). b && T) (eq-eqb (byte r 0) transition_kind k)) ∙ q in
    let u = or-neither (leb states (byte r 1) || leb terminals (byte r 2)) (leb states (byte r 3)) s in
    let w = or-neither (leb states (byte r 1)) (leb terminals (byte r 2)) u.0 in
    (leb-false states (byte r 1) w.0, leb-false terminals (byte r 2) w.1, leb-false states (byte r 3) u.1)

pub final-range : (r : List ℕ) → above_range r ≡ false → byte r 0 ≡ final_kind → byte r 1 < states
unfolding above_range_in
final-range r a k =
    let T = eqb (byte r 0) transition_kind && ((leb states (byte r 1) || leb terminals (byte r 2)) || leb states (byte r 3)) in
    let F = eqb (byte r 0) final_kind && leb states (byte r 1) in
    let q = (or-neither T F (or-neither _ (T || F) a).1).1 in
    leb-false states (byte r 1) (sym (ap (λ (b : Bool). b && leb states (byte r 1)) (eq-eqb (byte r 0) final_kind k)) ∙ q)

-- check 12
pub transition-step : (r : List ℕ) → on_remark r ≡ false → byte r 0 ≡ transition_kind → byte r 2 < first_remark
unfolding on_remark
transition-step r a k =
    let s : leb first_remark (byte r 2) ≡ false = sym (ap (λ (b : Bool). b && leb first_remark (byte r 2)) (eq-eqb (byte r 0) transition_kind k)) ∙ a in
    leb-false first_remark (byte r 2) s

module _ (bs : List ℕ) (v : (fault bs).number ≡ 0) where
  transition-low : (t : Transition) → In t (transitions_of bs) → (t.source < states) × (t.target < states)
  unfolding transitions_of
  transition-low t h =
      let r = collect-at transition_kind transition_of bs t (record_count bs) 0 h in
      let low = transition-range (record_at bs r.0) (valid-passes bs v r.0 (omega (arith, r.2))).range r.3 in
      subst (λ (x : Transition). (x.source < states) × (x.target < states)) (sym r.4) (low.0, low.2)

  final-low : (f : ℕ) → In f (finals_of bs) → f < states
  unfolding finals_of
  final-low f h =
      let r = collect-at final_kind final_of bs f (record_count bs) 0 h in
      subst (λ (x : ℕ). x < states) (sym r.4) (final-range (record_at bs r.0) (valid-passes bs v r.0 (omega (arith, r.2))).range r.3)

  -- no transition is on a remark
  pub letter-low : (t : Transition) → In t (transitions_of bs) → t.letter < first_remark
  unfolding transitions_of
  letter-low t h =
      let r = collect-at transition_kind transition_of bs t (record_count bs) 0 h in
      let low = transition-step (record_at bs r.0) (valid-passes bs v r.0 (omega (arith, r.2))).step r.3 in
      subst (λ (x : Transition). x.letter < first_remark) (sym r.4) low

  pub no-remark-moves : (t : Transition) → In t (transitions_of bs) → is_remark t.letter ≡ false
  no-remark-moves t h = below-remarks t.letter (letter-low t h)

  -- the states of the automaton are states
  pub automaton-within : Within states (automaton_of bs)
  automaton-within = record { some-state = omega arith; sources = λ t h. (transition-low t h).0; targets = λ t h. (transition-low t h).1; ends = final-low }

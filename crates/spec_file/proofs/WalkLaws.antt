-- The walk over a file goes by steps with running counts: the laws behind the record step and the refusal of a file. Assumes nothing.
use Rattle.std.specs.Prelude.{◌≡◌, refl, Bool, true, false, cond, List, ℕ, zero, suc, ◌+◌, ◌-◌, ◌*◌, ◌≤◌, ◌<◌, eqb, leb, take}
use Rattle.std.proofs.Common.{sym, ap, ap₂, ◌∙◌, add-zero, add-one, arith, length-take, get_or-take}
use Rattle.std.proofs.Math.Nat.{sub-zero}
use borrow.Author.Tests.{leb-true, leb-false, eqb-true, eq-eqb, ne_eqb, le-leb}
use Rattle.spec_file.specs.Records.{record_count, record_at, kind_at, rule_kind, transition_kind, count_of, count_in, Record, rule_record, transition_record, final_record, record_by, record_of}
use Rattle.spec_file.specs.Refusals.{Refusal, refuse, length_fault, fault_by, fault_at, fault_at_in, or_next, fault_from, fault_from_in, fault, fault_in}
use Rattle.spec_file.specs.Reading.{ReaderStep, gives, refuses, ended, unless_refused, step_from}
use Rattle.spec_file.proofs.RefusalLaws.{number-some}
use Rattle.spec_file.specs.Walk.{rules_in, transitions_in, refusal_in, rest, after}

-- ---- the counts

module _ (bs : List ℕ) (k i : ℕ) where
  pub count_yes : kind_at bs i ≡ k → count_of bs k i + 1 ≡ count_of bs k (i + 1)
  unfolding count_in
  count_yes e = rw (add-one i, eq-eqb (kind_at bs i) k e)

  pub count_no : (kind_at bs i ≡ k → ⊥) → count_of bs k i ≡ count_of bs k (i + 1)
  unfolding count_in
  count_no e = rw (add-one i, ne_eqb (kind_at bs i) k e) (sym (add-zero (count_of bs k i)))

-- the first i records, alone, count as they do in the file
pub count-before : (bs : List ℕ) (k i : ℕ) → i ≤ record_count bs → count_of (take (i * 8) bs) k (record_count (take (i * 8) bs)) ≡ count_of bs k i
unfolding count_in
count-before bs k i h = let e : record_count (take (i * 8) bs) ≡ i = simp (length-take) (omega arith) in ap (count_of (take (i * 8) bs) k) e ∙ up_to i (omega arith)
  where
    up_to : (j : ℕ) → j ≤ i → count_of (take (i * 8) bs) k j ≡ count_of bs k j
    up_to zero l = refl
    up_to (suc j) l = ap₂ (λ (a b : ℕ). a + cond (eqb b k) 1 0) (up_to j (omega arith)) (get_or-take (i * 8) bs (j * 8) 0 (omega arith))

-- they go by what the record says
counts-next : (bs : List ℕ) (i : ℕ) → let r = record_of (record_at bs i) in
    (count_of bs rule_kind (i + 1) ≡ count_of bs rule_kind i + rules_in r) × (count_of bs transition_kind (i + 1) ≡ count_of bs transition_kind i + transitions_in r)
unfolding count_in
counts-next bs i =
    let k = kind_at bs i in
    let p = by (eqb k rule_kind) (eqb k transition_kind) (λ e. ne_eqb k transition_kind (λ z. let f = eqb-true k rule_kind e in omega arith)) in
    (rw (add-one i, p.0), rw (add-one i, p.1))
  where
    by : (a b : Bool) → (a ≡ true → b ≡ false) → let r = record_by a b (record_at bs i) in (cond a 1 0 ≡ rules_in r) × (cond b 1 0 ≡ transitions_in r)
    by true b h = (refl, ap (λ (x : Bool). cond x 1 0) (h refl))
    by false true h = (refl, refl)
    by false false h = (refl, refl)

one_at_most : (r : Record) → (rules_in r ≤ 1) × (transitions_in r ≤ 1)
one_at_most (rule_record h n s t) = (omega arith, omega arith)
one_at_most (transition_record a c b) = (omega arith, omega arith)
one_at_most (final_record f) = (omega arith, omega arith)

-- ---- a step

-- past the last record the counts say nothing
pub past : (bs : List ℕ) (i a b a' b' : ℕ) → record_count bs ≤ i → step_from bs i a b ≡ step_from bs i a' b'
unfolding step_from
past bs i a b a' b' h = rw (le-leb (record_count bs) i h)

-- what a step gives is the record at its place, and the next place
record Gave (bs : List ℕ) (i : ℕ) (r : Record) (j : ℕ) : Type 0 where
  pub said : r ≡ record_of (record_at bs i)
  pub next : j ≡ i + 1
  pub inside : i < record_count bs

gave : (bs : List ℕ) (i a b : ℕ) (r : Record) (j : ℕ) → step_from bs i a b ≡ gives r j → Gave bs i r j
unfolding step_from
gave bs i a b r j e =
    by (length_fault bs) (leb (record_count bs) i) (leb-false (record_count bs) i) (fault_by bs i a b) e
  where
    s : Record
    s = record_of (record_at bs i)

    by : (l : ℕ) (z : Bool) → (z ≡ false → i < record_count bs) → (f : ℕ)
        → unless_refused (refuse l 0) (cond z ended (unless_refused (refuse f i) (gives s (i + 1)))) ≡ gives r j → Gave bs i r j
    by (suc l) z q f e = absurd (let w : ◌≡◌ {A = ℕ} 0 1 = cc in let v : ⊥ = omega arith in v)
    by zero true q f e = absurd (let w : ◌≡◌ {A = ℕ} 0 1 = cc in let v : ⊥ = omega arith in v)
    by zero false q zero e = record { said = cc; next = cc; inside = q refl }
    by zero false q (suc f) e = absurd (let w : ◌≡◌ {A = ℕ} 0 1 = cc in let v : ⊥ = omega arith in v)

-- ---- the walk

rest-start : (bs : List ℕ) → rest bs 0 ≡ fault bs
unfolding rest fault_in
rest-start bs = rw (sub-zero (record_count bs))

-- what is left is a step, and what is left then
rest-step : (bs : List ℕ) (i : ℕ) → rest bs i ≡ after (step_from bs i (count_of bs rule_kind i) (count_of bs transition_kind i)) (rest bs (i + 1))
unfolding rest step_from fault_from_in fault_at_in
rest-step bs i = by (length_fault bs) (leb n i) (leb-true n i) (leb-false n i)
  where
    n : ℕ
    n = record_count bs

    r : Record
    r = record_of (record_at bs i)

    one : (f : ℕ) (x : Refusal) → or_next (refuse f i) x ≡ after (unless_refused (refuse f i) (gives r (i + 1))) x
    one zero x = refl
    one (suc f) x = refl

    by : (l : ℕ) (e : Bool) → (e ≡ true → n ≤ i) → (e ≡ false → i < n)
        → or_next (refuse l 0) (fault_from bs (n - i) i)
        ≡ after (unless_refused (refuse l 0) (cond e ended (unless_refused (refuse (fault_at bs i) i) (gives r (i + 1))))) (or_next (refuse l 0) (fault_from bs (n - (i + 1)) (i + 1)))
    by (suc l) e p q = refl
    by zero true p q = let z : n - i ≡ 0 = omega (arith, p refl) in ap (λ (m : ℕ). fault_from bs m i) z
    by zero false p q =
        let z : n - i ≡ suc (n - (i + 1)) = omega (arith, q refl) in
        ap (λ (m : ℕ). fault_from bs m i) z
        ∙ one (fault_at bs i) (fault_from bs (n - (i + 1)) (suc i))
        ∙ ap (λ (m : ℕ). after (unless_refused (refuse (fault_at bs i) i) (gives r (i + 1))) (fault_from bs (n - (i + 1)) m)) (sym (add-one i))

-- the walk is at place i, with the counts of the records before it
pub record At (bs : List ℕ) (rules transitions i : ℕ) : Type 0 where
  pub rules-are : rules ≡ count_of bs rule_kind i
  pub transitions-are : transitions ≡ count_of bs transition_kind i
  pub left : rest bs i ≡ fault bs
  pub inside : i ≤ record_count bs
  pub few-rules : rules ≤ i
  pub few-transitions : transitions ≤ i

-- the walk after a step that gave record r, at place j
pub record Moved (bs : List ℕ) (rules transitions i : ℕ) (r : Record) (j : ℕ) : Type 0 where
  pub inside : i < record_count bs
  pub on : i < j
  pub rules-fit : rules + rules_in r ≤ record_count bs
  pub transitions-fit : transitions + transitions_in r ≤ record_count bs
  pub next : At bs (rules + rules_in r) (transitions + transitions_in r) j

pub at-start : (bs : List ℕ) → At bs 0 0 0
unfolding count_in
at-start bs = record { rules-are = refl; transitions-are = refl; left = rest-start bs; inside = omega arith; few-rules = omega arith; few-transitions = omega arith }

module _ (bs : List ℕ) (rules transitions i : ℕ) (h : At bs rules transitions i) where
  -- the step with the running counts is the step at the place
  same_step : step_from bs i rules transitions ≡ step_from bs i (count_of bs rule_kind i) (count_of bs transition_kind i)
  same_step = ap₂ (λ (a b : ℕ). step_from bs i a b) h.rules-are h.transitions-are

  -- a step that gives no record says what the file is refused with
  pub at-stop : (s : ReaderStep) → s ≡ step_from bs i rules transitions → ((x : Refusal) → refusal_in s ≡ after s x) → refusal_in s ≡ fault bs
  at-stop s e stop = stop (rest bs (i + 1)) ∙ ap (λ (t : ReaderStep). after t (rest bs (i + 1))) (e ∙ same_step) ∙ sym (rest-step bs i) ∙ h.left

  pub at_moved : (r : Record) (j : ℕ) → step_from bs i rules transitions ≡ gives r j → Moved bs rules transitions i r j
  at_moved r j e =
      let g = gave bs i rules transitions r j e in
      let n = counts-next bs i in
      let o = one_at_most r in record {
        inside = g.inside;
        on = omega (arith, g.next);
        rules-fit = omega (arith, g.inside, h.few-rules);
        transitions-fit = omega (arith, g.inside, h.few-transitions);
        next = rw g.next (record {
          rules-are = ap₂ (λ (a b : ℕ). a + b) h.rules-are (ap rules_in g.said) ∙ sym n.0;
          transitions-are = ap₂ (λ (a b : ℕ). a + b) h.transitions-are (ap transitions_in g.said) ∙ sym n.1;
          left = sym (rest-step bs i ∙ ap (λ (t : ReaderStep). after t (rest bs (i + 1))) (sym same_step ∙ e)) ∙ h.left;
          inside = omega (arith, g.inside);
          few-rules = omega (arith, h.few-rules);
          few-transitions = omega (arith, h.few-transitions);
        });
      }

-- ---- a refusal by a number

pub refuse-by : (f g i : ℕ) (s : ReaderStep) → (f ≡ 0 → ⊥) → f ≡ g → refuses (refuse f i) ≡ unless_refused (refuse g i) s
refuse-by f g i s z e = sym (number-some (refuses (refuse f i)) s f z) ∙ ap (λ (m : ℕ). unless_refused (refuse m i) s) e

-- In a file that is not refused the rules are the first records, then come the transitions, then the final states; and there are
-- few of them. Assumes nothing.
use Rattle.std.specs.Prelude.{◌≡◌, Bool, ◌&&◌, ◌||◌, eqb, leb, ltb}
use Rattle.std.proofs.Math.Path.{refl, ap, ap₂}
use Rattle.std.proofs.Common.{sym, ◌∙◌, subst, true≢false}
use Rattle.std.proofs.Math.Bool.{true, false, cond}
use Rattle.std.proofs.lemmas.Bool.{false≢true}
use mathlib.Core.List.{List, [], ◌∷◌, ◌++◌, append-nil}
use Prim.Native.Nat.{ℕ, zero, suc, ◌+◌, ◌-◌, ◌≤◌, ◌<◌}
use native.Mathlib.Omega.{arith}
use borrow.Author.Tests.{ltb-true, lt-ltb, le-ltb, leb-true, leb-false, eqb-true, eqb-false, eq-eqb, ne_eqb}
use Rattle.spec_basics.specs.Elements.{every}
use Rattle.spec_basics.specs.Tests.{and-fst, or-neither}
use Rattle.spec_file.specs.Limits.{rule_limit, transition_limit}
use Rattle.spec_file.specs.Records.{record_count, record_at, byte, kind_at, rule_kind, transition_kind, final_kind, count_of, count_in}
use Rattle.spec_file.specs.Refusals.{kind_known, rises_from, rises, exceeds_in, over_limit, fault}
use Rattle.spec_file.specs.Views.{rule_of, transition_of, final_of, cons_if, collect, rules_of, transitions_of, finals_of}
use Rattle.spec_file.proofs.Valid.{valid-passes}
use Rattle.spec_file.specs.Entries.{rule_count, transition_count, final_count}
use Rattle.spec_file.proofs.Rising.{up_to, numbers_to-le, numbers_to-none, first-ones}

-- ---- the counts of the kinds

module _ (bs : List ℕ) where
  -- records of kind at most suc k: those of kind at most k, and those of kind suc k
  numbers_to-suc : (k n : ℕ) → up_to (kind_at bs) (suc k) n ≡ up_to (kind_at bs) k n + count_of bs (suc k) n
  unfolding up_to count_in
  numbers_to-suc k zero = refl
  numbers_to-suc k (suc n) =
      let x = kind_at bs n in
      by (leb x (suc k)) (leb x k) (eqb x (suc k)) (leb-true x (suc k)) (leb-false x (suc k)) (leb-true x k) (leb-false x k) (eqb-true x (suc k)) (eqb-false x (suc k)) (numbers_to-suc k n)
    where
      by : (a b c : Bool) → (a ≡ true → kind_at bs n ≤ suc k) → (a ≡ false → suc k < kind_at bs n) → (b ≡ true → kind_at bs n ≤ k) → (b ≡ false → k < kind_at bs n)
          → (c ≡ true → kind_at bs n ≡ suc k) → (c ≡ false → kind_at bs n ≡ suc k → ⊥)
          → up_to (kind_at bs) (suc k) n ≡ up_to (kind_at bs) k n + count_of bs (suc k) n
          → up_to (kind_at bs) (suc k) n + cond a 1 0 ≡ up_to (kind_at bs) k n + cond b 1 0 + (count_of bs (suc k) n + cond c 1 0)
      by true true true p p' q q' r r' e = absurd (let x = q refl in let y = r refl in let z : ⊥ = omega arith in z)
      by true true false p p' q q' r r' e = omega arith
      by true false true p p' q q' r r' e = omega arith
      by true false false p p' q q' r r' e = absurd (let x = p refl in let y = q' refl in let w = r' refl in let z : ⊥ = omega arith in z)
      by false true c p p' q q' r r' e = absurd (let x = p' refl in let y = q refl in let z : ⊥ = omega arith in z)
      by false false true p p' q q' r r' e = absurd (let x = p' refl in let y = r refl in let z : ⊥ = omega arith in z)
      by false false false p p' q q' r r' e = omega arith

  -- no record is of two kinds
  pub counts-le : (n : ℕ) → count_of bs rule_kind n + count_of bs transition_kind n + count_of bs final_kind n ≤ n
  counts-le n = omega (arith, numbers_to-suc 0 n, numbers_to-suc 1 n, numbers_to-suc 2 n, numbers_to-le (kind_at bs) 3 n)

-- ---- records that are all of a kind, or none of it

module _ {A : Type 0} (k : ℕ) (g : List ℕ → A) (bs : List ℕ) where
  collect-append : (a m i : ℕ) → collect k g bs (a + m) i ≡ collect k g bs a i ++ collect k g bs m (i + a)
  unfolding collect
  collect-append zero m i = let z : i ≡ i + 0 = omega arith in let y : 0 + m ≡ m = omega arith in ap₂ (collect k g bs) y z
  collect-append (suc a) m i =
      let z : suc i + a ≡ i + suc a = omega arith in
      let y : suc a + m ≡ suc (a + m) = omega arith in
      ap (λ (l : ℕ). collect k g bs l i) y
      ∙ ap (cons_if (eqb (kind_at bs i) k) (g (record_at bs i))) (collect-append a m (suc i) ∙ ap (λ (j : ℕ). collect k g bs a (suc i) ++ collect k g bs m j) z)
      ∙ by (eqb (kind_at bs i) k) (collect k g bs a (suc i)) (collect k g bs m (i + suc a))
    where
      by : (b : Bool) (xs ys : List A) → cons_if b (g (record_at bs i)) (xs ++ ys) ≡ cons_if b (g (record_at bs i)) xs ++ ys
      by true xs ys = refl
      by false xs ys = refl

  collect-none : (m i : ℕ) → ((j : ℕ) → i ≤ j → j < i + m → eqb (kind_at bs j) k ≡ false) → collect k g bs m i ≡ []
  unfolding collect
  collect-none zero i h = refl
  collect-none (suc m) i h = rw (h i (omega arith) (omega arith)) (collect-none m (suc i) (λ j p q. h j (omega arith) (omega arith)))

  collect-all : (m i : ℕ) → ((j : ℕ) → i ≤ j → j < i + m → eqb (kind_at bs j) k ≡ true) → collect k g bs m i ≡ every (λ j. g (record_at bs j)) m i
  unfolding collect every
  collect-all zero i h = refl
  collect-all (suc m) i h = rw (h i (omega arith) (omega arith)) (ap (λ (l : List A). g (record_at bs i) ∷ l) (collect-all m (suc i) (λ j p q. h j (omega arith) (omega arith))))

  -- where just c records from a on are of the kind
  collect-run : (a c d : ℕ) → ((j : ℕ) → j < a → eqb (kind_at bs j) k ≡ false) → ((j : ℕ) → a ≤ j → j < a + c → eqb (kind_at bs j) k ≡ true)
      → ((j : ℕ) → a + c ≤ j → j < a + c + d → eqb (kind_at bs j) k ≡ false) → collect k g bs (a + (c + d)) 0 ≡ every (λ j. g (record_at bs j)) c a
  collect-run a c d before within after =
      let z : 0 + a ≡ a = omega arith in
      collect-append a (c + d) 0
      ∙ ap₂ (λ (xs : List A) (j : ℕ). xs ++ collect k g bs (c + d) j) (collect-none a 0 (λ j p q. before j (omega arith))) z
      ∙ collect-append c d a
      ∙ ap₂ (λ (xs ys : List A). xs ++ ys) (collect-all c a within) (collect-none d (a + c) after)
      ∙ append-nil (every (λ j. g (record_at bs j)) c a)

-- ---- so in a file that is not refused

first_byte : (m : ℕ) (r s : List ℕ) → rises_from m 0 r s ≡ true → byte r 0 ≤ byte s 0
unfolding rises_from
first_byte zero r s h = let l = ltb-true (byte r 0) (byte s 0) h in omega arith
first_byte (suc m) r s h = by (ltb (byte r 0) (byte s 0)) (eqb (byte r 0) (byte s 0)) (ltb-true (byte r 0) (byte s 0)) (eqb-true (byte r 0) (byte s 0)) h
  where
    by : (a b : Bool) → (a ≡ true → byte r 0 < byte s 0) → (b ≡ true → byte r 0 ≡ byte s 0) → (a || (b && rises_from m 1 r s)) ≡ true → byte r 0 ≤ byte s 0
    by true b p q e = let l = p refl in omega arith
    by false true p q e = let l = q refl in omega arith
    by false false p q e = absurd (false≢true e)

module _ (bs : List ℕ) (v : (fault bs).number ≡ 0) where
  kinds-rise : (i : ℕ) → suc i < record_count bs → kind_at bs i ≤ kind_at bs (suc i)
  unfolding exceeds_in
  kinds-rise i h = by (eqb (suc i) 0) (eqb-true (suc i) 0) (valid-passes bs v (suc i) h).order
    where
      by : (b : Bool) → (b ≡ true → suc i ≡ 0) → (b || rises (record_at bs (suc i - 1)) (record_at bs (suc i))) ≡ true → kind_at bs i ≤ kind_at bs (suc i)
      by true p e = absurd (let q = p refl in let z : ⊥ = omega arith in z)
      by false p e = let z : suc i - 1 ≡ i = omega arith in first_byte 7 (record_at bs i) (record_at bs (suc i)) (subst (λ (m : ℕ). rises (record_at bs m) (record_at bs (suc i)) ≡ true) z e)

  kind-positive : (i : ℕ) → i < record_count bs → 0 < kind_at bs i
  unfolding kind_known
  kind-positive i h = ltb-true 0 (kind_at bs i) (and-fst (ltb 0 (kind_at bs i)) (ltb (kind_at bs i) 4) (valid-passes bs v i h).kind)

  kind-low : (k j : ℕ) → j < record_count bs → j < up_to (kind_at bs) k (record_count bs) → kind_at bs j ≤ k
  kind-low k j h l = leb-true (kind_at bs j) k (first-ones (kind_at bs) k (record_count bs) kinds-rise j h ∙ lt-ltb j (up_to (kind_at bs) k (record_count bs)) l)

  kind-high : (k j : ℕ) → j < record_count bs → up_to (kind_at bs) k (record_count bs) ≤ j → k < kind_at bs j
  kind-high k j h l = leb-false (kind_at bs j) k (first-ones (kind_at bs) k (record_count bs) kinds-rise j h ∙ le-ltb j (up_to (kind_at bs) k (record_count bs)) l)

  kinds-within : (k : ℕ) → up_to (kind_at bs) k (record_count bs) + count_of bs (suc k) (record_count bs) ≤ record_count bs
  kinds-within k = omega (arith, numbers_to-suc bs k (record_count bs), numbers_to-le (kind_at bs) (suc k) (record_count bs))

  -- the records of kind suc k stand together, after those of the kinds up to k
  kind-inside : (k i : ℕ) → i < count_of bs (suc k) (record_count bs) → kind_at bs (up_to (kind_at bs) k (record_count bs) + i) ≡ suc k
  kind-inside k i h =
      let n = record_count bs in
      let j = up_to (kind_at bs) k n + i in
      let l : j < n = omega (arith, kinds-within k) in
      omega (arith, kind-high k j l (omega arith), kind-low (suc k) j l (omega (arith, numbers_to-suc bs k n)))

  kind-stretch : {A : Type 0} (g : List ℕ → A) (k : ℕ)
      → collect (suc k) g bs (record_count bs) 0 ≡ every (λ i. g (record_at bs i)) (count_of bs (suc k) (record_count bs)) (up_to (kind_at bs) k (record_count bs))
  kind-stretch g k =
      ap (λ (m : ℕ). collect (suc k) g bs m 0) split
      ∙ collect-run (suc k) g bs lo c (n - (lo + c)) (λ j y. ne_eqb (kind_at bs j) (suc k) (λ e. omega (arith, kind-low k j (omega (arith, kinds-within k)) y)))
      (λ j x y. eq-eqb (kind_at bs j) (suc k) (let z : lo + (j - lo) ≡ j = omega arith in sym (ap (kind_at bs) z) ∙ kind-inside k (j - lo) (omega arith)))
      (λ j x y. ne_eqb (kind_at bs j) (suc k) (λ e. omega (arith, kind-high (suc k) j (omega (arith, split)) (omega (arith, numbers_to-suc bs k n)))))
    where
      n : ℕ
      n = record_count bs

      lo : ℕ
      lo = up_to (kind_at bs) k n

      c : ℕ
      c = count_of bs (suc k) n

      split : n ≡ lo + (c + (n - (lo + c)))
      split = omega (arith, kinds-within k)

  before-rules : up_to (kind_at bs) 0 (record_count bs) ≡ 0
  before-rules = numbers_to-none (kind_at bs) 0 (record_count bs) kind-positive

  before-transitions : up_to (kind_at bs) 1 (record_count bs) ≡ rule_count bs
  before-transitions = omega (arith, numbers_to-suc bs 0 (record_count bs), before-rules)

  before-finals : up_to (kind_at bs) 2 (record_count bs) ≡ rule_count bs + transition_count bs
  before-finals = omega (arith, numbers_to-suc bs 1 (record_count bs), before-transitions)

  module _ {A : Type 0} (g : List ℕ → A) where
    -- the rules are the first records
    pub rules-first : collect rule_kind g bs (record_count bs) 0 ≡ every (λ i. g (record_at bs i)) (rule_count bs) 0
    rules-first = kind-stretch g 0 ∙ ap (every (λ i. g (record_at bs i)) (rule_count bs)) before-rules

    -- then come the transitions
    pub transitions-next : collect transition_kind g bs (record_count bs) 0 ≡ every (λ i. g (record_at bs i)) (transition_count bs) (rule_count bs)
    transitions-next = kind-stretch g 1 ∙ ap (every (λ i. g (record_at bs i)) (transition_count bs)) before-transitions

    -- then the final states
    pub finals-last : collect final_kind g bs (record_count bs) 0
        ≡ every (λ i. g (record_at bs i)) (final_count bs) (rule_count bs + transition_count bs)
    finals-last = kind-stretch g 2 ∙ ap (every (λ i. g (record_at bs i)) (final_count bs)) before-finals

  pub rule-kind : (i : ℕ) → i < rule_count bs → kind_at bs i ≡ rule_kind
  rule-kind i h = let z : up_to (kind_at bs) 0 (record_count bs) + i ≡ i = omega (arith, before-rules) in sym (ap (kind_at bs) z) ∙ kind-inside 0 i h

  pub transition-kind : (i : ℕ) → i < transition_count bs → kind_at bs (rule_count bs + i) ≡ transition_kind
  transition-kind i h = sym (ap (λ (m : ℕ). kind_at bs (m + i)) before-transitions) ∙ kind-inside 1 i h

  pub final-kind : (i : ℕ) → i < final_count bs → kind_at bs (rule_count bs + transition_count bs + i) ≡ final_kind
  final-kind i h = sym (ap (λ (m : ℕ). kind_at bs (m + i)) before-finals) ∙ kind-inside 2 i h

  pub rules-listed : rules_of bs ≡ every (λ i. rule_of (record_at bs i)) (rule_count bs) 0
  unfolding rules_of
  rules-listed = rules-first rule_of

  pub transitions-listed : transitions_of bs ≡ every (λ i. transition_of (record_at bs i)) (transition_count bs) (rule_count bs)
  unfolding transitions_of
  transitions-listed = transitions-next transition_of

  pub finals-listed : finals_of bs
      ≡ every (λ i. final_of (record_at bs i)) (final_count bs) (rule_count bs + transition_count bs)
  unfolding finals_of
  finals-listed = finals-last final_of

-- ---- few rules and transitions

-- where no record of kind k stands after just `most` others, there are at most that many
at_most : (bs : List ℕ) (k most n : ℕ) → ((i : ℕ) → i < n → (eqb (kind_at bs i) k && eqb (count_of bs k i) most) ≡ false) → count_of bs k n ≤ most
unfolding count_in
at_most bs k most zero h = omega arith
at_most bs k most (suc n) h =
    by (eqb (kind_at bs n) k) (eqb (count_of bs k n) most) (h n (omega arith)) (eqb-false (count_of bs k n) most) (at_most bs k most n (λ i l. h i (omega arith)))
  where
    by : (a b : Bool) → (a && b) ≡ false → (b ≡ false → count_of bs k n ≡ most → ⊥) → count_of bs k n ≤ most → count_of bs k n + cond a 1 0 ≤ most
    by true true e p l = absurd (true≢false e)
    by true false e p l = let q = p refl in omega arith
    by false b e p l = omega arith

pub record Few (bs : List ℕ) : Type 0 where
  pub rules : rule_count bs ≤ rule_limit
  pub transitions : transition_count bs ≤ transition_limit

pub few : (bs : List ℕ) → (fault bs).number ≡ 0 → Few bs
unfolding over_limit
few bs v = record {
  rules = at_most bs rule_kind rule_limit (record_count bs) (λ i l. (neither i l).0);
  transitions = at_most bs transition_kind transition_limit (record_count bs) (λ i l. (neither i l).1);
}
  where
    neither : (i : ℕ) → i < record_count bs → ((eqb (kind_at bs i) rule_kind && eqb (count_of bs rule_kind i) rule_limit) ≡ false) × ((eqb (kind_at bs i) transition_kind && eqb (count_of bs transition_kind i) transition_limit) ≡ false)
    neither i l =
        or-neither (eqb (kind_at bs i) rule_kind && eqb (count_of bs rule_kind i) rule_limit) (eqb (kind_at bs i) transition_kind && eqb (count_of bs transition_kind i) transition_limit)
        (valid-passes bs v i l).few

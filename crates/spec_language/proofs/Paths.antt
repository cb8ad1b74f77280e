-- A pair of a word's relation is a path on the word (demand 2), and the relation of a word put together from two is the composition
-- (document 000, Lemma 2). Assumes nothing.
use Rattle.std.specs.Prelude.{◌≡◌, refl, true, false, ◌&&◌, cond, eqb}
use Rattle.std.proofs.Common.{sym, ap, ◌∙◌, subst, arith}
use Rattle.std.proofs.Math.Bool.{Bool}
use mathlib.Core.List.{List, [], ◌∷◌, ◌++◌}
use Prim.Native.Nat.{ℕ, ◌*◌, ◌^◌, ◌<◌}
use borrow.Author.Tests.{eqb-true, eq-eqb}
use Rattle.spec_basics.specs.Tests.{and_intro, and-fst, and-snd, not-fails}
use Rattle.spec_basics.specs.Elements.{In}
use Rattle.spec_basics.specs.Lists.{any_of, any_at}
use Rattle.relation.specs.Digits.{some}
use Rattle.relation.specs.DigitLaws.{some_of}
use Rattle.relation.specs.Relation.{has, table, identity, compose, rejects}
use Rattle.relation.specs.RelationLaws.{table-lt, has-table, identity-lt, has-identity, compose-lt, compose-in, compose-out, identity-compose, compose-identity, compose-assoc, rejects-none}
use Rattle.spec_language.specs.Remarks.{is_remark}
use Rattle.spec_language.specs.Automaton.{Transition, Automaton, Moves, ReadsBy, Reads, WordPath, Accepts, TurnsAway, Within}
use Rattle.spec_language.specs.WordRelation.{moves, letter_relation, word_relation, is_final, rejected}

pub word_relation-lt : (n : ℕ) (ts : List Transition) (w : List ℕ) → word_relation n ts w < 2 ^ (n * n)
unfolding word_relation
word_relation-lt n ts [] = omega (arith, identity-lt n)
word_relation-lt n ts (c ∷ w) = compose-lt n _ _

pub letter_relation-lt : (n : ℕ) (ts : List Transition) (c : ℕ) → letter_relation n ts c < 2 ^ (n * n)
unfolding letter_relation
letter_relation-lt n ts c = by (is_remark c) _ (omega (arith, identity-lt n))
  where
    by : (r : Bool) (x : ℕ) → x < 2 ^ (n * n) → cond r x (table n (moves ts c)) < 2 ^ (n * n)
    by true x l = l
    by false x l = table-lt n (moves ts c)

-- a remark has the relation of the empty word, and any other terminal that of its transitions
pub letter_relation-remark : (n : ℕ) (ts : List Transition) (c : ℕ) → is_remark c ≡ true → letter_relation n ts c ≡ identity n
unfolding letter_relation
letter_relation-remark n ts c e = rw e

pub letter_relation-step : (n : ℕ) (ts : List Transition) (c : ℕ) → is_remark c ≡ false → letter_relation n ts c ≡ table n (moves ts c)
unfolding letter_relation
letter_relation-step n ts c e = rw e

-- document 000's Lemma 2
pub word_relation-append : (n : ℕ) (ts : List Transition) (u v : List ℕ) → word_relation n ts (u ++ v) ≡ compose n (word_relation n ts u) (word_relation n ts v)
unfolding word_relation
word_relation-append n ts [] v = sym (identity-compose n (word_relation n ts v) (word_relation-lt n ts v))
word_relation-append n ts (c ∷ u) v =
    ap (compose n (letter_relation n ts c)) (word_relation-append n ts u v)
    ∙ sym (compose-assoc n (letter_relation n ts c) (word_relation n ts u) (word_relation n ts v))

pub word_relation-one : (n : ℕ) (ts : List Transition) (c : ℕ) → word_relation n ts (c ∷ []) ≡ letter_relation n ts c
unfolding word_relation
word_relation-one n ts c = compose-identity n (letter_relation n ts c) (letter_relation-lt n ts c)

pub word_relation-none : (n : ℕ) (ts : List Transition) → word_relation n ts [] ≡ identity n
unfolding word_relation
word_relation-none n ts = refl

-- ---- the test for a transition, and transitions

pub moves-in : (ts : List Transition) (c a b : ℕ) → moves ts c a b ≡ true → Moves ts a c b
unfolding moves
moves-in ts c a b h =
    let r = any_of _ ts h in
    let m : Transition = r.0 in
    let p : (eqb m.source a && eqb m.letter c) ≡ true = and-fst (eqb m.source a && eqb m.letter c) (eqb m.target b) r.2 in
    let same : m ≡ record { source = a; letter = c; target = b } =
    λ i. record {
      source = eqb-true m.source a (and-fst (eqb m.source a) (eqb m.letter c) p) i;
      letter = eqb-true m.letter c (and-snd (eqb m.source a) (eqb m.letter c) p) i;
      target = eqb-true m.target b (and-snd (eqb m.source a && eqb m.letter c) (eqb m.target b) r.2) i;
    }
    in
    subst (λ (x : Transition). In x ts) same r.1

pub in-moves : (ts : List Transition) (c a b : ℕ) → Moves ts a c b → moves ts c a b ≡ true
unfolding moves
in-moves ts c a b h =
    any_at (λ (m : Transition). (eqb m.source a && eqb m.letter c) && eqb m.target b) (record { source = a; letter = c; target = b }) ts h
    (and_intro (eqb a a && eqb c c) (eqb b b) (and_intro (eqb a a) (eqb c c) (eq-eqb a a refl) (eq-eqb c c refl)) (eq-eqb b b refl))

-- ---- one letter: a pair of its relation reads it

pub reads_as : (ts : List Transition) (c a b : ℕ) (r : Bool) → is_remark c ≡ r → ReadsBy r ts a c b → Reads ts a c b
reads_as ts c a b r e s = subst (λ (x : Bool). ReadsBy x ts a c b) (sym e) s

module _ (n : ℕ) (ts : List Transition) (c a b : ℕ) (ha : a < n) where
  reads_of : b < n → has n (letter_relation n ts c) a b ≡ true → Reads ts a c b
  reads_of hb h = by (is_remark c) refl
    where
      by : (r : Bool) → is_remark c ≡ r → Reads ts a c b
      by true e =
          let q = sym (has-identity n a b ha hb) ∙ ap (λ (x : ℕ). has n x a b) (sym (letter_relation-remark n ts c e)) ∙ h in
          reads_as ts c a b true e (eqb-true a b q)
      by false e =
          let q = sym (has-table n (moves ts c) a b ha hb) ∙ ap (λ (x : ℕ). has n x a b) (sym (letter_relation-step n ts c e)) ∙ h in
          reads_as ts c a b false e (moves-in ts c a b q)

  of-reads : b < n → Reads ts a c b → has n (letter_relation n ts c) a b ≡ true
  of-reads hb s = by (is_remark c) refl s
    where
      by : (r : Bool) → is_remark c ≡ r → ReadsBy r ts a c b → has n (letter_relation n ts c) a b ≡ true
      by true e s = ap (λ (x : ℕ). has n x a b) (letter_relation-remark n ts c e) ∙ has-identity n a b ha hb ∙ eq-eqb a b s
      by false e s = ap (λ (x : ℕ). has n x a b) (letter_relation-step n ts c e) ∙ has-table n (moves ts c) a b ha hb ∙ in-moves ts c a b s

  -- and what is reached is a state
  reads-low : ((m : Transition) → In m ts → m.target < n) → Reads ts a c b → b < n
  reads-low targets s = by (is_remark c) s
    where
      by : (r : Bool) → ReadsBy r ts a c b → b < n
      by true s = subst (λ (x : ℕ). x < n) s ha
      by false s = targets (record { source = a; letter = c; target = b }) s

-- ---- a word

module _ (n : ℕ) (ts : List Transition) (targets : (m : Transition) → In m ts → m.target < n) where
  -- a pair of the relation is a path, and a path a pair
  pub path-of : (w : List ℕ) (a b : ℕ) → a < n → b < n → has n (word_relation n ts w) a b ≡ true → WordPath ts a w b
  unfolding word_relation
  path-of [] a b ha hb h = eqb-true a b (sym (has-identity n a b ha hb) ∙ h)
  path-of (c ∷ w) a b ha hb h =
      let r = compose-out n (letter_relation n ts c) (word_relation n ts w) a b ha hb h in
      (r.0, reads_of n ts c a r.0 ha r.1 r.2, path-of w r.0 b r.1 hb r.3)

  pub of-path : (w : List ℕ) (a b : ℕ) → a < n → b < n → WordPath ts a w b → has n (word_relation n ts w) a b ≡ true
  unfolding word_relation
  of-path [] a b ha hb h = has-identity n a b ha hb ∙ eq-eqb a b h
  of-path (c ∷ w) a b ha hb h =
      let hm : h.0 < n = reads-low n ts c a h.0 ha targets h.1 in
      compose-in n (letter_relation n ts c) (word_relation n ts w) a h.0 b ha hm hb (of-reads n ts c a h.0 ha hm h.1)
      (of-path w h.0 b hm hb h.2)

final-in : (A : Automaton) (f : ℕ) → is_final A f ≡ true → In f A.finals
unfolding is_final
final-in A f h =
    let r = any_of (λ (g : ℕ). eqb g f) A.finals h in
    subst (λ (x : ℕ). In x A.finals) (eqb-true r.0 f r.2) r.1

in-final : (A : Automaton) (f : ℕ) → In f A.finals → is_final A f ≡ true
unfolding is_final
in-final A f h = any_at (λ (g : ℕ). eqb g f) f A.finals h (eq-eqb f f refl)

module _ (n : ℕ) (A : Automaton) (within : Within n A) where
  -- the word's relation rejects exactly where there is no accepting path
  pub turns-away : (w : List ℕ) → rejected n A w ≡ true → TurnsAway A w
  unfolding rejected
  turns-away w t a =
      let hf : a.0 < n = within.ends a.0 a.1 in
      rejects-none n (is_final A) (word_relation n A.transitions w) t a.0 hf (in-final A a.0 a.1)
      (of-path n A.transitions within.targets w 0 a.0 within.some-state hf a.2)

  pub accepts : (w : List ℕ) → rejected n A w ≡ false → Accepts A w
  unfolding rejected rejects
  accepts w t =
      let test : ℕ → Bool = λ f. is_final A f && has n (word_relation n A.transitions w) 0 f in
      let r = some_of n test (not-fails (some n test) t) in
      let f : ℕ = r.0 in (
        f,
        final-in A f (and-fst (is_final A f) (has n (word_relation n A.transitions w) 0 f) r.2),
        path-of n A.transitions within.targets w 0 f within.some-state r.1 (and-snd (is_final A f) (has n (word_relation n A.transitions w) 0 f) r.2),
      )

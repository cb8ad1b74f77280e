-- The relation of a terminal that is no remark is made by inserting the pairs of its transitions, one by one, on any number of states; and so
-- is the table of all, which starts with every (a, a) at the remarks. Assumes nothing.
use Rattle.std.specs.Prelude.{◌≡◌, Bool, ◌&&◌, ◌||◌, ℕ, ◌+◌, ◌*◌, ◌≤◌, ◌<◌, eqb, leb, length, replicate}
use Rattle.std.proofs.Math.Path.{refl, sym}
use Rattle.std.proofs.Common.{ap, ap₂, ◌∙◌, arith, pow_pos, eq-eqb, ne_eqb, leb-true, leb-false, le-leb, lt-ltb, le-ltb, ltb-true}
use Rattle.std.proofs.Math.Bool.{true, false, cond, and-true, and-false, or-false}
use Rattle.std.proofs.lemmas.Bool.{false≢true, lt-leb}
use mathlib.Core.List.{List, [], ◌∷◌, ◌++◌}
use Rattle.std.proofs.Math.Dec.{ltb}
use Rattle.spec_basics.specs.Tests.{eqb_comm, iff-equal}
use Rattle.spec_basics.specs.Lists.{any_append}
use Rattle.relation.specs.Relation.{states, has, identity, insert}
use Rattle.relation.specs.RelationLaws.{has-table, ext-has, has-empty, insert-lt, has-insert}
use Rattle.relation.specs.Representation.{value}
use Rattle.relation.specs.Stored.{relation_in, with_relation, relations_of}
use Rattle.relation.specs.StoredLaws.{relations-length, relations-at, relations-past, relations-none, relations-same, relations-with}
use Rattle.spec_language.specs.Remarks.{first_remark, last_remark, is_remark}
use Rattle.spec_language.proofs.RemarkLaws.{remark-between, between-remark, below-remarks}
use Rattle.spec_language.specs.Automaton.{Transition}
use Rattle.spec_language.specs.WordRelation.{moves, letter_relation}
use Rattle.spec_language.proofs.Paths.{letter_relation-lt, letter_relation-remark, letter_relation-step}
use Rattle.spec_file.specs.Limits.{terminals, letter_words}
use Rattle.file_tables.specs.Tables.{letter_table, remarks_below, with_transition}

-- ---- one terminal, on any number of states

has-letter : (n : ℕ) (ts : List Transition) (c a b : ℕ) → is_remark c ≡ false → a < n → b < n → has n (letter_relation n ts c) a b ≡ moves ts c a b
has-letter n ts c a b s ha hb = ap (λ (r : ℕ). has n r a b) (letter_relation-step n ts c s) ∙ has-table n (moves ts c) a b ha hb

moves_next : (ts : List Transition) (t : Transition) (c a b : ℕ)
    → moves (ts ++ (t ∷ [])) c a b ≡ (moves ts c a b || ((eqb t.source a && eqb t.letter c) && eqb t.target b))
unfolding moves
moves_next ts t c a b =
    any_append (λ (s : Transition). (eqb s.source a && eqb s.letter c) && eqb s.target b) ts (t ∷ [])
    ∙ ap (λ (x : Bool). moves ts c a b || x) (or-false ((eqb t.source a && eqb t.letter c) && eqb t.target b))

-- without transitions: no pair
pub letter-none : (n c : ℕ) → is_remark c ≡ false → letter_relation n [] c ≡ 0
unfolding moves
letter-none n c s =
    ext-has n (letter_relation n [] c) 0 (letter_relation-lt n [] c) (pow_pos (n * n)) (λ a b ha hb. has-letter n [] c a b s ha hb ∙ sym (has-empty n a b))

module _ (n : ℕ) (ts : List Transition) (t : Transition) (c : ℕ) where
  -- a transition on the terminal is one pair more
  pub letter-same : is_remark c ≡ false → eqb t.letter c ≡ true → insert n (letter_relation n ts c) t.source t.target ≡ letter_relation n (ts ++ (t ∷ [])) c
  letter-same s e =
      ext-has n (insert n (letter_relation n ts c) t.source t.target) (letter_relation n (ts ++ (t ∷ [])) c)
      (insert-lt n (letter_relation n ts c) t.source t.target) (letter_relation-lt n (ts ++ (t ∷ [])) c)
      (λ a b ha hb.
      has-insert n (letter_relation n ts c) t.source t.target a b ha hb
      ∙ ap₂ (λ (x y : Bool). x || y) (has-letter n ts c a b s ha hb) (pair a b)
      ∙ sym (has-letter n (ts ++ (t ∷ [])) c a b s ha hb ∙ moves_next ts t c a b))
    where
      pair : (a b : ℕ) → (eqb a t.source && eqb b t.target) ≡ ((eqb t.source a && eqb t.letter c) && eqb t.target b)
      pair a b =
          ap₂ (λ (x y : Bool). x && y) (eqb_comm a t.source ∙ sym (and-true (eqb t.source a)) ∙ ap (λ (x : Bool). eqb t.source a && x) (sym e)) (eqb_comm b t.target)

  -- and on another one changes nothing
  pub letter-other : is_remark c ≡ false → eqb t.letter c ≡ false → letter_relation n ts c ≡ letter_relation n (ts ++ (t ∷ [])) c
  letter-other s e =
      ext-has n (letter_relation n ts c) (letter_relation n (ts ++ (t ∷ [])) c) (letter_relation-lt n ts c) (letter_relation-lt n (ts ++ (t ∷ [])) c)
      (λ a b ha hb.
      has-letter n ts c a b s ha hb
      ∙ sym (or-false (moves ts c a b))
      ∙ ap (λ (x : Bool). moves ts c a b || x) (none a b)
      ∙ sym (has-letter n (ts ++ (t ∷ [])) c a b s ha hb ∙ moves_next ts t c a b))
    where
      none : (a b : ℕ) → false ≡ ((eqb t.source a && eqb t.letter c) && eqb t.target b)
      none a b = sym (ap (λ (x : Bool). x && eqb t.target b) (ap (λ (x : Bool). eqb t.source a && x) e ∙ and-false (eqb t.source a)))

  -- nor does any transition change a remark
  letter-kept : (t.letter ≡ c → is_remark c ≡ true) → letter_relation n ts c ≡ letter_relation n (ts ++ (t ∷ [])) c
  letter-kept only = by (is_remark c) refl
    where
      by : (r : Bool) → is_remark c ≡ r → letter_relation n ts c ≡ letter_relation n (ts ++ (t ∷ [])) c
      by true s = letter_relation-remark n ts c s ∙ sym (letter_relation-remark n (ts ++ (t ∷ [])) c s)
      by false s = letter-other s (ne_eqb t.letter c (λ e. false≢true (sym s ∙ only e)))

-- ---- the remarks, one by one

module _ (n : ℕ) where
  -- at first none is stored
  pub remarks-none : replicate letter_words 0 ≡ relations_of (remarks_below n first_remark) terminals
  remarks-none = relations-none (remarks_below n first_remark) terminals (λ j. by (is_remark j) j refl)
    where
      by : (r : Bool) (j : ℕ) → is_remark j ≡ r → cond (r && ltb j first_remark) (identity n) 0 ≡ 0
      by true j s = rw (le-ltb j first_remark (between-remark j s).0)
      by false j s = refl

  -- then the next
  pub remarks-next : (c : ℕ) → first_remark ≤ c → c < terminals
      → with_relation (relations_of (remarks_below n c) terminals) c (identity n) ≡ relations_of (remarks_below n (c + 1)) terminals
  remarks-next c p q = relations-with (remarks_below n c) terminals (remarks_below n (c + 1)) c (identity n) (λ l. here) elsewhere
    where
      here : remarks_below n (c + 1) c ≡ identity n
      here = rw (remark-between c p (let k : c ≤ last_remark = omega arith in k), lt-ltb c (c + 1) (omega arith))

      elsewhere : (j : ℕ) → (j ≡ c → ⊥) → remarks_below n (c + 1) j ≡ remarks_below n c j
      elsewhere j ne =
          ap (λ (b : Bool). cond (is_remark j && b) (identity n) 0)
          (iff-equal (ltb j (c + 1)) (ltb j c)
          (λ e. lt-ltb j c (let k : j < c = omega (arith, ltb-true j (c + 1) e, ne) in k))
          (λ e. lt-ltb j (c + 1) (let k : j < c + 1 = omega (arith, ltb-true j c e) in k)))

  -- and with the last the table is that without transitions
  pub remarks-all : relations_of (remarks_below n terminals) terminals ≡ letter_table n []
  unfolding letter_table
  remarks-all = relations-same (remarks_below n terminals) terminals (letter_relation n []) (λ j l. by (is_remark j) j refl l)
    where
      by : (r : Bool) (j : ℕ) → is_remark j ≡ r → j < terminals → cond (r && ltb j terminals) (identity n) 0 ≡ letter_relation n [] j
      by true j s l = rw (lt-ltb j terminals l) (sym (letter_relation-remark n [] j s))
      by false j s l = sym (letter-none n j s)

-- ---- the table

pub letters-length : (n : ℕ) (ts : List Transition) → length (letter_table n ts) ≡ letter_words
unfolding letter_table
letters-length n ts = relations-length (letter_relation n ts) terminals

-- the relation of terminal c, on the states that the code has
pub letters-at : (ts : List Transition) (c : ℕ) → c < terminals → value (relation_in (letter_table states ts) c) ≡ letter_relation states ts c
unfolding letter_table
letters-at ts c h = relations-at (letter_relation states ts) terminals c h (letter_relation-lt states ts c)

-- no pair past the terminals
pub letters-past : (ts : List Transition) (c : ℕ) → terminals ≤ c → value (relation_in (letter_table states ts) c) ≡ 0
unfolding letter_table
letters-past ts = relations-past (letter_relation states ts) terminals

-- a transition on a remark or above is left out, and any other inserts its pair
module _ (n : ℕ) (table : List ℕ) (t : Transition) where
  pub with-left-out : first_remark ≤ t.letter → with_transition n table t ≡ table
  with-left-out h = rw (le-leb first_remark t.letter h)

  pub with-inserted : t.letter < first_remark
      → with_transition n table t ≡ with_relation table t.letter (insert n (value (relation_in table t.letter)) t.source t.target)
  with-inserted h = rw (lt-leb first_remark t.letter h)

pub letters-next : (ts : List Transition) (t : Transition) → with_transition states (letter_table states ts) t ≡ letter_table states (ts ++ (t ∷ []))
unfolding letter_table
letters-next ts t = by (leb first_remark t.letter) (leb-true first_remark t.letter) (leb-false first_remark t.letter)
  where
    more : List Transition
    more = ts ++ (t ∷ [])

    by : (b : Bool) → (b ≡ true → first_remark ≤ t.letter) → (b ≡ false → t.letter < first_remark)
        → with_transition states (letter_table states ts) t ≡ letter_table states more
    by true p q =
        with-left-out states (letter_table states ts) t (p refl)
        ∙ relations-same (letter_relation states ts) terminals (letter_relation states more)
        (λ c l. letter-kept states ts t c (λ e. remark-between c (let k : first_remark ≤ c = omega (arith, p refl, e) in k) (let k : c ≤ last_remark = omega arith in k)))
    by false p q =
        with-inserted states (letter_table states ts) t (q refl)
        ∙ relations-with (letter_relation states ts) terminals (letter_relation states more) t.letter _
        (λ h.
        sym (letter-same states ts t t.letter (below-remarks t.letter (q refl)) (eq-eqb t.letter t.letter refl))
        ∙ ap (λ (r : ℕ). insert states r t.source t.target) (sym (letters-at ts t.letter h)))
        (λ c ne. sym (letter-kept states ts t c (λ e. absurd (ne (sym e)))))

-- Relations in a table of words, read and stored. No law says how many words hold a relation, so those who cite them do not change with
-- that number. Assumes nothing.
use Rattle.std.specs.Prelude.{◌≡◌, ℕ, zero, suc, ◌+◌, ◌*◌, ◌/◌, ◌%◌, ◌^◌, ◌<◌, ◌≤◌, Bool, true, false, List, length, replicate, ◌==◌, ◌≢◌, slice_index, slice_set}
use Rattle.std.proofs.Math.Path.{refl, sym, ap, ap₂}
use Rattle.std.proofs.Common.{◌∙◌, div-lt_iff_lt-mul, pow_pos, ext_get_or}
use Rattle.std.proofs.Math.Nat.{div-eq_of_lt}
use native.Mathlib.Omega.{arith}
use Rattle.std.proofs.Math.Arith.{digits_lt, digits_div, digits_mod}
use Rattle.std.proofs.Math.ListN.{length-set, get_or-eq_default}
use Rattle.std.proofs.Math.Seq.{get_or-set_same, get_or-set_other}
use borrow.Author.Tests.{eqb-true, eqb-false}
use Rattle.spec_basics.specs.Lists.{length-every, getD-every, every_one, every-same}
use Rattle.relation.specs.declared.Relation.{Relation}
use Rattle.relation.specs.Digits.{pieces, piece}
use Rattle.relation.specs.Pieces.{pieces-same, piece_of, pieces_of, at_places}
use Rattle.relation.specs.Relation.{states}
use Rattle.relation.specs.Representation.{word_digits, relation_words, word, word_lt, Fit, value, each_word}
use Rattle.relation.specs.Stored.{relation_in, with_words, with_relation, word_at, relations_of}

-- ---- the words of a relation

-- are the pieces of its value
pub piece-of-value : (r : Relation) → Fit r → (k : ℕ) → k < relation_words → piece word_digits (value r) k ≡ word r k
unfolding value
piece-of-value r h k l = piece_of word_digits relation_words (word r) (word_lt r h) k l

-- a relation whose words are the entries of a table
value_in : (table : List ℕ) (i : ℕ) → value (relation_in table i) ≡ pieces word_digits relation_words (λ k. slice_index table (i * relation_words + k))
unfolding value relation_in
value_in table i =
    pieces-same word_digits relation_words (word (relation_in table i)) (λ k. slice_index table (i * relation_words + k)) (each_word _ refl refl refl refl)

-- ---- words stored

module _ (table : List ℕ) (p x : ℕ) where
  length-words : (k : ℕ) → length (with_words table p x k) ≡ length table
  unfolding with_words
  length-words zero = refl
  length-words (suc k) = length-set (with_words table p x k) (p + k) (piece word_digits x k) ∙ length-words k

  -- an entry before the words, and one after them
  words-other : (k q : ℕ) → ((a : ℕ) → a < k → q ≢ p + a) → slice_index (with_words table p x k) q ≡ slice_index table q
  unfolding with_words
  words-other zero q h = refl
  words-other (suc k) q h =
      get_or-set_other (with_words table p x k) (p + k) q (piece word_digits x k) 0 (h k (omega arith)) ∙ words-other k q (λ a l. h a (omega arith))

  -- word a of those stored
  words_same : (k a : ℕ) → a < k → p + k ≤ length table → slice_index (with_words table p x k) (p + a) ≡ piece word_digits x a
  unfolding with_words
  words_same zero a l h = absurd (omega arith)
  words_same (suc k) a l h = by (words_same k a) (a == k) refl
    where
      by : (a < k → p + k ≤ length table → slice_index (with_words table p x k) (p + a) ≡ piece word_digits x a) → (b : Bool) → (a == k) ≡ b
          → slice_index (slice_set (with_words table p x k) (p + k) (piece word_digits x k)) (p + a) ≡ piece word_digits x a
      by before true e =
          ap (λ (z : ℕ). slice_index (slice_set (with_words table p x k) (p + k) (piece word_digits x k)) (p + z)) (eqb-true a k e)
          ∙ get_or-set_same (with_words table p x k) (p + k) (piece word_digits x k) 0 (omega (arith, length-words k))
          ∙ ap (piece word_digits x) (sym (eqb-true a k e))
      by before false e =
          let n = eqb-false a k e in
          get_or-set_other (with_words table p x k) (p + k) (p + a) (piece word_digits x k) 0 (λ z. n (omega arith))
          ∙ before (omega arith) (omega arith)

-- ---- a table of relations

module _ (f : ℕ → ℕ) (k : ℕ) where
  pub relations-length : length (relations_of f k) ≡ k * relation_words
  unfolding relations_of
  relations-length = length-every (word_at f) (k * relation_words) 0

  -- word a of relation c
  word-at : (c a : ℕ) → c < k → a < relation_words → slice_index (relations_of f k) (c * relation_words + a) ≡ piece word_digits (f c) a
  unfolding relations_of word_at
  word-at c a hc ha =
      let z : 0 + (c * relation_words + a) ≡ c * relation_words + a = omega arith in
      getD-every (word_at f) 0 (k * relation_words) 0 (c * relation_words + a) (digits_lt hc ha)
      ∙ ap (word_at f) z
      ∙ ap₂ (λ (i j : ℕ). piece word_digits (f i) j) (digits_div c ha) (digits_mod c ha)

  -- relation c of the table, which fits its words
  pub relations-at : (c : ℕ) → c < k → f c < 2 ^ (states * states) → value (relation_in (relations_of f k) c) ≡ f c
  relations-at c h fits =
      value_in (relations_of f k) c
      ∙ pieces-same word_digits relation_words (λ a. slice_index (relations_of f k) (c * relation_words + a)) (piece word_digits (f c)) (λ a l. word-at c a h l)
      ∙ pieces_of word_digits relation_words (f c) fits

  -- none after the last
  pub relations-past : (c : ℕ) → k ≤ c → value (relation_in (relations_of f k) c) ≡ 0
  unfolding pieces
  relations-past c h =
      value_in (relations_of f k) c
      ∙ pieces-same word_digits relation_words (λ a. slice_index (relations_of f k) (c * relation_words + a)) (λ a. 0)
      (λ a l. get_or-eq_default (relations_of f k) 0 (omega (arith, relations-length)))

  -- without a pair in any of them: a table of zeros
  pub relations-none : ((c : ℕ) → f c ≡ 0) → replicate (k * relation_words) 0 ≡ relations_of f k
  unfolding relations_of word_at piece
  relations-none h = every_one (word_at f) 0 (λ p. ap (λ (z : ℕ). piece word_digits z (p % relation_words)) (h (p / relation_words)) ∙ zero-piece (p % relation_words)) (k * relation_words) 0
    where
      zero-piece : (a : ℕ) → piece word_digits 0 a ≡ 0
      zero-piece a = ap (λ (z : ℕ). z % 2 ^ word_digits) (div-eq_of_lt (pow_pos (a * word_digits)))

  -- and a table of other relations that are equal up to the last
  pub relations-same : (g : ℕ → ℕ) → ((c : ℕ) → c < k → f c ≡ g c) → relations_of f k ≡ relations_of g k
  unfolding relations_of word_at
  relations-same g h =
      every-same (word_at f) (word_at g) (k * relation_words) 0 0
      (λ p l.
      let z : 0 + p ≡ p = omega arith in
      ap (word_at f) z
      ∙ ap (λ (x : ℕ). piece word_digits x (p % relation_words)) (h (p / relation_words) ((div-lt_iff_lt-mul (omega arith)).1 l))
      ∙ sym (ap (word_at g) z))

-- with x stored as relation i: the relations g, where g is x at i and f elsewhere
pub relations-with : (f : ℕ → ℕ) (k : ℕ) (g : ℕ → ℕ) (i x : ℕ) → (i < k → g i ≡ x) → ((c : ℕ) → (c ≢ i) → g c ≡ f c) → with_relation (relations_of f k) i x ≡ relations_of g k
unfolding with_relation
relations-with f k g i x here elsewhere =
    ext_get_or 0 new (relations_of g k) (length-new ∙ relations-length f k ∙ sym (relations-length g k))
    (λ p l. at_places relation_words k (λ q. slice_index new q ≡ slice_index (relations_of g k) q) (λ c a hc ha. by (i == c) c a refl hc ha ∙ sym (word-at g k c a hc ha)) p (omega (arith, length-new, relations-length f k)))
  where
    old : List ℕ
    old = relations_of f k

    new : List ℕ
    new = with_words old (i * relation_words) x relation_words

    length-new : length new ≡ length old
    length-new = length-words old (i * relation_words) x relation_words

    by : (b : Bool) (c a : ℕ) → (i == c) ≡ b → c < k → a < relation_words → slice_index new (c * relation_words + a) ≡ piece word_digits (g c) a
    by true c a e hc ha =
        let q = eqb-true i c e in
        let l : i < k = omega arith in
        ap (λ (j : ℕ). slice_index new (j * relation_words + a)) (sym q)
        ∙ words_same old (i * relation_words) x relation_words a ha (omega (arith, relations-length f k))
        ∙ ap (λ (y : ℕ). piece word_digits y a) (sym (here l) ∙ ap g q)
    by false c a e hc ha =
        let n : c ≡ i → ⊥ = λ q. eqb-false i c e (sym q) in
        words-other old (i * relation_words) x relation_words (c * relation_words + a) (λ b l z. n (omega arith))
        ∙ word-at f k c a hc ha
        ∙ ap (λ (y : ℕ). piece word_digits y a) (sym (elsewhere c n))

-- ---- one relation stored in any table

module _ (table : List ℕ) (i x : ℕ) where
  pub stored-length : length (with_relation table i x) ≡ length table
  unfolding with_relation
  stored-length = length-words table (i * relation_words) x relation_words

  -- an entry before its words, or after them
  pub stored-outside : (p : ℕ) → ((a : ℕ) → a < relation_words → p ≢ i * relation_words + a) → slice_index (with_relation table i x) p ≡ slice_index table p
  unfolding with_relation
  stored-outside p h = words-other table (i * relation_words) x relation_words p h

  -- the relation itself, if it fits its words
  pub stored_same : (i + 1) * relation_words ≤ length table → x < 2 ^ (states * states) → value (relation_in (with_relation table i x) i) ≡ x
  unfolding with_relation
  stored_same room fits =
      value_in (with_relation table i x) i
      ∙ pieces-same word_digits relation_words (λ a. slice_index (with_relation table i x) (i * relation_words + a)) (piece word_digits x) (λ a l. words_same table (i * relation_words) x relation_words a l (omega (arith, room)))
      ∙ pieces_of word_digits relation_words x fits

-- a relation whose words are the same in two tables
pub value_same : (t t' : List ℕ) (c : ℕ) → ((a : ℕ) → a < relation_words → slice_index t (c * relation_words + a) ≡ slice_index t' (c * relation_words + a)) → value (relation_in t c) ≡ value (relation_in t' c)
value_same t t' c h =
    value_in t c
    ∙ pieces-same word_digits relation_words (λ a. slice_index t (c * relation_words + a)) (λ a. slice_index t' (c * relation_words + a)) h
    ∙ sym (value_in t' c)

-- another relation of the table
pub stored_other : (table : List ℕ) (i x c : ℕ) → (c ≢ i) → value (relation_in (with_relation table i x) c) ≡ value (relation_in table c)
stored_other table i x c n =
    value_same (with_relation table i x) table c (λ a l. stored-outside table i x (c * relation_words + a) (λ b m e. n (omega (arith, l, m, e))))

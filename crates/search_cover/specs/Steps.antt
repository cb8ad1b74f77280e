-- What each step of looking for a cover returns, and what it makes of the words. Here w is the words, e the candidate's effect and u the rows
-- used. Definitions only. Assumes nothing.
use Rattle.std.specs.Prelude.{◌≡◌, Bool, true, false, cond, List, ℕ, ◌+◌, ◌≤◌, ◌<◌, ltb, length, set}
use Rattle.relation.specs.Relation.{contained, key_of}
use Rattle.relation.specs.Stored.{with_relation}
use Rattle.search_state.specs.Layout.{row_cells}
use Rattle.search_cover.specs.Near.{near_words, keys_from, numbers_from, heads_from, row_place, head_of, count_of, link_of, row_effect_at, row_head_at, number_at, effect_at, Numbers, Among}
use Rattle.search_cover.specs.declared.CoverAnswer.{CoverAnswer}

-- ---- the numbers of rows

-- row v stands at place n, with its key
unfoldable pub with_number : List ℕ → ℕ → ℕ → List ℕ
with_number w n v = set (set w (keys_from + n) (key_of (row_effect_at w v))) (numbers_from + n) v

-- n rows of x stand there, and the cell leads past its last live row
unfoldable pub noted : List ℕ → ℕ → ℕ → ℕ → List ℕ
noted w x n cell = set (set (set w 0 (x + 1)) 1 n) 2 cell

-- ---- looking through them

-- they are of rows below m, and can be looked through
pub record Ready (m : ℕ) (w : List ℕ) : Type 0 where
  pub size : length w ≡ near_words
  pub limit : m ≤ row_cells
  pub few : count_of w ≤ m
  pub head : ℕ
  pub numbers : Numbers head m (count_of w) w

-- effect i is the first of the n that is contained in e; where there is none, i is n
pub record FirstBelow (w : List ℕ) (n e i : ℕ) : Type 0 where
  pub within : i ≤ n
  pub here : i < n → contained (effect_at w i) e ≡ true
  pub before : (k : ℕ) → k < i → contained (effect_at w k) e ≡ false

-- e is contained in none of the n
abbrev pub NoneAbove : List ℕ → ℕ → ℕ → Type 0
NoneAbove w n e = (i : ℕ) → i < n → contained e (effect_at w i) ≡ false

-- what was found, with the hint of this slot
pub record LooksThrough (w : List ℕ) (e slot : ℕ) (r : CoverAnswer) : Type 0 where
  pub place : ℕ
  pub first : FirstBelow w (count_of w) e place
  pub covers : r.covers ≡ ltb place (count_of w)
  pub row : r.covers ≡ true → r.row ≡ number_at w place
  pub slot_is : r.slot ≡ slot
  pub cell : r.covers ≡ false → r.cell ≡ link_of w
  pub small : r.covers ≡ false → r.larger ≡ false → NoneAbove w (count_of w) e

-- ---- after the candidate became a row, row u

-- its effect and its nonterminal are noted
unfoldable pub with_row : List ℕ → ℕ → ℕ → ℕ → List ℕ
with_row w u x e = set (with_relation w (row_place u) e) (heads_from + u) x

-- the effects and the nonterminals of the rows are the same
pub record SameRows (w w' : List ℕ) : Type 0 where
  pub effects : (i : ℕ) → row_effect_at w' i ≡ row_effect_at w i
  pub heads-of : (i : ℕ) → row_head_at w' i ≡ row_head_at w i

-- the number at place i is kept as the one at place k, unless its effect contains e: how many are kept then, and the words
abbrev pub kept_at : ℕ → List ℕ → ℕ → ℕ → ℕ × List ℕ
kept_at e w i k = cond (contained e (effect_at w i)) (k, w) (k + 1, with_number w k (number_at w i))

-- of the first i numbers in w, k are left in w': all but, at most, those whose effect contains e
pub record Keeps (e : ℕ) (w : List ℕ) (i k : ℕ) (w' : List ℕ) : Type 0 where
  pub few : k ≤ i
  pub old : (m : ℕ) → m < k → Among w i (number_at w' m)
  pub kept : (m : ℕ) → m < i → contained e (effect_at w m) ≡ false → Among w' k (number_at w m)

-- so of all numbers in w
pub record Drops (e : ℕ) (w w' : List ℕ) : Type 0 where
  pub size : length w' ≡ near_words
  pub same : SameRows w w'
  pub head : head_of w' ≡ head_of w
  pub keeps : Keeps e w (count_of w) (count_of w') w'
  pub keys : (x m : ℕ) → Numbers x m (count_of w) w → Numbers x m (count_of w') w'

-- row u stands last
unfoldable pub with_last : List ℕ → ℕ → List ℕ
with_last w u = set (set (with_number w (count_of w) u) 1 (count_of w + 1)) 2 u

-- the words after the candidate of x did not become a row, or became one
pub record Stays (w : List ℕ) (u x e : ℕ) (dropped : Bool) (w' : List ℕ) : Type 0 where
  pub idle : dropped ≡ true → w' ≡ w
  pub new : dropped ≡ false → (w₁ : List ℕ) × Drops e (with_row w u x e) w₁ × (w' ≡ with_last w₁ u)

-- What the array of words has, as src/lib.rt draws it: the effect and the nonterminal of each row, and the numbers of the live rows of one
-- nonterminal, beside each other. Definitions only. Assumes nothing.
use Rattle.std.specs.Prelude.{◌≡◌, Bool, true, false, List, ℕ, ◌+◌, ◌*◌, ◌≤◌, ◌<◌, eqb, length, get_or}
use Rattle.relation.specs.Relation.{contained, key_of}
use Rattle.relation.specs.Representation.{relation_words, value}
use Rattle.relation.specs.Stored.{relation_in}
use Rattle.spec_order.specs.Candidates.{Candidate}
use Rattle.spec_order.specs.Journal.{Row}
use Rattle.spec_order.specs.Order.{dropped}
use Rattle.search_state.specs.Layout.{row_cells, heads}
use Rattle.search_links.specs.Covers.{live_at, Cell}

-- ---- the words

-- the keys and the numbers of the one nonterminal's rows, then the nonterminals of all rows, then their effects, of which this is the place of
-- row i
abbrev pub keys_from : ℕ
keys_from = relation_words

abbrev pub numbers_from : ℕ
numbers_from = keys_from + row_cells

abbrev pub heads_from : ℕ
heads_from = numbers_from + row_cells

abbrev pub row_place : ℕ → ℕ
row_place i = 3073 + i

abbrev pub near_words : ℕ
near_words = relation_words * row_place row_cells

-- one more than the nonterminal, how many rows of it there are, and the cell past its last live row
abbrev pub head_of : List ℕ → ℕ
head_of w = get_or w 0 0

abbrev pub count_of : List ℕ → ℕ
count_of w = get_or w 1 0

abbrev pub link_of : List ℕ → ℕ
link_of w = get_or w 2 0

abbrev pub is_near : List ℕ → ℕ → Bool
is_near w x = eqb (head_of w) (x + 1)

-- of row i the effect and the nonterminal
abbrev pub row_effect_at : List ℕ → ℕ → ℕ
row_effect_at w i = value (relation_in w (row_place i))

abbrev pub row_head_at : List ℕ → ℕ → ℕ
row_head_at w i = get_or w (heads_from + i) 0

-- at place i of the one nonterminal: the row's number, its key and its effect
abbrev pub number_at : List ℕ → ℕ → ℕ
number_at w i = get_or w (numbers_from + i) 0

abbrev pub key_at : List ℕ → ℕ → ℕ
key_at w i = get_or w (keys_from + i) 0

abbrev pub effect_at : List ℕ → ℕ → ℕ
effect_at w i = row_effect_at w (number_at w i)

-- ---- what they are

-- a row as the candidate that it was
abbrev pub as_candidate : Row ℕ → Candidate ℕ
as_candidate r = record { head = r.head; rule = r.rule; effect = r.effect; left = r.left; right = r.right; len = r.len }

-- the words have the effect and the nonterminal of each row, of which a live row is below it: itself, or one that retired it
pub record RowsIn (rows : List (Row ℕ)) (w : List ℕ) : Type 0 where
  pub effects : (d : Row ℕ) (i : ℕ) → i < length rows → row_effect_at w i ≡ (get_or rows i d).effect
  pub heads-of : (d : Row ℕ) (i : ℕ) → i < length rows → row_head_at w i ≡ (get_or rows i d).head
  pub under : (d : Row ℕ) (i : ℕ) → i < length rows → dropped contained (as_candidate (get_or rows i d)) rows ≡ true

-- the first n numbers are of rows below m of the nonterminal x, each beside its key
pub record Numbers (x m n : ℕ) (w : List ℕ) : Type 0 where
  pub inside : (i : ℕ) → i < n → number_at w i < m
  pub heads-of : (i : ℕ) → i < n → row_head_at w (number_at w i) ≡ x
  pub keys : (i : ℕ) → i < n → key_at w i ≡ key_of (effect_at w i)

-- row v is one of the first n numbers
pub record Among (w : List ℕ) (n v : ℕ) : Type 0 where
  pub place : ℕ
  pub inside : place < n
  pub is : number_at w place ≡ v

-- the words have each live row of the nonterminal x, and the last link of its list: no live row comes after it. A row that retired may be
-- among them too
pub record NearTo (x : ℕ) (rows : List (Row ℕ)) (w : List ℕ) : Type 0 where
  pub numbers : Numbers x (length rows) (count_of w) w
  pub few : count_of w ≤ length rows
  pub all : (v : ℕ) → live_at x rows v ≡ true → Among w (count_of w) v
  pub from : ℕ
  pub is : Cell x rows (link_of w) from
  pub none : (i : ℕ) → from ≤ i → live_at x rows i ≡ false

-- the rows, and the live ones of whichever nonterminal the words say, and if they say none, of none
pub record Beside (rows : List (Row ℕ)) (w : List ℕ) : Type 0 where
  pub size : length w ≡ near_words
  pub rows_in : RowsIn rows w
  pub near : (x : ℕ) → x < heads → is_near w x ≡ true → NearTo x rows w

-- Laws of the words: what storing a number, a row or a count makes of them. Assumes nothing.
use Rattle.std.specs.Prelude.{◌≡◌, refl, Bool, true, false, List, ℕ, ◌+◌, ◌*◌, ◌≤◌, ◌<◌, ◌^◌, ltb, length, get_or, set}
use Rattle.std.proofs.Common.{sym, ap, ◌∙◌, subst, subst₂, arith, ltb-true, ltb-false}
use Rattle.std.proofs.Math.ListN.{length-set}
use Rattle.std.proofs.Math.Seq.{get_or-set_same, get_or-set_other}
use Rattle.relation.specs.Digits.{subset}
use Rattle.relation.specs.KeyLaws.{key_below}
use Rattle.relation.specs.Relation.{states, contained, key_of}
use Rattle.relation.specs.Representation.{relation_words}
use Rattle.relation.specs.Stored.{with_relation}
use Rattle.relation.specs.StoredLaws.{stored-length, stored-outside, stored_same, stored_other, value_same}
use Rattle.spec_order.specs.Journal.{Row}
use Rattle.search_state.specs.Layout.{row_cells}
use Rattle.search_cover.specs.Near.{keys_from, numbers_from, heads_from, row_place, near_words, head_of, count_of, link_of, row_effect_at, row_head_at, number_at, key_at, effect_at, RowsIn, Numbers, Among}
use Rattle.search_cover.specs.Steps.{with_number, noted, Ready, with_row, SameRows, with_last}

-- ---- keys

-- where the key of a is not contained in that of b, a is not contained in b
pub key-tells : (a b k m : ℕ) → k ≡ key_of a → m ≡ key_of b → subset k m ≡ false → contained a b ≡ false
key-tells a b k m p q e = by (contained a b) refl
  where
    by : (t : Bool) → contained a b ≡ t → t ≡ false
    by true z = sym (subst₂ (λ (x y : ℕ). subset x y ≡ true) (sym p) (sym q) (key_below a b z)) ∙ e
    by false z = refl

-- ---- words that stay

-- the words from the numbers on are the same
pub record SameAbove (w w' : List ℕ) : Type 0 where
  pub at : (p : ℕ) → relation_words ≤ p → get_or w' p 0 ≡ get_or w p 0

-- one of the first four is changed
pub set-low : (w : List ℕ) (p v : ℕ) → p < relation_words → SameAbove w (set w p v)
set-low w p v h = record { at = λ q l. get_or-set_other w p q v 0 (λ z. omega (arith, z, h, l)) }

pub same-twice : {w w' w'' : List ℕ} → SameAbove w w' → SameAbove w' w'' → SameAbove w w''
same-twice a b = record { at = λ p l. b.at p l ∙ a.at p l }

-- another row's words changed
set-row : (w : List ℕ) (p v i : ℕ) → ((a : ℕ) → a < relation_words → p ≡ row_place i * relation_words + a → ⊥) → row_effect_at (set w p v) i ≡ row_effect_at w i
set-row w p v i h = value_same (set w p v) w (row_place i) (λ a l. get_or-set_other w p (row_place i * relation_words + a) v 0 (λ e. h a l (sym e)))

module _ {w w' : List ℕ} (s : SameAbove w w') where
  pub above_rows : SameRows w w'
  above_rows =
      record {
        effects = λ i. value_same w' w (row_place i) (λ a l. s.at (row_place i * relation_words + a) (omega arith));
        heads-of = λ i. s.at (heads_from + i) (omega arith);
      }

  pub above-number : (i : ℕ) → number_at w' i ≡ number_at w i
  above-number i = s.at (numbers_from + i) (omega arith)

  pub above-key : (i : ℕ) → key_at w' i ≡ key_at w i
  above-key i = s.at (keys_from + i) (omega arith)

  pub above-among : {n v : ℕ} → Among w n v → Among w' n v
  above-among a = record { place = a.place; inside = a.inside; is = above-number a.place ∙ a.is }

pub rows_same : {rows : List (Row ℕ)} {w w' : List ℕ} → SameRows w w' → RowsIn rows w → RowsIn rows w'
rows_same s g = record { effects = λ d i l. s.effects i ∙ g.effects d i l; heads-of = λ d i l. s.heads-of i ∙ g.heads-of d i l; under = g.under }

pub rows-twice : {w w' w'' : List ℕ} → SameRows w w' → SameRows w' w'' → SameRows w w''
rows-twice a b = record { effects = λ i. b.effects i ∙ a.effects i; heads-of = λ i. b.heads-of i ∙ a.heads-of i }

pub rows_none : (w : List ℕ) → SameRows w w
rows_none w = record { effects = λ i. refl; heads-of = λ i. refl }

-- ---- numbers

-- the same numbers and keys of rows whose words are the same
pub numbers-same : {x m n : ℕ} {w w' : List ℕ} → ((i : ℕ) → i < n → number_at w' i ≡ number_at w i) → ((i : ℕ) → i < n → key_at w' i ≡ key_at w i) → ((v : ℕ) → v < m → row_effect_at w' v ≡ row_effect_at w v) → ((v : ℕ) → v < m → row_head_at w' v ≡ row_head_at w v)
    → Numbers x m n w → Numbers x m n w'
numbers-same {x} {m} {n} {w} {w'} a b e h g =
    record {
      inside = λ i l. subst (λ (v : ℕ). v < m) (sym (a i l)) (g.inside i l);
      heads-of = λ i l. ap (row_head_at w') (a i l) ∙ h (number_at w i) (g.inside i l) ∙ g.heads-of i l;
      keys = λ i l. b i l ∙ g.keys i l ∙ ap key_of (sym (ap (row_effect_at w') (a i l) ∙ e (number_at w i) (g.inside i l)));
    }

pub above-numbers : {w w' : List ℕ} → SameAbove w w' → {x m n : ℕ} → Numbers x m n w → Numbers x m n w'
above-numbers s = numbers-same (λ i l. above-number s i) (λ i l. above-key s i) (λ v l. (above_rows s).effects v) (λ v l. (above_rows s).heads-of v)

pub numbers-wider : {x m m' n : ℕ} {w : List ℕ} → m ≤ m' → Numbers x m n w → Numbers x m' n w
numbers-wider h g = record { inside = λ i l. let z = g.inside i l in omega (arith, z, h); heads-of = g.heads-of; keys = g.keys }

pub numbers-fewer : {x m n n' : ℕ} {w : List ℕ} → n' ≤ n → Numbers x m n w → Numbers x m n' w
numbers-fewer h g =
    record { inside = λ i l. g.inside i (omega (arith, l, h)); heads-of = λ i l. g.heads-of i (omega (arith, l, h)); keys = λ i l. g.keys i (omega (arith, l, h)) }

pub numbers-none : (x m : ℕ) (w : List ℕ) → Numbers x m 0 w
numbers-none x m w = record { inside = λ i l. absurd (omega (arith, l)); heads-of = λ i l. absurd (omega (arith, l)); keys = λ i l. absurd (omega (arith, l)) }

pub ready-wider : {m : ℕ} {w : List ℕ} → Ready m w → Ready row_cells w
ready-wider r = record { size = r.size; limit = omega arith; few = omega (arith, r.few, r.limit); head = r.head; numbers = numbers-wider r.limit r.numbers }

-- row v at place n
module _ (w : List ℕ) (n v : ℕ) (size : length w ≡ near_words) (room : n < row_cells) where
  abbrev w₁ : List ℕ
  w₁ = set w (keys_from + n) (key_of (row_effect_at w v))

  pub with-length : length (with_number w n v) ≡ near_words
  unfolding with_number
  with-length = length-set w₁ (numbers_from + n) v ∙ length-set w (keys_from + n) (key_of (row_effect_at w v)) ∙ size

  -- any other word
  with-other : (p : ℕ) → (p ≡ keys_from + n → ⊥) → (p ≡ numbers_from + n → ⊥) → get_or (with_number w n v) p 0 ≡ get_or w p 0
  unfolding with_number
  with-other p a b = get_or-set_other w₁ (numbers_from + n) p v 0 b ∙ get_or-set_other w (keys_from + n) p (key_of (row_effect_at w v)) 0 a

  pub with-low : (p : ℕ) → p < relation_words → get_or (with_number w n v) p 0 ≡ get_or w p 0
  with-low p h = with-other p (λ z. omega (arith, z, h)) (λ z. omega (arith, z, h))

  pub with_rows : SameRows w (with_number w n v)
  with_rows =
      record {
        effects = λ i. value_same (with_number w n v) w (row_place i) (λ a l. with-other (row_place i * relation_words + a) (λ z. omega (arith, z, room)) (λ z. omega (arith, z, room)));
        heads-of = λ i. with-other (heads_from + i) (λ z. omega (arith, z, room)) (λ z. omega (arith, z, room));
      }

  pub with-number-other : (i : ℕ) → i < row_cells → (i ≡ n → ⊥) → number_at (with_number w n v) i ≡ number_at w i
  with-number-other i l h = with-other (numbers_from + i) (λ z. omega (arith, z, room)) (λ z. h (omega (arith, z)))

  with-key-other : (i : ℕ) → i < row_cells → (i ≡ n → ⊥) → key_at (with_number w n v) i ≡ key_at w i
  with-key-other i l h = with-other (keys_from + i) (λ z. h (omega (arith, z))) (λ z. omega (arith, z, l))

  pub with-number : number_at (with_number w n v) n ≡ v
  unfolding with_number
  with-number = get_or-set_same w₁ (numbers_from + n) v 0 (omega (arith, length-set w (keys_from + n) (key_of (row_effect_at w v)), size, room))

  with-key : key_at (with_number w n v) n ≡ key_of (row_effect_at w v)
  unfolding with_number
  with-key = get_or-set_other w₁ (numbers_from + n) (keys_from + n) v 0 (λ z. omega (arith, z)) ∙ get_or-set_same w (keys_from + n) (key_of (row_effect_at w v)) 0 (omega (arith, size, room))

  -- a place before n, or n itself
  at_place : (P : ℕ → Type 0) → ((i : ℕ) → i < n → P i) → P n → (i : ℕ) → i < n + 1 → P i
  at_place P a b i l = by (ltb i n) refl
    where
      by : (t : Bool) → ltb i n ≡ t → P i
      by true e = a i (ltb-true i n e)
      by false e = let q : n ≡ i = omega (arith, ltb-false i n e, l) in subst P q b

  -- one number more
  pub numbers_more : {x m : ℕ} → v < m → row_head_at w v ≡ x → Numbers x m n w → Numbers x m (n + 1) (with_number w n v)
  numbers_more {x} {m} hv hx g =
      let w' = with_number w n v in
      let old : (i : ℕ) → i < n → number_at w' i ≡ number_at w i = λ i l. with-number-other i (omega (arith, l, room)) (λ z. omega (arith, z, l)) in
      record {
        inside = at_place (λ (i : ℕ). number_at w' i < m) (λ i l. subst (λ (y : ℕ). y < m) (sym (old i l)) (g.inside i l)) (subst (λ (y : ℕ). y < m) (sym with-number) hv);
        heads-of =
            at_place (λ (i : ℕ). row_head_at w' (number_at w' i) ≡ x) (λ i l. with_rows.heads-of (number_at w' i) ∙ ap (row_head_at w) (old i l) ∙ g.heads-of i l)
            (with_rows.heads-of (number_at w' n) ∙ ap (row_head_at w) with-number ∙ hx);
        keys =
            at_place (λ (i : ℕ). key_at w' i ≡ key_of (effect_at w' i))
            (λ i l. with-key-other i (omega (arith, l, room)) (λ z. omega (arith, z, l)) ∙ g.keys i l ∙ ap key_of (sym (with_rows.effects (number_at w' i) ∙ ap (row_effect_at w) (old i l))))
            (with-key ∙ ap key_of (sym (with_rows.effects (number_at w' n) ∙ ap (row_effect_at w) with-number)));
      }

  pub among-old : {y : ℕ} → Among w n y → Among (with_number w n v) (n + 1) y
  among-old a =
      record { place = a.place; inside = omega (arith, a.inside); is = with-number-other a.place (omega (arith, a.inside, room)) (λ z. omega (arith, z, a.inside)) ∙ a.is }

  pub among-new : Among (with_number w n v) (n + 1) v
  among-new = record { place = n; inside = omega arith; is = with-number }

-- ---- the words before them

module _ (w : List ℕ) (x n cell : ℕ) (size : length w ≡ near_words) where
  pub noted-length : length (noted w x n cell) ≡ near_words
  unfolding noted
  noted-length = length-set (set (set w 0 (x + 1)) 1 n) 2 cell ∙ length-set (set w 0 (x + 1)) 1 n ∙ length-set w 0 (x + 1) ∙ size

  pub noted-head : head_of (noted w x n cell) ≡ x + 1
  unfolding noted
  noted-head =
      get_or-set_other (set (set w 0 (x + 1)) 1 n) 2 0 cell 0 (λ z. omega (arith, z)) ∙ get_or-set_other (set w 0 (x + 1)) 1 0 n 0 (λ z. omega (arith, z)) ∙ get_or-set_same w 0 (x + 1) 0 (omega (arith, size))

  pub noted-count : count_of (noted w x n cell) ≡ n
  unfolding noted
  noted-count =
      get_or-set_other (set (set w 0 (x + 1)) 1 n) 2 1 cell 0 (λ z. omega (arith, z)) ∙ get_or-set_same (set w 0 (x + 1)) 1 n 0 (omega (arith, size, length-set w 0 (x + 1)))

  pub noted-link : link_of (noted w x n cell) ≡ cell
  unfolding noted
  noted-link = get_or-set_same (set (set w 0 (x + 1)) 1 n) 2 cell 0 (omega (arith, size, length-set (set w 0 (x + 1)) 1 n, length-set w 0 (x + 1)))

  pub noted-above : SameAbove w (noted w x n cell)
  unfolding noted
  noted-above =
      same-twice (same-twice (set-low w 0 (x + 1) (omega arith)) (set-low (set w 0 (x + 1)) 1 n (omega arith))) (set-low (set (set w 0 (x + 1)) 1 n) 2 cell (omega arith))

-- row u last
module _ (w : List ℕ) (u : ℕ) (size : length w ≡ near_words) (room : count_of w < row_cells) where
  abbrev n : ℕ
  n = count_of w

  abbrev w₂ : List ℕ
  w₂ = with_number w n u

  long : length w₂ ≡ near_words
  long = with-length w n u size room

  pub last-length : length (with_last w u) ≡ near_words
  unfolding with_last
  last-length = length-set (set w₂ 1 (n + 1)) 2 u ∙ length-set w₂ 1 (n + 1) ∙ long

  pub last-head : head_of (with_last w u) ≡ head_of w
  unfolding with_last
  last-head = get_or-set_other (set w₂ 1 (n + 1)) 2 0 u 0 (λ z. omega (arith, z)) ∙ get_or-set_other w₂ 1 0 (n + 1) 0 (λ z. omega (arith, z)) ∙ with-low w n u size room 0 (omega arith)

  pub last-count : count_of (with_last w u) ≡ n + 1
  unfolding with_last
  last-count = get_or-set_other (set w₂ 1 (n + 1)) 2 1 u 0 (λ z. omega (arith, z)) ∙ get_or-set_same w₂ 1 (n + 1) 0 (omega (arith, long))

  pub last-link : link_of (with_last w u) ≡ u
  unfolding with_last
  last-link = get_or-set_same (set w₂ 1 (n + 1)) 2 u 0 (omega (arith, long, length-set w₂ 1 (n + 1)))

  pub last-above : SameAbove w₂ (with_last w u)
  unfolding with_last
  last-above = same-twice (set-low w₂ 1 (n + 1) (omega arith)) (set-low (set w₂ 1 (n + 1)) 2 u (omega arith))

  pub last-rows : SameRows w (with_last w u)
  last-rows = rows-twice (with_rows w n u size room) (above_rows last-above)

-- ---- with the new row noted, row u

module _ (w : List ℕ) (u x e : ℕ) (size : length w ≡ near_words) (room : u < row_cells) where
  pub row-length : length (with_row w u x e) ≡ near_words
  unfolding with_row
  row-length = length-set (with_relation w (row_place u) e) (heads_from + u) x ∙ stored-length w (row_place u) e ∙ size

  -- the words before those of rows
  pub row_other : (p : ℕ) → p < heads_from → get_or (with_row w u x e) p 0 ≡ get_or w p 0
  unfolding with_row
  row_other p h =
      get_or-set_other (with_relation w (row_place u) e) (heads_from + u) p x 0 (λ z. omega (arith, z, h)) ∙ stored-outside w (row_place u) e p (λ a l z. omega (arith, z, l, h))

  pub row_before : (i : ℕ) → i < u → (row_effect_at (with_row w u x e) i ≡ row_effect_at w i) × (row_head_at (with_row w u x e) i ≡ row_head_at w i)
  unfolding with_row
  row_before i h = (
    set-row (with_relation w (row_place u) e) (heads_from + u) x i (λ a k z. omega (arith, z, k, h, room)) ∙ stored_other w (row_place u) e (row_place i) (λ z. omega (arith, z, h)),
    get_or-set_other (with_relation w (row_place u) e) (heads_from + u) (heads_from + i) x 0 (λ z. omega (arith, z, h)) ∙ stored-outside w (row_place u) e (heads_from + i) (λ a k z. omega (arith, z, k, room, h)),
  )

  pub row_here : e < 2 ^ (states * states) → (row_effect_at (with_row w u x e) u ≡ e) × (row_head_at (with_row w u x e) u ≡ x)
  unfolding with_row
  row_here fits = (
    set-row (with_relation w (row_place u) e) (heads_from + u) x u (λ a k z. omega (arith, z, k, room)) ∙ stored_same w (row_place u) e (omega (arith, size, room)) fits,
    get_or-set_same (with_relation w (row_place u) e) (heads_from + u) x 0 (omega (arith, stored-length w (row_place u) e, size, room)),
  )

  -- the numbers of rows before it
  pub row-numbers : {y n : ℕ} → n ≤ row_cells → Numbers y u n w → Numbers y u n (with_row w u x e)
  row-numbers few =
      numbers-same (λ i l. row_other (numbers_from + i) (omega (arith, l, few))) (λ i l. row_other (keys_from + i) (omega (arith, l, few))) (λ v l. (row_before v l).0) (λ v l. (row_before v l).1)

  pub row-among : {n v : ℕ} → n ≤ row_cells → Among w n v → Among (with_row w u x e) n v
  row-among few a = record { place = a.place; inside = a.inside; is = row_other (numbers_from + a.place) (omega (arith, a.inside, few)) ∙ a.is }

  -- and they can be looked through as before
  pub row-ready : Ready u w → Ready row_cells (with_row w u x e)
  row-ready r =
      let count = row_other 1 (omega arith) in
      record {
        size = row-length;
        limit = omega arith;
        few = omega (arith, count, r.few, room);
        head = r.head;
        numbers = subst (λ (n : ℕ). Numbers r.head row_cells n (with_row w u x e)) (sym count) (numbers-wider (omega (arith, room)) (row-numbers (omega (arith, r.few, room)) r.numbers));
      }

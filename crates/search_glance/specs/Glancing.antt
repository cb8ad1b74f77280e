-- A glance at the candidates of one left row: their effects by the words alone, and which of them are known to be covered. Definitions only. Assumes
-- nothing.
use Rattle.std.specs.Prelude.{◌≡◌, Bool, true, cond, List, ℕ, ◌+◌, ◌≤◌, ◌<◌, ◌⊎◌, ltb, length}
use Rattle.relation.specs.Relation.{states, identity, compose, contained}
use Rattle.relation.specs.Representation.{value, none}
use Rattle.relation.specs.Stored.{relation_in}
use Rattle.spec_language.specs.Grammar.{Symbol, terminal, nonterminal, Body, empty, one, two}
use Rattle.spec_file.specs.Limits.{letter_words}
use Rattle.search_state.specs.Layout.{row_cells, heads, head_cell, lists_from, table_cells, lists_in, end}
use Rattle.search_state.specs.Forming.{entry_at}
use Rattle.search_state.specs.declared.State.{State}
use Rattle.search_order.specs.Lists.{after_in}
use Rattle.search_cover.specs.Near.{near_words, row_effect_at, row_head_at}
use Rattle.search_laws.specs.Problems.{RuleBytes}
use Rattle.search_laws.specs.States.{standing}
use Rattle.search_laws.specs.Steps.{Moves, moved_to}
use Rattle.search_laws.specs.declared.Reached.{Reached}
use Rattle.search_glance.specs.declared.Tried.{Tried}

-- ---- the effects of candidates

-- the effect of row i, which counts as blank where it is none of the u used ones
abbrev pub used_effect : List ℕ → ℕ → ℕ → ℕ
used_effect w u i = cond (ltb i u) (row_effect_at w i) (value none)

-- of a symbol, which is taken by row i
abbrev pub symbol_effect : List ℕ → List ℕ → ℕ → Symbol → ℕ → ℕ
symbol_effect letters w u (terminal c) i = value (relation_in letters c)
symbol_effect letters w u (nonterminal x) i = used_effect w u i

-- of a body, whose symbols are taken by the rows i and k
abbrev pub body_effect : List ℕ → List ℕ → ℕ → Body → ℕ → ℕ → ℕ
body_effect letters w u empty i k = identity states
body_effect letters w u (one a) i k = symbol_effect letters w u a i
body_effect letters w u (two a b) i k = compose states (symbol_effect letters w u a i) (symbol_effect letters w u b k)

-- of the candidate of the state's rule and left row, with the right row k
abbrev pub right_effect : List ℕ → RuleBytes → List ℕ → State → ℕ → ℕ
right_effect letters rules w s k = body_effect letters w s.counts.used (entry_at rules s.place.rule).body s.place.left k

-- of the candidate of the state's place
abbrev pub effect_in : List ℕ → RuleBytes → List ℕ → State → ℕ
effect_in letters rules w s = right_effect letters rules w s s.place.right

-- with the effect e before the row k
abbrev pub after_left : List ℕ → ℕ → ℕ → ℕ → ℕ
after_left w u e k = compose states e (used_effect w u k)

-- ---- the hints

-- one of the u rows is of the nonterminal x, and its effect is contained in e
pub record KnownBelow (w : List ℕ) (u x e : ℕ) : Type 0 where
  pub row : ℕ
  pub used : row < u
  pub head : row_head_at w row ≡ x
  pub below : contained (row_effect_at w row) e ≡ true

-- what the hints say of the effect e: where b, it is known that a row covers it, and n is a cell of theirs
pub record Hints (w : List ℕ) (u x e : ℕ) (b : Bool) (n : ℕ) : Type 0 where
  pub known : b ≡ true → KnownBelow w u x e
  pub slot : (head_cell heads ≤ n) × (n < lists_from)

-- ---- passing candidates

-- a candidate is known to be covered, another right m comes after it, and after n + 1 joins a budget of B leaves one
pub record Leaves (B n : ℕ) (b : Bool) (m : ℕ) : Type 0 where
  pub covers : b ≡ true
  pub more : m ≡ end → ⊥
  pub paid : n + 1 < B

-- the same of the candidate of x with the right row i, where f has the effects by their right rows
pub record GoesPast (w : List ℕ) (s : State) (x : ℕ) (f : ℕ → ℕ) (n i m : ℕ) : Type 0 where
  pub more : m ≡ end → ⊥
  pub paid : n + 1 < s.terms.budget
  pub known : KnownBelow w s.counts.used x (f i)

-- the same left with another right, and n joins
abbrev pub with_right : Reached → ℕ → ℕ → Reached
with_right y n i = moved_to y n y.place.left i

-- the place before it is passed: to the next right, with one join more
abbrev pub GlanceStep : List ℕ → List ℕ → State → ℕ → (ℕ → ℕ) → Reached → Reached → Type 0
GlanceStep t w s x f y r =
    (m : ℕ) × (m ≡ after_in (lists_in t) y.place.right) × GoesPast w s x f y.counts.joins y.place.right m × (r ≡ with_right y (y.counts.joins + 1) m)

-- the state's left row with another right, and n joins
abbrev pub right_at : State → ℕ → ℕ → Reached
right_at s n i = with_right (record { counts = s.counts; place = s.place }) n i

-- where the state stands
abbrev pub stands_at : State → Reached
stands_at s = right_at s s.counts.joins s.place.right

-- some candidates of the state's left row are passed
abbrev pub PassesKnown : List ℕ → List ℕ → State → ℕ → (ℕ → ℕ) → Reached → Type 0
PassesKnown t w s x f r = Moves (GlanceStep t w s x f) (stands_at s) r

-- some are passed up to the right row `right`, where r stands, and a join is left
pub record Passed (t w : List ℕ) (s : State) (x : ℕ) (f : ℕ → ℕ) (r : State) : Type 0 where
  pub joins : ℕ
  pub right : ℕ
  pub passes : PassesKnown t w s x f (right_at s joins right)
  pub paid : joins < s.terms.budget
  pub is : r ≡ standing s s.terms (right_at s joins right).counts (right_at s joins right).place

-- ---- from the candidate of r, whose left row has the effect e

-- what passing asks: m comes after its right row
pub record MayPassFrom (t w : List ℕ) (x e m : ℕ) (r : Tried) : Type 0 where
  pub near : length w ≡ near_words
  pub table : length t ≡ table_cells
  pub used : r.state.counts.used ≤ row_cells
  pub paid : r.state.counts.joins < r.state.terms.budget
  pub next : m ≡ after_in (lists_in t) r.state.place.right
  pub effect : value r.effect ≡ after_left w r.state.counts.used e r.state.place.right
  pub hints : Hints w r.state.counts.used x (value r.effect) r.covers r.slot

-- from the state s to r
pub record PassedFrom (t w : List ℕ) (x e : ℕ) (s : State) (r : Tried) : Type 0 where
  pub passed : Passed t w s x (after_left w s.counts.used e) r.state
  pub effect : value r.effect ≡ after_left w s.counts.used e passed.right
  pub hints : Hints w s.counts.used x (value r.effect) r.covers r.slot

-- ---- a glance

-- r is s, or stands where candidates were passed
abbrev pub Glances : List ℕ → RuleBytes → List ℕ → List ℕ → State → State → Type 0
Glances letters rules t w s r = (r ≡ s) ⊎ Passed t w s (entry_at rules s.place.rule).head (right_effect letters rules w s) r

-- what it asks
pub record MayGlance (letters : List ℕ) (rules : RuleBytes) (t w : List ℕ) (s : State) : Type 0 where
  pub near : length w ≡ near_words
  pub table : length t ≡ table_cells
  pub letters-all : letter_words ≤ length letters
  pub rule : s.place.rule < length rules
  pub used : s.counts.used ≤ row_cells
  pub paid : s.counts.joins < s.terms.budget

-- and what it returns: the candidate where it stands has this effect, and may be known to be covered
pub record Tries (letters : List ℕ) (rules : RuleBytes) (t w : List ℕ) (s : State) (r : Tried) : Type 0 where
  pub glances : Glances letters rules t w s r.state
  pub effect : value r.effect ≡ effect_in letters rules w r.state
  pub known : r.covers ≡ true → KnownBelow w s.counts.used (entry_at rules s.place.rule).head (value r.effect)
  pub slot : (head_cell heads ≤ r.slot) × (r.slot < lists_from)

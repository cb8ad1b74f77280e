-- How much of a pass is left from a place on, by the lists alone: the measure of passing over. Definitions only. Assumes nothing.
use Rattle.std.specs.Prelude.{cond, List, ℕ, zero, suc, ◌+◌, ◌-◌, ◌*◌, ◌≤◌, eqb, length}
use Rattle.search_state.specs.Layout.{row_cells, end}
use Rattle.search_state.specs.declared.Place.{Place}
use Rattle.search_order.specs.Lists.{after_in, ListedAs}
use Rattle.search_order.specs.Places.{PlacesFrom}

-- a pass over n rules has at most this many places: a part of a body has at most as many positions as there are rows
abbrev pub place_limit : ℕ → ℕ
place_limit n = n * (row_cells * row_cells)

-- the positions from i on, counted up to f
unfoldable pub positions_from : ℕ → List ℕ → ℕ → ℕ
positions_from zero lists i = 0
positions_from (suc f) lists i = cond (eqb i end) 0 (suc (positions_from f lists (after_in lists i)))

-- the rules from that of p on, then the left positions after its left, then the right positions after its right: one of the former counts
-- for more than all of the latter
abbrev pub places_left : List ℕ → List (List ℕ) → Place → ℕ
places_left lists rules p =
    let f = place_limit (length rules) in
    ((length rules - p.rule) * suc f + positions_from f lists (after_in lists p.left)) * suc f + positions_from f lists (after_in lists p.right)

-- p is a place of a pass along the lists, or its end
pub record PassFrom (lists : List ℕ) (rules : List (List ℕ)) (p : Place) : Type 0 where
  pub live : ℕ → List ℕ
  pub listed : ListedAs live lists
  pub places : List Place
  pub stands : PlacesFrom live lists rules p places
  pub few : length places ≤ place_limit (length rules)

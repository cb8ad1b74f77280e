-- How far the lists of a pass go over old rows, which are the first b. Definitions only. Assumes nothing.
use Rattle.std.specs.Prelude.{◌≡◌, List, ℕ, zero, suc, ◌≤◌, ◌<◌, length, get_or}
use Rattle.spec_file.specs.Limits.{nonterminals}
use Rattle.search_state.specs.Forming.{Part}
use Rattle.search_state.specs.Layout.{head_cell, list_cells, step_cell, end_cell}
use Rattle.search_order.specs.Lists.{after_in}
use Rattle.search_order.specs.Places.{FirstPosition}
use Rattle.search_spans.specs.declared.Span.{Span}

-- from position i, n steps along its list lead to k, each to an old row
abbrev pub Along : List ℕ → ℕ → ℕ → ℕ → ℕ → Type 0
Along lists b i zero k = k ≡ i
Along lists b i (suc n) k = (j : ℕ) × Along lists b i n j × (k ≡ after_in lists j) × (k < b)

-- if the list of the nonterminal x begins with two old rows, its cells say how far it goes over such rows
abbrev pub MeasuredAt : ℕ → List ℕ → ℕ → Type 0
MeasuredAt b lists x =
    let i = get_or lists (head_cell x) 0 in i < b → after_in lists i < b → Along lists b i (get_or lists (step_cell x) 0) (get_or lists (end_cell x) 0)

abbrev pub Measured : ℕ → List ℕ → Type 0
Measured b lists = (x : ℕ) → x < nonterminals → MeasuredAt b lists x

-- of the first m rows none leads to an old one
abbrev pub NoneLeads : ℕ → ℕ → List ℕ → Type 0
NoneLeads b m lists = (i : ℕ) → i < m → get_or lists i 0 < b → ⊥

-- measuring leaves the lists as they were
pub record Measures (b : ℕ) (old new : List ℕ) : Type 0 where
  pub size : length new ≡ length old
  pub lists : (i : ℕ) → i < list_cells → get_or new i 0 ≡ get_or old i 0
  pub measured : Measured b new

-- measuring the list of the nonterminal x changes no cell but its own two
pub record MeasuresOne (b x : ℕ) (old new : List ℕ) : Type 0 where
  pub size : length new ≡ length old
  pub others : (i : ℕ) → (i ≡ step_cell x → ⊥) → (i ≡ end_cell x → ⊥) → get_or new i 0 ≡ get_or old i 0
  pub measured : MeasuredAt b new x

-- s begins at the first position of a part of a body, and goes over old rows
pub record Spans (b : ℕ) (lists : List ℕ) (p : Part) (s : Span) : Type 0 where
  pub first : FirstPosition lists p s.first
  pub along : Along lists b s.first s.steps s.last
  pub few : s.steps ≤ 4294967295

-- The table while it is filled, row after row from the last one on, each from its shortest stretch on: which stretches are done, and what is
-- known of them. Definitions only. Assumes nothing.
use Rattle.std.specs.Prelude.{◌≡◌, ◌⊎◌, true, List, [], ◌∷◌, ℕ, ◌+◌, ◌≤◌, ◌<◌, length, get_or}
use Rattle.std.proofs.Math.Seq.{slice}
use Rattle.spec_basics.specs.Elements.{In}
use Rattle.relation.specs.Digits.{bit}
use Rattle.spec_language.specs.Grammar.{Symbol, terminal, two, Rule}
use Rattle.spec_language.specs.Spelling.{SpellsSymbol}
use Rattle.spec_file.specs.Limits.{terminals, nonterminals}
use Rattle.spec_calls.specs.Recognizing.{run_limit, cell, stretch_cells}
use Rattle.member_laws.specs.Sets.{is_unit, Heads, DerivesBy, AllDerive, Nullable, Direct, Closures}
use Rattle.member_laws.specs.Spans.{end_cells, span_cells, RightEnds, RightStarts, Exact}

-- what is there before the first cell: the set n of what derives the empty word, and for each nonterminal the closure of its units
pub record Prepared (rules : List Rule) (w : List ℕ) (n : ℕ) (units : List ℕ) : Type 0 where
  pub heads : Heads rules
  pub short : length w ≤ run_limit
  pub letters : (k : ℕ) → k < length w → get_or w k 0 < terminals
  pub null : Nullable rules n
  pub direct : List ℕ
  pub one-step : Direct rules n direct
  pub closures : Closures direct units

-- what the set of a stretch is the closure of: heads of rules that derive it, among them those of the units of its only letter, and of the
-- rules of two symbols that spell it in two parts
pub record BaseOf (rules : List Rule) (w : List ℕ) (n i j base : ℕ) : Type 0 where
  pub sound : AllDerive rules base (slice i j w)
  pub letter : (r : Rule) → In r rules → (c : ℕ) → is_unit n (terminal c) r.body ≡ true → slice i j w ≡ c ∷ [] → bit base r.head ≡ true
  pub pairs : (r : Rule) → In r rules → (s t : Symbol) → r.body ≡ two s t → (k : ℕ) → i < k → k < j
      → SpellsSymbol (DerivesBy rules) s (slice i k w) → SpellsSymbol (DerivesBy rules) t (slice k j w) → bit base r.head ≡ true

-- the stretches that begin after step i are done, and those that begin at step i and end before step j
abbrev pub Done : ℕ → ℕ → ℕ → ℕ → Type 0
Done i j x y = (i < x) ⊎ ((x ≡ i) × (y < j))

-- the stretches that begin at step i or after it
abbrev pub DoneFrom : ℕ → ℕ → ℕ → Type 0
DoneFrom i x y = i ≤ x

module _ (rules : List Rule) (w : List ℕ) where
  -- of the row of step i the stretches that end before step j are known by their ends; step 64 is in no middle
  pub record RowKnown (i j : ℕ) (ends : List ℕ) : Type 0 where
    pub right : RightEnds rules w i ends
    pub full : (p y : ℕ) → p < nonterminals → i < y → y < j → y ≤ length w → y < run_limit → DerivesBy rules p (slice i y w) → bit (get_or ends p 0) y ≡ true

  module _ (D : ℕ → ℕ → Type 0) where
    -- the stretches that are done are known by their starts
    abbrev pub FullStarts : List ℕ → Type 0
    FullStarts starts = (p x y : ℕ) → p < nonterminals → x < y → y ≤ length w → D x y → DerivesBy rules p (slice x y w) → bit (get_or starts (end_cells y + p) 0) x ≡ true

    -- and their cells are written
    pub record Filled (starts table : List ℕ) : Type 0 where
      pub right : RightStarts rules w starts
      pub full : FullStarts starts
      pub room : length starts ≡ span_cells
      pub size : length table ≡ stretch_cells
      pub exact : (x y : ℕ) → x ≤ y → y ≤ length w → D x y → Exact rules w x y (get_or table (cell x y) 0)
      pub past : (x y : ℕ) → x ≤ y → length w < y → y ≤ run_limit → get_or table (cell x y) 0 ≡ 0

-- The candidates of a pass, place by place, whatever an effect is: A are the rows that the pass began with, and `unread` stands where there
-- is no row. Definitions only. Assumes nothing.
use Rattle.std.specs.Prelude.{◌≡◌, List, [], ◌∷◌, map, ℕ, ◌<◌, length, get_or}
use Rattle.spec_order.specs.Candidates.{Candidate}
use Rattle.spec_order.specs.Journal.{Row}
use Rattle.search_state.specs.Forming.{Composing, entry_at, formed_by}
use Rattle.search_state.specs.declared.Place.{Place}
use Rattle.search_order.specs.Lists.{live_numbers}
use Rattle.search_order.specs.Places.{Ahead}

module _ {E : Type 0} (F : Composing E) (unread : Row E) (A : List (Row E)) (rules : List (List ℕ)) where
  -- the candidate of a place
  abbrev pub candidate_at : Place → Candidate E
  candidate_at p = formed_by F (entry_at rules p.rule) p (get_or A p.left unread) (get_or A p.right unread)

  -- the candidates left are these, the first of them that of the place
  abbrev pub LeftFrom : List ℕ → Place → List (Candidate E) → Type 0
  LeftFrom lists p [] = p.rule < length rules → ⊥
  LeftFrom lists p (c ∷ cs) = (p.rule < length rules) × (c ≡ candidate_at p) × (ps : List Place) × Ahead (live_numbers 0 A) lists rules p ps × (cs ≡ map candidate_at ps)

-- The states that a step leaves. Definitions only. Assumes nothing.
use Rattle.std.specs.Prelude.{Bool, true, false, List, ℕ, ltb}
use Rattle.spec_basics.specs.Elements.{each}
use Rattle.spec_calls.specs.Base.{members_of}
use Rattle.search_state.specs.declared.Place.{Place}
use Rattle.search_state.specs.Budgets.{is_spent}
use Rattle.search_state.specs.Positions.{position_row}
use Rattle.search_state.specs.declared.Counts.{Counts}
use Rattle.search_state.specs.declared.Phase.TheVariants as phase
use Rattle.search_state.specs.declared.Phase.{Phase}
use Rattle.search_state.specs.declared.State.{State}
use Rattle.search_state.specs.declared.Terms.{Terms}
use Rattle.search_state.specs.declared.Unbroken.TheVariants as unbroken
use Rattle.search_links.specs.Covers.{is_linked}
use Rattle.search_laws.specs.Meanings.{finished_by}
use Rattle.search_laws.specs.declared.Reached.{Reached}
use Rattle.search_laws.specs.declared.Stop.TheVariants as stop
use Rattle.search_laws.specs.declared.Stop.{Stop}

-- how far a search is that ends: with the verdict that is handed in, and as one that is spent where that is none
abbrev pub ending : Phase → Phase
ending phase.Going = phase.Ended unbroken.Spent
ending phase.Waiting = phase.Ended unbroken.Spent
ending (phase.Ended v) = phase.Ended v
ending (phase.Broken i) = phase.Broken i

abbrev pub ended : State → Terms → Counts → Phase → State
ended s t w g = record { phase = ending g; left_row = 0; right_row = 0; terms = t; counts = w; place = s.place; rows = s.rows; rules = s.rules }

abbrev pub standing_by : Bool → State → Terms → Counts → Place → State
standing_by true s t w p = ended s t w (phase.Ended unbroken.Spent)
standing_by false s t w p =
    record {
      phase = phase.Going;
      left_row = position_row p.left w.used;
      right_row = position_row p.right w.used;
      terms = t;
      counts = w;
      place = p;
      rows = s.rows;
      rules = s.rules;
    }

-- at a place, if the budget is not spent
abbrev pub standing : State → Terms → Counts → Place → State
standing s t w p = standing_by (is_spent t.budget w.joins) s t w p

-- the table has a row in the list of each of these nonterminals
abbrev pub each_linked : List ℕ → List ℕ → Bool
each_linked table ps = each (λ p. is_linked p table) ps

-- of each nonterminal of the set
abbrev pub all_linked : ℕ → List ℕ → Bool
all_linked starts table = each_linked table (members_of starts)

-- after a pass that has added no row: what the working order's `finish` says, where the flag is whether each nonterminal whose words count has
-- a live row
abbrev pub finished : State → Terms → Counts → Bool → State
finished s t w nonempty = ended s t w (phase.Ended (finished_by nonempty))

abbrev pub opening_by : Bool → State → Terms → Reached → Bool → State
opening_by true s t x nonempty = standing s t x.counts x.place
opening_by false s t x nonempty = finished s t x.counts nonempty

-- at a place of a pass that has added no row, or at its end
abbrev pub opening : State → Terms → Reached → Bool → State
opening s t x nonempty = opening_by (ltb x.place.rule s.rules) s t x nonempty

abbrev pub stopped_in : State → Stop → State
stopped_in s (stop.Ended v w) = ended s s.terms w (phase.Ended v)
stopped_in s (stop.Broken i w) = ended s s.terms w (phase.Broken i)

-- What becomes of a candidate, by what is known of its effect. Definitions only. Assumes nothing.
use Rattle.std.specs.Prelude.{Bool, ℕ, eqb}
use Rattle.search_state.specs.declared.Fate.{Fate}
use Rattle.search_state.specs.declared.State.{State}

-- the journal has no row left
abbrev pub full_in : State → Bool
full_in s = eqb s.counts.used s.rows

-- for a candidate of the nonterminal x, where a row covers it or not, and it breaks or not
abbrev pub fate_in : State → ℕ → Bool → Bool → Fate
fate_in s x covered breaks = record { head = x; covered = covered; full = full_in s; breaks = breaks }

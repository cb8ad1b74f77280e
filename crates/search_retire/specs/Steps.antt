-- What each step of retiring rows returns, and what it makes of the links, as the code has it: no effect is named. Here t is the table and
-- u the rows used. Definitions only. Assumes nothing.
use Rattle.std.specs.Prelude.{Bool, true, false, ◌||◌, cond, List, ℕ, ltb, get_or, set}
use Rattle.std.specs.declared.option.Option.{Option}
use Rattle.std.specs.declared.option.Option.TheVariants.{None, Some}
use Rattle.search_state.specs.declared.Fate.{Fate}
use Rattle.search_state.specs.Layout.{head_cell, end}
use Rattle.search_cover.specs.declared.CoverAnswer.{CoverAnswer}
use Rattle.search_retire.specs.declared.RetireCursor.{RetireCursor}

abbrev pub retire_by : Bool → ℕ → ℕ → ℕ → RetireCursor
retire_by true u v cell = record { new = false; row = v; cell = cell }
retire_by false u v cell = record { new = true; row = u; cell = cell }

-- at the linked row v, or past the last one at the new row
abbrev pub retire_from : ℕ → ℕ → ℕ → RetireCursor
retire_from u v cell = retire_by (ltb v u) u v cell

-- the beginning, where looking for a cover ended in l, if anything is to be done
abbrev pub begun : List ℕ → ℕ → Fate → CoverAnswer → Option RetireCursor
begun t u f l =
    cond (f.covered || f.full) None
    (Some (cond l.larger (retire_from u (get_or t (head_cell f.head) 0) (head_cell f.head)) (retire_from u end l.cell)))

-- after the row at the cursor was replaced, which was larger or not: nothing is left after the new row
abbrev pub stepped : List ℕ → ℕ → RetireCursor → Bool → Option RetireCursor
stepped t u r larger = cond r.new None (Some (cond larger (retire_from u (get_or t r.row 0) r.cell) (retire_from u (get_or t r.row 0) r.row)))

-- and the table then: the new row is linked last, a row that retired is linked no more
abbrev pub links_after : List ℕ → ℕ → RetireCursor → Bool → List ℕ
links_after t u r larger = cond r.new (set (set t u end) r.cell u) (cond larger (set t r.cell (get_or t r.row 0)) t)

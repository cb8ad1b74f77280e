-- Rows of the lent journal and options as the code holds them, read as the definitions have them. Definitions only. Assumes nothing.
use Rattle.std.specs.Prelude.{List, ℕ}
use Rattle.relation.specs.Representation.{value, none}
use Rattle.spec_order.specs.Journal.{Row}
use Rattle.spec_calls.specs.Checking.{Settings}
use Rattle.spec_calls.specs.declared.Options.{Options}
use Rattle.spec_calls.specs.declared.Row.{Row as LentRow}

-- the lent journal
abbrev pub Journal : Type 0
Journal = List LentRow

-- a row of it, as the working order has it
abbrev pub row_of : LentRow → Row ℕ
row_of r =
    record { head = r.head; rule = r.rule; effect = value r.relation; left = r.left; right = r.right; len = r.len; birth = r.birth; retired = r.retired }

-- a row of zeros: what is read past the end of a journal
abbrev pub blank : LentRow
blank = record { head = 0; rule = 0; relation = none; left = 0; right = 0; len = 0; birth = 0; retired = 0 }

-- the settings of a check with the options o over a journal of J rows
abbrev pub settings_of : ℕ → Options → Settings
settings_of J o = record { rows = J; budget = o.budget; starts = o.starts }

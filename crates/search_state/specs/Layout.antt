-- The layout of the table, as src/lib.rt draws it: three numbers are given here, and the others come from them and the procedures. Definitions only. Assumes nothing.
use Rattle.std.specs.Prelude.{List, ℕ, ◌+◌, drop}
use Rattle.spec_file.specs.Limits.{nonterminals}

-- the links of rows
abbrev pub row_cells : ℕ
row_cells = 4096

-- nonterminals, each with its first row and with the row that covered last
abbrev pub heads : ℕ
heads = 256

-- the hints by nonterminal and effect
abbrev pub slot_cells : ℕ
slot_cells = 36864

-- the cell of the nonterminal x, with its first row
abbrev pub head_cell : ℕ → ℕ
head_cell x = row_cells + x

-- a list of the pass has the cells of rows and of nonterminals
abbrev pub list_cells : ℕ
list_cells = head_cell heads

-- the first cell of the hints by effect
abbrev pub slots_from : ℕ
slots_from = head_cell heads + heads

-- the first cell of the lists
abbrev pub lists_from : ℕ
lists_from = slots_from + slot_cells

-- behind the lists, the cells of the nonterminal x: how many steps lead from its first row over old ones, and the row where they end
abbrev pub step_cell : ℕ → ℕ
step_cell x = list_cells + x

abbrev pub end_cell : ℕ → ℕ
end_cell x = step_cell nonterminals + x

-- the lists, with these
abbrev pub span_cells : ℕ
span_cells = end_cell nonterminals

abbrev pub table_cells : ℕ
table_cells = lists_from + span_cells

abbrev pub lists_in : List ℕ → List ℕ
lists_in table = drop lists_from table

-- no position is left
abbrev pub end : ℕ
end = 65536

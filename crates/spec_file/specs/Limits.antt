-- The numbers of document 01 on files. Definitions only. Assumes nothing.
use Rattle.std.specs.Prelude.{ℕ, ◌*◌}
use Rattle.relation.specs.Representation.{relation_words}

-- records of the file
abbrev pub record_limit : ℕ
record_limit = 1296

-- rules of the plan
abbrev pub rule_limit : ℕ
rule_limit = 256

-- transitions (document 01: moves)
abbrev pub transition_limit : ℕ
transition_limit = 1024

-- step codes are below this
abbrev pub terminals : ℕ
terminals = 128

-- procedures are below this
abbrev pub nonterminals : ℕ
nonterminals = 64

-- symbols, terminals first, are below this
abbrev pub symbol_bytes : ℕ
symbol_bytes = 192

-- words in the table of the terminals' relations
abbrev pub letter_words : ℕ
letter_words = terminals * relation_words

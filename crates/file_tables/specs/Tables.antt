-- The tables that are read from a file: the relations of the terminals, the mask of final states, the rows of the rules.
-- Definitions only. Assumes nothing.
use Rattle.std.specs.Prelude.{◌≡◌, ◌&&◌, ◌||◌, cond, List, [], ◌∷◌, ◌++◌, map, ℕ, ◌+◌, eqb, leb, ltb, length, take, drop, set}
use Rattle.relation.specs.Digits.{bit, number}
use Rattle.relation.specs.Relation.{identity, insert}
use Rattle.relation.specs.Representation.{value}
use Rattle.relation.specs.Stored.{relation_in, with_relation, relations_of}
use Rattle.spec_language.specs.Remarks.{first_remark, is_remark}
use Rattle.spec_language.specs.Automaton.{Transition}
use Rattle.spec_language.specs.WordRelation.{letter_relation}
use Rattle.spec_file.specs.Limits.{terminals, rule_limit}
use Rattle.spec_file.specs.Records.{record_count, byte, rule_kind}
use Rattle.spec_file.specs.Views.{collect, rules_of}
use Rattle.spec_file.specs.Entries.{entry_of}

-- ---- the relations of the terminals (document 01: the effects of the step codes)

-- on n states, in the order of the terminals
unfoldable pub letter_table : ℕ → List Transition → List ℕ
letter_table n ts = relations_of (letter_relation n ts) terminals

-- the first relations of the table without transitions: the remarks below `c` have every (a, a), and nothing else has a pair
abbrev pub remarks_below : ℕ → ℕ → ℕ → ℕ
remarks_below n c j = cond (is_remark j && ltb j c) (identity n) 0

-- with one transition more; the same table where its letter is a remark, or no terminal
abbrev pub with_transition : ℕ → List ℕ → Transition → List ℕ
with_transition n table t =
    cond (leb first_remark t.letter) table (with_relation table t.letter (insert n (value (relation_in table t.letter)) t.source t.target))

-- ---- the mask of final states (document 01: finishing stages)

-- with one state more; the same mask where it is none of the n
unfoldable pub with_state : ℕ → ℕ → ℕ → ℕ
with_state n mask f = number n (λ s. bit mask s || eqb f s)

-- ---- the rows of the rules

-- head, body length, first and second symbol, as the record has them
abbrev pub rule_bytes_in : List ℕ → List ℕ
rule_bytes_in r = byte r 1 ∷ byte r 2 ∷ byte r 3 ∷ byte r 4 ∷ []

-- of all rules, in file order
unfoldable pub rows_of : List ℕ → List (List ℕ)
rows_of bs = collect rule_kind rule_bytes_in bs (record_count bs) 0

-- a table of rows, of which so many are written
pub record Rows : Type 0 where
  pub table : List (List ℕ)
  pub count : ℕ

abbrev pub rows_in : List (List ℕ) → ℕ → Rows
rows_in t n = record { table = t; count = n }

-- with one row more, where fewer than the limit are written
abbrev pub with_row : Rows → List ℕ → Rows
with_row s x = cond (ltb s.count rule_limit) (rows_in (set s.table s.count x) (s.count + 1)) s

-- the rows of a list up to the limit, over a table
unfoldable pub written : List (List ℕ) → List (List ℕ) → Rows
written t xs = rows_in (take rule_limit xs ++ drop (length (take rule_limit xs)) t) (length (take rule_limit xs))

-- the first rules up to the limit are the first rows, and the other rows are as before
pub record RuleTable (bs : List ℕ) (before after : List (List ℕ)) (n : ℕ) : Type 0 where
  pub count : n ≡ length (take rule_limit (rules_of bs))
  pub rules : map entry_of (take n after) ≡ take rule_limit (rules_of bs)
  pub rows : take n after ≡ take rule_limit (rows_of bs)
  pub rest : drop n after ≡ drop n before
  pub size : length after ≡ rule_limit

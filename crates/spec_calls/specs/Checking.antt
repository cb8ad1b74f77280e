-- What the inclusion check answers on a file, and what the lent journal holds afterwards (document 01, "Working order").
-- Definitions only. Assumes nothing.
use Rattle.std.specs.Prelude.{◌||◌, cond, List, [], ◌∷◌, ◌++◌, map, ℕ, eqb, ltb, get_or, drop}
use Rattle.relation.specs.Relation.{states}
use Rattle.spec_file.specs.Refusals.{Refusal, refuse, fault}
use Rattle.spec_file.specs.Views.{rules_of, automaton_of}
use Rattle.spec_order.specs.Algebra.{Algebra}
use Rattle.spec_order.specs.Journal.{Row}
use Rattle.spec_order.specs.Order.{Answer, check}
use Rattle.spec_order.specs.Behind.{word_behind}
use Rattle.spec_calls.specs.Base.{members_of, base, words}
use Rattle.spec_calls.specs.Replies.{Reply, refused, answered, reply}

-- rows of a journal at most
abbrev pub journal_limit : ℕ
journal_limit = 4096

-- what a check is given beside the file: the number of rows of the lent journal, the joins that it may make, and the set of the nonterminals
-- whose words count
pub record Settings : Type 0 where
  pub rows : ℕ
  pub budget : ℕ
  pub starts : ℕ

-- 8: the journal has no row or too many
unfoldable pub journal_fault : ℕ → ℕ
journal_fault J = cond (eqb J 0 || ltb journal_limit J) 8 0

-- what the working order compares, where an automaton has n states
abbrev pub algebra_over : ℕ → List ℕ → Settings → Algebra ℕ
algebra_over n bs g = base n (members_of g.starts) (automaton_of bs)

-- the working order on the file
abbrev pub order_over : ℕ → List ℕ → Settings → Answer ℕ
order_over n bs g = check (algebra_over n bs g) (rules_of bs) g.rows g.budget

-- with today's states
unfoldable pub order_on : List ℕ → Settings → Answer ℕ
order_on bs g = order_over states bs g

-- what may refuse a check, in its order: the file's refusal, then 8
abbrev pub check_refusals : List ℕ → ℕ → List Refusal
check_refusals bs J = fault bs ∷ refuse (journal_fault J) 0 ∷ []

-- the first of them, and else the answer
unfoldable pub check_of : List ℕ → Settings → Reply (Answer ℕ)
check_of bs g = let a = order_on bs g in reply (check_refusals bs g.rows) a

-- the used rows, and then the old contents; the old contents whole on a refusal
abbrev pub kept_by : List (Row ℕ) → Reply (Answer ℕ) → List (Row ℕ)
kept_by old (refused r) = old
kept_by old (answered a) = a.journal ++ drop a.used old

-- the journal after the check, which held the rows `old` before
unfoldable pub journal_after : List ℕ → Settings → List (Row ℕ) → List (Row ℕ)
journal_after bs g old = kept_by old (check_of bs g)

-- the word that a broken answer shows: the one behind its row
unfoldable pub shown : List ℕ → Answer ℕ → List ℕ
shown bs a = word_behind words (rules_of bs) a.journal a.row

-- and the nonterminal of that row, which derives the word
abbrev pub shown_head : Answer ℕ → ℕ
shown_head a = get_or (map (λ (r : Row ℕ). r.head) a.journal) a.row 0

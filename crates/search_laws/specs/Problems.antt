-- What a search works on, whatever an effect is, and what that stands for in the working order. Definitions only. Assumes nothing.
use Rattle.std.specs.Prelude.{Bool, List, map, ℕ}
use Rattle.spec_language.specs.Grammar.{Rule}
use Rattle.spec_order.specs.Algebra.{Algebra}
use Rattle.spec_order.specs.Journal.{Row}
use Rattle.spec_calls.specs.Base.{members_of}
use Rattle.spec_file.specs.Entries.{entry_of}
use Rattle.search_state.specs.Forming.{Composing, forms_from}
use Rattle.search_state.specs.declared.Terms.{Terms}
use Rattle.search_links.specs.Rows.{rows_read}

-- the four bytes of each rule
abbrev pub RuleBytes : Type 0
RuleBytes = List (List ℕ)

-- of effects E, in a journal of rows R. `composing` says what bodies form, `below` which effects are contained in which, `starts` is the set of
-- the nonterminals whose words count, and `breaks` says which new rows break the check. `row_of` reads a row of the journal, and `blank` stands
-- past its end. `finals` is the number by which the terms of a search know what breaks: the laws only say that it stays
pub record Problem (E R : Type 0) : Type 0 where
  pub composing : Composing E
  pub below : E → E → Bool
  pub starts : ℕ
  pub breaks : ℕ → E → Bool
  pub row_of : R → Row E
  pub blank : R
  pub rules : RuleBytes
  pub finals : ℕ

module _ {E R : Type 0} (P : Problem E R) where
  -- ---- what it stands for

  abbrev pub algebra_of : Algebra E
  algebra_of = record { forms = forms_from P.composing; below = P.below; starts = members_of P.starts; breaks = P.breaks }

  abbrev pub rules_in : List Rule
  rules_in = map entry_of P.rules

  -- the first u rows of the journal
  abbrev pub first_rows : ℕ → List R → List (Row E)
  first_rows = rows_read P.row_of

  -- a row that is never read
  abbrev pub unread : Row E
  unread = P.row_of P.blank

  -- ---- where the code holds it

  -- the same problem with other rules
  abbrev pub with_rules : RuleBytes → Problem E R
  with_rules rules = record { composing = P.composing; below = P.below; starts = P.starts; breaks = P.breaks; row_of = P.row_of; blank = P.blank; rules = rules; finals = P.finals }

  -- the terms of a search on it in pass k, which began with u rows, after one that began with n, where B joins may be made
  abbrev pub terms_of : ℕ → ℕ → ℕ → ℕ → Terms
  terms_of B k u n = record { budget = B; starts = P.starts; finals = P.finals; pass = k; present = u; old = n }

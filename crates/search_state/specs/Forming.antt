-- A candidate formed at one place of a pass, from the rule and the two rows of that place, whatever an effect is. Definitions only. Assumes
-- nothing.
use Rattle.std.specs.Prelude.{cond, List, [], ◌∷◌, ℕ, ltb, get_or}
use Rattle.spec_language.specs.Grammar.{Symbol, terminal, nonterminal, Body, empty, one, two, Rule}
use Rattle.spec_file.specs.Entries.{entry_of}
use Rattle.spec_order.specs.Algebra.{Forms}
use Rattle.spec_order.specs.Candidates.{Choice, Candidate, bare, sole, paired}
use Rattle.spec_order.specs.Journal.{Row, absent}
use Rattle.search_state.specs.declared.Place.{Place}
use Rattle.search_state.specs.declared.State.{State}

-- ---- the parts of a body

-- the two parts of a body; a part without a symbol is taken in one way, which nothing reads
pub data Part : Type 0 where
  none : Part
  some : Symbol → Part

abbrev pub left_part : Body → Part
left_part empty = none
left_part (one s) = some s
left_part (two s t) = some s

abbrev pub right_part : Body → Part
right_part empty = none
right_part (one s) = none
right_part (two s t) = some t

-- rule r of the table
abbrev pub entry_at : List (List ℕ) → ℕ → Rule
entry_at rules r = entry_of (get_or rules r [])

-- ---- what they form

-- the effects of a search that has one place for each pair of rows: two symbols form one effect
pub record Composing (E : Type 0) : Type 0 where
  pub of_empty : E
  pub of_terminal : ℕ → E
  pub compose : E → E → E

module _ {E : Type 0} where
  -- as the working order has them
  abbrev pub forms_from : Composing E → Forms E
  forms_from F = record { of_empty = F.of_empty; of_terminal = F.of_terminal; of_pair = λ x y. F.compose x y ∷ [] }

  -- row i as a choice
  abbrev pub row_choice : ℕ → Row E → Choice E
  row_choice i r = record { effect = r.effect; pointer = i; len = r.len }

module _ {E : Type 0} (F : Composing E) where
  -- a terminal is taken by its effect, a nonterminal by row i
  abbrev pub symbol_choice : Symbol → ℕ → Row E → Choice E
  symbol_choice (terminal c) i r = record { effect = F.of_terminal c; pointer = absent; len = 1 }
  symbol_choice (nonterminal x) i r = row_choice i r

  abbrev pub no_choice : Choice E
  no_choice = record { effect = F.of_empty; pointer = absent; len = 0 }

  abbrev pub part_choice : Part → ℕ → Row E → Choice E
  part_choice none i r = no_choice
  part_choice (some s) i r = symbol_choice s i r

  -- of a body of two symbols: their effects are composed
  abbrev pub joined : ℕ → ℕ → Choice E → Choice E → Candidate E
  joined x r c d = paired x r c d (F.compose c.effect d.effect)

  -- in rule r of the nonterminal x, with a choice for each part of the body
  abbrev pub combined : ℕ → ℕ → Body → Choice E → Choice E → Candidate E
  combined x r empty c d = bare (forms_from F) x r
  combined x r (one s) c d = sole x r c
  combined x r (two s t) c d = joined x r c d

  -- at a place, whose rule is x and whose rows are these
  abbrev pub formed_by : Rule → Place → Row E → Row E → Candidate E
  formed_by x p left right =
      combined x.head p.rule x.body (part_choice (left_part x.body) p.left left) (part_choice (right_part x.body) p.right right)

-- ---- from rows of a journal, as the code has them: `row_of` reads one, and `blank` stands where there is none

-- the row r at position i, if that is one of the first n
abbrev pub among_first : {R : Type 0} → R → R → ℕ → ℕ → R
among_first blank r i n = cond (ltb i n) r blank

-- the candidate of the place of s in the rule x, from the used rows
abbrev pub formed_from : {E R : Type 0} → Composing E → (R → Row E) → R → Rule → State → R → R → Candidate E
formed_from F row_of blank x s left right =
    formed_by F x s.place (row_of (among_first blank left s.place.left s.counts.used)) (row_of (among_first blank right s.place.right s.counts.used))

-- The counts of the kinds; a record read as a rule, as a transition or as a final state, whatever its kind.
-- Definitions only. Assumes nothing.
use Rattle.std.specs.Prelude.{cond, List, [], ◌∷◌, ℕ, leb, get_or}
use Rattle.spec_language.specs.Grammar.{Rule as GrammarRule}
use Rattle.spec_language.specs.Automaton.{Transition as AutomatonTransition}
use Rattle.spec_file.specs.declared.Rule.{Rule}
use Rattle.spec_file.specs.declared.Transition.{Transition}
use Rattle.spec_file.specs.Records.{record_count, record_at, byte, rule_kind, transition_kind, final_kind, count_of}
use Rattle.spec_file.specs.Views.{body_of, final_of}

-- ---- how many there are, of the whole records

abbrev pub rule_count : List ℕ → ℕ
rule_count bs = count_of bs rule_kind (record_count bs)

abbrev pub transition_count : List ℕ → ℕ
transition_count bs = count_of bs transition_kind (record_count bs)

abbrev pub final_count : List ℕ → ℕ
final_count bs = count_of bs final_kind (record_count bs)

-- ---- from bytes to the code's structs

abbrev pub rule_in : List ℕ → Rule
rule_in r = record { head = byte r 1; size = byte r 2; first = byte r 3; second = byte r 4 }

abbrev pub transition_in : List ℕ → Transition
transition_in r = record { source = byte r 1; letter = byte r 2; target = byte r 3 }

-- the bytes of record i, zeros past the last whole record
unfoldable pub whole_record : List ℕ → ℕ → List ℕ
whole_record bs i = cond (leb (record_count bs) i) (0 ∷ 0 ∷ 0 ∷ 0 ∷ 0 ∷ 0 ∷ 0 ∷ 0 ∷ []) (record_at bs i)

abbrev pub rule_at : List ℕ → ℕ → Rule
rule_at bs i = rule_in (whole_record bs i)

abbrev pub transition_at : List ℕ → ℕ → Transition
transition_at bs i = transition_in (whole_record bs i)

abbrev pub final_at : List ℕ → ℕ → ℕ
final_at bs i = final_of (whole_record bs i)

-- ---- from the code's structs to the grammar and the automaton

abbrev pub grammar_rule : Rule → GrammarRule
grammar_rule r = record { head = r.head; body = body_of r.size r.first r.second }

abbrev pub automaton_transition : Transition → AutomatonTransition
automaton_transition t = record { source = t.source; letter = t.letter; target = t.target }

-- ---- from the table of rules to the grammar

-- a rule as four numbers: its head, its body's length, the bytes of its two symbols
abbrev pub entry_of : List ℕ → GrammarRule
entry_of xs = record { head = get_or xs 0 0; body = body_of (get_or xs 1 0) (get_or xs 2 0) (get_or xs 3 0) }

-- What a file holds: the rules of its grammar, and its automaton (document 01: plan and order sheet). Definitions only. Assumes nothing.
use Rattle.std.specs.Prelude.{Bool, true, false, List, [], ◌∷◌, map, ℕ, zero, suc, ◌-◌, eqb, ltb}
use Rattle.spec_language.specs.Grammar.{Symbol, terminal, nonterminal, Body, empty, one, two, Rule, Production, production_of}
use Rattle.spec_language.specs.Automaton.{Transition, Automaton}
use Rattle.spec_file.specs.Limits.{terminals}
use Rattle.spec_file.specs.Records.{record_count, record_at, byte, kind_at, rule_kind, transition_kind, final_kind}

-- a symbol's byte: terminals first, then nonterminals
abbrev pub symbol_by : Bool → ℕ → Symbol
symbol_by true b = terminal b
symbol_by false b = nonterminal (b - terminals)

abbrev pub symbol_of : ℕ → Symbol
symbol_of b = symbol_by (ltb b terminals) b

abbrev pub body_by : Bool → Bool → ℕ → ℕ → Body
body_by true o a b = empty
body_by false true a b = one (symbol_of a)
body_by false false a b = two (symbol_of a) (symbol_of b)

-- a body of n symbols, from their bytes
abbrev pub body_of : ℕ → ℕ → ℕ → Body
body_of n a b = body_by (eqb n 0) (eqb n 1) a b

abbrev pub rule_of : List ℕ → Rule
rule_of r = record { head = byte r 1; body = body_of (byte r 2) (byte r 3) (byte r 4) }

abbrev pub transition_of : List ℕ → Transition
transition_of r = record { source = byte r 1; letter = byte r 2; target = byte r 3 }

abbrev pub final_of : List ℕ → ℕ
final_of r = byte r 1

abbrev pub cons_if : {A : Type 0} → Bool → A → List A → List A
cons_if true x xs = x ∷ xs
cons_if false x xs = xs

-- the records of kind k, of m records from i on, each as g reads it, in file order
unfoldable pub collect : {A : Type 0} → ℕ → (List ℕ → A) → List ℕ → ℕ → ℕ → List A
collect k g bs zero i = []
collect k g bs (suc m) i = cons_if (eqb (kind_at bs i) k) (g (record_at bs i)) (collect k g bs m (suc i))

unfoldable pub rules_of : List ℕ → List Rule
rules_of bs = collect rule_kind rule_of bs (record_count bs) 0

-- the same rules as document 000 has them: what the file derives is said of these
abbrev pub productions_of : List ℕ → List Production
productions_of bs = map production_of (rules_of bs)

unfoldable pub transitions_of : List ℕ → List Transition
transitions_of bs = collect transition_kind transition_of bs (record_count bs) 0

unfoldable pub finals_of : List ℕ → List ℕ
finals_of bs = collect final_kind final_of bs (record_count bs) 0

abbrev pub automaton_of : List ℕ → Automaton
automaton_of bs = record { transitions = transitions_of bs; finals = finals_of bs }

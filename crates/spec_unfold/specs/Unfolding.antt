-- What a file of 16-byte records says, and the 8-byte file that it unfolds to (document 02, C-17). Definitions only. Assumes nothing.
use Rattle.std.specs.Prelude.{Bool, not, ◌||◌, cond, List, [], ◌∷◌, ◌++◌, map, ℕ, zero, suc, ◌+◌, ◌-◌, eqb, ltb, length, replicate}
use Rattle.relation.specs.Digits.{bit}
use Rattle.spec_language.specs.Grammar.{Production}
use Rattle.spec_language.specs.Automaton.{Automaton}
use Rattle.spec_file.specs.Limits.{rule_limit, terminals, nonterminals}
use Rattle.spec_file.specs.Records.{byte, rule_kind, transition_kind, final_kind}
use Rattle.spec_file.specs.Views.{symbol_of, transition_of, final_of, cons_if}
use Rattle.spec_records.specs.Blocks.{bytes_of, records_of}
use Rattle.spec_records.specs.OnRecords.{body_in, precedes}
use Rattle.spec_unfold.specs.Chains.{RuleOver, chains_in, unfolded, first_free}
use Rattle.spec_unfold.specs.Sorting.{sort}
use Rattle.spec_unfold.specs.Moving.{narrower}

-- the records that pass a test, in file order
abbrev pub keep : (List ℕ → Bool) → List (List ℕ) → List (List ℕ)
keep f [] = []
keep f (r ∷ rs) = cons_if (f r) r (keep f rs)

abbrev pub has_kind : ℕ → List ℕ → Bool
has_kind k r = eqb (byte r 0) k

-- ---- what a file of 16-byte records says

-- the rule of a record, its symbols as bytes
abbrev pub byte_rule : List ℕ → RuleOver ℕ
byte_rule r = record { head = byte r 1; body = body_in r }

-- the rules among records, in file order
abbrev pub byte_rules : List (List ℕ) → List (RuleOver ℕ)
byte_rules rs = map byte_rule (keep (has_kind rule_kind) rs)

-- a rule as document 000 has it
abbrev pub spelled : RuleOver ℕ → Production
spelled p = record { head = p.head; symbols = map symbol_of p.body }

-- the rules of the file, as document 000 has them: what the file derives is said of these
unfoldable pub wide_productions_of : List ℕ → List Production
wide_productions_of bs = map spelled (byte_rules (records_of 16 bs))

unfoldable pub wide_automaton_of : List ℕ → Automaton
wide_automaton_of bs = record { transitions = map transition_of (keep (has_kind transition_kind) (records_of 16 bs)); finals = map final_of (keep (has_kind final_kind) (records_of 16 bs)) }

-- ---- what it unfolds to

-- the byte of a procedure as a symbol
abbrev pub call_byte : ℕ → ℕ
call_byte x = terminals + x

-- the first number above a symbol's procedure
abbrev pub above_byte : ℕ → ℕ
above_byte b = cond (ltb b terminals) 0 (suc (b - terminals))

-- one above the highest nonterminal of the set that is below m; 0 where there is none
unfoldable pub above_members : ℕ → ℕ → ℕ
above_members set zero = 0
above_members set (suc p) = cond (bit set p) (suc p) (above_members set p)

-- C-18: "Members count as in use when chain procedures are numbered": none of these is below this number
abbrev pub least_for : ℕ → ℕ
least_for set = above_members set nonterminals

-- the number of the first chain procedure: "numbered above the highest procedure in use as head or symbol", and not below `least`
abbrev pub first_chain : ℕ → List (RuleOver ℕ) → ℕ
first_chain least ps = first_free above_byte least ps

-- the rules that the rules of a file unfold to, in the order of their numbering
abbrev pub chained_rules : ℕ → List (RuleOver ℕ) → List (RuleOver ℕ)
chained_rules least ps = unfolded call_byte (first_chain least ps) ps

-- the eight bytes of a rule of at most two symbols
abbrev pub rule_bytes : RuleOver ℕ → List ℕ
rule_bytes p = rule_kind ∷ p.head ∷ length p.body ∷ p.body ++ replicate (5 - length p.body) 0

-- "the resulting rules are put in file order, in an eight-byte file with the same moves and finishing stages"
abbrev pub unfolded_records : ℕ → List (List ℕ) → List (List ℕ)
unfolded_records least rs = sort precedes (map rule_bytes (chained_rules least (byte_rules rs))) ++ map narrower (keep (λ r. not (has_kind rule_kind r)) rs)

unfoldable pub unfolded_file : ℕ → List ℕ → List ℕ
unfolded_file least bs = bytes_of (unfolded_records least (records_of 16 bs))

-- 18: "an unfolding that needs procedure 64 or a 257th rule". Where there is no chain procedure, first_chain is at most 64
unfoldable pub too_many : ℕ → List (RuleOver ℕ) → Bool
too_many least ps = ltb nonterminals (first_chain least ps + chains_in ps) || ltb rule_limit (length ps + chains_in ps)

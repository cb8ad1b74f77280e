-- The body of a rule, and the order of records. And what refuses a file of any form, said of the list of its records: the working form of
-- the proofs, which need not be believed, since `Agreement` proves that it is `fault_in` of spec_file. Definitions only. Assumes nothing.
use Rattle.std.specs.Prelude.{Bool, true, false, not, ◌&&◌, ◌||◌, cond, List, [], ◌∷◌, ℕ, suc, ◌+◌, ◌%◌, ◌/◌, eqb, leb, ltb, length, take, drop}
use Rattle.spec_basics.specs.Elements.{any}
use Rattle.relation.specs.Relation.{states}
use Rattle.spec_file.specs.Limits.{record_limit, terminals, nonterminals, symbol_bytes}
use Rattle.spec_file.specs.Forms.{Form}
use Rattle.spec_file.specs.Records.{byte, rule_kind, transition_kind, final_kind}
use Rattle.spec_file.specs.Refusals.{Refusal, refuse, or_next, first_holding, kind_known, on_remark, over_limit}
use Rattle.spec_records.specs.Blocks.{records_of}

-- ---- one record r; a body has at most `most` symbols

-- the symbols of a rule's body
abbrev pub body_in : List ℕ → List ℕ
body_in r = take (byte r 2) (drop 3 r)

-- how many bytes of the record are used
abbrev pub used_bytes : List ℕ → ℕ
used_bytes r = cond (eqb (byte r 0) rule_kind) (3 + byte r 2) (cond (eqb (byte r 0) transition_kind) 4 2)

-- 4: a used byte is above its range
unfoldable pub high_byte : ℕ → List ℕ → Bool
high_byte most r =
    (eqb (byte r 0) rule_kind && ((leb nonterminals (byte r 1) || ltb most (byte r 2)) || any (leb symbol_bytes) (body_in r)))
    || ((eqb (byte r 0) transition_kind && ((leb states (byte r 1) || leb terminals (byte r 2)) || leb states (byte r 3))) || (eqb (byte r 0) final_kind && leb states (byte r 1)))

-- 5: an unused byte is not 0
unfoldable pub unused_byte : List ℕ → Bool
unused_byte r = any (ltb 0) (drop (used_bytes r) r)

-- r comes before s in the order of records: s is larger in the first byte in which they differ
abbrev pub precedes : List ℕ → List ℕ → Bool
precedes [] s = false
precedes (a ∷ r) [] = false
precedes (a ∷ r) (b ∷ s) = ltb a b || (eqb a b && precedes r s)

-- 6 does not hold: s exceeds the record before it. No bytes: there is none
abbrev pub follows : List ℕ → List ℕ → Bool
follows [] s = true
follows (a ∷ r) s = precedes (a ∷ r) s

-- the tests of r, which stands after the record `before` and so many rules and transitions
abbrev pub tests_on : ℕ → List ℕ → ℕ → ℕ → List ℕ → List (ℕ × Bool)
tests_on most before rules transitions r =
    (3, not (kind_known r))
    ∷ (4, high_byte most r)
    ∷ (5, unused_byte r)
    ∷ (12, on_remark r)
    ∷ (6, not (follows before r))
    ∷ (7, over_limit r rules transitions)
    ∷ []

unfoldable pub fault_of : ℕ → List ℕ → ℕ → ℕ → List ℕ → ℕ
fault_of most before rules transitions r = first_holding (tests_on most before rules transitions r)

-- ---- the whole file

-- 1 for a record of kind k, 0 for others
abbrev pub of_kind : ℕ → List ℕ → ℕ
of_kind k r = cond (eqb (byte r 0) k) 1 0

-- the first refusal among records that stand from place i on
unfoldable pub fault_among : ℕ → List ℕ → ℕ → ℕ → ℕ → List (List ℕ) → Refusal
fault_among most before rules transitions i [] = refuse 0 0
fault_among most before rules transitions i (r ∷ rs) =
    or_next (refuse (fault_of most before rules transitions r) i) (fault_among most r (rules + of_kind rule_kind r) (transitions + of_kind transition_kind r) (suc i) rs)

-- the refusal of a file
unfoldable pub fault_on_records : Form → List ℕ → Refusal
fault_on_records F bs =
    or_next (refuse (first_holding ((F.torn, not (eqb (length bs % F.width) 0)) ∷ (2, ltb record_limit (length bs / F.width)) ∷ [])) 0)
    (fault_among F.body_limit [] 0 0 0 (records_of F.width bs))

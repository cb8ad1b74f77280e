-- The numbers 1 to 7 and 12 that a file is refused with (document 01, "Numbers a call may refuse with"; C-11). Checks 1 and 2 come first, then
-- the others record by record; the earliest record wins, and within it the first number in the order of `record_tests_in`: 3, 4, 5, 12, 6, 7.
-- Definitions only. Assumes nothing.
use Rattle.std.specs.Prelude.{Bool, not, ◌&&◌, ◌||◌, cond, List, [], ◌∷◌, ℕ, zero, suc, ◌+◌, ◌-◌, ◌%◌, eqb, leb, ltb, length}
use Rattle.relation.specs.Relation.{states}
use Rattle.spec_language.specs.Remarks.{first_remark}
use Rattle.spec_file.specs.Limits.{record_limit, rule_limit, transition_limit, terminals, nonterminals, symbol_bytes}
use Rattle.spec_file.specs.Forms.{Form, eight}
use Rattle.spec_file.specs.Records.{record_count_in, record_in, count_in, byte, rule_kind, transition_kind, final_kind}

-- a number, and for 3 to 7 and 12 the record's number from 0, else 0. Number 0: nothing is refused
pub record Refusal : Type 0 where
  pub number : ℕ
  pub place : ℕ

abbrev pub refuse : ℕ → ℕ → Refusal
refuse f i = record { number = f; place = i }

-- ---- the first refusal wins

-- by a number: x where it refuses, and y where it is 0
abbrev pub by_number : {A : Type 0} → ℕ → A → A → A
by_number zero x y = y
by_number (suc f) x y = x

-- a refusal, where it has a number, and else the next
abbrev pub or_next : Refusal → Refusal → Refusal
or_next r next = by_number r.number r next

-- the first of them that has a number, or number 0
abbrev pub first_of : List Refusal → Refusal
first_of [] = refuse 0 0
first_of (r ∷ rs) = or_next r (first_of rs)

-- the number of the first test that holds, or 0
abbrev pub first_holding : List (ℕ × Bool) → ℕ
first_holding [] = 0
first_holding (t ∷ ts) = cond t.1 t.0 (first_holding ts)

-- ---- the bytes of one record

-- 3 does not hold: the kind is 1, 2 or 3
unfoldable pub kind_known : List ℕ → Bool
kind_known r = ltb 0 (byte r 0) && ltb (byte r 0) 4

-- a rule uses symbol j from length j + 1 on. Symbol j or one of the m after it is used and above its range
abbrev pub high_symbol : ℕ → ℕ → List ℕ → Bool
high_symbol zero j r = ltb j (byte r 2) && leb symbol_bytes (byte r (3 + j))
high_symbol (suc m) j r = (ltb j (byte r 2) && leb symbol_bytes (byte r (3 + j))) || high_symbol m (suc j) r

-- symbol j or one of the m after it is not used, and not 0
abbrev pub stray_symbol : ℕ → ℕ → List ℕ → Bool
stray_symbol zero j r = ltb (byte r 2) (suc j) && ltb 0 (byte r (3 + j))
stray_symbol (suc m) j r = (ltb (byte r 2) (suc j) && ltb 0 (byte r (3 + j))) || stray_symbol m (suc j) r

-- byte j or one of the m after it is not 0
abbrev pub some_byte : ℕ → ℕ → List ℕ → Bool
some_byte zero j r = ltb 0 (byte r j)
some_byte (suc m) j r = ltb 0 (byte r j) || some_byte m (suc j) r

-- 12 (C-11): "a move whose code is 120 or above", a transition on a remark. 4 has refused a letter above the remarks before
unfoldable pub on_remark : List ℕ → Bool
on_remark r = eqb (byte r 0) transition_kind && leb first_remark (byte r 2)

-- s exceeds r in the bytes from j on, of which m follow byte j; compared as unsigned bytes
unfoldable pub rises_from : ℕ → ℕ → List ℕ → List ℕ → Bool
rises_from zero j r s = ltb (byte r j) (byte s j)
rises_from (suc m) j r s = ltb (byte r j) (byte s j) || (eqb (byte r j) (byte s j) && rises_from m (suc j) r s)

-- 7, of a record after `rules` rules and `transitions` transitions
unfoldable pub over_limit : List ℕ → ℕ → ℕ → Bool
over_limit r rules transitions = (eqb (byte r 0) rule_kind && eqb rules rule_limit) || (eqb (byte r 0) transition_kind && eqb transitions transition_limit)

-- ---- the numbers

-- those that name a record, in the order of their tests
abbrev pub record_numbers : List ℕ
record_numbers = 3 ∷ 4 ∷ 5 ∷ 12 ∷ 6 ∷ 7 ∷ []

-- those that refuse a file of document 01
abbrev pub file_numbers : List ℕ
file_numbers = 1 ∷ 2 ∷ record_numbers

-- ---- of any form

module _ (F : Form) where
  -- 4: a used byte is above its range
  unfoldable pub above_range_in : List ℕ → Bool
  above_range_in r =
      (eqb (byte r 0) rule_kind && ((leb nonterminals (byte r 1) || ltb F.body_limit (byte r 2)) || high_symbol (F.body_limit - 1) 0 r))
      || ((eqb (byte r 0) transition_kind && ((leb states (byte r 1) || leb terminals (byte r 2)) || leb states (byte r 3))) || (eqb (byte r 0) final_kind && leb states (byte r 1)))

  -- 5: an unused byte is not 0: a symbol past the body or a byte past the symbols, a byte past a transition's 4 or a final state's 2
  unfoldable pub stray_byte_in : List ℕ → Bool
  stray_byte_in r =
      (eqb (byte r 0) rule_kind && (stray_symbol (F.body_limit - 1) 0 r || some_byte (F.width - (F.body_limit + 4)) (3 + F.body_limit) r))
      || ((eqb (byte r 0) transition_kind && some_byte (F.width - 5) 4 r) || (eqb (byte r 0) final_kind && some_byte (F.width - 3) 2 r))

  abbrev pub rises_in : List ℕ → List ℕ → Bool
  rises_in r s = rises_from (F.width - 1) 0 r s

  -- 6 does not hold: record i is the first, or exceeds the one before it
  unfoldable pub exceeds_in : List ℕ → ℕ → Bool
  exceeds_in bs i = eqb i 0 || rises_in (record_in F bs (i - 1)) (record_in F bs i)

  -- the numbers that may refuse record i, which comes after `rules` rules and `transitions` transitions, each with its test, in the order
  -- in which they are looked at
  abbrev pub record_tests_in : List ℕ → ℕ → ℕ → ℕ → List (ℕ × Bool)
  record_tests_in bs i rules transitions =
      (3, not (kind_known (record_in F bs i)))
      ∷ (4, above_range_in (record_in F bs i))
      ∷ (5, stray_byte_in (record_in F bs i))
      ∷ (12, on_remark (record_in F bs i))
      ∷ (6, not (exceeds_in bs i))
      ∷ (7, over_limit (record_in F bs i) rules transitions)
      ∷ []

  -- the number that refuses record i after `rules` rules and `transitions` transitions, or 0
  unfoldable pub fault_by_in : List ℕ → ℕ → ℕ → ℕ → ℕ
  fault_by_in bs i rules transitions = first_holding (record_tests_in bs i rules transitions)

  -- the number that refuses record i, or 0
  unfoldable pub fault_at_in : List ℕ → ℕ → ℕ
  fault_at_in bs i = fault_by_in bs i (count_in F bs rule_kind i) (count_in F bs transition_kind i)

  -- ---- the whole file

  -- the numbers that may refuse the file by its length
  abbrev pub length_tests_in : List ℕ → List (ℕ × Bool)
  length_tests_in bs = (F.torn, not (eqb (length bs % F.width) 0)) ∷ (2, ltb record_limit (record_count_in F bs)) ∷ []

  unfoldable pub length_fault_in : List ℕ → ℕ
  length_fault_in bs = first_holding (length_tests_in bs)

  -- the refusals of m records from i on, in file order
  abbrev pub record_refusals_in : List ℕ → ℕ → ℕ → List Refusal
  record_refusals_in bs zero i = []
  record_refusals_in bs (suc m) i = refuse (fault_at_in bs i) i ∷ record_refusals_in bs m (suc i)

  -- the first of them
  unfoldable pub fault_from_in : List ℕ → ℕ → ℕ → Refusal
  fault_from_in bs m i = first_of (record_refusals_in bs m i)

  -- the refusal of a file: by its length, and then by its records
  unfoldable pub fault_in : List ℕ → Refusal
  fault_in bs = or_next (refuse (length_fault_in bs) 0) (fault_from_in bs (record_count_in F bs) 0)

-- ---- of document 01's

abbrev pub above_range : List ℕ → Bool
above_range r = above_range_in eight r

abbrev pub stray_byte : List ℕ → Bool
stray_byte r = stray_byte_in eight r

abbrev pub rises : List ℕ → List ℕ → Bool
rises r s = rises_in eight r s

abbrev pub exceeds : List ℕ → ℕ → Bool
exceeds bs i = exceeds_in eight bs i

abbrev pub record_tests : List ℕ → ℕ → ℕ → ℕ → List (ℕ × Bool)
record_tests bs i rules transitions = record_tests_in eight bs i rules transitions

abbrev pub fault_by : List ℕ → ℕ → ℕ → ℕ → ℕ
fault_by bs i rules transitions = fault_by_in eight bs i rules transitions

abbrev pub fault_at : List ℕ → ℕ → ℕ
fault_at bs i = fault_at_in eight bs i

abbrev pub length_fault : List ℕ → ℕ
length_fault bs = length_fault_in eight bs

abbrev pub fault_from : List ℕ → ℕ → ℕ → Refusal
fault_from bs m i = fault_from_in eight bs m i

abbrev pub fault : List ℕ → Refusal
fault bs = fault_in eight bs

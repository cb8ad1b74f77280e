-- What is written, from the keys of the rules in order, and what is needed for it. Definitions only. Assumes nothing.
use Rattle.std.specs.Prelude.{◌≡◌, Bool, ◌||◌, cond, List, [], ◌∷◌, ◌++◌, map, ℕ, ◌+◌, ◌*◌, ◌/◌, ◌≤◌, ltb, length, drop}
use Rattle.spec_file.specs.Limits.{record_limit, rule_limit, nonterminals}
use Rattle.spec_file.specs.Refusals.{Refusal, refuse}
use Rattle.spec_records.specs.Blocks.{bytes_of, records_of}
use Rattle.spec_unfold.specs.Chains.{RuleOver, chains_in, unfolded}
use Rattle.spec_unfold.specs.Sorting.{sort}
use Rattle.spec_unfold.specs.Moving.{narrowed}
use Rattle.spec_unfold.specs.Unfolding.{byte_rules, call_byte}
use Rattle.unfold_count.specs.declared.Needed.{Needed}
use Rattle.unfold_order.specs.Keys.{key, digits_of}

-- the rules of the file
abbrev pub rules_in : List ℕ → List (RuleOver ℕ)
rules_in bs = byte_rules (records_of 16 bs)

-- ---- what is written

-- the keys of the rules in order, where chain procedures are numbered from `first` on
abbrev pub keys_from : ℕ → List ℕ → List ℕ
keys_from first bs = sort ltb (map key (unfolded call_byte first (rules_in bs)))

-- the records of the rules, and then the records behind the first `rules` records of the file
unfoldable pub unfolded_bytes : List ℕ → ℕ → ℕ → List ℕ
unfolded_bytes bs first rules = bytes_of (map (digits_of 256 8) (keys_from first bs)) ++ narrowed (drop (rules * 16) bs)

-- the numbers are the file's, and there is room
pub record Fits (bs : List ℕ) (first rules room : ℕ) : Type 0 where
  pub chains : first + chains_in (rules_in bs) ≤ nonterminals
  pub few : length (rules_in bs) + chains_in (rules_in bs) ≤ rule_limit
  pub counted : rules ≡ length (rules_in bs)
  pub inside : rules ≤ length bs / 16
  pub room-enough : (length bs / 16 + chains_in (rules_in bs)) * 8 ≤ room

-- ---- what is needed; t: the counts of a file of so many records

-- the sums of the counts stay small
pub record Bounded (t : Needed) (records : ℕ) : Type 0 where
  pub low : t.first ≤ nonterminals
  pub few-chains : t.chains ≤ record_limit * 11
  pub few-rules : t.rules ≤ record_limit
  pub few-records : records ≤ record_limit

-- a procedure or a rule too many
abbrev pub needs_more : Needed → Bool
needs_more t = ltb nonterminals (t.first + t.chains) || ltb rule_limit (t.rules + t.chains)

-- bytes of the result
abbrev pub needed_bytes : Needed → ℕ → ℕ
needed_bytes t records = (records + t.chains) * 8

-- 18, then 10
abbrev pub needed_refusals : Needed → ℕ → ℕ → List Refusal
needed_refusals t records room =
    refuse (cond (needs_more t) 18 0) 0 ∷ refuse (cond (ltb room (needed_bytes t records)) 10 0) 0 ∷ []

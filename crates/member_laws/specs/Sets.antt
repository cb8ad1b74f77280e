-- Sets of nonterminals as numbers, nonterminal p being in the set where digit p is set; and what such sets have to do with the rules of a
-- file: nonterminals that derive the empty word, and units. Definitions only. Assumes nothing.
use Rattle.std.specs.Prelude.{◌≡◌, ◌↔◌, Bool, true, false, ◌&&◌, ◌||◌, List, [], map, ℕ, ◌^◌, ◌<◌, eqb, get_or}
use Rattle.std.specs.Int.Bits.{bit_or}
use Rattle.spec_basics.specs.Elements.{In}
use Rattle.relation.specs.Digits.{bit}
use Rattle.spec_language.specs.Grammar.{Symbol, terminal, nonterminal, Body, empty, one, two, Rule, production_of}
use Rattle.spec_language.specs.Spelling.{SpellsSymbol, DerivesWithin, Derives}
use Rattle.spec_file.specs.Limits.{nonterminals}

-- ---- a set

-- the set with nonterminal p
abbrev pub with : ℕ → ℕ → ℕ
with set p = bit_or set (2 ^ p)

-- the symbol is a nonterminal of the set
abbrev pub among : ℕ → Symbol → Bool
among set (terminal c) = false
among set (nonterminal x) = bit set x

-- every symbol of the body is
abbrev pub all_in : ℕ → Body → Bool
all_in set empty = true
all_in set (one s) = among set s
all_in set (two s t) = among set s && among set t

-- ---- units

abbrev pub same : Symbol → Symbol → Bool
same (terminal a) (terminal b) = eqb a b
same (terminal a) (nonterminal b) = false
same (nonterminal a) (terminal b) = false
same (nonterminal a) (nonterminal b) = eqb a b

-- the body is a unit of s: s alone, or s beside a nonterminal of the set n. Where those of n derive the empty word, the body spells what s
-- spells
abbrev pub is_unit : ℕ → Symbol → Body → Bool
is_unit n s empty = false
is_unit n s (one x) = same s x
is_unit n s (two x y) = (same s x && among n y) || (among n x && same s y)

-- ---- by the rules of a file

-- the heads are nonterminals that a set can hold
abbrev pub Heads : List Rule → Type 0
Heads rules = (r : Rule) → In r rules → r.head < nonterminals

module _ (rules : List Rule) where
  -- nonterminal p derives u, within height h and at all
  abbrev pub WithinBy : ℕ → ℕ → List ℕ → Type 0
  WithinBy h p u = DerivesWithin (map production_of rules) h p u

  abbrev pub DerivesBy : ℕ → List ℕ → Type 0
  DerivesBy p u = Derives (map production_of rules) p u

  -- every nonterminal of the set derives the word
  abbrev pub AllDerive : ℕ → List ℕ → Type 0
  AllDerive set u = (p : ℕ) → bit set p ≡ true → DerivesBy p u

  -- the nonterminals that derive the empty word: each of the set does, and the set is closed under the rules
  pub record Nullable (n : ℕ) : Type 0 where
    pub sound : AllDerive n []
    pub closed : (r : Rule) → In r rules → all_in n r.body ≡ true → bit n r.head ≡ true

  -- nonterminal p derives whatever s spells
  abbrev pub Carries : Symbol → ℕ → Type 0
  Carries s p = (u : List ℕ) → SpellsSymbol DerivesBy s u → DerivesBy p u

  -- the heads of the rules whose body is a unit of s
  pub record UnitHeads (n : ℕ) (s : Symbol) (set : ℕ) : Type 0 where
    pub sound : (p : ℕ) → bit set p ≡ true → Carries s p
    pub each : (r : Rule) → In r rules → is_unit n s r.body ≡ true → bit set r.head ≡ true

  -- entry q has the heads of the units of nonterminal q
  abbrev pub Direct : ℕ → List ℕ → Type 0
  Direct n direct = (q : ℕ) → q < nonterminals → UnitHeads n (nonterminal q) (get_or direct q 0)

-- ---- a table with a set for each nonterminal

-- p is reached from q through the entries: by none of them, or by the entry of some y that is reached
pub data Reaches (direct : List ℕ) (q : ℕ) : ℕ → Type 0 where
  start : Reaches direct q q
  onward : {y p : ℕ} → Reaches direct q y → y < nonterminals → bit (get_or direct y 0) p ≡ true → Reaches direct q p

-- exactly what is reached from q
abbrev pub ClosureOf : List ℕ → ℕ → ℕ → Type 0
ClosureOf direct q set = (p : ℕ) → (bit set p ≡ true) ↔ Reaches direct q p

-- entry q has it
abbrev pub Closures : List ℕ → List ℕ → Type 0
Closures direct units = (q : ℕ) → q < nonterminals → ClosureOf direct q (get_or units q 0)

-- the union of the entries of the nonterminals of a set
pub record UnionOf (entries : List ℕ) (set r : ℕ) : Type 0 where
  pub only : (p : ℕ) → bit r p ≡ true → (q : ℕ) × (q < nonterminals) × (bit set q ≡ true) × (bit (get_or entries q 0) p ≡ true)
  pub each : (q p : ℕ) → q < nonterminals → bit set q ≡ true → bit (get_or entries q 0) p ≡ true → bit r p ≡ true

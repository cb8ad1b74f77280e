-- One round over the rules, which adds to a set the heads of those that pass a test. Definitions only. Assumes nothing.
use Rattle.std.specs.Prelude.{◌≡◌, Bool, true, List, [], ℕ, ◌≤◌, ◌<◌, get_or}
use Rattle.spec_basics.specs.Elements.{In}
use Rattle.relation.specs.Digits.{bit}
use Rattle.spec_language.specs.Grammar.{Rule}
use Rattle.spec_file.specs.Entries.{entry_of}
use Rattle.member_laws.specs.Sets.{all_in, DerivesBy}

-- from the set to the set r, over the first i rows of the table of rules; every nonterminal that is added is good where those of the set are
pub record Upto (rows : List (List ℕ)) (test : List ℕ → Bool) (Good : ℕ → Type 0) (set i r : ℕ) : Type 0 where
  pub larger : set ≤ r
  pub kept : (p : ℕ) → bit set p ≡ true → bit r p ≡ true
  pub sound : ((p : ℕ) → bit set p ≡ true → Good p) → (p : ℕ) → bit r p ≡ true → Good p
  pub each : (k : ℕ) → k < i → test (get_or rows k []) ≡ true → bit r (entry_of (get_or rows k [])).head ≡ true

-- over all rules, for the empty word: the heads of the rules whose symbols are all in the set are added
pub record NullRound (rules : List Rule) (set r : ℕ) : Type 0 where
  pub larger : set ≤ r
  pub sound : ((p : ℕ) → bit set p ≡ true → DerivesBy rules p []) → (p : ℕ) → bit r p ≡ true → DerivesBy rules p []
  pub each : (x : Rule) → In x rules → all_in set x.body ≡ true → bit r x.head ≡ true

-- The heads of the rules that pass a test, which a closure makes: what the closure says of a row of the table of rules is all that is known of
-- the test. Definitions only. Assumes nothing.
use Rattle.std.specs.Prelude.{◌≡◌, ◌⊎◌, Bool, true, false, List, [], ℕ, ◌≤◌, ◌<◌, length, get_or}
use Rattle.relation.specs.Digits.{bit}
use Rattle.spec_file.specs.Entries.{entry_of}

-- from the set to the set r, over the first i rows: the heads of those that pass are added, and no other
pub record GatheredUpto (rows : List (List ℕ)) (Says : List ℕ → Bool → Type 0) (set i r : ℕ) : Type 0 where
  pub larger : set ≤ r
  pub kept : (p : ℕ) → bit set p ≡ true → bit r p ≡ true
  pub only : (p : ℕ) → bit r p ≡ true
      → (bit set p ≡ true) ⊎ ((k : ℕ) × (k < i) × Says (get_or rows k []) true × (p ≡ (entry_of (get_or rows k [])).head))
  pub each : (k : ℕ) → k < i → (Says (get_or rows k []) true × (bit r (entry_of (get_or rows k [])).head ≡ true)) ⊎ Says (get_or rows k []) false

-- over all rows
abbrev pub Gathered : List (List ℕ) → (List ℕ → Bool → Type 0) → ℕ → ℕ → Type 0
Gathered rows Says set r = GatheredUpto rows Says set (length rows) r

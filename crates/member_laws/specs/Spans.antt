-- What is known of the stretches that are done, as digits of words: for each nonterminal the ends of the stretches that it derives from one
-- step on, and the starts of those that it derives up to each step. So the splits of a stretch between two symbols are one `and` of two
-- words. Definitions only. Assumes nothing.
use Rattle.std.specs.Prelude.{◌≡◌, ◌⊎◌, ◌↔◌, Bool, true, ◌&&◌, cond, List, [], map, ℕ, ◌+◌, ◌-◌, ◌*◌, ◌^◌, ◌≤◌, ◌<◌, eqb, leb, ltb, length, get_or}
use Rattle.std.proofs.Math.Seq.{slice}
use Rattle.relation.specs.Digits.{bit, some}
use Rattle.spec_language.specs.Grammar.{Symbol, terminal, nonterminal, Rule}
use Rattle.spec_file.specs.Limits.{nonterminals}
use Rattle.spec_file.specs.Views.{symbol_of}
use Rattle.spec_file.specs.Entries.{entry_of}
use Rattle.member_laws.specs.Sets.{DerivesBy, AllDerive}

-- ---- the cells

-- the first of the cells for the stretches up to step j; nonterminal p has the p-th from there
abbrev pub end_cells : ℕ → ℕ
end_cells j = nonterminals * j

-- for j from 0 to 64
abbrev pub span_cells : ℕ
span_cells = 4160

module _ (rules : List Rule) (w : List ℕ) where
  -- nonterminal p derives the stretch, which has a letter
  pub record Derived (p i j : ℕ) : Type 0 where
    pub some-letter : i < j
    pub in-word : j ≤ length w
    pub derives : DerivesBy rules p (slice i j w)

  -- every digit that is set is right: in the words of the stretches from step i on, their ends
  abbrev pub RightEnds : ℕ → List ℕ → Type 0
  RightEnds i ends = (p k : ℕ) → p < nonterminals → bit (get_or ends p 0) k ≡ true → Derived p i k

  -- and in the words of the stretches up to each step, their starts
  abbrev pub RightStarts : List ℕ → Type 0
  RightStarts starts = (p j k : ℕ) → p < nonterminals → bit (get_or starts (end_cells j + p) 0) k ≡ true → Derived p k j

-- ---- a step that sets digits

-- the digit `place` in the cells of the set's nonterminals, from cell `base` on, and no other
pub record Marks (base set place : ℕ) (before after : List ℕ) : Type 0 where
  pub kept : (x k : ℕ) → bit (get_or before x 0) k ≡ true → bit (get_or after x 0) k ≡ true
  pub marked : (q : ℕ) → q < nonterminals → bit set q ≡ true → bit (get_or after (base + q) 0) place ≡ true
  pub only : (x k : ℕ) → bit (get_or after x 0) k ≡ true
      → (bit (get_or before x 0) k ≡ true) ⊎ ((k ≡ place) × ((q : ℕ) × (q < nonterminals) × (x ≡ base + q) × (bit set q ≡ true)))

-- ---- rules of two symbols

-- the ends of the stretches from step i on that the symbol spells: of a terminal the next step, where it is the letter there
abbrev pub ends_of : List ℕ → List ℕ → ℕ → Symbol → ℕ
ends_of w ends i (terminal c) = cond (eqb (get_or w i 0) c) (2 ^ (i + 1)) 0
ends_of w ends i (nonterminal p) = cond (ltb p nonterminals) (get_or ends p 0) 0

-- the starts of those up to step j
abbrev pub starts_of : List ℕ → List ℕ → ℕ → Symbol → ℕ
starts_of w starts j (terminal c) = cond (eqb (get_or w (j - 1) 0) c) (2 ^ (j - 1)) 0
starts_of w starts j (nonterminal p) = cond (ltb p nonterminals) (get_or starts (end_cells j + p) 0) 0

-- some digit is in both numbers
abbrev pub meets : ℕ → ℕ → Bool
meets x y = some 64 (λ k. bit x k && bit y k)

-- the row of the table of rules has two symbols, and some step is an end of the first and a start of the second
abbrev pub splits : List ℕ → List ℕ → List ℕ → ℕ → ℕ → List ℕ → Bool
splits w ends starts i j row =
    leb 2 (get_or row 1 0) && meets (ends_of w ends i (symbol_of (get_or row 2 0))) (starts_of w starts j (symbol_of (get_or row 3 0)))

-- the heads of those rules
pub record SplitHeads (rows : List (List ℕ)) (w ends starts : List ℕ) (i j r : ℕ) : Type 0 where
  pub right : RightEnds (map entry_of rows) w i ends → RightStarts (map entry_of rows) w starts → AllDerive (map entry_of rows) r (slice i j w)
  pub each : (k : ℕ) → k < length rows → splits w ends starts i j (get_or rows k []) ≡ true → bit r (entry_of (get_or rows k [])).head ≡ true

-- ---- the set of a stretch

-- exactly the nonterminals that derive the stretch
abbrev pub Exact : List Rule → List ℕ → ℕ → ℕ → ℕ → Type 0
Exact rules w i j set = (p : ℕ) → (bit set p ≡ true) ↔ DerivesBy rules p (slice i j w)

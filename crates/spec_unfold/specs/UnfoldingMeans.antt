-- What the reply of unfolding means, in the words of document 02, C-17; and what a check of the unfolded file says of the 16-byte file (demand
-- 3). Its reader needs document 000 only: words are derived by rewriting, with bodies of any length, and accepted by a path. Definitions only.
-- Assumes nothing.
use Rattle.std.specs.Prelude.{◌≡◌, ◌↔◌, ◌⊎◌, Bool, true, false, ℕ, zero, suc, ◌+◌, ◌-◌, ◌≤◌, ◌<◌, ltb, length, drop}
use mathlib.Core.List.{List, [], ◌∷◌, ◌++◌}
use Rattle.std.proofs.Math.ListN.{take}
use Rattle.spec_basics.specs.Elements.{In}
use Rattle.spec_language.specs.Grammar.{Symbol, nonterminal, Production, initial}
use Rattle.spec_language.specs.Rewriting.{Language}
use Rattle.spec_language.specs.Automaton.{Accepts, TurnsAway}
use Rattle.spec_file.specs.Limits.{rule_limit, nonterminals}
use Rattle.spec_file.specs.Refusals.{refuse, fault}
use Rattle.spec_file.specs.Views.{productions_of, automaton_of}
use Rattle.spec_order.specs.Order.{Answer, holds, broken, full, spent, empty}
use Rattle.spec_calls.specs.Replies.{Reply, refused, answered}
use Rattle.spec_calls.specs.Checking.{Settings, check_of, shown, shown_head}
use Rattle.spec_calls.specs.DemandThree.{Member}
use Rattle.spec_unfold.specs.Unfolding.{wide_productions_of, wide_automaton_of}

-- ---- the chain procedures; ps: the rules of a file, in file order

-- "in use as head or symbol"
abbrev pub InUse : List Production → ℕ → Type 0
InUse ps x = (p : Production) × In p ps × ((p.head ≡ x) ⊎ In (nonterminal x) p.symbols)

-- how many chain procedures the rules take: of each body one for every symbol past the second
abbrev pub taken_by : List Production → ℕ
taken_by [] = 0
taken_by (p ∷ ps) = length p.symbols - 2 + taken_by ps

-- the first of them is the least number that is above each procedure in use, and not below `least`
pub record FirstAbove (least : ℕ) (ps : List Production) (first : ℕ) : Type 0 where
  pub above-use : (x : ℕ) → InUse ps x → x < first
  pub above-least : least ≤ first
  pub no-higher : (m : ℕ) → ((x : ℕ) → InUse ps x → x < m) → least ≤ m → first ≤ m

abbrev pub ChainProcedure : ℕ → List Production → ℕ → Type 0
ChainProcedure first ps x = (first ≤ x) × (x < first + taken_by ps)

-- 18: "an unfolding that needs procedure 64 or a 257th rule"
abbrev pub NeedsMore : ℕ → List Production → Type 0
NeedsMore least ps = (first : ℕ) × FirstAbove least ps first
    × (((x : ℕ) × ChainProcedure first ps x × (nonterminals ≤ x)) ⊎ (rule_limit < length ps + taken_by ps))

-- ---- the rules that a rule p becomes, where its chain procedures are numbered from n on, "left to right": rule 0 is p's own, and rule k + 1 is
-- that of chain procedure n + k

abbrev pub link_head : ℕ → ℕ → ℕ → ℕ
link_head x n zero = x
link_head x n (suc k) = n + k

-- "its first symbol and a chain procedure for the rest"; at the end the rest, of at most two symbols
abbrev pub link_by : Bool → ℕ → List Symbol → List Symbol
link_by true c rest = take 1 rest ++ (nonterminal c ∷ [])
link_by false c rest = rest

abbrev pub link : Production → ℕ → ℕ → Production
link p n k = record { head = link_head p.head n k; symbols = link_by (ltb k (length p.symbols - 2)) (n + k) (drop k p.symbols) }

-- q is one of these for a rule p among ps: its chain procedures come after those of the rules before it, "in file order"
abbrev pub IsLink : ℕ → List Production → Production → Type 0
IsLink first ps q = (before : List Production) × (p : Production) × (after : List Production) × (ps ≡ before ++ (p ∷ after))
    × (k : ℕ) × (k ≤ length p.symbols - 2) × (q ≡ link p (first + taken_by before) k)

-- ---- demand 3 for a 16-byte file

module _ (bs : List ℕ) where
  -- p derives some word; none
  abbrev pub WideSomeFrom : ℕ → Type 0
  WideSomeFrom p = (w : List ℕ) × Language (wide_productions_of bs) p w

  abbrev pub WideNoneFrom : ℕ → Type 0
  WideNoneFrom p = (w : List ℕ) → Language (wide_productions_of bs) p w → ⊥

  -- the member p derives the word, and it is turned away
  abbrev pub WideCounterexample : Settings → ℕ → List ℕ → Type 0
  WideCounterexample g p w = Member g p × Language (wide_productions_of bs) p w × TurnsAway (wide_automaton_of bs) w

  -- every word of every member is accepted
  abbrev pub WideAccepted : Settings → Type 0
  WideAccepted g = (p : ℕ) → Member g p → (w : List ℕ) → Language (wide_productions_of bs) p w → Accepts (wide_automaton_of bs) w

  -- what the answer a, which shows the word u of the procedure x, says of the 16-byte file: OneVerdict's words on verdicts, of this file's runs
  pub record WideVerdict (g : Settings) (a : Answer ℕ) (x : ℕ) (u : List ℕ) : Type 0 where
    pub holds-for-all : a.verdict ≡ holds → WideAccepted g
    pub holds-for-some : a.verdict ≡ holds → (p : ℕ) → Member g p → WideSomeFrom p
    pub empty-for-none : a.verdict ≡ empty → (p : ℕ) × Member g p × WideNoneFrom p
    pub broken-shows : a.verdict ≡ broken → WideCounterexample g x u
    pub broken-exactly : (a.verdict ≡ full → ⊥) → (a.verdict ≡ spent → ⊥) → (a.verdict ≡ broken) ↔ ((p : ℕ) × (w : List ℕ) × WideCounterexample g p w)
    pub empty-exactly : (a.verdict ≡ full → ⊥) → (a.verdict ≡ spent → ⊥) → (a.verdict ≡ empty) ↔ (WideAccepted g × ((p : ℕ) × Member g p × WideNoneFrom p))
    pub holds-exactly : (a.verdict ≡ full → ⊥) → (a.verdict ≡ spent → ⊥) → (a.verdict ≡ holds) ↔ (WideAccepted g × ((p : ℕ) → Member g p → WideSomeFrom p))

-- ---- the reply

-- unfolding the file bs has answered n, where the output held old before and new afterwards: the unfolded file is take n new
pub record UnfoldShows (least : ℕ) (bs old new : List ℕ) (n : ℕ) : Type 0 where
  pub fits : n ≤ length old
  pub same_length : length new ≡ length old
  -- "bytes past the result keep their values"
  pub other-bytes : drop n new ≡ drop n old
  -- "which the check and run writing take": no file check refuses it
  pub passes : fault (take n new) ≡ refuse 0 0
  -- "with the same moves and finishing stages"
  pub same-sheet : automaton_of (take n new) ≡ wide_automaton_of bs
  -- its rules are just those of the chains, each once
  pub first : ℕ
  pub first_above : FirstAbove least (wide_productions_of bs) first
  pub rules-exactly : (q : Production) → In q (productions_of (take n new)) ↔ IsLink first (wide_productions_of bs) q
  pub rule-count : length (productions_of (take n new)) ≡ length (wide_productions_of bs) + taken_by (wide_productions_of bs)
  -- "Each original procedure derives the same runs after unfolding, whatever the body lengths": each that is no chain procedure, so each in use
  pub same_runs : (x : ℕ) → (ChainProcedure first (wide_productions_of bs) x → ⊥) → (w : List ℕ) → Language (wide_productions_of bs) x w ↔ Language (productions_of (take n new)) x w
  pub no-chain-in-use : (x : ℕ) → InUse (wide_productions_of bs) x → ChainProcedure first (wide_productions_of bs) x → ⊥
  pub no-chain-initial : ChainProcedure first (wide_productions_of bs) initial → ⊥
  pub no-chain-below : (x : ℕ) → x < least → ChainProcedure first (wide_productions_of bs) x → ⊥
  -- a check of the unfolded file is one of the 16-byte file, where no member is a chain procedure
  pub verdict : (g : Settings) → ((p : ℕ) → Member g p → ChainProcedure first (wide_productions_of bs) p → ⊥)
      → (a : Answer ℕ) → check_of (take n new) g ≡ answered a → WideVerdict bs g a (shown_head a) (shown (take n new) a)

-- a refused call leaves the output as it was
abbrev pub UnfoldMeans : ℕ → List ℕ → List ℕ → List ℕ → Reply ℕ → Type 0
UnfoldMeans least bs old new (refused r) = new ≡ old
UnfoldMeans least bs old new (answered n) = UnfoldShows least bs old new n

-- Derivation by spelling, as document 01 has it, with the height of the derivation. Definitions only. Assumes nothing.
use Rattle.std.specs.Prelude.{◌≡◌, List, [], ◌∷◌, ◌++◌, ℕ, zero, suc}
use Rattle.spec_basics.specs.Elements.{In}
use Rattle.spec_language.specs.Grammar.{Symbol, terminal, nonterminal, Production}

-- D x w says that the nonterminal x derives the word w
module _ (D : ℕ → List ℕ → Type 0) where
  -- a terminal as itself, a nonterminal as any word that it derives
  abbrev pub SpellsSymbol : Symbol → List ℕ → Type 0
  SpellsSymbol (terminal c) w = w ≡ c ∷ []
  SpellsSymbol (nonterminal x) w = D x w

  -- the symbols from left to right, an empty body as the empty word
  abbrev pub Spells : List Symbol → List ℕ → Type 0
  Spells [] w = w ≡ []
  Spells (s ∷ ss) w = (u : List ℕ) × (v : List ℕ) × (w ≡ u ++ v) × SpellsSymbol s u × Spells ss v

-- one of the rules of x spells w, with at most h rules on a way from the start to a leaf
abbrev pub DerivesWithin : List Production → ℕ → ℕ → List ℕ → Type 0
DerivesWithin rules zero x w = ⊥
DerivesWithin rules (suc h) x w = (r : Production) × In r rules × (r.head ≡ x) × Spells (DerivesWithin rules h) r.symbols w

-- x derives w within some height
abbrev pub Derives : List Production → ℕ → List ℕ → Type 0
Derives rules x w = (h : ℕ) × DerivesWithin rules h x w

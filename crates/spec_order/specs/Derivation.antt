-- Derivations by height, over any notion of value: words, effects, words with their effects. Definitions only. Assumes nothing.
use Rattle.std.specs.Prelude.{◌≡◌, List, ℕ, zero, suc}
use Rattle.spec_basics.specs.Elements.{In}
use Rattle.spec_language.specs.Grammar.{Symbol, terminal, nonterminal, Body, empty, one, two, Rule}

-- what an empty body, a terminal and a pair of symbols give
pub record Values (X : Type 0) : Type 1 where
  pub IsEmpty : X → Type 0
  pub IsTerminal : ℕ → X → Type 0
  pub IsPair : X → X → X → Type 0

module _ {X : Type 0} (K : Values X) where
  -- D x v says that the nonterminal x gives v
  abbrev pub SymbolGives : (ℕ → X → Type 0) → Symbol → X → Type 0
  SymbolGives D (terminal c) v = K.IsTerminal c v
  SymbolGives D (nonterminal x) v = D x v

  abbrev pub Gives : (ℕ → X → Type 0) → Body → X → Type 0
  Gives D empty v = K.IsEmpty v
  Gives D (one s) v = SymbolGives D s v
  Gives D (two s t) v = (x : X) × (y : X) × SymbolGives D s x × SymbolGives D t y × K.IsPair x y v

  -- x has a derivation of height at most h with value v
  abbrev pub Yields : List Rule → ℕ → ℕ → X → Type 0
  Yields rules zero x v = ⊥
  Yields rules (suc h) x v = (r : Rule) × In r rules × (r.head ≡ x) × Gives (Yields rules h) r.body v

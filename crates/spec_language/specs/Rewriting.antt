-- Derivation by rewriting, as document 000, section 2.1, has it. Definitions only. Assumes nothing.
use Rattle.std.specs.Prelude.{◌≡◌, List, [], ◌∷◌, ◌++◌, map, ℕ}
use Rattle.spec_basics.specs.Elements.{In}
use Rattle.spec_language.specs.Grammar.{Symbol, terminal, nonterminal, Production}

-- α ⇒ β: α is α₁ x α₂ and β is α₁ γ α₂, for a production rule (x, γ)
pub record Step (rules : List Production) (α β : List Symbol) : Type 0 where
  pub before : List Symbol
  pub after : List Symbol
  pub rule : Production
  pub listed : In rule rules
  pub old : α ≡ before ++ (nonterminal rule.head ∷ after)
  pub new : β ≡ before ++ (rule.symbols ++ after)

-- α ⇒* β: the reflexive and transitive closure
pub data Steps (rules : List Production) : List Symbol → List Symbol → Type 0 where
  done : {α : List Symbol} → Steps rules α α
  more : {α β γ : List Symbol} → Step rules α β → Steps rules β γ → Steps rules α γ

-- the word w is in L(x): x ⇒* w (document 01: procedure x derives the run w)
abbrev pub Language : List Production → ℕ → List ℕ → Type 0
Language rules x w = Steps rules (nonterminal x ∷ []) (map terminal w)

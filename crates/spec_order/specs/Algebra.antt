-- What the working order asks of effects. In the base check an effect is a relation on states; the order itself and its theorems
-- hold for any algebra with these laws. Definitions only. Assumes nothing.
use Rattle.std.specs.Prelude.{◌≡◌, Bool, true, List, ℕ}
use Rattle.spec_basics.specs.Elements.{In}

-- the effects that a rule's body forms
pub record Forms (E : Type 0) : Type 0 where
  -- of an empty body
  pub of_empty : E
  -- of a terminal
  pub of_terminal : ℕ → E
  -- of two symbols with these effects, in the order in which they are tried: each is one join
  pub of_pair : E → E → List E

pub record Algebra (E : Type 0) : Type 0 where
  pub forms : Forms E
  -- contained or equal
  pub below : E → E → Bool
  -- the nonterminals whose words count
  pub starts : List ℕ
  -- a new row of this nonterminal with this effect breaks the check
  pub breaks : ℕ → E → Bool

pub record Laws {E : Type 0} (A : Algebra E) : Type 0 where
  pub below-refl : (x : E) → A.below x x ≡ true
  pub below-trans : (x y z : E) → A.below x y ≡ true → A.below y z ≡ true → A.below x z ≡ true
  -- smaller parts form something smaller
  pub pair-below : (x x' y y' : E) → A.below x x' ≡ true → A.below y y' ≡ true
      → (e : E) → In e (A.forms.of_pair x' y') → (d : E) × In d (A.forms.of_pair x y) × (A.below d e ≡ true)
  -- where an effect breaks, a smaller one does
  pub breaks-below : (x : ℕ) (d e : E) → A.below d e ≡ true → A.breaks x e ≡ true → A.breaks x d ≡ true
  -- only a nonterminal whose words count breaks
  pub breaks-starts : (x : ℕ) (e : E) → A.breaks x e ≡ true → In x A.starts

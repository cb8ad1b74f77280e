-- One lemma carries derivations from one notion of value to another, and more height does no harm. Assumes nothing.
use Rattle.std.specs.Prelude.{◌≡◌, refl, List, ℕ, zero, suc, ◌≤◌}
use Rattle.std.proofs.Common.{sym, subst}
use Rattle.std.proofs.Math.Decide.{le_ind}
use Rattle.spec_language.specs.Grammar.{Symbol, terminal, nonterminal, Body, empty, one, two, Rule}
use Rattle.spec_order.specs.Derivation.{Values, SymbolGives, Gives, Yields}

-- a relation between values that the three ways of making a value keep: each value on the left has one on the right
pub record Along {X X' : Type 0} (K : Values X) (K' : Values X') (R : X → X' → Type 0) : Type 0 where
  pub of_empty : (v : X) → K.IsEmpty v → (v' : X') × K'.IsEmpty v' × R v v'
  pub of_terminal : (c : ℕ) (v : X) → K.IsTerminal c v → (v' : X') × K'.IsTerminal c v' × R v v'
  pub of_pair : (x y v : X) (x' y' : X') → R x x' → R y y' → K.IsPair x y v → (v' : X') × K'.IsPair x' y' v' × R v v'

module _ {X X' : Type 0} (K : Values X) (K' : Values X') (R : X → X' → Type 0) (L : Along K K' R) where
  -- along the symbols, from D to D'
  module _ (D : ℕ → X → Type 0) (D' : ℕ → X' → Type 0) (each : (p : ℕ) (v : X) → D p v → (v' : X') × D' p v' × R v v') where
    symbol-along : (s : Symbol) (v : X) → SymbolGives K D s v → (v' : X') × SymbolGives K' D' s v' × R v v'
    symbol-along (terminal c) v g = L.of_terminal c v g
    symbol-along (nonterminal p) v g = each p v g

    pub gives_along : (b : Body) (v : X) → Gives K D b v → (v' : X') × Gives K' D' b v' × R v v'
    gives_along empty v g = L.of_empty v g
    gives_along (one s) v g = symbol-along s v g
    gives_along (two s t) v g =
        let l = symbol-along s g.0 g.2 in
        let r = symbol-along t g.1 g.3 in
        let b = L.of_pair g.0 g.1 v l.0 r.0 l.2 r.2 g.4 in
        (b.0, (l.0, r.0, l.1, r.1, b.1), b.2)

  pub yields-along : (rules : List Rule) (h p : ℕ) (v : X) → Yields K rules h p v → (v' : X') × Yields K' rules h p v' × R v v'
  yields-along rules zero p v d = absurd d
  yields-along rules (suc h) p v d =
      let g = gives_along (Yields K rules h) (Yields K' rules h) (yields-along rules h) d.0.body v d.3 in
      (g.0, (d.0, d.1, d.2, g.1), g.2)

module _ {X : Type 0} (K : Values X) where
  same-along : Along K K (λ v w. v ≡ w)
  same-along =
      record {
        of_empty = λ v e. (v, e, refl);
        of_terminal = λ c v e. (v, e, refl);
        of_pair = λ x y v x' y' p q b. (v, subst (λ (z : X). K.IsPair z y' v) p (subst (λ (z : X). K.IsPair x z v) q b), refl);
      }

  -- a taller bound
  pub taller : (rules : List Rule) (h p : ℕ) (v : X) → Yields K rules h p v → Yields K rules (suc h) p v
  taller rules zero p v d = absurd d
  taller rules (suc h) p v d =
      let g = gives_along K K (λ v w. v ≡ w) same-along (Yields K rules h) (Yields K rules (suc h)) (λ q w e. (w, taller rules h q w e, refl)) d.0.body v d.3 in
      (d.0, d.1, d.2, subst (Gives K (Yields K rules (suc h)) d.0.body) (sym g.2) g.1)

  pub within-le : (rules : List Rule) (g h p : ℕ) (v : X) → g ≤ h → Yields K rules g p v → Yields K rules h p v
  within-le rules g h p v l d = le_ind (λ (x : ℕ). Yields K rules x p v) d (λ m k e. taller rules m p v e) h l

-- A rule whose body spells a word derives it; and what a derivation's last rule may be. Assumes nothing.
use Rattle.std.specs.Prelude.{◌≡◌, refl, List, [], ◌∷◌, ◌++◌, map, ℕ, suc, ◌+◌}
use Rattle.std.proofs.Common.{sym, ap, ◌∙◌, subst, append-nil, arith}
use Rattle.spec_basics.specs.Elements.{In}
use Rattle.spec_language.specs.Grammar.{Symbol, terminal, nonterminal, Production, symbols, Rule, production_of}
use Rattle.spec_language.specs.Spelling.{SpellsSymbol, Spells, DerivesWithin, Derives}
use Rattle.spec_language.proofs.Agreement.{within-le, spell-mono}
use Rattle.spec_language.proofs.RuleLaws.{of-rule}
use Rattle.member_laws.specs.Sets.{DerivesBy}

-- one height for all symbols
level : (rules : List Production) (ss : List Symbol) (u : List ℕ) → Spells (Derives rules) ss u → (h : ℕ) × Spells (DerivesWithin rules h) ss u
level rules [] u e = (0, e)
level rules (terminal c ∷ ss) u r = let t = level rules ss r.1 r.4 in (t.0, (r.0, r.1, r.2, r.3, t.1))
level rules (nonterminal x ∷ ss) u r =
    let t = level rules ss r.1 r.4 in
    let d = r.3 in
    let h : ℕ = d.0 + t.0 in (
      h,
      (
        r.0,
        r.1,
        r.2,
        within-le rules d.0 h x r.0 (omega arith) d.1,
        spell-mono (DerivesWithin rules t.0) (DerivesWithin rules h) (λ p w. within-le rules t.0 h p w (omega arith)) ss r.1 t.1,
      ),
    )

pub by-body : (rules : List Rule) (r : Rule) (u : List ℕ) → In r rules → Spells (DerivesBy rules) (symbols r.body) u → DerivesBy rules r.head u
by-body rules r u m s = let t = level (map production_of rules) (symbols r.body) u s in (suc t.0, of-rule rules t.0 r.head u (r, m, refl, t.1))

module _ (D : ℕ → List ℕ → Type 0) where
  pub spell_one : (s : Symbol) (u : List ℕ) → SpellsSymbol D s u → Spells D (s ∷ []) u
  spell_one s u d = (u, [], sym (append-nil u), d, refl)

  pub spell-two : (s t : Symbol) (u v : List ℕ) → SpellsSymbol D s u → SpellsSymbol D t v → Spells D (s ∷ t ∷ []) (u ++ v)
  spell-two s t u v d e = (u, v, refl, d, spell_one t v e)

  pub one-spells : (s : Symbol) (u : List ℕ) → Spells D (s ∷ []) u → SpellsSymbol D s u
  one-spells s u r = subst (SpellsSymbol D s) (sym (r.2 ∙ ap (λ (v : List ℕ). r.0 ++ v) r.4 ∙ append-nil r.0)) r.3

  pub two-spells : (s t : Symbol) (u : List ℕ) → Spells D (s ∷ t ∷ []) u
      → (x : List ℕ) × (y : List ℕ) × (u ≡ x ++ y) × SpellsSymbol D s x × SpellsSymbol D t y
  two-spells s t u r = (r.0, r.1, r.2, r.3, one-spells t r.1 r.4)

-- Rules of at most two symbols are a grammar as document 000 has it: whatever their productions derive is derived by one of the rules.
-- Assumes nothing.
use Rattle.std.specs.Prelude.{◌≡◌, List, map, ℕ, suc}
use Rattle.std.proofs.Common.{sym, ap, ◌∙◌, subst}
use Rattle.spec_basics.specs.Elements.{In}
use Rattle.spec_basics.specs.Lists.{in_map, map-in}
use Rattle.spec_language.specs.Grammar.{Production, symbols, Rule, production_of}
use Rattle.spec_language.specs.Spelling.{Spells, DerivesWithin}

module _ (rules : List Rule) (h x : ℕ) (w : List ℕ) where
  -- one of the rules of x spells w, each nonterminal with height h at most
  abbrev pub DerivesByRule : Type 0
  DerivesByRule = (r : Rule) × In r rules × (r.head ≡ x) × Spells (DerivesWithin (map production_of rules) h) (symbols r.body) w

  pub of-rule : DerivesByRule → DerivesWithin (map production_of rules) (suc h) x w
  of-rule d = (production_of d.0, in_map production_of d.0 rules d.1, d.2, d.3)

  pub by-rule : DerivesWithin (map production_of rules) (suc h) x w → DerivesByRule
  by-rule d =
      let r = map-in production_of d.0 rules d.1 in (
        r.0,
        r.1,
        sym (ap (λ (p : Production). p.head) r.2) ∙ d.2,
        subst (λ (p : Production). Spells (DerivesWithin (map production_of rules) h) p.symbols w) r.2 d.3,
      )

-- Rewriting and spelling derive the same words. Assumes nothing.
use Rattle.std.specs.Prelude.{◌≡◌, refl, ◌↔◌, List, [], ◌∷◌, ◌++◌, map, ℕ, zero, suc, ◌≤◌}
use Rattle.std.proofs.Common.{sym, ap, ◌∙◌, subst, append_assoc, append-nil}
use Rattle.std.proofs.lemmas.List.{map-append}
use Rattle.std.proofs.Math.Decide.{le_ind}
use Rattle.spec_language.specs.Grammar.{Symbol, terminal, nonterminal, Production}
use Rattle.spec_language.specs.Rewriting.{Step, Steps, done, more, Language}
use Rattle.spec_language.proofs.RewritingLaws.{trans, inside}
use Rattle.spec_language.specs.Spelling.{SpellsSymbol, Spells, DerivesWithin, Derives}

-- ---- from spelling to rewriting, symbol by symbol

module _ (rules : List Production) (D : ℕ → List ℕ → Type 0) (each : (p : ℕ) (w : List ℕ) → D p w → Steps rules (nonterminal p ∷ []) (map terminal w)) where
  sym-steps : (s : Symbol) (w : List ℕ) → SpellsSymbol D s w → Steps rules (s ∷ []) (map terminal w)
  sym-steps (terminal c) w e = subst (λ (x : List ℕ). Steps rules (terminal c ∷ []) (map terminal x)) (sym e) done
  sym-steps (nonterminal p) w d = each p w d

  spell-steps : (ss : List Symbol) (w : List ℕ) → Spells D ss w → Steps rules ss (map terminal w)
  spell-steps [] w e = subst (λ (x : List ℕ). Steps rules [] (map terminal x)) (sym e) done
  spell-steps (s ∷ ss) w r =
      let u = r.0 in
      let v = r.1 in
      let first : Steps rules (s ∷ ss) (map terminal u ++ ss) = inside rules [] ss (sym-steps s u r.3) in
      let rest : Steps rules (map terminal u ++ (ss ++ [])) (map terminal u ++ (map terminal v ++ [])) = inside rules (map terminal u) [] (spell-steps ss v r.4) in
      let rest' : Steps rules (map terminal u ++ ss) (map terminal u ++ map terminal v) = rw (append-nil ss, append-nil (map terminal v)) at rest in
      subst (λ (x : List ℕ). Steps rules (s ∷ ss) (map terminal x)) (sym r.2)
      (subst (λ (x : List Symbol). Steps rules (s ∷ ss) x) (sym (map-append terminal u v)) (trans rules first rest'))

pub within-steps : (rules : List Production) (h p : ℕ) (w : List ℕ) → DerivesWithin rules h p w → Language rules p w
within-steps rules zero p w d = absurd d
within-steps rules (suc h) p w d =
    more
    (record { before = []; after = []; rule = d.0; listed = d.1; old = ap (λ (x : ℕ). nonterminal x ∷ []) (sym d.2); new = sym (append-nil d.0.symbols) })
    (spell-steps rules (DerivesWithin rules h) (within-steps rules h) d.0.symbols w d.3)

-- ---- from rewriting to spelling

module _ (D D' : ℕ → List ℕ → Type 0) (f : (p : ℕ) (w : List ℕ) → D p w → D' p w) where
  sym-mono : (s : Symbol) (w : List ℕ) → SpellsSymbol D s w → SpellsSymbol D' s w
  sym-mono (terminal c) w e = e
  sym-mono (nonterminal p) w d = f p w d

  pub spell-mono : (ss : List Symbol) (w : List ℕ) → Spells D ss w → Spells D' ss w
  spell-mono [] w e = e
  spell-mono (s ∷ ss) w r = (r.0, r.1, r.2, sym-mono s r.0 r.3, spell-mono ss r.1 r.4)

-- what derives within h derives within h + 1
pub taller : (rules : List Production) (h p : ℕ) (w : List ℕ) → DerivesWithin rules h p w → DerivesWithin rules (suc h) p w
taller rules zero p w d = absurd d
taller rules (suc h) p w d =
    (d.0, d.1, d.2, spell-mono (DerivesWithin rules h) (DerivesWithin rules (suc h)) (taller rules h) d.0.symbols w d.3)

pub within-le : (rules : List Production) (g h p : ℕ) (w : List ℕ) → g ≤ h → DerivesWithin rules g p w → DerivesWithin rules h p w
within-le rules g h p w l d = le_ind (λ (x : ℕ). DerivesWithin rules x p w) d (λ m k e. taller rules m p w e) h l

module _ (D : ℕ → List ℕ → Type 0) where
  -- a spelling of two sequences of symbols, one after the other, is cut in two; and two spellings are put together
  spell-cut : (xs ys : List Symbol) (w : List ℕ) → Spells D (xs ++ ys) w → (u : List ℕ) × (v : List ℕ) × (w ≡ u ++ v) × Spells D xs u × Spells D ys v
  spell-cut [] ys w r = ([], w, refl, refl, r)
  spell-cut (s ∷ xs) ys w r =
      let t = spell-cut xs ys r.1 r.4 in
      (r.0 ++ t.0, t.1, r.2 ∙ ap (λ (x : List ℕ). r.0 ++ x) t.2 ∙ sym (append_assoc r.0 t.0 t.1), (r.0, t.0, refl, r.3, t.3), t.4)

  spell-join : (xs ys : List Symbol) (u v : List ℕ) → Spells D xs u → Spells D ys v → Spells D (xs ++ ys) (u ++ v)
  spell-join [] ys u v e q = subst (λ (x : List ℕ). Spells D ys (x ++ v)) (sym e) q
  spell-join (s ∷ xs) ys u v r q =
      (r.0, r.1 ++ v, ap (λ (x : List ℕ). x ++ v) r.2 ∙ append_assoc r.0 r.1 v, r.3, spell-join xs ys r.1 v r.4 q)

  spell-steps-only : (w : List ℕ) → Spells D (map terminal w) w
  spell-steps-only [] = refl
  spell-steps-only (c ∷ w) = (c ∷ [], w, refl, refl, spell-steps-only w)

-- if α rewrites to β in one step and β spells w within height h, then α spells w within h + 1: undoing a step costs one more of height
back : (rules : List Production) (h : ℕ) (α β : List Symbol) (w : List ℕ) → Step rules α β → Spells (DerivesWithin rules h) β w → Spells (DerivesWithin rules (suc h)) α w
back rules h α β w s r =
    let D = DerivesWithin rules h in
    let D' = DerivesWithin rules (suc h) in
    let body = s.rule.symbols in
    let c = spell-cut D s.before (body ++ s.after) w (subst (λ (x : List Symbol). Spells D x w) s.new r) in
    let e = spell-cut D body s.after c.1 c.4 in
    let up = spell-mono D D' (taller rules h) in
    let mid : Spells D' (nonterminal s.rule.head ∷ s.after) c.1 =
    (e.0, e.1, e.2, (s.rule, s.listed, refl, e.3), up s.after e.1 e.4) in
    subst (λ (x : List Symbol). Spells D' x w) (sym s.old)
    (subst (λ (x : List ℕ). Spells D' (s.before ++ (nonterminal s.rule.head ∷ s.after)) x) (sym c.2)
    (spell-join D' s.before (nonterminal s.rule.head ∷ s.after) c.0 c.1 (up s.before c.0 c.3) mid))

steps-spell : (rules : List Production) {α β : List Symbol} → Steps rules α β → (w : List ℕ) → β ≡ map terminal w → (h : ℕ) × Spells (DerivesWithin rules h) α w
steps-spell rules done w e = (0, subst (λ (x : List Symbol). Spells (DerivesWithin rules 0) x w) (sym e) (spell-steps-only (DerivesWithin rules 0) w))
steps-spell rules (more {α} {β} s p) w e =
    let r = steps-spell rules p w e in
    (suc r.0, back rules r.0 α β w s r.1)

-- document 000's language of a nonterminal is what the nonterminal derives
pub language : (rules : List Production) (p : ℕ) (w : List ℕ) → Language rules p w ↔ Derives rules p w
language rules p w = (there, λ d. within-steps rules d.0 p w d.1)
  where
    there : Language rules p w → Derives rules p w
    there l =
        let r = steps-spell rules l w refl in
        let t = r.1 in
        let e : w ≡ t.0 = t.2 ∙ ap (λ (x : List ℕ). t.0 ++ x) t.4 ∙ append-nil t.0 in
        (r.0, subst (λ (x : List ℕ). DerivesWithin rules r.0 p x) (sym e) t.3)

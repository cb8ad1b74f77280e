-- The laws of the base check, and what derivations of words and of relations have to do with each other (document 000, Lemma 3).
-- Assumes nothing.
use Rattle.std.specs.Prelude.{◌≡◌, refl, Bool, true, List, [], ◌∷◌, ◌++◌, map, ℕ, zero, suc}
use Rattle.std.proofs.Common.{sym, ap, ap₂, ◌∙◌, subst, inl, append-nil, length-append}
use Rattle.spec_basics.specs.Tests.{and_intro, and-fst, and-snd}
use Rattle.spec_basics.specs.Lists.{in_one}
use Rattle.relation.specs.Relation.{identity, compose, contained, rejects}
use Rattle.relation.specs.DigitLaws.{subset-refl, subset-trans}
use Rattle.relation.specs.RelationLaws.{compose-mono, rejects-contained}
use Rattle.spec_language.specs.Grammar.{Symbol, terminal, nonterminal, Body, empty, one, two, symbols, Rule, production_of}
use Rattle.spec_language.specs.Spelling.{SpellsSymbol, Spells, DerivesWithin}
use Rattle.spec_language.proofs.RuleLaws.{of-rule, by-rule}
use Rattle.spec_language.specs.Automaton.{Automaton}
use Rattle.spec_language.specs.WordRelation.{letter_relation, word_relation, is_final}
use Rattle.spec_language.proofs.Paths.{word_relation-append, word_relation-one, word_relation-none}
use Rattle.spec_order.specs.Algebra.{Laws}
use Rattle.spec_order.specs.Derivation.{Values, SymbolGives, Gives, Yields}
use Rattle.spec_order.proofs.Carrying.{Along, yields-along}
use Rattle.spec_order.proofs.Completeness.{effect_values}
use Rattle.spec_order.proofs.Soundness.{spelled_values, Sizes}
use Rattle.spec_calls.specs.Base.{is_one_of, base_by, base, words}
use Rattle.spec_calls.proofs.MemberLaws.{one_of}

-- whatever the relations of the terminals and the final states
pub base-by-laws : (n : ℕ) (starts : List ℕ) (letter : ℕ → ℕ) (final : ℕ → Bool) → Laws (base_by n starts letter (rejects n final))
base-by-laws n starts letter final =
    record {
      below-refl = subset-refl;
      below-trans = subset-trans;
      pair-below = λ x x' y y' p q e m.
          (compose n x y, inl refl, subst (λ (z : ℕ). contained (compose n x y) z ≡ true) (sym (in_one e (compose n x' y') m)) (compose-mono n x x' y y' p q));
      breaks-below = λ x d e s b.
          and_intro (is_one_of starts x) (rejects n final d) (and-fst (is_one_of starts x) (rejects n final e) b)
          (rejects-contained n final d e s (and-snd (is_one_of starts x) (rejects n final e) b));
      breaks-starts = λ x e b. one_of starts x (and-fst (is_one_of starts x) (rejects n final e) b);
    }

pub base-laws : (n : ℕ) (starts : List ℕ) (A : Automaton) → Laws (base n starts A)
base-laws n starts A = base-by-laws n starts (letter_relation n A.transitions) (is_final A)

pub word-sizes : Sizes words
word-sizes = record { of-nothing = refl; of-single = λ c. refl; of-joined = λ e u v. length-append u v }

-- ---- words as values: spelling, with bodies of at most two symbols

abbrev pub word_values : Values (List ℕ)
word_values = record { IsEmpty = λ w. w ≡ []; IsTerminal = λ c w. w ≡ c ∷ []; IsPair = λ u v w. w ≡ u ++ v }

module _ (D D' : ℕ → List ℕ → Type 0) (each : (x : ℕ) (w : List ℕ) → D x w → D' x w) where
  symbol-gives : (s : Symbol) (w : List ℕ) → SpellsSymbol D s w → SymbolGives word_values D' s w
  symbol-gives (terminal c) w e = e
  symbol-gives (nonterminal x) w d = each x w d

  symbol-spells : (s : Symbol) (w : List ℕ) → SymbolGives word_values D s w → SpellsSymbol D' s w
  symbol-spells (terminal c) w e = e
  symbol-spells (nonterminal x) w d = each x w d

  body-gives : (b : Body) (w : List ℕ) → Spells D (symbols b) w → Gives word_values D' b w
  body-gives empty w e = e
  body-gives (one s) w r =
      let e : r.0 ≡ w = sym (r.2 ∙ ap (λ (x : List ℕ). r.0 ++ x) r.4 ∙ append-nil r.0) in
      symbol-gives s w (subst (SpellsSymbol D s) e r.3)
  body-gives (two s t) w r =
      let q = r.4 in
      let e : q.0 ≡ r.1 = sym (q.2 ∙ ap (λ (x : List ℕ). q.0 ++ x) q.4 ∙ append-nil q.0) in
      (r.0, r.1, symbol-gives s r.0 r.3, symbol-gives t r.1 (subst (SpellsSymbol D t) e q.3), r.2)

  body-spells : (b : Body) (w : List ℕ) → Gives word_values D b w → Spells D' (symbols b) w
  body-spells empty w e = e
  body-spells (one s) w g = (w, [], sym (append-nil w), symbol-spells s w g, refl)
  body-spells (two s t) w g = (g.0, g.1, g.4, symbol-spells s g.0 g.2, (g.1, [], sym (append-nil g.1), symbol-spells t g.1 g.3, refl))

pub within-yields : (rules : List Rule) (h x : ℕ) (w : List ℕ) → DerivesWithin (map production_of rules) h x w → Yields word_values rules h x w
within-yields rules zero x w d = absurd d
within-yields rules (suc h) x w d =
    let r = by-rule rules h x w d in
    (r.0, r.1, r.2, body-gives (DerivesWithin (map production_of rules) h) (Yields word_values rules h) (within-yields rules h) r.0.body w r.3)

pub yields_within : (rules : List Rule) (h x : ℕ) (w : List ℕ) → Yields word_values rules h x w → DerivesWithin (map production_of rules) h x w
yields_within rules zero x w d = absurd d
yields_within rules (suc h) x w d =
    of-rule rules h x w
    (d.0, d.1, d.2, body-spells (Yields word_values rules h) (DerivesWithin (map production_of rules) h) (yields_within rules h) d.0.body w d.3)

-- ---- a word and its relation

module _ (n : ℕ) (starts : List ℕ) (A : Automaton) where
  abbrev relation : List ℕ → ℕ
  relation = word_relation n A.transitions

  word-relation : Along word_values (effect_values (base n starts A)) (λ w e. relation w ≡ e)
  word-relation =
      record {
        of_empty = λ w q. (identity n, refl, ap relation q ∙ word_relation-none n A.transitions);
        of_terminal = λ c w q. (letter_relation n A.transitions c, refl, ap relation q ∙ word_relation-one n A.transitions c);
        of_pair = λ u v w x y p q m. (compose n x y, inl refl, ap relation m ∙ word_relation-append n A.transitions u v ∙ ap₂ (compose n) p q);
      }

  spelled-word : Along (spelled_values (base n starts A) words) word_values (λ v w. (v.0 ≡ w) × (relation w ≡ v.1))
  spelled-word =
      record {
        of_empty = λ v q. ([], refl, (q.0, word_relation-none n A.transitions ∙ sym q.1));
        of_terminal = λ c v q. (c ∷ [], refl, (q.0, word_relation-one n A.transitions c ∙ sym q.1));
        of_pair = λ x y v u w p q m.
            (u ++ w, refl, (m.1 ∙ ap₂ (λ (a b : List ℕ). a ++ b) p.0 q.0, word_relation-append n A.transitions u w ∙ ap₂ (compose n) p.1 q.1 ∙ sym (in_one v.1 (compose n x.1 y.1) m.0)));
      }

  -- the relation of a word that x derives is one that x derives
  pub relation-derived : (rules : List Rule) (h x : ℕ) (w : List ℕ) → DerivesWithin (map production_of rules) h x w → Yields (effect_values (base n starts A)) rules h x (word_relation n A.transitions w)
  relation-derived rules h x w d =
      let r = yields-along word_values (effect_values (base n starts A)) (λ w e. relation w ≡ e) word-relation rules h x w (within-yields rules h x w d) in
      subst (Yields (effect_values (base n starts A)) rules h x) (sym r.2) r.1

  -- the word behind a row derives from its nonterminal, with the row's relation
  pub word-derived : (rules : List Rule) (h x e : ℕ) (w : List ℕ) → Yields (spelled_values (base n starts A) words) rules h x (w, e)
      → DerivesWithin (map production_of rules) h x w × (word_relation n A.transitions w ≡ e)
  word-derived rules h x e w d =
      let r = yields-along (spelled_values (base n starts A) words) word_values (λ v w. (v.0 ≡ w) × (relation w ≡ v.1)) spelled-word rules h x (w, e) d in
      (yields_within rules h x w (subst (Yields word_values rules h x) (sym r.2.0) r.1), ap relation r.2.0 ∙ r.2.1)

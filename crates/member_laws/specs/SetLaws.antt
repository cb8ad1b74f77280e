-- Sets that are sound and closed under the rules hold exactly the nonterminals that derive: the empty word, and a stretch. Whatever
-- computed them. Assumes nothing.
use Rattle.std.specs.Prelude.{◌≡◌, refl, ◌⊎◌, Bool, true, false, ◌&&◌, ◌||◌, List, [], ◌∷◌, ◌++◌, ℕ, zero, suc, ◌≤◌, ◌<◌, length}
use Rattle.std.proofs.Common.{sym, ap, ◌∙◌, subst, inl, inr, append-nil, arith, eq-or-lt_of_le, eqb-true, eq-eqb}
use Rattle.std.proofs.lemmas.Bool.{false≢true}
use Rattle.std.proofs.Math.Seq.{slice, slice_empty}
use Rattle.spec_basics.specs.Tests.{and_intro, and-fst, and-snd, or_left, or_right}
use Rattle.spec_basics.specs.Elements.{In}
use Rattle.relation.specs.Digits.{bit}
use Rattle.spec_language.specs.Grammar.{Symbol, terminal, nonterminal, Body, empty, one, two, symbols, Rule}
use Rattle.spec_language.specs.Spelling.{SpellsSymbol, Spells}
use Rattle.spec_language.proofs.RuleLaws.{by-rule}
use Rattle.member_laws.specs.Sets.{among, all_in, same, is_unit, WithinBy, DerivesBy, AllDerive, Nullable, Carries}
use Rattle.member_laws.specs.SliceLaws.{slice_cut, slice-nil}
use Rattle.member_laws.specs.Derivations.{by-body, spell_one, spell-two, one-spells, two-spells}

same-eq : (s x : Symbol) → same s x ≡ true → s ≡ x
same-eq (terminal a) (terminal b) e = ap terminal (eqb-true a b e)
same-eq (terminal a) (nonterminal b) e = absurd (false≢true e)
same-eq (nonterminal a) (terminal b) e = absurd (false≢true e)
same-eq (nonterminal a) (nonterminal b) e = ap nonterminal (eqb-true a b e)

eq-same : (s : Symbol) → same s s ≡ true
eq-same (terminal a) = eq-eqb a a refl
eq-same (nonterminal a) = eq-eqb a a refl

-- ---- units

-- the three ways in which a body is a unit of x
pub data Unit-of (n : ℕ) : Symbol → Body → Type 0 where
  alone : {x : Symbol} → Unit-of n x (one x)
  before : {x y : Symbol} → among n y ≡ true → Unit-of n x (two x y)
  after : {x y : Symbol} → among n y ≡ true → Unit-of n x (two y x)

unit-ways : (n : ℕ) (s : Symbol) (b : Body) → is_unit n s b ≡ true → Unit-of n s b
unit-ways n s empty e = absurd (false≢true e)
unit-ways n s (one x) e = subst (λ (z : Symbol). Unit-of n z (one x)) (sym (same-eq s x e)) alone
unit-ways n s (two x y) e = by (same s x && among n y) refl
  where
    by : (t : Bool) → (same s x && among n y) ≡ t → Unit-of n s (two x y)
    by true p =
        subst (λ (z : Symbol). Unit-of n z (two x y)) (sym (same-eq s x (and-fst (same s x) (among n y) p))) (before (and-snd (same s x) (among n y) p))
    by false p =
        let q : (among n x && same s y) ≡ true = sym (ap (λ (t : Bool). t || (among n x && same s y)) p) ∙ e in
        subst (λ (z : Symbol). Unit-of n z (two x y)) (sym (same-eq s y (and-snd (among n x) (same s y) q))) (after (and-fst (among n x) (same s y) q))

pub ways-unit : (n : ℕ) {s : Symbol} {b : Body} → Unit-of n s b → is_unit n s b ≡ true
ways-unit n (alone {x}) = eq-same x
ways-unit n (before {x} {y} h) = or_left (same x x && among n y) (among n x && same x y) (and_intro (same x x) (among n y) (eq-same x) h)
ways-unit n (after {x} {y} h) = or_right (same x y && among n x) (among n y && same x x) (and_intro (among n y) (same x x) h (eq-same x))

module _ (rules : List Rule) where
  abbrev D : ℕ → List ℕ → Type 0
  D = DerivesBy rules

  -- a nonterminal of a set that derives the empty word
  among-empty : (n : ℕ) → AllDerive rules n [] → (y : Symbol) → among n y ≡ true → SpellsSymbol (DerivesBy rules) y []
  among-empty n a (terminal c) e = absurd (false≢true e)
  among-empty n a (nonterminal x) e = a x e

  unit-spells : (n : ℕ) → AllDerive rules n [] → {x : Symbol} {b : Body} → Unit-of n x b → (u : List ℕ) → SpellsSymbol (DerivesBy rules) x u
      → Spells (DerivesBy rules) (symbols b) u
  unit-spells n a (alone {x}) u d = spell_one D x u d
  unit-spells n a (before {x} {y} h) u d = subst (Spells D (x ∷ y ∷ [])) (append-nil u) (spell-two D x y u [] d (among-empty n a y h))
  unit-spells n a (after {x} {y} h) u d = spell-two D y x [] u (among-empty n a y h) d

  -- ---- one rule more keeps a set sound

  all-spells : (n : ℕ) → AllDerive rules n [] → (b : Body) → all_in n b ≡ true → Spells (DerivesBy rules) (symbols b) []
  all-spells n a empty e = refl
  all-spells n a (one s) e = spell_one D s [] (among-empty n a s e)
  all-spells n a (two s t) e =
      spell-two D s t [] [] (among-empty n a s (and-fst (among n s) (among n t) e)) (among-empty n a t (and-snd (among n s) (among n t) e))

  pub null-rule : (n : ℕ) → AllDerive rules n [] → (r : Rule) → In r rules → all_in n r.body ≡ true → DerivesBy rules r.head []
  null-rule n a r m e = by-body rules r [] m (all-spells n a r.body e)

  pub unit-rule : (n : ℕ) → AllDerive rules n [] → (s : Symbol) (r : Rule) → In r rules → is_unit n s r.body ≡ true → Carries rules s r.head
  unit-rule n a s r m e u d = by-body rules r u m (unit-spells n a (unit-ways n s r.body e) u d)

  -- ---- closed sets are complete

  nil-left : (u v : List ℕ) → [] ≡ u ++ v → u ≡ []
  nil-left [] v e = refl
  nil-left (c ∷ u) v e = absurd (let z : 0 ≡ suc (length (u ++ v)) = ap length e in omega arith)

  nil-right : (u v : List ℕ) → [] ≡ u ++ v → v ≡ []
  nil-right u v e = sym (e ∙ ap (λ (x : List ℕ). x ++ v) (nil-left u v e))

  module _ (n : ℕ) (closed : (r : Rule) → In r rules → all_in n r.body ≡ true → bit n r.head ≡ true) where
    symbol-empty : (E : ℕ → List ℕ → Type 0) → ((p : ℕ) → E p [] → bit n p ≡ true) → (s : Symbol) (u : List ℕ) → u ≡ [] → SpellsSymbol E s u → among n s ≡ true
    symbol-empty E ih (terminal c) u e d = absurd (let z : 1 ≡ 0 = ap length (sym d ∙ e) in omega arith)
    symbol-empty E ih (nonterminal x) u e d = ih x (subst (E x) e d)

    body-empty : (E : ℕ → List ℕ → Type 0) → ((p : ℕ) → E p [] → bit n p ≡ true) → (b : Body) → Spells E (symbols b) [] → all_in n b ≡ true
    body-empty E ih empty d = refl
    body-empty E ih (one s) d = symbol-empty E ih s [] refl (one-spells E s [] d)
    body-empty E ih (two s t) d =
        let q = two-spells E s t [] d in
        and_intro (among n s) (among n t)
        (symbol-empty E ih s q.0 (nil-left q.0 q.1 q.2) q.3)
        (symbol-empty E ih t q.1 (nil-right q.0 q.1 q.2) q.4)

    -- by induction on the height of the derivation
    pub null-complete : (h p : ℕ) → WithinBy rules h p [] → bit n p ≡ true
    null-complete zero p d = absurd d
    null-complete (suc h) p d =
        let r = by-rule rules h p [] d in
        subst (λ (x : ℕ). bit n x ≡ true) r.2 (closed r.0 r.1 (body-empty (WithinBy rules h) (null-complete h) r.0.body r.3))

  -- of a stretch of at least one letter: a set that has the heads of the units of each symbol that is the stretch's only letter or a
  -- nonterminal of the set, and the heads of the rules whose two symbols spell the stretch in two parts
  module _ (n : ℕ) (N : Nullable rules n) (w : List ℕ) (i j : ℕ) (low : i < j) (high : j ≤ length w) (set : ℕ)
      (closed : (r : Rule) → In r rules → (x : Symbol) → is_unit n x r.body ≡ true → SpellsSymbol (λ q u. bit set q ≡ true) x (slice i j w) → bit set r.head ≡ true)
      (split : (r : Rule) → In r rules → (x y : Symbol) → r.body ≡ two x y → (k : ℕ) → i < k → k < j
      → SpellsSymbol (DerivesBy rules) x (slice i k w) → SpellsSymbol (DerivesBy rules) y (slice k j w) → bit set r.head ≡ true) where
    -- a derivation that begins with the rule r, by those of height h
    module _ (h : ℕ) (ih : (q : ℕ) → WithinBy rules h q (slice i j w) → bit set q ≡ true) (r : Rule) (m : In r rules) where
      abbrev E : ℕ → List ℕ → Type 0
      E = WithinBy rules h

      lower : (x : Symbol) → SpellsSymbol (WithinBy rules h) x (slice i j w) → SpellsSymbol (λ q u. bit set q ≡ true) x (slice i j w)
      lower (terminal c) t = t
      lower (nonterminal x) t = ih x t

      unit : {x : Symbol} {b : Body} → r.body ≡ b → Unit-of n x b → SpellsSymbol (WithinBy rules h) x (slice i j w) → bit set r.head ≡ true
      unit {x} {b} e s t = closed r m x (subst (λ (c : Body). is_unit n x c ≡ true) (sym e) (ways-unit n s)) (lower x t)

      null : (x : Symbol) (k : ℕ) (u : List ℕ) → u ≡ slice k k w → SpellsSymbol (WithinBy rules h) x u → among n x ≡ true
      null x k u e t = symbol-empty n N.closed E (null-complete n N.closed h) x u (e ∙ slice_empty k w) t

      higher : (x : Symbol) (u : List ℕ) → SpellsSymbol (WithinBy rules h) x u → SpellsSymbol (DerivesBy rules) x u
      higher (terminal c) u t = t
      higher (nonterminal x) u t = (h, t)

      -- the two parts end and begin at step k: the first is empty, the second is, or neither
      cut : (x y : Symbol) (u v : List ℕ) → r.body ≡ two x y → SpellsSymbol (WithinBy rules h) x u → SpellsSymbol (WithinBy rules h) y v
          → (k : ℕ) → u ≡ slice i k w → v ≡ slice k j w → (i ≡ k) ⊎ (i < k) → (k ≡ j) ⊎ (k < j) → bit set r.head ≡ true
      cut x y u v e s t k p q (inl a) b =
          unit e (after (null x k u (p ∙ ap (λ (z : ℕ). slice z k w) a) s)) (subst (SpellsSymbol E y) (q ∙ ap (λ (z : ℕ). slice z j w) (sym a)) t)
      cut x y u v e s t k p q (inr a) (inl b) =
          unit e (before (null y k v (q ∙ ap (λ (z : ℕ). slice k z w) (sym b)) t)) (subst (SpellsSymbol E x) (p ∙ ap (λ (z : ℕ). slice i z w) b) s)
      cut x y u v e s t k p q (inr a) (inr b) = split r m x y e k a b (subst (SpellsSymbol D x) p (higher x u s)) (subst (SpellsSymbol D y) q (higher y v t))

      last : (b : Body) → r.body ≡ b → Spells (WithinBy rules h) (symbols b) (slice i j w) → bit set r.head ≡ true
      last empty e s = absurd (let z : i ≡ j = slice-nil w i j (omega arith) high s in let y : ⊥ = omega arith in y)
      last (one x) e s = unit e alone (one-spells E x (slice i j w) s)
      last (two x y) e s =
          let q = two-spells E x y (slice i j w) s in
          let c = slice_cut w i j q.0 q.1 (omega arith) high q.2 in
          cut x y q.0 q.1 e q.3 q.4 c.0 c.3 c.4 (eq-or-lt_of_le c.1) (eq-or-lt_of_le c.2)

    -- by induction on the height of the derivation
    pub cell-complete : (h p : ℕ) → WithinBy rules h p (slice i j w) → bit set p ≡ true
    cell-complete zero p d = absurd d
    cell-complete (suc h) p d =
        let r = by-rule rules h p (slice i j w) d in
        subst (λ (x : ℕ). bit set x ≡ true) r.2 (last h (cell-complete h) r.0 r.1 r.0.body refl r.3)

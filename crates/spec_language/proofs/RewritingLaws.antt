-- Rewriting goes on inside a form, and is carried from one grammar to another by a substitution for nonterminals. Assumes nothing.
use Rattle.std.specs.Prelude.{◌≡◌, refl, List, [], ◌∷◌, ◌++◌, map, ℕ}
use Rattle.std.proofs.Common.{sym, ap, ◌∙◌, subst₂, inl, inr, append_assoc, append-nil, arith}
use Rattle.spec_basics.specs.Elements.{In}
use Rattle.spec_language.specs.Grammar.{Symbol, terminal, nonterminal, Production}
use Rattle.spec_language.specs.Rewriting.{Step, Steps, done, more, Language}

module _ (ps : List Production) where
  pub trans : {α β γ : List Symbol} → Steps ps α β → Steps ps β γ → Steps ps α γ
  trans done q = q
  trans (more s p) q = more s (trans p q)

  -- a production, used on its nonterminal alone
  pub once : (p : Production) → In p ps → Steps ps (nonterminal p.head ∷ []) p.symbols
  once p h = more (record { before = []; after = []; rule = p; listed = h; old = refl; new = let e = append-nil p.symbols in cc }) done

  in_step : (π ω : List Symbol) {α β : List Symbol} → Step ps α β → Step ps (π ++ (α ++ ω)) (π ++ (β ++ ω))
  in_step π ω {α} {β} s =
      record {
        before = π ++ s.before;
        after = s.after ++ ω;
        rule = s.rule;
        listed = s.listed;
        old = ap (λ (x : List Symbol). π ++ (x ++ ω)) s.old ∙ shape _;
        new = ap (λ (x : List Symbol). π ++ (x ++ ω)) s.new ∙ shape (s.rule.symbols ++ s.after)
            ∙ ap (λ (x : List Symbol). π ++ s.before ++ x) (append_assoc s.rule.symbols s.after ω);
      }
    where
      shape : (x : List Symbol) → π ++ (s.before ++ x ++ ω) ≡ π ++ s.before ++ (x ++ ω)
      shape x = ap (λ (y : List Symbol). π ++ y) (append_assoc s.before x ω) ∙ sym (append_assoc π s.before (x ++ ω))

  pub inside : (π ω : List Symbol) {α β : List Symbol} → Steps ps α β → Steps ps (π ++ (α ++ ω)) (π ++ (β ++ ω))
  inside π ω done = done
  inside π ω (more s p) = more (in_step π ω s) (inside π ω p)

-- ---- a form in which each nonterminal is replaced by a form

module _ (σ : ℕ → List Symbol) where
  abbrev pub replaced : List Symbol → List Symbol
  replaced [] = []
  replaced (terminal c ∷ α) = terminal c ∷ replaced α
  replaced (nonterminal x ∷ α) = σ x ++ replaced α

  pub replaced-append : (α β : List Symbol) → replaced (α ++ β) ≡ replaced α ++ replaced β
  replaced-append [] β = refl
  replaced-append (terminal c ∷ α) β = ap (λ (x : List Symbol). terminal c ∷ x) (replaced-append α β)
  replaced-append (nonterminal x ∷ α) β = ap (λ (y : List Symbol). σ x ++ y) (replaced-append α β) ∙ sym (append_assoc (σ x) (replaced α) (replaced β))

  pub replaced-word : (w : List ℕ) → replaced (map terminal w) ≡ map terminal w
  replaced-word [] = refl
  replaced-word (c ∷ w) = ap (λ (x : List Symbol). terminal c ∷ x) (replaced-word w)

-- where each nonterminal of a form stays
pub replaced-same : (σ : ℕ → List Symbol) (α : List Symbol) → ((x : ℕ) → In (nonterminal x) α → σ x ≡ nonterminal x ∷ []) → replaced σ α ≡ α
replaced-same σ [] h = refl
replaced-same σ (terminal c ∷ α) h = ap (λ (x : List Symbol). terminal c ∷ x) (replaced-same σ α (λ x m. h x (inr m)))
replaced-same σ (nonterminal y ∷ α) h = rw (h y (inl refl)) (ap (λ (x : List Symbol). nonterminal y ∷ x) (replaced-same σ α (λ x m. h x (inr m))))

-- where each production of the one grammar, replaced, is rewritten by the other, so is whatever the one rewrites
module _ (ps qs : List Production) (σ : ℕ → List Symbol)
    (each : (p : Production) → In p ps → Steps qs (σ p.head) (replaced σ p.symbols)) where
  carried_step : {α β : List Symbol} → Step ps α β → Steps qs (replaced σ α) (replaced σ β)
  carried_step s =
      subst₂ (Steps qs)
      (sym (ap (replaced σ) s.old ∙ replaced-append σ s.before (nonterminal s.rule.head ∷ s.after)))
      (sym (ap (replaced σ) s.new ∙ replaced-append σ s.before (s.rule.symbols ++ s.after) ∙ ap (λ (x : List Symbol). replaced σ s.before ++ x) (replaced-append σ s.rule.symbols s.after)))
      (inside qs (replaced σ s.before) (replaced σ s.after) (each s.rule s.listed))

  pub carried : {α β : List Symbol} → Steps ps α β → Steps qs (replaced σ α) (replaced σ β)
  carried done = done
  carried (more s p) = trans qs (carried_step s) (carried p)

  pub carried-word : (x : ℕ) (w : List ℕ) → σ x ≡ nonterminal x ∷ [] → Language ps x w → Language qs x w
  carried-word x w e g = subst₂ (Steps qs) (append-nil (σ x) ∙ e) (replaced-word σ w) (carried g)

-- a grammar with the productions of another, in any order
pub more-productions : (ps qs : List Production) → ((p : Production) → In p ps → In p qs) → (x : ℕ) (w : List ℕ) → Language ps x w → Language qs x w
more-productions ps qs h x w g =
    carried-word ps qs (λ y. nonterminal y ∷ []) (λ p m. rw (replaced-same (λ y. nonterminal y ∷ []) p.symbols (λ y k. refl)) (once qs p (h p m))) x w refl g

-- ---- a nonterminal that no production rewrites derives no word

nothing-from : (ps : List Production) (x : ℕ) → ((p : Production) → In p ps → p.head ≡ x → ⊥) → {α β : List Symbol} → Steps ps α β → α ≡ nonterminal x ∷ [] → (w : List ℕ) → β ≡ map terminal w → ⊥
nothing-from ps x h done e [] f = let z : ◌≡◌ {A = ℕ} 0 1 = cc in let y : ⊥ = omega arith in y
nothing-from ps x h done e (c ∷ w) f = let z : ◌≡◌ {A = ℕ} 0 1 = cc in let y : ⊥ = omega arith in y
nothing-from ps x h (more s p) e w f = by s.before (sym s.old ∙ e)
  where
    by : (π : List Symbol) → π ++ (nonterminal s.rule.head ∷ s.after) ≡ nonterminal x ∷ [] → ⊥
    by [] q = h s.rule s.listed (let z : s.rule.head ≡ x = cc in z)
    by (a ∷ []) q = let z : ◌≡◌ {A = ℕ} 0 1 = cc in let y : ⊥ = omega arith in y
    by (a ∷ b ∷ π) q = let z : ◌≡◌ {A = ℕ} 0 1 = cc in let y : ⊥ = omega arith in y

pub no_words : (ps : List Production) (x : ℕ) (w : List ℕ) → ((p : Production) → In p ps → p.head ≡ x → ⊥) → Language ps x w → ⊥
no_words ps x w h g = nothing-from ps x h g refl w refl

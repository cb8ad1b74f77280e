-- Unfolding leaves what each procedure derives as it was (document 02, C-17). Assumes nothing.
use Rattle.std.specs.Prelude.{◌≡◌, refl, ◌↔◌, ◌⊎◌, cond, ℕ, suc, ◌+◌, ◌-◌, ◌≤◌, ◌<◌, ltb, length, drop}
use Rattle.std.proofs.Common.{sym, ◌∙◌, subst, inl, inr, lt-ltb, le-ltb}
use Rattle.std.proofs.Math.Path.{ap}
use mathlib.Core.List.{List, [], ◌∷◌, ◌++◌, map, append-nil}
use native.Mathlib.Omega.{arith}
use Rattle.spec_basics.specs.Elements.{In}
use Rattle.spec_basics.specs.Lists.{in_left, in_right, in-cases, in_map, map-in}
use Rattle.spec_language.specs.Grammar.{Symbol, nonterminal, Production}
use Rattle.spec_language.specs.Rewriting.{Steps, done, Language}
use Rattle.spec_language.proofs.RewritingLaws.{trans, once, inside, replaced, replaced-append, replaced-same, carried-word}
use Rattle.spec_unfold.specs.Chains.{RuleOver, chains_for, chain, unfolded}

-- a form of procedures
abbrev alone : ℕ → List Symbol
alone x = nonterminal x ∷ []

-- rules over symbols as document 000 has them
abbrev pub as_production : RuleOver Symbol → Production
as_production p = record { head = p.head; symbols = p.body }

abbrev pub as_productions : List (RuleOver Symbol) → List Production
as_productions ps = map as_production ps

-- every number from n on is free
pub record Fresh {S : Type 0} (call : ℕ → S) (n : ℕ) (ps : List (RuleOver S)) : Type 0 where
  pub heads : (p : RuleOver S) → In p ps → p.head < n
  pub symbols : (p : RuleOver S) → In p ps → (x : ℕ) → In (call x) p.body → x < n

-- ---- what was derived still is

-- a rule, used on its head alone
used : (qs : List (RuleOver Symbol)) (q : RuleOver Symbol) → In q qs → Steps (as_productions qs) (alone q.head) q.body
used qs q h = once (as_productions qs) (as_production q) (in_map as_production q qs h)

chain_steps : (qs : List (RuleOver Symbol)) (x n : ℕ) (body : List Symbol) → ((q : RuleOver Symbol) → In q (chain nonterminal x n body) → In q qs) → Steps (as_productions qs) (alone x) body
unfolding chain
chain_steps qs x n [] h = used qs _ (h (record { head = x; body = [] }) (inl refl))
chain_steps qs x n (s ∷ []) h = used qs _ (h (record { head = x; body = s ∷ [] }) (inl refl))
chain_steps qs x n (s ∷ t ∷ []) h = used qs _ (h (record { head = x; body = s ∷ t ∷ [] }) (inl refl))
chain_steps qs x n (s ∷ t ∷ u ∷ rest) h =
    let first = used qs _ (h (record { head = x; body = s ∷ nonterminal n ∷ [] }) (inl refl)) in
    let later = chain_steps qs n (suc n) (t ∷ u ∷ rest) (λ q m. h q (inr m)) in
    trans (as_productions qs) first (rw (append-nil (t ∷ u ∷ rest)) at (inside (as_productions qs) (s ∷ []) [] later))

chain-listed : (n : ℕ) (ps : List (RuleOver Symbol)) (p : RuleOver Symbol) → In p ps
    → (m : ℕ) × ((q : RuleOver Symbol) → In q (chain nonterminal p.head m p.body) → In q (unfolded nonterminal n ps))
unfolding unfolded
chain-listed n [] p h = absurd h
chain-listed n (r ∷ ps) p (inl e) =
    (n, λ q k. in_left q (chain nonterminal r.head n r.body) (unfolded nonterminal (n + chains_for r) ps) (subst (λ (v : RuleOver Symbol). In q (chain nonterminal v.head n v.body)) e k))
chain-listed n (r ∷ ps) p (inr h) =
    let later = chain-listed (n + chains_for r) ps p h in
    (later.0, λ q k. in_right q (chain nonterminal r.head n r.body) (unfolded nonterminal (n + chains_for r) ps) (later.1 q k))

-- where each rule, replaced, is rewritten by another grammar, so is whatever the rules derive
carried-rules : (ps : List (RuleOver Symbol)) (qs : List Production) (σ : ℕ → List Symbol)
    → ((p : RuleOver Symbol) → In p ps → Steps qs (σ p.head) (replaced σ p.body)) → (x : ℕ) (w : List ℕ) → σ x ≡ alone x → Language (as_productions ps) x w → Language qs x w
carried-rules ps qs σ each =
    carried-word (as_productions ps) qs σ
    (λ p h. let t = map-in as_production p ps h in subst (λ (r : Production). Steps qs (σ r.head) (replaced σ r.symbols)) (sym t.2) (each t.0 t.1))

pub kept : (n : ℕ) (ps : List (RuleOver Symbol)) (x : ℕ) (w : List ℕ) → Language (as_productions ps) x w → Language (as_productions (unfolded nonterminal n ps)) x w
kept n ps x w =
    let qs = unfolded nonterminal n ps in
    carried-rules ps (as_productions qs) alone (λ p h. rw (replaced-same alone p.body (λ y k. refl)) (chain_steps qs p.head _ p.body (chain-listed n ps p h).1)) x w refl

-- ---- and nothing else is

-- what a chain procedure stands for: the rest of its body. Every other procedure stands for itself
stands : ℕ → List (RuleOver Symbol) → ℕ → List Symbol
stands n [] c = alone c
stands n (p ∷ ps) c = cond (ltb c n) (alone c) (cond (ltb c (n + chains_for p)) (drop (suc (c - n)) p.body) (stands (n + chains_for p) ps c))

stands-low : (n : ℕ) (ps : List (RuleOver Symbol)) (c : ℕ) → c < n → stands n ps c ≡ alone c
unfolding stands
stands-low n [] c h = refl
stands-low n (p ∷ ps) c h = rw (lt-ltb c n h)

stands_here : (n : ℕ) (p : RuleOver Symbol) (ps : List (RuleOver Symbol)) (k : ℕ) → k < chains_for p → stands n (p ∷ ps) (n + k) ≡ drop (suc k) p.body
unfolding stands
stands_here n p ps k h =
    let z : n + k - n ≡ k = omega arith in
    rw (le-ltb (n + k) n (omega arith), lt-ltb (n + k) (n + chains_for p) (omega arith)) (ap (λ (j : ℕ). drop (suc j) p.body) z)

stands-later : (n : ℕ) (p : RuleOver Symbol) (ps : List (RuleOver Symbol)) (c : ℕ) → n + chains_for p ≤ c → stands n (p ∷ ps) c ≡ stands (n + chains_for p) ps c
unfolding stands
stands-later n p ps c h = rw (le-ltb c n (omega arith), le-ltb c (n + chains_for p) h)

module _ (ps : List (RuleOver Symbol)) (σ : ℕ → List Symbol) where
  -- a rule of a chain, with what its procedures stand for, is one step or none
  chain_back : (x n : ℕ) (body : List Symbol) → Steps (as_productions ps) (σ x) body → ((y : ℕ) → In (nonterminal y) body → σ y ≡ alone y)
      → ((k : ℕ) → k < length body - 2 → σ (n + k) ≡ drop (suc k) body)
      → (q : RuleOver Symbol) → In q (chain nonterminal x n body) → Steps (as_productions ps) (σ q.head) (replaced σ q.body)
  unfolding chain
  chain_back x n [] d fix st q (inl e) = rw e d
  chain_back x n [] d fix st q (inr h) = absurd h
  chain_back x n (s ∷ []) d fix st q (inl e) = rw (e, replaced-same σ (s ∷ []) fix) d
  chain_back x n (s ∷ []) d fix st q (inr h) = absurd h
  chain_back x n (s ∷ t ∷ []) d fix st q (inl e) = rw (e, replaced-same σ (s ∷ t ∷ []) fix) d
  chain_back x n (s ∷ t ∷ []) d fix st q (inr h) = absurd h
  chain_back x n (s ∷ t ∷ u ∷ rest) d fix st q h = by h (chain_back n (suc n) (t ∷ u ∷ rest) (subst (λ (α : List Symbol). Steps (as_productions ps) (σ n) α) there done) (λ y k. fix y (inr k)) later q)
    where
      there : σ n ≡ t ∷ u ∷ rest
      there = let z : n ≡ n + 0 = omega arith in ap σ z ∙ st 0 (omega arith)

      later : (k : ℕ) → k < length (t ∷ u ∷ rest) - 2 → σ (suc n + k) ≡ drop (suc k) (t ∷ u ∷ rest)
      later k l = let z : suc n + k ≡ n + suc k = omega arith in ap σ z ∙ st (suc k) (omega arith)

      whole : replaced σ (s ∷ nonterminal n ∷ []) ≡ s ∷ t ∷ u ∷ rest
      whole =
          replaced-append σ (s ∷ []) (nonterminal n ∷ [])
          ∙ ap (λ (α : List Symbol). α ++ (σ n ++ [])) (replaced-same σ (s ∷ []) (λ y k. fix y (by_first y k)))
          ∙ ap (λ (α : List Symbol). s ∷ α) (append-nil (σ n) ∙ there)
        where
          by_first : (y : ℕ) → In (nonterminal y) (s ∷ []) → In (nonterminal y) (s ∷ t ∷ u ∷ rest)
          by_first y (inl e) = inl e
          by_first y (inr k) = absurd k

      by : In q (record { head = x; body = s ∷ nonterminal n ∷ [] } ∷ chain nonterminal n (suc n) (t ∷ u ∷ rest))
          → (In q (chain nonterminal n (suc n) (t ∷ u ∷ rest)) → Steps (as_productions ps) (σ q.head) (replaced σ q.body)) → Steps (as_productions ps) (σ q.head) (replaced σ q.body)
      by (inl e) ih = rw (e, whole) d
      by (inr k) ih = ih k

  -- m: the procedures below it stand for themselves
  unfolded-back : (m : ℕ) → ((c : ℕ) → c < m → σ c ≡ alone c) → (n : ℕ) (rs : List (RuleOver Symbol)) → ((p : RuleOver Symbol) → In p rs → In p ps)
      → Fresh nonterminal m rs → ((c : ℕ) → n ≤ c → σ c ≡ stands n rs c)
      → (q : RuleOver Symbol) → In q (unfolded nonterminal n rs) → Steps (as_productions ps) (σ q.head) (replaced σ q.body)
  unfolding unfolded
  unfolded-back m low n [] sub fresh st q h = absurd h
  unfolded-back m low n (p ∷ rs) sub fresh st q h = by (in-cases q (chain nonterminal p.head n p.body) (unfolded nonterminal (n + chains_for p) rs) h)
      (unfolded-back m low (n + chains_for p) rs (λ r k. sub r (inr k)) (record { heads = λ r k. fresh.heads r (inr k); symbols = λ r k. fresh.symbols r (inr k) })
      (λ c l. st c (omega arith) ∙ stands-later n p rs c l) q)
    where
      by : In q (chain nonterminal p.head n p.body) ⊎ In q (unfolded nonterminal (n + chains_for p) rs)
          → (In q (unfolded nonterminal (n + chains_for p) rs) → Steps (as_productions ps) (σ q.head) (replaced σ q.body)) → Steps (as_productions ps) (σ q.head) (replaced σ q.body)
      by (inl k) ih =
          chain_back p.head n p.body (rw (low p.head (fresh.heads p (inl refl))) (used ps p (sub p (inl refl))))
          (λ y e. low y (fresh.symbols p (inl refl) y e)) (λ j l. st (n + j) (omega arith) ∙ stands_here n p rs j l) q k
      by (inr k) ih = ih k

pub nothing-new : (n : ℕ) (ps : List (RuleOver Symbol)) → Fresh nonterminal n ps → (x : ℕ) (w : List ℕ) → x < n → Language (as_productions (unfolded nonterminal n ps)) x w → Language (as_productions ps) x w
nothing-new n ps fresh x w l =
    carried-rules (unfolded nonterminal n ps) (as_productions ps) (stands n ps) (unfolded-back ps (stands n ps) n (stands-low n ps) n ps (λ p h. h) fresh (λ c h. refl)) x w (stands-low n ps x l)

-- each procedure below the chain procedures derives the same words
pub same-words : (n : ℕ) (ps : List (RuleOver Symbol)) → Fresh nonterminal n ps → (x : ℕ) (w : List ℕ) → x < n → Language (as_productions ps) x w ↔ Language (as_productions (unfolded nonterminal n ps)) x w
same-words n ps fresh x w l = (kept n ps x w, nothing-new n ps fresh x w l)

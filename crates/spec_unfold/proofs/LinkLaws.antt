-- The rules of an unfolding, by their places in the chains (document 02, C-17: "in file order and left to right"). Assumes nothing.
use Rattle.std.specs.Prelude.{◌≡◌, refl, ◌↔◌, ◌⊎◌, Bool, List, [], ◌∷◌, ◌++◌, ℕ, zero, suc, ◌+◌, ◌-◌, ◌≤◌, ltb, length, drop}
use Rattle.std.proofs.Common.{sym, ap, ◌∙◌, subst, inl, inr, arith, ltb-true, lt-ltb}
use Rattle.std.proofs.lemmas.List.{map-append}
use Rattle.spec_basics.specs.Elements.{In}
use Rattle.spec_basics.specs.Lists.{in_left, in_right, in-cases}
use Rattle.spec_basics.specs.Tests.{iff-equal}
use Rattle.spec_language.specs.Grammar.{Symbol, nonterminal, Production}
use Rattle.spec_unfold.specs.Chains.{RuleOver, chains_for, chain, unfolded}
use Rattle.spec_unfold.proofs.ChainLaws.{as_production, as_productions}
use Rattle.spec_unfold.specs.UnfoldingMeans.{taken_by, link_head, link_by, link, IsLink}

-- ---- one chain

-- rule k + 1 of a long body is rule k of its rest
link-next : (x n : ℕ) (s t u : Symbol) (rest : List Symbol) (k : ℕ)
    → link (record { head = n; symbols = t ∷ u ∷ rest }) (suc n) k ≡ link (record { head = x; symbols = s ∷ t ∷ u ∷ rest }) n (suc k)
link-next x n s t u rest k =
    let one : suc n + k ≡ n + suc k = omega arith in
    let later = length (t ∷ u ∷ rest) - 2 in
    let all = length (s ∷ t ∷ u ∷ rest) - 2 in
    let test : ltb k later ≡ ltb (suc k) all =
    iff-equal (ltb k later) (ltb (suc k) all) (λ e. lt-ltb (suc k) all (let z = ltb-true k later e in omega arith)) (λ e. lt-ltb k later (let z = ltb-true (suc k) all e in omega arith)) in
    λ i. record { head = heads k i; symbols = link_by (test i) (one i) (drop k (t ∷ u ∷ rest)) }
  where
    heads : (k : ℕ) → link_head n (suc n) k ≡ n + k
    heads zero = omega arith
    heads (suc k) = omega arith

link-first : (x n : ℕ) (s t u : Symbol) (rest : List Symbol) → record { head = x; symbols = s ∷ nonterminal n ∷ [] } ≡ link (record { head = x; symbols = s ∷ t ∷ u ∷ rest }) n 0
link-first x n s t u rest =
    let zero-on : n ≡ n + 0 = omega arith in
    let test = lt-ltb 0 (length (s ∷ t ∷ u ∷ rest) - 2) (omega arith) in
    ap (λ (m : ℕ). record { head = x; symbols = s ∷ nonterminal m ∷ [] }) zero-on
    ∙ ap (λ (b : Bool). record { head = x; symbols = link_by b (n + 0) (s ∷ t ∷ u ∷ rest) }) (sym test)

chain-links : (x n : ℕ) (body : List Symbol) (q : Production) → In q (as_productions (chain nonterminal x n body)) → (k : ℕ) × (k ≤ length body - 2) × (q ≡ link (record { head = x; symbols = body }) n k)
unfolding chain
chain-links x n [] q (inl e) = (0, omega arith, e)
chain-links x n [] q (inr h) = absurd h
chain-links x n (s ∷ []) q (inl e) = (0, omega arith, e)
chain-links x n (s ∷ []) q (inr h) = absurd h
chain-links x n (s ∷ t ∷ []) q (inl e) = (0, omega arith, e)
chain-links x n (s ∷ t ∷ []) q (inr h) = absurd h
chain-links x n (s ∷ t ∷ u ∷ rest) q (inl e) = (0, omega arith, e ∙ link-first x n s t u rest)
chain-links x n (s ∷ t ∷ u ∷ rest) q (inr h) =
    let r = chain-links n (suc n) (t ∷ u ∷ rest) q h in
    let l = r.1 in
    (suc r.0, omega arith, r.2 ∙ link-next x n s t u rest r.0)

links-chain : (x n : ℕ) (body : List Symbol) (k : ℕ) → k ≤ length body - 2 → In (link (record { head = x; symbols = body }) n k) (as_productions (chain nonterminal x n body))
unfolding chain
links-chain x n [] zero l = inl refl
links-chain x n [] (suc k) l = absurd (let z : ⊥ = omega arith in z)
links-chain x n (s ∷ []) zero l = inl refl
links-chain x n (s ∷ []) (suc k) l = absurd (let z : ⊥ = omega arith in z)
links-chain x n (s ∷ t ∷ []) zero l = inl refl
links-chain x n (s ∷ t ∷ []) (suc k) l = absurd (let z : ⊥ = omega arith in z)
links-chain x n (s ∷ t ∷ u ∷ rest) zero l = inl (sym (link-first x n s t u rest))
links-chain x n (s ∷ t ∷ u ∷ rest) (suc k) l =
    inr (subst (λ (q : Production). In q (as_productions (chain nonterminal n (suc n) (t ∷ u ∷ rest)))) (link-next x n s t u rest k) (links-chain n (suc n) (t ∷ u ∷ rest) k (omega arith)))

-- ---- all chains

unfolded-links : (n : ℕ) (rs : List (RuleOver Symbol)) (q : Production) → In q (as_productions (unfolded nonterminal n rs)) → IsLink n (as_productions rs) q
unfolding unfolded
unfolded-links n [] q h = absurd h
unfolded-links n (p ∷ rs) q h =
    by (in-cases q (as_productions (chain nonterminal p.head n p.body)) (as_productions (unfolded nonterminal (n + chains_for p) rs))
    (subst (In q) (map-append as_production (chain nonterminal p.head n p.body) (unfolded nonterminal (n + chains_for p) rs)) h))
    (unfolded-links (n + chains_for p) rs q)
  where
    by : In q (as_productions (chain nonterminal p.head n p.body)) ⊎ In q (as_productions (unfolded nonterminal (n + chains_for p) rs))
        → (In q (as_productions (unfolded nonterminal (n + chains_for p) rs)) → IsLink (n + chains_for p) (as_productions rs) q) → IsLink n (as_productions (p ∷ rs)) q
    by (inl c) ih =
        let r = chain-links p.head n p.body q c in
        let z : n ≡ n + 0 = omega arith in
        ([], as_production p, as_productions rs, refl, r.0, r.1, r.2 ∙ ap (λ (m : ℕ). link (as_production p) m r.0) z)
    by (inr c) ih =
        let r = ih c in
        let z : n + chains_for p + taken_by r.0 ≡ n + (chains_for p + taken_by r.0) = omega arith in
        (as_production p ∷ r.0, r.1, r.2, ap (λ (l : List Production). as_production p ∷ l) r.3, r.4, r.5, r.6 ∙ ap (λ (m : ℕ). link r.1 m r.4) z)

links-unfolded : (n : ℕ) (rs : List (RuleOver Symbol)) (before : List Production) (p : Production) (after : List Production) → as_productions rs ≡ before ++ (p ∷ after)
    → (k : ℕ) → k ≤ length p.symbols - 2 → In (link p (n + taken_by before) k) (as_productions (unfolded nonterminal n rs))
unfolding unfolded
links-unfolded n [] [] p after e k l = absurd (let z : ◌≡◌ {A = ℕ} 0 1 = cc in let y : ⊥ = omega arith in y)
links-unfolded n [] (b ∷ before) p after e k l = absurd (let z : ◌≡◌ {A = ℕ} 0 1 = cc in let y : ⊥ = omega arith in y)
links-unfolded n (r ∷ rs) [] p after e k l =
    let same : as_production r ≡ p = cc in
    let z : n ≡ n + 0 = omega arith in
    let m = links-chain r.head n r.body k (subst (λ (x : Production). k ≤ length x.symbols - 2) (sym same) l) in
    let whole = in_left (link (as_production r) n k) (as_productions (chain nonterminal r.head n r.body)) (as_productions (unfolded nonterminal (n + chains_for r) rs)) m in
    subst (In (link p (n + 0) k)) (sym (map-append as_production (chain nonterminal r.head n r.body) (unfolded nonterminal (n + chains_for r) rs)))
    (subst (λ (x : Production). In x (as_productions (chain nonterminal r.head n r.body) ++ as_productions (unfolded nonterminal (n + chains_for r) rs))) (λ i. link (same i) (z i) k) whole)
links-unfolded n (r ∷ rs) (b ∷ before) p after e k l =
    let same : b ≡ as_production r = cc in
    let rest : as_productions rs ≡ before ++ (p ∷ after) = cc in
    let m = links-unfolded (n + chains_for r) rs before p after rest k l in
    let size : length b.symbols ≡ length r.body = ap (λ (x : Production). length x.symbols) same in
    let z : n + chains_for r + taken_by before ≡ n + (length b.symbols - 2 + taken_by before) = omega arith in
    subst (In (link p (n + taken_by (b ∷ before)) k)) (sym (map-append as_production (chain nonterminal r.head n r.body) (unfolded nonterminal (n + chains_for r) rs)))
    (in_right (link p (n + taken_by (b ∷ before)) k) (as_productions (chain nonterminal r.head n r.body)) (as_productions (unfolded nonterminal (n + chains_for r) rs))
    (subst (λ (x : ℕ). In (link p x k) (as_productions (unfolded nonterminal (n + chains_for r) rs))) z m))

-- the rules of the unfolding are just the links
pub links-exactly : (n : ℕ) (rs : List (RuleOver Symbol)) (q : Production) → In q (as_productions (unfolded nonterminal n rs)) ↔ IsLink n (as_productions rs) q
links-exactly n rs q = (
  unfolded-links n rs q,
  λ r. subst (λ (x : Production). In x (as_productions (unfolded nonterminal n rs))) (sym r.6) (links-unfolded n rs r.0 r.1 r.2 r.3 r.4 r.5),
)

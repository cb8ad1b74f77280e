-- The rules that bodies unfold to: how many there are, what they hold, and that no two of them are equal. Assumes nothing.
use Rattle.std.specs.Prelude.{◌≡◌, ◌⊎◌, length}
use Rattle.std.proofs.Math.Path.{refl, ap, ap₂}
use Rattle.std.proofs.Common.{sym, ◌∙◌, subst}
use Rattle.std.proofs.Math.Logic.{inl, inr, ⊎_elim}
use mathlib.Core.List.{List, [], ◌∷◌, ◌++◌}
use Prim.Native.Nat.{ℕ, suc, ◌+◌, ◌-◌, ◌≤◌, ◌<◌}
use native.Mathlib.Omega.{arith}
use Rattle.std.proofs.Math.ListN.{length-append}
use Rattle.spec_basics.specs.Elements.{In}
use Rattle.spec_basics.specs.Lists.{in-cases}
use Rattle.spec_unfold.specs.Chains.{RuleOver, chains_for, chains_in, chain, unfolded}
use Rattle.spec_unfold.proofs.ChainLaws.{Fresh}
use Rattle.spec_unfold.proofs.SortingLaws.{Distinct}

module _ {S : Type 0} (call : ℕ → S) where
  -- ---- how many

  length-chain : (x n : ℕ) (body : List S) → length (chain call x n body) ≡ suc (length body - 2)
  unfolding chain
  length-chain x n [] = refl
  length-chain x n (s ∷ []) = refl
  length-chain x n (s ∷ t ∷ []) = refl
  length-chain x n (s ∷ t ∷ u ∷ rest) = ap suc (length-chain n (suc n) (t ∷ u ∷ rest)) ∙ (let z : suc (suc (length (t ∷ u ∷ rest) - 2)) ≡ suc (length (s ∷ t ∷ u ∷ rest) - 2) = omega arith in z)

  pub length-unfolded : (n : ℕ) (ps : List (RuleOver S)) → length (unfolded call n ps) ≡ length ps + chains_in ps
  unfolding unfolded chains_in
  length-unfolded n [] = refl
  length-unfolded n (p ∷ ps) =
      length-append (chain call p.head n p.body) (unfolded call (n + chains_for p) ps)
      ∙ ap₂ (λ (a b : ℕ). a + b) (length-chain p.head n p.body) (length-unfolded (n + chains_for p) ps) ∙ (let z : suc (length p.body - 2) + (length ps + chains_in ps) ≡ suc (length ps) + (length p.body - 2 + chains_in ps) = omega arith in z)

  -- ---- what they hold

  -- a head below `top`, and at most two symbols that P holds of
  pub record Small (top : ℕ) (P : S → Type 0) (q : RuleOver S) : Type 0 where
    pub head : q.head < top
    pub size : length q.body ≤ 2
    pub symbols : (s : S) → In s q.body → P s

  module _ (top : ℕ) (P : S → Type 0) (calls : (c : ℕ) → c < top → P (call c)) where
    chain-small : (x n : ℕ) (body : List S) → x < top → n + (length body - 2) ≤ top → ((s : S) → In s body → P s) → (q : RuleOver S) → In q (chain call x n body) → Small top P q
    unfolding chain
    chain-small x n [] hx hn h q (inl e) = rw e (record { head = hx; size = omega arith; symbols = h })
    chain-small x n [] hx hn h q (inr m) = absurd m
    chain-small x n (s ∷ []) hx hn h q (inl e) = rw e (record { head = hx; size = omega arith; symbols = h })
    chain-small x n (s ∷ []) hx hn h q (inr m) = absurd m
    chain-small x n (s ∷ t ∷ []) hx hn h q (inl e) = rw e (record { head = hx; size = omega arith; symbols = h })
    chain-small x n (s ∷ t ∷ []) hx hn h q (inr m) = absurd m
    chain-small x n (s ∷ t ∷ u ∷ rest) hx hn h q m = by m (chain-small n (suc n) (t ∷ u ∷ rest) (omega arith) (omega arith) (λ v k. h v (inr k)) q)
      where
        two : (v : S) → In v (s ∷ call n ∷ []) → P v
        two v (inl e) = rw e (h s (inl refl))
        two v (inr (inl e)) = rw e (calls n (omega arith))
        two v (inr (inr k)) = absurd k

        by : In q (record { head = x; body = s ∷ call n ∷ [] } ∷ chain call n (suc n) (t ∷ u ∷ rest)) → (In q (chain call n (suc n) (t ∷ u ∷ rest)) → Small top P q) → Small top P q
        by (inl e) ih = rw e (record { head = hx; size = omega arith; symbols = two })
        by (inr k) ih = ih k

    pub all_small : (n : ℕ) (ps : List (RuleOver S)) → n + chains_in ps ≤ top → ((p : RuleOver S) → In p ps → p.head < top) → ((p : RuleOver S) → In p ps → (s : S) → In s p.body → P s)
        → (q : RuleOver S) → In q (unfolded call n ps) → Small top P q
    unfolding unfolded chains_in
    all_small n [] hn hh hs q m = absurd m
    all_small n (p ∷ ps) hn hh hs q m =
        ⊎_elim (λ k. chain-small p.head n p.body (hh p (inl refl)) (omega arith) (hs p (inl refl)) q k)
        (λ k. all_small (n + chains_for p) ps (omega arith) (λ r h. hh r (inr h)) (λ r h. hs r (inr h)) q k)
        (in-cases q (chain call p.head n p.body) (unfolded call (n + chains_for p) ps) m)

  -- ---- no two are equal

  module _ (different : (a b : ℕ) → call a ≡ call b → a ≡ b) where
    -- where a rule stems from: it was there; or it is the first of a longer body, and calls a chain procedure; or it is a chain procedure's
    data Stems (rs : List (RuleOver S)) (lo hi : ℕ) (q : RuleOver S) : Type 0 where
      kept : In q rs → Stems rs lo hi q
      first : (p : RuleOver S) → In p rs → q.head ≡ p.head → (s : S) → In s p.body → (c : ℕ) → lo ≤ c → c < hi → q.body ≡ s ∷ call c ∷ [] → Stems rs lo hi q
      later : lo ≤ q.head → q.head < hi → Stems rs lo hi q

    chain-later : (x n : ℕ) (body : List S) → (q : RuleOver S) → In q (chain call x n body) → (q.head ≡ x) ⊎ ((n ≤ q.head) × (q.head < n + (length body - 2)))
    unfolding chain
    chain-later x n [] q (inl e) = inl (ap (λ (r : RuleOver S). r.head) e)
    chain-later x n [] q (inr m) = absurd m
    chain-later x n (s ∷ []) q (inl e) = inl (ap (λ (r : RuleOver S). r.head) e)
    chain-later x n (s ∷ []) q (inr m) = absurd m
    chain-later x n (s ∷ t ∷ []) q (inl e) = inl (ap (λ (r : RuleOver S). r.head) e)
    chain-later x n (s ∷ t ∷ []) q (inr m) = absurd m
    chain-later x n (s ∷ t ∷ u ∷ rest) q (inl e) = inl (ap (λ (r : RuleOver S). r.head) e)
    chain-later x n (s ∷ t ∷ u ∷ rest) q (inr m) =
        inr (⊎_elim (λ e. (omega arith, omega arith)) (λ l. (omega (arith, l.0), omega (arith, l.1))) (chain-later n (suc n) (t ∷ u ∷ rest) q m))

    chain-distinct : (x n : ℕ) (body : List S) → x < n → Distinct (chain call x n body)
    unfolding chain
    chain-distinct x n [] h = (λ y m. absurd m, tt)
    chain-distinct x n (s ∷ []) h = (λ y m. absurd m, tt)
    chain-distinct x n (s ∷ t ∷ []) h = (λ y m. absurd m, tt)
    chain-distinct x n (s ∷ t ∷ u ∷ rest) h =
        (λ y m e. let f = ap (λ (r : RuleOver S). r.head) e in ⊎_elim (λ d. let z : ⊥ = omega arith in z) (λ d. let z : ⊥ = omega (arith, d.0) in z) (chain-later n (suc n) (t ∷ u ∷ rest) y m), chain-distinct n (suc n) (t ∷ u ∷ rest) (omega arith))

    -- the rules of one body
    chain-stems : (p : RuleOver S) (n : ℕ) (q : RuleOver S) → In q (chain call p.head n p.body) → Stems (p ∷ []) n (n + chains_for p) q
    unfolding chain
    chain-stems p n q m = by p.head p.body refl refl m
      where
        same : (x : ℕ) (body : List S) → x ≡ p.head → body ≡ p.body → q ≡ record { head = x; body = body } → q ≡ p
        same x body ex eb e = e ∙ (λ i. record { head = ex i; body = eb i })

        by : (x : ℕ) (body : List S) → x ≡ p.head → body ≡ p.body → In q (chain call x n body) → Stems (p ∷ []) n (n + chains_for p) q
        by x [] ex eb (inl e) = kept (inl (same x [] ex eb e))
        by x [] ex eb (inr k) = absurd k
        by x (s ∷ []) ex eb (inl e) = kept (inl (same x (s ∷ []) ex eb e))
        by x (s ∷ []) ex eb (inr k) = absurd k
        by x (s ∷ t ∷ []) ex eb (inl e) = kept (inl (same x (s ∷ t ∷ []) ex eb e))
        by x (s ∷ t ∷ []) ex eb (inr k) = absurd k
        by x (s ∷ t ∷ u ∷ rest) ex eb (inl e) =
            let size : length p.body ≡ suc (suc (suc (length rest))) = sym (ap length eb) in
            first p (inl refl) (ap (λ (r : RuleOver S). r.head) e ∙ ex) s (subst (In s) eb (inl refl)) n (omega arith) (omega arith) (ap (λ (r : RuleOver S). r.body) e)
        by x (s ∷ t ∷ u ∷ rest) ex eb (inr k) =
            let size : length p.body ≡ suc (suc (suc (length rest))) = sym (ap length eb) in
            ⊎_elim (λ e. later (omega arith) (omega arith)) (λ l. later (omega (arith, l.0)) (omega (arith, l.1))) (chain-later n (suc n) (t ∷ u ∷ rest) q k)

    wider-stems : (rs rs' : List (RuleOver S)) (lo hi lo' hi' : ℕ) (q : RuleOver S) → ((p : RuleOver S) → In p rs → In p rs') → lo' ≤ lo → hi ≤ hi' → Stems rs lo hi q → Stems rs' lo' hi' q
    wider-stems rs rs' lo hi lo' hi' q sub l h (kept m) = kept (sub q m)
    wider-stems rs rs' lo hi lo' hi' q sub l h (first p m e s k c a b f) = first p (sub p m) e s k c (omega arith) (omega arith) f
    wider-stems rs rs' lo hi lo' hi' q sub l h (later a b) = later (omega arith) (omega arith)

    all-stem : (n : ℕ) (ps : List (RuleOver S)) (q : RuleOver S) → In q (unfolded call n ps) → Stems ps n (n + chains_in ps) q
    unfolding unfolded chains_in
    all-stem n [] q m = absurd m
    all-stem n (p ∷ ps) q m =
        ⊎_elim (λ k. wider-stems (p ∷ []) (p ∷ ps) n (n + chains_for p) n (n + (chains_for p + chains_in ps)) q here (omega arith) (omega arith) (chain-stems p n q k))
        (λ k. wider-stems ps (p ∷ ps) (n + chains_for p) (n + chains_for p + chains_in ps) n (n + (chains_for p + chains_in ps)) q (λ r h. inr h) (omega arith) (omega arith) (all-stem (n + chains_for p) ps q k))
        (in-cases q (chain call p.head n p.body) (unfolded call (n + chains_for p) ps) m)
      where
        here : (r : RuleOver S) → In r (p ∷ []) → In r (p ∷ ps)
        here r (inl e) = inl e
        here r (inr h) = absurd h

    -- the rules of a body and those of the bodies after it
    module _ (m n hi : ℕ) (p : RuleOver S) (ps : List (RuleOver S)) (fresh : Fresh call m (p ∷ ps)) (l : m ≤ n) (other : (y : RuleOver S) → In y ps → p ≡ y → ⊥) where
      high : (r : RuleOver S) → In r (p ∷ ps) → (c : ℕ) → n ≤ c → In (call c) r.body → ⊥
      high r h c a k = let z = fresh.symbols r h c k in omega arith

      apart : (x y : RuleOver S) → Stems (p ∷ []) n (n + chains_for p) x → Stems ps (n + chains_for p) hi y → x ≡ y → ⊥
      apart x y (kept (inl e)) (kept h) v = other y h (sym e ∙ v)
      apart x y (kept (inr k)) (kept h) v = absurd k
      apart x y (kept (inl e)) (first q h f s k c a b g) v =
          high p (inl refl) c (omega arith) (subst (λ (r : RuleOver S). In (call c) r.body) (sym v ∙ e) (subst (In (call c)) (sym g) (inr (inl refl))))
      apart x y (kept (inr k)) (first q h f s k' c a b g) v = absurd k
      apart x y (kept (inl e)) (later a b) v = let z = fresh.heads p (inl refl) in let w = ap (λ (r : RuleOver S). r.head) (sym e ∙ v) in omega arith
      apart x y (kept (inr k)) (later a b) v = absurd k
      apart x y (first q h f s k c a b g) (kept h') v =
          high y (inr h') c (omega arith) (subst (λ (r : RuleOver S). In (call c) r.body) v (subst (In (call c)) (sym g) (inr (inl refl))))
      apart x y (first q (inl e) f s k c a b g) (first q' h' f' s' k' c' a' b' g') v =
          ⊎_elim (λ w. high q (inl e) c' (omega arith) (subst (λ (t : S). In t q.body) (sym w) k)) (⊎_elim (λ w. let z = different c' c w in omega arith) (λ w. absurd w))
          (subst (In (call c')) (ap (λ (r : RuleOver S). r.body) (sym v) ∙ g) (subst (In (call c')) (sym g') (inr (inl refl))))
      apart x y (first q (inr h) f s k c a b g) (first q' h' f' s' k' c' a' b' g') v = absurd h
      apart x y (first q (inl e) f s k c a b g) (later a' b') v = let z = fresh.heads q (inl e) in let w = ap (λ (r : RuleOver S). r.head) v in omega arith
      apart x y (first q (inr h) f s k c a b g) (later a' b') v = absurd h
      apart x y (later a b) (kept h) v = let z = fresh.heads y (inr h) in let w = ap (λ (r : RuleOver S). r.head) v in omega arith
      apart x y (later a b) (first q h f s k c a' b' g) v = let z = fresh.heads q (inr h) in let w = ap (λ (r : RuleOver S). r.head) v in omega arith
      apart x y (later a b) (later a' b') v = let w = ap (λ (r : RuleOver S). r.head) v in omega arith

    distinct_append : (xs ys : List (RuleOver S)) → Distinct xs → Distinct ys → ((x y : RuleOver S) → In x xs → In y ys → x ≡ y → ⊥) → Distinct (xs ++ ys)
    distinct_append [] ys d e h = e
    distinct_append (x ∷ xs) ys d e h = (λ y m. ⊎_elim (λ k. d.0 y k) (λ k. h x y (inl refl) k) (in-cases y xs ys m), distinct_append xs ys d.1 e (λ a b k. h a b (inr k)))

    -- different rules unfold to different rules
    pub all-distinct : (m n : ℕ) (ps : List (RuleOver S)) → Fresh call m ps → m ≤ n → Distinct ps → Distinct (unfolded call n ps)
    unfolding unfolded
    all-distinct m n [] fresh l d = tt
    all-distinct m n (p ∷ ps) fresh l d =
        distinct_append (chain call p.head n p.body) (unfolded call (n + chains_for p) ps)
        (chain-distinct p.head n p.body (let z = fresh.heads p (inl refl) in omega arith))
        (all-distinct m (n + chains_for p) ps (record { heads = λ r h. fresh.heads r (inr h); symbols = λ r h. fresh.symbols r (inr h) }) (omega arith) d.1)
        (λ x y h k. apart m n (n + chains_for p + chains_in ps) p ps fresh l d.0 x y (chain-stems p n x h) (all-stem (n + chains_for p) ps y k))

    -- a head is that of a rule that was there, or a chain procedure
    pub head-cases : (m n : ℕ) (ps : List (RuleOver S)) → Fresh call m ps → (q : RuleOver S) → In q (unfolded call n ps) → (q.head < m) ⊎ ((n ≤ q.head) × (q.head < n + chains_in ps))
    head-cases m n ps fresh q h = by (all-stem n ps q h)
      where
        by : Stems ps n (n + chains_in ps) q → (q.head < m) ⊎ ((n ≤ q.head) × (q.head < n + chains_in ps))
        by (kept k) = inl (fresh.heads q k)
        by (first p k e s i c a b f) = inl (let z = fresh.heads p k in omega arith)
        by (later a b) = inr (a, b)

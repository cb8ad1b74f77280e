-- Stepping from one place to the next removes exactly one place from those that are left: the one that is left behind. Assumes nothing.
use Rattle.std.specs.Prelude.{◌≡◌, refl, Bool, true, false, not, ◌&&◌, ◌⊎◌, List, [], ◌∷◌, ◌++◌, map, ℕ, suc, ◌≤◌, ◌<◌, eqb, length, get_or, drop}
use Rattle.std.proofs.Common.{sym, ap, ◌∙◌, subst, inl, inr, append_assoc, arith, drop_of_length-le, drop-cons, eqb-true, eq-eqb}
use Rattle.std.proofs.lemmas.List.{length-map}
use Rattle.std.proofs.Math.ListN.{get_or-map}
use Rattle.spec_basics.specs.Tests.{and-fst, and-snd, not-excludes, not-fails}
use Rattle.spec_basics.specs.Elements.{concat_map}
use Rattle.spec_language.specs.Grammar.{terminal, nonterminal, Rule}
use Rattle.spec_order.specs.Journal.{absent}
use Rattle.spec_file.specs.Entries.{entry_of}
use Rattle.search_state.specs.Forming.{none, some, left_part, right_part, entry_at}
use Rattle.search_state.specs.Layout.{heads, head_cell, end}
use Rattle.search_state.specs.Positions.{first_at}
use Rattle.search_state.specs.declared.Place.{Place}
use Rattle.search_order.specs.Lists.{after_in, Chain, ListedAs}
use Rattle.search_order.specs.Places.{with_rights, rule_places, FirstPosition, all_rights, all_lefts, left_places, onward, Ahead, PlacesFrom, FirstPlace, NextPlace}

-- ---- positions

module _ (lists : List ℕ) where
  chain-end : (i : ℕ) → i ≡ end → (ks : List ℕ) → Chain lists i ks → ks ≡ []
  chain-end i e [] h = refl
  chain-end i e (k ∷ ks) h = absurd (h.0 e)

  chain-some : (i : ℕ) → (i ≡ end → ⊥) → (ks : List ℕ) → Chain lists i ks → (ms : List ℕ) × (ks ≡ i ∷ ms) × Chain lists (after_in lists i) ms
  chain-some i n [] h = absurd (n h)
  chain-some i n (k ∷ ks) h = (ks, ap (λ (m : ℕ). m ∷ ks) (sym h.1), h.2)

pub begins-none : (lists : List ℕ) → FirstPosition lists none absent
begins-none lists live l = (λ e. omega (arith, e), refl, refl)

pub begins-terminal : (lists : List ℕ) (c : ℕ) → FirstPosition lists (some (terminal c)) absent
begins-terminal lists c live l = (λ e. omega (arith, e), refl, refl)

pub begins-nonterminal : (lists : List ℕ) (x : ℕ) → x < heads → FirstPosition lists (some (nonterminal x)) (get_or lists (head_cell x) 0)
begins-nonterminal lists x h live l = l x h

-- ---- the places of a rule

-- of the rules from r on, where r is one, rule r comes first
pub rules-next : (rules : List (List ℕ)) (r : ℕ) → r < length rules → drop r (map entry_of rules) ≡ entry_at rules r ∷ drop (suc r) (map entry_of rules)
rules-next rules r h =
    drop-cons (map entry_of rules) r (entry_of []) (subst (λ (n : ℕ). r < n) (sym (length-map rules entry_of)) h)
    ∙ ap (λ (x : Rule). x ∷ drop (suc r) (map entry_of rules)) (get_or-map entry_of rules r [])

pub rules-end : (rules : List (List ℕ)) (r : ℕ) → length rules ≤ r → drop r (map entry_of rules) ≡ []
rules-end rules r h = drop_of_length-le (map entry_of rules) (subst (λ (n : ℕ). n ≤ r) (sym (length-map rules entry_of)) h)

module _ (live : ℕ → List ℕ) (rules : List (List ℕ)) where
  onward-next : (r : ℕ) → r < length rules → onward live rules r ≡ concat_map (left_places live rules r) (all_lefts live rules r) ++ onward live rules (suc r)
  onward-next r h = ap (rule_places live r) (rules-next rules r h)

  onward-end : (r : ℕ) → length rules ≤ r → onward live rules r ≡ []
  onward-end r h = ap (rule_places live r) (rules-end rules r h)

  -- a rule one of whose parts has no position has no place
  onward-skip : (r : ℕ) → r < length rules → (all_lefts live rules r ≡ []) ⊎ (all_rights live rules r ≡ []) → onward live rules r ≡ onward live rules (suc r)
  onward-skip r h e =
      onward-next r h ∙ ap (λ (ps : List Place). ps ++ onward live rules (suc r)) (nothing e)
    where
      no-rights : (is : List ℕ) → concat_map (with_rights r []) is ≡ []
      no-rights [] = refl
      no-rights (i ∷ is) = no-rights is

      nothing : (all_lefts live rules r ≡ []) ⊎ (all_rights live rules r ≡ []) → concat_map (left_places live rules r) (all_lefts live rules r) ≡ []
      nothing (inl z) = ap (concat_map (left_places live rules r)) z
      nothing (inr z) = ap (λ (ks : List ℕ). concat_map (with_rights r ks) (all_lefts live rules r)) z ∙ no-rights (all_lefts live rules r)

-- ---- the first place from a rule on

cons-some : (k : ℕ) (ks : List ℕ) → k ∷ ks ≡ [] → ⊥
cons-some k ks e = let z : suc (length ks) ≡ 0 = ap length e in omega arith

module _ (live : ℕ → List ℕ) (lists : List ℕ) (rules : List (List ℕ)) (listed : ListedAs live lists) where
  -- at the first position of both parts of its rule
  stands-first : (p : Place) → p.rule < length rules → FirstPosition lists (left_part (entry_at rules p.rule).body) p.left → FirstPosition lists (right_part (entry_at rules p.rule).body) p.right
      → (p.left ≡ end → ⊥) → (p.right ≡ end → ⊥) → PlacesFrom live lists rules p (onward live rules p.rule)
  stands-first p h bl br nl nr =
      let r = p.rule in
      let of_left = left_places live rules r in
      let O = onward live rules (suc r) in
      let ls = chain-some lists p.left nl (all_lefts live rules r) (bl live listed) in
      let rs = chain-some lists p.right nr (all_rights live rules r) (br live listed) in
      subst (PlacesFrom live lists rules p)
      (sym
      (onward-next live rules r h ∙ ap (λ (is : List ℕ). concat_map of_left is ++ O) ls.1 ∙ append_assoc (of_left p.left) (concat_map of_left ls.0) O
      ∙ ap (λ (ks : List ℕ). with_rights r ks p.left ++ (concat_map of_left ls.0 ++ O)) rs.1)) (
        h,
        refl,
        record { rights = rs.0; lefts = ls.0; inner = rs.2; outer = ls.2; some_right = λ z. cons-some _ rs.0 (sym rs.1 ∙ z); rest = refl },
      )

pub both-open : (i j : ℕ) → (not (eqb i end) && not (eqb j end)) ≡ true → (i ≡ end → ⊥) × (j ≡ end → ⊥)
both-open i j e =
    (λ z. not-excludes (eqb i end) (and-fst (not (eqb i end)) (not (eqb j end)) e) (eq-eqb i end z), λ z. not-excludes (eqb j end) (and-snd (not (eqb i end)) (not (eqb j end)) e) (eq-eqb j end z))

pub one-is-end : (i j : ℕ) → (not (eqb i end) && not (eqb j end)) ≡ false → (i ≡ end) ⊎ (j ≡ end)
one-is-end i j e = by (eqb i end) refl e
  where
    by : (b : Bool) → eqb i end ≡ b → (not b && not (eqb j end)) ≡ false → (i ≡ end) ⊎ (j ≡ end)
    by true p t = inl (eqb-true i end p)
    by false p t = inr (eqb-true j end (not-fails (eqb j end) t))

-- the rules from k up to r have no place
abbrev pub Skipped : List ℕ → List (List ℕ) → ℕ → ℕ → Type 0
Skipped lists rules k r = (live : ℕ → List ℕ) → ListedAs live lists → onward live rules r ≡ onward live rules k

module _ (lists : List ℕ) (rules : List (List ℕ)) (k r : ℕ) (s : Skipped lists rules k r) where
  module _ (h : r < length rules) (p : Place) (e : p.rule ≡ r) (bl : FirstPosition lists (left_part (entry_at rules r).body) p.left) (br : FirstPosition lists (right_part (entry_at rules r).body) p.right) where
    pub opens-here : (p.left ≡ end → ⊥) → (p.right ≡ end → ⊥) → FirstPlace lists rules k p
    opens-here nl nr live l =
        subst (λ (n : ℕ). PlacesFrom live lists rules (first_at n p.left p.right) (onward live rules k)) (sym e)
        (subst (PlacesFrom live lists rules (first_at r p.left p.right)) (s live l) (stands-first live lists rules l (first_at r p.left p.right) h bl br nl nr))

    pub skipped-next : (p.left ≡ end) ⊎ (p.right ≡ end) → Skipped lists rules k (suc r)
    skipped-next t live l = sym (onward-skip live rules r h (by t)) ∙ s live l
      where
        by : (p.left ≡ end) ⊎ (p.right ≡ end) → (all_lefts live rules r ≡ []) ⊎ (all_rights live rules r ≡ [])
        by (inl z) = inl (chain-end lists p.left z (all_lefts live rules r) (bl live l))
        by (inr z) = inr (chain-end lists p.right z (all_rights live rules r) (br live l))

  -- none is left: any number past the last rule
  pub opens-end : length rules ≤ r → (m : ℕ) → length rules ≤ m → (i j : ℕ) → FirstPlace lists rules k (first_at m i j)
  opens-end h m n i j live l = subst (PlacesFrom live lists rules (first_at m i j)) (sym (onward-end live rules r h) ∙ s live l) (λ z. omega (arith, n, z))

-- ---- the place after a place

module _ (lists : List ℕ) (rules : List (List ℕ)) (p : Place) where
  pub follows-none : length rules ≤ p.rule → (q : Place) → NextPlace lists rules p q
  follows-none h q live l ps (i, e, a) = absurd (omega (arith, h, i))

  pub follows-right : (i : ℕ) → i ≡ after_in lists p.right → (i ≡ end → ⊥) → NextPlace lists rules p (first_at p.rule p.left i)
  follows-right i e n live l ps (h, f, a) =
      let r = p.rule in
      let rs = chain-some lists i n a.rights (subst (λ (k : ℕ). Chain lists k a.rights) (sym e) a.inner) in
      subst (PlacesFrom live lists rules (first_at r p.left i))
      (sym (a.rest ∙ ap (λ (ks : List ℕ). with_rights r ks p.left ++ (concat_map (left_places live rules r) a.lefts ++ onward live rules (suc r))) rs.1))
      (h, refl, record { rights = rs.0; lefts = a.lefts; inner = rs.2; outer = a.outer; some_right = a.some_right; rest = refl })

  module _ (er : after_in lists p.right ≡ end) where
    -- no other right is left
    left-next : (live : ℕ → List ℕ) (ps : List Place) (a : Ahead live lists rules p ps) → ps ≡ concat_map (left_places live rules p.rule) a.lefts ++ onward live rules (suc p.rule)
    left-next live ps a =
        a.rest
        ∙ ap (λ (ks : List ℕ). with_rights p.rule ks p.left ++ (concat_map (left_places live rules p.rule) a.lefts ++ onward live rules (suc p.rule)))
        (chain-end lists (after_in lists p.right) er a.rights a.inner)

    pub follows-left : (i k : ℕ) → i ≡ after_in lists p.left → (i ≡ end → ⊥) → FirstPosition lists (right_part (entry_at rules p.rule).body) k → NextPlace lists rules p (first_at p.rule i k)
    follows-left i k e n b live l ps (h, f, a) =
        let r = p.rule in
        let of_left = left_places live rules r in
        let O = onward live rules (suc r) in
        let ls = chain-some lists i n a.lefts (subst (λ (m : ℕ). Chain lists m a.lefts) (sym e) a.outer) in
        let bk = b live l in
        let nk : k ≡ end → ⊥ = λ z. a.some_right (chain-end lists k z (all_rights live rules r) bk) in
        let rs = chain-some lists k nk (all_rights live rules r) bk in
        subst (PlacesFrom live lists rules (first_at r i k))
        (sym
        (left-next live ps a ∙ ap (λ (is : List ℕ). concat_map of_left is ++ O) ls.1 ∙ append_assoc (of_left i) (concat_map of_left ls.0) O
        ∙ ap (λ (ks : List ℕ). with_rights r ks i ++ (concat_map of_left ls.0 ++ O)) rs.1))
        (h, refl, record { rights = rs.0; lefts = ls.0; inner = rs.2; outer = ls.2; some_right = a.some_right; rest = refl })

    pub follows-rule : after_in lists p.left ≡ end → (q : Place) → FirstPlace lists rules (suc p.rule) q → NextPlace lists rules p q
    follows-rule el q o live l ps (h, f, a) =
        subst (PlacesFrom live lists rules q)
        (sym
        (left-next live ps a
        ∙ ap (λ (is : List ℕ). concat_map (left_places live rules p.rule) is ++ onward live rules (suc p.rule)) (chain-end lists (after_in lists p.left) el a.lefts a.outer)))
        (o live l)

-- From a place to the next less of the pass is left: a right, a left or a rule. Assumes nothing.
use Rattle.std.specs.Prelude.{◌≡◌, refl, Bool, true, false, cond, ◌⊎◌, List, [], ◌∷◌, ◌++◌, map, ℕ, zero, suc, ◌+◌, ◌-◌, ◌*◌, ◌≤◌, ◌<◌, eqb, length, drop}
use Rattle.std.proofs.Common.{sym, ap, ◌∙◌, subst, inl, inr, zero-le, suc-le-suc, le_refl, le_trans, le_of_eq, mul-le-mul, suc-mul, arith, length-append, eq-eqb, ne_eqb}
use Rattle.std.proofs.lemmas.List.{length-map}
use Rattle.spec_basics.specs.Elements.{concat_map}
use Rattle.spec_basics.specs.Lists.{length-concat_map}
use Rattle.spec_language.specs.Grammar.{terminal, nonterminal, Rule}
use Rattle.spec_order.specs.Journal.{Row, live_of}
use Rattle.spec_file.specs.Entries.{entry_of}
use Rattle.search_state.specs.Forming.{Part, none, some, left_part, right_part}
use Rattle.search_state.specs.Layout.{row_cells, end}
use Rattle.search_state.specs.Positions.{first_at}
use Rattle.search_state.specs.declared.Place.{Place}
use Rattle.search_order.specs.Lists.{after_in, Chain, live_numbers, Listed}
use Rattle.search_order.specs.Places.{with_rights, positions, body_places, rule_places, all_rights, onward, Ahead, PlacesFrom, FirstPlace, NextPlace}
use Rattle.search_order.specs.PlacesLeft.{place_limit, positions_from, places_left, PassFrom}

-- ---- counting positions

count_fits : (f : ℕ) (lists : List ℕ) (i : ℕ) → positions_from f lists i < suc f
unfolding positions_from
count_fits zero lists i = omega arith
count_fits (suc f) lists i = by (eqb i end) (count_fits f lists (after_in lists i))
  where
    by : (b : Bool) → positions_from f lists (after_in lists i) < suc f → cond b 0 (suc (positions_from f lists (after_in lists i))) < suc (suc f)
    by true h = omega arith
    by false h = suc-le-suc h

count-chain : (f : ℕ) (lists : List ℕ) (i : ℕ) (ks : List ℕ) → Chain lists i ks → length ks ≤ f → positions_from f lists i ≡ length ks
unfolding positions_from
count-chain zero lists i [] h l = refl
count-chain zero lists i (k ∷ ks) h l = absurd (let z : suc (length ks) ≤ 0 = l in omega arith)
count-chain (suc f) lists i [] h l = ap (λ (b : Bool). cond b 0 (suc (positions_from f lists (after_in lists i)))) (eq-eqb i end h)
count-chain (suc f) lists i (k ∷ ks) h l =
    ap (λ (b : Bool). cond b 0 (suc (positions_from f lists (after_in lists i)))) (ne_eqb i end h.0)
    ∙ ap suc (count-chain f lists (after_in lists i) ks h.2 (let z : suc (length ks) ≤ suc f = l in omega arith))

-- a number of which the digits to base K are a and c is below one whose first digit is larger
digits-less : (K a b c d : ℕ) → a < b → c < K → a * K + c < b * K + d
digits-less K a b c d h l =
    let m : suc a * K ≤ b * K = mul-le-mul h (le_refl K) in
    omega (arith, m, suc-mul a K, l)

-- ---- which place comes next

-- the first of these places is one of rule r, if there is one, and else the first of the others
next-of-rule : (r : ℕ) (ks is : List ℕ) (others : List Place) (q : Place) (qs : List Place) → q ∷ qs ≡ concat_map (with_rights r ks) is ++ others → (q.rule ≡ r) ⊎ (q ∷ qs ≡ others)
next-of-rule r ks [] others q qs e = inr e
next-of-rule r [] (i ∷ is) others q qs e = next-of-rule r [] is others q qs e
next-of-rule r (k ∷ ks) (i ∷ is) others q qs e = inl (ap (λ (p : Place). p.rule) (let z : q ≡ first_at r i k = cc in z))

next-rule : (live : ℕ → List ℕ) (r : ℕ) (rules : List Rule) (q : Place) (qs : List Place) → q ∷ qs ≡ rule_places live r rules → r ≤ q.rule
next-rule live r [] q qs e = absurd (let z : suc (length qs) ≡ 0 = ap length e in omega arith)
next-rule live r (x ∷ rules) q qs e =
    by (next-of-rule r (positions live (right_part x.body)) (positions live (left_part x.body)) (rule_places live (suc r) rules) q qs e) (λ z. next-rule live (suc r) rules q qs z)
  where
    by : (q.rule ≡ r) ⊎ (q ∷ qs ≡ rule_places live (suc r) rules) → (q ∷ qs ≡ rule_places live (suc r) rules → suc r ≤ q.rule) → r ≤ q.rule
    by (inl z) f = omega (arith, z)
    by (inr z) f = omega (arith, f z)

-- each left has a place
lefts-few : (r : ℕ) (ks is : List ℕ) → (ks ≡ [] → ⊥) → length is ≤ length (concat_map (with_rights r ks) is)
lefts-few r [] is n = absurd (n refl)
lefts-few r (k ∷ ks) [] n = zero-le
lefts-few r (k ∷ ks) (i ∷ is) n =
    let a = length-append (with_rights r (k ∷ ks) i) (concat_map (with_rights r (k ∷ ks)) is) in
    let l = lefts-few r (k ∷ ks) is n in
    let z : length (with_rights r (k ∷ ks) i) ≡ suc (length (map (first_at r i) ks)) = refl in
    omega (arith, a, l, z)

-- ---- the place after a place

module _ (live : ℕ → List ℕ) (lists : List ℕ) (rules : List (List ℕ)) (p : Place) (h : p.rule < length rules) where
  abbrev f : ℕ
  f = place_limit (length rules)

  -- in another rule, or past the last
  later-rule : (q : Place) → p.rule < q.rule → places_left lists rules q < places_left lists rules p
  later-rule q l =
      digits-less (suc f) _ _ _ _ (digits-less (suc f) (length rules - q.rule) (length rules - p.rule) _ _ (omega (arith, l, h)) (count_fits f lists (after_in lists q.left))) (count_fits f lists (after_in lists q.right))

  -- with another left
  later-left : (l k : ℕ) (ls : List ℕ) → Chain lists (after_in lists p.left) (l ∷ ls) → suc (length ls) ≤ f → places_left lists rules (first_at p.rule l k) < places_left lists rules p
  later-left l k ls c few =
      let after = ap (λ (i : ℕ). positions_from f lists (after_in lists i)) (sym c.1) ∙ count-chain f lists (after_in lists (after_in lists p.left)) ls c.2 (omega arith) in
      let here = count-chain f lists (after_in lists p.left) (l ∷ ls) c few in
      let less : positions_from f lists (after_in lists l) < positions_from f lists (after_in lists p.left) = omega (arith, after, here) in
      digits-less (suc f) _ _ _ _ (omega (arith, less)) (count_fits f lists (after_in lists k))

  -- with another right
  later-right : (k : ℕ) (ks : List ℕ) → Chain lists (after_in lists p.right) (k ∷ ks) → suc (length ks) ≤ f → places_left lists rules (first_at p.rule p.left k) < places_left lists rules p
  later-right k ks c few =
      let after = ap (λ (i : ℕ). positions_from f lists (after_in lists i)) (sym c.1) ∙ count-chain f lists (after_in lists (after_in lists p.right)) ks c.2 (omega arith) in
      let here = count-chain f lists (after_in lists p.right) (k ∷ ks) c few in
      omega (arith, after, here)

  -- the place after it is the first of those that come after it
  pub next-less : (q : Place) (ps : List Place) → Ahead live lists rules p ps → PlacesFrom live lists rules q ps → length ps ≤ f → places_left lists rules q < places_left lists rules p
  next-less q [] a s few = later-rule q (omega (arith, s, h))
  next-less q (q' ∷ qs) a s few =
      subst (λ (x : Place). places_left lists rules x < places_left lists rules p) s.1
      (by a.rights a.lefts (all_rights live rules p.rule) a.inner a.outer a.some_right a.rest)
    where
      by : (rights lefts all : List ℕ) → Chain lists (after_in lists p.right) rights → Chain lists (after_in lists p.left) lefts → (all ≡ [] → ⊥)
          → q' ∷ qs ≡ with_rights p.rule rights p.left ++ (concat_map (with_rights p.rule all) lefts ++ onward live rules (suc p.rule)) → places_left lists rules q' < places_left lists rules p
      by (k ∷ ks) lefts all c d n e =
          let first : q' ≡ first_at p.rule p.left k = cc in
          let size = ap length e ∙ length-append (with_rights p.rule (k ∷ ks) p.left) (concat_map (with_rights p.rule all) lefts ++ onward live rules (suc p.rule)) in
          subst (λ (x : Place). places_left lists rules x < places_left lists rules p) (sym first) (later-right k ks c (omega (arith, size, few, length-map ks (first_at p.rule p.left))))
      by [] (l ∷ ls) [] c d n e = absurd (n refl)
      by [] (l ∷ ls) (k ∷ ks) c d n e =
          let first : q' ≡ first_at p.rule l k = cc in
          let size = ap length e ∙ length-append (concat_map (with_rights p.rule (k ∷ ks)) (l ∷ ls)) (onward live rules (suc p.rule)) in
          subst (λ (x : Place). places_left lists rules x < places_left lists rules p) (sym first) (later-left l k ls d (omega (arith, size, few, lefts-few p.rule (k ∷ ks) (l ∷ ls) n)))
      by [] [] all c d n e = later-rule q' (next-rule live (suc p.rule) (drop (suc p.rule) (map entry_of rules)) q' qs e)

pub places-next : {lists : List ℕ} {rules : List (List ℕ)} {p q : Place} → p.rule < length rules → NextPlace lists rules p q → PassFrom lists rules p → PassFrom lists rules q × (places_left lists rules q < places_left lists rules p)
places-next {lists} {rules} {p} {q} h n w = by w.places w.stands w.few
  where
    by : (ps : List Place) → PlacesFrom w.live lists rules p ps → length ps ≤ place_limit (length rules) → PassFrom lists rules q × (places_left lists rules q < places_left lists rules p)
    by [] s few = absurd (s h)
    by (p' ∷ ps) s few =
        let z = n w.live w.listed ps (h, refl, s.2) in
        let less : length ps ≤ place_limit (length rules) = omega (arith, few) in
        (record { live = w.live; listed = w.listed; places = ps; stands = z; few = less }, next-less w.live lists rules p h q ps s.2 z less)

-- ---- the first place

length-live : {E : Type 0} (i : ℕ) (rows : List (Row E)) (x : ℕ) → length (live_numbers i rows x) ≤ length rows
length-live i [] x = zero-le
length-live {E} i (r ∷ rows) x = by (live_of x r) (length-live (suc i) rows x)
  where
    by : (b : Bool) → length (live_numbers (suc i) rows x) ≤ length rows → length (cond b (i ∷ live_numbers (suc i) rows x) (live_numbers (suc i) rows x)) ≤ suc (length rows)
    by true h = suc-le-suc h
    by false h = omega (arith, h)

module _ (live : ℕ → List ℕ) (short : (x : ℕ) → length (live x) ≤ row_cells) where
  length-positions : (p : Part) → length (positions live p) ≤ row_cells
  length-positions none = omega arith
  length-positions (some (terminal c)) = omega arith
  length-positions (some (nonterminal x)) = short x

  length-places : (r : ℕ) (rules : List Rule) → length (rule_places live r rules) ≤ place_limit (length rules)
  length-places r [] = zero-le
  length-places r (x ∷ rules) =
      let is = positions live (left_part x.body) in
      let ks = positions live (right_part x.body) in
      let here : length (body_places live r x.body) ≤ row_cells * row_cells =
      le_trans (length-concat_map (with_rights r ks) row_cells (λ i. le_trans (le_of_eq (length-map ks (first_at r i))) (length-positions (right_part x.body))) is) (mul-le-mul (length-positions (left_part x.body)) (le_refl row_cells)) in
      omega (arith, length-append (body_places live r x.body) (rule_places live (suc r) rules), here, length-places (suc r) rules, suc-mul (length rules) (row_cells * row_cells))

pub places-first : {E : Type 0} (A : List (Row E)) {lists : List ℕ} {rules : List (List ℕ)} {p : Place} → length A ≤ row_cells → Listed A lists → FirstPlace lists rules 0 p → PassFrom lists rules p
places-first A {lists} {rules} l d o =
    record {
      live = live_numbers 0 A;
      listed = d;
      places = onward (live_numbers 0 A) rules 0;
      stands = o (live_numbers 0 A) d;
      few = subst (λ (n : ℕ). length (onward (live_numbers 0 A) rules 0) ≤ place_limit n) (length-map rules entry_of) (length-places (live_numbers 0 A) (λ x. le_trans (length-live 0 A x) l) 0 (map entry_of rules));
    }

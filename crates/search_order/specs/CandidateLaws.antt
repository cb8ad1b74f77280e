-- The places of a pass have its candidates, in their order: what is left of the places is what is left of the candidates. Assumes nothing.
use Rattle.std.specs.Prelude.{◌≡◌, Bool, get_or, drop}
use Rattle.std.proofs.Math.Path.{refl, sym, ap, subst}
use Rattle.std.proofs.Common.{ap₂, ◌∙◌, arith, drop-cons}
use Rattle.std.proofs.Math.Bool.{true, false, cond}
use mathlib.Core.List.{List, [], ◌∷◌, ◌++◌, map, map-append}
use Prim.Native.Nat.{ℕ, zero, suc, ◌+◌, ◌≤◌}
use Rattle.std.proofs.Math.ListN.{length, drop_of_length-le}
use Rattle.spec_basics.specs.Elements.{concat_map}
use Rattle.spec_basics.specs.Lists.{concat_map-one, concat_map-same}
use Rattle.spec_language.specs.Grammar.{terminal, nonterminal, Body, empty, one, two, Rule}
use Rattle.spec_order.specs.Candidates.{Choice, Candidate, live_rows, bare, sole, choices, body_candidates, pass_candidates}
use Rattle.spec_order.specs.Journal.{Row, live_of}
use Rattle.spec_file.specs.Entries.{entry_of}
use Rattle.search_state.specs.Forming.{Part, none, some, left_part, right_part, entry_at, Composing, forms_from, row_choice, no_choice, part_choice, joined, combined}
use Rattle.search_state.specs.Positions.{first_at}
use Rattle.search_state.specs.declared.Place.{Place}
use Rattle.search_order.specs.Lists.{live_numbers, Listed}
use Rattle.search_order.specs.Places.{with_rights, positions, body_places, rule_places, onward, PlacesFrom, FirstPlace, NextPlace}
use Rattle.search_order.specs.PlaceLaws.{rules-next, rules-end}
use Rattle.search_order.specs.Candidates.{candidate_at, LeftFrom}

-- a candidate for each place of a rule is one for each left and each right
pairs-map : {C X : Type 0} (r : ℕ) (h : Place → X) (g : C → C → X) (u v : ℕ → C) → ((i k : ℕ) → g (u i) (v k) ≡ h (first_at r i k)) → (ks is : List ℕ)
    → concat_map (λ c. map (g c) (map v ks)) (map u is) ≡ map h (concat_map (with_rights r ks) is)
pairs-map r h g u v e ks [] = refl
pairs-map {X = X} r h g u v e ks (i ∷ is) =
    ap₂ (λ (xs ys : List X). xs ++ ys) (rights ks) (pairs-map r h g u v e ks is) ∙ sym (map-append h (with_rights r ks i) (concat_map (with_rights r ks) is))
  where
    rights : (ms : List ℕ) → map (g (u i)) (map v ms) ≡ map h (with_rights r ms i)
    rights [] = refl
    rights (k ∷ ms) = ap₂ (λ (x : X) (xs : List X). x ∷ xs) (e i k) (rights ms)

module _ {E : Type 0} (F : Composing E) (unread : Row E) (A : List (Row E)) where
  -- row i as a choice
  abbrev row_as : ℕ → Choice E
  row_as i = row_choice i (get_or A i unread)

  -- the live rows of x from row n on, k rows in all
  live-choices : (x k n : ℕ) → n + k ≡ length A → live_rows x n (drop n A) ≡ map row_as (live_numbers n (drop n A) x)
  unfolding live_rows
  live-choices x zero n e = subst (λ (rs : List (Row E)). live_rows x n rs ≡ map row_as (live_numbers n rs x)) (sym (let l : length A ≤ n = omega (arith, e) in drop_of_length-le A l)) refl
  live-choices x (suc k) n e =
      subst (λ (rs : List (Row E)). live_rows x n rs ≡ map row_as (live_numbers n rs x)) (sym (drop-cons A n unread (omega (arith, e)))) (by (live_of x (get_or A n unread)) (live-choices x k (suc n) (omega (arith, e))))
    where
      by : (b : Bool) → live_rows x (suc n) (drop (suc n) A) ≡ map row_as (live_numbers (suc n) (drop (suc n) A) x)
          → cond b (row_as n ∷ live_rows x (suc n) (drop (suc n) A)) (live_rows x (suc n) (drop (suc n) A))
          ≡ map row_as (cond b (n ∷ live_numbers (suc n) (drop (suc n) A) x) (live_numbers (suc n) (drop (suc n) A) x))
      by true h = ap (λ (cs : List (Choice E)). row_as n ∷ cs) h
      by false h = h

  -- the ways to take a part of a body
  abbrev part_choices : Part → List (Choice E)
  part_choices none = no_choice F ∷ []
  part_choices (some s) = choices (forms_from F) A s

  abbrev part_at : Part → ℕ → Choice E
  part_at p i = part_choice F p i (get_or A i unread)

  part-choices : (p : Part) → part_choices p ≡ map (part_at p) (positions (live_numbers 0 A) p)
  unfolding choices
  part-choices none = refl
  part-choices (some (terminal c)) = refl
  part-choices (some (nonterminal x)) = live-choices x (length A) 0 (omega arith)

  body-formed : (x r : ℕ) (b : Body) → body_candidates (forms_from F) A x r b ≡ concat_map (λ c. map (combined F x r b c) (part_choices (right_part b))) (part_choices (left_part b))
  unfolding body_candidates bare
  body-formed x r empty = refl
  body-formed x r (one s) = sym (concat_map-one (sole x r) (choices (forms_from F) A s))
  body-formed x r (two s t) = concat_map-same _ _ (λ c. concat_map-one (joined F x r c) (choices (forms_from F) A t)) (choices (forms_from F) A s)

  module _ (rules : List (List ℕ)) where
    rule-formed : (r : ℕ) → body_candidates (forms_from F) A (entry_at rules r).head r (entry_at rules r).body ≡ map (candidate_at F unread A rules) (body_places (live_numbers 0 A) r (entry_at rules r).body)
    rule-formed r =
        let x = entry_at rules r in
        let g = combined F x.head r x.body in
        body-formed x.head r x.body
        ∙ ap₂ (λ (ds cs : List (Choice E)). concat_map (λ c. map (g c) ds) cs) (part-choices (right_part x.body)) (part-choices (left_part x.body))
        ∙ pairs-map r (candidate_at F unread A rules) g (part_at (left_part x.body)) (part_at (right_part x.body)) (λ i k. refl) (positions (live_numbers 0 A) (right_part x.body)) (positions (live_numbers 0 A) (left_part x.body))

    -- the candidates of the rules from r on, k rules in all
    rules-formed : (k r : ℕ) → r + k ≡ length rules → pass_candidates (forms_from F) A r (drop r (map entry_of rules)) ≡ map (candidate_at F unread A rules) (onward (live_numbers 0 A) rules r)
    unfolding pass_candidates
    rules-formed zero r e =
        subst (λ (xs : List Rule). pass_candidates (forms_from F) A r xs ≡ map (candidate_at F unread A rules) (rule_places (live_numbers 0 A) r xs)) (sym (rules-end rules r (omega (arith, e)))) refl
    rules-formed (suc k) r e =
        subst (λ (xs : List Rule). pass_candidates (forms_from F) A r xs ≡ map (candidate_at F unread A rules) (rule_places (live_numbers 0 A) r xs)) (sym (rules-next rules r (omega (arith, e))))
        (ap₂ (λ (xs ys : List (Candidate E)). xs ++ ys) (rule-formed r) (rules-formed k (suc r) (omega (arith, e)))
        ∙ sym (map-append (candidate_at F unread A rules) (body_places (live_numbers 0 A) r (entry_at rules r).body) (onward (live_numbers 0 A) rules (suc r))))

    -- ---- what is left

    module _ (lists : List ℕ) where
      left-formed : (p : Place) (ps : List Place) → PlacesFrom (live_numbers 0 A) lists rules p ps → LeftFrom F unread A rules lists p (map (candidate_at F unread A rules) ps)
      left-formed p [] h = h
      left-formed p (q ∷ qs) (h, e, a) = (h, ap (candidate_at F unread A rules) e, qs, a, refl)

      module _ (listed : Listed A lists) where
        -- the candidates of the pass are left from its first place on
        pub left-first : (p : Place) → FirstPlace lists rules 0 p → LeftFrom F unread A rules lists p (pass_candidates (forms_from F) A 0 (map entry_of rules))
        left-first p o =
            subst (LeftFrom F unread A rules lists p) (sym (rules-formed (length rules) 0 (omega arith)))
            (left-formed p (onward (live_numbers 0 A) rules 0) (o (live_numbers 0 A) listed))

        -- and from the next place on all but the first
        pub left-next : (p q : Place) → NextPlace lists rules p q → (c : Candidate E) (cs : List (Candidate E)) → LeftFrom F unread A rules lists p (c ∷ cs) → LeftFrom F unread A rules lists q cs
        left-next p q o c cs (h, e, ps, a, z) =
            subst (LeftFrom F unread A rules lists q) (sym z) (left-formed q ps (o (live_numbers 0 A) listed ps (h, refl, a)))

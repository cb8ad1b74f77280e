-- The places of a pass, in the working order: what is left from a place on. Here `live` has the live rows of each nonterminal, by number, and
-- no effect is named. Definitions only. Assumes nothing.
use Rattle.std.specs.Prelude.{◌≡◌, List, [], ◌∷◌, ◌++◌, map, ℕ, suc, ◌<◌, length, drop}
use Rattle.spec_basics.specs.Elements.{concat_map}
use Rattle.spec_language.specs.Grammar.{terminal, nonterminal, Body, Rule}
use Rattle.spec_order.specs.Journal.{absent}
use Rattle.spec_file.specs.Entries.{entry_of}
use Rattle.search_state.specs.Forming.{Part, none, some, left_part, right_part, entry_at}
use Rattle.search_state.specs.Positions.{first_at}
use Rattle.search_state.specs.declared.Place.{Place}
use Rattle.search_order.specs.Lists.{after_in, Chain, ListedAs}

-- the places of rule r with this left position, over these right ones
abbrev pub with_rights : ℕ → List ℕ → ℕ → List Place
with_rights r ks i = map (first_at r i) ks

module _ (live : ℕ → List ℕ) where
  -- the positions of a part of a body
  abbrev pub positions : Part → List ℕ
  positions none = absent ∷ []
  positions (some (terminal c)) = absent ∷ []
  positions (some (nonterminal x)) = live x

  -- the places of rule r, whose body is b
  abbrev pub body_places : ℕ → Body → List Place
  body_places r b = concat_map (with_rights r (positions (right_part b))) (positions (left_part b))

  -- r is the number of the first rule of the list
  abbrev pub rule_places : ℕ → List Rule → List Place
  rule_places r [] = []
  rule_places r (x ∷ rules) = body_places r x.body ++ rule_places (suc r) rules

-- i is the first position of a part, whatever the rows that the table lists
abbrev pub FirstPosition : List ℕ → Part → ℕ → Type 0
FirstPosition lists p i = (live : ℕ → List ℕ) → ListedAs live lists → Chain lists i (positions live p)

module _ (live : ℕ → List ℕ) (rules : List (List ℕ)) where
  abbrev pub all_rights : ℕ → List ℕ
  all_rights r = positions live (right_part (entry_at rules r).body)

  abbrev pub all_lefts : ℕ → List ℕ
  all_lefts r = positions live (left_part (entry_at rules r).body)

  -- the places of rule r with this left position
  abbrev pub left_places : ℕ → ℕ → List Place
  left_places r = with_rights r (all_rights r)

  -- the places of the rules from r on
  abbrev pub onward : ℕ → List Place
  onward r = rule_places live r (drop r (map entry_of rules))

module _ (live : ℕ → List ℕ) (lists : List ℕ) (rules : List (List ℕ)) where
  -- the places after p: the other rights with its left, then the other lefts with each right, then the other rules
  pub record Ahead (p : Place) (ps : List Place) : Type 0 where
    pub rights : List ℕ
    pub lefts : List ℕ
    pub inner : Chain lists (after_in lists p.right) rights
    pub outer : Chain lists (after_in lists p.left) lefts
    pub some_right : all_rights live rules p.rule ≡ [] → ⊥
    pub rest : ps ≡ with_rights p.rule rights p.left ++ (concat_map (left_places live rules p.rule) lefts ++ onward live rules (suc p.rule))

  -- the places left are these, the first of them p
  abbrev pub PlacesFrom : Place → List Place → Type 0
  PlacesFrom p [] = p.rule < length rules → ⊥
  PlacesFrom p (q ∷ qs) = (p.rule < length rules) × (q ≡ p) × Ahead p qs

-- p is the first place from rule r on
abbrev pub FirstPlace : List ℕ → List (List ℕ) → ℕ → Place → Type 0
FirstPlace lists rules r p = (live : ℕ → List ℕ) → ListedAs live lists → PlacesFrom live lists rules p (onward live rules r)

-- q is the place after p
abbrev pub NextPlace : List ℕ → List (List ℕ) → Place → Place → Type 0
NextPlace lists rules p q = (live : ℕ → List ℕ) → ListedAs live lists → (ps : List Place) → PlacesFrom live lists rules p (p ∷ ps) → PlacesFrom live lists rules q ps

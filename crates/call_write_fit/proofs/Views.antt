-- The tests by value, as the code makes them. Assumes nothing.
use mathlib.Core.Path.{◌≡◌, sym, ap, ap₂, ◌∙◌}
use mathlib.Core.Bool.{Bool, false, ◌&&◌}
use mathlib.Core.List.{List, [], map}
use Prim.Native.Nat.{ℕ, ◌+◌, ◌≤◌, ◌<◌}
use native.Mathlib.Nat.{add-zero}
use lib.Dec.{eqb, ltb}
use lib.ListN.{length, get_or, length-map, get_or-map}
use borrow.Author.Tests.{eq-eqb, ne_eqb, lt-ltb, le-ltb}
use Rattle.spec_language.specs.Grammar.{Rule, no_rule}
use Rattle.spec_file.specs.Views.{symbol_of, body_of, body_by as body_where}
use Rattle.spec_order.specs.Journal.{Row, absent, capped}
use Rattle.spec_file.specs.Entries.{entry_of}
use Rattle.call_write_fit.specs.ByValue.{pointer_by, length_by, body_by, row_by}

-- a body of one symbol, and of two, where the tests and lengths of its symbols are at hand
module _ (i n a b : ℕ) (r x y : Row ℕ) (f : Bool) (k : ℕ) (p : f ≡ pointer_by i (symbol_of a) r.left x) (q : k ≡ length_by (symbol_of a) x) (z : n ≡ 0 → ⊥) where
  pub fits_one : (m : ℕ) → m ≡ capped (k + 0) → n ≡ 1 → ((f && eqb r.right absent) && eqb r.len m) ≡ body_by i (body_of n a b) r x y
  unfolding body_by
  fits_one m e o =
      ap₂ (λ (f : Bool) (m : ℕ). (f && eqb r.right absent) && eqb r.len m) p (e ∙ ap capped (add-zero k ∙ q))
      ∙ sym (ap₂ (λ (u v : Bool). body_by i (body_where u v a b) r x y) (ne_eqb n 0 z) (eq-eqb n 1 o))

  pub fits-two : (g : Bool) (j m : ℕ) → g ≡ pointer_by i (symbol_of b) r.right y → j ≡ length_by (symbol_of b) y → m ≡ capped (k + j) → (n ≡ 1 → ⊥)
      → ((f && g) && eqb r.len m) ≡ body_by i (body_of n a b) r x y
  unfolding body_by
  fits-two g j m p' q' e o =
      ap₂ (λ (t : Bool) (m : ℕ). t && eqb r.len m) (ap₂ (λ (f g : Bool). f && g) p p') (e ∙ ap₂ (λ (k j : ℕ). capped (k + j)) q q')
      ∙ sym (ap₂ (λ (u v : Bool). body_by i (body_where u v a b) r x y) (ne_eqb n 0 z) (ne_eqb n 1 o))

-- the row names a rule or none
module _ (rules : List (List ℕ)) (i : ℕ) (r x y : Row ℕ) where
  pub fits-none : length rules ≤ r.rule → false ≡ row_by (map entry_of rules) i r x y
  unfolding row_by
  fits-none l =
      let e : Rule = get_or (map entry_of rules) r.rule no_rule in
      sym (ap (λ (b : Bool). (b && eqb e.head r.head) && body_by i e.body r x y) (ap (ltb r.rule) (length-map rules entry_of) ∙ le-ltb r.rule (length rules) l))

  pub fits-rule : r.rule < length rules → (b : Bool) → b ≡ body_by i (entry_of (get_or rules r.rule [])).body r x y
      → (eqb (get_or (get_or rules r.rule []) 0 0) r.head && b) ≡ row_by (map entry_of rules) i r x y
  unfolding row_by
  fits-rule l b p =
      ap (λ (b : Bool). eqb (get_or (get_or rules r.rule []) 0 0) r.head && b) p
      ∙ sym (ap₂ (λ (b : Bool) (e : Rule). (b && eqb e.head r.head) && body_by i e.body r x y) (ap (ltb r.rule) (length-map rules entry_of) ∙ lt-ltb r.rule (length rules) l) (get_or-map entry_of rules r.rule []))

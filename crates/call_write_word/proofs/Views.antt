-- The definitions on decoded rows and rules, read off the lent rows and the rules of numbers. Assumes nothing.
use mathlib.Core.Path.{◌≡◌, sym, ap₂, subst}
use mathlib.Core.Bool.{Bool, true, false, cond}
use mathlib.Core.List.{List, [], map}
use Prim.Native.Nat.{ℕ, ◌<◌}
use lib.Dec.{eqb}
use lib.ListN.{length, get_or, length-map, get_or-map}
use borrow.Author.Tests.{eq-eqb, ne_eqb}
use Rattle.spec_language.specs.Grammar.{Rule}
use Rattle.spec_order.specs.Journal.{Row}
use Rattle.spec_order.specs.Fitting.{row_fits}
use Rattle.spec_calls.specs.declared.Row.{Row as LentRow}
use Rattle.spec_file.specs.Entries.{entry_of}
use Rattle.spec_calls.specs.Rows.{row_of, blank}
use Rattle.call_write_fit.specs.Forms.{no_forms}
use Rattle.call_write_word.specs.declared.Part.{Part}
use Rattle.call_write_word.specs.Parts.{nothing, body_parts, parts_of}
use Rattle.spec_order.proofs.FittingLaws.{fitting}

module _ (rules : List (List ℕ)) (r : LentRow) where
  abbrev none : Part × Part
  none = (nothing, nothing)

  parts-by : (t : Bool) → eqb r.len 0 ≡ t → cond t ((nothing, nothing)) (body_parts (entry_of (get_or rules r.rule [])).body r.left r.right) ≡ parts_of (map entry_of rules) (row_of r)
  unfolding parts_of
  parts-by t e =
      ap₂ (λ (t : Bool) (x : Rule). cond t ((nothing, nothing)) (body_parts x.body r.left r.right)) (sym e) (sym (get_or-map entry_of rules r.rule []))

  -- what a row of length 0 hands over to, and what another does
  pub parts_none : r.len ≡ 0 → (nothing, nothing) ≡ parts_of (map entry_of rules) (row_of r)
  parts_none e = parts-by true (eq-eqb r.len 0 e)

  pub parts-some : (r.len ≡ 0 → ⊥) → body_parts (entry_of (get_or rules r.rule [])).body r.left r.right ≡ parts_of (map entry_of rules) (row_of r)
  parts-some e = parts-by false (ne_eqb r.len 0 e)

module _ (rules : List (List ℕ)) (J : List LentRow) (i : ℕ) where
  -- the rule of a row that fits is there
  pub inside-at : i < length (map row_of J) → row_fits no_forms (map row_of J) (map entry_of rules) i ≡ true → (i < length J) × ((get_or J i blank).rule < length rules)
  inside-at k f = (
    subst (λ (n : ℕ). i < n) (length-map J row_of) k,
    subst (λ (n : ℕ). (get_or J i blank).rule < n) (length-map rules entry_of) (subst (λ (r : Row ℕ). r.rule < length (map entry_of rules)) (get_or-map row_of J i blank) (fitting no_forms (map row_of J) (map entry_of rules) i f).inside),
  )

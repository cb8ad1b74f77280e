-- The table of rules that the calls look up has the file's rules. Assumes nothing.
use Rattle.std.specs.Prelude.{◌≡◌, List, map, ℕ, ◌≤◌, length, take}
use Rattle.std.proofs.Common.{sym, ap, ◌∙◌, le_trans, le_of_eq, arith, length-take, take_all}
use Rattle.std.proofs.lemmas.List.{length-map}
use Rattle.spec_file.specs.Limits.{rule_limit}
use Rattle.spec_file.specs.Refusals.{fault}
use Rattle.spec_file.specs.Views.{rules_of}
use Rattle.spec_file.proofs.EntryLaws.{rules-length}
use Rattle.spec_file.proofs.Sorted.{few}
use Rattle.spec_file.specs.Entries.{entry_of}
use Rattle.file_tables.specs.Tables.{RuleTable}

-- the rules are no more than the table has rows
pub rules-fit : (bs : List ℕ) (before after : List (List ℕ)) (n : ℕ) → RuleTable bs before after n → n ≤ length after
rules-fit bs before after n t = omega (arith, t.count, sym (length-map (take n after) entry_of) ∙ ap length t.rules, length-take n after)

module _ (bs : List ℕ) (v : (fault bs).number ≡ 0) where
  -- a file's rules are within the limit
  pub rules-all : take rule_limit (rules_of bs) ≡ rules_of bs
  rules-all = take_all rule_limit (rules_of bs) (le_trans (le_of_eq (rules-length bs v)) (few bs v).rules)

  pub rules-in : (before after : List (List ℕ)) (n : ℕ) → RuleTable bs before after n → map entry_of (take n after) ≡ rules_of bs
  rules-in before after n t = t.rules ∙ rules-all

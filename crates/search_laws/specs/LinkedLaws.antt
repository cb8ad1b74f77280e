-- Whether each nonterminal of a set has a row in its list, nonterminal by nonterminal. Assumes nothing.
use Rattle.std.specs.Prelude.{◌≡◌, Bool, true, false, ◌&&◌, List, [], ℕ, ◌+◌, ◌<◌}
use Rattle.std.proofs.Math.Path.{refl, ap}
use Rattle.std.proofs.Common.{sym, ◌∙◌, add-one, lt-ltb}
use Rattle.spec_basics.specs.Lists.{each_append}
use Rattle.relation.specs.Digits.{bit}
use Rattle.spec_file.specs.Limits.{nonterminals}
use Rattle.spec_file.specs.Views.{cons_if}
use Rattle.spec_calls.specs.Base.{members_below, members_of, is_one_of}
use Rattle.spec_calls.proofs.MemberLaws.{is_member}
use Rattle.search_links.specs.Covers.{is_linked}
use Rattle.search_laws.specs.States.{each_linked}

module _ (starts : ℕ) (table : List ℕ) where
  pub linked-none : true ≡ each_linked table (members_below starts 0)
  unfolding members_below
  linked-none = refl

  pub linked-next : (p : ℕ) → each_linked table (members_below starts (p + 1)) ≡ (each_linked table (members_below starts p) && each_linked table (cons_if (bit starts p) p []))
  unfolding members_below
  linked-next p =
      ap (λ (m : ℕ). each_linked table (members_below starts m)) (add-one p)
      ∙ each_append (λ (q : ℕ). is_linked q table) (members_below starts p) (cons_if (bit starts p) p [])

  -- one nonterminal, which is in the set or not
  module _ (p : ℕ) (low : p < nonterminals) where
    of-set : is_one_of (members_of starts) p ≡ bit starts p
    of-set = is_member starts p ∙ ap (λ (b : Bool). b && bit starts p) (lt-ltb p nonterminals low)

    pub linked-in : is_one_of (members_of starts) p ≡ true → is_linked p table ≡ each_linked table (cons_if (bit starts p) p [])
    linked-in h = and-nothing (is_linked p table) ∙ ap (λ (b : Bool). each_linked table (cons_if b p [])) (sym h ∙ of-set)
      where
        and-nothing : (b : Bool) → b ≡ (b && true)
        and-nothing true = refl
        and-nothing false = refl

    pub linked-out : is_one_of (members_of starts) p ≡ false → true ≡ each_linked table (cons_if (bit starts p) p [])
    linked-out h = ap (λ (b : Bool). each_linked table (cons_if b p [])) (sym h ∙ of-set)

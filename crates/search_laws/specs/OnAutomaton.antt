-- Where the table has each terminal's relation and the mask each final state, the search is the base check of the automaton.
-- Assumes nothing.
use Rattle.std.specs.Prelude.{◌≡◌, Bool, not, ◌&&◌, map, ℕ, ◌<◌}
use Rattle.std.proofs.Common.{ap, ap₂}
use Rattle.std.proofs.Math.Path.{fun_ext}
use Rattle.relation.specs.DigitLaws.{some_same}
use Rattle.relation.specs.Digits.{bit}
use Rattle.relation.specs.Relation.{states, has, rejects}
use Rattle.relation.specs.Representation.{value}
use Rattle.spec_language.specs.Automaton.{Automaton}
use Rattle.spec_language.specs.WordRelation.{letter_relation, is_final}
use Rattle.spec_file.specs.Entries.{entry_of}
use Rattle.spec_order.specs.Order.{check}
use Rattle.spec_calls.specs.Base.{members_of, base_by, base}
use Rattle.relation.specs.Stored.{relation_in}
use Rattle.search_laws.specs.Clauses.{order_of}
use Rattle.search_laws.specs.OnRelations.{Letters, problem_in}
use Rattle.search_laws.specs.Problems.{RuleBytes}

pub order-on : (A : Automaton) (starts finals : ℕ) (letters : Letters) (rules : RuleBytes) (J B : ℕ) → ((c : ℕ) → value (relation_in letters c) ≡ letter_relation states A.transitions c)
    → ((f : ℕ) → f < states → bit finals f ≡ is_final A f) → order_of (problem_in starts finals letters rules) J B ≡ check (base states (members_of starts) A) (map entry_of rules) J B
unfolding order_of rejects
order-on A starts finals letters rules J B h k =
    ap₂ (λ (letter : ℕ → ℕ) (reject : ℕ → Bool). check (base_by states (members_of starts) letter reject) (map entry_of rules) J B) (fun_ext h)
    (fun_ext
    (λ e.
    ap not
    (some_same states (λ f. bit finals f && has states e 0 f) (λ f. is_final A f && has states e 0 f) (λ f l. ap (λ (b : Bool). b && has states e 0 f) (k f l)))))

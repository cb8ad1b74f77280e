-- The tables of a file that a check looks up are the file's, so the working order over them is that on the file. Assumes nothing.
use Rattle.std.specs.Prelude.{◌≡◌, refl, Bool, true, false, ◌&&◌, ℕ, ◌≤◌, ◌<◌, eqb, ltb}
use Rattle.std.proofs.Common.{sym, ◌∙◌, arith, pow_pos, eqb-true, ltb-true, ltb-false}
use Rattle.std.proofs.Math.Path.{ap}
use mathlib.Core.List.{List, map}
use Rattle.spec_basics.specs.Tests.{fails, and-fst, and-snd}
use Rattle.spec_basics.specs.Elements.{In}
use Rattle.spec_basics.specs.Lists.{any_of}
use Rattle.relation.specs.DigitLaws.{bit-number}
use Rattle.relation.specs.Digits.{number}
use Rattle.relation.specs.Relation.{states, table}
use Rattle.relation.specs.RelationLaws.{table-lt, has-table, has-empty, ext-has}
use Rattle.relation.specs.Representation.{value}
use Rattle.spec_language.specs.Grammar.{Rule}
use Rattle.spec_language.specs.Remarks.{last_remark, is_remark}
use Rattle.spec_language.proofs.RemarkLaws.{past-remarks}
use Rattle.spec_language.specs.Automaton.{Transition}
use Rattle.spec_language.specs.WordRelation.{moves, letter_relation, is_final}
use Rattle.spec_language.proofs.Paths.{letter_relation-step}
use Rattle.spec_file.specs.Limits.{terminals}
use Rattle.spec_file.specs.Refusals.{fault}
use Rattle.spec_file.specs.Views.{rules_of, transitions_of, automaton_of}
use Rattle.spec_file.proofs.Valid.{letter-low}
use Rattle.spec_order.specs.Order.{check}
use Rattle.spec_file.specs.Entries.{entry_of}
use Rattle.spec_calls.specs.Checking.{Settings, algebra_over, order_on}
use Rattle.relation.specs.Stored.{relation_in}
use Rattle.search_laws.specs.Clauses.{order_of}
use Rattle.search_laws.specs.Problems.{RuleBytes}
use Rattle.search_laws.specs.OnAutomaton.{order-on}
use Rattle.call_check_start.specs.Starting.{problem_of}
use Rattle.file_tables.specs.Tables.{letter_table}
use Rattle.file_tables.specs.LetterLaws.{letters-at, letters-past}

-- a letter that is no remark and that no transition has: its relation is empty
letter-absent : (n : ℕ) (ts : List Transition) (c : ℕ) → is_remark c ≡ false → ((t : Transition) → In t ts → t.letter ≡ c → ⊥) → letter_relation n ts c ≡ 0
unfolding moves
letter-absent n ts c s none =
    letter_relation-step n ts c s
    ∙ ext-has n (table n (moves ts c)) 0 (table-lt n (moves ts c)) (pow_pos _)
    (λ a b ha hb. has-table n (moves ts c) a b ha hb ∙ fails (moves ts c a b) (gone a b) ∙ sym (has-empty n a b))
  where
    gone : (a b : ℕ) → moves ts c a b ≡ true → ⊥
    gone a b h =
        let r = any_of (λ (t : Transition). (eqb t.source a && eqb t.letter c) && eqb t.target b) ts h in
        let t : Transition = r.0 in
        none t r.1 (eqb-true t.letter c (and-snd (eqb t.source a) (eqb t.letter c) (and-fst (eqb t.source a && eqb t.letter c) (eqb t.target b) r.2)))

module _ (bs : List ℕ) (v : (fault bs).number ≡ 0) where
  -- the table has the relation of every letter
  letters-all : (c : ℕ) → value (relation_in (letter_table states (transitions_of bs)) c) ≡ letter_relation states (transitions_of bs) c
  letters-all c = by (ltb c terminals) (ltb-true c terminals) (ltb-false c terminals)
    where
      by : (b : Bool) → (b ≡ true → c < terminals) → (b ≡ false → terminals ≤ c) → value (relation_in (letter_table states (transitions_of bs)) c) ≡ letter_relation states (transitions_of bs) c
      by true p q = letters-at (transitions_of bs) c (p refl)
      by false p q =
          letters-past (transitions_of bs) c (q refl)
          ∙ sym (letter-absent states (transitions_of bs) c (past-remarks c (let l : last_remark < c = omega (arith, q refl) in l))
          (λ t h e. let l = letter-low bs v t h in let m = q refl in omega arith))

  pub order_same : (rules : RuleBytes) → map entry_of rules ≡ rules_of bs → (g : Settings) → order_of (problem_of bs g (letter_table states (transitions_of bs)) rules) g.rows g.budget ≡ order_on bs g
  unfolding order_on
  order_same rules e g =
      order-on (automaton_of bs) g.starts (number states (is_final (automaton_of bs))) (letter_table states (transitions_of bs)) rules g.rows g.budget letters-all (bit-number states (is_final (automaton_of bs)))
      ∙ ap (λ (x : List Rule). check (algebra_over states bs g) x g.rows g.budget) e

-- The rules, transitions and final states of a file that is not refused, as the readings of its records by number. Assumes nothing.
use Rattle.std.specs.Prelude.{◌≡◌, List, ℕ, ◌+◌, ◌≤◌, ◌<◌, length, get_or}
use Rattle.std.proofs.Common.{ap, ◌∙◌, arith}
use Rattle.std.proofs.lemmas.Bool.{lt-leb}
use Rattle.spec_basics.specs.Elements.{every}
use Rattle.spec_basics.specs.Lists.{length-every, getD-every, every-same}
use Rattle.spec_language.specs.Grammar.{Rule, no_rule}
use Rattle.spec_file.specs.Records.{record_count, record_at}
use Rattle.spec_file.specs.Refusals.{fault}
use Rattle.spec_file.specs.Views.{rule_of, transition_of, final_of, rules_of, transitions_of, finals_of}
use Rattle.spec_file.specs.Entries.{rule_count, transition_count, final_count, whole_record, rule_at, transition_at, final_at, grammar_rule, automaton_transition}
use Rattle.spec_file.proofs.Sorted.{counts-le, rules-listed, transitions-listed, finals-listed}

pub whole : (bs : List ℕ) (i : ℕ) → i < record_count bs → record_at bs i ≡ whole_record bs i
unfolding whole_record
whole bs i h = rw (lt-leb (record_count bs) i h)

module _ (bs : List ℕ) (v : (fault bs).number ≡ 0) where
  read : {A : Type 0} (g : List ℕ → A) (m i : ℕ) → i + m ≤ record_count bs → every (λ j. g (record_at bs j)) m i ≡ every (λ j. g (whole_record bs j)) m i
  read g m i h = every-same (λ j. g (record_at bs j)) (λ j. g (whole_record bs j)) m i i (λ j l. ap g (whole bs (i + j) (omega arith)))

  pub rules-read : rules_of bs ≡ every (λ i. grammar_rule (rule_at bs i)) (rule_count bs) 0
  rules-read = rules-listed bs v ∙ read rule_of (rule_count bs) 0 (omega (arith, counts-le bs (record_count bs)))

  pub transitions-read : transitions_of bs ≡ every (λ i. automaton_transition (transition_at bs i)) (transition_count bs) (rule_count bs)
  transitions-read = transitions-listed bs v ∙ read transition_of (transition_count bs) (rule_count bs) (omega (arith, counts-le bs (record_count bs)))

  -- a theorem for a caller of the views, which nothing here cites
  pub finals-read : finals_of bs ≡ every (final_at bs) (final_count bs) (rule_count bs + transition_count bs)
  finals-read = finals-listed bs v ∙ read final_of (final_count bs) (rule_count bs + transition_count bs) (omega (arith, counts-le bs (record_count bs)))

  pub rules-length : length (rules_of bs) ≡ rule_count bs
  rules-length = ap length rules-read ∙ length-every (λ i. grammar_rule (rule_at bs i)) (rule_count bs) 0

  -- rule i of the grammar is record i of the file
  pub rule-read : (i : ℕ) → i < rule_count bs → get_or (rules_of bs) i no_rule ≡ grammar_rule (rule_at bs i)
  rule-read i h =
      let z : 0 + i ≡ i = omega arith in
      ap (λ (rs : List Rule). get_or rs i no_rule) rules-read ∙ getD-every (λ j. grammar_rule (rule_at bs j)) no_rule (rule_count bs) 0 i h ∙ ap (λ (j : ℕ). grammar_rule (rule_at bs j)) z

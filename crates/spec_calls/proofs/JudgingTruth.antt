-- A judgement is the truth about paths (demand 2): accepted exactly when a path leads from state 0 to a final state. Assumes nothing.
use Rattle.std.specs.Prelude.{◌≡◌, refl, Bool, true, false, List, ℕ, zero, suc}
use Rattle.relation.specs.Relation.{states}
use Rattle.spec_language.specs.WordRelation.{rejected}
use Rattle.spec_language.proofs.Paths.{turns-away, accepts}
use Rattle.spec_file.specs.Refusals.{fault, by_number}
use Rattle.spec_file.specs.Views.{automaton_of}
use Rattle.spec_file.proofs.Valid.{automaton-within}
use Rattle.spec_calls.specs.Replies.{answered, refused}
use Rattle.spec_calls.specs.Judging.{word_fault, judgement_by, judge_of, JudgementMeans}

pub judge-means : (bs w : List ℕ) → JudgementMeans bs w (judge_of bs w)
unfolding judge_of
judge-means bs w = by (fault bs).number refl
  where
    last : (b : Bool) → (fault bs).number ≡ 0 → rejected states (automaton_of bs) w ≡ b → JudgementMeans bs w (answered (judgement_by b))
    last true v e = turns-away states (automaton_of bs) (automaton-within bs v) w e
    last false v e = accepts states (automaton_of bs) (automaton-within bs v) w e

    next : (f : ℕ) → (fault bs).number ≡ 0 → JudgementMeans bs w (by_number f (refused (record { number = f; place = 0 })) (answered (judgement_by (rejected states (automaton_of bs) w))))
    next zero v = last (rejected states (automaton_of bs) w) v refl
    next (suc f) v = tt

    by : (f : ℕ) → (fault bs).number ≡ f
        → JudgementMeans bs w (by_number f (refused (fault bs)) (by_number (word_fault w) (refused (record { number = word_fault w; place = 0 })) (answered (judgement_by (rejected states (automaton_of bs) w)))))
    by zero v = next (word_fault w) v
    by (suc f) v = tt

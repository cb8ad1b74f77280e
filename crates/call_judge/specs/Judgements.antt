-- The answers of judging: where the file or the word is refused, and where not. Assumes nothing.
use Rattle.std.specs.Prelude.{◌≡◌, Bool, true, false, ◌||◌, cond, List, ℕ, suc, ◌+◌, ◌≤◌, ◌<◌, leb, ltb, length, get_or, drop}
use Rattle.std.proofs.Common.{sym, ap, ◌∙◌, subst, add-one, drop-cons, le-leb, lt-ltb, le-ltb}
use Rattle.std.proofs.Math.Seq.{drop-length}
use Rattle.std.proofs.lemmas.Bool.{lt-leb}
use Rattle.std.specs.declared.result.Result.{Result}
use Rattle.spec_basics.specs.Tests.{or_left, or-neither}
use Rattle.relation.specs.Relation.{states}
use Rattle.spec_language.specs.WordRelation.{rejected}
use Rattle.spec_file.specs.Limits.{terminals}
use Rattle.spec_file.specs.declared.Refusal.{Refusal as RefusalAnswer}
use Rattle.spec_file.specs.Refusals.{Refusal, first_of}
use Rattle.spec_file.proofs.RefusalLaws.{number-some, number-none, not-held, none-refuses}
use Rattle.spec_file.specs.Views.{automaton_of}
use Rattle.spec_calls.specs.Replies.{Reply, refused, answered, unless}
use Rattle.spec_calls.proofs.ReplyLaws.{reply-first}
use Rattle.spec_calls.specs.Judging.{Judgement, judgement_by, word_limit, word_fault, judge_refusals, judge_of, JudgementMeans}
use Rattle.spec_calls.proofs.JudgingTruth.{judge-means}
use Rattle.call_judge.specs.declared.Judged.{Judged}
use Rattle.call_judge.specs.Letters.{strays}
use Rattle.call_judge.specs.Answers.{judged_of, Judging}

-- an answer that is the definition's means what that one means
pub judged : (bs w : List ℕ) (r : Result Judged RefusalAnswer) → judged_of r ≡ judge_of bs w → Judging bs w r
judged bs w r e = record { answer = e; meaning = subst (JudgementMeans bs w) (sym e) (judge-means bs w) }

-- ---- the refusal of the call

-- the judgement, where nothing is refused
abbrev judgement : List ℕ → List ℕ → Reply Judgement
judgement bs w = answered (judgement_by (rejected states (automaton_of bs) w))

module _ (bs w : List ℕ) where
  abbrev refusal : Refusal
  refusal = first_of (judge_refusals bs w)

  by-refusal : judge_of bs w ≡ unless refusal (judgement bs w)
  unfolding judge_of
  by-refusal = reply-first (judge_refusals bs w) (judgement_by (rejected states (automaton_of bs) w))

  pub judge-refused : (refusal.number ≡ 0 → ⊥) → refused refusal ≡ judge_of bs w
  judge-refused h = sym (by-refusal ∙ number-some (refused refusal) (judgement bs w) refusal.number h)

  pub word-judged : refusal.number ≡ 0 → judgement bs w ≡ judge_of bs w
  word-judged e = sym (by-refusal ∙ number-none (refused refusal) (judgement bs w) refusal.number e)

-- ---- 11

module _ (w : List ℕ) where
  -- from letter i on there is a stray letter where there is one at all
  abbrev pub From : ℕ → Type 0
  From i = strays (drop i w) ≡ strays w

  first : (i : ℕ) → i < length w → From i → (leb terminals (get_or w i 0) || strays (drop (suc i) w)) ≡ strays w
  first i h f = rw (drop-cons w i 0 h) at f

  pub too_long : word_limit < length w → 11 ≡ word_fault w
  unfolding word_fault
  too_long h = rw (lt-ltb word_limit (length w) h)

  module _ (h : length w ≤ word_limit) where
    by-letters : (b : Bool) → strays w ≡ b → cond b 11 0 ≡ word_fault w
    unfolding word_fault
    by-letters b e = rw (le-ltb word_limit (length w) h, e)

    pub beyond : (i : ℕ) → i < length w → From i → terminals ≤ get_or w i 0 → 11 ≡ word_fault w
    beyond i l f t = by-letters true (sym (first i l f) ∙ or_left (leb terminals (get_or w i 0)) (strays (drop (suc i) w)) (le-leb terminals (get_or w i 0) t))

    pub none-beyond : From (length w) → 0 ≡ word_fault w
    none-beyond f = by-letters false (sym f ∙ ap strays (drop-length w))

  pub from_next : (i : ℕ) → i < length w → From i → get_or w i 0 < terminals → From (i + 1)
  from_next i l f t =
      let e : leb terminals (get_or w i 0) ≡ false = lt-leb terminals (get_or w i 0) t in
      ap (λ (k : ℕ). strays (drop k w)) (add-one i)
      ∙ sym (ap (λ (b : Bool). b || strays (drop (suc i) w)) e)
      ∙ first i l f

  -- a word that is not refused has terminals alone
  pub terminals-alone : word_fault w ≡ 0 → strays w ≡ false
  unfolding word_fault
  terminals-alone e = (or-neither (ltb word_limit (length w)) (strays w) (not-held (ltb word_limit (length w) || strays w) 10 e)).1

-- nor has one where nothing refuses the call
pub judged-alone : (bs w : List ℕ) → (first_of (judge_refusals bs w)).number ≡ 0 → strays w ≡ false
judged-alone bs w e = terminals-alone w (none-refuses (judge_refusals bs w) e).1.0

-- What a host may conclude from a judgement (JudgeTells), by its contract alone. Assumes nothing.
use Rattle.std.specs.Prelude.{◌≡◌, Bool, true, false, ◌||◌, cond, List, ℕ, ◌<◌, leb, ltb, length}
use Rattle.std.proofs.Math.Path.{refl}
use Rattle.std.proofs.Common.{sym, ap, ◌∙◌, subst, inl, inr, suc-ne-zero, arith}
use Rattle.spec_basics.specs.Elements.{any}
use Rattle.relation.specs.Relation.{states}
use Rattle.spec_language.specs.WordRelation.{rejected}
use Rattle.spec_file.specs.Limits.{terminals}
use Rattle.spec_language.specs.Automaton.{Accepts, TurnsAway}
use Rattle.spec_file.specs.Refusals.{Refusal, fault}
use Rattle.spec_file.specs.Views.{automaton_of}
use Rattle.spec_calls.specs.Judging.{Judgement, accepted, turned_away, word_limit, word_fault, judgement_by, judge_of, JudgementMeans}
use Rattle.spec_calls.specs.Replies.{Reply, refused, answered}
use Rattle.spec_calls.specs.Codes.{first_answer_code, code_by}
use Rattle.bolfrega.specs.Codes.{accepted_code, turned_away_code, judgement_code, place_in}
use Rattle.bolfrega.specs.Clauses.{Judges}
use Rattle.bolfrega.specs.Hosts.{JudgeTells}
use Rattle.bolfrega.specs.HostReplies.{Why, why, why-not}
use Rattle.host_result.specs.LowNumbers.{record-none, low-high, LowIn, judge-low}

word-refused : (w : List ℕ) → (word_fault w ≡ 0 → ⊥) → word_fault w ≡ 11
unfolding word_fault
word-refused w h = by (ltb word_limit (length w) || any (λ c. leb terminals c) w) h
  where
    by : (b : Bool) → (◌≡◌ {A = ℕ} (cond b 11 0) 0 → ⊥) → ◌≡◌ {A = ℕ} (cond b 11 0) 11
    by true n = refl
    by false n = absurd (n refl)

module _ (bs w : List ℕ) (r i : ℕ) (h : Judges bs w r i) where
  module _ (y : Refusal) (e : judge_of bs w ≡ refused y) where
    low : r < first_answer_code
    low = subst (λ (n : ℕ). n < first_answer_code) (sym (h.code ∙ ap (code_by judgement_code) e)) (subst LowIn e (judge-low bs w))

    -- it was the file, or else the run
    tells-by : Why (fault bs) (word_fault w) y → JudgeTells bs w r i
    tells-by (inl (n, q)) =
        let number_is = h.code ∙ ap (code_by judgement_code) e ∙ ap (λ (x : Refusal). x.number) q in
        let place_is = h.place ∙ ap place_in e ∙ ap (λ (x : Refusal). x.place) q in
        record {
          file-refused = λ m. (number_is, place_is);
          run-refused = λ z. absurd (n z);
          run-number = λ z. absurd (n z);
          no_record = record-none bs r i number_is place_is;
          accepted-exactly = λ t. absurd (low-high low t);
          turned-away-exactly = λ t. absurd (low-high low t);
        }
    tells-by (inr (z, (n, q))) =
        record {
          file-refused = λ m. absurd (m z);
          run-refused = λ z. (λ l. word-refused w n, λ e. low);
          run-number = λ z l. h.code ∙ ap (code_by judgement_code) e ∙ ap (λ (x : Refusal). x.number) q ∙ word-refused w n;
          no_record = λ z. h.place ∙ ap place_in e ∙ ap (λ (x : Refusal). x.place) q;
          accepted-exactly = λ t. absurd (low-high low t);
          turned-away-exactly = λ t. absurd (low-high low t);
        }

  module _ (z : (fault bs).number ≡ 0) (n : word_fault w ≡ 0) (c : i ≡ 0) where
    tells_as : (g : Judgement) → r ≡ judgement_code g → JudgementMeans bs w (answered g) → JudgeTells bs w r i
    tells_as accepted e m =
        record {
          file-refused = λ k. absurd (k z);
          run-refused = λ k. (λ l. absurd (low-high l (omega (arith, e))), λ l. absurd (suc-ne-zero 10 (sym l ∙ n)));
          run-number = λ k l. absurd (low-high l (omega (arith, e)));
          no_record = λ k. c;
          accepted-exactly = λ t. (λ k. m, λ k. e);
          turned-away-exactly = λ t. (λ k. absurd (let z : ⊥ = omega (arith, e, k) in z), λ k. absurd (k m));
        }
    tells_as turned_away e m =
        record {
          file-refused = λ k. absurd (k z);
          run-refused = λ k. (λ l. absurd (low-high l (omega (arith, e))), λ l. absurd (suc-ne-zero 10 (sym l ∙ n)));
          run-number = λ k l. absurd (low-high l (omega (arith, e)));
          no_record = λ k. c;
          accepted-exactly = λ t. (λ k. absurd (let z : ⊥ = omega (arith, e, k) in z), λ k. absurd (m k));
          turned-away-exactly = λ t. (λ k. m, λ k. e);
        }

  pub judge-tells : JudgeTells bs w r i
  unfolding judge_of
  judge-tells = by (judge_of bs w) refl
    where
      last : Judgement
      last = judgement_by (rejected states (automaton_of bs) w)

      by : (x : Reply Judgement) → judge_of bs w ≡ x → JudgeTells bs w r i
      by (refused y) e = tells-by y e (why (fault bs) (word_fault w) last y e)
      by (answered g) e =
          let t = why-not (fault bs) (word_fault w) last g e in
          tells_as t.0 t.1 (h.place ∙ ap place_in e) g (h.code ∙ ap (code_by judgement_code) e) (subst (JudgementMeans bs w) e h.meaning)

  -- ---- in short, for the reader; nothing cites these

  pub accepted-means : r ≡ accepted_code → Accepts (automaton_of bs) w
  accepted-means e = (judge-tells.accepted-exactly (omega (arith, e))).0 e

  pub turned-away-means : r ≡ turned_away_code → TurnsAway (automaton_of bs) w
  turned-away-means e = (judge-tells.turned-away-exactly (omega (arith, e))).0 e

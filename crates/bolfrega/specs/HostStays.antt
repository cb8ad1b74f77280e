-- Two checks of one file whose answers agree tell a host the same verdict, joins, pass and run. Assumes nothing.
use Rattle.std.specs.Prelude.{◌≡◌, List, [], ◌∷◌, ℕ, length, get_or}
use Rattle.std.proofs.Common.{sym, ap, ap₂, ◌∙◌}
use Rattle.relation.specs.Relation.{states, pairs}
use Rattle.spec_language.specs.WordRelation.{word_relation}
use Rattle.spec_file.specs.Refusals.{refuse}
use Rattle.spec_file.specs.Views.{automaton_of}
use Rattle.spec_order.specs.Journal.{capped}
use Rattle.spec_order.specs.Order.{Answer, Verdict, broken}
use Rattle.spec_calls.specs.Checking.{Settings, check_of, shown}
use Rattle.spec_calls.specs.Codes.{verdict_code, refused_by}
use Rattle.spec_calls.specs.DemandThree.{Agrees, Promises}
use Rattle.spec_calls.specs.Replies.{answered, unless}
use Rattle.spec_calls.specs.Writing.{room_fault, written_by}
use Rattle.host_check.specs.Details.{last_three, shown_by}
use Rattle.bolfrega.specs.BrokenLaws.{if-broken-same}
use Rattle.bolfrega.specs.Hosts.{told_joins, told_pass, told_pairs, told_length, told_refused, TellsAlike}
use Rattle.bolfrega.specs.HostReplies.{broken_row, writing, ToldAnswer}
use Rattle.bolfrega.specs.HostShows.{row-length, row-relation}

-- the last three details of a broken answer, by its run w and the buffer
module _ (bs old : List ℕ) where
  abbrev of_run : List ℕ → List ℕ
  of_run w =
      pairs states (word_relation states (automaton_of bs).transitions w) ∷ capped (length w)
      ∷ refused_by (unless (refuse (room_fault w (length old)) 0) (answered (length w))) ∷ []

  of-run : (g : Settings) (a : Answer ℕ) → check_of bs g ≡ answered a → Promises bs g a → a.verdict ≡ broken
      → last_three broken (broken_row a) (writing bs old a) ≡ of_run (shown bs a)
  of-run g a reply p v =
      ap₂ (λ (e n : ℕ). pairs states e ∷ n ∷ refused_by (writing bs old a) ∷ []) (row-relation bs g a reply v p) (row-length bs g a reply v p)

-- a: the answer of the call with the settings g, which gave the details d, the buffer new and the number r. The letters with a prime: the
-- same of the call with the settings g'
module _ (bs : List ℕ) (g g' : Settings) (d d' old new new' : List ℕ) (r r' : ℕ) (a a' : Answer ℕ) (p : Promises bs g a) (p' : Promises bs g' a')
    (t : ToldAnswer bs g d old new r a) (t' : ToldAnswer bs g' d' old new' r' a') (same : Agrees bs a a') where
  last-same : last_three a'.verdict (broken_row a') (writing bs old a') ≡ last_three a.verdict (broken_row a) (writing bs old a)
  last-same =
      ap (λ (v : Verdict). last_three v (broken_row a') (writing bs old a')) same.verdict
      ∙ if-broken-same a.verdict _ _ (0 ∷ 0 ∷ 0 ∷ [])
      (λ q. of-run bs old g' a' t'.reply p' (same.verdict ∙ q) ∙ ap (of_run bs old) same.word ∙ sym (of-run bs old g a t.reply p q))

  pub tells_alike : TellsAlike bs g d old new r d' new' r'
  tells_alike =
      record {
        same_number = t'.number ∙ ap verdict_code same.verdict ∙ sym t.number;
        same-joins = ap told_joins t'.details ∙ same.joins ∙ sym (ap told_joins t.details);
        same-pass = ap told_pass t'.details ∙ same.pass ∙ sym (ap told_pass t.details);
        same-pairs = ap told_pairs t'.details ∙ ap (λ (xs : List ℕ). get_or xs 0 0) last-same ∙ sym (ap told_pairs t.details);
        same_length = ap told_length t'.details ∙ ap (λ (xs : List ℕ). get_or xs 1 0) last-same ∙ sym (ap told_length t.details);
        same-refused = ap told_refused t'.details ∙ ap (λ (xs : List ℕ). get_or xs 2 0) last-same ∙ sym (ap told_refused t.details);
        same-buffer =
            t'.buffer
            ∙ ap₂ (λ (v : Verdict) (w : List ℕ). shown_by v (written_by w old (unless (refuse (room_fault w (length old)) 0) (answered (length w)))) old) same.verdict same.word
            ∙ sym t.buffer;
      }

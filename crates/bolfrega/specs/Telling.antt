-- The numbers that the code computes are those of the contracts. Assumes nothing.
use Rattle.std.specs.Prelude.{◌≡◌, List, ℕ, length, Ok, Err}
use Rattle.std.specs.declared.option.Option.{Option}
use Rattle.std.specs.declared.result.Result.{Result}
use Rattle.std.proofs.Common.{sym, ap, ◌∙◌, subst}
use Rattle.spec_file.specs.Answers.{tested_of}
use Rattle.spec_file.specs.declared.Record.{Record as RecordAnswer}
use Rattle.spec_file.specs.Refusals.{Refusal, fault}
use Rattle.spec_file.specs.declared.Refusal.{Refusal as RefusalAnswer}
use Rattle.spec_file.specs.Reading.{ReaderStep, step_at}
use Rattle.file_reader.specs.Answers.{step_of, place_after}
use Rattle.spec_calls.specs.Judging.{judge_of, JudgementMeans}
use Rattle.call_judge.specs.declared.Judged.{Judged}
use Rattle.call_judge.specs.Answers.{judged_of, Judging}
use Rattle.spec_calls.specs.Recognizing.{recognize_of, RecognizeMeans}
use Rattle.call_member.specs.declared.Recognized.{Recognized}
use Rattle.call_member.specs.Answers.{recognized_of, Recognizing}
use Rattle.spec_calls.specs.Listing.{list_of, ListMeans}
use Rattle.call_gaps.specs.Answers.{listed_of, Lists}
use Rattle.spec_calls.specs.Codes.{code_by}
use Rattle.spec_calls.specs.Replies.{Reply}
use Rattle.spec_unfold.specs.Unfolding.{least_for}
use Rattle.call_move.specs.Answers.{moved_of, Widens, Narrows}
use Rattle.call_unfold.specs.Answers.{Unfolds}
use Rattle.bolfrega.specs.Codes.{judgement_code, derivation_code, listed_code, listing_code, converted_code, conversion_code, step_code, step_record, step_values, size_in, place_in}
use Rattle.bolfrega.specs.Clauses.{Refuses, StepsFrom, Judges, Recognizes, ListsGaps, ToldMove, ToldSize, Converts, WidensFile, NarrowsFile, UnfoldsFile}

-- the file's refusal
pub refuses : (bs : List ℕ) (x : Result (Unit {0}) RefusalAnswer) → tested_of x ≡ fault bs → Refuses bs (tested_of x).number (tested_of x).place
refuses bs x e = record { number = ap (λ (y : Refusal). y.number) e; place = ap (λ (y : Refusal). y.place) e }

-- the step x, which is y
pub steps-from : (bs : List ℕ) (place : ℕ) (x y : Result (Option (RecordAnswer × ℕ)) RefusalAnswer) → step_of x ≡ step_at bs place → x ≡ y → StepsFrom bs place (step_code (step_of y)) (step_record (step_of y)) (step_values (step_of y)) (place_after (step_of y) place)
steps-from bs place x y j q =
    let e : step_of y ≡ step_at bs place = ap step_of (sym q) ∙ j in
    record { code = ap step_code e; refused = ap step_record e; says = ap step_values e; after = ap (λ (s : ReaderStep). place_after s place) e }

-- the judgement x, which is y
pub judges : (bs w : List ℕ) (x y : Result Judged RefusalAnswer) → Judging bs w x → x ≡ y → Judges bs w (code_by judgement_code (judged_of y)) (place_in (judged_of y))
judges bs w x y j q =
    let e : judged_of y ≡ judge_of bs w = ap judged_of (sym q) ∙ j.answer in
    record { code = ap (code_by judgement_code) e; place = ap place_in e; meaning = subst (JudgementMeans bs w) j.answer j.meaning }

-- the answer x on a run, which is y
pub recognizes : (bs w before after : List ℕ) (x y : Result Recognized RefusalAnswer) → Recognizing bs w before after x → x ≡ y
    → Recognizes bs w before after (code_by derivation_code (recognized_of y)) (place_in (recognized_of y))
recognizes bs w before after x y j q =
    let e : recognized_of y ≡ recognize_of bs w (length before) after = ap recognized_of (sym q) ∙ j.answer in
    record { code = ap (code_by derivation_code) e; place = ap place_in e; meaning = subst (RecognizeMeans bs w before after) j.answer j.meaning }

-- the answer x on the sheet, told as the number r, the record i and the count n
pub lists-gaps-by : (bs old new : List ℕ) (x : Result ℕ RefusalAnswer) → Lists bs old new x → (r i n : ℕ)
    → r ≡ code_by listing_code (listed_of x) → i ≡ place_in (listed_of x) → n ≡ size_in (listed_of x) → ListsGaps bs old new r i n
lists-gaps-by bs old new x j r i n a b c =
    record {
      code = a ∙ ap (code_by listing_code) j.answer;
      place = b ∙ ap place_in j.answer;
      entries = c ∙ ap size_in j.answer;
      buffer = j.buffer;
      meaning = subst (ListMeans bs old new) j.answer j.meaning;
    }

-- the answer x on the sheet, which is y
pub lists-gaps : (bs old new : List ℕ) (x y : Result ℕ RefusalAnswer) → Lists bs old new x → x ≡ y
    → ListsGaps bs old new (code_by listing_code (listed_of y)) (place_in (listed_of y)) (size_in (listed_of y))
lists-gaps bs old new x y j q =
    let e : listed_of y ≡ list_of bs (length old) = ap listed_of (sym q) ∙ j.answer in
    record { code = ap (code_by listing_code) e; place = ap place_in e; entries = ap size_in e; buffer = j.buffer; meaning = subst (ListMeans bs old new) j.answer j.meaning }

-- ---- a size

-- a list that is told so
pub lists-told : (bs old new : List ℕ) (x : Result ℕ RefusalAnswer) → Lists bs old new x → (r i n : ℕ) → ToldSize listed_code x r i n → ListsGaps bs old new r i n
lists-told bs old new (Ok k) j r i n t = lists-gaps-by bs old new (Ok k) j r i n t.told.0 t.told.1 t.told.2
lists-told bs old new (Err y) j r i n t = lists-gaps-by bs old new (Err y) j r i n t.told.0 t.told.1 t.told.2

-- ---- a file that is converted

-- what is told so
pub move-told : (x : Result ℕ RefusalAnswer) (r i n : ℕ) → ToldSize converted_code x r i n → ToldMove (moved_of x) r i n
move-told (Ok k) r i n t = record { code = t.told.0; place = t.told.1; size = t.told.2 }
move-told (Err y) r i n t = record { code = t.told.0; place = t.told.1; size = t.told.2 }

-- the answer x, which is y
pub told_move : (x y : Result ℕ RefusalAnswer) → x ≡ y → ToldMove (moved_of x) (code_by conversion_code (moved_of y)) (place_in (moved_of y)) (size_in (moved_of y))
told_move x y q = let e = ap moved_of (sym q) in record { code = ap (code_by conversion_code) e; place = ap place_in e; size = ap size_in e }

-- the answer x, told as r, i and n

module _ (bs old new : List ℕ) (x : Result ℕ RefusalAnswer) (r i n : ℕ) (t : ToldMove (moved_of x) r i n) where
  converts : (a : Reply ℕ) (after : List ℕ) (means : List ℕ → Reply ℕ → Type 0) → moved_of x ≡ a → new ≡ after → means new (moved_of x) → Converts a after means new r i n
  converts a after means answer output meaning =
      record { told = subst (λ (y : Reply ℕ). ToldMove y r i n) answer t; output = output; meaning = subst (means new) answer meaning }

  pub widens-file : Widens bs old new x → WidensFile bs old new r i n
  widens-file j = converts _ _ _ j.answer j.output j.meaning

  pub narrows-file : Narrows bs old new x → NarrowsFile bs old new r i n
  narrows-file j = converts _ _ _ j.answer j.output j.meaning

  pub unfolds-file : (set : ℕ) → Unfolds (least_for set) bs old new x → UnfoldsFile set bs old new r i n
  unfolds-file set j = converts _ _ _ j.answer j.output j.meaning

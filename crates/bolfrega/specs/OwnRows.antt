-- What the code has in hand after a check over a host's own rows, and after writing a run, is what the host is told. Assumes nothing.
use Rattle.std.specs.Prelude.{◌≡◌, refl, List, [], ◌∷◌, ◌++◌, map, ℕ, length, get_or}
use Rattle.std.proofs.Common.{sym, ap, ◌∙◌, subst}
use Rattle.spec_basics.specs.Lists.{get_d_map}
use Rattle.relation.specs.Relation.{states, pairs}
use Rattle.spec_order.specs.Journal.{absent, Row}
use Rattle.spec_order.specs.Order.{Answer}
use Rattle.spec_calls.specs.Codes.{code_by}
use Rattle.spec_calls.specs.Replies.{Reply}
use Rattle.spec_calls.specs.Rows.{row_of, blank, Journal}
use Rattle.spec_calls.specs.declared.Options.{Options}
use Rattle.spec_calls.specs.declared.Row.{Row as LentRow}
use Rattle.search_laws.specs.declared.Answer.TheVariants as answer
use Rattle.std.specs.declared.result.Result.{Result}
use Rattle.spec_file.specs.declared.Refusal.{Refusal as Refused}
use Rattle.search_laws.specs.declared.Answer.{Answer as Answered}
use Rattle.std.specs.Prelude.{Ok, Err}
use Rattle.call_check.specs.Answers.{checked_of}
use Rattle.call_check.specs.Clauses.{Checks}
use Rattle.call_write.specs.Answers.{writing_of}
use Rattle.call_write.specs.Clauses.{Writes}
use Rattle.host_result.specs.Fronts.{name_in}
use Rattle.host_result.specs.Results.{told_by, numbers_in}
use Rattle.host_result.specs.declared.CheckResult.{CheckResult}
use Rattle.host_check.specs.Details.{zero_row, answer_code, row_after, row_numbers, head_of}
use Rattle.host_check.proofs.TellingLaws.{unbroken-shows-none, row-there, head-there}
use Rattle.bolfrega.specs.Codes.{written_code, writing_code, place_in, size_in}
use Rattle.bolfrega.specs.Clauses.{ChecksRows, ToldRun, ToldSize, WritesRun}

-- ---- the check

-- the number r and the nine details d, of what the check answered, c, and the row x that it names
pub record ToldRows (c : Result Answered Refused) (x : LentRow) (r : ℕ) (d : List ℕ) : Type 0 where
  pub code : r ≡ (told_by c x x 0).code
  pub details : d ≡ numbers_in (told_by c x x 0) ++ ((told_by c x x 0).head ∷ [])

module _ (bs : List ℕ) (o : Options) (old new : Journal) (as_many : length new ≡ length old) where
  -- with the row that is named
  abbrev tale : Result Answered Refused → CheckResult
  tale c = let x = get_or new (name_in c 0).row blank in told_by c x x 0

  code-told : (c : Result Answered Refused) → (tale c).code ≡ code_by answer_code (checked_of c new)
  code-told (Err r) = refl
  code-told (Ok (answer.Ended x n)) = refl
  code-told (Ok (answer.Broken i n)) = refl

  row_read : (i : ℕ) (n : _) → Checks bs o old new (Ok (answer.Broken i n)) → row_of (get_or new i blank) ≡ row_after (map row_of new) i
  row_read i n h = sym (get_d_map row_of blank zero_row new i (row-there bs o old new as_many i n h))

  numbers-told : (c : Result Answered Refused) → Checks bs o old new c → numbers_in (tale c) ≡ row_numbers (map row_of new) (checked_of c new)
  numbers-told (Err r) h = refl
  numbers-told (Ok (answer.Ended x n)) h = ap (λ (l : List ℕ). 0 ∷ n.joins ∷ n.used ∷ n.pass ∷ absent ∷ l) (sym (unbroken-shows-none x _ (0 ∷ 0 ∷ 0 ∷ [])))
  numbers-told (Ok (answer.Broken i n)) h = ap (λ (x : Row ℕ). 0 ∷ n.joins ∷ n.used ∷ n.pass ∷ i ∷ pairs states x.effect ∷ x.len ∷ 0 ∷ []) (row_read i n h)

  head-told : (c : Result Answered Refused) → Checks bs o old new c → (tale c).head ≡ head_of (checked_of c new)
  head-told (Err r) h = refl
  head-told (Ok (answer.Ended x n)) h = sym (unbroken-shows-none x _ 0)
  head-told (Ok (answer.Broken i n)) h = ap (λ (x : Row ℕ). x.head) (row_read i n h) ∙ head-there bs o old new as_many i n h

  pub checks-rows : (c : Result Answered Refused) → Checks bs o old new c → (x : LentRow) → x ≡ get_or new (name_in c 0).row blank → (r : ℕ) (d : List ℕ) → ToldRows c x r d → ChecksRows bs o old new d r
  checks-rows c h x ex r d t =
      record {
        code = t.code ∙ ap (λ (y : LentRow). (told_by c y y 0).code) ex ∙ code-told c ∙ ap (code_by answer_code) h.answer;
        details =
            t.details ∙ ap (λ (y : LentRow). numbers_in (told_by c y y 0) ++ ((told_by c y y 0).head ∷ [])) ex ∙ ap (λ (l : List ℕ). l ++ ((tale c).head ∷ [])) (numbers-told c h)
            ∙ ap (λ (k : ℕ). row_numbers (map row_of new) (checked_of c new) ++ (k ∷ [])) (head-told c h) ∙ ap (λ (y : Reply (Answer ℕ)). row_numbers (map row_of new) y ++ (head_of y ∷ [])) h.answer;
        journal = h.journal;
        untouched = h.untouched;
        promises = h.promises;
      }

-- ---- writing

-- the answer x, which is y
pub told-run : (x y : Result ℕ Refused) → x ≡ y → ToldRun (writing_of x) (code_by writing_code (writing_of y)) (place_in (writing_of y)) (size_in (writing_of y))
told-run x y q = let e = ap writing_of (sym q) in record { code = ap (code_by writing_code) e; place = ap place_in e; size = ap size_in e }

-- what is told so
pub run-told : (x : Result ℕ Refused) (r i n : ℕ) → ToldSize written_code x r i n → ToldRun (writing_of x) r i n
run-told (Ok k) r i n t = record { code = t.told.0; place = t.told.1; size = t.told.2 }
run-told (Err y) r i n t = record { code = t.told.0; place = t.told.1; size = t.told.2 }

pub writes-run : (bs : List ℕ) (rows : Journal) (used k : ℕ) (old new : List ℕ) (x : Result ℕ Refused) → Writes bs (map row_of rows) used k old new x → (r i n : ℕ) → ToldRun (writing_of x) r i n → WritesRun bs rows used k old new r i n
writes-run bs rows used k old new x w r i n t = record { told = subst (λ (y : Reply ℕ). ToldRun y r i n) w.answer t; buffer = w.buffer; meaning = w.meaning }

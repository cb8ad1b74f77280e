-- The journal is a local array of rows: its first rows are lent to the check, two rows of it are read, and its first rows are shared to write the run,
-- with the bytes of the file that this is given. What is in hand then is what a host is to be told. Assumes nothing.
use Rattle.std.proofs.Common.{arith, ◌≡◌, refl, ap, ◌∙◌, subst, ℕ, ◌<◌, ◌≤◌, List, map, ◌++◌, length, get_or, replicate, take, drop, length-append, length-drop}
use Rattle.std.proofs.Math.Seq.{take-append_seam}
use Rattle.std.proofs.lemmas.List.{length-replicate, length-take-le}
use Rattle.relation.specs.Representation.{none}
use Rattle.spec_calls.specs.Codes.{refused_by}
use Rattle.spec_calls.specs.Rows.{row_of, blank, Journal}
use Rattle.spec_calls.specs.Checking.{journal_limit}
use Rattle.spec_calls.specs.declared.Options.{Options}
use Rattle.spec_calls.specs.declared.Row.{Row}
use Rattle.call_check.specs.Clauses.{Checks}
use Rattle.std.specs.declared.result.Result.{Result}
use Rattle.spec_file.specs.declared.Refusal.{Refusal as Refused}
use Rattle.search_laws.specs.declared.Answer.{Answer as Answered}
use Rattle.call_write.specs.Answers.{writing_of}
use Rattle.call_write.specs.Clauses.{Writes}
use Rattle.host_result.specs.Fronts.{front_of, place_of, name_in}
use Rattle.host_result.specs.Results.{told_by}
use Rattle.host_result.specs.declared.CheckResult.{CheckResult}
use Rattle.host_result.specs.declared.RowToWrite.{RowToWrite}
use Rattle.host_check.specs.Clauses.{ChecksAlone}
use Rattle.host_check.proofs.TellingLaws.{tells-alone}
use Rattle.host_check.proofs.check_and_write.Goals as goal

-- xs: the array before the check. n: the rows lent. zs: these after it
told : (bs : List ℕ) (rows : ℕ) (x : Row) (o : Options) (p : ℕ) (old new : List ℕ) (xs : Journal) → xs ≡ replicate journal_limit x → (n : ℕ) → (n ≡ front_of rows) × (n ≤ journal_limit)
    → (zs : Journal) → length zs ≡ length (take n xs) → (a : Result Answered Refused) → Checks bs o (take n xs) zs a
    → (d : RowToWrite) → d ≡ name_in a (length bs) → (i : ℕ) → i ≡ place_of d.row → (k : ℕ) → (k ≡ place_of p) × (k < journal_limit)
    → (w : Result ℕ Refused) → Writes (take d.bytes bs) (map row_of (take n (zs ++ drop n xs))) d.used d.row old new w
    → (r : CheckResult) → r ≡ told_by a (get_or (zs ++ drop n xs) i blank) (get_or (zs ++ drop n xs) k blank) (refused_by (writing_of w)) → ChecksAlone bs rows x o p old new r
told bs rows x o p old new xs e n en zs ez a ea d ed i ei k ek w ew r er =
    let long : length xs ≡ journal_limit = ap length e ∙ length-replicate journal_limit x in
    let lent : length (take n xs) ≡ n = length-take-le n xs (omega (arith, en.1)) in
    let nz : length zs ≡ n = ez ∙ lent in
    let all : length (zs ++ drop n xs) ≡ journal_limit = omega (arith, length-append zs (drop n xs), length-drop n xs, en.1) in
    let front : take n (zs ++ drop n xs) ≡ zs = subst (λ (u : ℕ). take u (zs ++ drop n xs) ≡ zs) nz (take-append_seam zs (drop n xs)) in
    tells-alone bs rows x o p old new xs e n en lent zs nz all a ea d ed i ei k ek w (subst (λ (j : Journal). Writes (take d.bytes bs) (map row_of j) d.used d.row old new w) front ew) r er

pub returns : goal.returns
unfolding none
returns c =
    told c.args.file.now c.args.rows c.args.old c.args.options c.args.sample_row c.args.buffer.now c.write-writing.new.buffer (replicate journal_limit c.args.old) refl
    c.lent_rows-n.result c.lent_rows-n.ensures c.check-checked.new.journal c.check-checked.auto.journal c.check-checked.result c.check-checked.ensures
    c.row_to_write-named.result c.row_to_write-named.ensures c.row_number-at.result c.row_number-at.ensures.0 c.row_number-at_sample.result c.row_number-at_sample.ensures
    c.write-writing.result c.write-writing.ensures c.to_result.result c.to_result.ensures

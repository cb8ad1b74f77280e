-- The journal is a local array of rows: its first rows are lent to the check, one row is stored, and its first rows are shared to write the run.
-- Assumes nothing.
use Rattle.std.proofs.Common.{arith, ◌≡◌, refl, ap, ◌∙◌, ℕ, ◌≤◌, List, map, ◌++◌, length, replicate, take, drop, set}
use Rattle.std.proofs.lemmas.List.{length-replicate, length-take-le}
use Rattle.spec_calls.specs.Rows.{row_of, Journal}
use Rattle.spec_calls.specs.Checking.{journal_limit}
use Rattle.spec_calls.specs.declared.Options.{Options}
use Rattle.spec_calls.specs.declared.Row.{Row}
use Rattle.call_check.specs.Clauses.{Checks}
use Rattle.std.specs.declared.result.Result.{Result}
use Rattle.spec_file.specs.declared.Refusal.{Refusal as Refused}
use Rattle.search_laws.specs.declared.Answer.{Answer as Answered}
use Rattle.call_write.specs.Clauses.{Writes}
use Rattle.host_result.specs.Fronts.{front_of, place_of}
use Rattle.test_damaged.specs.Clauses.{WritesDamaged}
use Rattle.test_damaged.specs.Laws.{written-damaged}
use Rattle.test_damaged.proofs.write_damaged.Goals as goal

-- xs: the array before the check. n: the rows lent. zs: these after it
stored : (bs : List ℕ) (rows : ℕ) (o : Options) (place : ℕ) (x : Row) (u k : ℕ) (old new : List ℕ) (xs : Journal) → xs ≡ replicate journal_limit x
    → (n : ℕ) → (n ≡ front_of rows) × (n ≤ journal_limit) → (zs : Journal) → length zs ≡ length (take n xs) → (a : Result Answered Refused) → Checks bs o (take n xs) zs a
    → (j : ℕ) → j ≡ place_of place → (w : Result ℕ Refused) → Writes bs (map row_of (take n (set (zs ++ drop n xs) j x))) u k old new w → WritesDamaged bs rows o place x u k old new w
stored bs rows o place x u k old new xs e n en zs ez =
    let long : length xs ≡ journal_limit = ap length e ∙ length-replicate journal_limit x in
    written-damaged bs rows o place x u k old new xs e n en zs (ez ∙ length-take-le n xs (omega (arith, en.1)))

pub returns : goal.returns
returns c =
    stored c.args.file.now c.args.rows c.args.options c.args.place c.args.row c.args.used c.args.named c.args.buffer.now c.write.new.buffer (replicate journal_limit c.args.row) refl
    c.lent_rows-n.result c.lent_rows-n.ensures c.check.new.journal c.check.auto.journal c.check.result c.check.ensures c.row_number-at.result c.row_number-at.ensures.0 c.write.result c.write.ensures

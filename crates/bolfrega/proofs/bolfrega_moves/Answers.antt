-- Where the file is not refused, its moves stand from the first of them to the first finishing stage, within the file. Assumes nothing.
use Rattle.std.proofs.Common.{arith, ◌≡◌, sym, ap, ap₂, ◌∙◌, ℕ, ◌*◌, take, drop}
use Rattle.spec_file.specs.Reading.{stretch}
use Rattle.spec_file.specs.Records.{record_count}
use Rattle.spec_file.specs.Refusals.{Refusal, fault}
use Rattle.spec_file.proofs.RefusalLaws.{refuses-some, passes-none}
use Rattle.spec_file.proofs.Sorted.{counts-le}
use Rattle.spec_file.proofs.StretchLaws.{stretch-refused}
use Rattle.bolfrega.proofs.bolfrega_moves.Goals as goal

pub returns-then-is_err : goal.returns-then-is_err
returns-then-is_err c =
    record {
      within = omega arith;
      bytes = sym (stretch-refused c.args.file.now (λ e. refuses-some c.file_refusal.result (sym c.if-is_err.ensures.value) (ap (λ (x : Refusal). x.number) c.file_refusal.ensures ∙ e)));
    }

pub overflow_mul-offset : goal.overflow_mul-offset
overflow_mul-offset c =
    let f = c.args.file.now in
    omega (arith, counts-le f (record_count f), c.rule_count.ensures)

pub overflow_mul-length : goal.overflow_mul-length
overflow_mul-length c =
    let f = c.args.file.now in
    omega (arith, counts-le f (record_count f), c.transition_count.ensures)

pub returns : goal.returns
unfolding stretch
returns c =
    let f = c.args.file.now in
    let a = c.rule_count.ensures in
    let b = c.transition_count.ensures in
    let none : (fault f).number ≡ 0 = sym (ap (λ (x : Refusal). x.number) c.file_refusal.ensures) ∙ passes-none c.file_refusal.result (sym c.if-is_err.ensures.value) in
    record {
      within = omega (arith, counts-le f (record_count f), a, b);
      bytes = rw none (ap₂ (λ (m n : ℕ). take (n * 8) (drop (m * 8) f)) a b);
    }

-- No row, then one record more at a time, and all of them. Assumes nothing.
use Rattle.std.proofs.Common.{◌≡◌, refl, sym, ap, ◌∙◌, arith, length, ◌/◌}
use Rattle.spec_file.specs.Records.{rule_kind}
use Rattle.file_tables.specs.Prefixes.{none_yet, turn}
use Rattle.file_tables.specs.RuleLaws.{written_none, written_next}
use Rattle.file_tables.specs.Tables.{rule_bytes_in, rows_of, rows_in, with_row, written}
use Rattle.file_tables.proofs.read_rules.Goals as goal

pub loop-i-init : goal.loop-i-init
loop-i-init c =
    let t = c.args.rows.now in
    (refl, written_none t ∙ sym (ap (written t) (none_yet rule_kind rule_bytes_in c.args.file.now)))

pub loop-i-preserved : goal.loop-i-preserved
loop-i-preserved c =
    let t = c.args.rows.now in
    let l = c.loop-i in (
      c.read_rule-n.auto.rows ∙ l.invariant.0,
      c.read_rule-n.ensures
          ∙ turn rule_kind rule_bytes_in c.args.file.now (written t) with_row (λ xs x. written_next t xs x c.requires) l.i (rows_in l.rows l.n) l.invariant.1,
    )

pub returns : goal.returns
unfolding rows_of
returns c = let e : c.loop-i.i ≡ length c.args.file.now / 8 = omega arith in rw e at c.loop-i.invariant.1

-- The library's order of two arrays is that of the definition. Assumes nothing.
use Rattle.std.proofs.Common.{◌∙◌, arith}
use Rattle.file_wide_checks.specs.Scanning.{rises-lt}
use Rattle.file_wide_checks.proofs.rises.Goals as goal

pub returns : goal.returns
returns c = c.lt.ensures ∙ rises-lt c.args.r c.args.s (omega arith) (omega arith)

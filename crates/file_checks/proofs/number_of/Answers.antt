-- Byte by byte, the library's sum is the definition's. Assumes nothing.
use Rattle.std.proofs.Common.{arith}
use Rattle.file_checks.specs.BigEndian.{big_endian}
use Rattle.file_checks.proofs.number_of.Goals as goal

pub returns : goal.returns
unfolding big_endian
returns c = omega (arith, c.from_be_bytes.ensures)

-- The `N` bytes from `at` on. Assumes nothing.
use Rattle.std.proofs.Common.{◌∙◌}
use Rattle.file_bytes.proofs.Chunks.{bytes-from}
use Rattle.file_bytes.proofs.chunk_at.Goals as goal

pub returns : goal.returns
returns g c = c.copy_from_slice.ensures.after ∙ bytes-from c.args.file.now _ g.row.N c.requires

-- Zeros past the last whole record, and else its bytes: the test is that of the definition. Assumes nothing.
use Rattle.std.proofs.Common.{◌≡◌, ap, ◌∙◌, arith, ℕ, ◌+◌, ◌*◌, ◌∷◌, get_or}
use Rattle.std.proofs.lemmas.Bool.{le-leb, lt-leb}
use Rattle.spec_file.specs.Entries.{whole_record}
use Rattle.spec_file.specs.Records.{bytes_after}
use Rattle.file_bytes.proofs.whole_record.Goals as goal

pub returns-then-file-i : goal.returns-then-file-i
unfolding whole_record
returns-then-file-i c = rw (le-leb _ _ c.if-file-i.true)

pub returns : goal.returns
unfolding whole_record
returns c =
    let bs = c.args.file.now in
    let at = c.args.i * 8 in
    let z : at + 0 ≡ at = omega arith in
    rw (lt-leb _ _ c.if-file-i.false) (c.chunk_at.ensures ∙ ap (λ (k : ℕ). get_or bs k 0 ∷ bytes_after bs at 7 1) z)

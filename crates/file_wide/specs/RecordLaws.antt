-- The records of a file of sixteen bytes each, as a list: what is left of it at a record. Assumes nothing.
use Rattle.std.specs.Prelude.{◌≡◌, List, [], ◌∷◌, ℕ, ◌+◌, ◌/◌, ◌≤◌, ◌<◌, length, drop}
use Rattle.std.proofs.Common.{sym, ap₂, ◌∙◌, add-one, arith, drop_of_length-le, drop-cons}
use Rattle.spec_file.specs.Forms.{sixteen}
use Rattle.spec_file.specs.Records.{record_in}
use Rattle.spec_records.specs.Agreement.{record-cut, sixteen-fits}
use Rattle.spec_records.specs.Blocks.{records_of}
use Rattle.spec_records.specs.BlockLaws.{length-blocks, block_at}

-- record i, and the records behind it
pub records-next : (bs : List ℕ) (i : ℕ) → i < length bs / 16 → drop i (records_of 16 bs) ≡ record_in sixteen bs i ∷ drop (i + 1) (records_of 16 bs)
records-next bs i h =
    let n = length-blocks 16 (length bs / 16) bs in
    drop-cons (records_of 16 bs) i [] (omega arith)
    ∙ ap₂ (λ (r : List ℕ) (k : ℕ). r ∷ drop k (records_of 16 bs)) (block_at 16 (length bs / 16) bs i h ∙ sym (record-cut sixteen sixteen-fits bs i (omega arith))) (sym (add-one i))

-- past the last there is none
pub records-end : (bs : List ℕ) (i : ℕ) → length bs / 16 ≤ i → drop i (records_of 16 bs) ≡ []
records-end bs i h = drop_of_length-le (records_of 16 bs) {i = i} (let n = length-blocks 16 (length bs / 16) bs in omega arith)

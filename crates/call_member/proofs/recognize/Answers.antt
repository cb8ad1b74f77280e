-- The refusal, or the bit of the whole run's cell. Assumes nothing.
use Rattle.std.proofs.Common.{◌≡◌, refl, sym, ap, Bool, true, false, List, ℕ, length, get_or, arith, eqb, eq-eqb, ne_eqb, bit_and}
use Rattle.std.proofs.lemmas.Result.{err_from_is_err_and}
use Rattle.spec_file.specs.Refusals.{Refusal, refuse}
use Rattle.spec_file.specs.Views.{productions_of}
use Rattle.spec_calls.specs.Recognizing.{TableShows, recognize_of, RecognizeMeans}
use Rattle.spec_calls.specs.Replies.{answered}
use Rattle.call_member.specs.RecognizeLaws.{refusal, refused_as, passed, answered-by, answered-means}
use Rattle.call_member.proofs.recognize.Goals as goal

pub returns-in_err-refusal_for : goal.returns-in_err-refusal_for
returns-in_err-refusal_for c =
    let p = err_from_is_err_and c.from_residual.result c.from_residual.ensures.1 in
    let t = c.args.table.now in
    rw (p.1, p.2) (record { answer = refused_as c.args.file.now c.args.word.now (length t) t c.in_err-refusal_for.field-0.0 c.in_err-refusal_for.ensures; meaning = refl })

pub fill-requires : goal.fill-requires
fill-requires c = passed c.args.file.now c.args.word.now (length c.args.table.now) c.args.table.now (sym (ap (λ (x : Refusal). x.number) c.in_ok-refusal_for.ensures))

pub offset_bounds-table-at : goal.offset_bounds-table-at
offset_bounds-table-at c =
    let t = c.args.table.now in
    omega (arith, (passed c.args.file.now c.args.word.now (length t) t (sym (ap (λ (x : Refusal). x.number) c.in_ok-refusal_for.ensures))).2)

pub bounds-table-at : goal.bounds-table-at
bounds-table-at c =
    let t = c.args.table.now in
    omega (arith, (passed c.args.file.now c.args.word.now (length t) t (sym (ap (λ (x : Refusal). x.number) c.in_ok-refusal_for.ensures))).2, c.fill.ensures.size)

-- the lowest bit b of the whole run's cell, in the table as it is after, is the answer
answers : (file word table after : List ℕ) → refuse 0 0 ≡ refusal file word (length table) after → TableShows (productions_of file) word after
    → (b : Bool) → eqb (bit_and (get_or after (length word) 0) 1) 1 ≡ b
    → (answered b ≡ recognize_of file word (length table) after) × RecognizeMeans file word table after (answered b)
answers file word table after none shows b e =
    let z = sym (ap (λ (x : Refusal). x.number) none) in
    (answered-by file word (length table) after z b e, answered-means file word (length table) after z b e table shows)

pub returns-then-derived : goal.returns-then-derived
returns-then-derived c =
    let x = answers c.args.file.now c.args.word.now c.args.table.now c.fill.new.table c.in_ok-refusal_for.ensures c.fill.ensures true (eq-eqb _ _ (omega arith)) in
    record { answer = x.0; meaning = x.1 }

pub returns : goal.returns
returns c =
    let x = answers c.args.file.now c.args.word.now c.args.table.now c.fill.new.table c.in_ok-refusal_for.ensures c.fill.ensures false (ne_eqb _ _ (omega arith)) in
    record { answer = x.0; meaning = x.1 }

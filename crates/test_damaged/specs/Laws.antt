-- The local array of the call, row for row, is the journal of the contract. Assumes nothing.
use Rattle.std.specs.Prelude.{◌≡◌, refl, List, [], ◌∷◌, ◌++◌, map, ℕ, zero, suc, ◌≤◌, length, set, take, drop, replicate}
use Rattle.std.proofs.Common.{sym, ap, ◌∙◌, subst}
use Rattle.std.proofs.Math.Seq.{take-append_seam}
use Rattle.spec_order.specs.Journal.{Row}
use Rattle.spec_calls.specs.Checking.{journal_limit, journal_after}
use Rattle.spec_calls.specs.Rows.{row_of, Journal}
use Rattle.spec_calls.specs.declared.Options.{Options}
use Rattle.spec_calls.specs.declared.Row.{Row as LentRow}
use Rattle.std.specs.declared.result.Result.{Result}
use Rattle.spec_file.specs.declared.Refusal.{Refusal as Refused}
use Rattle.search_laws.specs.declared.Answer.{Answer as Answered}
use Rattle.call_check.specs.Clauses.{settings_over, Checks}
use Rattle.host_result.specs.Fronts.{front_of, journal_of, place_of}
use Rattle.call_write.specs.Clauses.{Writes}
use Rattle.test_damaged.specs.Clauses.{damaged_rows, WritesDamaged}

-- an element that is replaced, among the first n ones
take-set : {X : Type 0} (n : ℕ) (xs : List X) (i : ℕ) (x : X) → take n (set xs i x) ≡ set (take n xs) i x
take-set zero xs i x = refl
take-set (suc n) [] i x = refl
take-set (suc n) (y ∷ ys) zero x = refl
take-set (suc n) (y ∷ ys) (suc i) x = ap (λ (zs : List _). y ∷ zs) (take-set n ys i x)

-- and in the rows as the working order has them
map-set : (xs : Journal) (i : ℕ) (x : LentRow) → map row_of (set xs i x) ≡ set (map row_of xs) i (row_of x)
map-set [] i x = refl
map-set (y ∷ ys) zero x = refl
map-set (y ∷ ys) (suc i) x = ap (λ (zs : List (Row ℕ)). row_of y ∷ zs) (map-set ys i x)

-- xs: the array before the check, all x. m: the rows lent. zs: its first m rows after the check, which answered c. j: the row where x was
-- stored. w: what writing from the first m rows answered. The other letters are those of `WritesDamaged`
pub written-damaged : (bs : List ℕ) (n : ℕ) (o : Options) (i : ℕ) (x : LentRow) (u k : ℕ) (old new : List ℕ)
    → (xs : Journal) → xs ≡ replicate journal_limit x → (m : ℕ) → (m ≡ front_of n) × (m ≤ journal_limit) → (zs : Journal) → length zs ≡ m → (c : Result Answered Refused) → Checks bs o (take m xs) zs c
    → (j : ℕ) → j ≡ place_of i → (w : Result ℕ Refused) → Writes bs (map row_of (take m (set (zs ++ drop m xs) j x))) u k old new w → WritesDamaged bs n o i x u k old new w
unfolding journal_of
written-damaged bs n o i x u k old new xs e m em zs l c h j ej w v =
    let before : take m xs ≡ journal_of n x = ap (take m) e ∙ ap (λ (t : ℕ). take t (replicate journal_limit x)) em.0 in
    let front : take m (zs ++ drop m xs) ≡ zs = ap (λ (t : ℕ). take t (zs ++ drop m xs)) (sym l) ∙ take-append_seam zs (drop m xs) in
    let rows : map row_of (take m (set (zs ++ drop m xs) j x)) ≡ damaged_rows bs n o i x =
    ap (map row_of) (take-set m (zs ++ drop m xs) j x ∙ ap (λ (ys : Journal). set ys j x) front) ∙ map-set zs j x
    ∙ ap (λ (rs : List (Row ℕ)). set rs j (row_of x)) (h.journal ∙ ap (λ (ys : Journal). journal_after bs (settings_over o ys) (map row_of ys)) before)
    ∙ ap (λ (t : ℕ). set (journal_after bs (settings_over o (journal_of n x)) (map row_of (journal_of n x))) t (row_of x)) ej in
    subst (λ (rs : List (Row ℕ)). Writes bs rs u k old new w) rows v

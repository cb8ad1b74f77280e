-- A part of a record's bytes, gone through from the left. Assumes nothing.
use Rattle.std.specs.Prelude.{◌≡◌, List, [], ◌∷◌, ℕ, suc, ◌+◌, ◌-◌, ◌≤◌, ◌<◌, length, take, drop, get_or}
use Rattle.std.proofs.Common.{sym, ap, ◌∙◌, add-one, arith, length-take, length-drop, drop-cons, take_all}
use Rattle.spec_records.specs.OnRecords.{body_in}
use Rattle.unfold_count.specs.Parts.{part}

pub part-next : (r : List ℕ) (j end : ℕ) → j < end → end ≤ length r → part j end r ≡ get_or r j 0 ∷ part (j + 1) end r
part-next r j end inside fits =
    let z : end - j ≡ suc (end - (j + 1)) = omega arith in
    rw (z, drop-cons r j 0 (omega arith)) (ap (λ (m : ℕ). get_or r j 0 ∷ take (end - (j + 1)) (drop m r)) (sym (add-one j)))

pub part_end : (r : List ℕ) (j end : ℕ) → end ≤ j → part j end r ≡ []
part_end r j end h = let z : end - j ≡ 0 = omega arith in rw z

pub part_length : (r : List ℕ) (j end : ℕ) → j ≤ end → end ≤ length r → length (part j end r) ≡ end - j
part_length r j end h k = simp (length-take, length-drop) (omega arith)

-- ---- a body of n symbols, which ends where the record does at the latest

pub part_body : (r : List ℕ) (n : ℕ) → part 3 (n + 3) r ≡ take n (drop 3 r)
part_body r n = let z : n + 3 - 3 ≡ n = omega arith in rw z

pub part-long : (r : List ℕ) (n end : ℕ) → length r ≤ end → end ≤ n + 3 → part 3 end r ≡ take n (drop 3 r)
part-long r n end h k =
    take_all (end - 3) (drop 3 r) (omega (arith, length-drop 3 r)) ∙ sym (take_all n (drop 3 r) (omega (arith, length-drop 3 r)))

pub body-length : (r : List ℕ) (end : ℕ) → 3 ≤ end → end ≤ length r → part 3 end r ≡ body_in r → length (body_in r) ≡ end - 3
body-length r end h k e = sym (ap length e) ∙ part_length r 3 end h k

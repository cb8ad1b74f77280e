-- Bytes of a file, one by one, as a part of its list. Assumes nothing.
use Rattle.std.specs.Prelude.{◌≡◌, refl, List, ◌∷◌, ℕ, zero, suc, ◌+◌, ◌-◌, ◌≤◌, length, take, drop, get_or}
use Rattle.std.proofs.Common.{sym, ap, ◌∙◌, arith, drop-cons, length-drop}
use Rattle.std.proofs.Math.Seq.{take-length}
use Rattle.spec_file.specs.Records.{bytes_after}

-- m bytes, the first of them j bytes after byte p
bytes-cut : (bs : List ℕ) (p m j : ℕ) → p + j + m ≤ length bs → take m (drop (p + j) bs) ≡ bytes_after bs p m j
bytes-cut bs p zero j h = refl
bytes-cut bs p (suc m) j h =
    let z : suc (p + j) ≡ p + suc j = omega arith in
    rw (drop-cons bs (p + j) 0 (omega arith))
    (ap (λ (k : ℕ). get_or bs (p + j) 0 ∷ take m (drop k bs)) z ∙ ap (λ (t : List ℕ). get_or bs (p + j) 0 ∷ t) (bytes-cut bs p m (suc j) (omega arith)))

-- the first of what is left from byte p on
pub first-bytes : (bs : List ℕ) (p n : ℕ) → p + n ≤ length bs → take n (take (length bs - p) (drop p bs)) ≡ bytes_after bs p n 0
first-bytes bs p n h =
    let z : p ≡ p + 0 = omega arith in
    ap (λ (k : ℕ). take n (take k (drop p bs))) (sym (length-drop p bs))
    ∙ ap (take n) (take-length (drop p bs))
    ∙ ap (λ (k : ℕ). take n (drop k bs)) z
    ∙ bytes-cut bs p n 0 (omega arith)

-- the n bytes from byte p on
pub bytes-from : (bs : List ℕ) (p n : ℕ) → p + n ≤ length bs → take (p + n - p) (drop p bs) ≡ bytes_after bs p n 0
bytes-from bs p n h =
    let many : p + n - p ≡ n = omega arith in
    let z : p ≡ p + 0 = omega arith in
    ap (λ (m : ℕ). take m (drop p bs)) many ∙ ap (λ (k : ℕ). take n (drop k bs)) z ∙ bytes-cut bs p n 0 (omega arith)

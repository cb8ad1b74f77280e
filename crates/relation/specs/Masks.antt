-- Final states as a mask: state f is final where place f is in the mask. Assumes nothing.
use Rattle.std.specs.Prelude.{◌≡◌, ℕ, ◌+◌, ◌^◌, ◌<◌, ◌≤◌, Bool, not, ◌&&◌, ◌==◌}
use Rattle.std.proofs.Common.{sym, ap, ◌∙◌, lt_of_le_of_lt, lt_of_lt_of_le, zero-mul, zero-add, pow_pos, eqb-true, eq-eqb}
use Rattle.std.proofs.lemmas.Bool.{false≢true}
use Rattle.std.specs.Int.Bits.{bit_and}
use Rattle.std.proofs.lemmas.Nat.{and_le_r}
use Rattle.spec_basics.specs.Tests.{and_intro, and-not-both, iff-equal}
use Rattle.relation.specs.Digits.{bit, number, pieces}
use Rattle.relation.specs.DigitLaws.{bit-number, bit-zero, bit-and, ext, some_same}
use Rattle.relation.specs.Pieces.{bit-pieces}
use Rattle.relation.specs.Relation.{has, rejects}
use Rattle.relation.specs.RelationLaws.{rejects-none, none-rejects}

-- the pairs of state 0 are the lowest row
row_zero : (n r f : ℕ) → has n r 0 f ≡ bit r f
unfolding has
row_zero n r f = ap (bit r) (ap (λ (z : ℕ). z + f) (zero-mul n) ∙ zero-add f)

-- rejecting by one `and` with the mask
pub rejects-mask : (n m r : ℕ) → m < 2 ^ n → (bit_and r m == 0) ≡ rejects n (bit m) r
rejects-mask n m r hm =
    iff-equal (bit_and r m == 0) (rejects n (bit m) r)
    (λ h.
    none-rejects n (bit m) r
    (λ f l p q.
    false≢true
    (sym (bit-zero f) ∙ ap (λ (x : ℕ). bit x f) (sym (eqb-true (bit_and r m) 0 h)) ∙ bit-and r m f
    ∙ and_intro (bit r f) (bit m f) (sym (row_zero n r f) ∙ q) p)))
    (λ h.
    eq-eqb (bit_and r m) 0
    (ext n (bit_and r m) 0 (lt_of_le_of_lt (and_le_r r m) hm) (pow_pos n)
    (λ k l.
    bit-and r m k
    ∙ and-not-both (bit r k) (bit m k) (λ p q. rejects-none n (bit m) r h k l q (row_zero n r k ∙ p))
    ∙ sym (bit-zero k))))

-- any test of final states, by its mask
pub rejects-number : (n : ℕ) (final : ℕ → Bool) (r : ℕ) → rejects n final r ≡ rejects n (bit (number n final)) r
unfolding rejects
rejects-number n final r =
    ap not
    (some_same n (λ f. final f && has n r 0 f) (λ f. bit (number n final) f && has n r 0 f)
    (λ k l. ap (λ (t : Bool). t && has n r 0 k) (sym (bit-number n final k l))))

-- the lowest row stands in the lowest word
pub rejects-word : (n c k : ℕ) (final : ℕ → Bool) (f : ℕ → ℕ) → n ≤ c → 0 < k → ((a : ℕ) → f a < 2 ^ c) → rejects n final (f 0) ≡ rejects n final (pieces c k f)
unfolding rejects
rejects-word n c k final f hn hk h =
    ap not
    (some_same n (λ s. final s && has n (f 0) 0 s) (λ s. final s && has n (pieces c k f) 0 s)
    (λ s l. ap (λ (t : Bool). final s && t) (row_zero n (f 0) s ∙ sym (row_zero n (pieces c k f) s ∙ lowest s (lt_of_lt_of_le l hn)))))
  where
    lowest : (s : ℕ) → s < c → bit (pieces c k f) s ≡ bit (f 0) s
    lowest s l =
        ap (bit (pieces c k f)) (sym (ap (λ (z : ℕ). z + s) (zero-mul c) ∙ zero-add s)) ∙ bit-pieces c k f h 0 s hk l

-- The mask of final states is made by putting them in one by one, on any number of states. Assumes nothing.
use Rattle.std.specs.Prelude.{◌≡◌, Bool, false, ◌||◌, List, [], ◌∷◌, ◌++◌, ℕ, ◌^◌, ◌≤◌, ◌<◌}
use Rattle.std.proofs.Math.Path.{sym, ap}
use Rattle.std.proofs.Common.{◌∙◌, arith, pow_pos, ne_eqb}
use Rattle.std.proofs.Math.Bool.{or-false}
use Rattle.std.specs.Int.Bits.{bit_or}
use Rattle.std.proofs.lemmas.Nat.{or_lt}
use Rattle.std.proofs.Math.Dec.{eqb}
use Rattle.std.proofs.Math.Pow.{pow-lt}
use Rattle.spec_basics.specs.Tests.{eqb_comm}
use Rattle.spec_basics.specs.Elements.{any}
use Rattle.spec_basics.specs.Lists.{any_append}
use Rattle.relation.specs.Digits.{bit, number}
use Rattle.relation.specs.DigitLaws.{number_lt, bit-number, bit-zero, bit-power, bit-or, ext}
use Rattle.file_tables.specs.Tables.{with_state}

-- the states of a list, as a mask
abbrev pub mask_of : ℕ → List ℕ → ℕ
mask_of n fs = number n (λ s. any (λ f. eqb f s) fs)

pub mask-none : (n : ℕ) → 0 ≡ mask_of n []
mask-none n = ext n 0 (mask_of n []) (pow_pos n) (number_lt n _) (λ k l. bit-zero k ∙ sym (bit-number n (λ s. false) k l))

pub mask_next : (n : ℕ) (fs : List ℕ) (f : ℕ) → with_state n (mask_of n fs) f ≡ mask_of n (fs ++ (f ∷ []))
unfolding with_state
mask_next n fs f =
    ext n (with_state n (mask_of n fs) f) (mask_of n (fs ++ (f ∷ []))) (number_lt n _) (number_lt n _)
    (λ k l.
    bit-number n (λ s. bit (mask_of n fs) s || eqb f s) k l
    ∙ ap (λ (x : Bool). x || eqb f k) (bit-number n (λ s. any (λ g. eqb g s) fs) k l)
    ∙ ap (λ (x : Bool). any (λ g. eqb g k) fs || x) (sym (or-false (eqb f k)))
    ∙ sym (any_append (λ (g : ℕ). eqb g k) fs (f ∷ []))
    ∙ sym (bit-number n (λ s. any (λ g. eqb g s) (fs ++ (f ∷ []))) k l))

module _ (n mask f : ℕ) (fits : mask < 2 ^ n) where
  -- a state is put in by `or`
  pub state-or : f < n → bit_or mask (2 ^ f) ≡ with_state n mask f
  unfolding with_state
  state-or h =
      ext n (bit_or mask (2 ^ f)) (with_state n mask f) (or_lt n mask (2 ^ f) fits (pow-lt h)) (number_lt n _)
      (λ k l.
      bit-or mask (2 ^ f) k
      ∙ ap (λ (x : Bool). bit mask k || x) (bit-power f k ∙ eqb_comm k f)
      ∙ sym (bit-number n (λ s. bit mask s || eqb f s) k l))

  -- and what is no state is not
  pub state-none : n ≤ f → mask ≡ with_state n mask f
  unfolding with_state
  state-none h =
      ext n mask (with_state n mask f) fits (number_lt n _)
      (λ k l.
      sym (or-false (bit mask k))
      ∙ ap (λ (x : Bool). bit mask k || x) (sym (ne_eqb f k (λ e. omega arith)))
      ∙ sym (bit-number n (λ s. bit mask s || eqb f s) k l))

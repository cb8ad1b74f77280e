-- Records put together and taken apart. Assumes nothing.
use Rattle.std.specs.Prelude.{◌≡◌, refl, List, [], ◌∷◌, ◌++◌, ℕ, zero, suc, ◌+◌, ◌*◌, ◌/◌, ◌%◌, ◌≤◌, ◌<◌, length, take, drop, get_or}
use Rattle.std.proofs.Common.{sym, ap, ap₂, ◌∙◌, inl, inr, append_assoc, not-suc-le-zero, le_of_suc-le-suc, suc-mul, zero-mul, mul-div_cancel, div-add-mod', arith, length-append, length-drop, take-append-drop, take_at, drop_at, length-take-le, drop-drop}
use Rattle.spec_basics.specs.Elements.{In}
use Rattle.spec_records.specs.Blocks.{bytes_of, blocks, records_of}

-- every record has w bytes
abbrev pub Wide : ℕ → List (List ℕ) → Type 0
Wide w rs = (r : List ℕ) → In r rs → length r ≡ w

pub bytes-append : (rs ss : List (List ℕ)) → bytes_of (rs ++ ss) ≡ bytes_of rs ++ bytes_of ss
bytes-append [] ss = refl
bytes-append (r ∷ rs) ss = ap (λ (l : List ℕ). r ++ l) (bytes-append rs ss) ∙ sym (append_assoc r (bytes_of rs) (bytes_of ss))

module _ (w : ℕ) where
  pub length-bytes : (rs : List (List ℕ)) → Wide w rs → length (bytes_of rs) ≡ length rs * w
  length-bytes [] h = sym (zero-mul w)
  length-bytes (r ∷ rs) h =
      length-append r (bytes_of rs) ∙ ap₂ (λ (a b : ℕ). a + b) (h r (inl refl)) (length-bytes rs (λ s m. h s (inr m)))
      ∙ (let e : w + length rs * w ≡ length rs * w + w = omega arith in e ∙ sym (suc-mul (length rs) w))

  blocks-bytes : (rs : List (List ℕ)) → Wide w rs → blocks w (length rs) (bytes_of rs) ≡ rs
  blocks-bytes [] h = refl
  blocks-bytes (r ∷ rs) h =
      let e = h r (inl refl) in
      ap₂ (λ (x : List ℕ) (xs : List (List ℕ)). x ∷ xs) (take_at r (bytes_of rs) w e)
      (ap (blocks w (length rs)) (drop_at r (bytes_of rs) w e) ∙ blocks-bytes rs (λ s m. h s (inr m)))

  pub length-blocks : (n : ℕ) (bs : List ℕ) → length (blocks w n bs) ≡ n
  length-blocks zero bs = refl
  length-blocks (suc n) bs = ap suc (length-blocks n (drop w bs))

  blocks-wide : (n : ℕ) (bs : List ℕ) → n * w ≤ length bs → Wide w (blocks w n bs)
  blocks-wide zero bs l r h = absurd h
  blocks-wide (suc n) bs l r (inl e) = ap length e ∙ length-take-le w bs (omega (arith, suc-mul n w))
  blocks-wide (suc n) bs l r (inr h) = blocks-wide n (drop w bs) (omega (arith, suc-mul n w, length-drop w bs)) r h

  bytes-blocks : (n : ℕ) (bs : List ℕ) → length bs ≡ n * w → bytes_of (blocks w n bs) ≡ bs
  bytes-blocks zero [] e = refl
  bytes-blocks zero (b ∷ bs) e = absurd (let z : ⊥ = omega (arith, zero-mul w) in z)
  bytes-blocks (suc n) bs e =
      ap (λ (l : List ℕ). take w bs ++ l) (bytes-blocks n (drop w bs) (omega (arith, suc-mul n w, length-drop w bs))) ∙ take-append-drop w bs

  -- record i by its place in the file
  pub block_at : (n : ℕ) (bs : List ℕ) (i : ℕ) → i < n → get_or (blocks w n bs) i [] ≡ take w (drop (i * w) bs)
  block_at zero bs i h = absurd (not-suc-le-zero h)
  block_at (suc n) bs zero h = rw (zero-mul w)
  block_at (suc n) bs (suc i) h =
      block_at n (drop w bs) i (le_of_suc-le-suc h) ∙ ap (take w) (drop-drop (i * w) w bs ∙ ap (λ (k : ℕ). drop k bs) (let e : w + i * w ≡ i * w + w = omega arith in e ∙ sym (suc-mul i w)))

  module _ (positive : 0 < w) where
    pub records-bytes : (rs : List (List ℕ)) → Wide w rs → records_of w (bytes_of rs) ≡ rs
    records-bytes rs h = ap (λ (n : ℕ). blocks w n (bytes_of rs)) (ap (λ (n : ℕ). n / w) (length-bytes rs h) ∙ mul-div_cancel (length rs) positive) ∙ blocks-bytes rs h

    pub records-wide : (bs : List ℕ) → Wide w (records_of w bs)
    records-wide bs = blocks-wide (length bs / w) bs (omega (arith, div-add-mod' (length bs) w))

    pub bytes-records : (bs : List ℕ) → length bs % w ≡ 0 → bytes_of (records_of w bs) ≡ bs
    bytes-records bs e = bytes-blocks (length bs / w) bs (omega (arith, div-add-mod' (length bs) w))

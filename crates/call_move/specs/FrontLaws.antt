-- A result written part by part, and record by record. Assumes nothing.
use Rattle.std.specs.Prelude.{◌≡◌, take, drop, get_or, replicate}
use Rattle.std.proofs.Math.Path.{refl, ap}
use Rattle.std.proofs.Common.{sym, ap₂, ◌∙◌, add-one, arith, length-append, length-drop, take_at, drop_at, take-suc, take_all, drop-drop, take-take}
use Rattle.std.proofs.Math.Logic.{inl, inr}
use mathlib.Core.List.{List, [], ◌∷◌, ◌++◌, map, map-append, append_assoc, append-nil}
use Prim.Native.Nat.{ℕ, zero, suc, ◌+◌, ◌-◌, ◌*◌, ◌/◌, ◌≤◌, ◌<◌}
use Rattle.std.proofs.Math.ListN.{length}
use Rattle.std.proofs.lemmas.List.{length-map}
use Rattle.std.proofs.Math.Seq.{paste, take-length, length-take-le}
use Rattle.spec_basics.specs.Elements.{In}
use Rattle.spec_basics.specs.Lists.{map-in}
use Rattle.spec_records.specs.Blocks.{bytes_of, records_of}
use Rattle.spec_records.specs.BlockLaws.{bytes-append, length-bytes, length-blocks, block_at, records-wide}
use Rattle.spec_unfold.specs.Moving.{wider, narrower, widened, narrowed}
use Rattle.call_move.specs.Fronts.{over}

-- ---- a part more

pub over-length : (p old : List ℕ) → length p ≤ length old → length (over p old) ≡ length old
over-length p old h = length-append p (drop (length p) old) ∙ (let e = length-drop (length p) old in omega arith)

pub over-more : (p old x : List ℕ) (at : ℕ) → length p ≡ at → paste (over p old) at x (length x) ≡ over (p ++ x) old
over-more p old x at e =
    let rest : drop (at + length x) (over p old) ≡ drop (length (p ++ x)) old =
    sym (drop-drop (length x) at (over p old)) ∙ ap (drop (length x)) (drop_at p (drop (length p) old) at e) ∙ drop-drop (length x) (length p) old ∙ ap (λ (n : ℕ). drop n old) (sym (length-append p x)) in
    ap₂ (λ (a b : List ℕ). a ++ take (length x) x ++ b) (take_at p (drop (length p) old) at e) rest ∙ ap (λ (a : List ℕ). p ++ a ++ drop (length (p ++ x)) old) (take-length x)

-- ---- records, each moved by f to one of w' bytes

module _ (w w' : ℕ) (f : List ℕ → List ℕ) (bs : List ℕ) where
  -- the bytes of the first i of them
  pub moved : ℕ → List ℕ
  moved i = bytes_of (map f (take i (records_of w bs)))

  pub moved_none : moved 0 ≡ []
  unfolding moved
  moved_none = refl

  pub moved-next : (i : ℕ) → i < length bs / w → moved (i + 1) ≡ moved i ++ f (take w (drop (i * w) bs))
  unfolding moved
  moved-next i h =
      let rs = records_of w bs in
      let n = length-blocks w (length bs / w) bs in
      rw (add-one i) (ap (λ (l : List (List ℕ)). bytes_of (map f l)) (take-suc rs i [] (omega arith))
      ∙ ap bytes_of (map-append f (take i rs) (get_or rs i [] ∷ []))
      ∙ bytes-append (map f (take i rs)) (f (get_or rs i []) ∷ [])
      ∙ ap (λ (l : List ℕ). bytes_of (map f (take i rs)) ++ l) (append-nil (f (get_or rs i [])) ∙ ap f (block_at w (length bs / w) bs i h)))

  pub moved_all : (i : ℕ) → length bs / w ≤ i → moved i ≡ bytes_of (map f (records_of w bs))
  unfolding moved
  moved_all i h = ap (λ (l : List (List ℕ)). bytes_of (map f l)) (take_all i (records_of w bs) (let n = length-blocks w (length bs / w) bs in omega arith))

  pub moved_length : ((r : List ℕ) → In r (records_of w bs) → length (f r) ≡ w') → (i : ℕ) → i ≤ length bs / w → length (moved i) ≡ i * w'
  unfolding moved
  moved_length wide i h =
      let rs = records_of w bs in
      let n = length-blocks w (length bs / w) bs in
      length-bytes w' (map f (take i rs)) (λ x m. let t = map-in f x (take i rs) m in ap length t.2 ∙ wide t.0 (take_in i rs t.0 t.1))
      ∙ ap (λ (k : ℕ). k * w') (length-map (take i rs) f ∙ length-take-le i rs (omega arith))
    where
      take_in : (j : ℕ) (xs : List (List ℕ)) (x : List ℕ) → In x (take j xs) → In x xs
      take_in zero xs x m = absurd m
      take_in (suc j) [] x m = absurd m
      take_in (suc j) (y ∷ ys) x (inl e) = inl e
      take_in (suc j) (y ∷ ys) x (inr m) = inr (take_in j ys x m)

-- ---- the two moves, one record more

wide-length : (f : List ℕ) (i : ℕ) → i ≤ length f / 8 → length (moved 8 16 wider f i) ≡ i * 16
wide-length f = moved_length 8 16 wider f (λ r h. length-append r (replicate 8 0) ∙ (let e = records-wide 8 (omega arith) f r h in let z : length r + 8 ≡ 16 = omega arith in z))

narrow-length : (f : List ℕ) (i : ℕ) → i ≤ length f / 16 → length (moved 16 8 narrower f i) ≡ i * 8
narrow-length f = moved_length 16 8 narrower f (λ r h. length-take-le 8 r (let e = records-wide 16 (omega arith) f r h in omega arith))

-- the bytes of record i that are copied
abbrev pub copied : ℕ → List ℕ → ℕ → List ℕ
copied w f i = take (i * w + 8 - i * w) (drop (i * w) f)

module _ (f old out : List ℕ) (i : ℕ) where
  pub wider-step : i < length f / 8 → out ≡ over (moved 8 16 wider f i) old
      → paste (paste out (i * 16) (copied 8 f i) (length (copied 8 f i))) (i * 16 + 8) (replicate 8 0) 8 ≡ over (moved 8 16 wider f (i + 1)) old
  wider-step h e =
      let p = moved 8 16 wider f i in
      let x = copied 8 f i in
      let n : i * 8 + 8 - i * 8 ≡ 8 = omega arith in
      let ex : x ≡ take 8 (drop (i * 8) f) = ap (λ (k : ℕ). take k (drop (i * 8) f)) n in
      let lx : length x ≡ 8 = ap length ex ∙ length-take-le 8 (drop (i * 8) f) (omega (arith, length-drop (i * 8) f)) in
      let lp : length p ≡ i * 16 = wide-length f i (omega arith) in
      ap (λ (d : List ℕ). paste d (i * 16 + 8) (replicate 8 0) 8) (ap (λ (d : List ℕ). paste d (i * 16) x (length x)) e ∙ over-more p old x (i * 16) lp)
      ∙ over-more (p ++ x) old (replicate 8 0) (i * 16 + 8) (length-append p x ∙ ap₂ (λ (a b : ℕ). a + b) lp lx)
      ∙ ap (λ (d : List ℕ). over d old) (append_assoc p x (replicate 8 0) ∙ ap (λ (r : List ℕ). p ++ (r ++ replicate 8 0)) ex ∙ sym (moved-next 8 16 wider f i h))

  pub narrower-step : i < length f / 16 → out ≡ over (moved 16 8 narrower f i) old → paste out (i * 8) (copied 16 f i) (length (copied 16 f i)) ≡ over (moved 16 8 narrower f (i + 1)) old
  narrower-step h e =
      let p = moved 16 8 narrower f i in
      let x = copied 16 f i in
      let n : i * 16 + 8 - i * 16 ≡ 8 = omega arith in
      let ex : x ≡ take 8 (take 16 (drop (i * 16) f)) = ap (λ (k : ℕ). take k (drop (i * 16) f)) n ∙ sym (take-take 8 16 (drop (i * 16) f) (omega arith)) in
      ap (λ (d : List ℕ). paste d (i * 8) x (length x)) e ∙ over-more p old x (i * 8) (narrow-length f i (omega arith))
      ∙ ap (λ (d : List ℕ). over d old) (ap (λ (r : List ℕ). p ++ r) ex ∙ sym (moved-next 16 8 narrower f i h))

pub wider-fits : (f old : List ℕ) (i : ℕ) → i ≤ length f / 8 → length f / 8 * 16 ≤ length old → length (over (moved 8 16 wider f i) old) ≡ length old
wider-fits f old i h k = over-length (moved 8 16 wider f i) old (let e = wide-length f i h in omega arith)

pub narrower_fits : (f old : List ℕ) (i : ℕ) → i ≤ length f / 16 → length f / 16 * 8 ≤ length old → length (over (moved 16 8 narrower f i) old) ≡ length old
narrower_fits f old i h k = over-length (moved 16 8 narrower f i) old (let e = narrow-length f i h in omega arith)

pub widened-length : (f : List ℕ) → length (widened f) ≡ length f / 8 * 16
unfolding widened
widened-length f = sym (ap length (moved_all 8 16 wider f (length f / 8) (omega arith))) ∙ wide-length f (length f / 8) (omega arith)

pub narrowed-length : (f : List ℕ) → length (narrowed f) ≡ length f / 16 * 8
unfolding narrowed
narrowed-length f = sym (ap length (moved_all 16 8 narrower f (length f / 16) (omega arith))) ∙ narrow-length f (length f / 16) (omega arith)

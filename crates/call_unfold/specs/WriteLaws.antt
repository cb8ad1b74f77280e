-- Records written from their keys, one by one, and the two parts of the result one behind the other. Assumes nothing.
use Rattle.std.specs.Prelude.{◌≡◌, refl, List, [], ◌∷◌, ◌++◌, map, ℕ, zero, suc, ◌+◌, ◌-◌, ◌*◌, ◌/◌, ◌%◌, ◌≤◌, ◌<◌, length, take, drop, get_or}
use Rattle.std.proofs.Common.{sym, ap, ap₂, ◌∙◌, append_assoc, append-nil, add-one, arith, length-append, length-drop, drop_of_length-le, take-suc, take_all, take_at, drop_at, drop-drop, length-take-le}
use Rattle.std.proofs.lemmas.List.{map-append, length-map}
use Rattle.std.proofs.Math.Seq.{paste}
use Rattle.spec_basics.specs.Lists.{map-in}
use Rattle.spec_records.specs.Blocks.{bytes_of}
use Rattle.spec_records.specs.BlockLaws.{bytes-append, length-bytes}
use Rattle.call_move.specs.Fronts.{over}
use Rattle.call_move.specs.FrontLaws.{over-more, over-length}
use Rattle.unfold_order.specs.Keys.{digits_of}

-- ---- records from their keys

length_digits : (base k n : ℕ) → length (digits_of base k n) ≡ k
unfolding digits_of
length_digits base zero n = refl
length_digits base (suc k) n = length-append (digits_of base k (n / base)) ((n % base) ∷ []) ∙ (let e = length_digits base k (n / base) in let z : length (digits_of base k (n / base)) + 1 ≡ suc k = omega arith in z)

-- the records of keys, put together
abbrev pub written : List ℕ → List ℕ
written ks = bytes_of (map (digits_of 256 8) ks)

pub digits-length : (ks : List ℕ) → length (written ks) ≡ length ks * 8
digits-length ks = length-bytes 8 (map (digits_of 256 8) ks) (λ r m. let t = map-in (digits_of 256 8) r ks m in ap length t.2 ∙ length_digits 256 8 t.0) ∙ ap (λ (n : ℕ). n * 8) (length-map ks (digits_of 256 8))

module _ (keys old out : List ℕ) (i : ℕ) (h : i < length keys) where
  pub put-turn : (r : List ℕ) → r ≡ digits_of 256 8 (get_or keys i 0) → out ≡ over (written (take i keys)) old
      → paste out (i * 8) r (length r) ≡ over (written (take (i + 1) keys)) old
  put-turn r er e =
      let p = written (take i keys) in
      let lp : length p ≡ i * 8 = digits-length (take i keys) ∙ ap (λ (n : ℕ). n * 8) (length-take-le i keys (omega arith)) in
      ap (λ (d : List ℕ). paste d (i * 8) r (length r)) e ∙ over-more p old r (i * 8) lp
      ∙ ap (λ (q : List ℕ). over q old) (ap (λ (x : List ℕ). p ++ x) (er ∙ sym (append-nil (digits_of 256 8 (get_or keys i 0)))) ∙ sym (bytes-append (map (digits_of 256 8) (take i keys)) (digits_of 256 8 (get_or keys i 0) ∷ []))
      ∙ ap bytes_of (sym (map-append (digits_of 256 8) (take i keys) (get_or keys i 0 ∷ []))) ∙ ap written (sym (take-suc keys i 0 h) ∙ ap (λ (n : ℕ). take n keys) (sym (add-one i))))

pub put-fits : (keys old : List ℕ) (i : ℕ) → i ≤ length keys → i * 8 ≤ length old → length (over (written (take i keys)) old) ≡ length old
put-fits keys old i h k = over-length (written (take i keys)) old (let e = digits-length (take i keys) ∙ ap (λ (n : ℕ). n * 8) (length-take-le i keys h) in omega arith)

-- ---- the two parts of the result, one behind the other

pub put_both : (R N o o' y : List ℕ) (at : ℕ) → length R ≡ at → at ≤ length o → o' ≡ over R o → y ≡ over N (take (length o' - at) (drop at o'))
    → take at o' ++ (y ++ drop (length o' - at) (drop at o')) ≡ over (R ++ N) o
put_both R N o o' y at lr h e ey =
    let d : drop at o' ≡ drop at o = ap (drop at) e ∙ drop_at R (drop (length R) o) at lr ∙ ap (λ (n : ℕ). drop n o) lr in
    let t : take at o' ≡ R = ap (take at) e ∙ take_at R (drop (length R) o) at lr in
    let n : length (drop at o') ≡ length o' - at = length-drop at o' in
    let all : take (length o' - at) (drop at o') ≡ drop at o = take_all (length o' - at) (drop at o') (omega arith) ∙ d in
    let none : drop (length o' - at) (drop at o') ≡ [] = drop_of_length-le (drop at o') {i = length o' - at} (omega arith) in
    let last : drop (length N) (drop at o) ≡ drop (length (R ++ N)) o = drop-drop (length N) at o ∙ ap (λ (k : ℕ). drop k o) (ap (λ (k : ℕ). k + length N) (sym lr) ∙ sym (length-append R N)) in
    ap₂ (λ (a b : List ℕ). a ++ (y ++ b)) t none
    ∙ ap (λ (a : List ℕ). R ++ a) (append-nil y ∙ ey ∙ ap (over N) all ∙ ap (λ (b : List ℕ). N ++ b) last)
    ∙ sym (append_assoc R N (drop (length (R ++ N)) o))

pub tail-part : (f : List ℕ) (from : ℕ) → take (length f - from) (drop from f) ≡ drop from f
tail-part f from = take_all (length f - from) (drop from f) (let e = length-drop from f in omega arith)

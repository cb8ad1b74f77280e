-- Final states in order are at most as many as there are states; records counted by kind. Assumes nothing.
use Rattle.std.specs.Prelude.{◌≡◌, refl, ◌⊎◌, Bool, true, false, ◌&&◌, ◌||◌, cond, List, [], ◌∷◌, ◌++◌, ℕ, zero, suc, ◌+◌, ◌-◌, ◌≤◌, ◌<◌, eqb, ltb, length, drop, replicate}
use Rattle.std.proofs.Common.{sym, ap, ap₂, ◌∙◌, subst, inl, inr, arith, length-drop, eqb-true, eq-eqb, ne_eqb, ltb-true, leb-false}
use Rattle.std.proofs.lemmas.Bool.{false≢true}
use Rattle.spec_basics.specs.Tests.{and-fst, and-snd}
use Rattle.spec_basics.specs.Elements.{In, any}
use Rattle.relation.specs.Relation.{states}
use Rattle.spec_file.specs.Records.{byte, rule_kind, transition_kind, final_kind}
use Rattle.spec_file.specs.Refusals.{kind_known}
use Rattle.spec_file.specs.Views.{cons_if}
use Rattle.spec_records.specs.OnRecords.{used_bytes, high_byte, unused_byte, precedes, of_kind}
use Rattle.spec_records.specs.FormLaws.{Alone, count_among}
use Rattle.spec_records.specs.RecordLaws.{precedes-cancel, zeros}
use Rattle.spec_unfold.proofs.SortingLaws.{Ordered}
use Rattle.spec_unfold.specs.Unfolding.{keep}

-- ---- counts by kind

pub count-append : (k : ℕ) (xs ys : List (List ℕ)) → count_among k (xs ++ ys) ≡ count_among k xs + count_among k ys
count-append k [] ys = omega arith
count-append k (x ∷ xs) ys = let e = count-append k xs ys in omega arith

pub count-all : (k : ℕ) (xs : List (List ℕ)) → ((x : List ℕ) → In x xs → byte x 0 ≡ k) → count_among k xs ≡ length xs
count-all k [] h = refl
count-all k (x ∷ xs) h = rw (eq-eqb (byte x 0) k (h x (inl refl))) (let e = count-all k xs (λ y m. h y (inr m)) in let z : 1 + count_among k xs ≡ suc (length xs) = omega arith in z)

pub count_none : (k : ℕ) (xs : List (List ℕ)) → ((x : List ℕ) → In x xs → byte x 0 ≡ k → ⊥) → count_among k xs ≡ 0
count_none k [] h = refl
count_none k (x ∷ xs) h = rw (ne_eqb (byte x 0) k (h x (inl refl))) (let e = count_none k xs (λ y m. h y (inr m)) in let z : 0 + count_among k xs ≡ 0 = omega arith in z)

-- a test that every record of the kind passes
pub count-keep : (k : ℕ) (f : List ℕ → Bool) (rs : List (List ℕ)) → ((r : List ℕ) → byte r 0 ≡ k → f r ≡ true) → count_among k (keep f rs) ≡ count_among k rs
count-keep k f [] h = refl
count-keep k f (r ∷ rs) h = by (f r) refl (count-keep k f rs h)
  where
    by : (b : Bool) → f r ≡ b → count_among k (keep f rs) ≡ count_among k rs → count_among k (cons_if b r (keep f rs)) ≡ of_kind k r + count_among k rs
    by true e ih = ap (λ (n : ℕ). of_kind k r + n) ih
    by false e ih = rw (ne_eqb (byte r 0) k (λ v. false≢true (sym e ∙ h r v))) (let z : count_among k (keep f rs) ≡ 0 + count_among k rs = omega arith in z)

-- records that are no rules are transitions and final states
kind-cases : (k : ℕ) → 0 < k → k < 4 → (k ≡ rule_kind → ⊥) → (k ≡ transition_kind) ⊎ (k ≡ final_kind)
kind-cases zero a b c = absurd (let z : ⊥ = omega arith in z)
kind-cases (suc zero) a b c = absurd (c refl)
kind-cases (suc (suc zero)) a b c = inl refl
kind-cases (suc (suc (suc zero))) a b c = inr refl
kind-cases (suc (suc (suc (suc k)))) a b c = absurd (let z : ⊥ = omega arith in z)

pub other-kind : (r : List ℕ) → kind_known r ≡ true → (byte r 0 ≡ rule_kind → ⊥) → (byte r 0 ≡ transition_kind) ⊎ (byte r 0 ≡ final_kind)
unfolding kind_known
other-kind r h n = kind-cases (byte r 0) (ltb-true 0 (byte r 0) (and-fst (ltb 0 (byte r 0)) (ltb (byte r 0) 4) h)) (ltb-true (byte r 0) 4 (and-snd (ltb 0 (byte r 0)) (ltb (byte r 0) 4) h)) n

pub count-others : (xs : List (List ℕ)) → ((x : List ℕ) → In x xs → (byte x 0 ≡ transition_kind) ⊎ (byte x 0 ≡ final_kind)) → length xs ≡ count_among transition_kind xs + count_among final_kind xs
count-others [] h = refl
count-others (x ∷ xs) h = by (h x (inl refl)) (count-others xs (λ y m. h y (inr m)))
  where
    by : (byte x 0 ≡ transition_kind) ⊎ (byte x 0 ≡ final_kind) → length xs ≡ count_among transition_kind xs + count_among final_kind xs
        → suc (length xs) ≡ of_kind transition_kind x + count_among transition_kind xs + (of_kind final_kind x + count_among final_kind xs)
    by (inl e) ih = rw e (let z : suc (length xs) ≡ 1 + count_among transition_kind xs + (0 + count_among final_kind xs) = omega arith in z)
    by (inr e) ih = rw e (let z : suc (length xs) ≡ 0 + count_among transition_kind xs + (1 + count_among final_kind xs) = omega arith in z)

-- ---- final states

shape : (x : List ℕ) → 2 ≤ length x → x ≡ byte x 0 ∷ byte x 1 ∷ drop 2 x
shape [] h = absurd (let z : ⊥ = omega arith in z)
shape (a ∷ []) h = absurd (let z : ⊥ = omega arith in z)
shape (a ∷ b ∷ x) h = refl

final-shape : (x : List ℕ) → length x ≡ 8 → Alone 2 x → byte x 0 ≡ final_kind → x ≡ final_kind ∷ byte x 1 ∷ replicate 6 0
unfolding unused_byte
final-shape x l a k =
    let u : used_bytes x ≡ 2 = ap (λ (j : ℕ). cond (eqb j rule_kind) (3 + byte x 2) (cond (eqb j transition_kind) 4 2)) k in
    let z : drop 2 x ≡ replicate 6 0 =
    zeros (drop 2 x) (subst (λ (n : ℕ). any (ltb 0) (drop n x) ≡ false) u a.zeros) ∙ ap (λ (n : ℕ). replicate n 0) (length-drop 2 x ∙ (let w : length x - 2 ≡ 6 = omega arith in w)) in
    shape x (omega arith) ∙ ap₂ (λ (j : ℕ) (t : List ℕ). j ∷ byte x 1 ∷ t) k z

final-low : (x : List ℕ) → Alone 2 x → byte x 0 ≡ final_kind → byte x 1 < states
unfolding high_byte
final-low x a k = leb-false states (byte x 1) (rw k at a.range)

final-precedes : (x y : List ℕ) → length x ≡ 8 → length y ≡ 8 → Alone 2 x → Alone 2 y → byte x 0 ≡ final_kind → byte y 0 ≡ final_kind → precedes x y ≡ true → byte x 1 < byte y 1
final-precedes x y lx ly ax ay kx ky h =
    let a = byte x 1 in
    let b = byte y 1 in
    let e = precedes-cancel (final_kind ∷ a ∷ []) (final_kind ∷ b ∷ []) (replicate 6 0) refl (rw (final-shape x lx ax kx, final-shape y ly ay ky) at h) in
    by (ltb a b) (ltb-true a b) (eqb a b) e
  where
    by : (l : Bool) → (l ≡ true → byte x 1 < byte y 1) → (s : Bool) → (l || (s && false)) ≡ true → byte x 1 < byte y 1
    by true p s e = p refl
    by false p true e = absurd (false≢true e)
    by false p false e = absurd (false≢true e)

-- final states from `low` on
few-from : (low : ℕ) (xs : List (List ℕ)) → low ≤ states → ((x : List ℕ) → In x xs → length x ≡ 8) → ((x : List ℕ) → In x xs → Alone 2 x) → Ordered precedes xs
    → ((x : List ℕ) → In x xs → byte x 0 ≡ final_kind → low ≤ byte x 1) → low + count_among final_kind xs ≤ states
few-from low [] l w a o h = omega arith
few-from low (x ∷ xs) l w a o h =
    by (eqb (byte x 0) final_kind) (eqb-true (byte x 0) final_kind) (λ n q. few-from n xs q (λ y m. w y (inr m)) (λ y m. a y (inr m)) o.1)
  where
    by : (b : Bool) → (b ≡ true → byte x 0 ≡ final_kind) → ((n : ℕ) → n ≤ states → ((y : List ℕ) → In y xs → byte y 0 ≡ final_kind → n ≤ byte y 1) → n + count_among final_kind xs ≤ states)
        → low + (cond b 1 0 + count_among final_kind xs) ≤ states
    by true p ih =
        let k = p refl in
        let f = final-low x (a x (inl refl)) k in
        let g = h x (inl refl) k in
        let later = ih (suc (byte x 1)) f (λ y m ky. final-precedes x y (w x (inl refl)) (w y (inr m)) (a x (inl refl)) (a y (inr m)) k ky (o.0 y m)) in omega arith
    by false p ih = let later = ih low l (λ y m ky. h y (inr m) ky) in omega arith

pub few-finals : (xs : List (List ℕ)) → ((x : List ℕ) → In x xs → length x ≡ 8) → ((x : List ℕ) → In x xs → Alone 2 x) → Ordered precedes xs → count_among final_kind xs ≤ states
few-finals xs w a o = let z = few-from 0 xs (omega arith) w a o (λ x m k. omega arith) in omega arith

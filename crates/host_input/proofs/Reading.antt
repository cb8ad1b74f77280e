-- What a loop of reads keeps, and that it hands over what it should.
use Rattle.std.specs.Prelude.{◌≡◌, refl, Bool, true, false, List, [], ◌++◌, ℕ, ◌+◌, ◌<◌, ◌≤◌, ltb, length, take, drop, min, None, Some, IfSome, Ok}
use Rattle.std.proofs.Common.{sym, ap, ◌∙◌, arith, length-append, ltb-true, ltb-false}
use Rattle.std.proofs.lemmas.List.{append_assoc, append-nil, take-append-drop, take-append-le, length-take-le, take_all, take_at}
use Rattle.std.proofs.Math.Seq.{take-append-add}
use Rattle.std.specs.Io.KnownBytes.{Consumes, IsAtEnd}
use Rattle.std.specs.declared.option.Option.{Option}
use Rattle.host_input.specs.Held.{most, held_of, Handed, CameAt}
use Rattle.host_input.specs.HeldLaws.{held-short, count-is}

-- `front` has come of an input that had `known` left: it is counted by `at`, and the buffer has it up to the most
pub record Kept (known now : Option (List ℕ)) (at : ℕ) (buffer : List ℕ) : Type 0 where
  pub front : List ℕ
  pub consumed : Consumes known now front
  pub counted : at ≡ held_of (length front)
  pub stands : take (min (length front) most) buffer ≡ take most front

-- ---- what has come in turn

pub then-consumed : (a b c : Option (List ℕ)) (xs ys : List ℕ) → Consumes a b xs → Consumes b c ys → Consumes a c (xs ++ ys)
then-consumed None b c xs ys p q = p
then-consumed (Some a) None c xs ys p q = absurd p
then-consumed (Some a) (Some b) None xs ys p q = absurd q
then-consumed (Some a) (Some b) (Some c) xs ys p q = p ∙ ap (λ (zs : List ℕ). xs ++ zs) q ∙ sym (append_assoc xs ys c)

all-consumed : (a b : Option (List ℕ)) (xs : List ℕ) → Consumes a b xs → IsAtEnd b → IfSome a (λ whole. whole ≡ xs)
all-consumed None b xs p q = p
all-consumed (Some a) None xs p q = absurd p
all-consumed (Some a) (Some b) xs p q = p ∙ ap (λ (zs : List ℕ). xs ++ zs) q ∙ append-nil xs

-- ---- the buffer

-- below the most, what has come is all there
below : (known now : Option (List ℕ)) (at : ℕ) (buffer : List ℕ) (k : Kept known now at buffer) → at < most → (length k.front ≡ at) × (take at buffer ≡ k.front)
below known now at buffer k h =
    let n : length k.front ≡ at = count-is (length k.front) (omega arith) ∙ sym k.counted in
    (n, ap (λ (m : ℕ). take m buffer) (let e : at ≡ min (length k.front) most = omega arith in e) ∙ k.stands ∙ take_all most k.front (omega arith))

past : (known now : Option (List ℕ)) (at : ℕ) (buffer : List ℕ) (k : Kept known now at buffer) → most ≤ at → (most ≤ length k.front) × (take most buffer ≡ take most k.front)
past known now at buffer k h =
    by (ltb (length k.front) most) refl
  where
    by : (b : Bool) → ltb (length k.front) most ≡ b → (most ≤ length k.front) × (take most buffer ≡ take most k.front)
    by true e = absurd (let l = ltb-true (length k.front) most e in let s = held-short (length k.front) l in let c = k.counted in let z : ⊥ = omega arith in z)
    by false e =
        let l = ltb-false (length k.front) most e in
        (l, ap (λ (m : ℕ). take m buffer) (let e : most ≡ min (length k.front) most = omega arith in e) ∙ k.stands)

-- the front of a front
front-of : (i j : ℕ) (xs : List ℕ) → i ≤ j → j ≤ length xs → take i (take j xs) ≡ take i xs
front-of i j xs h l =
    sym (take-append-le i (take j xs) (drop j xs) (let e = length-take-le j xs l in omega arith)) ∙ ap (λ (ys : List ℕ). take i ys) (take-append-drop j xs)

-- ---- a read

-- none has come before the first one
pub kept-none : (known : Option (List ℕ)) (buffer : List ℕ) → Kept known known 0 buffer
kept-none known buffer = record { front = []; consumed = none known; counted = sym (held-short 0 (omega arith)); stands = refl }
  where
    none : (a : Option (List ℕ)) → Consumes a a []
    none None = tt
    none (Some a) = refl

-- after one that gave bytes
pub kept-bytes : {E : Type 0} (known now new : Option (List ℕ)) (at got next : ℕ) (before after : List ℕ) → most ≤ length before → most ≤ length after
    → Kept known now at before → CameAt {E = E} now new (Ok got) at before after → ((n : ℕ) → at ≡ held_of n → next ≡ held_of (n + got)) → Kept known new next after
kept-bytes {E} known now new at got next before after u v k r h =
    let came = r.came in
    let few = length-take-le got r.room came.1 in
    let long : length (k.front ++ take got r.room) ≡ length k.front + got = length-append k.front (take got r.room) ∙ ap (λ (m : ℕ). length k.front + m) few in
    record {
      front = k.front ++ take got r.room;
      consumed = then-consumed known now new k.front (take got r.room) k.consumed came.0;
      counted = h (length k.front) k.counted ∙ ap held_of (sym long);
      stands = by (ltb at most) refl long;
    }
  where
    by : (b : Bool) → ltb at most ≡ b → length (k.front ++ take got r.room) ≡ length k.front + got
        → take (min (length (k.front ++ take got r.room)) most) after ≡ take most (k.front ++ take got r.room)
    by true e long =
        let l = ltb-true at most e in
        let b = below known now at before k l in
        let s = r.stored.below l in
        let m : min (length (k.front ++ take got r.room)) most ≡ length k.front + got = (let c = r.came.1 in let t = s.0 in let n = b.0 in omega arith) in
        ap (λ (i : ℕ). take i after) m
        ∙ sym (front-of (length k.front + got) most after (let c = r.came.1 in let t = s.0 in let n = b.0 in omega arith) v)
        ∙ ap (λ (ys : List ℕ). take (length k.front + got) ys) (s.1 ∙ ap (λ (ys : List ℕ). ys ++ r.room) b.1)
        ∙ take-append-add k.front r.room got
        ∙ sym (take_all most (k.front ++ take got r.room) (let c = r.came.1 in let t = s.0 in let n = b.0 in omega arith))
    by false e long =
        let l = ltb-false at most e in
        let b = past known now at before k l in
        ap (λ (i : ℕ). take i after) (let n = b.0 in let m : min (length (k.front ++ take got r.room)) most ≡ most = omega arith in m)
        ∙ ap (λ (ys : List ℕ). take most ys) (r.stored.past l)
        ∙ b.1
        ∙ sym (take-append-le most k.front (take got r.room) b.0)

-- after one that gave none: the input has ended
pub handed-over : {E : Type 0} (known now new : Option (List ℕ)) (at got : ℕ) (before after : List ℕ) → most ≤ length before → most ≤ length after → at ≤ length after
    → Kept known now at before → CameAt {E = E} now new (Ok got) at before after → got ≡ 0 → IfSome known (λ whole. Handed whole (take at after))
handed-over {E} known now new at got before after u w v k r z = over known (all-consumed known now k.front k.consumed (r.came.2 z r.some))
  where
    front : take most (take at after) ≡ take most k.front
    front = by (ltb at most) refl
      where
        by : (b : Bool) → ltb at most ≡ b → take most (take at after) ≡ take most k.front
        by true e =
            let l = ltb-true at most e in
            let b = below known now at before k l in
            let s = r.stored.below l in
            let stands : take at after ≡ k.front =
            sym (front-of at most after (omega arith) w) ∙ ap (λ (ys : List ℕ). take at ys) s.1
            ∙ take_at (take at before) r.room at (length-take-le at before (omega arith)) ∙ b.1 in
            ap (λ (ys : List ℕ). take most ys) stands
        by false e =
            let l = ltb-false at most e in
            front-of most at after l v ∙ ap (λ (ys : List ℕ). take most ys) (r.stored.past l) ∙ (past known now at before k l).1

    over : (a : Option (List ℕ)) → IfSome a (λ whole. whole ≡ k.front) → IfSome a (λ whole. Handed whole (take at after))
    over None e = tt
    over (Some whole) e = record {
      count = length-take-le at after v ∙ k.counted ∙ ap (λ (ys : List ℕ). held_of (length ys)) (sym e);
      front = front ∙ ap (λ (ys : List ℕ). take most ys) (sym e);
    }

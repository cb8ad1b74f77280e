-- What is written to a buffer: nothing, one step, one word after another. Assumes nothing.
use mathlib.Core.Path.{◌≡◌, refl, sym, ap, ap₂, ◌∙◌, subst}
use mathlib.Core.List.{List, [], ◌∷◌, ◌++◌, append_assoc, append-nil}
use Prim.Native.Nat.{ℕ, ◌+◌, ◌-◌, ◌≤◌}
use native.Mathlib.Omega.{arith}
use lib.ListN.{length, take, drop, set, length-append, length-drop}
use lib.Seq.{take_at, drop_at, drop-drop, take-length, drop-length}
use Rattle.call_write_word.specs.Parts.{Wrote}

pub wrote-step : (c : ℕ) (b : List ℕ) → 1 ≤ length b → Wrote (c ∷ []) b (set b 0 c) 1
wrote-step c [] h = absurd (let z : ⊥ = omega arith in z)
wrote-step c (x ∷ b) h = record { count = refl; bytes = refl }

pub wrote-same : {w v b a : List ℕ} {n : ℕ} → w ≡ v → Wrote v b a n → Wrote w b a n
wrote-same {w} {v} {b} {a} {n} e t = subst (λ (u : List ℕ). Wrote u b a n) (sym e) t

-- the second word goes into what the first left: the buffer d after the first, the part e after the second
pub wrote-two : (u v b d e : List ℕ) (n m : ℕ) → Wrote u b d n → Wrote v (drop n d) e m → Wrote (u ++ v) b (take n d ++ e) (n + m)
wrote-two u v b d e n m s t =
    let rest : drop n d ≡ drop n b = ap (drop n) s.bytes ∙ drop_at u (drop n b) n (sym s.count) in
    let front : take n d ≡ u = ap (take n) s.bytes ∙ take_at u (drop n b) n (sym s.count) in
    let after : e ≡ v ++ drop (n + m) b = t.bytes ∙ ap (λ (l : List ℕ). v ++ drop m l) rest ∙ ap (λ (l : List ℕ). v ++ l) (drop-drop m n b) in
    record {
      count = ap₂ (λ (x y : ℕ). x + y) s.count t.count ∙ sym (length-append u v);
      bytes = ap₂ (λ (x y : List ℕ). x ++ y) front after ∙ sym (append_assoc u v (drop (n + m) b));
    }

-- where what remains is all from n on: it is lent whole, and nothing lies after it
rest-whole : (n : ℕ) (d : List ℕ) → take (length d - n) (drop n d) ≡ drop n d
rest-whole n d = subst (λ (k : ℕ). take k (drop n d) ≡ drop n d) (length-drop n d) (take-length (drop n d))

rest-past : (n : ℕ) (d : List ℕ) → drop (length d - n) (drop n d) ≡ []
rest-past n d = subst (λ (k : ℕ). drop k (drop n d) ≡ []) (length-drop n d) (drop-length (drop n d))

pub wrote-rest : (u v b d e : List ℕ) (n m : ℕ) → Wrote u b d n → Wrote v (take (length d - n) (drop n d)) e m → Wrote (u ++ v) b (take n d ++ (e ++ drop (length d - n) (drop n d))) (n + m)
wrote-rest u v b d e n m s t =
    let two = wrote-two u v b d e n m s (subst (λ (r : List ℕ). Wrote v r e m) (rest-whole n d) t) in
    subst (λ (r : List ℕ). Wrote (u ++ v) b (take n d ++ r) (n + m)) (sym (ap (λ (r : List ℕ). e ++ r) (rest-past n d) ∙ append-nil e)) two

pub length-rest : (n : ℕ) (d b : List ℕ) → length d ≡ length b → length b - n ≡ length (take (length d - n) (drop n d))
length-rest n d b l = sym (ap length (rest-whole n d) ∙ length-drop n d ∙ ap (λ (k : ℕ). k - n) l)

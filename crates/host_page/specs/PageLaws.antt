-- What a buffer holds when all of a text has been put into it. Assumes nothing.
use Rattle.std.specs.Prelude.{◌≡◌, refl, List, [], ◌∷◌, ◌++◌, ℕ, ◌+◌, ◌≤◌, ◌<◌, length, get_or, drop, set}
use Rattle.std.proofs.Common.{sym, ap, ◌∙◌, append_assoc, append-nil, add-one, arith, length-append, drop-cons, lt-ltb}
use Rattle.std.proofs.Math.Seq.{set-append_seam}
use Rattle.host_page.specs.Page.{Page, page, put, puts}

pub puts-more : (xs ys : List ℕ) (p : Page) → puts (xs ++ ys) p ≡ puts ys (puts xs p)
unfolding puts
puts-more [] ys p = refl
puts-more (x ∷ xs) ys p = puts-more xs ys (put x p)

-- xs, and then ys
pub puts_then : (xs ys : List ℕ) (p q r : Page) → q ≡ puts xs p → r ≡ puts ys q → r ≡ puts (xs ++ ys) p
puts_then xs ys p q r e f = f ∙ ap (puts ys) e ∙ sym (puts-more xs ys p)

pub puts-byte : (x : ℕ) (ys : List ℕ) (p q r : Page) → q ≡ put x p → r ≡ puts ys q → r ≡ puts (x ∷ ys) p
unfolding puts
puts-byte x ys p q r e f = f ∙ ap (puts ys) e

pub puts_one : (x : ℕ) (p q : Page) → q ≡ put x p → q ≡ puts (x ∷ []) p
unfolding puts
puts_one x p q e = e

pub puts_none : (p : Page) → p ≡ puts [] p
unfolding puts
puts_none p = refl

-- the byte at i, and then those after it
pub puts-next : (bs : List ℕ) (i : ℕ) (p : Page) → i < length bs → puts (drop (i + 1) bs) (put (get_or bs i 0) p) ≡ puts (drop i bs) p
unfolding puts
puts-next bs i p h = ap (λ (k : ℕ). puts (drop k bs) (put (get_or bs i 0) p)) (add-one i) ∙ ap (λ (xs : List ℕ). puts xs p) (sym (drop-cons bs i 0 h))

-- ---- all of a text

put-fits : (b n : ℕ) (bs : List ℕ) → n < length bs → put b (page n bs) ≡ page (n + 1) (set bs n b)
unfolding put
put-fits b n bs h = rw (lt-ltb n (length bs) h)

-- a byte put after `done` is stored there
put-after : (x : ℕ) (done : List ℕ) (y : ℕ) (rest : List ℕ) → put x (page (length done) (done ++ (y ∷ rest))) ≡ page (length (done ++ (x ∷ []))) ((done ++ (x ∷ [])) ++ rest)
put-after x done y rest =
    put-fits x (length done) (done ++ (y ∷ rest)) (omega (arith, length-append done (y ∷ rest)))
    ∙ ap (λ (bs : List ℕ). page (length done + 1) bs) (set-append_seam done y rest x ∙ sym (append_assoc done (x ∷ []) rest))
    ∙ ap (λ (n : ℕ). page n ((done ++ (x ∷ [])) ++ rest)) (sym (length-append done (x ∷ [])))

-- a text that fits comes after `done`, and the bytes behind it are as they were
puts-after : (xs done rest : List ℕ) → length xs ≤ length rest
    → puts xs (page (length done) (done ++ rest)) ≡ page (length (done ++ xs)) ((done ++ xs) ++ drop (length xs) rest)
unfolding puts
puts-after [] done rest h = ap (λ (bs : List ℕ). page (length bs) (bs ++ rest)) (sym (append-nil done))
puts-after (x ∷ xs) done [] h = absurd (omega arith)
puts-after (x ∷ xs) done (y ∷ rest) h =
    ap (puts xs) (put-after x done y rest) ∙ puts-after xs (done ++ (x ∷ [])) rest (omega arith)
    ∙ ap (λ (bs : List ℕ). page (length bs) (bs ++ drop (length xs) rest)) (append_assoc done (x ∷ []) xs)

-- from the start of the buffer
pub puts-all : (xs bs : List ℕ) → length xs ≤ length bs → puts xs (page 0 bs) ≡ page (length xs) (xs ++ drop (length xs) bs)
puts-all xs bs h = puts-after xs [] bs h

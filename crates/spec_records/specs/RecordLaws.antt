-- Records compared, their zeros, and their ranges. Assumes nothing.
use Rattle.std.specs.Prelude.{◌≡◌, refl, Bool, true, false, ◌&&◌, ◌||◌, List, [], ◌∷◌, ◌++◌, ℕ, zero, suc, ◌+◌, ◌≤◌, ◌<◌, eqb, leb, ltb, length, replicate}
use Rattle.std.proofs.Common.{sym, ap, ap₂, ◌∙◌, true≢false, arith, eqb-true, eq-eqb, lt-ltb, ltb-true, ltb-false, le-ltb, leb-false}
use Rattle.std.proofs.lemmas.Bool.{false≢true, eqb-false, lt-leb}
use Rattle.spec_basics.specs.Tests.{or-neither, fails}
use Rattle.spec_basics.specs.Lists.{any_at}
use Rattle.spec_basics.specs.Elements.{In, any}
use Rattle.spec_file.specs.Limits.{nonterminals, symbol_bytes}
use Rattle.spec_file.specs.Records.{byte, rule_kind}
use Rattle.spec_records.specs.OnRecords.{body_in, high_byte, precedes}

-- ---- the order of records

-- the first byte decides, and where it is the same, the rest
pub precedes-cases : (a b : ℕ) (r s : List ℕ) (G : Type 0) → (a < b → G) → (a ≡ b → precedes r s ≡ true → G) → precedes (a ∷ r) (b ∷ s) ≡ true → G
precedes-cases a b r s G p q h = by (ltb a b) (ltb-true a b) (eqb a b) (eqb-true a b) h
  where
    by : (l : Bool) → (l ≡ true → a < b) → (e : Bool) → (e ≡ true → a ≡ b) → (l || (e && precedes r s)) ≡ true → G
    by true f e g h = p (f refl)
    by false f true g h = q (g refl) h
    by false f false g h = absurd (false≢true h)

pub precedes-less : (a b : ℕ) (r s : List ℕ) → a < b → precedes (a ∷ r) (b ∷ s) ≡ true
precedes-less a b r s l = rw (lt-ltb a b l)

precedes-same-first : (a b : ℕ) (r s : List ℕ) → a ≡ b → precedes r s ≡ true → precedes (a ∷ r) (b ∷ s) ≡ true
precedes-same-first a b r s e h = rw (le-ltb a b (omega arith), eq-eqb a b e) h

pub precedes-never : (r : List ℕ) → precedes r r ≡ false
precedes-never [] = refl
precedes-never (a ∷ r) = rw (le-ltb a a (omega arith), eq-eqb a a refl) (precedes-never r)

pub precedes-onward : (r s t : List ℕ) → precedes r s ≡ true → precedes s t ≡ true → precedes r t ≡ true
precedes-onward [] s t p q = absurd (false≢true p)
precedes-onward (a ∷ r) [] t p q = absurd (false≢true p)
precedes-onward (a ∷ r) (b ∷ s) [] p q = absurd (false≢true q)
precedes-onward (a ∷ r) (b ∷ s) (c ∷ t) p q =
    precedes-cases a b r s (precedes (a ∷ r) (c ∷ t) ≡ true)
    (λ l. precedes-cases b c s t (precedes (a ∷ r) (c ∷ t) ≡ true) (λ m. precedes-less a c r t (omega arith)) (λ e h. precedes-less a c r t (omega arith)) q)
    (λ e h. precedes-cases b c s t (precedes (a ∷ r) (c ∷ t) ≡ true) (λ m. precedes-less a c r t (omega arith)) (λ f k. precedes-same-first a c r t (omega arith) (precedes-onward r s t h k)) q)
    p

pub precedes-either : (r s : List ℕ) → length r ≡ length s → (r ≡ s → ⊥) → precedes r s ≡ false → precedes s r ≡ true
precedes-either [] [] l d h = absurd (d refl)
precedes-either [] (b ∷ s) l d h = absurd (let z : ⊥ = omega arith in z)
precedes-either (a ∷ r) [] l d h = absurd (let z : ⊥ = omega arith in z)
precedes-either (a ∷ r) (b ∷ s) l d h = by (ltb a b) (ltb-false a b) (eqb a b) (eqb-true a b) (eqb-false a b) h (precedes-either r s (omega arith))
  where
    by : (x : Bool) → (x ≡ false → b ≤ a) → (y : Bool) → (y ≡ true → a ≡ b) → (y ≡ false → a ≡ b → ⊥) → (x || (y && precedes r s)) ≡ false
        → ((r ≡ s → ⊥) → precedes r s ≡ false → precedes s r ≡ true) → precedes (b ∷ s) (a ∷ r) ≡ true
    by true f y g n e ih = absurd (true≢false e)
    by false f true g n e ih = precedes-same-first b a s r (sym (g refl)) (ih (λ v. d (ap₂ (λ (x : ℕ) (xs : List ℕ). x ∷ xs) (g refl) v)) e)
    by false f false g n e ih = let q = f refl in let m = n refl in precedes-less b a s r (omega arith)

-- the first bytes rise or stay
pub precedes-first : (r s : List ℕ) → precedes r s ≡ true → byte r 0 ≤ byte s 0
precedes-first [] s h = absurd (false≢true h)
precedes-first (a ∷ r) [] h = absurd (false≢true h)
precedes-first (a ∷ r) (b ∷ s) h = precedes-cases a b r s (a ≤ b) (λ l. omega arith) (λ e k. omega arith) h

-- what follows records that differ does not matter
pub precedes-append : (r s x y : List ℕ) → precedes r s ≡ true → precedes (r ++ x) (s ++ y) ≡ true
precedes-append [] s x y h = absurd (false≢true h)
precedes-append (a ∷ r) [] x y h = absurd (false≢true h)
precedes-append (a ∷ r) (b ∷ s) x y h =
    precedes-cases a b r s (precedes (a ∷ (r ++ x)) (b ∷ (s ++ y)) ≡ true) (precedes-less a b (r ++ x) (s ++ y)) (λ e k. precedes-same-first a b (r ++ x) (s ++ y) e (precedes-append r s x y k)) h

-- nor does what is the same
pub precedes-cancel : (r s x : List ℕ) → length r ≡ length s → precedes (r ++ x) (s ++ x) ≡ true → precedes r s ≡ true
precedes-cancel [] [] x l h = absurd (true≢false (sym h ∙ precedes-never x))
precedes-cancel [] (b ∷ s) x l h = absurd (let z : ⊥ = omega arith in z)
precedes-cancel (a ∷ r) [] x l h = absurd (let z : ⊥ = omega arith in z)
precedes-cancel (a ∷ r) (b ∷ s) x l h =
    precedes-cases a b (r ++ x) (s ++ x) (precedes (a ∷ r) (b ∷ s) ≡ true) (precedes-less a b r s) (λ e k. precedes-same-first a b r s e (precedes-cancel r s x (omega arith) k)) h

-- ---- unused bytes

pub zeros : (xs : List ℕ) → any (ltb 0) xs ≡ false → xs ≡ replicate (length xs) 0
zeros [] h = refl
zeros (x ∷ xs) h =
    let p = or-neither (ltb 0 x) (any (ltb 0) xs) h in
    let e : x ≡ 0 = let q = ltb-false 0 x p.0 in omega arith in
    ap₂ (λ (y : ℕ) (ys : List ℕ). y ∷ ys) e (zeros xs p.1)

pub none-stray : (n : ℕ) → any (ltb 0) (replicate n 0) ≡ false
none-stray zero = refl
none-stray (suc n) = none-stray n

-- ---- ranges

-- the bytes of a rule are in their ranges
pub record RuleBytes (most : ℕ) (r : List ℕ) : Type 0 where
  pub head : byte r 1 < nonterminals
  pub size : byte r 2 ≤ most
  pub symbols : any (leb symbol_bytes) (body_in r) ≡ false

pub rule-bytes : (most : ℕ) (r : List ℕ) → high_byte most r ≡ false → byte r 0 ≡ rule_kind → RuleBytes most r
unfolding high_byte
rule-bytes most r h k =
    let H = leb nonterminals (byte r 1) in
    let N = ltb most (byte r 2) in
    let S = any (leb symbol_bytes) (body_in r) in
    let p : ((H || N) || S) ≡ false = sym (ap (λ (b : Bool). b && ((H || N) || S)) (eq-eqb (byte r 0) rule_kind k)) ∙ (or-neither (eqb (byte r 0) rule_kind && ((H || N) || S)) _ h).0 in
    let q = or-neither (H || N) S p in
    let f = or-neither H N q.0 in
    record { head = leb-false nonterminals (byte r 1) f.0; size = ltb-false most (byte r 2) f.1; symbols = q.1 }

pub rule-in-range : (most : ℕ) (r : List ℕ) → byte r 0 ≡ rule_kind → RuleBytes most r → high_byte most r ≡ false
unfolding high_byte
rule-in-range most r k b =
    rw (k, lt-leb nonterminals (byte r 1) b.head, le-ltb most (byte r 2) b.size, b.symbols)

-- a symbol of a rule's body is in its range
pub symbol_low : (most : ℕ) (r : List ℕ) → RuleBytes most r → (s : ℕ) → In s (body_in r) → s < symbol_bytes
symbol_low most r b s m = leb-false symbol_bytes s (fails (leb symbol_bytes s) (λ e. true≢false (sym (any_at (leb symbol_bytes) s (body_in r) m e) ∙ b.symbols)))

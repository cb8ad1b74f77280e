-- The views of an 8-byte file by the list of its records; the records of a list that pass a test. Assumes nothing.
use Rattle.std.specs.Prelude.{◌≡◌, refl, Bool, true, false, not, List, [], ◌∷◌, ◌++◌, map, ℕ, zero, suc, ◌+◌, ◌*◌, ◌/◌, ◌≤◌, eqb, length, drop}
use Rattle.std.proofs.Common.{sym, ap, ap₂, ◌∙◌, inl, inr, arith, drop-drop, get_or-take, eqb-true, ne_eqb}
use Rattle.spec_basics.specs.Elements.{In}
use Rattle.spec_language.specs.Grammar.{production_of}
use Rattle.spec_file.specs.Records.{record_count, record_at, byte, kind_at, rule_kind}
use Rattle.spec_file.specs.Views.{rule_of, cons_if, collect}
use Rattle.spec_records.specs.Blocks.{blocks, records_of}
use Rattle.spec_file.specs.Forms.{eight}
use Rattle.spec_records.specs.Agreement.{eight_fits, record-cut}
use Rattle.spec_unfold.specs.Moving.{narrower}
use Rattle.spec_unfold.specs.Unfolding.{keep, has_kind, spelled, rule_bytes}

-- ---- the views of a file of 8-byte records, by its list of records

collect-kept : {A : Type 0} (k : ℕ) (g : List ℕ → A) (bs : List ℕ) (m i : ℕ) → (i + m) * 8 ≤ length bs → collect k g bs m i ≡ map g (keep (has_kind k) (blocks 8 m (drop (i * 8) bs)))
unfolding collect
collect-kept k g bs zero i h = refl
collect-kept {A} k g bs (suc m) i h =
    let cut = record-cut eight eight_fits bs i (omega arith) in
    let on : drop 8 (drop (i * 8) bs) ≡ drop (suc i * 8) bs = let z : i * 8 + 8 ≡ suc i * 8 = omega arith in drop-drop 8 (i * 8) bs ∙ ap (λ (n : ℕ). drop n bs) z in
    rw (sym cut, on) (ap (cons_if (eqb (kind_at bs i) k) (g (record_at bs i))) (collect-kept k g bs m (suc i) (omega arith)) ∙ by (eqb (kind_at bs i) k) (keep (has_kind k) (blocks 8 m (drop (suc i * 8) bs))))
  where
    by : (b : Bool) (rs : List (List ℕ)) → cons_if b (g (record_at bs i)) (map g rs) ≡ map g (cons_if b (record_at bs i) rs)
    by true rs = refl
    by false rs = refl

pub kept : {A : Type 0} (k : ℕ) (g : List ℕ → A) (bs : List ℕ) → collect k g bs (record_count bs) 0 ≡ map g (keep (has_kind k) (records_of 8 bs))
kept k g bs = collect-kept k g bs (length bs / 8) 0 (omega arith)

-- ---- tests on lists of records

pub keep_append : (f : List ℕ → Bool) (xs ys : List (List ℕ)) → keep f (xs ++ ys) ≡ keep f xs ++ keep f ys
keep_append f [] ys = refl
keep_append f (x ∷ xs) ys = ap (cons_if (f x) x) (keep_append f xs ys) ∙ by (f x) (keep f xs)
  where
    by : (b : Bool) (zs : List (List ℕ)) → cons_if b x (zs ++ keep f ys) ≡ cons_if b x zs ++ keep f ys
    by true zs = refl
    by false zs = refl

pub keep_all : (f : List ℕ → Bool) (xs : List (List ℕ)) → ((x : List ℕ) → In x xs → f x ≡ true) → keep f xs ≡ xs
keep_all f [] h = refl
keep_all f (x ∷ xs) h = rw (h x (inl refl)) (ap (λ (l : List (List ℕ)). x ∷ l) (keep_all f xs (λ y m. h y (inr m))))

pub keep-none : (f : List ℕ → Bool) (xs : List (List ℕ)) → ((x : List ℕ) → In x xs → f x ≡ false) → keep f xs ≡ []
keep-none f [] h = refl
keep-none f (x ∷ xs) h = rw (h x (inl refl)) (keep-none f xs (λ y m. h y (inr m)))

-- a kind that is no rule's, among the narrowed records that are no rules
pub keep-narrow : {A : Type 0} (k : ℕ) (g : List ℕ → A) → (k ≡ rule_kind → ⊥) → ((r : List ℕ) → g (narrower r) ≡ g r) → (rs : List (List ℕ))
    → map g (keep (has_kind k) (map narrower (keep (λ r. not (has_kind rule_kind r)) rs))) ≡ map g (keep (has_kind k) rs)
keep-narrow k g n same [] = refl
keep-narrow {A} k g n same (r ∷ rs) = by (has_kind rule_kind r) (has_kind k r) (λ e. ne_eqb (byte r 0) k (λ f. n (sym f ∙ eqb-true (byte r 0) rule_kind e))) refl (keep-narrow k g n same rs)
  where
    os : List (List ℕ)
    os = keep (λ r. not (has_kind rule_kind r)) rs

    head-same : has_kind k (narrower r) ≡ has_kind k r
    head-same = ap (λ (b : ℕ). eqb b k) (get_or-take 8 r 0 0 (omega arith))

    by : (a b : Bool) → (a ≡ true → has_kind k r ≡ false) → has_kind k r ≡ b → map g (keep (has_kind k) (map narrower os)) ≡ map g (keep (has_kind k) rs)
        → map g (keep (has_kind k) (map narrower (cons_if (not a) r os))) ≡ map g (cons_if (has_kind k r) r (keep (has_kind k) rs))
    by true b h e ih = rw (h refl) ih
    by false true h e ih = rw (head-same, e) (ap₂ (λ (x : A) (l : List A). x ∷ l) (same r) ih)
    by false false h e ih = rw (head-same, e) ih

-- ---- a rule of at most two symbols, from its bytes

pub rule-read : (x : ℕ) (body : List ℕ) → length body ≤ 2 → production_of (rule_of (rule_bytes (record { head = x; body = body }))) ≡ spelled (record { head = x; body = body })
rule-read x [] h = refl
rule-read x (s ∷ []) h = refl
rule-read x (s ∷ t ∷ []) h = refl
rule-read x (s ∷ t ∷ u ∷ body) h = absurd (let z : ⊥ = omega arith in z)

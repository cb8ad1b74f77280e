-- Records that rise one after the other are in order, and the other way round. Assumes nothing.
use Rattle.std.specs.Prelude.{◌≡◌, refl, true, List, [], ◌∷◌, map, ℕ, ◌<◌, length}
use Rattle.std.proofs.Common.{sym, ◌∙◌, subst, inl, inr, arith}
use Rattle.spec_basics.specs.Elements.{In}
use Rattle.spec_basics.specs.Lists.{map-in}
use Rattle.spec_records.specs.OnRecords.{precedes, follows}
use Rattle.spec_records.specs.FormLaws.{Rising}
use Rattle.spec_records.specs.RecordLaws.{precedes-never, precedes-onward, precedes-either}
use Rattle.spec_unfold.proofs.SortingLaws.{Ordered, Strict}

-- records of one width are in strict order
pub strict : (w : ℕ) → Strict (λ (r : List ℕ). length r ≡ w) precedes
strict w = record { never = precedes-never; onward = precedes-onward; either = λ r s p q d h. precedes-either r s (p ∙ sym q) d h }

follows-precedes : (r s : List ℕ) → 0 < length r → follows r s ≡ true → precedes r s ≡ true
follows-precedes [] s l h = absurd (let z : ⊥ = omega arith in z)
follows-precedes (a ∷ r) s l h = h

rising-from : (r : List ℕ) (rs : List (List ℕ)) → 0 < length r → ((s : List ℕ) → In s rs → 0 < length s) → Rising r rs → ((s : List ℕ) → In s rs → precedes r s ≡ true) × Ordered precedes rs
rising-from r [] l h o = (λ s m. absurd m, tt)
rising-from r (s ∷ rs) l h o =
    let first = follows-precedes r s l o.0 in
    let later = rising-from s rs (h s (inl refl)) (λ t m. h t (inr m)) o.1 in
    (each first later.0, later)
  where
    each : precedes r s ≡ true → ((t : List ℕ) → In t rs → precedes s t ≡ true) → (t : List ℕ) → In t (s ∷ rs) → precedes r t ≡ true
    each p q t (inl e) = rw e p
    each p q t (inr m) = precedes-onward r s t p (q t m)

pub rising-ordered : (rs : List (List ℕ)) → ((s : List ℕ) → In s rs → 0 < length s) → Rising [] rs → Ordered precedes rs
rising-ordered [] h o = tt
rising-ordered (r ∷ rs) h o = rising-from r rs (h r (inl refl)) (λ s m. h s (inr m)) o.1

ordered-from : (r : List ℕ) (rs : List (List ℕ)) → ((s : List ℕ) → In s rs → precedes r s ≡ true) → Ordered precedes rs → Rising r rs
ordered-from r [] h o = tt
ordered-from r (s ∷ rs) h o = (by r (h s (inl refl)), ordered-from s rs o.0 o.1)
  where
    by : (t : List ℕ) → precedes t s ≡ true → follows t s ≡ true
    by [] p = refl
    by (a ∷ t) p = p

pub ordered-rising : (rs : List (List ℕ)) → Ordered precedes rs → Rising [] rs
ordered-rising [] o = tt
ordered-rising (r ∷ rs) o = (refl, ordered-from r rs o.0 o.1)

-- a function that keeps the order of the records of a list
pub ordered-map : (f : List ℕ → List ℕ) (rs : List (List ℕ)) → ((r s : List ℕ) → In r rs → In s rs → precedes r s ≡ true → precedes (f r) (f s) ≡ true) → Ordered precedes rs → Ordered precedes (map f rs)
ordered-map f [] h o = tt
ordered-map f (r ∷ rs) h o =
    (λ y m. let t = map-in f y rs m in subst (λ (v : List ℕ). precedes (f r) v ≡ true) (sym t.2) (h r t.0 (inl refl) (inr t.1) (o.0 t.0 t.1)), ordered-map f rs (λ a b p q. h a b (inr p) (inr q)) o.1)

-- Laws of Bool, as tests are joined, denied and compared. Assumes nothing.
use Rattle.std.specs.Prelude.{◌≡◌, refl, Bool, true, false, not, ◌&&◌, ◌||◌, ℕ, eqb}
use Rattle.std.proofs.Common.{sym, true≢false, eqb-true, eq-eqb}
use Rattle.std.proofs.lemmas.Bool.{false≢true}

pub and_intro : (a b : Bool) → a ≡ true → b ≡ true → (a && b) ≡ true
and_intro true b p q = q
and_intro false b p q = absurd (false≢true p)

pub and-fst : (a b : Bool) → (a && b) ≡ true → a ≡ true
and-fst true b p = refl
and-fst false b p = absurd (false≢true p)

pub and-snd : (a b : Bool) → (a && b) ≡ true → b ≡ true
and-snd true b p = p
and-snd false b p = absurd (false≢true p)

pub and-not-both : (a b : Bool) → (a ≡ true → b ≡ true → ⊥) → (a && b) ≡ false
and-not-both true true h = absurd (h refl refl)
and-not-both true false h = refl
and-not-both false b h = refl

pub or_left : (a b : Bool) → a ≡ true → (a || b) ≡ true
or_left true b p = refl
or_left false b p = absurd (false≢true p)

pub or_right : (a b : Bool) → b ≡ true → (a || b) ≡ true
or_right true b p = refl
or_right false b p = p

pub or-neither : (a b : Bool) → (a || b) ≡ false → (a ≡ false) × (b ≡ false)
or-neither true b e = absurd (true≢false e)
or-neither false b e = (refl, e)

-- two tests that pass together are equal
pub iff-equal : (a b : Bool) → (a ≡ true → b ≡ true) → (b ≡ true → a ≡ true) → a ≡ b
iff-equal true b p q = sym (p refl)
iff-equal false true p q = absurd (false≢true (q refl))
iff-equal false false p q = refl

pub fails : (a : Bool) → (a ≡ true → ⊥) → a ≡ false
fails true h = absurd (h refl)
fails false h = refl

pub not-passes : (a : Bool) → (a ≡ true → ⊥) → not a ≡ true
not-passes true h = absurd (h refl)
not-passes false h = refl

pub not-excludes : (a : Bool) → not a ≡ true → a ≡ true → ⊥
not-excludes true h p = false≢true h
not-excludes false h p = false≢true p

pub not-fails : (a : Bool) → not a ≡ false → a ≡ true
not-fails true e = refl
not-fails false e = absurd (true≢false e)

pub eqb_comm : (a b : ℕ) → eqb a b ≡ eqb b a
eqb_comm a b = iff-equal (eqb a b) (eqb b a) (λ h. eq-eqb b a (sym (eqb-true a b h))) (λ h. eq-eqb a b (sym (eqb-true b a h)))

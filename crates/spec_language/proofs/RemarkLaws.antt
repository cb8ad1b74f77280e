-- Which letters are remarks, computed at the edges, and by comparing; what is struck from a word, computed. Assumes nothing.
use Rattle.std.specs.Prelude.{◌≡◌, refl, Bool, true, false, ◌&&◌, [], ◌∷◌, ℕ, ◌≤◌, ◌<◌}
use Rattle.std.proofs.Math.Path.{ap, ap₂}
use Rattle.std.proofs.Common.{◌∙◌}
use Rattle.std.proofs.Math.Bool.{and-false}
use Rattle.std.proofs.Math.Dec.{leb}
use borrow.Author.Tests.{leb-true, le-leb, lt-leb}
use Rattle.spec_basics.specs.Tests.{and-fst, and-snd}
use Rattle.spec_language.specs.Remarks.{first_remark, last_remark, is_remark, struck}

-- C-11: "Codes 120 to 127"
pub edges : (is_remark 119 ≡ false) × (is_remark 120 ≡ true) × (is_remark 127 ≡ true) × (is_remark 128 ≡ false)
unfolding is_remark
edges = (refl, refl, refl, refl)

-- the remarks are struck, and no other letter: the laws of `Striking` would hold of a word from which nothing is struck, too
pub strikes : struck (120 ∷ 1 ∷ 127 ∷ 119 ∷ 2 ∷ 120 ∷ []) ≡ 1 ∷ 119 ∷ 2 ∷ []
unfolding struck is_remark
strikes = refl

module _ (c : ℕ) where
  pub remark-between : first_remark ≤ c → c ≤ last_remark → is_remark c ≡ true
  unfolding is_remark
  remark-between p q = ap₂ (λ (a b : Bool). a && b) (le-leb first_remark c p) (le-leb c last_remark q)

  pub between-remark : is_remark c ≡ true → (first_remark ≤ c) × (c ≤ last_remark)
  unfolding is_remark
  between-remark e = (leb-true first_remark c (and-fst (leb first_remark c) (leb c last_remark) e), leb-true c last_remark (and-snd (leb first_remark c) (leb c last_remark) e))

  pub below-remarks : c < first_remark → is_remark c ≡ false
  unfolding is_remark
  below-remarks h = ap (λ (a : Bool). a && leb c last_remark) (lt-leb first_remark c h)

  pub past-remarks : last_remark < c → is_remark c ≡ false
  unfolding is_remark
  past-remarks h = ap (λ (b : Bool). leb first_remark c && b) (lt-leb c last_remark h) ∙ and-false (leb first_remark c)

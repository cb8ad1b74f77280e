-- A test on some letter of a word, as the library has it. Assumes nothing.
use Rattle.std.specs.Prelude.{◌≡◌, refl, Bool, ◌||◌, List, [], ◌∷◌, ℕ, leb}
use Rattle.std.specs.List.{list_any}
use Rattle.std.proofs.Common.{ap}
use Rattle.spec_file.specs.Limits.{terminals}
use Rattle.call_judge.specs.Letters.{strays}

pub any-strays : (w : List ℕ) → list_any (λ c. leb terminals c) w ≡ strays w
any-strays [] = refl
any-strays (c ∷ w) = ap (λ (b : Bool). leb terminals c || b) (any-strays w)

-- A lent buffer that text is put into from a place on. Definitions only. Assumes nothing.
use Rattle.std.specs.Prelude.{Bool, true, false, List, [], ◌∷◌, ℕ, ◌+◌, ltb, length, set}

-- a page: the place where the next byte goes, and what the buffer holds
pub record Page : Type 0 where
  pub place : ℕ
  pub held : List ℕ

abbrev pub page : ℕ → List ℕ → Page
page n bs = record { place = n; held = bs }

abbrev pub put_by : Bool → ℕ → Page → Page
put_by true b p = page (p.place + 1) (set p.held p.place b)
put_by false b p = p

-- stores a byte at the place, if the buffer is that long, and moves to the next place
unfoldable pub put : ℕ → Page → Page
put b p = put_by (ltb p.place (length p.held)) b p

-- stores bytes, one after the other
unfoldable pub puts : List ℕ → Page → Page
puts [] p = p
puts (b ∷ bs) p = puts bs (put b p)

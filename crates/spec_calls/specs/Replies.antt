-- A call answers or refuses (document 01, "Numbers a call may refuse with"). Definitions only. Assumes nothing.
use Rattle.std.specs.Prelude.{List, [], ◌∷◌}
use Rattle.spec_file.specs.Refusals.{Refusal, by_number}

pub data Reply (A : Type 0) : Type 0 where
  refused : Refusal → Reply A
  answered : A → Reply A

module _ {A : Type 0} where
  -- the refusal, where it has a number, and else what comes after it
  abbrev pub unless : Refusal → Reply A → Reply A
  unless r a = by_number r.number (refused r) a

  -- the first of the refusals that has a number, and else the answer
  abbrev pub reply : List Refusal → A → Reply A
  reply [] a = answered a
  reply (r ∷ rs) a = unless r (reply rs a)

-- What the code's answer says, case by case, and what it promises. Definitions only. Assumes nothing.
use Rattle.std.specs.Prelude.{◌≡◌, List, ℕ, length, Ok, Err}
use Rattle.std.specs.declared.result.Result.{Result}
use Rattle.spec_file.specs.declared.Refusal.{Refusal}
use Rattle.spec_file.specs.Answers.{refusal_of}
use Rattle.spec_calls.specs.Replies.{Reply, refused, answered}
use Rattle.spec_calls.specs.Listing.{list_of, list_after, ListMeans}

-- the count of entries, or the refusal with its number and the record's number
abbrev pub listed_of : Result ℕ Refusal → Reply ℕ
listed_of (Ok n) = answered n
listed_of (Err r) = refused (refusal_of r)

-- the answer on the file bs and a buffer that holds old before and new afterwards
pub record Lists (bs old new : List ℕ) (r : Result ℕ Refusal) : Type 0 where
  pub answer : listed_of r ≡ list_of bs (length old)
  -- the entries, and then the old bytes; the old bytes whole on a refusal
  pub buffer : new ≡ list_after bs old
  -- the list has just the gaps and doubles of the sheet, and without any of them there is one path (document 000: a path)
  pub meaning : ListMeans bs old new (listed_of r)

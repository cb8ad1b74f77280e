-- What a read says, and how much of an input the check program hands over as the file. Definitions only. Assumes nothing.
use Rattle.std.specs.Prelude.{◌≡◌, cond, List, ℕ, ◌+◌, ◌*◌, ◌-◌, ◌%◌, ◌<◌, ◌≤◌, ◌++◌, ltb, length, take, min, Ok, Err, IfOk, IfSome}
use Rattle.std.specs.Io.KnownBytes.{Consumes, IsAtEnd}
use Rattle.std.specs.declared.option.Option.{Option}
use Rattle.std.specs.declared.result.Result.{Result}
use Rattle.spec_file.specs.Limits.{record_limit}

-- ---- a read

-- what a read into a buffer of n bytes says: it failed, or so many bytes have come, at most n; 0: the input has ended
abbrev pub held_by : {E : Type 0} → Result ℕ E → ℕ → Result ℕ E
held_by (Err e) room = Err e
held_by (Ok k) room = Ok (min k room)

-- what a read gave that had `room` for bytes, of an input that had `old` left where that is known: as many as it says, the first of those in
-- `room`; or none, as the input has none left; or an error. `new` is what it has left then
abbrev pub Came : {E : Type 0} → Option (List ℕ) → Option (List ℕ) → Result ℕ E → List ℕ → Type 0
Came old new r room = IfOk r (λ n. Consumes old new (take n room) × (n ≤ length room) × (n ≡ 0 → 0 < length room → IsAtEnd old))

-- ---- the file

-- the bytes of one record more than a file may have: number 2 refuses that many, unless 1 does
abbrev pub most : ℕ
most = 8 * (record_limit + 1)

-- how many bytes are handed over of an input of n bytes: all of them, or, above the most, as many as give the same remainder by 8
unfoldable pub held_of : ℕ → ℕ
held_of n = cond (ltb n most) n (most + (n - most) % 8)

-- what is handed over of the input: that many bytes, and the first of them are the input's own
pub record Handed (whole file : List ℕ) : Type 0 where
  pub count : length file ≡ held_of (length whole)
  pub front : take most file ≡ take most whole

-- no more than the buffer holds
abbrev pub FitsIn : {E : Type 0} → Result ℕ E → Type 0
FitsIn r = IfOk r (λ n. n ≤ most + 7)

-- up to the most the buffer's bytes are those before place `at`, as they were, and then `room`, where `at` is below the most; past it the buffer
-- is as it was
pub record Stored (at : ℕ) (room before after : List ℕ) : Type 0 where
  pub below : at < most → (length room ≡ most - at) × (take most after ≡ take at before ++ room)
  pub past : most ≤ at → after ≡ before

-- the same of a read at place `at`: there was room for a byte, in the buffer or past it
pub record CameAt {E : Type 0} (old new : Option (List ℕ)) (r : Result ℕ E) (at : ℕ) (before after : List ℕ) : Type 0 where
  pub room : List ℕ
  pub some : 0 < length room
  pub came : Came old new r room
  pub stored : Stored at room before after

-- of an input whose bytes are known: where it was read to its end, that much of the buffer's front is what is handed over of it
abbrev pub HandsOver : {E : Type 0} → Option (List ℕ) → Result ℕ E → List ℕ → Type 0
HandsOver known r buffer = IfOk r (λ n. IfSome known (λ whole. Handed whole (take n buffer)))

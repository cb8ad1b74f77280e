-- What moving over, moving back and unfolding answer, and what the lent output holds afterwards (document 02, C-17: "A move or unfolding
-- returns its result's length in bytes; a lent output shorter than that gives 10, last; bytes past the result keep their values").
-- Definitions only. Assumes nothing.
use Rattle.std.specs.Prelude.{cond, List, [], ◌∷◌, ℕ, ltb, length}
use Rattle.spec_file.specs.Forms.{sixteen}
use Rattle.spec_file.specs.Refusals.{Refusal, refuse, fault, fault_in}
use Rattle.spec_calls.specs.Replies.{Reply, reply}
use Rattle.spec_calls.specs.Writing.{written_by}
use Rattle.spec_records.specs.Blocks.{records_of}
use Rattle.spec_unfold.specs.Moving.{widened, narrowed, has_long}
use Rattle.spec_unfold.specs.Unfolding.{byte_rules, unfolded_file, too_many}

-- 10: the output has `room` bytes, fewer than the result
unfoldable pub output_fault : List ℕ → ℕ → ℕ
output_fault result room = cond (ltb room (length result)) 10 0

-- 17: "a move back with a body above two"
unfoldable pub long_fault : List ℕ → ℕ
long_fault bs = cond (has_long bs) 17 0

-- 18
unfoldable pub chain_fault : ℕ → List ℕ → ℕ
chain_fault least bs = cond (too_many least (byte_rules (records_of 16 bs))) 18 0

-- ---- what may refuse each call, in its order; bs: the file, room: bytes of the output

-- moving over: the file's refusal, then 10
abbrev pub widen_refusals : List ℕ → ℕ → List Refusal
widen_refusals bs room = fault bs ∷ refuse (output_fault (widened bs) room) 0 ∷ []

-- moving back: the file's refusal in the new form, then 17 and 10
abbrev pub narrow_refusals : List ℕ → ℕ → List Refusal
narrow_refusals bs room = fault_in sixteen bs ∷ refuse (long_fault bs) 0 ∷ refuse (output_fault (narrowed bs) room) 0 ∷ []

-- unfolding: the file's refusal in the new form, then 18 and 10. least: as in first_chain
abbrev pub unfold_refusals : ℕ → List ℕ → ℕ → List Refusal
unfold_refusals least bs room = fault_in sixteen bs ∷ refuse (chain_fault least bs) 0 ∷ refuse (output_fault (unfolded_file least bs) room) 0 ∷ []

-- ---- the first of them, and else the length of the result

unfoldable pub widen_of : List ℕ → ℕ → Reply ℕ
widen_of bs room = reply (widen_refusals bs room) (length (widened bs))

unfoldable pub narrow_of : List ℕ → ℕ → Reply ℕ
narrow_of bs room = reply (narrow_refusals bs room) (length (narrowed bs))

unfoldable pub unfold_of : ℕ → List ℕ → ℕ → Reply ℕ
unfold_of least bs room = reply (unfold_refusals least bs room) (length (unfolded_file least bs))

-- ---- the output, which held old before: the result and then the old bytes; on a refusal the old bytes

unfoldable pub widen_after : List ℕ → List ℕ → List ℕ
widen_after bs old = written_by (widened bs) old (widen_of bs (length old))

unfoldable pub narrow_after : List ℕ → List ℕ → List ℕ
narrow_after bs old = written_by (narrowed bs) old (narrow_of bs (length old))

unfoldable pub unfold_after : ℕ → List ℕ → List ℕ → List ℕ
unfold_after least bs old = written_by (unfolded_file least bs) old (unfold_of least bs (length old))

-- Each of the three calls answers exactly where none of its numbers refuses, and the output is then the result and the old bytes (document 02,
-- C-17). Assumes nothing.
use Rattle.std.specs.Prelude.{◌≡◌, ℕ, ◌≤◌, ltb, drop}
use Rattle.std.proofs.Math.Path.{ap}
use Rattle.std.proofs.Math.Bool.{false}
use mathlib.Core.List.{List, ◌++◌}
use Rattle.std.proofs.Common.{arith, length-append, length-drop, le-ltb, ltb-false}
use Rattle.std.proofs.Math.ListN.{length}
use Rattle.spec_file.specs.Forms.{sixteen}
use Rattle.spec_file.specs.Refusals.{fault, fault_in}
use Rattle.spec_file.proofs.RefusalLaws.{not-held}
use Rattle.spec_calls.specs.Replies.{Reply, answered}
use Rattle.spec_calls.proofs.ReplyLaws.{reply-answers, reply-none}
use Rattle.spec_calls.specs.Writing.{written_by}
use Rattle.spec_records.specs.Blocks.{records_of}
use Rattle.spec_unfold.specs.Moving.{widened, narrowed, has_long}
use Rattle.spec_unfold.specs.Unfolding.{byte_rules, unfolded_file, too_many}
use Rattle.spec_unfold.specs.Calls.{output_fault, long_fault, chain_fault, widen_refusals, narrow_refusals, unfold_refusals, widen_of, narrow_of, unfold_of, widen_after, narrow_after, unfold_after}

-- ---- the numbers 10, 17 and 18

room-none : (result : List ℕ) (room : ℕ) → length result ≤ room → output_fault result room ≡ 0
unfolding output_fault
room-none result room h = rw (le-ltb room (length result) h)

none-room : (result : List ℕ) (room : ℕ) → output_fault result room ≡ 0 → length result ≤ room
unfolding output_fault
none-room result room e = ltb-false room (length result) (not-held (ltb room (length result)) 9 e)

long-none : (bs : List ℕ) → has_long bs ≡ false → long_fault bs ≡ 0
unfolding long_fault
long-none bs h = rw h

none-long : (bs : List ℕ) → long_fault bs ≡ 0 → has_long bs ≡ false
unfolding long_fault
none-long bs e = not-held (has_long bs) 16 e

chain-none : (least : ℕ) (bs : List ℕ) → too_many least (byte_rules (records_of 16 bs)) ≡ false → chain_fault least bs ≡ 0
unfolding chain_fault
chain-none least bs h = rw h

none-chain : (least : ℕ) (bs : List ℕ) → chain_fault least bs ≡ 0 → too_many least (byte_rules (records_of 16 bs)) ≡ false
unfolding chain_fault
none-chain least bs e = not-held (too_many least (byte_rules (records_of 16 bs))) 17 e

-- ---- a call that answers; out: what the output held before

-- the reply is the length of the result, and the output begins with it
abbrev pub Gives : List ℕ → List ℕ → Reply ℕ → List ℕ → Type 0
Gives result out answer after = (answer ≡ answered (length result)) × (after ≡ result ++ drop (length result) out)

pub widen-gives : (bs out : List ℕ) → (fault bs).number ≡ 0 → length (widened bs) ≤ length out → Gives (widened bs) out (widen_of bs (length out)) (widen_after bs out)
unfolding widen_of widen_after
widen-gives bs out v h =
    let e = reply-none (widen_refusals bs (length out)) (length (widened bs)) (v, (room-none (widened bs) (length out) h, tt)) in
    (e, ap (written_by (widened bs) out) e)

pub narrow_gives : (bs out : List ℕ) → (fault_in sixteen bs).number ≡ 0 → has_long bs ≡ false → length (narrowed bs) ≤ length out → Gives (narrowed bs) out (narrow_of bs (length out)) (narrow_after bs out)
unfolding narrow_of narrow_after
narrow_gives bs out v s h =
    let e = reply-none (narrow_refusals bs (length out)) (length (narrowed bs)) (v, (long-none bs s, (room-none (narrowed bs) (length out) h, tt))) in
    (e, ap (written_by (narrowed bs) out) e)

pub unfold-gives : (least : ℕ) (bs out : List ℕ) → (fault_in sixteen bs).number ≡ 0 → too_many least (byte_rules (records_of 16 bs)) ≡ false → length (unfolded_file least bs) ≤ length out
    → Gives (unfolded_file least bs) out (unfold_of least bs (length out)) (unfold_after least bs out)
unfolding unfold_of unfold_after
unfold-gives least bs out v f h =
    let e = reply-none (unfold_refusals least bs (length out)) (length (unfolded_file least bs)) (v, (chain-none least bs f, (room-none (unfolded_file least bs) (length out) h, tt))) in
    (e, ap (written_by (unfolded_file least bs) out) e)

-- the output is as long as it was
pub after-length : (result out : List ℕ) (n : ℕ) → length result ≤ length out → length result ≡ n → length (result ++ drop n out) ≡ length out
after-length result out n h e = let a = length-append result (drop n out) in let b = length-drop n out in omega arith

-- ---- what an answer n shows of the call

pub widen-answers : (bs : List ℕ) (room n : ℕ) → widen_of bs room ≡ answered n → ((fault bs).number ≡ 0) × (length (widened bs) ≤ room) × (length (widened bs) ≡ n)
unfolding widen_of
widen-answers bs room n e =
    let p = reply-answers (widen_refusals bs room) (length (widened bs)) n e in
    (p.0.0, none-room (widened bs) room p.0.1.0, p.1)

pub narrow-answers : (bs : List ℕ) (room n : ℕ) → narrow_of bs room ≡ answered n
    → ((fault_in sixteen bs).number ≡ 0) × (has_long bs ≡ false) × (length (narrowed bs) ≤ room) × (length (narrowed bs) ≡ n)
unfolding narrow_of
narrow-answers bs room n e =
    let p = reply-answers (narrow_refusals bs room) (length (narrowed bs)) n e in
    (p.0.0, none-long bs p.0.1.0, none-room (narrowed bs) room p.0.1.1.0, p.1)

pub unfold-answers : (least : ℕ) (bs : List ℕ) (room n : ℕ) → unfold_of least bs room ≡ answered n
    → ((fault_in sixteen bs).number ≡ 0) × (too_many least (byte_rules (records_of 16 bs)) ≡ false) × (length (unfolded_file least bs) ≤ room) × (length (unfolded_file least bs) ≡ n)
unfolding unfold_of
unfold-answers least bs room n e =
    let p = reply-answers (unfold_refusals least bs room) (length (unfolded_file least bs)) n e in
    (p.0.0, none-chain least bs p.0.1.0, none-room (unfolded_file least bs) room p.0.1.1.0, p.1)

-- What a file and a buffer that are not refused have, and the answers of the call. Assumes nothing.
use Rattle.std.specs.Prelude.{◌≡◌, refl, List, ℕ, ◌≤◌, ltb, length, Err}
use Rattle.std.proofs.Math.Path.{sym}
use Rattle.std.proofs.Common.{ap, ◌∙◌, subst, ltb-false}
use Rattle.std.specs.declared.result.Result.{Result}
use Rattle.spec_file.specs.declared.Refusal.{Refusal as RefusalAnswer}
use Rattle.spec_file.specs.Answers.{refusal_of}
use Rattle.spec_file.specs.Refusals.{Refusal, fault, first_of}
use Rattle.spec_file.proofs.RefusalLaws.{number-some, number-none, not-held, none-refuses, fault-some}
use Rattle.spec_calls.specs.Replies.{refused, answered}
use Rattle.spec_calls.proofs.ReplyLaws.{reply-first}
use Rattle.spec_calls.specs.Listing.{gaps_of, list_bytes, list_fault, list_refusals, list_of, listed_by, list_after, ListMeans}
use Rattle.spec_calls.proofs.ListingTruth.{list-means}
use Rattle.call_gaps.specs.Answers.{listed_of, Lists}

room-enough : (room : ℕ) → list_fault room ≡ 0 → list_bytes ≤ room
unfolding list_fault
room-enough room e = ltb-false room list_bytes (not-held (ltb room list_bytes) 14 e)

module _ (bs : List ℕ) (room : ℕ) where
  -- the first refusal of the call
  abbrev pub refusal : Refusal
  refusal = first_of (list_refusals bs room)

  pub passed : refusal.number ≡ 0 → ((fault bs).number ≡ 0) × (list_bytes ≤ room)
  passed z = let n = none-refuses (list_refusals bs room) z in (n.0, room-enough room n.1.0)

  pub refused-by : (refusal.number ≡ 0 → ⊥) → refused refusal ≡ list_of bs room
  unfolding list_of
  refused-by n = sym (reply-first (list_refusals bs room) (length (gaps_of bs)) ∙ number-some (refused refusal) (answered (length (gaps_of bs))) refusal.number n)

  pub answered-by : refusal.number ≡ 0 → answered (length (gaps_of bs)) ≡ list_of bs room
  unfolding list_of
  answered-by z = sym (reply-first (list_refusals bs room) (length (gaps_of bs)) ∙ number-none (refused refusal) (answered (length (gaps_of bs))) refusal.number z)

-- an answer that is the reply settles the buffer, and what both mean
pub lists : (bs old new : List ℕ) (r : Result ℕ RefusalAnswer) → listed_of r ≡ list_of bs (length old) → new ≡ listed_by (gaps_of bs) old (listed_of r) → Lists bs old new r
unfolding list_after
lists bs old new r e q =
    let b : new ≡ list_after bs old = q ∙ ap (listed_by (gaps_of bs) old) e in
    record {
      answer = e;
      buffer = b;
      meaning = subst (ListMeans bs old new) (sym e) (subst (λ (x : List ℕ). ListMeans bs old x (list_of bs (length old))) (sym b) (list-means bs old));
    }

-- a refusal that the code found
pub lists-refused : (bs old : List ℕ) (x : RefusalAnswer) → refusal_of x ≡ refusal bs (length old) → Lists bs old old (Err x)
lists-refused bs old x e =
    lists bs old old (Err x) (ap refused e ∙ refused-by bs (length old) (λ z. fault-some x.fault (ap (λ (y : Refusal). y.number) e ∙ z))) refl

-- A call that answers with the length of its result or with the first of its refusals, whatever these are. Assumes nothing.
use Rattle.std.specs.Prelude.{◌≡◌, List, ◌++◌, ℕ, length, drop}
use Rattle.std.proofs.Common.{sym, ap, ◌∙◌}
use Rattle.spec_file.specs.declared.Refusal.{Refusal as RefusalAnswer}
use Rattle.spec_file.specs.Answers.{refusal_of}
use Rattle.spec_file.specs.Refusals.{Refusal, first_of}
use Rattle.spec_file.proofs.RefusalLaws.{number-some, number-none, fault-some}
use Rattle.spec_calls.specs.Replies.{Reply, refused, answered, reply}
use Rattle.spec_calls.proofs.ReplyLaws.{reply-first}
use Rattle.spec_calls.specs.Writing.{written_by}
use Rattle.call_move.specs.Fronts.{over}

module _ (rs : List Refusal) (result old : List ℕ) where
  -- the reply x is the call's, and the output then holds new
  pub record Replied (x : Reply ℕ) (new : List ℕ) : Type 0 where
    pub answer : x ≡ reply rs (length result)
    pub output : new ≡ written_by result old (reply rs (length result))

  -- a refusal that the code found
  pub replied-refused : (x : RefusalAnswer) → refusal_of x ≡ first_of rs → Replied (refused (refusal_of x)) old
  replied-refused x e =
      let first = first_of rs in
      let a : refused (refusal_of x) ≡ reply rs (length result) =
      ap refused e ∙ sym (reply-first rs (length result) ∙ number-some (refused first) (answered (length result)) first.number (λ z. fault-some x.fault (ap (λ (r : Refusal). r.number) e ∙ z))) in
      record { answer = a; output = ap (written_by result old) a }

  -- a result that the code wrote
  pub replied-done : (n : ℕ) (new : List ℕ) → (first_of rs).number ≡ 0 → n ≡ length result → new ≡ over result old → Replied (answered n) new
  replied-done n new z e q =
      let first = first_of rs in
      let a : answered n ≡ reply rs (length result) =
      ap answered e ∙ sym (reply-first rs (length result) ∙ number-none (refused first) (answered (length result)) first.number z) in
      record { answer = a; output = q ∙ ap (λ (k : ℕ). result ++ drop k old) (sym e) ∙ ap (written_by result old) a }

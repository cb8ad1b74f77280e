-- What a file and an output that are not refused have, by the counts of the code; and the replies. Assumes nothing.
use Rattle.std.specs.Prelude.{◌≡◌, Bool, false, cond, List, [], ◌∷◌, ℕ, ◌+◌, ◌*◌, ◌/◌, ◌≤◌, ltb, length}
use Rattle.std.proofs.Math.Path.{sym, ap₂}
use Rattle.std.proofs.Common.{ap, ◌∙◌, subst, arith}
use borrow.Author.Tests.{ltb-false}
use Rattle.spec_basics.specs.Tests.{or-neither}
use Rattle.std.specs.declared.result.Result.{Result}
use Rattle.spec_file.specs.declared.Refusal.{Refusal}
use Rattle.spec_file.specs.Forms.{sixteen}
use Rattle.spec_file.specs.Limits.{rule_limit, nonterminals}
use Rattle.spec_file.specs.Refusals.{refuse, fault_in, first_of}
use Rattle.spec_file.proofs.RefusalLaws.{number-some, number-none, none-refuses}
use Rattle.spec_calls.specs.Replies.{answered}
use Rattle.spec_calls.proofs.ReplyLaws.{reply-none}
use Rattle.spec_records.specs.Agreement.{sixteen-fits}
use Rattle.spec_records.specs.Blocks.{records_of}
use Rattle.spec_records.specs.FormLaws.{sound}
use Rattle.spec_unfold.specs.Chains.{chains_in}
use Rattle.spec_unfold.specs.Unfolding.{first_chain, unfolded_file, too_many}
use Rattle.spec_unfold.proofs.Needing.{first-low}
use Rattle.spec_unfold.specs.Calls.{output_fault, chain_fault, unfold_refusals, unfold_of, unfold_after}
use Rattle.spec_unfold.proofs.CallLaws.{unfold-answers}
use Rattle.spec_unfold.specs.UnfoldingMeans.{UnfoldMeans}
use Rattle.spec_unfold.proofs.UnfoldingTruth.{unfold-means}
use Rattle.call_move.specs.Answers.{moved_of}
use Rattle.call_move.specs.ReplyLaws.{Replied}
use Rattle.unfold_count.specs.declared.Needed.{Needed}
use Rattle.unfold_count.specs.Counting.{none_yet, with_records}
use Rattle.unfold_count.specs.CountingLaws.{records-counted}
use Rattle.call_unfold.specs.Answers.{Unfolds}
use Rattle.call_unfold.specs.Results.{rules_in, unfolded_bytes, Fits, Bounded, needs_more, needed_bytes, needed_refusals}
use Rattle.call_unfold.specs.LengthLaws.{unfolded-length}
use Rattle.call_unfold.specs.ResultLaws.{rules-few, result-bytes}

-- ---- the counts of the file bs, which the code found to be t

module _ (least : ℕ) (bs : List ℕ) (t : Needed) (e : t ≡ with_records (none_yet least) (records_of 16 bs)) where
  counts : t ≡ record { first = first_chain least (rules_in bs); chains = 0 + chains_in (rules_in bs); rules = 0 + length (rules_in bs) }
  counts = e ∙ records-counted (none_yet least) (records_of 16 bs)

  first-is : t.first ≡ first_chain least (rules_in bs)
  first-is = ap (λ (x : Needed). x.first) counts

  chains-are : t.chains ≡ chains_in (rules_in bs)
  chains-are = ap (λ (x : Needed). x.chains) counts ∙ (let z : 0 + chains_in (rules_in bs) ≡ chains_in (rules_in bs) = omega arith in z)

  rules-are : t.rules ≡ length (rules_in bs)
  rules-are = ap (λ (x : Needed). x.rules) counts ∙ (let z : 0 + length (rules_in bs) ≡ length (rules_in bs) = omega arith in z)

  many_is : needs_more t ≡ too_many least (rules_in bs)
  unfolding too_many
  many_is = rw (first-is, chains-are, rules-are)

  pub bytes-are : needed_bytes t (length bs / 16) ≡ length (unfolded_file least bs)
  bytes-are = ap (λ (n : ℕ). (length bs / 16 + n) * 8) chains-are ∙ sym (unfolded-length least bs)

  module _ (v : (fault_in sixteen bs).number ≡ 0) where
    pub counts-bounded : least ≤ nonterminals → t.chains ≤ length bs / 16 * 11 → t.rules ≤ length bs / 16 → Bounded t (length bs / 16)
    counts-bounded l c r =
        let few = (sound sixteen sixteen-fits bs v).few in
        record { low = let z = first-low least bs l v in omega (arith, first-is); few-chains = omega arith; few-rules = omega arith; few-records = few }

    -- 18 and 10 by the counts are the call's refusals, since the file has none
    pub refusals-are : (room : ℕ) → first_of (needed_refusals t (length bs / 16) room) ≡ first_of (unfold_refusals least bs room)
    unfolding chain_fault output_fault
    refusals-are room =
        ap₂ (λ (b : Bool) (n : ℕ). first_of (refuse (cond b 18 0) 0 ∷ refuse (cond (ltb room n) 10 0) 0 ∷ [])) many_is bytes-are
        ∙ sym (number-none (fault_in sixteen bs) (first_of (refuse (chain_fault least bs) 0 ∷ refuse (output_fault (unfolded_file least bs) room) 0 ∷ [])) (fault_in sixteen bs).number v)

-- ---- where nothing refuses the call

module _ (least : ℕ) (bs : List ℕ) (room : ℕ) (none : (first_of (unfold_refusals least bs room)).number ≡ 0) where
  done : unfold_of least bs room ≡ answered (length (unfolded_file least bs))
  unfolding unfold_of
  done = reply-none (unfold_refusals least bs room) (length (unfolded_file least bs)) (none-refuses (unfold_refusals least bs room) none)

  not-many : too_many least (rules_in bs) ≡ false
  not-many = (unfold-answers least bs room (length (unfolded_file least bs)) done).1

  within : (first_chain least (rules_in bs) + chains_in (rules_in bs) ≤ nonterminals) × (length (rules_in bs) + chains_in (rules_in bs) ≤ rule_limit)
  unfolding too_many
  within =
      let p = or-neither (ltb nonterminals (first_chain least (rules_in bs) + chains_in (rules_in bs))) (ltb rule_limit (length (rules_in bs) + chains_in (rules_in bs))) not-many in
      (ltb-false nonterminals (first_chain least (rules_in bs) + chains_in (rules_in bs)) p.0, ltb-false rule_limit (length (rules_in bs) + chains_in (rules_in bs)) p.1)

  module _ (t : Needed) (e : t ≡ with_records (none_yet least) (records_of 16 bs)) where
    pub result_fits : Fits bs t.first t.rules room
    result_fits =
        let a = unfold-answers least bs room (length (unfolded_file least bs)) done in record {
          chains = let r = within.0 in omega (arith, first-is least bs t e);
          few = within.1;
          counted = rules-are least bs t e;
          inside = let r = rules-few bs in omega (arith, rules-are least bs t e);
          room-enough = omega (arith, a.2, unfolded-length least bs);
        }

    pub result-is : unfolded_bytes bs t.first t.rules ≡ unfolded_file least bs
    unfolding unfolded_bytes
    result-is = rw (first-is least bs t e, rules-are least bs t e) (result-bytes least bs (unfold-answers least bs room (length (unfolded_file least bs)) done).0 not-many)

-- ---- the replies

-- where the file is refused, the call is
pub file-refuses : (least : ℕ) (bs : List ℕ) (room : ℕ) → ((fault_in sixteen bs).number ≡ 0 → ⊥) → fault_in sixteen bs ≡ first_of (unfold_refusals least bs room)
file-refuses least bs room n =
    sym (number-some (fault_in sixteen bs) (first_of (refuse (chain_fault least bs) 0 ∷ refuse (output_fault (unfolded_file least bs) room) 0 ∷ [])) (fault_in sixteen bs).number n)

pub unfolds : (least : ℕ) (bs old new : List ℕ) (r : Result ℕ Refusal) → Replied (unfold_refusals least bs (length old)) (unfolded_file least bs) old (moved_of r) new → Unfolds least bs old new r
unfolding unfold_of unfold_after
unfolds least bs old new r p =
    let a : moved_of r ≡ unfold_of least bs (length old) = p.answer in
    let b : new ≡ unfold_after least bs old = p.output in
    record {
      answer = a;
      output = b;
      meaning = subst (UnfoldMeans least bs old new) (sym a) (subst (λ (x : List ℕ). UnfoldMeans least bs old x (unfold_of least bs (length old))) (sym b) (unfold-means least bs old));
    }

-- the same call, with the least number under another name
pub unfolds-at : {m n : ℕ} {bs old new : List ℕ} {r : Result ℕ Refusal} → m ≡ n → Unfolds m bs old new r → Unfolds n bs old new r
unfolds-at {m} {n} {bs} {old} {new} {r} e h = subst (λ (k : ℕ). Unfolds k bs old new r) e h

-- What a host may conclude from recognizing a run (RecognizeTells), by its contract alone. Assumes nothing.
use Rattle.std.specs.Prelude.{◌≡◌, ◌↔◌, true, false, List, ℕ, zero, suc, ◌≤◌, ◌<◌, length, get_or}
use Rattle.std.proofs.Math.Path.{refl}
use Rattle.std.proofs.Common.{sym, ap, ◌∙◌, subst, suc-ne-zero, arith}
use Rattle.std.proofs.Math.Bool.{Bool}
use Rattle.std.proofs.lemmas.Bool.{false≢true}
use Rattle.relation.specs.Digits.{bit}
use Rattle.spec_language.specs.Grammar.{initial}
use Rattle.spec_file.specs.Refusals.{Refusal, first_of}
use Rattle.spec_file.proofs.RefusalLaws.{number-none}
use Rattle.spec_calls.specs.Replies.{refused, answered}
use Rattle.spec_calls.proofs.ReplyLaws.{reply-first}
use Rattle.spec_calls.specs.Codes.{first_answer_code, code_by}
use Rattle.spec_calls.specs.DemandThree.{Derivable}
use Rattle.spec_calls.specs.Recognizing.{cell, recognize_refusals, recognize_of, RecognizeMeans}
use Rattle.call_member.specs.RecognizeLaws.{refused-by}
use Rattle.host_result.specs.LowNumbers.{low-high, LowIn, recognize-low}
use Rattle.bolfrega.specs.Codes.{derived_code, not_derived_code, derivation_code, place_in}
use Rattle.bolfrega.specs.Clauses.{Recognizes}
use Rattle.bolfrega.specs.Hosts.{RecognizeTells}

module _ (bs w before after : List ℕ) (r i : ℕ) (h : Recognizes bs w before after r i) where
  abbrev first : Refusal
  first = first_of (recognize_refusals bs w (length before))

  tells-refused : (first.number ≡ 0 → ⊥) → RecognizeTells bs w before after r i
  tells-refused n =
      let e = sym (refused-by bs w (length before) after n) in
      let number_is : r ≡ first.number = h.code ∙ ap (code_by derivation_code) e in
      let low : r < first_answer_code = subst (λ (k : ℕ). k < first_answer_code) (sym number_is) (subst LowIn e (recognize-low bs w (length before) after)) in
      record {
        refused-exactly = (λ l. n, λ m. low);
        refused-first = λ l. (number_is, h.place ∙ ap place_in e);
        table_kept = λ l. subst (RecognizeMeans bs w before after) e h.meaning;
        derived-exactly = λ t. absurd (low-high low t);
        not-derived-exactly = λ t. absurd (low-high low t);
        table-shows = λ t. absurd (low-high low t);
      }

  tells-answered : first.number ≡ 0 → (b : Bool) → recognize_of bs w (length before) after ≡ answered b → RecognizeTells bs w before after r i
  tells-answered z b e = record {
    refused-exactly = (λ l. absurd (low-high l high), λ n. absurd (n z));
    refused-first = λ l. absurd (low-high l high);
    table_kept = λ l. absurd (low-high l high);
    derived-exactly = λ t. yes b number_is means.0;
    not-derived-exactly = λ t. no b number_is means.0;
    table-shows = λ t. means.1;
  }
    where
      number_is : r ≡ derivation_code b
      number_is = h.code ∙ ap (code_by derivation_code) e

      means : RecognizeMeans bs w before after (answered b)
      means = subst (RecognizeMeans bs w before after) e h.meaning

      above : (c : Bool) → first_answer_code ≤ derivation_code c
      above true = omega arith
      above false = omega arith

      high : first_answer_code ≤ r
      high = omega (arith, number_is, above b)

      yes : (c : Bool) → r ≡ derivation_code c → ((c ≡ true) ↔ Derivable bs w) → (r ≡ derived_code) ↔ Derivable bs w
      yes true q m = (λ k. m.0 refl, λ d. q)
      yes false q m = (λ k. absurd (let y : ⊥ = omega (arith, q, k) in y), λ d. absurd (false≢true (m.1 d)))

      no : (c : Bool) → r ≡ derivation_code c → ((c ≡ true) ↔ Derivable bs w) → (r ≡ not_derived_code) ↔ (Derivable bs w → ⊥)
      no true q m = (λ k. absurd (let y : ⊥ = omega (arith, q, k) in y), λ n. absurd (n (m.0 refl)))
      no false q m = (λ k d. false≢true (m.1 d), λ n. q)

  -- every call that met its contract
  pub recognize-tells : RecognizeTells bs w before after r i
  unfolding recognize_of
  recognize-tells = by first.number refl
    where
      last : Bool
      last = bit (get_or after (cell 0 (length w)) 0) initial

      by : (k : ℕ) → first.number ≡ k → RecognizeTells bs w before after r i
      by zero z =
          tells-answered z (bit (get_or after (cell 0 (length w)) 0) initial)
          (reply-first (recognize_refusals bs w (length before)) last ∙ number-none (refused first) (answered last) first.number z)
      by (suc k) z = tells-refused (λ n. suc-ne-zero k (sym z ∙ n))

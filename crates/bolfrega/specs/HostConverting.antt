-- What a host may conclude from moving a file over or back, or from unfolding it (WidenTells, NarrowTells, UnfoldTells), by the call's contract
-- alone. Assumes nothing.
use Rattle.std.specs.Prelude.{◌≡◌, refl, true, List, ℕ, zero, suc, ◌≤◌, ◌<◌, length}
use Rattle.std.proofs.Common.{sym, ap, ◌∙◌, subst, suc-ne-zero, arith}
use Rattle.spec_file.specs.Refusals.{Refusal, first_of}
use Rattle.spec_file.proofs.RefusalLaws.{number-some, number-none}
use Rattle.spec_calls.specs.Replies.{Reply, refused, answered, reply}
use Rattle.spec_calls.proofs.ReplyLaws.{reply-first}
use Rattle.spec_calls.specs.Codes.{first_answer_code, code_by}
use Rattle.relation.specs.Digits.{bit}
use Rattle.spec_unfold.proofs.StartLaws.{member_below}
use Rattle.spec_unfold.specs.Moving.{widened, narrowed}
use Rattle.spec_unfold.specs.Unfolding.{least_for, unfolded_file}
use Rattle.spec_unfold.specs.Calls.{widen_refusals, narrow_refusals, unfold_refusals, widen_of, narrow_of, unfold_of, widen_after, narrow_after, unfold_after}
use Rattle.spec_unfold.specs.MovingMeans.{WidenShows, NarrowShows, WidenMeans, NarrowMeans}
use Rattle.spec_unfold.specs.UnfoldingMeans.{UnfoldShows, UnfoldMeans}
use Rattle.host_result.specs.LowNumbers.{low-high, LowIn, widen_low, narrow-low, unfold-low}
use Rattle.bolfrega.specs.Codes.{converted_code, conversion_code, size_in, place_in}
use Rattle.bolfrega.specs.Clauses.{Converts, WidensFile, NarrowsFile, UnfoldsFile}
use Rattle.bolfrega.specs.Hosts.{ConvertTells, WidenTells, NarrowTells, UnfoldFor, UnfoldTells}

-- a call that any of `refusals` refuses and that answers `size`; a refused one leaves the output, and an answer n shows `shows n`
module _ (refusals : List Refusal) (size : ℕ) (after : List ℕ) (means : List ℕ → Reply ℕ → Type 0) (shows : ℕ → Type 0) (old new : List ℕ) (r i n : ℕ)
    (kept : (x : Refusal) → means new (refused x) → new ≡ old) (shown : (k : ℕ) → means new (answered k) → shows k)
    (low : LowIn (reply refusals size)) (h : Converts (reply refusals size) after means new r i n) where
  abbrev first : Refusal
  first = first_of refusals

  tells-refused : (first.number ≡ 0 → ⊥) → ConvertTells refusals shows old new r i n
  tells-refused k =
      let e : reply refusals size ≡ refused first = reply-first refusals size ∙ number-some (refused first) (answered size) first.number k in
      let number_is : r ≡ first.number = h.told.code ∙ ap (code_by conversion_code) e in
      let below : r < first_answer_code = subst (λ (x : ℕ). x < first_answer_code) (sym number_is) (subst LowIn e low) in
      record {
        refused-exactly = (λ l. k, λ m. below);
        refused-first = λ l. (number_is, h.told.place ∙ ap place_in e);
        no_length = λ l. h.told.size ∙ ap size_in e;
        output-kept = λ l. kept first (subst (means new) e h.meaning);
        converted-number = λ t. absurd (low-high below t);
        result-shows = λ t. absurd (low-high below t);
      }

  tells-answered : first.number ≡ 0 → ConvertTells refusals shows old new r i n
  tells-answered z = record {
    refused-exactly = (λ l. absurd (low-high l high), λ k. absurd (k z));
    refused-first = λ l. absurd (low-high l high);
    no_length = λ l. absurd (low-high l high);
    output-kept = λ l. absurd (low-high l high);
    converted-number = λ t. number_is;
    result-shows = λ t. subst shows (sym (h.told.size ∙ ap size_in e)) (shown size (subst (means new) e h.meaning));
  }
    where
      e : reply refusals size ≡ answered size
      e = reply-first refusals size ∙ number-none (refused first) (answered size) first.number z

      number_is : r ≡ converted_code
      number_is = h.told.code ∙ ap (code_by conversion_code) e

      high : first_answer_code ≤ r
      high = omega (arith, number_is)

  convert-tells : ConvertTells refusals shows old new r i n
  convert-tells = by first.number refl
    where
      by : (k : ℕ) → first.number ≡ k → ConvertTells refusals shows old new r i n
      by zero z = tells-answered z
      by (suc k) z = tells-refused (λ m. suc-ne-zero k (sym z ∙ m))

-- ---- every call that met its contract

module _ (bs old new : List ℕ) (r i n : ℕ) where
  pub widen-tells : WidensFile bs old new r i n → WidenTells bs old new r i n
  unfolding widen_of
  widen-tells h =
      convert-tells (widen_refusals bs (length old)) (length (widened bs)) (widen_after bs old) (WidenMeans bs old) (WidenShows bs old new) old new r i n (λ x m. m) (λ k m. m) (widen_low bs (length old)) h

  pub narrow-tells : NarrowsFile bs old new r i n → NarrowTells bs old new r i n
  unfolding narrow_of
  narrow-tells h =
      convert-tells (narrow_refusals bs (length old)) (length (narrowed bs)) (narrow_after bs old) (NarrowMeans bs old) (NarrowShows bs old new) old new r i n (λ x m. m) (λ k m. m) (narrow-low bs (length old)) h

  -- a member is no chain procedure
  unfold-for : (set k : ℕ) → UnfoldShows (least_for set) bs old new k → UnfoldFor set bs old new k
  unfold-for set k s =
      record {
        shows = s;
        verdict = λ g e. s.verdict g
            (λ p m. s.no-chain-below p (member_below set p m.0 (subst (λ (x : ℕ). bit x p ≡ true) e m.1)));
      }

  pub unfold-tells : (set : ℕ) → UnfoldsFile set bs old new r i n → UnfoldTells set bs old new r i n
  unfolding unfold_of
  unfold-tells set h =
      let m = least_for set in
      convert-tells (unfold_refusals m bs (length old)) (length (unfolded_file m bs)) (unfold_after m bs old) (UnfoldMeans m bs old) (UnfoldFor set bs old new) old new r i n (λ x m. m) (unfold-for set) (unfold-low m bs (length old)) h

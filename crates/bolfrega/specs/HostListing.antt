-- What a host may conclude from listing a sheet's gaps and doubles (ListTells), by its contract alone. Assumes nothing.
use Rattle.std.specs.Prelude.{◌≡◌, refl, List, ℕ, zero, suc, ◌≤◌, ◌<◌, length}
use Rattle.std.proofs.Common.{sym, ap, ◌∙◌, subst, suc-ne-zero, arith}
use Rattle.spec_file.specs.Refusals.{Refusal, first_of}
use Rattle.spec_calls.specs.Replies.{answered}
use Rattle.spec_calls.specs.Codes.{first_answer_code, code_by}
use Rattle.spec_calls.specs.Listing.{gaps_of, list_refusals, list_of, ListShows, ListMeans}
use Rattle.call_gaps.specs.ListLaws.{refused-by, answered-by}
use Rattle.host_result.specs.LowNumbers.{low-high, LowIn, list-low}
use Rattle.bolfrega.specs.Codes.{listed_code, listing_code, size_in, place_in}
use Rattle.bolfrega.specs.Clauses.{ListsGaps}
use Rattle.bolfrega.specs.Hosts.{ListTells}

module _ (bs old new : List ℕ) (r i n : ℕ) (h : ListsGaps bs old new r i n) where
  abbrev first : Refusal
  first = first_of (list_refusals bs (length old))

  tells-refused : (first.number ≡ 0 → ⊥) → ListTells bs old new r i n
  tells-refused k =
      let e = sym (refused-by bs (length old) k) in
      let number_is : r ≡ first.number = h.code ∙ ap (code_by listing_code) e in
      let low : r < first_answer_code = subst (λ (x : ℕ). x < first_answer_code) (sym number_is) (subst LowIn e (list-low bs (length old))) in
      record {
        refused-exactly = (λ l. k, λ m. low);
        refused-first = λ l. (number_is, h.place ∙ ap place_in e);
        none-counted = λ l. h.entries ∙ ap size_in e;
        buffer-kept = λ l. subst (ListMeans bs old new) e h.meaning;
        listed-number = λ t. absurd (low-high low t);
        list-shows = λ t. absurd (low-high low t);
      }

  tells-answered : first.number ≡ 0 → ListTells bs old new r i n
  tells-answered z = record {
    refused-exactly = (λ l. absurd (low-high l high), λ k. absurd (k z));
    refused-first = λ l. absurd (low-high l high);
    none-counted = λ l. absurd (low-high l high);
    buffer-kept = λ l. absurd (low-high l high);
    listed-number = λ t. number_is;
    list-shows = λ t. subst (ListShows bs old new) (sym (h.entries ∙ ap size_in e)) (subst (ListMeans bs old new) e h.meaning);
  }
    where
      e : list_of bs (length old) ≡ answered (length (gaps_of bs))
      e = sym (answered-by bs (length old) z)

      number_is : r ≡ listed_code
      number_is = h.code ∙ ap (code_by listing_code) e

      high : first_answer_code ≤ r
      high = omega (arith, number_is)

  -- every call that met its contract
  pub list_tells : ListTells bs old new r i n
  list_tells = by first.number refl
    where
      by : (k : ℕ) → first.number ≡ k → ListTells bs old new r i n
      by zero z = tells-answered z
      by (suc k) z = tells-refused (λ m. suc-ne-zero k (sym z ∙ m))

-- The reply of listing, and the buffer after it, mean what document 02 says. Assumes nothing.
use Rattle.std.specs.Prelude.{◌≡◌, List, [], ◌∷◌, ℕ, ◌*◌}
use Rattle.std.proofs.Math.Path.{refl, sym, ap}
use Rattle.std.proofs.Common.{◌∙◌, arith}
use Rattle.std.proofs.Math.ListN.{length, drop}
use Rattle.std.proofs.Math.Seq.{take_at, drop_at}
use Rattle.spec_basics.specs.Elements.{concat_map}
use Rattle.spec_file.specs.Refusals.{fault}
use Rattle.spec_calls.specs.Replies.{Reply, refused, answered}
use Rattle.spec_calls.proofs.ReplyLaws.{reply-answers}
use Rattle.spec_calls.specs.Gaps.{ListEntry}
use Rattle.spec_calls.specs.Listing.{gaps_of, bytes_of, list_refusals, list_of, over, listed_by, list_after, ListShows, ListMeans}
use Rattle.spec_calls.proofs.GapLists.{bytes-length, listed, listed-ordered}
use Rattle.spec_calls.proofs.OnePath.{one-path}

no-entries : (es : List ListEntry) → length es ≡ 0 → es ≡ []
no-entries [] e = refl
no-entries (x ∷ es) e = absurd (let z : ⊥ = omega arith in z)

module _ (bs old : List ℕ) where
  shows : (fault bs).number ≡ 0 → (n : ℕ) → length (gaps_of bs) ≡ n → ListShows bs old (over old (gaps_of bs)) n
  unfolding over
  shows v n e =
      let size : length (concat_map bytes_of (gaps_of bs)) ≡ n * 3 = omega (arith, bytes-length (gaps_of bs), e) in
      let rest = drop (length (concat_map bytes_of (gaps_of bs))) old in
      record {
        entries = gaps_of bs;
        count = sym e;
        exactly = listed bs v;
        ordered = listed-ordered bs v;
        first-bytes = take_at (concat_map bytes_of (gaps_of bs)) rest (n * 3) size;
        other-bytes = drop_at (concat_map bytes_of (gaps_of bs)) rest (n * 3) size ∙ ap (λ (k : ℕ). drop k old) size;
        one-path = λ z. one-path bs v (no-entries (gaps_of bs) (e ∙ z));
      }

  pub list-means : ListMeans bs old (list_after bs old) (list_of bs (length old))
  unfolding list_after list_of
  list-means = by (list_of bs (length old)) refl
    where
      by : (x : Reply ℕ) → list_of bs (length old) ≡ x → ListMeans bs old (listed_by (gaps_of bs) old x) x
      by (refused r) e = refl
      by (answered n) e = let p = reply-answers (list_refusals bs (length old)) (length (gaps_of bs)) n e in shows p.0.0 n p.1

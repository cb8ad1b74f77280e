-- What is left to do gives the answer: the invariant of each loop of a pass. Assumes nothing.
use Rattle.std.specs.Prelude.{◌≡◌, refl, List, ℕ, ◌+◌, ◌≤◌, length}
use Rattle.std.proofs.Common.{sym, ap, ◌∙◌, subst, le_refl, le_trans, arith}
use Rattle.spec_basics.specs.Lists.{drop-later-same}
use Rattle.spec_order.specs.Journal.{Row}
use Rattle.spec_order.specs.Order.{going, and_then}
use Rattle.spec_order.specs.Order as order
use Rattle.search_links.specs.Rows.{KeptBeyond}
use Rattle.search_laws.specs.Meanings.{progress_of, outcome_of, counts_in}
use Rattle.search_laws.specs.Clauses.{Answers}
use Rattle.search_state.specs.declared.Counts.{Counts}
use Rattle.search_laws.specs.declared.Outcome.TheVariants.{Going}
use Rattle.search_laws.specs.declared.Outcome.{Outcome}

module _ {E R : Type 0} (row_of : R → Row E) where
  -- the loop began at w₀ and j₀, and stands at w and j; what is left gives rest, which is the target
  pub record Remaining (B : ℕ) (target rest : order.Outcome E) (w₀ : Counts) (j₀ : List R) (w : Counts) (j : List R) : Type 0 where
    pub left : rest ≡ target
    pub same : length j ≡ length j₀
    pub beyond : KeptBeyond w.used j₀ j
    pub grows : w₀.used ≤ w.used
    pub adds : w.used + w₀.added ≡ w₀.used + w.added
    pub room : w.used ≤ length j₀
    pub paid : w.joins ≤ B

  -- an outcome that ends everything
  abbrev pub EndsFrom : Outcome → Type 0
  EndsFrom r = (j : List R) (K : order.Progress E → order.Outcome E) → and_then (outcome_of row_of r j) K ≡ outcome_of row_of r j

module _ {E R : Type 0} {row_of : R → Row E} {B : ℕ} {target : order.Outcome E} {w₀ : Counts} {j₀ : List R} where
  pub remaining-start : w₀.used ≤ length j₀ → w₀.joins ≤ B → Remaining row_of B target target w₀ j₀ w₀ j₀
  remaining-start h p = record { left = refl; same = refl; beyond = refl; grows = le_refl w₀.used; adds = refl; room = h; paid = p }

  -- a part f was done, and K is left
  module _ {rest : order.Outcome E} {w : Counts} {j : List R} (l : Remaining row_of B target rest w₀ j₀ w j) (f : order.Outcome E) (K : order.Progress E → order.Outcome E) (e : rest ≡ and_then f K) (j' : List R) (s : length j' ≡ length j) where
    chain : (n : ℕ) → w.used ≤ n → KeptBeyond n j j' → KeptBeyond n j₀ j'
    chain n h d = d ∙ drop-later-same w.used n j j₀ h l.beyond

    pub remaining-going : (w' : Counts) → Answers row_of B f w j j' (Going w') → Remaining row_of B target (K (progress_of row_of w' j')) w₀ j₀ w' j'
    remaining-going w' a =
        record {
          left = ap (λ (r : order.Outcome E). and_then r K) a.answer ∙ sym e ∙ l.left;
          same = s ∙ l.same;
          beyond = chain w'.used a.grows a.beyond;
          grows = le_trans l.grows a.grows;
          adds = omega (arith, a.adds, l.adds);
          room = subst (λ (n : ℕ). w'.used ≤ n) l.same a.room;
          paid = a.paid;
        }

    pub remaining-stopped : (r : Outcome) → EndsFrom row_of r → Answers row_of B f w j j' r → Answers row_of B target w₀ j₀ j' r
    remaining-stopped r h a =
        record {
          answer = sym (h j' K) ∙ ap (λ (x : order.Outcome E). and_then x K) a.answer ∙ sym e ∙ l.left;
          beyond = chain (counts_in r).used a.grows a.beyond;
          grows = le_trans l.grows a.grows;
          adds = omega (arith, a.adds, l.adds);
          room = subst (λ (n : ℕ). (counts_in r).used ≤ n) l.same a.room;
          paid = a.paid;
        }

  pub remaining-none : {w : Counts} {j : List R} → Remaining row_of B target (going (progress_of row_of w j)) w₀ j₀ w j → Answers row_of B target w₀ j₀ j (Going w)
  remaining-none l = record { answer = l.left; beyond = l.beyond; grows = l.grows; adds = l.adds; room = l.room; paid = l.paid }

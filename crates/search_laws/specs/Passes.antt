-- One turn of the check: what is left after a pass. Assumes nothing.
use Rattle.std.specs.Prelude.{◌≡◌, refl, Bool, List, [], length}
use Rattle.std.proofs.Common.{sym, ◌∙◌, subst, subst₂, add-one}
use Rattle.std.proofs.Math.Path.{ap, ap₂}
use Prim.Native.Nat.{ℕ, suc, ◌+◌, ◌-◌, ◌≤◌, ◌<◌}
use native.Mathlib.Omega.{arith}
use Rattle.std.proofs.Math.Arith.{lt_of_le-ne}
use Rattle.spec_basics.specs.Lists.{drop-later-same}
use Rattle.spec_order.specs.Algebra.{Laws}
use Rattle.spec_order.specs.Order as order
use Rattle.spec_order.specs.Order.{close, pass_limit, one_pass, passes, check}
use Rattle.spec_order.proofs.Repeating.{Repeats, repeated-dropped}
use Rattle.spec_calls.specs.Checking.{journal_limit}
use Rattle.search_links.specs.Rows.{KeptBeyond, rows_read}
use Rattle.search_laws.specs.Meanings.{progress_of, counts_in, in_next_pass, totals_in}
use Rattle.search_laws.specs.Problems.{Problem, algebra_of, rules_in, first_rows, terms_of}
use Rattle.search_laws.specs.Walks.{walk_in, candidates_in, pass_in, nonempty_in, KnownFrom}
use Rattle.search_laws.specs.Clauses.{Answers, Checked, order_of}
use Rattle.search_links.specs.RowLaws.{rows-length}
use Rattle.search_laws.specs.Closing.{PassEnd, Again, Done, end_of, end_answer, end_used, close-end, close-used, again-going}
use Rattle.search_laws.specs.declared.Answer.{Answer}
use Rattle.search_state.specs.declared.Counts.{Counts}
use Rattle.search_laws.specs.declared.Outcome.TheVariants as outcome
use Rattle.search_laws.specs.declared.Outcome.{Outcome}
use Rattle.search_state.specs.declared.Terms.{Terms}

module _ {E R : Type 0} (P : Problem E R) (B : ℕ) where
  -- passes from one on, where f bounds their number
  abbrev rest : ℕ → ℕ → ℕ → order.Progress E → order.Answer E
  rest J = passes (algebra_of P) (rules_in P) J B

  -- pass k is to begin at w over the journal j
  pub record AtPass (target : order.Answer E) (j₀ : List R) (w : Counts) (j : List R) (k : ℕ) : Type 0 where
    -- what the passes from k on give
    pub left : rest (length j₀) (suc (pass_limit (length j₀) B) - k) k (progress_of P.row_of w j) ≡ target
    pub same : length j ≡ length j₀
    pub beyond : KeptBeyond w.used j₀ j
    pub room : w.used ≤ length j₀
    pub paid : w.joins ≤ B
    pub first : 1 ≤ k
    pub count : k ≤ w.used + 1
    -- none of its rows is added yet
    pub none-added : w.added ≡ 0

  pub pass-first : (j : List R) → AtPass (order_of P (length j) B) j (record { used = 0; joins = 0; added = 0 }) j 1
  unfolding order_of check rows_read
  pass-first j =
      record {
        left = ap (λ (f : ℕ). rest (length j) f 1 (record { rows = []; joins = 0 })) (let e : suc (suc (length j)) - 1 ≡ suc (length j) = omega arith in e);
        same = refl;
        beyond = refl;
        room = omega arith;
        paid = omega arith;
        first = omega arith;
        count = omega arith;
        none-added = refl;
      }

module _ {E R : Type 0} {P : Problem E R} {B : ℕ} {target : order.Answer E} {j₀ : List R} {w : Counts} {j : List R} {k : ℕ} (a : AtPass P B target j₀ w j k) where
  abbrev terms : Terms
  terms = terms_of P B k w.used 0

  abbrev res : order.Outcome E
  res = pass_in P terms w j

  hu : w.used ≤ length j
  hu = subst (λ (n : ℕ). w.used ≤ n) (sym a.same) a.room

  pass-eq : res ≡ one_pass (algebra_of P) (rules_in P) (length j₀) B k (progress_of P.row_of w j)
  unfolding one_pass
  pass-eq = ap (λ (n : ℕ). walk_in P terms n (candidates_in P (first_rows P w.used j)) (progress_of P.row_of w j)) a.same

  module _ {j' : List R} (s : length j' ≡ length j) {r : Outcome} (x : Answers P.row_of B res w j j' r) where
    N : order.Progress E → order.Answer E
    N = rest P B (length j₀) (suc (length j₀) - k) (suc k)

    abbrev nonempty : Bool
    nonempty = nonempty_in P (counts_in r).used j'

    turned : end_answer P.row_of (end_of nonempty k r) j' N ≡ target
    unfolding passes N
    turned =
        close-end P.row_of (algebra_of P).starts w.used k j' N r (subst (λ (n : ℕ). (counts_in r).used ≤ n) (sym s) x.room) (omega (arith, x.adds, a.none-added))
        ∙ ap₂ (λ (u : ℕ) (y : order.Outcome E). close (algebra_of P).starts k u N y) (sym (rows-length P.row_of w.used j hu)) (x.answer ∙ pass-eq)
        ∙ ap (λ (f : ℕ). rest P B (length j₀) f k (progress_of P.row_of w j)) (let e : suc (suc (length j₀) - k) ≡ suc (suc (length j₀)) - k = omega (arith, a.count, a.room) in e)
        ∙ a.left

    kept : KeptBeyond (counts_in r).used j₀ j'
    kept = x.beyond ∙ drop-later-same w.used (counts_in r).used j j₀ x.grows a.beyond

    pub pass-done : {y : Answer} → end_of nonempty k r ≡ Done y → Checked P.row_of target j₀ j' y
    pass-done {y} e =
        let n : (counts_in r).used ≡ (totals_in y).used = sym (close-used nonempty k r) ∙ ap end_used e in
        record {
          answer = ap (λ (z : PassEnd). end_answer P.row_of z j' N) (sym e) ∙ turned;
          beyond = subst (λ (m : ℕ). KeptBeyond m j₀ j') n kept;
          room = subst₂ (λ (m l : ℕ). m ≤ l) n a.same x.room;
        }

    module _ {w' : Counts} (e : end_of nonempty k r ≡ Again w') where
      went : r ≡ outcome.Going w'
      went = (again-going nonempty k r w' e).0

      abbrev xg : Answers P.row_of B res w j j' (outcome.Going w')
      xg = subst (λ (z : Outcome). Answers P.row_of B res w j j' z) went x

      pub pass-grew : w.used < w'.used
      pass-grew = lt_of_le-ne xg.grows (λ p. (again-going nonempty k r w' e).1 (omega (arith, p, xg.adds, a.none-added)))

      pub pass-room : w'.used ≤ length j₀
      pass-room = subst (λ (n : ℕ). w'.used ≤ n) a.same xg.room

      pub pass-again : AtPass P B target j₀ (in_next_pass w') j' (k + 1)
      unfolding N
      pass-again =
          record {
            left =
                ap₂ (λ (f m : ℕ). rest P B (length j₀) f m (progress_of P.row_of w' j')) (let p : suc (suc (length j₀)) - (k + 1) ≡ suc (length j₀) - k = omega arith in p) (add-one k)
                ∙ ap (λ (z : PassEnd). end_answer P.row_of z j' N) (sym e) ∙ turned;
            same = s ∙ a.same;
            beyond = xg.beyond ∙ drop-later-same w.used w'.used j j₀ xg.grows a.beyond;
            room = pass-room;
            paid = xg.paid;
            first = omega arith;
            count = omega (arith, pass-grew, a.count);
            none-added = refl;
          }

      -- what this pass formed is known in the next
      pub pass-known : Laws (algebra_of P) → length j₀ ≤ journal_limit → KnownFrom P w.used w'.used j'
      pass-known L few z c m h =
          repeated-dropped (algebra_of P) L (rules_in P) (length j) B k (progress_of P.row_of w j) (progress_of P.row_of w' j')
          (omega (arith, rows-length P.row_of w'.used j' (omega (arith, pass-room, s, a.same)), pass-room, few)) (sym xg.answer) c m (subst (λ (n : ℕ). Repeats n c) (sym (rows-length P.row_of w.used j hu)) h)

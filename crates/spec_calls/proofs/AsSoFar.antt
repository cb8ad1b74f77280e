-- "For the set of procedure 0 alone, answers equal those so far" (document 02, C-18). Assumes nothing.
use Rattle.std.specs.Prelude.{◌≡◌, Bool, true, false, ◌&&◌, ◌||◌, List, [], ◌∷◌, eqb, length}
use Rattle.std.proofs.Math.Path.{refl, ap, fun_ext}
use Rattle.std.proofs.Common.{◌∙◌}
use Prim.Native.Nat.{ℕ, zero, suc}
use Rattle.spec_basics.specs.Elements.{any}
use Rattle.relation.specs.Relation.{states, contained, rejects}
use Rattle.spec_language.specs.Grammar.{initial, Rule}
use Rattle.spec_language.specs.Automaton.{Automaton}
use Rattle.spec_language.specs.WordRelation.{is_final}
use Rattle.spec_file.specs.Views.{rules_of, automaton_of}
use Rattle.spec_order.specs.Algebra.{Algebra}
use Rattle.spec_order.specs.Candidates.{pass_candidates}
use Rattle.spec_order.specs.Journal.{Row, absent, live_of}
use Rattle.spec_order.specs.Order.{Progress, start, Verdict, Outcome, going, stopped, Answer, answer, walk, finish_by, has_row, finish, close_by, close, one_pass, passes, pass_limit, check}
use Rattle.spec_calls.specs.Base.{initial_alone, forms_on, base}
use Rattle.spec_calls.specs.Checking.{order_on, check_of, check_refusals}
use Rattle.spec_calls.proofs.MemberLaws.{only-initial}
use Rattle.spec_calls.specs.Replies.{reply}
use Rattle.spec_calls.specs.SoFar.{initial_row, finish_then, close_then_by, close_then, breaks_then, pass_then, passes_before, order_then, check_then}

or_nothing : (b : Bool) → (b || false) ≡ b
or_nothing true = refl
or_nothing false = refl

and-nothing : (b : Bool) → (b && true) ≡ b
and-nothing true = refl
and-nothing false = refl

finish-then : (rows : List (Row ℕ)) → finish (initial ∷ []) rows ≡ finish_then rows
unfolding has_row live_of
finish-then rows = ap finish_by (and-nothing (any initial_row rows))

module _ (n : ℕ) (A : Automaton) (rules : List Rule) (J B : ℕ) where
  abbrev M : Algebra ℕ
  M = base n (initial ∷ []) A

  breaks-then : M.breaks ≡ breaks_then n A rules J B
  breaks-then = fun_ext (λ x. fun_ext (λ e. ap (λ (b : Bool). b && rejects n (is_final A) e) (or_nothing (eqb x initial))))

  pass-then : (k : ℕ) (s : Progress ℕ) → one_pass M rules J B k s ≡ pass_then n A rules J B k s
  unfolding one_pass pass_then
  pass-then k s = ap (λ (breaks : ℕ → ℕ → Bool). walk contained breaks J B k (pass_candidates (forms_on n A) s.rows 0 rules) s) breaks-then

  close-then : (k u : ℕ) (next next' : Progress ℕ → Answer ℕ) → ((s : Progress ℕ) → next s ≡ next' s) → (r : Outcome ℕ) → close (initial ∷ []) k u next r ≡ close_then k u next' r
  close-then k u next next' h (stopped v i s) = refl
  close-then k u next next' h (going s) = by (eqb (length s.rows) u)
    where
      by : (b : Bool) → close_by (initial ∷ []) b k next s ≡ close_then_by b k next' s
      by true = ap (λ (v : Verdict). answer v k absent s) (finish-then s.rows)
      by false = h s

  passes_then : (f k : ℕ) (s : Progress ℕ) → passes M rules J B f k s ≡ passes_before n A rules J B f k s
  unfolding passes passes_before
  passes_then zero k s = refl
  passes_then (suc f) k s =
      close-then k (length s.rows) (passes M rules J B f (suc k)) (passes_before n A rules J B f (suc k)) (passes_then f (suc k)) (one_pass M rules J B k s)
      ∙ ap (close_then k (length s.rows) (passes_before n A rules J B f (suc k))) (pass-then k s)

  -- the working order's answer, with any count of states
  pub order-so-far : check M rules J B ≡ order_then n A rules J B
  unfolding check order_then
  order-so-far = passes_then (pass_limit J B) 1 start

-- the call's, on every file: refusal, verdict, counts, row and journal
pub check-so-far : (bs : List ℕ) (J B : ℕ) → check_of bs (record { rows = J; budget = B; starts = initial_alone }) ≡ check_then bs J B
unfolding check_of check_then order_on
check-so-far bs J B =
    ap (reply (check_refusals bs J))
    (ap (λ (ps : List ℕ). check (base states ps (automaton_of bs)) (rules_of bs) J B) only-initial ∙ order-so-far states (automaton_of bs) (rules_of bs) J B)

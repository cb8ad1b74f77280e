-- Induction through the journals of a check: what holds of the empty one and is kept by each candidate that is added. Assumes nothing.
use Rattle.std.specs.Prelude.{◌≡◌, Bool, List, eqb, length}
use Rattle.std.proofs.Math.Bool.{true, false}
use Prim.Native.Nat.{ℕ, zero, suc}
use Rattle.spec_basics.specs.Elements.{In}
use Rattle.spec_language.specs.Grammar.{Rule}
use Rattle.spec_order.specs.Algebra.{Algebra}
use Rattle.spec_order.specs.Candidates.{Candidate, pass_candidates}
use Rattle.spec_order.specs.Journal.{Row}
use Rattle.spec_order.specs.Order.{Progress, start, Outcome, going, stopped, answer, dropped, added, close_by, close, one_pass, passes}
use Rattle.spec_order.proofs.Walking.{Post, step-post, walk-post}

module _ {E : Type 0} (A : Algebra E) (rules : List Rule) (J B : ℕ) where
  -- an invariant of journals: P holds of the one at the beginning, and where it holds at a pass's beginning and now,
  -- it holds with any of the pass's candidates added that is not dropped
  pub journal-ind : (P : List (Row E) → Type 0) (Q : List (Row E) → List (Row E) → Type 0)
      → ((rows : List (Row E)) → P rows → Q rows rows)
      → ((h : ℕ) (rows₀ rows : List (Row E)) (c : Candidate E) → In c (pass_candidates A.forms rows₀ 0 rules) → dropped A.below c rows ≡ false → P rows₀ → Q rows₀ rows → Q rows₀ (added A.below (suc h) c rows))
      → ((rows₀ rows : List (Row E)) → Q rows₀ rows → P rows)
      → (f h : ℕ) (s : Progress E) → P s.rows → P (passes A rules J B f (suc h) s).journal
  unfolding passes answer one_pass
  journal-ind P Q start add end zero h s p = p
  journal-ind P Q start add end (suc f) h s p =
      by (one_pass A rules J B (suc h) s)
      (walk-post A J B (suc h) (λ t. Q s.rows t.rows) (λ v i t. Q s.rows t.rows) (pass_candidates A.forms s.rows 0 rules)
      (λ c m t q. step-post A J B (suc h) (λ u. Q s.rows u.rows) (λ v i u. Q s.rows u.rows) c t
      (λ e. q) (λ e₁ e₂. q) (λ e₁ e₂ e₃. q) (λ e₁ e₂ e₃ e₄. add h s.rows t.rows c m e₂ p q) (λ e₁ e₂ e₃ e₄. add h s.rows t.rows c m e₂ p q))
      s (start s.rows p))
      (journal-ind P Q start add end f (suc h))
    where
      by : (r : Outcome E) → Post (λ t. Q s.rows t.rows) (λ v i t. Q s.rows t.rows) r
          → ((t : Progress E) → P t.rows → P (passes A rules J B f (suc (suc h)) t).journal)
          → P (close A.starts (suc h) (length s.rows) (passes A rules J B f (suc (suc h))) r).journal
      by (stopped v i t) q next = end s.rows t.rows q
      by (going t) q next = fork (eqb (length t.rows) (length s.rows))
        where
          fork : (b : Bool) → P (close_by A.starts b (suc h) (passes A rules J B f (suc (suc h))) t).journal
          fork true = end s.rows t.rows q
          fork false = next t (end s.rows t.rows q)

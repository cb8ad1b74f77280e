-- Pass by pass, up to the end of a check: its verdict is true, and its rows are sound. Assumes nothing.
use Rattle.std.specs.Prelude.{◌≡◌, Bool, eqb}
use Rattle.std.proofs.Math.Path.{refl, sym, subst}
use Rattle.std.proofs.Math.Bool.{true, false}
use mathlib.Core.List.{List, []}
use Prim.Native.Nat.{ℕ, zero, suc}
use Rattle.std.proofs.Math.ListN.{length}
use borrow.Author.Tests.{eqb-true}
use Rattle.spec_basics.specs.Elements.{each}
use Rattle.spec_language.specs.Grammar.{Rule}
use Rattle.spec_order.specs.Algebra.{Algebra, Laws}
use Rattle.spec_order.specs.Behind.{Spelling, words_from, words_of}
use Rattle.spec_order.specs.Candidates.{pass_candidates}
use Rattle.spec_order.proofs.Completeness.{FormsInto, higher, LiveIn, follows}
use Rattle.spec_order.specs.Journal.{Row}
use Rattle.spec_order.specs.Order.{Progress, Outcome, going, stopped, Answer, answer, finish_by, has_row, close_by, close, one_pass, passes, check}
use Rattle.spec_order.proofs.Soundness.{Sizes, sound-taller}
use Rattle.spec_order.proofs.Truth.{Settled, SaysBy, Says, Between, During, End, one-pass}
use Rattle.spec_order.proofs.Walking.{Post, Covers, walk-covers}

module _ {E W : Type 0} (A : Algebra E) (L : Laws A) (S : Spelling E W) (Z : Sizes S) (rules : List Rule) (J B : ℕ) where
  -- pass by pass: after h + 1 of them every derivation of height at most h + 1 is covered by a live row
  pub after-pass : (h : ℕ) (s t : Progress E) → Between A L S Z rules J B h s.rows → one_pass A rules J B (suc h) s ≡ going t → Between A L S Z rules J B (suc h) t.rows
  unfolding one_pass
  after-pass h s t b e =
      let d : During A L S Z rules J B h s.rows t = subst (Post (During A L S Z rules J B h s.rows) (End A L S Z rules J B (suc h))) e (one-pass A L S Z rules J B h s b) in
      let v : Covers A (pass_candidates A.forms s.rows 0 rules) s t =
      subst (Post (Covers A (pass_candidates A.forms s.rows 0 rules) s) (λ v i u. Unit {0})) e (walk-covers A J B (suc h) L (pass_candidates A.forms s.rows 0 rules) s) in
      record { sound = d.sound; quiet = d.quiet; covers = higher A L rules h (LiveIn s.rows) (LiveIn t.rows) b.covers (follows A s.rows rules t.rows v.each) }

  pub passes-say : (f h : ℕ) (s : Progress E) → Between A L S Z rules J B h s.rows → Says A S rules (passes A rules J B f (suc h) s)
  unfolding passes answer one_pass
  passes-say zero h s b = record { sound = sound-taller A S rules h s.rows b.sound; verdict = tt }
  passes-say (suc f) h s b =
      by (one_pass A rules J B (suc h) s) refl (one-pass A L S Z rules J B h s b) (walk-covers A J B (suc h) L (pass_candidates A.forms s.rows 0 rules) s) (passes-say f (suc h))
    where
      finished : (a : Answer E) → Settled A S rules a → (x : Bool) → each (has_row a.journal) A.starts ≡ x → SaysBy A S rules (finish_by x) a
      finished a y true e = (y, e)
      finished a y false e = (y, e)

      fork : (t : Progress E) → one_pass A rules J B (suc h) s ≡ going t → (x : Bool) → eqb (length t.rows) (length s.rows) ≡ x → During A L S Z rules J B h s.rows t
          → Covers A (pass_candidates A.forms s.rows 0 rules) s t
          → ((t : Progress E) → Between A L S Z rules J B (suc h) t.rows → Says A S rules (passes A rules J B f (suc (suc h)) t))
          → Says A S rules (close_by A.starts x (suc h) (passes A rules J B f (suc (suc h))) t)
      fork t w true e d v next =
          let same : t.rows ≡ s.rows = d.same (eqb-true (length t.rows) (length s.rows) e) in
          let covers = subst (λ (x : List (Row E)). FormsInto A rules (LiveIn x) (LiveIn t.rows)) (sym same) (follows A s.rows rules t.rows v.each) in
          record { sound = d.sound; verdict = finished _ (d.quiet, covers) (each (has_row t.rows) A.starts) refl }
      fork t w false e d v next = next t (after-pass h s t b w)

      by : (r : Outcome E) → one_pass A rules J B (suc h) s ≡ r → Post (During A L S Z rules J B h s.rows) (End A L S Z rules J B (suc h)) r
          → Post (Covers A (pass_candidates A.forms s.rows 0 rules) s) (λ v i t. Unit {0}) r
          → ((t : Progress E) → Between A L S Z rules J B (suc h) t.rows → Says A S rules (passes A rules J B f (suc (suc h)) t))
          → Says A S rules (close A.starts (suc h) (length s.rows) (passes A rules J B f (suc (suc h))) r)
      by (stopped v i t) w p q next = record { sound = p.0; verdict = p.1 }
      by (going t) w p q next = fork t w (eqb (length t.rows) (length s.rows)) refl p q next

  -- the check's verdict is true, and its rows are sound
  pub check-says : Says A S rules (check A rules J B)
  unfolding check words_of words_from
  check-says = passes-say (suc J) 0 (record { rows = []; joins = 0 }) (record { sound = tt; quiet = λ r m. absurd m; covers = λ p e d. absurd d })

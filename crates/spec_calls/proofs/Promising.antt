-- A check that answers keeps its promises. Assumes nothing.
use Rattle.std.specs.Prelude.{◌≡◌, Bool, true, false, ◌||◌, cond, List, ℕ, ◌≤◌, eqb, ltb, length}
use Rattle.std.proofs.Math.Path.{refl, sym, ap, subst}
use Rattle.std.proofs.Common.{◌∙◌, suc-ne-zero, arith, ltb-false, ne_eqb, le-ltb}
use Rattle.std.proofs.lemmas.Bool.{eqb-false}
use Rattle.spec_basics.specs.Tests.{or-neither}
use Rattle.spec_file.specs.Refusals.{refuse, fault}
use Rattle.spec_order.specs.Journal.{Row}
use Rattle.spec_order.specs.Order.{Answer, broken, full, spent}
use Rattle.spec_calls.specs.Replies.{answered, unless}
use Rattle.spec_calls.proofs.ReplyLaws.{reply-answers, reply-none}
use Rattle.spec_calls.specs.Checking.{Settings, journal_limit, journal_fault, order_on, check_of, journal_after, shown, check_refusals}
use Rattle.spec_calls.specs.DemandThree.{Counts, WritesShown, Extends, Promises}
use Rattle.spec_calls.proofs.Truth.{one-verdict, counted, least-height, rows-mean, antichain, same_answer}
use Rattle.spec_calls.specs.Writing.{room_fault, word_of, write_of}
use Rattle.spec_calls.proofs.WritingTruth.{word-shown, ten-left, writes-shown}

-- a journal that 8 does not refuse
journal-size : (J : ℕ) → journal_fault J ≡ 0 → (1 ≤ J) × (J ≤ journal_limit)
unfolding journal_fault
journal-size J e = by (eqb J 0 || ltb journal_limit J) refl e
  where
    by : (b : Bool) → (eqb J 0 || ltb journal_limit J) ≡ b → ◌≡◌ {A = ℕ} (cond b 8 0) 0 → (1 ≤ J) × (J ≤ journal_limit)
    by true p q = absurd (suc-ne-zero 7 q)
    by false p q =
        let o = or-neither (eqb J 0) (ltb journal_limit J) p in
        let ne : J ≡ 0 → ⊥ = eqb-false J 0 o.0 in
        (omega arith, ltb-false journal_limit J o.1)

pub size-journal : (J : ℕ) → 1 ≤ J → J ≤ journal_limit → journal_fault J ≡ 0
unfolding journal_fault
size-journal J l m = rw (ne_eqb J 0 (λ e. omega arith), le-ltb journal_limit J m)

module _ (bs : List ℕ) (g : Settings) (a : Answer ℕ) (e : check_of bs g ≡ answered a) where
  -- the file is not refused, the journal is not, and the answer is the working order's
  pub from-order : ((fault bs).number ≡ 0) × (journal_fault g.rows ≡ 0) × (a ≡ order_on bs g)
  unfolding check_of
  from-order =
      let p = reply-answers (check_refusals bs g.rows) (order_on bs g) a e in
      (p.0.0, p.0.1.0, sym p.1)

  pub promises : Promises bs g a
  unfolding check_of
  promises =
      let o = from-order in
      let v : (fault bs).number ≡ 0 = o.0 in
      let s = journal-size g.rows o.1 in
      record {
        one-verdict = rw o.2 (one-verdict bs v g s.0);
        counts = rw o.2 (counted bs v g s.0);
        least-height = rw o.2 (least-height bs v g);
        rows-mean = rw o.2 (rows-mean bs v g s.0);
        antichain = rw o.2 (antichain bs v g s.0);
        writes-shown = λ b rows n old.
            subst (λ (x : Answer ℕ). WritesShown bs g x rows old) (sym o.2)
            (writes-shown bs v g o.1 (counted bs v g s.0) (sym (ap (λ (x : Answer ℕ). x.verdict) o.2) ∙ b) rows n old);
        stable = λ f p g' x. (a, whole v s.0 o.2 f p g' x, record { verdict = refl; joins = refl; pass = refl; word = refl });
        same_answer = whole v s.0 o.2;
      }
    where
      -- a longer journal is not refused either, and the working order answers the same on it
      whole : (fault bs).number ≡ 0 → 1 ≤ g.rows → a ≡ order_on bs g → (a.verdict ≡ full → ⊥) → (a.verdict ≡ spent → ⊥)
          → (g' : Settings) → Extends g g' → check_of bs g' ≡ answered a
      whole v s o f p g' x =
          reply-none (check_refusals bs g'.rows) (order_on bs g') (v, (size-journal g'.rows (omega (arith, s, x.more_rows)) x.within-limit, tt))
          ∙ ap answered
          (same_answer bs g g' x (λ y. f (ap (λ (z : Answer ℕ). z.verdict) o ∙ y)) (λ y. p (ap (λ (z : Answer ℕ). z.verdict) o ∙ y)) ∙ sym o)

-- ---- the word of a broken check, over a journal that held these rows before

module _ (bs : List ℕ) (g : Settings) (a : Answer ℕ) (e : check_of bs g ≡ answered a) (b : a.verdict ≡ broken) (rows : List (Row ℕ)) (size : length rows ≡ g.rows) where
  abbrev order : Answer ℕ
  order = order_on bs g

  -- what holds of the working order's answer, over the journal after the check, holds of a
  of-order : (P : Answer ℕ → Type 0) → ((v : (fault bs).number ≡ 0) (eight : journal_fault g.rows ≡ 0) → Counts bs g order → order.verdict ≡ broken → P order) → P a
  of-order P f =
      let o = from-order bs g a e in
      subst P (sym o.2) (f o.0 o.1 (counted bs o.0 g (journal-size g.rows o.1).0) (sym (ap (λ (x : Answer ℕ). x.verdict) o.2) ∙ b))

  -- the word behind its row is the shown one
  pub broken-word : word_of bs (journal_after bs g rows) a.row ≡ shown bs a
  broken-word = of-order (λ x. word_of bs (journal_after bs g rows) x.row ≡ shown bs x) (λ v eight c w. word-shown bs v g eight c w rows size)

  -- and only 10 refuses to write it
  pub broken-writes : (room : ℕ) → write_of bs (journal_after bs g rows) a.used a.row room ≡ unless (refuse (room_fault (shown bs a) room) 0) (answered (length (shown bs a)))
  broken-writes room =
      of-order (λ x. write_of bs (journal_after bs g rows) x.used x.row room ≡ unless (refuse (room_fault (shown bs x) room) 0) (answered (length (shown bs x))))
      (λ v eight c w. ten-left bs v g eight c w rows size room)

-- Line 3 of a broken answer is its shown run, or number 10, whether the run is written from the journal of the answer or from the lent
-- one, which held other rows before. Assumes nothing.
use Rattle.std.specs.Prelude.{◌≡◌, Bool, true, false, ◌||◌, cond, leb, ltb, length, drop, replicate}
use Rattle.std.proofs.Math.Path.{refl, ap}
use Rattle.std.proofs.Common.{sym, ◌∙◌, suc-ne-zero, arith, take_at}
use mathlib.Core.List.{List}
use Prim.Native.Nat.{ℕ, zero, suc, ◌+◌, min, ◌≤◌, ◌<◌}
use Rattle.std.proofs.lemmas.List.{length-replicate}
use borrow.Author.Tests.{lt-ltb, le-ltb, leb-false}
use Rattle.spec_basics.specs.Tests.{or-neither}
use Rattle.relation.specs.Relation.{states}
use Rattle.spec_file.specs.Refusals.{refuse, by_number}
use Rattle.spec_file.specs.Views.{rules_of, automaton_of}
use Rattle.spec_order.specs.Algebra.{Forms}
use Rattle.spec_order.specs.Journal.{Row, capped}
use Rattle.spec_order.specs.Fitting.{all_rows_fit}
use Rattle.spec_order.specs.Order.{Answer, broken}
use Rattle.spec_calls.specs.Codes.{refused_by}
use Rattle.spec_calls.specs.Base.{forms_on}
use Rattle.spec_calls.specs.Checking.{Settings, journal_limit, check_of, shown}
use Rattle.spec_calls.specs.Printing.{numbers_line, refused_line, line_three}
use Rattle.spec_calls.proofs.Promising.{size-journal, from-order, promises}
use Rattle.spec_calls.proofs.WritingTruth.{all_fit}
use Rattle.spec_calls.specs.Replies.{Reply, answered, unless, refused}
use Rattle.spec_calls.specs.Writing.{long_word, row_fault, room_fault, word_of, write_of, written_by, buffer_after}
use Rattle.host_lines.specs.Lines.{run_by}

-- ---- a run w, where the room decides

-- f, where it is not 0, or the steps
abbrev pub three_by : ℕ → List ℕ → List ℕ
three_by zero w = numbers_line w
three_by (suc f) w = refused_line (suc f)

-- what writing it answers
abbrev pub reply_to : List ℕ → ℕ → Reply ℕ
reply_to w room = unless (refuse (room_fault w room) 0) (answered (length w))

-- a run that 10 does not refuse has the length that its row says
short : (w : List ℕ) (room : ℕ) → room_fault w room ≡ 0 → capped (length w) ≡ length w
unfolding room_fault capped
short w room e = by (leb long_word (length w) || ltb room (length w)) refl e
  where
    by : (b : Bool) → (leb long_word (length w) || ltb room (length w)) ≡ b → ◌≡◌ {A = ℕ} (cond b 10 0) 0 → min (length w) 65535 ≡ length w
    by true p q = absurd (suc-ne-zero 9 q)
    by false p q = let l = leb-false long_word (length w) (or-neither (leb long_word (length w)) (ltb room (length w)) p).0 in omega arith

module _ (w old : List ℕ) where
  -- line 3 of the definition
  defined : (f : ℕ) → line_three (written_by w old (by_number f (refused (refuse f 0)) (answered (length w)))) (by_number f (refused (refuse f 0)) (answered (length w))) ≡ three_by f w
  unfolding line_three
  defined zero = ap numbers_line (take_at w (drop (length w) old) (length w) refl)
  defined (suc f) = refl

  -- and of the code, from the numbers of the check
  told : (f len : ℕ) → (f ≡ 0 → len ≡ length w)
      → run_by (refused_by (by_number f (refused (refuse f 0)) (answered (length w)))) len (written_by w old (by_number f (refused (refuse f 0)) (answered (length w)))) ≡ three_by f w
  told zero len h = ap numbers_line (take_at w (drop (length w) old) len (sym (h refl)))
  told (suc f) len h = refl

module _ (bs : List ℕ) (rows : List (Row ℕ)) (used i : ℕ) (w : List ℕ) (same : word_of bs rows i ≡ w) (room : ℕ) (e : write_of bs rows used i room ≡ reply_to w room) where
  buffer-is : (old : List ℕ) → length old ≡ room → buffer_after bs rows used i old ≡ written_by w old (reply_to w room)
  unfolding buffer_after
  buffer-is old l = ap (λ (u : List ℕ). written_by u old (write_of bs rows used i (length old))) same ∙ ap (λ (n : ℕ). written_by w old (write_of bs rows used i n)) l ∙ ap (written_by w old) e

  line_defined : line_three (buffer_after bs rows used i (replicate room 0)) (write_of bs rows used i room) ≡ three_by (room_fault w room) w
  line_defined =
      ap (λ (b : List ℕ). line_three b (write_of bs rows used i room)) (buffer-is (replicate room 0) (length-replicate room 0))
      ∙ ap (line_three (written_by w (replicate room 0) (reply_to w room))) e
      ∙ defined w (replicate room 0) (room_fault w room)

  pub line-told : (old : List ℕ) → length old ≡ room → (len : ℕ) → len ≡ capped (length w)
      → run_by (refused_by (write_of bs rows used i room)) len (buffer_after bs rows used i old) ≡ three_by (room_fault w room) w
  line-told old l len c =
      ap (run_by (refused_by (write_of bs rows used i room)) len) (buffer-is old l)
      ∙ ap (λ (x : Reply ℕ). run_by (refused_by x) len (written_by w old (reply_to w room))) e
      ∙ told w old (room_fault w room) len (λ z. c ∙ short w room z)

-- ---- from the journal of the answer

module _ (bs : List ℕ) (g : Settings) (few : g.rows ≤ journal_limit) (a : Answer ℕ) (e : check_of bs g ≡ answered a) (v : a.verdict ≡ broken) where
  abbrev M : Forms ℕ
  M = forms_on states (automaton_of bs)

  last : suc a.row ≡ a.used
  last = (promises bs g a e).counts.last_row v

  used-is : a.used ≡ length a.journal
  used-is = (promises bs g a e).counts.used-rows

  pub row_in : a.row < length a.journal
  row_in = omega (arith, last, used-is)

  fit : all_rows_fit M a.journal (rules_of bs) (a.row + 1) ≡ true
  fit = all_fit M a.journal (rules_of bs) (a.row + 1) (λ i l. ((promises bs g a e).rows-mean i (omega (arith, last))).fits)

  row_fits : row_fault M (rules_of bs) a.journal a.used a.row ≡ 0
  unfolding row_fault
  row_fits = rw (lt-ltb a.row a.used (omega (arith, last)), le-ltb (length a.journal) a.used (omega (arith, used-is)), fit)

  word-own : word_of bs a.journal a.row ≡ shown bs a
  unfolding word_of shown
  word-own = refl

  writes-own : (room : ℕ) → write_of bs a.journal a.used a.row room ≡ reply_to (shown bs a) room
  unfolding write_of
  writes-own room =
      rw (
        (from-order bs g a e).0,
        size-journal (length a.journal) (omega (arith, row_in)) (omega (arith, few, used-is, (promises bs g a e).counts.rows_bound)),
        row_fits,
        word-own,
      )

  -- line 3 of the text: the step codes of the shown word, or 10
  pub shows-run : (room : ℕ)
      → line_three (buffer_after bs a.journal a.used a.row (replicate room 0)) (write_of bs a.journal a.used a.row room) ≡ three_by (room_fault (shown bs a) room) (shown bs a)
  shows-run room = line_defined bs a.journal a.used a.row (shown bs a) word-own room (writes-own room)

-- What `write` gives at each of its ends: where one of its tests refuses, and where the word is written. Assumes nothing.
use Rattle.std.specs.Prelude.{◌≡◌, refl, Bool, true, false, not, ◌||◌, cond, List, [], ◌∷◌, ◌++◌, ℕ, ◌+◌, ◌≤◌, ◌<◌, leb, ltb, length, drop, Ok, Err}
use Rattle.std.proofs.Common.{sym, ap, ap₂, ◌∙◌, subst, add-one, lt-ltb, le-ltb, ltb-false}
use borrow.Author.Tests.{leb-true, leb-false}
use Rattle.relation.specs.Relation.{states}
use Rattle.spec_basics.specs.Tests.{or-neither}
use Rattle.spec_language.specs.Grammar.{Rule}
use Rattle.spec_file.specs.Refusals.{Refusal, refuse, or_next, first_of}
use Rattle.spec_file.specs.Views.{rules_of, automaton_of}
use Rattle.spec_file.specs.Answers.{number_of, refusal_of}
use Rattle.spec_file.specs.declared.Refusal.{Refusal as RefusalAnswer}
use Rattle.spec_file.proofs.RefusalLaws.{number-some, fault-some, refused-first, first-last, first-append}
use Rattle.spec_order.specs.Journal.{Row}
use Rattle.spec_order.specs.Behind.{word_behind}
use Rattle.spec_order.specs.Fitting.{all_rows_fit}
use Rattle.spec_calls.specs.Base.{forms_on, words}
use Rattle.spec_calls.specs.Checking.{check_refusals}
use Rattle.spec_calls.specs.Replies.{answered, unless, refused}
use Rattle.spec_calls.specs.Writing.{too_long, row_fault, room_fault, word_of, write_refusals, write_of, written_by, buffer_after, WordMeans}
use Rattle.spec_calls.proofs.ReplyLaws.{reply-first}
use Rattle.spec_calls.proofs.WritingTruth.{write-means}
use Rattle.call_write_fit.specs.Forms.{no_forms}
use Rattle.call_write_fit.specs.ByValue.{last_len}
use Rattle.call_write_word.specs.Parts.{older_row, part_word, Ready, Wrote}
use Rattle.call_write_word.proofs.Faults.{row-fault-same, named, by_length, ready}
use Rattle.call_write.specs.Clauses.{Writes}

module _ (bs : List ℕ) (rows : List (Row ℕ)) (used i : ℕ) where
  -- what is tested after the file and the journal, over a buffer of `room` bytes
  abbrev nine : ℕ
  nine = row_fault (forms_on states (automaton_of bs)) (rules_of bs) rows used i

  abbrev rest : ℕ → List Refusal
  rest room = refuse nine 0 ∷ refuse (room_fault (word_of bs rows i) room) 0 ∷ []

  -- by the counts
  abbrev misnamed : Bool
  misnamed = leb used i || ltb (length rows) used

  -- the call is refused with x, where x is the first refusal
  pub writes_refused : (old : List ℕ) (x : RefusalAnswer) → refusal_of x ≡ first_of (write_refusals bs rows used i (length old)) → Writes bs rows used i old old (Err x)
  unfolding buffer_after write_of
  writes_refused old x e =
      let n = length (word_of bs rows i) in
      let reply-is : write_of bs rows used i (length old) ≡ refused (refusal_of x) =
      reply-first (write_refusals bs rows used i (length old)) n ∙ ap (λ (r : Refusal). unless r (answered n)) (sym e)
      ∙ number-some (refused (refusal_of x)) (answered n) (number_of x.fault) (fault-some x.fault) in
      let after : old ≡ buffer_after bs rows used i old = ap (written_by (word_of bs rows i) old) (sym reply-is) in
      record {
        answer = sym reply-is;
        buffer = after;
        meaning = subst (λ (xs : List ℕ). WordMeans bs rows i xs (write_of bs rows used i (length old))) (sym after) (write-means bs rows used i old);
      }

  -- by the file or the journal
  pub first-start : (room : ℕ) (x : RefusalAnswer) → refusal_of x ≡ first_of (check_refusals bs (length rows)) → refusal_of x ≡ first_of (write_refusals bs rows used i room)
  first-start room x e =
      sym (refused-first x (first_of (rest room))) ∙ ap (λ (r : Refusal). or_next r (first_of (rest room))) e ∙ sym (first-append (check_refusals bs (length rows)) (rest room))

  module _ (s : refuse 0 0 ≡ first_of (check_refusals bs (length rows))) where
    past_start : (room : ℕ) → first_of (write_refusals bs rows used i room) ≡ first_of (rest room)
    past_start room = first-append (check_refusals bs (length rows)) (rest room) ∙ ap (λ (r : Refusal). or_next r (first_of (rest room))) (sym s)

    nine-is : nine ≡ row_fault no_forms (rules_of bs) rows used i
    nine-is = row-fault-same (forms_on states (automaton_of bs)) no_forms (rules_of bs) rows used i

    -- by the counts
    pub first-counts : (room : ℕ) → misnamed ≡ true → refuse 9 0 ≡ first_of (write_refusals bs rows used i room)
    unfolding row_fault
    first-counts room h =
        let by : ◌≡◌ {A = ℕ} nine 9 = nine-is ∙ by_cases (leb used i) (ltb (length rows) used) (ltb i used) (all_rows_fit no_forms rows (rules_of bs) (i + 1)) (λ l. le-ltb i used (leb-true used i l)) h in
        sym (ap (λ (k : ℕ). or_next (refuse k 0) (first_of (refuse (room_fault (word_of bs rows i) room) 0 ∷ []))) by) ∙ sym (past_start room)
      where
        by_cases : (a b c d : Bool) → (a ≡ true → c ≡ false) → (a || b) ≡ true → ◌≡◌ {A = ℕ} (cond (not c || (b || not d)) 9 0) 9
        by_cases true b c d l h = ap (λ (x : Bool). cond (not x || (b || not d)) 9 0) (l refl)
        by_cases false true true d l h = refl
        by_cases false true false d l h = refl
        by_cases false false c d l h = absurd (let z : ⊥ = cc in z)

    module _ (m : misnamed ≡ false) where
      -- the named row is one of the used rows, and these are in the journal
      pub inside : (i < used) × (used ≤ length rows)
      inside = let u = or-neither (leb used i) (ltb (length rows) used) m in (leb-false used i u.0, ltb-false (length rows) used u.1)

      -- the rows decide
      rows-decide : nine ≡ cond (not (all_rows_fit no_forms rows (rules_of bs) (i + 1))) 9 0
      unfolding row_fault
      rows-decide =
          nine-is
          ∙ ap₂ (λ (x y : Bool). cond (not x || (y || not (all_rows_fit no_forms rows (rules_of bs) (i + 1)))) 9 0) (lt-ltb i used inside.0) (le-ltb (length rows) used inside.1)

      module _ (rules : List Rule) (known : rules ≡ rules_of bs) where
        module _ (fits : Bool) (f : fits ≡ all_rows_fit no_forms rows rules (i + 1)) where
          nine-by : nine ≡ cond (not fits) 9 0
          nine-by = rows-decide ∙ ap (λ (b : Bool). cond (not b) 9 0) (ap (λ (xs : List Rule). all_rows_fit no_forms rows xs (i + 1)) (sym known) ∙ sym f)

          -- by the rows
          pub first-rows : (room : ℕ) → not fits ≡ true → refuse 9 0 ≡ first_of (write_refusals bs rows used i room)
          first-rows room h =
              sym (ap (λ (k : ℕ). or_next (refuse k 0) (first_of (refuse (room_fault (word_of bs rows i) room) 0 ∷ []))) (nine-by ∙ ap (λ (b : Bool). cond b 9 0) h)) ∙ sym (past_start room)

          module _ (h : not fits ≡ false) (len : ℕ) (l : len ≡ last_len rows (i + 1)) where
            nine-passes : nine ≡ 0
            nine-passes = nine-by ∙ ap (λ (b : Bool). cond b 9 0) h

            ten-by : (room : ℕ) → room_fault (word_of bs rows i) room ≡ cond (too_long len room) 10 0
            unfolding room_fault word_of
            ten-by room =
                ap (λ (b : Bool). cond b 10 0)
                (sym (by_length (rules_of bs) rows used i (named (rules_of bs) rows used i (sym nine-is ∙ nine-passes)) room) ∙ ap (λ (k : ℕ). too_long k room) (sym (l ∙ ap (last_len rows) (add-one i))))

            past_rows : (room : ℕ) → first_of (write_refusals bs rows used i room) ≡ refuse (room_fault (word_of bs rows i) room) 0
            past_rows room =
                past_start room ∙ ap (λ (k : ℕ). or_next (refuse k 0) (first_of (refuse (room_fault (word_of bs rows i) room) 0 ∷ []))) nine-passes
                ∙ first-last (room_fault (word_of bs rows i) room)

            -- by the room
            pub first-room : (room : ℕ) → too_long len room ≡ true → refuse 10 0 ≡ first_of (write_refusals bs rows used i room)
            first-room room t = sym (past_rows room ∙ ap (λ (k : ℕ). refuse k 0) (ten-by room ∙ ap (λ (b : Bool). cond b 10 0) t))

            module _ (old : List ℕ) (t : too_long len (length old) ≡ false) where
              ten-passes : room_fault (word_of bs rows i) (length old) ≡ 0
              ten-passes = ten-by (length old) ∙ ap (λ (b : Bool). cond b 10 0) t

              -- the row may be written
              pub ready_for : Ready rules rows (older_row i) (length old)
              unfolding word_of
              ready_for = subst (λ (xs : List Rule). Ready xs rows (older_row i) (length old)) (sym known) (ready (rules_of bs) rows used i (length old) (sym nine-is ∙ nine-passes) ten-passes)

              -- and what was written is what the call is to give
              pub writes : (new : List ℕ) (n : ℕ) → Wrote (part_word rules rows (older_row i)) old new n → Writes bs rows used i old new (Ok n)
              unfolding buffer_after write_of word_of
              writes new n o =
                  let w = word_behind words (rules_of bs) rows i in
                  let word : word_behind words rules rows i ≡ w = ap (λ (xs : List Rule). word_behind words xs rows i) known in
                  let none = past_rows (length old) ∙ ap (λ (k : ℕ). refuse k 0) ten-passes in
                  let reply-is : write_of bs rows used i (length old) ≡ answered (length w) =
                  reply-first (write_refusals bs rows used i (length old)) (length w) ∙ ap (λ (r : Refusal). unless r (answered (length w))) none in
                  let count : n ≡ length w = o.count ∙ ap length word in
                  let after : new ≡ buffer_after bs rows used i old = o.bytes ∙ ap₂ (λ (u : List ℕ) (m : ℕ). u ++ drop m old) word count ∙ ap (written_by w old) (sym reply-is) in
                  record {
                    answer = ap answered count ∙ sym reply-is;
                    buffer = after;
                    meaning = subst (λ (xs : List ℕ). WordMeans bs rows i xs (write_of bs rows used i (length old))) (sym after) (write-means bs rows used i old);
                  }

-- What a host may conclude of the run of a broken check (Shows), by the details of the answer and what it promises. Assumes nothing.
use Rattle.std.specs.Prelude.{◌≡◌, refl, ◌⊎◌, Bool, true, false, List, [], ◌∷◌, ℕ, zero, suc, ◌≤◌, ◌<◌, leb, get_or, take}
use Rattle.std.proofs.Math.Path.{sym, ap, subst}
use Rattle.std.proofs.Common.{◌∙◌, inr, suc-ne-zero, arith, leb-true, leb-false}
use Rattle.std.proofs.Math.Logic.{inl}
use Rattle.std.proofs.Math.ListN.{length, drop}
use Rattle.std.proofs.Math.Seq.{take_at, drop_at}
use Rattle.spec_basics.specs.Lists.{get_d_map}
use Rattle.relation.specs.Relation.{states, pairs}
use Rattle.spec_language.specs.Spelling.{DerivesWithin}
use Rattle.spec_language.specs.WordRelation.{word_relation}
use Rattle.spec_file.specs.Refusals.{refuse, by_number}
use Rattle.spec_file.specs.Views.{rules_of, productions_of, automaton_of}
use Rattle.spec_order.specs.Behind.{word_behind}
use Rattle.spec_order.specs.Journal.{Row, no_row, capped}
use Rattle.spec_order.specs.Order.{Answer, Verdict, broken}
use Rattle.spec_calls.specs.Codes.{refused_by}
use Rattle.spec_calls.specs.Base.{forms_on, words}
use Rattle.spec_calls.specs.Checking.{Settings, check_of, shown, shown_head}
use Rattle.spec_calls.specs.DemandThree.{Promises}
use Rattle.spec_calls.proofs.JournalTruth.{row-true}
use Rattle.spec_calls.proofs.Promising.{from-order}
use Rattle.spec_calls.specs.Replies.{answered, unless, refused}
use Rattle.spec_calls.specs.Writing.{long_word, room_fault, word_of, written_by}
use Rattle.spec_calls.proofs.WritingTruth.{room-cases}
use Rattle.host_check.specs.Details.{zero_row, last_three, shown_by}
use Rattle.bolfrega.specs.Hosts.{told_pass, told_pairs, told_length, told_refused, InBuffer, Shows}
use Rattle.bolfrega.specs.HostReplies.{broken_row, writing, ToldAnswer}

-- the details of the written run, by the number that refuses to write it
refused-told : (f n : ℕ) → refused_by (unless (refuse f 0) (answered n)) ≡ f
refused-told zero n = refl
refused-told (suc f) n = refl

module _ (bs : List ℕ) (g : Settings) (a : Answer ℕ) (reply : check_of bs g ≡ answered a) (v : a.verdict ≡ broken) (p : Promises bs g a) where
  abbrev run : List ℕ
  run = shown bs a

  in-journal : a.row < length a.journal
  in-journal = omega (arith, p.counts.last_row v, p.counts.used-rows)

  -- a field of the row, whatever stands past the journal's end
  field-same : (f : Row ℕ → ℕ) (x y : Row ℕ) → f (get_or a.journal a.row x) ≡ f (get_or a.journal a.row y)
  field-same f x y = sym (get_d_map f x 0 a.journal a.row in-journal) ∙ get_d_map f y 0 a.journal a.row in-journal

  pub row-length : (broken_row a).len ≡ capped (length run)
  unfolding shown word_of
  row-length = field-same (λ x. x.len) zero_row _ ∙ (p.rows-mean a.row (omega (arith, p.counts.last_row v))).length-is

  pub row-relation : (broken_row a).effect ≡ word_relation states (automaton_of bs).transitions run
  unfolding shown
  row-relation =
      let order = (from-order bs g a reply).2 in
      let here = subst (λ (x : Answer ℕ). a.row < length x.journal) order in-journal in
      let M = forms_on states (automaton_of bs) in
      field-same (λ x. x.effect) zero_row (no_row M)
      ∙ ap (λ (x : Answer ℕ). (get_or x.journal a.row (no_row M)).effect) order
      ∙ sym (row-true bs g a.row here).relation-is
      ∙ ap (λ (x : Answer ℕ). word_relation states (automaton_of bs).transitions (word_behind words (rules_of bs) x.journal a.row)) (sym order)

  module _ (d old new : List ℕ) (r : ℕ) (t : ToldAnswer bs g d old new r a) where
    abbrev room : ℕ
    room = length old

    details-are : d ≡ 0 ∷ a.joins ∷ a.used ∷ a.pass ∷ a.row ∷ pairs states (broken_row a).effect ∷ (broken_row a).len ∷ refused_by (writing bs old a) ∷ []
    details-are = t.details ∙ ap (λ (x : Verdict). 0 ∷ a.joins ∷ a.used ∷ a.pass ∷ a.row ∷ last_three x (broken_row a) (writing bs old a)) v

    buffer-is : new ≡ written_by run old (writing bs old a)
    buffer-is = t.buffer ∙ ap (λ (x : Verdict). shown_by x (written_by run old (writing bs old a)) old) v

    length-told : told_length d ≡ capped (length run)
    length-told = ap told_length details-are ∙ row-length

    refusal-told : told_refused d ≡ room_fault run room
    refusal-told = ap told_refused details-are ∙ refused-told (room_fault run room) (length run)

    buffer-by : (f : ℕ) → room_fault run room ≡ f → new ≡ written_by run old (by_number f (refused (refuse f 0)) (answered (length run)))
    buffer-by f e = buffer-is ∙ ap (λ (x : ℕ). written_by run old (by_number x (refused (refuse x 0)) (answered (length run)))) e

    in_buffer : InBuffer bs g d old new r run
    unfolding capped
    in_buffer = by (room-cases run room)
      where
        by : ((room_fault run room ≡ 0) × (length run < long_word) × (length run ≤ room)) ⊎ ((room_fault run room ≡ 10) × ((long_word ≤ length run) ⊎ (room < length run)))
            → InBuffer bs g d old new r run
        by (inl (f, short, fits)) =
            let size : length run ≡ told_length d = omega (arith, length-told, short) in
            let New-is = buffer-by 0 f in
            record {
              written_or_not = inl (refusal-told ∙ f);
              refused-exactly = (λ e. absurd (suc-ne-zero 9 (sym e ∙ refusal-told ∙ f)), λ x. absurd (no x));
              refused-told = (λ e. absurd (suc-ne-zero 9 (sym e ∙ refusal-told ∙ f)), λ x. absurd (no-told x));
              first-bytes = λ e. ap (take (told_length d)) New-is ∙ take_at run (drop (length run) old) (told_length d) size;
              other-bytes = λ e. ap (drop (told_length d)) New-is ∙ drop_at run (drop (length run) old) (told_length d) size ∙ ap (λ (k : ℕ). drop k old) size;
              buffer-kept = λ e. absurd (suc-ne-zero 9 (sym e ∙ refusal-told ∙ f));
            }
          where
            no : (long_word ≤ length run) ⊎ (room < length run) → ⊥
            no (inl x) = omega (arith, x, short)
            no (inr x) = omega (arith, x, fits)

            no-told : (told_length d ≡ long_word) ⊎ (room < told_length d) → ⊥
            no-told (inl x) = omega (arith, x, short, length-told)
            no-told (inr x) = omega (arith, x, fits, short, length-told)
        by (inr (f, long)) =
            record {
              written_or_not = inr (refusal-told ∙ f);
              refused-exactly = (λ e. long, λ x. refusal-told ∙ f);
              refused-told = (λ e. told long, λ x. refusal-told ∙ f);
              first-bytes = λ e. absurd (suc-ne-zero 9 (sym f ∙ sym refusal-told ∙ e));
              other-bytes = λ e. absurd (suc-ne-zero 9 (sym f ∙ sym refusal-told ∙ e));
              buffer-kept = λ e. buffer-by 10 f;
            }
          where
            told : (long_word ≤ length run) ⊎ (room < length run) → (told_length d ≡ long_word) ⊎ (room < told_length d)
            told (inl x) = inl (omega (arith, x, length-told))
            told (inr x) = over (leb long_word (length run)) refl
              where
                over : (b : Bool) → leb long_word (length run) ≡ b → (told_length d ≡ long_word) ⊎ (room < told_length d)
                over true q = let g = leb-true long_word (length run) q in inl (omega (arith, g, length-told))
                over false q = let g = leb-false long_word (length run) q in inr (omega (arith, g, x, length-told))

    pub run-shown : Shows bs g d old new r (shown_head a) run
    run-shown =
        let pass-is : told_pass d ≡ a.pass = ap told_pass details-are in
        record {
          counterexample = p.one-verdict.broken-shows v;
          within = subst (λ (k : ℕ). DerivesWithin (productions_of bs) k (shown_head a) run) (sym pass-is) (p.least-height.shown-within v);
          none-lower = λ h l. p.least-height.none-lower v h (subst (λ (k : ℕ). h < k) pass-is l);
          pairs-are = ap told_pairs details-are ∙ ap (pairs states) row-relation;
          length-is = length-told;
          in_buffer = in_buffer;
        }

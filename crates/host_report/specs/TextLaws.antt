-- The lines that the code makes from the numbers of a check are the text of the check. Assumes nothing.
use Rattle.std.specs.Prelude.{◌≡◌, Bool, true, false, cond, ℕ, zero, suc, ◌≤◌, ◌<◌, leb, length, take, drop, replicate}
use Rattle.std.proofs.Math.Path.{refl, sym, ap}
use Rattle.std.proofs.Common.{◌∙◌, arith, length-take-le, lt-ltb, ne_eqb, leb-true, leb-false}
use mathlib.Core.List.{List, [], ◌∷◌, ◌++◌, map}
use Rattle.std.proofs.Math.ListN.{get_or, length-replicate, length-take, get_or-append}
use Rattle.std.proofs.lemmas.List.{length-map}
use Rattle.relation.specs.Relation.{states}
use Rattle.spec_file.specs.Refusals.{refuse, fault}
use Rattle.spec_file.specs.Views.{automaton_of}
use Rattle.spec_order.specs.Journal.{Row, no_row, capped}
use Rattle.spec_order.specs.Order.{Answer, Verdict, holds, broken, full, spent, empty}
use Rattle.spec_calls.specs.Base.{forms_on}
use Rattle.spec_calls.specs.Checking.{Settings, journal_limit, journal_fault, check_of, kept_by, journal_after, shown}
use Rattle.spec_calls.specs.Printing.{verdict_word, numbers_line, word_line, refused_line, line_one, line_two, line_three, broken_lines, lines_by, text_by, text_of}
use Rattle.spec_calls.proofs.Promising.{promises, broken-word, broken-writes}
use Rattle.spec_calls.specs.Replies.{Reply, refused, answered, unless}
use Rattle.spec_calls.specs.Rows.{row_of, settings_of}
use Rattle.spec_calls.specs.Writing.{word_of, write_of, buffer_after}
use Rattle.spec_calls.specs.declared.Options.{Options}
use Rattle.spec_calls.specs.declared.Row.{Row as LentRow}
use Rattle.spec_calls.specs.Codes.{verdict_code, refused_by}
use Rattle.host_result.specs.Fronts.{journal_of}
use Rattle.host_result.specs.Results.{numbers_in}
use Rattle.host_result.specs.declared.CheckResult.{CheckResult}
use Rattle.host_check.specs.Details.{zero_row, row_after, last_three, shown_by}
use Rattle.host_check.specs.Clauses.{Tells, ChecksAlone}
use Rattle.host_result.specs.LowNumbers.{LowIn, check-low}
use Rattle.host_lines.specs.Lines.{totals_line, row_line, run_by, run_line, broken_text, text_told}
use Rattle.host_lines.specs.LineLaws.{told-holds, told-full, told-spent, told-empty, told-broken, told-refused}
use Rattle.host_report.specs.RunLaws.{line-told, row_in, shows-run}

-- ---- the lent rows

module _ (n : ℕ) (x : LentRow) where
  pub few-rows : length (journal_of n x) ≤ journal_limit
  unfolding journal_of
  few-rows = omega (arith, length-take (cond (leb n journal_limit) n 0) (replicate journal_limit x), length-replicate journal_limit x)

  all-rows : n ≤ journal_limit → length (take n (replicate journal_limit x)) ≡ n
  all-rows l = length-take-le n (replicate journal_limit x) (omega (arith, length-replicate journal_limit x))

-- 8, for any number of rows that it refuses
refused-rows : (bs : List ℕ) (g : Settings) → journal_fault g.rows ≡ 8 → check_of bs g ≡ unless (fault bs) (refused (refuse 8 0))
unfolding check_of
refused-rows bs g e = rw e

too_many : (J : ℕ) → journal_limit < J → journal_fault J ≡ 8
unfolding journal_fault
too_many J h = rw (ne_eqb J 0 (λ e. omega arith), lt-ltb journal_limit J h)

none : journal_fault 0 ≡ 8
unfolding journal_fault
none = refl

-- the check answers the same over n rows and over the rows that are lent: n, or none where a journal may not have n
pub same_check : (bs : List ℕ) (n : ℕ) (x : LentRow) (o : Options) → check_of bs (settings_of (length (journal_of n x)) o) ≡ check_of bs (settings_of n o)
unfolding journal_of
same_check bs n x o = by (leb n journal_limit) refl
  where
    by : (b : Bool) → leb n journal_limit ≡ b → check_of bs (settings_of (length (take (cond (leb n journal_limit) n 0) (replicate journal_limit x))) o) ≡ check_of bs (settings_of n o)
    by true p = ap (λ (c : Bool). check_of bs (settings_of (length (take (cond c n 0) (replicate journal_limit x))) o)) p ∙ ap (λ (J : ℕ). check_of bs (settings_of J o)) (all-rows n x (leb-true n journal_limit p))
    by false p =
        ap (λ (c : Bool). check_of bs (settings_of (length (take (cond c n 0) (replicate journal_limit x))) o)) p
        ∙ refused-rows bs (settings_of 0 o) none ∙ sym (refused-rows bs (settings_of n o) (too_many n (leb-false n journal_limit p)))

-- ---- a row

get_d_any : {A : Type 0} (d d' : A) (xs : List A) (i : ℕ) → i < length xs → get_or xs i d ≡ get_or xs i d'
get_d_any d d' [] i h = absurd (omega arith)
get_d_any d d' (x ∷ xs) zero h = refl
get_d_any d d' (x ∷ xs) (suc i) h = get_d_any d d' xs i (omega arith)

-- ---- the lines

module _ (bs : List ℕ) (n : ℕ) (x : LentRow) (o : Options) (p : ℕ) (old new : List ℕ) (room : ℕ) (l : length old ≡ room) (t : CheckResult) (h : ChecksAlone bs n x o p old new t) where
  abbrev g : Settings
  g = settings_of (length (journal_of n x)) o

  abbrev before : List (Row ℕ)
  before = map row_of (journal_of n x)

  abbrev rows : List (Row ℕ)
  rows = journal_after bs g before

  module _ (a : Answer ℕ) (e : check_of bs g ≡ answered a) (k : Tells bs rows (answered a) (numbers_in t) old new t.code) where
    totals-are : (word : List ℕ) → totals_line word t ≡ word_line word (a.joins ∷ a.used ∷ a.pass ∷ [])
    unfolding totals_line
    totals-are word = ap (λ (d : List ℕ). word_line word (get_or d 1 0 ∷ get_or d 2 0 ∷ get_or d 3 0 ∷ [])) k.details

    module _ (v : a.verdict ≡ broken) where
      lent_rows : length before ≡ g.rows
      lent_rows = length-map (journal_of n x) row_of

      below : a.row < length a.journal
      below = row_in bs g (few-rows n x) a e v

      row_is : row_after rows a.row ≡ get_or a.journal a.row (no_row (forms_on states (automaton_of bs)))
      unfolding journal_after
      row_is =
          ap (λ (r : List (Row ℕ)). row_after r a.row) (ap (kept_by before) e)
          ∙ get_or-append a.journal (drop a.used before) zero_row a.row below
          ∙ get_d_any zero_row (no_row (forms_on states (automaton_of bs))) a.journal a.row below

      length-is : (row_after rows a.row).len ≡ capped (length (shown bs a))
      unfolding shown word_of
      length-is =
          ap (λ (r : Row ℕ). r.len) (row_is ∙ get_d_any _ _ a.journal a.row below)
          ∙ ((promises bs g a e).rows-mean a.row (omega (arith, below, (promises bs g a e).counts.used-rows))).length-is

      details : numbers_in t ≡ 0 ∷ a.joins ∷ a.used ∷ a.pass ∷ a.row ∷ last_three broken (row_after rows a.row) (write_of bs rows a.used a.row room)
      details =
          k.details
          ∙ ap (λ (u : Verdict). 0 ∷ a.joins ∷ a.used ∷ a.pass ∷ a.row ∷ last_three u (row_after rows a.row) (write_of bs rows a.used a.row (length old))) v
          ∙ ap (λ (m : ℕ). 0 ∷ a.joins ∷ a.used ∷ a.pass ∷ a.row ∷ last_three broken (row_after rows a.row) (write_of bs rows a.used a.row m)) l

      buffer : new ≡ buffer_after bs rows a.used a.row old
      buffer = k.buffer ∙ ap (λ (u : Verdict). shown_by u (buffer_after bs rows a.used a.row old) old) v

      row-line : row_line t ≡ line_two a.row (get_or a.journal a.row (no_row (forms_on states (automaton_of bs))))
      unfolding row_line line_two
      row-line = ap (λ (d : List ℕ). numbers_line (get_or d 4 0 ∷ get_or d 5 0 ∷ get_or d 6 0 ∷ [])) details ∙ ap (line_two a.row) row_is

      run-line : run_line t new ≡ line_three (buffer_after bs a.journal a.used a.row (replicate room 0)) (write_of bs a.journal a.used a.row room)
      unfolding run_line
      run-line =
          ap (λ (d : List ℕ). run_by (get_or d 7 0) (get_or d 6 0) new) details
          ∙ ap (run_by (refused_by (write_of bs rows a.used a.row room)) (row_after rows a.row).len) buffer
          ∙ line-told bs rows a.used a.row (shown bs a) (broken-word bs g a e v before lent_rows) room (broken-writes bs g a e v before lent_rows room) old l (row_after rows a.row).len length-is
          ∙ sym (shows-run bs g (few-rows n x) a e v room)

      broken-text : broken_text t new ≡ line_one broken a ++ broken_lines bs room a
      unfolding broken_text line_one broken_lines
      broken-text =
          ap (λ (xs : List ℕ). xs ++ (row_line t ++ run_line t new)) (totals-are (verdict_word broken))
          ∙ ap (λ (xs : List ℕ). line_one broken a ++ (xs ++ run_line t new)) row-line
          ∙ ap (λ (xs : List ℕ). line_one broken a ++ (line_two a.row (get_or a.journal a.row (no_row (forms_on states (automaton_of bs)))) ++ xs)) run-line

    code : (v : Verdict) → a.verdict ≡ v → t.code ≡ verdict_code v
    code v e = k.code ∙ ap verdict_code e

    answered-text : (v : Verdict) → a.verdict ≡ v → text_told t new ≡ lines_by v bs room a
    unfolding line_one
    answered-text holds v = sym (told-holds t new (code holds v)) ∙ totals-are (verdict_word holds)
    answered-text full v = let c = code full v in sym (told-full t new (λ z. omega arith) c) ∙ totals-are (verdict_word full)
    answered-text spent v = let c = code spent v in sym (told-spent t new (λ z. omega arith) (λ z. omega arith) c) ∙ totals-are (verdict_word spent)
    answered-text empty v =
        let c = code empty v in
        sym (told-empty t new (λ z. omega arith) (λ z. omega arith) (λ z. omega arith) c) ∙ totals-are (verdict_word empty)
    answered-text broken v =
        let c = code broken v in
        sym (told-broken t new (λ z. omega arith) (λ z. omega arith) (λ z. omega arith) (λ z. omega arith) c) ∙ broken-text v

  replied-text : (y : Reply (Answer ℕ)) → check_of bs g ≡ y → LowIn y → Tells bs rows y (numbers_in t) old new t.code → text_told t new ≡ text_by bs room y
  replied-text (refused r) e low k =
      let c = k.code in
      sym (told-refused t new (λ z. omega arith) (λ z. omega arith) (λ z. omega arith) (λ z. omega arith) (λ z. omega arith)) ∙ ap refused_line c
  replied-text (answered a) e low k = answered-text a e k a.verdict refl

  pub told_text : text_told t new ≡ text_of bs (settings_of n o) room
  unfolding text_of
  told_text = replied-text (check_of bs g) refl (check-low bs g) h.over.told ∙ ap (text_by bs room) (same_check bs n x o)

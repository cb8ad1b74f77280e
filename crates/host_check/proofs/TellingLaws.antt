-- What the code has in hand is what the host is to be told. Assumes nothing.
use Rattle.std.specs.Prelude.{◌≡◌, refl, Bool, cond, ℕ, zero, suc, ◌≤◌, ◌<◌, length, replicate}
use Rattle.std.proofs.Math.Path.{sym, ap, subst}
use Rattle.std.proofs.Common.{◌∙◌, arith, lt-ltb}
use mathlib.Core.List.{List, [], ◌∷◌, ◌++◌, map}
use Rattle.std.proofs.Math.ListN.{get_or, take, drop, get_or-append}
use Rattle.std.proofs.Math.Seq.{take-length}
use Rattle.spec_basics.specs.Lists.{get_d_map}
use Rattle.relation.specs.Relation.{states, pairs}
use Rattle.spec_file.specs.Refusals.{refuse, fault, by_number}
use Rattle.spec_file.specs.Views.{rules_of, automaton_of}
use Rattle.spec_order.specs.Journal.{absent, Row}
use Rattle.spec_order.specs.Order.{Answer, Verdict, broken}
use Rattle.spec_order.proofs.CheckTruth.{check-says}
use Rattle.spec_order.proofs.Truth.{SaysBy}
use Rattle.spec_calls.specs.Codes.{refused_by}
use Rattle.spec_calls.specs.Base.{members_of, words}
use Rattle.spec_calls.proofs.BaseLaws.{base-laws, word-sizes}
use Rattle.spec_calls.specs.Checking.{Settings, journal_limit, algebra_over, journal_fault, order_on, check_of, kept_by, journal_after}
use Rattle.spec_calls.proofs.Promising.{from-order}
use Rattle.spec_calls.specs.Replies.{Reply, refused, answered}
use Rattle.spec_calls.specs.Rows.{row_of, blank, Journal}
use Rattle.spec_calls.proofs.VerdictTruth.{head_at}
use Rattle.spec_calls.specs.Writing.{row_fault, word_of, write_of, written_by, buffer_after}
use Rattle.spec_calls.specs.declared.Options.{Options}
use Rattle.spec_calls.specs.declared.Row.{Row as LentRow}
use Rattle.search_laws.specs.Meanings.{verdict_of, answer_of}
use Rattle.search_laws.specs.declared.Answer.TheVariants as answer
use Rattle.search_laws.specs.declared.Totals.{Totals}
use Rattle.search_state.specs.declared.Unbroken.TheVariants as unbroken
use Rattle.search_state.specs.declared.Unbroken.{Unbroken}
use Rattle.std.specs.declared.result.Result.{Result}
use Rattle.spec_file.specs.declared.Refusal.{Refusal as Refused}
use Rattle.search_laws.specs.declared.Answer.{Answer as Answered}
use Rattle.std.specs.Prelude.{Ok, Err}
use Rattle.call_check.specs.Answers.{checked_of}
use Rattle.call_write.specs.Answers.{writing_of}
use Rattle.call_check.specs.Clauses.{settings_over, Checks}
use Rattle.call_write.specs.Clauses.{Writes}
use Rattle.host_result.specs.Fronts.{front_of, journal_of, rest_of, place_of, name_in}
use Rattle.host_result.specs.Results.{told_by, numbers_in}
use Rattle.host_check.specs.Details.{zero_row, if_broken, row_after, head_of}
use Rattle.host_check.specs.Clauses.{Tells, ChecksOver, ChecksAlone}
use Rattle.host_result.specs.declared.RowToWrite.{RowToWrite}
use Rattle.host_result.specs.declared.CheckResult.{CheckResult}

-- ---- the row of a broken answer

-- it is one of those used, of which the journal has no fewer
broken-used : (bs : List ℕ) (g : Settings) (a : Answer ℕ) → check_of bs g ≡ answered a → a.verdict ≡ broken → a.row < a.used
unfolding order_on
broken-used bs g a e v =
    let order = (from-order bs g a e).2 in
    let A = algebra_over states bs g in
    let says = (check-says A (base-laws states (members_of g.starts) (automaton_of bs)) words word-sizes (rules_of bs) g.rows g.budget).verdict in
    let s = subst (λ (x : Verdict). SaysBy A words (rules_of bs) x (order_on bs g)) (ap (λ (x : Answer ℕ). x.verdict) (sym order) ∙ v) says in
    subst (λ (x : Answer ℕ). x.row < x.used) (sym order) s.2

-- a row below the limit is shown itself
place-low : (i : ℕ) → i < journal_limit → place_of i ≡ i
place-low i l = ap (λ (b : Bool). cond b i 0) (lt-ltb i journal_limit l)

module _ (xs ys : Journal) (i : ℕ) where
  -- a row, read as the working order has it
  row_read : i < length (xs ++ ys) → row_of (get_or (xs ++ ys) i blank) ≡ row_after (map row_of xs ++ map row_of ys) i
  row_read l = sym (get_d_map row_of blank zero_row (xs ++ ys) i l) ∙ ap (λ (zs : List (Row ℕ)). get_or zs i zero_row) (both xs)
    where
      both : (zs : Journal) → map row_of (zs ++ ys) ≡ map row_of zs ++ map row_of ys
      both [] = refl
      both (z ∷ zs) = ap (λ (us : List (Row ℕ)). row_of z ∷ us) (both zs)

  -- one of the first ones
  row-front : i < length xs → row_of (get_or (xs ++ ys) i blank) ≡ row_after (map row_of xs) i
  row-front l = ap row_of (get_or-append xs ys blank i l) ∙ sym (get_d_map row_of blank zero_row xs i l)

-- ---- no run

-- of a row that is not used nothing is written
unwritten : (bs : List ℕ) (rows : List (Row ℕ)) (old : List ℕ) → buffer_after bs rows 0 0 old ≡ old
unfolding buffer_after write_of row_fault
unwritten bs rows old = by (fault bs).number (journal_fault (length rows))
  where
    w : List ℕ
    w = word_of bs rows 0

    by : (f g : ℕ) → written_by w old (by_number f (refused (fault bs)) (by_number g (refused (refuse (journal_fault (length rows)) 0)) (refused (refuse 9 0)))) ≡ old
    by zero zero = refl
    by zero (suc g) = refl
    by (suc f) g = refl

-- no more bytes of the file are given to the writing than it has
pub few_bytes : (c : Result Answered Refused) (s : ℕ) → (name_in c s).bytes ≤ s
few_bytes (Err r) s = omega arith
few_bytes (Ok (answer.Ended v n)) s = omega arith
few_bytes (Ok (answer.Broken i n)) s = omega arith

-- a verdict that shows no row is not broken
pub unbroken-shows-none : {A : Type 0} (v : Unbroken) (x y : A) → if_broken (verdict_of v) x y ≡ y
unbroken-shows-none unbroken.Holds x y = refl
unbroken-shows-none unbroken.Full x y = refl
unbroken-shows-none unbroken.Spent x y = refl
unbroken-shows-none unbroken.Empty x y = refl

-- ---- a broken answer, over the journal before and after the check

module _ (bs : List ℕ) (o : Options) (before after : Journal) (as_many : length after ≡ length before) (i : ℕ) (n : Totals) (h : Checks bs o before after (Ok (answer.Broken i n))) where
  abbrev said : Answer ℕ
  said = answer_of row_of (answer.Broken i n) after

  used-there : i < n.used
  used-there = broken-used bs (settings_over o before) _ (sym h.answer) refl

  -- the journal has its row
  pub row-there : i < length after
  row-there = omega (arith, used-there, (h.promises _ (sym h.answer)).counts.rows_bound, as_many)

  -- whose nonterminal is told
  pub head-there : (row_after (map row_of after) i).head ≡ head_of (answered said)
  unfolding journal_after
  head-there =
      ap (λ (x : Row ℕ). x.head)
      (ap (λ (xs : List (Row ℕ)). row_after xs i) (h.journal ∙ ap (kept_by (map row_of before)) (sym h.answer))
      ∙ get_or-append said.journal (drop n.used (map row_of before)) zero_row i (omega (arith, used-there, (h.promises _ (sym h.answer)).counts.used-rows)))
      ∙ sym (head_at said.journal i zero_row)

-- ---- the whole reply

module _ (bs : List ℕ) (o : Options) (before after rest : Journal) (few : length before ≤ journal_limit) (as_many : length after ≡ length before) (old new : List ℕ) (w : Result ℕ Refused) (y : LentRow) where
  -- the row that is named, and the bytes that the writing is given
  abbrev name : Result Answered Refused → RowToWrite
  name c = name_in c (length bs)

  -- with that row
  abbrev tale : Result Answered Refused → CheckResult
  tale c = told_by c (get_or (after ++ rest) (place_of (name c).row) blank) y (refused_by (writing_of w))

  -- over the journal as it stands then
  tells : (c : Result Answered Refused) → Checks bs o before after c → Writes (take (name c).bytes bs) (map row_of after) (name c).used (name c).row old new w
      → Tells bs (map row_of after) (checked_of c after) (numbers_in (tale c)) old new (tale c).code
  tells (Err r) h v = record { code = refl; details = refl; buffer = v.buffer ∙ unwritten [] (map row_of after) old }
  tells (Ok (answer.Ended x n)) h v =
      record {
        code = refl;
        details = ap (λ (l : List ℕ). 0 ∷ n.joins ∷ n.used ∷ n.pass ∷ absent ∷ l) (sym (unbroken-shows-none x _ (0 ∷ 0 ∷ 0 ∷ [])));
        buffer = v.buffer ∙ unwritten [] (map row_of after) old ∙ sym (unbroken-shows-none x _ old);
      }
  tells (Ok (answer.Broken i n)) h u =
      let v = subst (λ (xs : List ℕ). Writes xs (map row_of after) n.used i old new w) (take-length bs) u in
      let low = row-there bs o before after as_many i n h in
      let here = ap (λ (k : ℕ). row_of (get_or (after ++ rest) k blank)) (place-low i (omega (arith, low, as_many, few))) ∙ row-front after rest i low in
      record {
        code = refl;
        details =
            ap (λ (x : Row ℕ). 0 ∷ n.joins ∷ n.used ∷ n.pass ∷ i ∷ pairs states x.effect ∷ x.len ∷ refused_by (writing_of w) ∷ []) here
            ∙ ap (λ (z : Reply ℕ). 0 ∷ n.joins ∷ n.used ∷ n.pass ∷ i ∷ pairs states (row_after (map row_of after) i).effect ∷ (row_after (map row_of after) i).len ∷ refused_by z ∷ []) v.answer;
        buffer = v.buffer;
      }

  -- of the check
  tells-check : (c : Result Answered Refused) → Checks bs o before after c → Writes (take (name c).bytes bs) (map row_of after) (name c).used (name c).row old new w
      → ChecksOver bs before o (numbers_in (tale c)) old new (tale c).code
  tells-check c h v =
      record {
        told =
            subst (λ (z : Reply (Answer ℕ)). Tells bs (journal_after bs (settings_over o before) (map row_of before)) z (numbers_in (tale c)) old new (tale c).code) h.answer
            (subst (λ (rows : List (Row ℕ)). Tells bs rows (checked_of c after) (numbers_in (tale c)) old new (tale c).code) h.journal (tells c h v));
        promises = h.promises;
      }

  -- the nonterminal of the row
  head-told : (c : Result Answered Refused) → Checks bs o before after c → (tale c).head ≡ head_of (check_of bs (settings_over o before))
  head-told c h = by c h ∙ ap head_of h.answer
    where
      by : (c : Result Answered Refused) → Checks bs o before after c → (tale c).head ≡ head_of (checked_of c after)
      by (Err r) h = refl
      by (Ok (answer.Ended x n)) h = sym (unbroken-shows-none x _ 0)
      by (Ok (answer.Broken i n)) h =
          let low = row-there bs o before after as_many i n h in
          ap (λ (k : ℕ). (row_of (get_or (after ++ rest) k blank)).head) (place-low i (omega (arith, low, as_many, few))) ∙ ap (λ (x : Row ℕ). x.head) (row-front after rest i low) ∙ head-there bs o before after as_many i n h

-- the sample is told
sample-told : (c : Result Answered Refused) (x y : LentRow) (f : ℕ) → (told_by c x y f).sample ≡ y
sample-told (Err r) x y f = refl
sample-told (Ok (answer.Ended v n)) x y f = refl
sample-told (Ok (answer.Broken i n)) x y f = refl

-- ---- as the code has it all in hand

module _ (bs : List ℕ) (n : ℕ) (old : LentRow) (o : Options) (p : ℕ) (before after : List ℕ) where
  -- xs: the array before the check. m: the rows lent. zs: its first m rows after it. c: what the check answered. d: what is to be written,
  -- and i: the row to show. k: the sample row. w: what writing answered. r: the result
  pub tells-alone : (xs : Journal) → xs ≡ replicate journal_limit old → (m : ℕ) → (m ≡ front_of n) × (m ≤ journal_limit) → length (take m xs) ≡ m
      → (zs : Journal) → length zs ≡ m → length (zs ++ drop m xs) ≡ journal_limit → (c : Result Answered Refused) → Checks bs o (take m xs) zs c
      → (d : RowToWrite) → d ≡ name_in c (length bs) → (i : ℕ) → i ≡ place_of d.row → (k : ℕ) → (k ≡ place_of p) × (k < journal_limit) → (w : Result ℕ Refused) → Writes (take d.bytes bs) (map row_of zs) d.used d.row before after w
      → (r : CheckResult) → r ≡ told_by c (get_or (zs ++ drop m xs) i blank) (get_or (zs ++ drop m xs) k blank) (refused_by (writing_of w)) → ChecksAlone bs n old o p before after r
  unfolding journal_of rest_of
  tells-alone xs e m em lent zs back all c h d ed i ei k ek w v r er =
      let front : take m xs ≡ journal_of n old = ap (λ (j : Journal). take m j) e ∙ ap (λ (u : ℕ). take u (replicate journal_limit old)) em.0 in
      let rest : drop m xs ≡ rest_of n old = ap (λ (j : Journal). drop m j) e ∙ ap (λ (u : ℕ). drop u (replicate journal_limit old)) em.0 in
      let v' = subst (λ (z : RowToWrite). Writes (take z.bytes bs) (map row_of zs) z.used z.row before after w) ed v in
      let y = get_or (zs ++ drop m xs) k blank in
      let f = refused_by (writing_of w) in
      let same : told_by c (get_or (zs ++ drop m xs) (place_of (name_in c (length bs)).row) blank) y f ≡ r =
      ap (λ (u : ℕ). told_by c (get_or (zs ++ drop m xs) u blank) y f) (sym (ei ∙ ap (λ (z : RowToWrite). place_of z.row) ed)) ∙ sym er in
      let t = tells-check bs o (take m xs) zs (drop m xs) (omega (arith, lent, em.1)) (back ∙ sym lent) before after w y c h v' in
      record {
        over =
            subst (λ (j : Journal). ChecksOver bs j o (numbers_in r) before after r.code) front
            (subst (λ (z : CheckResult). ChecksOver bs (take m xs) o (numbers_in z) before after z.code) same t);
        head =
            subst (λ (j : Journal). r.head ≡ head_of (check_of bs (settings_over o j))) front
            (subst (λ (z : CheckResult). z.head ≡ head_of (check_of bs (settings_over o (take m xs)))) same
            (head-told bs o (take m xs) zs (drop m xs) (omega (arith, lent, em.1)) (back ∙ sym lent) before after w y c h));
        sample =
            ap (λ (z : CheckResult). row_of z.sample) er ∙ ap row_of (sample-told c (get_or (zs ++ drop m xs) i blank) y f)
            ∙ row_read zs (drop m xs) k (omega (arith, ek.1, all))
            ∙ ap (λ (rows : List (Row ℕ)). row_after (rows ++ map row_of (drop m xs)) k) h.journal
            ∙ ap (λ (j : Journal). row_after (journal_after bs (settings_over o j) (map row_of j) ++ map row_of (drop m xs)) k) front
            ∙ ap (λ (j : Journal). row_after (journal_after bs (settings_over o (journal_of n old)) (map row_of (journal_of n old)) ++ map row_of j) k) rest
            ∙ ap (row_after (journal_after bs (settings_over o (journal_of n old)) (map row_of (journal_of n old)) ++ map row_of (rest_of n old))) ek.0;
      }

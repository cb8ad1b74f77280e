-- What the contract of a check says of each reply, a refusal or an answer: the number, the details and the buffer, as functions of the reply, of
-- the file and of the buffer. The journal's size and the budget are not in them. Assumes nothing.
use Rattle.std.specs.Prelude.{◌≡◌, refl, ◌⊎◌, Bool, true, false, ◌||◌, cond, ℕ, zero, suc, ◌≤◌, ◌<◌, eqb, ltb, get_or, drop}
use Rattle.std.proofs.Common.{sym, ◌∙◌, subst, inl, inr, suc-ne-zero, arith, eqb-true, ltb-true, ne_eqb, eq-eqb, lt-ltb}
use Rattle.std.proofs.Math.Path.{ap, ap₂}
use mathlib.Core.List.{List, [], ◌∷◌}
use Rattle.std.proofs.Math.ListN.{length, length-replicate, get_or-append}
use Rattle.spec_file.specs.Refusals.{Refusal, refuse, fault, by_number}
use Rattle.spec_order.specs.Journal.{Row}
use Rattle.spec_order.specs.Order.{Answer, Verdict, holds, broken, full, spent, empty}
use Rattle.spec_calls.specs.Checking.{Settings, journal_limit, journal_fault, order_on, check_of, kept_by, journal_after, shown}
use Rattle.spec_calls.proofs.Promising.{promises, broken-word, broken-writes}
use Rattle.spec_calls.specs.Replies.{Reply, refused, answered, unless}
use Rattle.spec_calls.specs.Writing.{room_fault, written_by, buffer_after}
use Rattle.spec_calls.specs.Codes.{first_answer_code, holds_code, broken_code, full_code, empty_code, verdict_code, code_by}
use Rattle.host_check.specs.Details.{zero_row, answer_code, row_after, last_three, details_of, shown_by, shown_of}
use Rattle.bolfrega.specs.BrokenLaws.{if-broken-same}
use Rattle.bolfrega.specs.Clauses.{zero_rows, ChecksZeros}
use Rattle.bolfrega.specs.Hosts.{RowsRefused}
use Rattle.host_result.specs.LowNumbers.{LowIn, check-low}

-- ---- the numbers of the verdicts

-- the verdict of a number, and back
abbrev verdict_at : ℕ → Verdict
verdict_at n = cond (eqb n holds_code) holds (cond (eqb n broken_code) broken (cond (eqb n full_code) full (cond (eqb n empty_code) empty spent)))

verdict-back : (v : Verdict) → verdict_at (verdict_code v) ≡ v
verdict-back holds = refl
verdict-back broken = refl
verdict-back full = refl
verdict-back spent = refl
verdict-back empty = refl

pub same-verdict : (v x : Verdict) → verdict_code v ≡ verdict_code x → v ≡ x
same-verdict v x e = sym (verdict-back v) ∙ ap verdict_at e ∙ verdict-back x

pub verdict-high : (v : Verdict) → first_answer_code ≤ verdict_code v
verdict-high holds = omega arith
verdict-high broken = omega arith
verdict-high full = omega arith
verdict-high spent = omega arith
verdict-high empty = omega arith

-- ---- an answer, as the host has it: with no journal

-- a row that breaks
abbrev pub broken_row : Answer ℕ → Row ℕ
broken_row a = get_or a.journal a.row zero_row

module _ (bs old : List ℕ) (a : Answer ℕ) where
  -- writing the shown word: 10 or its length
  abbrev pub writing : Reply ℕ
  writing = unless (refuse (room_fault (shown bs a) (length old)) 0) (answered (length (shown bs a)))

  abbrev pub answer_details : List ℕ
  answer_details = 0 ∷ a.joins ∷ a.used ∷ a.pass ∷ a.row ∷ last_three a.verdict (broken_row a) writing

  abbrev pub answer_buffer : List ℕ
  answer_buffer = shown_by a.verdict (written_by (shown bs a) old writing) old

-- after a check over these rows the contract says the same, of the journal
module _ (bs old : List ℕ) (g : Settings) (rows : List (Row ℕ)) (size : length rows ≡ g.rows) (a : Answer ℕ) (e : check_of bs g ≡ answered a) where
  abbrev after : List (Row ℕ)
  after = journal_after bs g rows

  row_same : a.verdict ≡ broken → row_after after a.row ≡ broken_row a
  unfolding journal_after
  row_same v =
      let c = (promises bs g a e).counts in
      ap (λ (xs : List (Row ℕ)). row_after xs a.row) (ap (kept_by rows) e)
      ∙ get_or-append a.journal (drop a.used rows) zero_row a.row (omega (arith, c.last_row v, c.used-rows))

  pub details-same : details_of bs after (length old) (answered a) ≡ answer_details bs old a
  details-same =
      ap (λ (xs : List ℕ). 0 ∷ a.joins ∷ a.used ∷ a.pass ∷ a.row ∷ xs)
      (if-broken-same a.verdict _ _ (0 ∷ 0 ∷ 0 ∷ []) (λ q. ap₂ (λ (x : Row ℕ) (w : Reply ℕ). last_three broken x w) (row_same q) (broken-writes bs g a e q rows size (length old))))

  pub buffer-same : shown_of bs after old (answered a) ≡ answer_buffer bs old a
  unfolding buffer_after
  buffer-same =
      if-broken-same a.verdict _ _ old (λ q. ap₂ (λ (w : List ℕ) (x : Reply ℕ). written_by w old x) (broken-word bs g a e q rows size) (broken-writes bs g a e q rows size (length old)))

-- ---- why a call is refused

-- the refusal y is x, or else that of the number g
abbrev pub Why : Refusal → ℕ → Refusal → Type 0
Why x g y = ((x.number ≡ 0 → ⊥) × (y ≡ x)) ⊎ ((x.number ≡ 0) × ((g ≡ 0 → ⊥) × (y ≡ refuse g 0)))

-- a reply that x refuses, or else g, or else neither
module _ {A : Type 0} (x : Refusal) (g : ℕ) (a : A) where
  refused-same : (y z : Refusal) → ◌≡◌ {A = Reply A} (refused y) (refused z) → z ≡ y
  refused-same y z e = cc

  answered-refused : (b : A) (y : Refusal) → answered b ≡ refused y → ⊥
  answered-refused b y e = let z : ◌≡◌ {A = ℕ} 0 1 = cc in omega (arith, z)

  pub why : (y : Refusal) → unless x (unless (refuse g 0) (answered a)) ≡ refused y → Why x g y
  why y e = by x.number refl e
    where
      next : (n : ℕ) → g ≡ n → x.number ≡ 0 → by_number n (refused (refuse g 0)) (answered a) ≡ refused y → Why x g y
      next zero p z q = absurd (answered-refused a y q)
      next (suc n) p z q = inr (z, (λ k. suc-ne-zero n (sym p ∙ k), refused-same (refuse g 0) y q))

      by : (n : ℕ) → x.number ≡ n → by_number n (refused x) (unless (refuse g 0) (answered a)) ≡ refused y → Why x g y
      by zero p q = next g refl p q
      by (suc n) p q = inl (λ z. suc-ne-zero n (sym p ∙ z), refused-same x y q)

  pub why-not : (b : A) → unless x (unless (refuse g 0) (answered a)) ≡ answered b → (x.number ≡ 0) × (g ≡ 0)
  why-not b e = by x.number refl e
    where
      next : (n : ℕ) → g ≡ n → x.number ≡ 0 → by_number n (refused (refuse g 0)) (answered a) ≡ answered b → (x.number ≡ 0) × (g ≡ 0)
      next zero p z q = (z, p)
      next (suc n) p z q = absurd (answered-refused b (refuse g 0) (sym q))

      by : (n : ℕ) → x.number ≡ n → by_number n (refused x) (unless (refuse g 0) (answered a)) ≡ answered b → (x.number ≡ 0) × (g ≡ 0)
      by zero p q = next g refl p q
      by (suc n) p q = absurd (answered-refused b x (sym q))

-- ---- 8

pub rows-refused : (n : ℕ) → (journal_fault n ≡ 0 → ⊥) → RowsRefused n × (journal_fault n ≡ 8)
unfolding journal_fault
rows-refused n h = by (eqb n 0) (ltb journal_limit n) refl refl
  where
    by : (a b : Bool) → eqb n 0 ≡ a → ltb journal_limit n ≡ b → RowsRefused n × (◌≡◌ {A = ℕ} (cond (eqb n 0 || ltb journal_limit n) 8 0) 8)
    by true b p q = (inl (eqb-true n 0 p), rw p)
    by false true p q = (inr (ltb-true journal_limit n q), rw (p, q))
    by false false p q = absurd (h (rw (p, q)))

pub refused-rows : (n : ℕ) → RowsRefused n → journal_fault n ≡ 0 → ⊥
unfolding journal_fault
refused-rows n (inl z) e = suc-ne-zero 7 (sym (ap (λ (b : Bool). cond (b || ltb journal_limit n) 8 0) (eq-eqb n 0 z)) ∙ e)
refused-rows n (inr l) e =
    suc-ne-zero 7
    (sym (ap₂ (λ (a b : Bool). cond (a || b) 8 0) (ne_eqb n 0 (λ z. omega arith)) (lt-ltb journal_limit n l)) ∙ e)

pub why-refused : (bs : List ℕ) (g : Settings) (y : Refusal) → check_of bs g ≡ refused y → Why (fault bs) (journal_fault g.rows) y
unfolding check_of
why-refused bs g y e = why (fault bs) (journal_fault g.rows) (order_on bs g) y e

-- ---- the reply to a check that met its contract

module _ (bs : List ℕ) (g : Settings) (d old new : List ℕ) (r : ℕ) where
  pub record ToldRefusal (y : Refusal) : Type 0 where
    pub reply : check_of bs g ≡ refused y
    pub low : r < first_answer_code
    pub number : r ≡ y.number
    pub details : d ≡ y.place ∷ 0 ∷ 0 ∷ 0 ∷ 0 ∷ 0 ∷ 0 ∷ 0 ∷ []
    pub buffer : new ≡ old

  pub record ToldAnswer (a : Answer ℕ) : Type 0 where
    pub reply : check_of bs g ≡ answered a
    pub number : r ≡ verdict_code a.verdict
    pub details : d ≡ answer_details bs old a
    pub buffer : new ≡ answer_buffer bs old a

  module _ (h : ChecksZeros bs g d old new r) where
    pub told-refusal : (y : Refusal) → check_of bs g ≡ refused y → ToldRefusal y
    told-refusal y e =
        let rows = journal_after bs g (zero_rows g.rows) in
        let n = h.told.code ∙ ap (code_by answer_code) e in
        record {
          reply = e;
          low = subst (λ (k : ℕ). k < first_answer_code) (sym n) (subst LowIn e (check-low bs g));
          number = n;
          details = h.told.details ∙ ap (details_of bs rows (length old)) e;
          buffer = h.told.buffer ∙ ap (shown_of bs rows old) e;
        }

    pub told-answer : (a : Answer ℕ) → check_of bs g ≡ answered a → ToldAnswer a
    unfolding zero_rows
    told-answer a e =
        let size : length (zero_rows g.rows) ≡ g.rows = length-replicate g.rows zero_row in
        let rows = journal_after bs g (zero_rows g.rows) in
        record {
          reply = e;
          number = h.told.code ∙ ap (code_by answer_code) e;
          details = h.told.details ∙ ap (details_of bs rows (length old)) e ∙ details-same bs old g (zero_rows g.rows) size a e;
          buffer = h.told.buffer ∙ ap (shown_of bs rows old) e ∙ buffer-same bs old g (zero_rows g.rows) size a e;
        }

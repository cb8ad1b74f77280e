-- What a file, a run and a table that are not refused have; and the answers of the call. Assumes nothing.
use Rattle.std.specs.Prelude.{◌≡◌, Bool, true, false, not, cond, List, [], ◌∷◌, ℕ, zero, suc, ◌+◌, ◌-◌, ◌≤◌, ◌<◌, eqb, leb, ltb, length, get_or}
use Rattle.std.proofs.Common.{sym, ap, ◌∙◌, subst, not-suc-le-zero, le_of_suc-le-suc, div-one, arith, le-ltb, eq-eqb, leb-false, ltb-false, eqb-true}
use Rattle.std.specs.Int.Bits.{bit_and}
use Rattle.spec_basics.specs.Tests.{or-neither, not-fails}
use Rattle.spec_basics.specs.Lists.{in-getD}
use Rattle.relation.specs.Digits.{bit}
use Rattle.spec_language.specs.Grammar.{Rule, Production, no_rule, initial}
use Rattle.spec_language.specs.Rewriting.{Language}
use Rattle.spec_file.specs.Limits.{terminals, nonterminals}
use Rattle.spec_file.specs.declared.Refusal.{Refusal as RefusalAnswer}
use Rattle.spec_file.specs.Answers.{refusal_of}
use Rattle.spec_file.specs.Refusals.{Refusal, first_of, fault}
use Rattle.spec_file.proofs.RefusalLaws.{number-some, number-none, not-held, none-refuses, fault-some}
use Rattle.spec_file.specs.Views.{rules_of, productions_of}
use Rattle.spec_file.proofs.EntryLaws.{rules-length, rule-read}
use Rattle.spec_file.proofs.Ranges.{rule-in-range}
use Rattle.spec_calls.specs.Replies.{refused, answered, unless}
use Rattle.spec_calls.proofs.ReplyLaws.{reply-first}
use Rattle.spec_calls.specs.Judging.{word_fault}
use Rattle.spec_calls.specs.Recognizing.{run_limit, row_start, cell, stretch_cells, TableShows, run_fault, table_fault, recognize_refusals, recognize_of, RecognizeMeans}
use Rattle.call_judge.specs.Letters.{strays}
use Rattle.call_judge.specs.Judgements.{terminals-alone}
use Rattle.member_laws.specs.Sets.{Heads}
use Rattle.relation.specs.DigitLaws.{digit-of}
use Rattle.member_laws.specs.SliceLaws.{slice-whole}

-- ---- 13 and 14

pub short-enough : (w : List ℕ) → length w ≤ run_limit → run_fault w ≡ 0
unfolding run_fault
short-enough w h = ap (λ (b : Bool). cond b 13 0) (le-ltb run_limit (length w) h)

pub that-size : (cells : ℕ) → cells ≡ stretch_cells → table_fault cells ≡ 0
unfolding table_fault
that-size cells h = ap (λ (b : Bool). cond (not b) 14 0) (eq-eqb cells stretch_cells h)

run_short : (w : List ℕ) → run_fault w ≡ 0 → length w ≤ run_limit
unfolding run_fault
run_short w e = ltb-false run_limit (length w) (not-held (ltb run_limit (length w)) 12 e)

table-size : (cells : ℕ) → table_fault cells ≡ 0 → cells ≡ stretch_cells
unfolding table_fault
table-size cells e = eqb-true cells stretch_cells (not-fails (eqb cells stretch_cells) (not-held (not (eqb cells stretch_cells)) 13 e))

-- ---- where nothing is refused

pub heads-low : (bs : List ℕ) → (fault bs).number ≡ 0 → Heads (rules_of bs)
heads-low bs v r m =
    let k = in-getD r no_rule (rules_of bs) m in
    let h = subst (λ (n : ℕ). k.0 < n) (rules-length bs v) k.1 in
    subst (λ (x : Rule). x.head < nonterminals) (sym (rule-read bs v k.0 h) ∙ k.2) (rule-in-range bs v k.0 h).head

none-strays : (w : List ℕ) → strays w ≡ false → (k : ℕ) → k < length w → get_or w k 0 < terminals
none-strays [] e k h = absurd (not-suc-le-zero h)
none-strays (c ∷ w) e zero h = leb-false terminals c (or-neither (leb terminals c) (strays w) e).0
none-strays (c ∷ w) e (suc k) h = none-strays w (or-neither (leb terminals c) (strays w) e).1 k (le_of_suc-le-suc h)

pub letters-low : (w : List ℕ) → word_fault w ≡ 0 → (k : ℕ) → k < length w → get_or w k 0 < terminals
letters-low w e = none-strays w (terminals-alone w e)

-- ---- the answer

-- the cell of the whole run
whole-cell : (w : List ℕ) → cell 0 (length w) ≡ length w
unfolding row_start
whole-cell w = let z : 0 + (length w - 0) ≡ length w = omega arith in z

whole-means : (rules : List Production) (w table : List ℕ) → TableShows rules w table → (b : Bool) → bit (get_or table (length w) 0) initial ≡ b
    → (b ≡ true → Language rules initial w) × (Language rules initial w → b ≡ true)
whole-means rules w table s b e =
    let q = s.within 0 (length w) initial (omega arith) (omega arith) (omega arith) in
    let c : bit (get_or table (cell 0 (length w)) 0) initial ≡ b = ap (λ (x : ℕ). bit (get_or table x 0) initial) (whole-cell w) ∙ e in
    ((λ t. subst (Language rules initial) (slice-whole w) (q.0 (c ∙ t))), (λ d. sym c ∙ q.1 (subst (Language rules initial) (sym (slice-whole w)) d)))

module _ (bs w : List ℕ) (cells : ℕ) (after : List ℕ) where
  -- the first refusal of the call
  abbrev pub refusal : Refusal
  refusal = first_of (recognize_refusals bs w cells)

  abbrev last : Bool
  last = bit (get_or after (cell 0 (length w)) 0) initial

  by-refusal : recognize_of bs w cells after ≡ unless refusal (answered last)
  unfolding recognize_of
  by-refusal = reply-first (recognize_refusals bs w cells) last

  pub refused-by : (refusal.number ≡ 0 → ⊥) → refused refusal ≡ recognize_of bs w cells after
  refused-by h = sym (by-refusal ∙ number-some (refused refusal) (answered last) refusal.number h)

  -- as the code has it
  pub refused_as : (x : RefusalAnswer) → refusal_of x ≡ refusal → refused (refusal_of x) ≡ recognize_of bs w cells after
  refused_as x e = ap refused e ∙ refused-by (λ z. fault-some x.fault (ap (λ (r : Refusal). r.number) e ∙ z))

  -- nothing refuses the call
  module _ (e : refusal.number ≡ 0) where
    pub passed : ((fault bs).number ≡ 0) × (word_fault w ≡ 0) × (length w ≤ run_limit) × (cells ≡ stretch_cells)
    passed = let n = none-refuses (recognize_refusals bs w cells) e in (n.0, n.1.0, run_short w n.1.1.0, table-size cells n.1.1.1.0)

    -- the lowest bit of the cell of the whole run
    module _ (b : Bool) (t : eqb (bit_and (get_or after (length w) 0) 1) 1 ≡ b) where
      whole-bit : bit (get_or after (length w) 0) initial ≡ b
      whole-bit = sym (digit-of (get_or after (length w) 0) 0) ∙ ap (λ (y : ℕ). eqb (bit_and y 1) 1) (div-one (get_or after (length w) 0)) ∙ t

      pub answered-by : answered b ≡ recognize_of bs w cells after
      answered-by =
          ap answered (sym (ap (λ (y : ℕ). bit (get_or after y 0) initial) (whole-cell w) ∙ whole-bit))
          ∙ sym (by-refusal ∙ number-none (refused refusal) (answered last) refusal.number e)

      pub answered-means : (before : List ℕ) → TableShows (productions_of bs) w after → RecognizeMeans bs w before after (answered b)
      answered-means before s = (whole-means (productions_of bs) w after s b whole-bit, s)

-- What writing gives is true: a word that is written derives from the nonterminal of its row, whoever made the journal (demand 2); and after a
-- broken check it is the shown word, whatever the journal held before, with 10 as the only refusal. Assumes nothing.
use Rattle.std.proofs.Math.Path.{◌≡◌, refl, sym, ap, ap₂}
use Rattle.std.proofs.Common.{◌∙◌, subst, inl, inr, le_refl, not-suc-le-zero, suc-ne-zero, length-append, length-drop, take_at}
use Rattle.std.specs.Prelude.{◌⊎◌, Bool, ◌||◌, cond, eqb, leb, ltb, drop}
use Rattle.std.proofs.Math.Bool.{true, false, not}
use mathlib.Core.List.{List, [], ◌++◌, map, append-nil}
use Prim.Native.Nat.{ℕ, zero, suc, ◌+◌, ◌≤◌, ◌<◌}
use native.Mathlib.Omega.{arith}
use Rattle.std.proofs.Math.ListN.{length, get_or}
use borrow.Author.Tests.{eqb-true, leb-true, leb-false, ltb-true, ltb-false, lt-ltb, le-ltb}
use Rattle.spec_basics.specs.Lists.{getD-in}
use Rattle.spec_basics.specs.Tests.{and_intro, and-fst, and-snd, or-neither, not-fails}
use Rattle.relation.specs.Relation.{states}
use Rattle.spec_language.specs.Grammar.{Symbol, terminal, nonterminal, Body, empty, one, two, symbols, Production, Rule, production_of, no_rule}
use Rattle.spec_language.specs.Rewriting.{Language}
use Rattle.spec_language.specs.Spelling.{SpellsSymbol, Spells, DerivesWithin}
use Rattle.spec_language.proofs.Agreement.{within-le, within-steps}
use Rattle.spec_language.proofs.RuleLaws.{of-rule}
use Rattle.spec_file.specs.Refusals.{refuse, fault}
use Rattle.spec_file.specs.Views.{rules_of, productions_of, automaton_of}
use Rattle.spec_order.specs.Algebra.{Forms, Algebra}
use Rattle.spec_order.specs.Journal.{Row, no_row}
use Rattle.spec_order.specs.Behind.{symbol_word, body_word, words_of, word_behind}
use Rattle.spec_order.proofs.BehindLaws.{behind_more, behind-body}
use Rattle.spec_order.specs.Fitting.{pointer_fits, row_fits, all_rows_fit}
use Rattle.spec_order.proofs.FittingLaws.{FitThrough, PointersFit, body_at, fitting, fit-through}
use Rattle.spec_order.proofs.FittingRows.{keeps-more, fits_on}
use Rattle.spec_order.specs.Order.{Answer, broken}
use Rattle.spec_calls.specs.Base.{forms_on, words}
use Rattle.spec_calls.specs.Checking.{Settings, algebra_over, journal_fault, order_on, check_of, journal_after, shown}
use Rattle.spec_calls.specs.DemandThree.{Counts, WritesShown}
use Rattle.spec_calls.proofs.JournalTruth.{row-true}
use Rattle.spec_calls.specs.Replies.{Reply, refused, answered, unless}
use Rattle.spec_calls.proofs.ReplyLaws.{reply-answers}
use Rattle.spec_calls.specs.Writing.{long_word, row_fault, room_fault, row_on, word_of, write_of, written_by, buffer_after, WordMeans, write_refusals}

-- ---- rows that fit derive the words behind them

module _ (rules : List Rule) (M : Forms ℕ) (rows : List (Row ℕ)) where
  abbrev productions : List Production
  productions = map production_of rules

  -- each row below i derives its word
  abbrev Below : ℕ → Type 0
  Below i = (j : ℕ) → j < i → DerivesWithin productions (suc j) (get_or rows j (no_row M)).head (word_behind words rules rows j)

  symbol-spells : (i : ℕ) (s : Symbol) (p : ℕ) → pointer_fits M rows i s p ≡ true → Below i → SpellsSymbol (DerivesWithin productions i) s (symbol_word words (words_of words rules rows) s p)
  unfolding symbol_word word_behind pointer_fits
  symbol-spells i (terminal c) p f below = refl
  symbol-spells i (nonterminal x) p f below =
      let r : Row ℕ = get_or rows p (no_row M) in
      let l = ltb-true p i (and-fst (ltb p i) (eqb r.head x) f) in
      let e = eqb-true r.head x (and-snd (ltb p i) (eqb r.head x) f) in
      within-le productions (suc p) i x (word_behind words rules rows p) l (subst (λ (y : ℕ). DerivesWithin productions (suc p) y (word_behind words rules rows p)) e (below p l))

  body-spells : (i : ℕ) (b : Body) (e l r : ℕ) → PointersFit M rows i b l r → Below i → Spells (DerivesWithin productions i) (symbols b) (body_word words (words_of words rules rows) b e l r)
  unfolding body_word
  body-spells i empty e l r f below = refl
  body-spells i (one s) e l r f below = let w = symbol_word words (words_of words rules rows) s l in (w, [], sym (append-nil w), symbol-spells i s l f below, refl)
  body-spells i (two s t) e l r f below =
      let u = symbol_word words (words_of words rules rows) s l in
      let v = symbol_word words (words_of words rules rows) t r in
      (u, v, refl, symbol-spells i s l f.0 below, (v, [], sym (append-nil v), symbol-spells i t r f.1 below, refl))

  derives-below : (m i : ℕ) → i < m → i < length rows → FitThrough M rows rules i → DerivesWithin productions (suc i) (get_or rows i (no_row M)).head (word_behind words rules rows i)
  derives-below zero i h k f = absurd (not-suc-le-zero h)
  derives-below (suc m) i h k f =
      let r : Row ℕ = get_or rows i (no_row M) in
      let g = f i (le_refl i) in
      let t = fitting M rows rules i g in
      of-rule rules i r.head (word_behind words rules rows i) (
        get_or rules r.rule no_rule,
        getD-in no_rule rules r.rule t.inside,
        t.head-is,
        subst (Spells (DerivesWithin productions i) (symbols (body_at M rows rules i))) (sym (behind-body words M rules rows i k g))
            (body-spells i (body_at M rows rules i) r.effect r.left r.right t.pointers (λ j l. derives-below m j (omega arith) (omega arith) (λ q ql. f q (omega arith)))),
      )

-- ---- a word that is written

module _ (bs : List ℕ) (rows : List (Row ℕ)) (used i room n : ℕ) (e : write_of bs rows used i room ≡ answered n) where
  abbrev M : Forms ℕ
  M = forms_on states (automaton_of bs)

  -- 9 does not refuse, and the answer is the word's length
  passed : (row_fault M (rules_of bs) rows used i ≡ 0) × (n ≡ length (word_of bs rows i))
  unfolding write_of
  passed =
      let p = reply-answers (write_refusals bs rows used i room) (length (word_of bs rows i)) n e in
      (p.0.1.1.0, sym p.1)

  fits : (i < length rows) × (all_rows_fit M rows (rules_of bs) (i + 1) ≡ true)
  unfolding row_fault
  fits = by (not (ltb i used) || (ltb (length rows) used || not (all_rows_fit M rows (rules_of bs) (i + 1)))) refl passed.0
    where
      by : (b : Bool) → (not (ltb i used) || (ltb (length rows) used || not (all_rows_fit M rows (rules_of bs) (i + 1)))) ≡ b → ◌≡◌ {A = ℕ} (cond b 9 0) 0
          → (i < length rows) × (all_rows_fit M rows (rules_of bs) (i + 1) ≡ true)
      by true p q = absurd (suc-ne-zero 8 q)
      by false p q =
          let o = or-neither (not (ltb i used)) (ltb (length rows) used || not (all_rows_fit M rows (rules_of bs) (i + 1))) p in
          let o₂ = or-neither (ltb (length rows) used) (not (all_rows_fit M rows (rules_of bs) (i + 1))) o.1 in
          let a = ltb-true i used (not-fails (ltb i used) o.0) in
          let b = ltb-false (length rows) used o₂.0 in
          (omega arith, not-fails (all_rows_fit M rows (rules_of bs) (i + 1)) o₂.1)

  derives : Language (productions_of bs) (row_on bs rows i).head (word_of bs rows i)
  unfolding word_of
  derives =
      within-steps (productions_of bs) (suc i) (row_on bs rows i).head (word_behind words (rules_of bs) rows i)
      (derives-below (rules_of bs) M rows (suc i) i (le_refl (suc i)) fits.0 (λ j l. fit-through M rows (rules_of bs) (i + 1) fits.1 j (omega arith)))

-- what writing answers means that, over the buffer as it is then
pub write-means : (bs : List ℕ) (rows : List (Row ℕ)) (used i : ℕ) (old : List ℕ) → WordMeans bs rows i (buffer_after bs rows used i old) (write_of bs rows used i (length old))
unfolding buffer_after
write-means bs rows used i old = by (write_of bs rows used i (length old)) refl
  where
    by : (x : Reply ℕ) → write_of bs rows used i (length old) ≡ x → WordMeans bs rows i (written_by (word_of bs rows i) old x) x
    by (refused r) e = tt
    by (answered n) e =
        let w = word_of bs rows i in
        let p = passed bs rows used i (length old) n e in
        subst (Language (productions_of bs) (row_on bs rows i).head) (sym (take_at w (drop n old) n (sym p.1))) (derives bs rows used i (length old) n e)

-- ---- after a broken check

-- the first m rows fit, where each of them does
pub all_fit : (M : Forms ℕ) (rows : List (Row ℕ)) (rules : List Rule) (m : ℕ) → ((i : ℕ) → i < m → row_fits M rows rules i ≡ true) → all_rows_fit M rows rules m ≡ true
unfolding all_rows_fit
all_fit M rows rules zero f = refl
all_fit M rows rules (suc m) f = and_intro (all_rows_fit M rows rules m) (row_fits M rows rules m) (all_fit M rows rules m (λ i l. f i (omega arith))) (f m (omega arith))

-- 10 refuses a word by its length and the room
pub room-cases : (w : List ℕ) (room : ℕ)
    → ((room_fault w room ≡ 0) × (length w < long_word) × (length w ≤ room)) ⊎ ((room_fault w room ≡ 10) × ((long_word ≤ length w) ⊎ (room < length w)))
unfolding room_fault
room-cases w room = by (leb long_word (length w)) (ltb room (length w)) refl refl
  where
    by : (a b : Bool) → leb long_word (length w) ≡ a → ltb room (length w) ≡ b
        → ((◌≡◌ {A = ℕ} (cond (leb long_word (length w) || ltb room (length w)) 10 0) 0) × (length w < long_word) × (length w ≤ room))
        ⊎ ((◌≡◌ {A = ℕ} (cond (leb long_word (length w) || ltb room (length w)) 10 0) 10) × ((long_word ≤ length w) ⊎ (room < length w)))
    by true b p q = inr (rw p, inl (leb-true long_word (length w) p))
    by false true p q = inr (rw (p, q), inr (ltb-true room (length w) q))
    by false false p q = inl (rw (p, q), leb-false long_word (length w) p, ltb-false room (length w) q)

-- rows are the journal before the check
module _ (bs : List ℕ) (v : (fault bs).number ≡ 0) (g : Settings) (eight : journal_fault g.rows ≡ 0)
    (counts : Counts bs g (order_on bs g)) (e : (order_on bs g).verdict ≡ broken) (rows : List (Row ℕ)) (size : length rows ≡ g.rows) where
  abbrev A : Algebra ℕ
  A = algebra_over states bs g

  abbrev a : Answer ℕ
  a = order_on bs g

  abbrev after : List (Row ℕ)
  after = journal_after bs g rows

  after_is : after ≡ a.journal ++ drop a.used rows
  unfolding journal_after check_of
  after_is = rw (v, eight)

  below : a.row < length a.journal
  below = omega (arith, counts.last_row e, counts.used-rows)

  as_long : length after ≡ g.rows
  as_long =
      ap length after_is ∙ length-append a.journal (drop a.used rows)
      ∙ (let z : length a.journal + length (drop a.used rows) ≡ g.rows = omega (arith, counts.used-rows, counts.rows_bound, length-drop a.used rows, size) in z)

  -- the word behind the named row
  pub word-shown : word_of bs after a.row ≡ shown bs a
  unfolding word_of shown
  word-shown =
      ap (λ (xs : List (Row ℕ)). word_behind words (rules_of bs) xs a.row) after_is
      ∙ behind_more words (rules_of bs) a.journal (drop a.used rows) a.row below

  -- the rows through the named one fit
  rows_fit : all_rows_fit A.forms after (rules_of bs) (a.row + 1) ≡ true
  rows_fit =
      all_fit A.forms after (rules_of bs) (a.row + 1) (λ i l.
      let here : i < length a.journal = omega (arith, l, below) in
      subst (λ (xs : List (Row ℕ)). row_fits A.forms xs (rules_of bs) i ≡ true) (sym after_is)
      (fits_on A (rules_of bs) a.journal (a.journal ++ drop a.used rows) (keeps-more A a.journal (drop a.used rows)) i here (row-true bs g i here).fits))

  -- 9 refuses nothing
  nine : row_fault A.forms (rules_of bs) after a.used a.row ≡ 0
  unfolding row_fault
  nine = rw (lt-ltb a.row a.used (omega (arith, counts.last_row e)), le-ltb (length after) a.used (omega (arith, as_long, counts.rows_bound)), rows_fit)

  -- 10 is left
  pub ten-left : (room : ℕ) → write_of bs after a.used a.row room ≡ unless (refuse (room_fault (shown bs a) room) 0) (answered (length (shown bs a)))
  unfolding write_of
  ten-left room = rw (v, as_long, eight, nine, word-shown)

  -- and refuses by its bounds
  answers : (room : ℕ) → length (shown bs a) < long_word → length (shown bs a) ≤ room → write_of bs after a.used a.row room ≡ answered (length (shown bs a))
  answers room l r = ten-left room ∙ by (room-cases (shown bs a) room)
    where
      by : ((room_fault (shown bs a) room ≡ 0) × (length (shown bs a) < long_word) × (length (shown bs a) ≤ room))
          ⊎ ((room_fault (shown bs a) room ≡ 10) × ((long_word ≤ length (shown bs a)) ⊎ (room < length (shown bs a))))
          → unless (refuse (room_fault (shown bs a) room) 0) (answered (length (shown bs a))) ≡ answered (length (shown bs a))
      by (inl x) = ap (λ (f : ℕ). unless (refuse f 0) (answered (length (shown bs a)))) x.0
      by (inr (f, inl x)) = absurd (omega arith)
      by (inr (f, inr x)) = absurd (omega arith)

  refuses : (room : ℕ) → (long_word ≤ length (shown bs a)) ⊎ (room < length (shown bs a)) → write_of bs after a.used a.row room ≡ refused (refuse 10 0)
  refuses room o = ten-left room ∙ by (room-cases (shown bs a) room) o
    where
      by : ((room_fault (shown bs a) room ≡ 0) × (length (shown bs a) < long_word) × (length (shown bs a) ≤ room))
          ⊎ ((room_fault (shown bs a) room ≡ 10) × ((long_word ≤ length (shown bs a)) ⊎ (room < length (shown bs a))))
          → (long_word ≤ length (shown bs a)) ⊎ (room < length (shown bs a)) → unless (refuse (room_fault (shown bs a) room) 0) (answered (length (shown bs a))) ≡ refused (refuse 10 0)
      by (inr x) o = ap (λ (f : ℕ). unless (refuse f 0) (answered (length (shown bs a)))) x.0
      by (inl (f, l, r)) (inl x) = absurd (omega arith)
      by (inl (f, l, r)) (inr x) = absurd (omega arith)

  pub writes-shown : (old : List ℕ) → WritesShown bs g a rows old
  unfolding buffer_after
  writes-shown old =
      record {
        length-told = answers (length old);
        written = λ l r. ap₂ (λ (w : List ℕ) (x : Reply ℕ). written_by w old x) word-shown (answers (length old) l r);
        too_long = refuses (length old);
        untouched = λ o. ap (written_by (word_of bs after a.row) old) (refuses (length old) o);
      }

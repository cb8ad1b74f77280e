-- The word behind a row depends on the rows up to it, is spelled from the words behind the rows that it points to, and has the row's
-- length, capped. Assumes nothing.
use Rattle.std.specs.Prelude.{◌≡◌, true, drop}
use Rattle.std.proofs.Math.Path.{refl, sym, ap, ap₂}
use Rattle.std.proofs.Common.{◌∙◌, subst, not-suc-le-zero, le_refl, add-zero, arith, length-take-le}
use mathlib.Core.List.{List, [], ◌∷◌, ◌++◌}
use Prim.Native.Nat.{ℕ, zero, suc, ◌+◌, ◌<◌}
use Rattle.std.proofs.Math.Nat.{zero-add}
use Rattle.std.proofs.Math.ListN.{length, get_or, take, length-append, get_or-append}
use Rattle.std.proofs.Math.Seq.{split_at, get_or_at}
use Rattle.spec_language.specs.Grammar.{Symbol, terminal, nonterminal, Body, empty, one, two, Rule}
use Rattle.spec_order.specs.Algebra.{Forms}
use Rattle.spec_order.specs.Journal.{Row, no_row, capped}
use Rattle.spec_order.specs.Behind.{Spelling, symbol_word, body_word, row_word, words_from, words_of, word_behind}
use Rattle.spec_order.specs.Fitting.{pointer_fits, symbol_len, row_fits}
use Rattle.spec_order.proofs.Soundness.{Sizes}
use Rattle.spec_order.proofs.FittingLaws.{FitThrough, PointersFit, body_len, lower, body_at, fitting}

-- ---- the words, row by row

module _ {E W : Type 0} (S : Spelling E W) (rules : List Rule) where
  length-words : (done : List W) (rows : List (Row E)) → length (words_from S rules done rows) ≡ length done + length rows
  unfolding words_from
  length-words done [] = sym (add-zero (length done))
  length-words done (r ∷ rows) =
      length-words (done ++ (row_word S rules done r ∷ [])) rows
      ∙ (let e : length (done ++ (row_word S rules done r ∷ [])) + length rows ≡ length done + suc (length rows) = omega (arith, length-append done (row_word S rules done r ∷ [])) in e)

  words_more : (done : List W) (rows more : List (Row E)) → words_from S rules done (rows ++ more) ≡ words_from S rules (words_from S rules done rows) more
  unfolding words_from
  words_more done [] more = refl
  words_more done (r ∷ rows) more = words_more (done ++ (row_word S rules done r ∷ [])) rows more

  -- the words of earlier rows stay as they are
  words-done : (done : List W) (rows : List (Row E)) (i : ℕ) → i < length done → get_or (words_from S rules done rows) i S.nothing ≡ get_or done i S.nothing
  unfolding words_from
  words-done done [] i h = refl
  words-done done (r ∷ rows) i h =
      words-done (done ++ (row_word S rules done r ∷ [])) rows i (omega (arith, length-append done (row_word S rules done r ∷ [])))
      ∙ get_or-append done (row_word S rules done r ∷ []) S.nothing i h

  -- rows after row i say nothing about it
  pub behind_more : (rows more : List (Row E)) (i : ℕ) → i < length rows → word_behind S rules (rows ++ more) i ≡ word_behind S rules rows i
  unfolding word_behind words_of
  behind_more rows more i h =
      ap (λ (ws : List W). get_or ws i S.nothing) (words_more [] rows more)
      ∙ words-done (words_from S rules [] rows) more i (omega (arith, length-words [] rows))

  behind-next : (rows : List (Row E)) (r : Row E) (more : List (Row E)) → word_behind S rules (rows ++ (r ∷ more)) (length rows) ≡ row_word S rules (words_of S rules rows) r
  unfolding word_behind words_of words_from
  behind-next rows r more =
      let done = words_from S rules [] rows in
      let n : length done ≡ length rows = length-words [] rows ∙ zero-add (length rows) in
      let w = row_word S rules done r in
      ap (λ (ws : List W). get_or ws (length rows) S.nothing) (words_more [] rows (r ∷ more))
      ∙ words-done (done ++ (w ∷ [])) more (length rows) (omega (arith, length-append done (w ∷ [])))
      ∙ get_or_at done w [] S.nothing (length rows) n

-- ---- a row that fits

module _ {E W : Type 0} (S : Spelling E W) (M : Forms E) (rules : List Rule) (rows : List (Row E)) where
  -- two lists of words that agree below i give a row that points below i the same word
  module _ (u v : List W) (i : ℕ) (h : (j : ℕ) → j < i → get_or u j S.nothing ≡ get_or v j S.nothing) where
    symbol-agrees : (s : Symbol) (p : ℕ) → pointer_fits M rows i s p ≡ true → symbol_word S u s p ≡ symbol_word S v s p
    unfolding symbol_word
    symbol-agrees (terminal c) p f = refl
    symbol-agrees (nonterminal x) p f = h p (lower M rows i x p f)

    body-agrees : (b : Body) (e : E) (l r : ℕ) → PointersFit M rows i b l r → body_word S u b e l r ≡ body_word S v b e l r
    unfolding body_word
    body-agrees empty e l r f = refl
    body-agrees (one s) e l r f = symbol-agrees s l f
    body-agrees (two s t) e l r f = ap₂ (S.joined e) (symbol-agrees s l f.0) (symbol-agrees t r f.1)

  -- the word behind a row that fits is its body's, over the words behind the rows that it points to
  pub behind-body : (i : ℕ) → i < length rows → row_fits M rows rules i ≡ true
      → word_behind S rules rows i ≡ body_word S (words_of S rules rows) (body_at M rows rules i) (get_or rows i (no_row M)).effect (get_or rows i (no_row M)).left (get_or rows i (no_row M)).right
  unfolding row_word word_behind
  behind-body i k f =
      let r : Row E = get_or rows i (no_row M) in
      ap (λ (xs : List (Row E)). word_behind S rules xs i) split ∙ ap (word_behind S rules (before ++ (r ∷ after))) (sym n) ∙ behind-next S rules before r after
      ∙ body-agrees (words_of S rules before) (words_of S rules rows) i agree (body_at M rows rules i) r.effect r.left r.right (fitting M rows rules i f).pointers
    where
      before : List (Row E)
      before = take i rows

      after : List (Row E)
      after = drop (suc i) rows

      split : rows ≡ take i rows ++ (get_or rows i (no_row M) ∷ drop (suc i) rows)
      split = split_at rows i (no_row M) k

      n : length (take i rows) ≡ i
      n = length-take-le i rows (omega arith)

      agree : (j : ℕ) → j < i → get_or (words_of S rules (take i rows)) j S.nothing ≡ get_or (words_of S rules rows) j S.nothing
      agree j h =
          sym (behind_more S rules (take i rows) (get_or rows i (no_row M) ∷ drop (suc i) rows) j (subst (λ (m : ℕ). j < m) (sym n) h))
          ∙ ap (λ (xs : List (Row E)). word_behind S rules xs j) (sym split)

  -- ---- its length

  module _ (Z : Sizes S) where
    -- row j has the length of its word
    abbrev Sized : ℕ → Type 0
    Sized j = (get_or rows j (no_row M)).len ≡ capped (S.size (word_behind S rules rows j))

    module _ (i : ℕ) (ih : (j : ℕ) → j < i → Sized j) where
      symbol-size : (s : Symbol) (p : ℕ) → pointer_fits M rows i s p ≡ true → symbol_len M rows s p ≡ capped (S.size (symbol_word S (words_of S rules rows) s p))
      unfolding symbol_len symbol_word word_behind capped
      symbol-size (terminal c) p f = ap capped (sym (Z.of-single c))
      symbol-size (nonterminal x) p f = ih p (lower M rows i x p f)

      body-size : (b : Body) (e : E) (l r : ℕ) → PointersFit M rows i b l r → body_len M rows b l r ≡ capped (S.size (body_word S (words_of S rules rows) b e l r))
      unfolding body_word capped
      body-size empty e l r f = ap capped (sym Z.of-nothing)
      body-size (one s) e l r f = omega (arith, symbol-size s l f)
      body-size (two s t) e l r f =
          let u = symbol_word S (words_of S rules rows) s l in
          let v = symbol_word S (words_of S rules rows) t r in
          omega (arith, symbol-size s l f.0, symbol-size t r f.1, Z.of-joined e u v)

    len-to : (n i : ℕ) → i < n → i < length rows → FitThrough M rows rules i → Sized i
    len-to zero i h k f = absurd (not-suc-le-zero h)
    len-to (suc n) i h k f =
        let r : Row E = get_or rows i (no_row M) in
        let g = fitting M rows rules i (f i (le_refl i)) in
        g.size
        ∙ body-size i (λ j l. len-to n j (omega arith) (omega arith) (λ m q. f m (omega arith))) (body_at M rows rules i) r.effect r.left r.right g.pointers
        ∙ ap (λ (w : W). capped (S.size w)) (sym (behind-body i k (f i (le_refl i))))

    -- a row's length is its word's, capped
    pub len-behind : (i : ℕ) → i < length rows → FitThrough M rows rules i → (get_or rows i (no_row M)).len ≡ capped (S.size (word_behind S rules rows i))
    len-behind i = len-to (suc i) i (le_refl (suc i))

-- A row that fits hands over to its parts: the word behind it is theirs, the row number falls, and they may be written. Assumes nothing.
use mathlib.Core.Path.{◌≡◌, refl, sym, ap, ap₂, ◌∙◌, subst}
use mathlib.Core.Bool.{Bool, true, false, cond}
use mathlib.Core.List.{List, [], ◌∷◌, ◌++◌, append-nil}
use Prim.Native.Nat.{ℕ, ◌+◌, ◌-◌, ◌<◌}
use native.Mathlib.Nat.{le_refl}
use native.Mathlib.Omega.{arith}
use lib.Dec.{eqb}
use lib.ListN.{length, get_or, length-append}
use borrow.Author.Tests.{eqb-true}
use Rattle.spec_language.specs.Grammar.{Symbol, terminal, nonterminal, Body, empty, one, two, Rule}
use Rattle.spec_order.specs.Journal.{Row, no_row, capped}
use Rattle.spec_order.specs.Behind.{symbol_word, body_word, words_of, word_behind}
use Rattle.spec_order.specs.Fitting.{pointer_fits}
use Rattle.spec_calls.specs.Base.{words}
use Rattle.spec_calls.proofs.BaseLaws.{word-sizes}
use Rattle.call_write_word.specs.declared.Part.{Part}
use Rattle.call_write_word.specs.declared.Part.TheVariants.{Nothing, Terminal, Row as OlderRow}
use Rattle.call_write_fit.specs.Forms.{no_forms}
use Rattle.call_write_word.specs.Parts.{nothing, older_row, part_of, body_parts, parts_of, part_word, parts_word, FitsIf, Ready}
use Rattle.spec_order.proofs.FittingLaws.{FitThrough, PointersFit, lower, body_at, fitting}
use Rattle.spec_order.proofs.BehindLaws.{behind-body, len-behind}

no_length : (w : List ℕ) → capped (length w) ≡ 0 → w ≡ []
unfolding capped
no_length [] e = refl
no_length (x ∷ w) e = absurd (let z : ⊥ = omega arith in z)

-- an older row is below i
abbrev Below : ℕ → Part → Type 0
Below i Nothing = Unit {0}
Below i (Terminal c) = Unit {0}
Below i (OlderRow p) = p < i

abbrev AllBelow : ℕ → Part × Part → Type 0
AllBelow i p = Below i p.0 × Below i p.1

-- what falls at each call: write_row has i + i + 1, and a symbol that hands over to row p one more than that row
abbrev pub rank : Part → ℕ
rank Nothing = 0
rank (Terminal c) = 0
rank (OlderRow p) = p + p + 2

falls_if : (i : ℕ) (x : Part) → Below i x → rank x < i + i + 1
falls_if i Nothing h = omega arith
falls_if i (Terminal c) h = omega arith
falls_if i (OlderRow p) h = omega arith

module _ (rules : List Rule) (rows : List (Row ℕ)) where
  part-word : (s : Symbol) (p : ℕ) → part_word rules rows (part_of s p) ≡ symbol_word words (words_of words rules rows) s p
  unfolding symbol_word word_behind
  part-word (terminal c) p = refl
  part-word (nonterminal x) p = refl

  parts-word : (b : Body) (e l r : ℕ) → parts_word rules rows (body_parts b l r) ≡ body_word words (words_of words rules rows) b e l r
  unfolding body_word
  parts-word empty e l r = refl
  parts-word (one s) e l r = append-nil (part_word rules rows (part_of s l)) ∙ part-word s l
  parts-word (two s t) e l r = ap₂ (λ (u v : List ℕ). u ++ v) (part-word s l) (part-word t r)

  part-below : (i : ℕ) (s : Symbol) (p : ℕ) → pointer_fits no_forms rows i s p ≡ true → Below i (part_of s p)
  part-below i (terminal c) p f = tt
  part-below i (nonterminal x) p f = lower no_forms rows i x p f

  parts_below : (i : ℕ) (b : Body) (l r : ℕ) → PointersFit no_forms rows i b l r → AllBelow i (body_parts b l r)
  parts_below i empty l r f = (tt, tt)
  parts_below i (one s) l r f = (part-below i s l f, tt)
  parts_below i (two s t) l r f = (part-below i s l f.0, part-below i t r f.1)

  module _ (i : ℕ) (k : i < length rows) (f : FitThrough no_forms rows rules i) where
    -- the word behind a row is made of what the row hands over to, and the row number falls
    made : (word_behind words rules rows i ≡ parts_word rules rows (parts_of rules (get_or rows i (no_row no_forms)))) × AllBelow i (parts_of rules (get_or rows i (no_row no_forms)))
    unfolding parts_of
    made = by (eqb r.len 0) (eqb-true r.len 0)
      where
        r : Row ℕ
        r = get_or rows i (no_row no_forms)

        b : Body
        b = body_at no_forms rows rules i

        none : Part × Part
        none = (nothing, nothing)

        by : (t : Bool) → (t ≡ true → r.len ≡ 0) → (word_behind words rules rows i ≡ parts_word rules rows (cond t ((nothing, nothing)) (body_parts b r.left r.right))) × AllBelow i (cond t ((nothing, nothing)) (body_parts b r.left r.right))
        by true e = (no_length (word_behind words rules rows i) (sym (len-behind words no_forms rules rows word-sizes i k f) ∙ e refl), (tt, tt))
        by false e = (
          behind-body words no_forms rules rows i k (f i (le_refl i)) ∙ sym (parts-word b r.effect r.left r.right),
          parts_below i b r.left r.right (fitting no_forms rows rules i (f i (le_refl i))).pointers,
        )

    fits_below : (x : Part) → Below i x → FitsIf rules rows x
    fits_below Nothing h = tt
    fits_below (Terminal c) h = tt
    fits_below (OlderRow p) h = (omega arith, λ j l. f j (omega arith))

-- ---- what the row writer knows of a row that may be written, by what the row hands over to

pub record Handed (rules : List Rule) (rows : List (Row ℕ)) (i n : ℕ) (p : Part × Part) : Type 0 where
  pub word : word_behind words rules rows i ≡ part_word rules rows p.0 ++ part_word rules rows p.1
  pub falls : rank p.0 < i + i + 1
  pub ready : Ready rules rows p.0 n
  pub then-falls : rank p.1 < i + i + 1
  -- after the first, in what remains
  pub then_ready : (m : ℕ) → m ≡ length (part_word rules rows p.0) → Ready rules rows p.1 (n - m)

module _ {rules : List Rule} {rows : List (Row ℕ)} {i n : ℕ} (a : Ready rules rows (older_row i) n) {p : Part × Part} (e : p ≡ parts_of rules (get_or rows i (no_row no_forms))) where
  made_of : (word_behind words rules rows i ≡ parts_word rules rows p) × AllBelow i p
  made_of =
      let m = made rules rows i a.fits.0 a.fits.1 in
      (m.0 ∙ ap (parts_word rules rows) (sym e), subst (AllBelow i) (sym e) m.1)

  pub handed : Handed rules rows i n p
  handed =
      let m = made_of in
      let l = ap length m.0 ∙ length-append (part_word rules rows p.0) (part_word rules rows p.1) in
      record {
        word = m.0;
        falls = falls_if i p.0 m.1.0;
        ready = record { fits = fits_below rules rows i a.fits.0 a.fits.1 p.0 m.1.0; room = omega (arith, l, a.room) };
        then-falls = falls_if i p.1 m.1.1;
        then_ready = λ k c. record { fits = fits_below rules rows i a.fits.0 a.fits.1 p.1 m.1.1; room = omega (arith, l, a.room) };
      }

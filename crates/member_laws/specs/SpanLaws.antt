-- The steps that set digits, nonterminal by nonterminal; and rules of two symbols by the digits. Assumes nothing.
use Rattle.std.specs.Prelude.{◌≡◌, refl, ◌⊎◌, Bool, true, false, not, ◌&&◌, cond, List, [], ◌∷◌, map, ℕ, ◌+◌, ◌-◌, ◌^◌, ◌≤◌, ◌<◌, eqb, leb, ltb, length, get_or, set}
use Rattle.std.proofs.Common.{sym, ap, ap₂, ◌∙◌, subst, inl, inr, eq-or-lt_of_le, lt_of_le_of_lt, arith, pow_pos, get_or-set_same, get_or-set_other, eqb-true, eq-eqb, ne_eqb, leb-true, ltb-true, lt-ltb, le-ltb}
use Rattle.std.proofs.lemmas.Bool.{false≢true, eqb-false}
use Rattle.std.specs.Int.Bits.{bit_and}
use Rattle.std.proofs.lemmas.Nat.{and_le_l}
use Rattle.std.proofs.Math.Seq.{slice}
use Rattle.spec_basics.specs.Tests.{and_intro, and-fst, and-snd, and-not-both, iff-equal, not-passes, not-excludes}
use Rattle.spec_basics.specs.Elements.{In}
use Rattle.relation.specs.Digits.{bit}
use Rattle.relation.specs.DigitLaws.{bit-and, bit-power, bit-zero, ext, some_at, some_of}
use Rattle.spec_language.specs.Grammar.{Symbol, terminal, nonterminal, two, Rule}
use Rattle.spec_language.specs.Spelling.{SpellsSymbol, Spells}
use Rattle.spec_file.specs.Limits.{terminals, nonterminals, symbol_bytes}
use Rattle.spec_file.specs.Views.{symbol_of, body_by, body_of}
use Rattle.spec_file.specs.Entries.{entry_of}
use Rattle.member_laws.specs.Sets.{with, DerivesBy}
use Rattle.member_laws.specs.ByteLaws.{terminal-at, nonterminal-at}
use Rattle.member_laws.specs.SliceLaws.{slice-join, slice-letter}
use Rattle.member_laws.specs.Derivations.{by-body, spell-two}
use Rattle.member_laws.specs.Rounds.{Upto}
use Rattle.member_laws.specs.RoundLaws.{with-kept, with-own, with-only, row_in, upto-none, upto-miss, upto-hit, none-bad}
use Rattle.member_laws.specs.Spans.{end_cells, RightEnds, RightStarts, Marks, ends_of, starts_of, meets, splits, SplitHeads}

-- ---- digits of the nonterminals of a set

-- of those below p
pub record MarksBelow (p base members place : ℕ) (before after : List ℕ) : Type 0 where
  pub kept : (x k : ℕ) → bit (get_or before x 0) k ≡ true → bit (get_or after x 0) k ≡ true
  pub marked : (q : ℕ) → q < p → bit members q ≡ true → bit (get_or after (base + q) 0) place ≡ true
  pub only : (x k : ℕ) → bit (get_or after x 0) k ≡ true
      → (bit (get_or before x 0) k ≡ true) ⊎ ((k ≡ place) × ((q : ℕ) × (q < p) × (x ≡ base + q) × (bit members q ≡ true)))

module _ (base members place : ℕ) (a : List ℕ) where
  pub marks-none : MarksBelow 0 base members place a a
  marks-none = record { kept = λ x k e. e; marked = λ q h. absurd (let z : ⊥ = omega arith in z); only = λ x k e. inl e }

  module _ (p : ℕ) (b : List ℕ) (n : MarksBelow p base members place a b) where
    wider : (x k : ℕ) → (bit (get_or a x 0) k ≡ true) ⊎ ((k ≡ place) × ((q : ℕ) × (q < p) × (x ≡ base + q) × (bit members q ≡ true)))
        → (bit (get_or a x 0) k ≡ true) ⊎ ((k ≡ place) × ((q : ℕ) × (q < p + 1) × (x ≡ base + q) × (bit members q ≡ true)))
    wider x k (inl e) = inl e
    wider x k (inr e) = let q = e.1 in inr (e.0, (q.0, omega (arith, q.1), q.2, q.3))

    pub marks-skip : bit members p ≡ false → MarksBelow (p + 1) base members place a b
    marks-skip f = record {
      kept = n.kept;
      marked = λ q h e. by q e (eq-or-lt_of_le (let z : q ≤ p = omega arith in z));
      only = λ x k e. wider x k (n.only x k e);
    }
      where
        by : (q : ℕ) → bit members q ≡ true → (q ≡ p) ⊎ (q < p) → bit (get_or b (base + q) 0) place ≡ true
        by q e (inl z) = absurd (false≢true (sym f ∙ ap (bit members) (sym z) ∙ e))
        by q e (inr l) = n.marked q l e

    -- the cell of p has the digit too
    pub marks-next : base + p < length b → bit members p ≡ true → MarksBelow (p + 1) base members place a (set b (base + p) (with (get_or b (base + p) 0) place))
    marks-next h f = record {
      kept = λ x k e. kept x k (n.kept x k e) (eqb x at) refl;
      marked = λ q l e. by q e (eq-or-lt_of_le (let z : q ≤ p = omega arith in z));
      only = λ x k e. only x k e (eqb x at) refl;
    }
      where
        at : ℕ
        at = base + p

        after : List ℕ
        after = set b (base + p) (with (get_or b (base + p) 0) place)

        same : get_or after at 0 ≡ with (get_or b (base + p) 0) place
        same = get_or-set_same b (base + p) (with (get_or b (base + p) 0) place) 0 h

        other : (x : ℕ) → eqb x at ≡ false → get_or after x 0 ≡ get_or b x 0
        other x e = get_or-set_other b (base + p) x (with (get_or b (base + p) 0) place) 0 (eqb-false x (base + p) e)

        kept : (x k : ℕ) → bit (get_or b x 0) k ≡ true → (t : Bool) → eqb x at ≡ t → bit (get_or after x 0) k ≡ true
        kept x k e true t =
            let q = eqb-true x at t in
            ap (λ (z : ℕ). bit (get_or after z 0) k) q ∙ ap (λ (v : ℕ). bit v k) same
            ∙ with-kept (get_or b at 0) place k (ap (λ (z : ℕ). bit (get_or b z 0) k) (sym q) ∙ e)
        kept x k e false t = ap (λ (v : ℕ). bit v k) (other x t) ∙ e

        by : (q : ℕ) → bit members q ≡ true → (q ≡ p) ⊎ (q < p) → bit (get_or after (base + q) 0) place ≡ true
        by q e (inl z) = ap (λ (y : ℕ). bit (get_or after (base + y) 0) place) z ∙ ap (λ (v : ℕ). bit v place) same ∙ with-own (get_or b at 0) place
        by q e (inr l) = kept (base + q) place (n.marked q l e) (eqb (base + q) at) refl

        only : (x k : ℕ) → bit (get_or after x 0) k ≡ true → (t : Bool) → eqb x at ≡ t
            → (bit (get_or a x 0) k ≡ true) ⊎ ((k ≡ place) × ((q : ℕ) × (q < p + 1) × (x ≡ base + q) × (bit members q ≡ true)))
        only x k e true t = here (with-only (get_or b at 0) place k (ap (λ (v : ℕ). bit v k) (sym same) ∙ ap (λ (z : ℕ). bit (get_or after z 0) k) (sym q) ∙ e))
          where
            q : x ≡ at
            q = eqb-true x at t

            here : (bit (get_or b at 0) k ≡ true) ⊎ (k ≡ place) → (bit (get_or a x 0) k ≡ true) ⊎ ((k ≡ place) × ((q : ℕ) × (q < p + 1) × (x ≡ base + q) × (bit members q ≡ true)))
            here (inl d) = wider x k (n.only x k (ap (λ (z : ℕ). bit (get_or b z 0) k) q ∙ d))
            here (inr d) = inr (d, (p, omega arith, q, f))
        only x k e false t = wider x k (n.only x k (ap (λ (v : ℕ). bit v k) (sym (other x t)) ∙ e))

  pub marks-all : (p : ℕ) (b : List ℕ) → p ≡ nonterminals → MarksBelow p base members place a b → Marks base members place a b
  marks-all p b e n = record {
    kept = n.kept;
    marked = λ q h. n.marked q (omega arith);
    only = λ x k d. last x k (n.only x k d);
  }
    where
      last : (x k : ℕ) → (bit (get_or a x 0) k ≡ true) ⊎ ((k ≡ place) × ((q : ℕ) × (q < p) × (x ≡ base + q) × (bit members q ≡ true)))
          → (bit (get_or a x 0) k ≡ true) ⊎ ((k ≡ place) × ((q : ℕ) × (q < nonterminals) × (x ≡ base + q) × (bit members q ≡ true)))
      last x k (inl d) = inl d
      last x k (inr d) = let q = d.1 in inr (d.0, (q.0, omega (arith, q.1), q.2, q.3))

-- ---- one `and` of words

pub meets_word : (x y : ℕ) → x < 2 ^ 64 → not (eqb (bit_and x y) 0) ≡ meets x y
meets_word x y h = iff-equal (not (eqb (bit_and x y) 0)) (meets x y) there back
  where
    none : meets x y ≡ false → bit_and x y ≡ 0
    none f =
        ext 64 (bit_and x y) 0 (lt_of_le_of_lt (and_le_l x y) h) (pow_pos 64)
        (λ k l.
        bit-and x y k
        ∙ and-not-both (bit x k) (bit y k) (λ p q. false≢true (sym f ∙ some_at 64 (λ k. bit x k && bit y k) k l (and_intro (bit x k) (bit y k) p q)))
        ∙ sym (bit-zero k))

    by : (t : Bool) → meets x y ≡ t → not (eqb (bit_and x y) 0) ≡ true → meets x y ≡ true
    by true p e = p
    by false p e = absurd (not-excludes (eqb (bit_and x y) 0) e (eq-eqb (bit_and x y) 0 (none p)))

    there : not (eqb (bit_and x y) 0) ≡ true → meets x y ≡ true
    there e = by (meets x y) refl e

    back : meets x y ≡ true → not (eqb (bit_and x y) 0) ≡ true
    back e = not-passes (eqb (bit_and x y) 0) (λ z.
        let k = some_of 64 (λ k. bit x k && bit y k) e in
        false≢true (sym (bit-zero k.0) ∙ ap (λ (v : ℕ). bit v k.0) (sym (eqb-true (bit_and x y) 0 z)) ∙ bit-and x y k.0 ∙ k.2))

-- ---- the digits of a symbol, by its byte

module _ (w words : List ℕ) (i b : ℕ) where
  pub ends-letter : b < terminals → get_or w i 0 ≡ b → 2 ^ (i + 1) ≡ ends_of w words i (symbol_of b)
  ends-letter h e = sym (ap (ends_of w words i) (terminal-at b h) ∙ ap (λ (t : Bool). cond t (2 ^ (i + 1)) 0) (eq-eqb (get_or w i 0) b e))

  pub ends-other : b < terminals → (get_or w i 0 ≡ b → ⊥) → 0 ≡ ends_of w words i (symbol_of b)
  ends-other h e = sym (ap (ends_of w words i) (terminal-at b h) ∙ ap (λ (t : Bool). cond t (2 ^ (i + 1)) 0) (ne_eqb (get_or w i 0) b e))

  pub ends-beyond : symbol_bytes ≤ b → 0 ≡ ends_of w words i (symbol_of b)
  ends-beyond h =
      sym (ap (ends_of w words i) (nonterminal-at b (omega arith))
      ∙ ap (λ (t : Bool). cond t (get_or words (b - terminals) 0) 0) (le-ltb (b - terminals) nonterminals (omega arith)))

  pub ends-entry : terminals ≤ b → b < symbol_bytes → get_or words (b - terminals) 0 ≡ ends_of w words i (symbol_of b)
  ends-entry h l =
      sym (ap (ends_of w words i) (nonterminal-at b h)
      ∙ ap (λ (t : Bool). cond t (get_or words (b - terminals) 0) 0) (lt-ltb (b - terminals) nonterminals (omega arith)))

  pub starts-letter : b < terminals → get_or w (i - 1) 0 ≡ b → 2 ^ (i - 1) ≡ starts_of w words i (symbol_of b)
  starts-letter h e = sym (ap (starts_of w words i) (terminal-at b h) ∙ ap (λ (t : Bool). cond t (2 ^ (i - 1)) 0) (eq-eqb (get_or w (i - 1) 0) b e))

  pub starts_other : b < terminals → (get_or w (i - 1) 0 ≡ b → ⊥) → 0 ≡ starts_of w words i (symbol_of b)
  starts_other h e = sym (ap (starts_of w words i) (terminal-at b h) ∙ ap (λ (t : Bool). cond t (2 ^ (i - 1)) 0) (ne_eqb (get_or w (i - 1) 0) b e))

  pub starts-beyond : symbol_bytes ≤ b → 0 ≡ starts_of w words i (symbol_of b)
  starts-beyond h =
      sym (ap (starts_of w words i) (nonterminal-at b (omega arith))
      ∙ ap (λ (t : Bool). cond t (get_or words (end_cells i + (b - terminals)) 0) 0) (le-ltb (b - terminals) nonterminals (omega arith)))

  pub starts-cell : terminals ≤ b → b < symbol_bytes → get_or words (end_cells i + (b - terminals)) 0 ≡ starts_of w words i (symbol_of b)
  starts-cell h l =
      sym (ap (starts_of w words i) (nonterminal-at b h)
      ∙ ap (λ (t : Bool). cond t (get_or words (end_cells i + (b - terminals)) 0) 0) (lt-ltb (b - terminals) nonterminals (omega arith)))

-- ---- the digits of a symbol are right

-- a digit of a number that is there only under a condition
under : (b : Bool) (x k : ℕ) → bit (cond b x 0) k ≡ true → (b ≡ true) × (bit x k ≡ true)
under true x k e = (refl, e)
under false x k e = absurd (false≢true (sym (bit-zero k) ∙ e))

power-only : (x k : ℕ) → bit (2 ^ x) k ≡ true → k ≡ x
power-only x k e = eqb-true k x (sym (bit-power x k) ∙ e)

module _ (rules : List Rule) (w : List ℕ) where
  ends-right : (ends : List ℕ) (i : ℕ) → i < length w → RightEnds rules w i ends → (s : Symbol) (k : ℕ) → bit (ends_of w ends i s) k ≡ true
      → (i < k) × (k ≤ length w) × SpellsSymbol (DerivesBy rules) s (slice i k w)
  ends-right ends i h r (terminal c) k e =
      let u = under (eqb (get_or w i 0) c) (2 ^ (i + 1)) k e in
      let z = power-only (i + 1) k u.1 in (
        omega (arith, z),
        omega (arith, z),
        ap (λ (y : ℕ). slice i y w) z ∙ slice-letter w i h ∙ ap (λ (y : ℕ). y ∷ []) (eqb-true (get_or w i 0) c u.0),
      )
  ends-right ends i h r (nonterminal p) k e =
      let u = under (ltb p nonterminals) (get_or ends p 0) k e in
      let d = r p k (ltb-true p nonterminals u.0) u.1 in
      (d.some-letter, d.in-word, d.derives)

  starts-right : (starts : List ℕ) (j : ℕ) → 0 < j → j ≤ length w → RightStarts rules w starts → (s : Symbol) (k : ℕ) → bit (starts_of w starts j s) k ≡ true
      → (k < j) × SpellsSymbol (DerivesBy rules) s (slice k j w)
  starts-right starts j g h r (terminal c) k e =
      let u = under (eqb (get_or w (j - 1) 0) c) (2 ^ (j - 1)) k e in
      let z = power-only (j - 1) k u.1 in
      let l : k < length w = omega (arith, z) in
      let m : j ≡ k + 1 = omega (arith, z) in (
        omega (arith, z),
        ap (λ (y : ℕ). slice k y w) m ∙ slice-letter w k l ∙ ap (λ (y : ℕ). get_or w y 0 ∷ []) z ∙ ap (λ (y : ℕ). y ∷ []) (eqb-true (get_or w (j - 1) 0) c u.0),
      )
  starts-right starts j g h r (nonterminal p) k e =
      let u = under (ltb p nonterminals) (get_or starts (end_cells j + p) 0) k e in
      let d = r p j k (ltb-true p nonterminals u.0) u.1 in
      (d.some-letter, d.derives)

-- ---- rules of two symbols

pub body-two : (n a b : ℕ) → 2 ≤ n → body_of n a b ≡ two (symbol_of a) (symbol_of b)
body-two n a b h =
    ap₂ (λ (s t : Bool). body_by s t a b) (ne_eqb n 0 (λ e. let z : ⊥ = omega arith in z)) (ne_eqb n 1 (λ e. let z : ⊥ = omega arith in z))

-- after k rules
abbrev pub SplitUpto : List (List ℕ) → List ℕ → List ℕ → List ℕ → ℕ → ℕ → ℕ → ℕ → Type 0
SplitUpto rows w ends starts i j k r =
    Upto rows (splits w ends starts i j)
    (λ p. RightEnds (map entry_of rows) w i ends → RightStarts (map entry_of rows) w starts → DerivesBy (map entry_of rows) p (slice i j w)) 0 k r

module _ (rows : List (List ℕ)) (w ends starts : List ℕ) (i j : ℕ) (low : i < j) (high : j ≤ length w) where
  abbrev Good : ℕ → Type 0
  Good p = RightEnds (map entry_of rows) w i ends → RightStarts (map entry_of rows) w starts → DerivesBy (map entry_of rows) p (slice i j w)

  -- a rule of two symbols, by the bytes
  pub by_row : (row : List ℕ) → In (entry_of row) (map entry_of rows) → splits w ends starts i j row ≡ true → Good (entry_of row).head
  by_row row m e f g =
      let rules = map entry_of rows in
      let D = DerivesBy rules in
      let a = get_or row 2 0 in
      let b = get_or row 3 0 in
      let x = ends_of w ends i (symbol_of a) in
      let y = starts_of w starts j (symbol_of b) in
      let k = some_of 64 (λ k. bit x k && bit y k) (and-snd (leb 2 (get_or row 1 0)) (meets x y) e) in
      let u = ends-right rules w ends i (omega arith) f (symbol_of a) k.0 (and-fst (bit x k.0) (bit y k.0) k.2) in
      let v = starts-right rules w starts j (omega arith) high g (symbol_of b) k.0 (and-snd (bit x k.0) (bit y k.0) k.2) in
      let body = body-two (get_or row 1 0) a b (leb-true 2 (get_or row 1 0) (and-fst (leb 2 (get_or row 1 0)) (meets x y) e)) in
      by-body rules (entry_of row) (slice i j w) m (rw body
      (subst (Spells D (symbol_of a ∷ symbol_of b ∷ [])) (slice-join w i k.0 j (omega (arith, u.0)) (omega (arith, v.0)) high)
      (spell-two D (symbol_of a) (symbol_of b) (slice i k.0 w) (slice k.0 j w) u.2 v.1)))

  ok : ((p : ℕ) → bit 0 p ≡ true → Good p) → (k : ℕ) → k < length rows → splits w ends starts i j (get_or rows k []) ≡ true → Good (entry_of (get_or rows k [])).head
  ok a k h e = by_row (get_or rows k []) (row_in rows k h) e

  pub split-none : SplitUpto rows w ends starts i j 0 0
  split-none = upto-none rows (splits w ends starts i j) Good 0 ok

  module _ (k r : ℕ) (h : k < length rows) (u : SplitUpto rows w ends starts i j k r) where
    pub split-miss : splits w ends starts i j (get_or rows k []) ≡ false → SplitUpto rows w ends starts i j (k + 1) r
    split-miss e = upto-miss rows (splits w ends starts i j) Good 0 ok k r h u e

    pub split-hit : splits w ends starts i j (get_or rows k []) ≡ true → SplitUpto rows w ends starts i j (k + 1) (with r (entry_of (get_or rows k [])).head)
    split-hit e = upto-hit rows (splits w ends starts i j) Good 0 ok k r h u e

  pub split-all : (k r : ℕ) → length rows ≤ k → SplitUpto rows w ends starts i j k r → SplitHeads rows w ends starts i j r
  split-all k r h u = record { right = λ f g p e. u.sound (none-bad Good) p e f g; each = λ m l e. u.each m (omega arith) e }

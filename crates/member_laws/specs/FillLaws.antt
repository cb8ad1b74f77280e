-- The set of each stretch is exact, by what is known of the stretches within it; and cell after cell the table is filled. Assumes nothing.
use Rattle.std.specs.Prelude.{◌≡◌, refl, ◌⊎◌, Bool, true, false, ◌&&◌, cond, List, [], map, ℕ, zero, suc, ◌+◌, ◌-◌, ◌^◌, ◌≤◌, ◌<◌, eqb, leb, ltb, length, get_or, set, replicate}
use Rattle.std.proofs.Common.{sym, ap, ◌∙◌, subst, inl, inr, zero-le, eq-or-lt_of_le, arith, length-set, get_or-set_same, get_or-set_other, eqb-true, eq-eqb, le-leb, lt-ltb, ltb-true, ltb-false}
use Rattle.std.proofs.lemmas.Bool.{false≢true, eqb-false}
use Rattle.std.proofs.Math.ListN.{get_or-eq_default}
use Rattle.std.proofs.Math.Seq.{slice, slice_empty}
use Rattle.spec_basics.specs.Tests.{and_intro}
use Rattle.spec_basics.specs.Elements.{In}
use Rattle.relation.specs.Digits.{bit}
use Rattle.relation.specs.DigitLaws.{bit-zero, bit-power, some_at}
use Rattle.spec_language.specs.Grammar.{Symbol, terminal, nonterminal, Body, empty, one, two, Rule, production_of}
use Rattle.spec_language.specs.Spelling.{SpellsSymbol}
use Rattle.spec_language.proofs.Agreement.{language}
use Rattle.spec_language.proofs.RuleLaws.{by-rule}
use Rattle.spec_file.specs.Limits.{terminals, nonterminals}
use Rattle.spec_file.specs.Views.{symbol_of, body_by, body_of}
use Rattle.spec_file.specs.Entries.{entry_of}
use Rattle.spec_calls.specs.Recognizing.{run_limit, cell, stretch_cells, TableShows}
use Rattle.member_laws.specs.Sets.{is_unit, Heads, WithinBy, DerivesBy, Nullable, Carries, UnitHeads, Reaches, start, onward, UnionOf}
use Rattle.member_laws.specs.ByteLaws.{terminal-at}
use Rattle.member_laws.specs.SliceLaws.{slice-letter, slice-one}
use Rattle.member_laws.specs.SetLaws.{null-complete, cell-complete}
use Rattle.member_laws.specs.RoundLaws.{in_row}
use Rattle.member_laws.specs.CellLaws.{cell-low, cell-own}
use Rattle.member_laws.specs.Spans.{end_cells, span_cells, Derived, RightStarts, Marks, ends_of, starts_of, meets, SplitHeads, Exact}
use Rattle.member_laws.specs.Filling.{Prepared, BaseOf, Done, DoneFrom, RowKnown, FullStarts, Filled}

-- a nonterminal that derives something is the head of a rule
derives-low : (rules : List Rule) → Heads rules → (p : ℕ) (u : List ℕ) → DerivesBy rules p u → p < nonterminals
derives-low rules heads p u (zero, d) = absurd d
derives-low rules heads p u (suc h, d) = let r = by-rule rules h p u d in subst (λ (x : ℕ). x < nonterminals) r.2 (heads r.0 r.1)

-- ---- no letter

pub exact_none : (rules : List Rule) (w : List ℕ) (n i : ℕ) → Nullable rules n → Exact rules w i i n
exact_none rules w n i N p = (
  (λ e. subst (DerivesBy rules p) (sym (slice_empty i w)) (N.sound p e)),
  (λ d. null-complete rules n N.closed d.0 p (subst (WithinBy rules d.0 p) (slice_empty i w) d.1)),
)

-- ---- the closure of a base

module _ (rules : List Rule) (w : List ℕ) (n : ℕ) (units : List ℕ) (P : Prepared rules w n units) (i j : ℕ) (low : i < j) (high : j ≤ length w)
    (base r : ℕ) (B : BaseOf rules w n i j base) (U : UnionOf units base r) where
  -- what is reached from q derives whatever q derives
  carries : (q p : ℕ) → Reaches P.direct q p → Carries rules (nonterminal q) p
  carries q p start u d = d
  carries q p (onward {y} s l b) u d = (P.one-step y l).sound p b u (carries q y s u d)

  -- the heads of the base are in the set
  in-set : (x : Rule) → In x rules → bit base x.head ≡ true → bit r x.head ≡ true
  in-set x m e = let l = P.heads x m in U.each x.head x.head l e ((P.closures x.head l x.head).1 start)

  closed : (x : Rule) → In x rules → (s : Symbol) → is_unit n s x.body ≡ true → SpellsSymbol (λ q u. bit r q ≡ true) s (slice i j w) → bit r x.head ≡ true
  closed x m (terminal c) e t = in-set x m (B.letter x m c e t)
  closed x m (nonterminal y) e t =
      let o = U.only y t in
      let s = (P.closures o.0 o.1 y).0 o.3 in
      by s (ltb y nonterminals) (ltb-true y nonterminals) (ltb-false y nonterminals)
    where
      o : (q : ℕ) × (q < nonterminals) × (bit base q ≡ true) × (bit (get_or units q 0) y ≡ true)
      o = U.only y t

      -- what is reached and has an entry is below 64, for it is q or the head of a rule
      by : Reaches P.direct o.0 y → (b : Bool) → (b ≡ true → y < nonterminals) → (b ≡ false → nonterminals ≤ y) → bit r x.head ≡ true
      by s true f g =
          let l = f refl in
          U.each o.0 x.head o.1 o.2 ((P.closures o.0 o.1 x.head).1 (onward s l ((P.one-step y l).each x m e)))
      by s false f g =
          absurd (let l = derives-low rules P.heads y (slice i j w) (carries o.0 y s (slice i j w) (B.sound o.0 o.2)) in let z : ⊥ = omega (arith, l, g refl) in z)

  pub exact-closure : Exact rules w i j r
  exact-closure p = (
    (λ e. let o = U.only p e in carries o.0 p ((P.closures o.0 o.1 p).0 o.3) (slice i j w) (B.sound o.0 o.2)),
    (λ c.
        cell-complete rules n P.null w i j low high r closed
        (λ x m s t e k a b f g. in-set x m (B.pairs x m s t e k a b f g)) c.0 p c.1),
  )

-- ---- the base of one letter

module _ (rules : List Rule) (w : List ℕ) (n i : ℕ) (low : i < length w) (letter : get_or w i 0 < terminals) (base : ℕ) (H : UnitHeads rules n (symbol_of (get_or w i 0)) base) where
  pub base-letter : BaseOf rules w n i (i + 1) base
  base-letter = record {
    sound = λ p e. H.sound p e (slice i (i + 1) w) (subst (λ (s : Symbol). SpellsSymbol (DerivesBy rules) s (slice i (i + 1) w)) (sym is) (slice-letter w i low));
    letter = λ r m c e t.
        H.each r m (subst (λ (s : Symbol). is_unit n s r.body ≡ true)
        (ap terminal (slice-one w i (i + 1) c (omega arith) (omega arith) t).1 ∙ sym is) e);
    pairs = λ r m s t e k a b. absurd (let z : ⊥ = omega arith in z);
  }
    where
      is : symbol_of (get_or w i 0) ≡ terminal (get_or w i 0)
      is = terminal-at (get_or w i 0) letter

-- ---- the base of more letters

two-body : (n a b : ℕ) (x y : Symbol) → body_of n a b ≡ two x y → (2 ≤ n) × (symbol_of a ≡ x) × (symbol_of b ≡ y)
two-body n a b x y e = by (eqb n 0) refl (eqb n 1) refl e
  where
    first : Body → Symbol
    first empty = x
    first (one s) = s
    first (two s t) = s

    second : Body → Symbol
    second empty = x
    second (one s) = s
    second (two s t) = t

    size : Body → ℕ
    size empty = 0
    size (one s) = 1
    size (two s t) = 2

    by : (s : Bool) → eqb n 0 ≡ s → (t : Bool) → eqb n 1 ≡ t → body_by s t a b ≡ two x y → (2 ≤ n) × (symbol_of a ≡ x) × (symbol_of b ≡ y)
    by true p t q e = absurd (let z : 0 ≡ 2 = ap size e in let k : ⊥ = omega arith in k)
    by false p true q e = absurd (let z : 1 ≡ 2 = ap size e in let k : ⊥ = omega arith in k)
    by false p false q e = (omega (arith, eqb-false n 0 p, eqb-false n 1 q), ap first e, ap second e)

module _ (rows : List (List ℕ)) (w : List ℕ) (n : ℕ) (units : List ℕ) (P : Prepared (map entry_of rows) w n units) (i j : ℕ) (low : i + 1 < j) (high : j ≤ length w)
    (ends starts : List ℕ) (row : RowKnown (map entry_of rows) w i j ends) (right : RightStarts (map entry_of rows) w starts)
    (full : FullStarts (map entry_of rows) w (Done i j) starts) (base : ℕ) (J : SplitHeads rows w ends starts i j base) where
  abbrev rules : List Rule
  rules = map entry_of rows

  -- the digits of a symbol that spells a part are set
  end-set : (s : Symbol) (k : ℕ) → i < k → k < j → SpellsSymbol (DerivesBy (map entry_of rows)) s (slice i k w) → bit (ends_of w ends i s) k ≡ true
  end-set (terminal c) k a b t =
      let o = slice-one w i k c a (omega arith) t in
      ap (λ (z : Bool). bit (cond z (2 ^ (i + 1)) 0) k) (eq-eqb (get_or w i 0) c (sym o.1))
      ∙ bit-power (i + 1) k ∙ eq-eqb k (i + 1) o.0
  end-set (nonterminal p) k a b t =
      let l = derives-low rules P.heads p (slice i k w) t in
      ap (λ (z : Bool). bit (cond z (get_or ends p 0) 0) k) (lt-ltb p nonterminals l)
      ∙ row.full p k l a b (omega arith) (omega (arith, P.short)) t

  start-set : (s : Symbol) (k : ℕ) → i < k → k < j → SpellsSymbol (DerivesBy (map entry_of rows)) s (slice k j w) → bit (starts_of w starts j s) k ≡ true
  start-set (terminal c) k a b t =
      let o = slice-one w k j c b high t in
      let z : k ≡ j - 1 = omega (arith, o.0) in
      ap (λ (y : Bool). bit (cond y (2 ^ (j - 1)) 0) k) (eq-eqb (get_or w (j - 1) 0) c (ap (λ (y : ℕ). get_or w y 0) (sym z) ∙ sym o.1))
      ∙ bit-power (j - 1) k ∙ eq-eqb k (j - 1) z
  start-set (nonterminal p) k a b t =
      let l = derives-low rules P.heads p (slice k j w) t in
      ap (λ (z : Bool). bit (cond z (get_or starts (end_cells j + p) 0) 0) k) (lt-ltb p nonterminals l)
      ∙ full p k j l b high (inl a) t

  pair : (x : Rule) → In x (map entry_of rows) → (s t : Symbol) → x.body ≡ two s t → (k : ℕ) → i < k → k < j
      → SpellsSymbol (DerivesBy (map entry_of rows)) s (slice i k w) → SpellsSymbol (DerivesBy (map entry_of rows)) t (slice k j w) → bit base x.head ≡ true
  pair x m s t e k a b f g =
      let o = in_row rows x m in
      let row = get_or rows o.0 [] in
      let y = two-body (get_or row 1 0) (get_or row 2 0) (get_or row 3 0) s t (ap (λ (z : Rule). z.body) o.2 ∙ e) in
      let D = DerivesBy (map entry_of rows) in
      let u = end-set (symbol_of (get_or row 2 0)) k a b (subst (λ (z : Symbol). SpellsSymbol D z (slice i k w)) (sym y.1) f) in
      let v = start-set (symbol_of (get_or row 3 0)) k a b (subst (λ (z : Symbol). SpellsSymbol D z (slice k j w)) (sym y.2) g) in
      let X = ends_of w ends i (symbol_of (get_or row 2 0)) in
      let Y = starts_of w starts j (symbol_of (get_or row 3 0)) in
      let l : k < 64 = omega (arith, P.short) in
      subst (λ (z : Rule). bit base z.head ≡ true) o.2
      (J.each o.0 o.1
      (and_intro (leb 2 (get_or row 1 0)) (meets X Y) (le-leb 2 (get_or row 1 0) y.0)
      (some_at 64 (λ z. bit X z && bit Y z) k l (and_intro (bit X k) (bit Y k) u v))))

  pub base-pairs : BaseOf (map entry_of rows) w n i j base
  base-pairs = record {
    sound = J.right row.right right;
    letter = λ r m c e t. absurd (let o = (slice-one w i j c (omega arith) high t).0 in let z : ⊥ = omega arith in z);
    pairs = pair;
  }

-- ---- the next cell

last_done : (i j x y : ℕ) → Done i (j + 1) x y → Done i j x y ⊎ ((x ≡ i) × (y ≡ j))
last_done i j x y (inl h) = inl (inl h)
last_done i j x y (inr h) = by (eq-or-lt_of_le (let z : y ≤ j = omega (arith, h.1) in z))
  where
    by : (y ≡ j) ⊎ (y < j) → Done i j x y ⊎ ((x ≡ i) × (y ≡ j))
    by (inl e) = inr (h.0, e)
    by (inr l) = inl (inr (h.0, l))

module _ (rules : List Rule) (w : List ℕ) (i j : ℕ) (low : i ≤ j) (high : j ≤ length w) (s : ℕ) (exact : Exact rules w i j s) where
  -- where the stretch is empty, nothing is marked
  pub full-none : (starts : List ℕ) → i ≡ j → FullStarts rules w (Done i j) starts → FullStarts rules w (Done i (j + 1)) starts
  full-none starts e f p x y l h m d = by (last_done i j x y d)
    where
      by : Done i j x y ⊎ ((x ≡ i) × (y ≡ j)) → DerivesBy rules p (slice x y w) → bit (get_or starts (end_cells y + p) 0) x ≡ true
      by (inl d) = f p x y l h m d
      by (inr d) = absurd (let a = d.0 in let b = d.1 in let z : ⊥ = omega arith in z)

  pub row-none : (ends : List ℕ) → i ≡ j → RowKnown rules w i j ends → RowKnown rules w i (j + 1) ends
  row-none ends e R = record { right = R.right; full = λ p y l a b. absurd (let z : ⊥ = omega arith in z) }

  -- nor is step 64 among the ends
  pub row-end : (ends : List ℕ) → run_limit ≤ j → RowKnown rules w i j ends → RowKnown rules w i (j + 1) ends
  row-end ends h R = record { right = R.right; full = λ p y l a b c d. R.full p y l a (omega arith) c d }

  module _ (more : i < j) where
    derived : (q : ℕ) → bit s q ≡ true → Derived rules w q i j
    derived q e = record { some-letter = more; in-word = high; derives = (exact q).0 e }

    -- the starts of the stretches up to step j
    module _ (before after : List ℕ) (N : Marks (end_cells j) s i before after) where
      pub starts-right : RightStarts rules w before → RightStarts rules w after
      starts-right r p y k l e = by (N.only (end_cells y + p) k e)
        where
          by : (bit (get_or before (end_cells y + p) 0) k ≡ true) ⊎ ((k ≡ i) × ((q : ℕ) × (q < nonterminals) × (end_cells y + p ≡ end_cells j + q) × (bit s q ≡ true))) → Derived rules w p k y
          by (inl b) = r p y k l b
          by (inr b) =
              let q = b.1.0 in
              let h = b.1.1 in
              let z = b.1.2 in
              let e₀ : q ≡ p = omega (arith, z, h, l) in
              let e₁ : j ≡ y = omega (arith, z, h, l) in
              subst (λ (x : ℕ). Derived rules w x k y) e₀ (subst (λ (x : ℕ). Derived rules w q k x) e₁ (subst (λ (x : ℕ). Derived rules w q x j) (sym b.0) (derived q b.1.3)))

      pub starts-full : FullStarts rules w (Done i j) before → FullStarts rules w (Done i (j + 1)) after
      starts-full f p x y l h m d = by (last_done i j x y d)
        where
          by : Done i j x y ⊎ ((x ≡ i) × (y ≡ j)) → DerivesBy rules p (slice x y w) → bit (get_or after (end_cells y + p) 0) x ≡ true
          by (inl d) = λ e. N.kept (end_cells y + p) x (f p x y l h m d e)
          by (inr d) = λ e.
              subst (λ (z : ℕ). bit (get_or after (end_cells y + p) 0) z ≡ true) (sym d.0) (subst (λ (z : ℕ). bit (get_or after (end_cells z + p) 0) i ≡ true) (sym d.1)
              (N.marked p l ((exact p).1 (subst (λ (z : ℕ). DerivesBy rules p (slice i z w)) d.1 (subst (λ (z : ℕ). DerivesBy rules p (slice z y w)) d.0 e)))))

    -- the ends of the stretches from step i on
    module _ (before after : List ℕ) (N : Marks 0 s j before after) (R : RowKnown rules w i j before) where
      pub row_next : RowKnown rules w i (j + 1) after
      row_next = record {
        right = λ p k l e. by p k l (N.only p k e);
        full = λ p y l a b c d e. last p y l a c d e (eq-or-lt_of_le (let z : y ≤ j = omega arith in z));
      }
        where
          by : (p k : ℕ) → p < nonterminals → (bit (get_or before p 0) k ≡ true) ⊎ ((k ≡ j) × ((q : ℕ) × (q < nonterminals) × (p ≡ 0 + q) × (bit s q ≡ true))) → Derived rules w p i k
          by p k l (inl b) = R.right p k l b
          by p k l (inr b) =
              let z = b.1.2 in
              let e₀ : b.1.0 ≡ p = omega (arith, z) in
              subst (λ (x : ℕ). Derived rules w x i k) e₀ (subst (Derived rules w b.1.0 i) (sym b.0) (derived b.1.0 b.1.3))

          last : (p y : ℕ) → p < nonterminals → i < y → y ≤ length w → y < run_limit → DerivesBy rules p (slice i y w) → (y ≡ j) ⊎ (y < j) → bit (get_or after p 0) y ≡ true
          last p y l a c d e (inl z) =
              let n : 0 + p ≡ p = omega arith in
              subst (λ (x : ℕ). bit (get_or after p 0) x ≡ true) (sym z)
              (subst (λ (x : ℕ). bit (get_or after x 0) j ≡ true) n (N.marked p l ((exact p).1 (subst (λ (x : ℕ). DerivesBy rules p (slice i x w)) z e))))
          last p y l a c d e (inr b) = N.kept p y (R.full p y l a b c d e)

  -- the cell is written
  module _ (short : length w ≤ run_limit) (starts starts' table : List ℕ) (F : Filled rules w (Done i j) starts table) where
    after : List ℕ
    after = set table (cell i j) s

    inside : cell i j < length table
    inside = subst (λ (x : ℕ). cell i j < x) (sym F.size) (cell-low i j low (omega arith))

    old : (x y : ℕ) → eqb (cell x y) (cell i j) ≡ false → get_or (set table (cell i j) s) (cell x y) 0 ≡ get_or table (cell x y) 0
    old x y e = get_or-set_other table (cell i j) (cell x y) s 0 (eqb-false (cell x y) (cell i j) e)

    own : (x y : ℕ) → x ≤ y → y ≤ run_limit → eqb (cell x y) (cell i j) ≡ true → (x ≡ i) × (y ≡ j)
    own x y l m e = cell-own x y l m i j low (omega arith) (eqb-true (cell x y) (cell i j) e)

    exact-after : (x y : ℕ) → x ≤ y → y ≤ length w → Done i (j + 1) x y → Exact rules w x y (get_or (set table (cell i j) s) (cell x y) 0)
    exact-after x y l m d = by (eqb (cell x y) (cell i j)) refl (last_done i j x y d)
      where
        here : (x ≡ i) × (y ≡ j) → Exact rules w x y (get_or (set table (cell i j) s) (cell x y) 0)
        here e =
            subst (λ (z : ℕ). Exact rules w z y (get_or (set table (cell i j) s) (cell z y) 0)) (sym e.0)
            (subst (λ (z : ℕ). Exact rules w i z (get_or (set table (cell i j) s) (cell i z) 0)) (sym e.1)
            (subst (Exact rules w i j) (sym (get_or-set_same table (cell i j) s 0 inside)) exact))

        by : (b : Bool) → eqb (cell x y) (cell i j) ≡ b → Done i j x y ⊎ ((x ≡ i) × (y ≡ j)) → Exact rules w x y (get_or (set table (cell i j) s) (cell x y) 0)
        by true p q = here (own x y l (omega arith) p)
        by false p (inl q) = subst (Exact rules w x y) (sym (old x y p)) (F.exact x y l m q)
        by false p (inr q) = here q

    past_after : (x y : ℕ) → x ≤ y → length w < y → y ≤ run_limit → get_or (set table (cell i j) s) (cell x y) 0 ≡ 0
    past_after x y l m h = by (eqb (cell x y) (cell i j)) refl
      where
        by : (b : Bool) → eqb (cell x y) (cell i j) ≡ b → get_or (set table (cell i j) s) (cell x y) 0 ≡ 0
        by true p = absurd (let e = (own x y l h p).1 in let z : ⊥ = omega arith in z)
        by false p = old x y p ∙ F.past x y l m h

    pub filled_next : RightStarts rules w starts' → FullStarts rules w (Done i (j + 1)) starts' → length starts' ≡ length starts
        → Filled rules w (Done i (j + 1)) starts' (set table (cell i j) s)
    filled_next r f e = record { right = r; full = f; room = e ∙ F.room; size = length-set table (cell i j) s ∙ F.size; exact = exact-after; past = past_after }

-- ---- row after row

no_digit : {A : Type 0} (words : List ℕ) → ((x : ℕ) → get_or words x 0 ≡ 0) → (x k : ℕ) → bit (get_or words x 0) k ≡ true → A
no_digit words z x k e = absurd (false≢true (sym (bit-zero k) ∙ ap (λ (v : ℕ). bit v k) (sym (z x)) ∙ e))

module _ (rules : List Rule) (w : List ℕ) where
  fewer : (D E : ℕ → ℕ → Type 0) → ((x y : ℕ) → x ≤ y → y ≤ length w → E x y → D x y) → (starts table : List ℕ) → Filled rules w D starts table → Filled rules w E starts table
  fewer D E h starts table F = record {
    right = F.right;
    full = λ p x y l a m e. F.full p x y l a m (h x y (omega arith) m e);
    room = F.room;
    size = F.size;
    exact = λ x y l m e. F.exact x y l m (h x y l m e);
    past = F.past;
  }

  -- nothing is done at the beginning
  pub filled_none : (starts table : List ℕ) → length starts ≡ span_cells → ((x : ℕ) → get_or starts x 0 ≡ 0) → length table ≡ stretch_cells → ((x : ℕ) → get_or table x 0 ≡ 0)
      → Filled rules w (DoneFrom (length w + 1)) starts table
  filled_none starts table room no-digits size zero-cells = record {
    right = λ p j k l e. no_digit starts no-digits (end_cells j + p) k e;
    full = λ p x y l a h e. absurd (let z : ⊥ = omega arith in z);
    room = room;
    size = size;
    exact = λ x y l h e. absurd (let z : ⊥ = omega arith in z);
    past = λ x y l h e. zero-cells (cell x y);
  }

  -- nor of a row, before its first stretch
  pub row_zero : (i : ℕ) (ends : List ℕ) → ((x : ℕ) → get_or ends x 0 ≡ 0) → RowKnown rules w i i ends
  row_zero i ends z = record { right = λ p k l e. no_digit ends z p k e; full = λ p y l a b. absurd (let z : ⊥ = omega arith in z) }

  pub row_first : (i : ℕ) (starts table : List ℕ) → Filled rules w (DoneFrom (i + 1)) starts table → Filled rules w (Done i i) starts table
  row_first i starts table F = fewer (DoneFrom (i + 1)) (Done i i) by starts table F
    where
      by : (x y : ℕ) → x ≤ y → y ≤ length w → Done i i x y → i + 1 ≤ x
      by x y l m (inl h) = omega arith
      by x y l m (inr h) = absurd (let a = h.0 in let b = h.1 in let z : ⊥ = omega arith in z)

  pub row_last : (i j : ℕ) (starts table : List ℕ) → length w < j → Filled rules w (Done i j) starts table → Filled rules w (DoneFrom i) starts table
  row_last i j starts table h F = fewer (Done i j) (DoneFrom i) (λ x y l m e. by x y m (eq-or-lt_of_le e)) starts table F
    where
      by : (x y : ℕ) → y ≤ length w → (i ≡ x) ⊎ (i < x) → Done i j x y
      by x y m (inl e) = inr (sym e, omega arith)
      by x y m (inr l) = inl l

  -- here spelling becomes document 000's rewriting
  pub shown : (starts table : List ℕ) → Filled rules w (DoneFrom 0) starts table → TableShows (map production_of rules) w table
  shown starts table F = record {
    size = F.size;
    within = λ i j p l m h.
        let e = F.exact i j l m zero-le p in
        let g = language (map production_of rules) p (slice i j w) in
        ((λ b. g.1 (e.0 b)), (λ d. e.1 (g.0 d)));
    past = F.past;
  }

-- ---- a table of zeros

-- one cell more
pub zero-next : (table : List ℕ) (i : ℕ) → i < length table → ((x : ℕ) → x < i → get_or table x 0 ≡ 0) → (x : ℕ) → x < i + 1 → get_or (set table i 0) x 0 ≡ 0
zero-next table i h z x l = by (eq-or-lt_of_le (let y : x ≤ i = omega arith in y))
  where
    by : (x ≡ i) ⊎ (x < i) → get_or (set table i 0) x 0 ≡ 0
    by (inl e) = ap (λ (y : ℕ). get_or (set table i 0) y 0) e ∙ get_or-set_same table i 0 0 h
    by (inr m) = get_or-set_other table i x 0 0 (λ e. let y : ⊥ = omega arith in y) ∙ z x m

-- and past the last one
pub zero-all : (table : List ℕ) (i : ℕ) → length table ≤ i → ((x : ℕ) → x < i → get_or table x 0 ≡ 0) → (x : ℕ) → get_or table x 0 ≡ 0
zero-all table i h z x = by (ltb x i) (ltb-true x i) (ltb-false x i)
  where
    by : (b : Bool) → (b ≡ true → x < i) → (b ≡ false → i ≤ x) → get_or table x 0 ≡ 0
    by true p q = z x (p refl)
    by false p q = get_or-eq_default table 0 (omega (arith, q refl))

-- words that are made as zeros
pub zeros : (n x : ℕ) → get_or (replicate {A = ℕ} n 0) x 0 ≡ 0
zeros zero x = refl
zeros (suc n) zero = refl
zeros (suc n) (suc x) = zeros n x

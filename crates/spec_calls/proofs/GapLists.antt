-- The list has just the gaps and doubles, each once and in order, and 5,760 bytes hold it. Assumes nothing.
use Rattle.std.specs.Prelude.{◌≡◌, refl, ◌⊎◌, ◌↔◌, Bool, ◌&&◌, ◌||◌, List, [], ◌∷◌, ◌++◌}
use Rattle.std.proofs.Math.Path.{sym, ap, subst}
use Rattle.std.proofs.Common.{◌∙◌, eq-or-lt_of_le, le_of_suc-le-suc, not-suc-le-zero}
use Rattle.std.proofs.Math.Logic.{inl, inr}
use Rattle.std.proofs.Math.Bool.{true, false, not}
use Rattle.std.proofs.lemmas.Bool.{false≢true}
use Prim.Native.Nat.{ℕ, zero, suc, ◌*◌, ◌≤◌, ◌<◌}
use Rattle.std.proofs.Math.Nat.{suc-mul}
use native.Mathlib.Omega.{arith}
use Rattle.std.proofs.Math.Dec.{eqb}
use Rattle.std.proofs.Math.ListN.{length, length-append}
use borrow.Author.Tests.{eqb-true, eq-eqb}
use Rattle.spec_basics.specs.Tests.{and_intro, and-fst, and-snd, or_left, or_right, not-passes, not-excludes}
use Rattle.spec_basics.specs.Elements.{In, any, concat_map}
use Rattle.spec_basics.specs.Lists.{any_of, any_at, in_left, in_right, in-cases, in_one}
use Rattle.relation.specs.Relation.{states}
use Rattle.spec_language.specs.Automaton.{Transition, Automaton}
use Rattle.spec_language.specs.Remarks.{first_remark}
use Rattle.spec_file.specs.Refusals.{fault}
use Rattle.spec_file.specs.Views.{cons_if, automaton_of}
use Rattle.spec_file.proofs.Valid.{letter-low, automaton-within}
use Rattle.spec_calls.proofs.MoveCounts.{moves-few}
use Rattle.spec_calls.specs.Gaps.{moves_on, Touched, StateTaken, LetterUsed, ListEntry, Gap, Before, Ordered}
use Rattle.spec_calls.specs.Listing.{touches, takes_state, uses_letter, gap_at, gap_of, state_gaps, gaps_in, gaps_of, bytes_of, list_bytes}

-- ---- the tests say what is taken

or_cases : (a b : Bool) → (a || b) ≡ true → (a ≡ true) ⊎ (b ≡ true)
or_cases true b h = inl refl
or_cases false b h = inr h

module _ (A : Automaton) where
  touched : (s : ℕ) → touches A.transitions s ≡ true → Touched A.transitions s
  touched s h =
      let r = any_of (λ (t : Transition). eqb t.source s || eqb t.target s) A.transitions h in (r.0, r.1, by r.0 (or_cases (eqb r.0.source s) (eqb r.0.target s) r.2))
    where
      by : (t : Transition) → (eqb t.source s ≡ true) ⊎ (eqb t.target s ≡ true) → (t.source ≡ s) ⊎ (t.target ≡ s)
      by t (inl e) = inl (eqb-true t.source s e)
      by t (inr e) = inr (eqb-true t.target s e)

  touches-it : (s : ℕ) → Touched A.transitions s → touches A.transitions s ≡ true
  touches-it s r = any_at (λ (t : Transition). eqb t.source s || eqb t.target s) r.0 A.transitions r.1 (by r.0 r.2)
    where
      by : (t : Transition) → (t.source ≡ s) ⊎ (t.target ≡ s) → (eqb t.source s || eqb t.target s) ≡ true
      by t (inl e) = or_left (eqb t.source s) (eqb t.target s) (eq-eqb t.source s e)
      by t (inr e) = or_right (eqb t.source s) (eqb t.target s) (eq-eqb t.target s e)

  pub state-taken : (s : ℕ) → takes_state A s ≡ true → StateTaken A s
  unfolding takes_state
  state-taken s h = by (or_cases (eqb s 0) (touches A.transitions s || any (λ f. eqb f s) A.finals) h)
    where
      final : any (λ f. eqb f s) A.finals ≡ true → In s A.finals
      final e = let r = any_of (λ (f : ℕ). eqb f s) A.finals e in subst (λ (x : ℕ). In x A.finals) (eqb-true r.0 s r.2) r.1

      more : (touches A.transitions s ≡ true) ⊎ (any (λ f. eqb f s) A.finals ≡ true) → StateTaken A s
      more (inl e) = inr (inl (touched s e))
      more (inr e) = inr (inr (final e))

      by : (eqb s 0 ≡ true) ⊎ ((touches A.transitions s || any (λ f. eqb f s) A.finals) ≡ true) → StateTaken A s
      by (inl e) = inl (eqb-true s 0 e)
      by (inr e) = more (or_cases (touches A.transitions s) (any (λ f. eqb f s) A.finals) e)

  pub takes-state : (s : ℕ) → StateTaken A s → takes_state A s ≡ true
  unfolding takes_state
  takes-state s (inl e) = or_left (eqb s 0) _ (eq-eqb s 0 e)
  takes-state s (inr (inl m)) = or_right (eqb s 0) _ (or_left (touches A.transitions s) (any (λ f. eqb f s) A.finals) (touches-it s m))
  takes-state s (inr (inr m)) =
      or_right (eqb s 0) _ (or_right (touches A.transitions s) (any (λ f. eqb f s) A.finals) (any_at (λ (f : ℕ). eqb f s) s A.finals m (eq-eqb s s refl)))

  pub letter-used : (c : ℕ) → uses_letter A c ≡ true → LetterUsed A c
  unfolding uses_letter
  letter-used c h = let r = any_of (λ (t : Transition). eqb t.letter c) A.transitions h in (r.0, r.1, eqb-true r.0.letter c r.2)

  pub uses-letter : (c : ℕ) → LetterUsed A c → uses_letter A c ≡ true
  unfolding uses_letter
  uses-letter c r = any_at (λ (t : Transition). eqb t.letter c) r.0 A.transitions r.1 (eq-eqb r.0.letter c r.2)

  gap_is : (s c : ℕ) → gap_at A s c ≡ true → Gap A (gap_of A s c)
  unfolding gap_at
  gap_is s c h =
      let n = moves_on A.transitions s c in
      let r = and-snd (takes_state A s) (uses_letter A c && not (eqb n 1)) h in record {
        state-taken = state-taken s (and-fst (takes_state A s) (uses_letter A c && not (eqb n 1)) h);
        letter-used = letter-used c (and-fst (uses_letter A c) (not (eqb n 1)) r);
        counted = refl;
        not-one = λ e. not-excludes (eqb n 1) (and-snd (uses_letter A c) (not (eqb n 1)) r) (eq-eqb n 1 e);
      }

  is-gap : (e : ListEntry) → Gap A e → (gap_at A e.state e.letter ≡ true) × (e ≡ gap_of A e.state e.letter)
  unfolding gap_at
  is-gap e g =
      let n = moves_on A.transitions e.state e.letter in (
        and_intro (takes_state A e.state) _ (takes-state e.state g.state-taken)
            (and_intro (uses_letter A e.letter) _ (uses-letter e.letter g.letter-used) (not-passes (eqb n 1) (λ p. g.not-one (g.counted ∙ eqb-true n 1 p)))),
        ap (λ (m : ℕ). record { state = e.state; letter = e.letter; moves = m }) g.counted,
      )

  -- ---- what the list has

  in-if : (b : Bool) (e x : ListEntry) → In e (cons_if b x []) → (b ≡ true) × (e ≡ x)
  in-if true e x h = (refl, in_one e x h)
  in-if false e x h = absurd h

  if-in : (b : Bool) (x : ListEntry) → b ≡ true → In x (cons_if b x [])
  if-in true x h = inl refl
  if-in false x h = absurd (false≢true h)

  state-has : (s m : ℕ) (e : ListEntry) → In e (state_gaps A s m) → (c : ℕ) × (c < m) × (gap_at A s c ≡ true) × (e ≡ gap_of A s c)
  unfolding state_gaps
  state-has s zero e h = absurd h
  state-has s (suc m) e h = by (state-has s m e) (in-cases e (state_gaps A s m) (cons_if (gap_at A s m) (gap_of A s m) []) h)
    where
      by : (In e (state_gaps A s m) → (c : ℕ) × (c < m) × (gap_at A s c ≡ true) × (e ≡ gap_of A s c)) → In e (state_gaps A s m) ⊎ In e (cons_if (gap_at A s m) (gap_of A s m) [])
          → (c : ℕ) × (c < suc m) × (gap_at A s c ≡ true) × (e ≡ gap_of A s c)
      by ih (inl i) = let r = ih i in (r.0, omega (arith, r.1), r.2, r.3)
      by ih (inr i) = let r = in-if (gap_at A s m) e (gap_of A s m) i in (m, omega arith, r.0, r.1)

  state-in : (s m c : ℕ) → c < m → gap_at A s c ≡ true → In (gap_of A s c) (state_gaps A s m)
  unfolding state_gaps
  state-in s zero c l h = absurd (not-suc-le-zero l)
  state-in s (suc m) c l h = by (λ i. state-in s m c i h) (eq-or-lt_of_le (le_of_suc-le-suc l))
    where
      by : (c < m → In (gap_of A s c) (state_gaps A s m)) → (c ≡ m) ⊎ (c < m) → In (gap_of A s c) (state_gaps A s m ++ cons_if (gap_at A s m) (gap_of A s m) [])
      by ih (inl e) =
          in_right (gap_of A s c) (state_gaps A s m) (cons_if (gap_at A s m) (gap_of A s m) [])
          (subst (λ (x : ℕ). In (gap_of A s c) (cons_if (gap_at A s x) (gap_of A s x) [])) e (if-in (gap_at A s c) (gap_of A s c) h))
      by ih (inr i) = in_left (gap_of A s c) (state_gaps A s m) (cons_if (gap_at A s m) (gap_of A s m) []) (ih i)

  gaps-has : (m n : ℕ) (e : ListEntry) → In e (gaps_in A m n) → (s : ℕ) × (s < n) × In e (state_gaps A s m)
  unfolding gaps_in
  gaps-has m zero e h = absurd h
  gaps-has m (suc n) e h = by (gaps-has m n e) (in-cases e (gaps_in A m n) (state_gaps A n m) h)
    where
      by : (In e (gaps_in A m n) → (s : ℕ) × (s < n) × In e (state_gaps A s m)) → In e (gaps_in A m n) ⊎ In e (state_gaps A n m) → (s : ℕ) × (s < suc n) × In e (state_gaps A s m)
      by ih (inl i) = let r = ih i in (r.0, omega (arith, r.1), r.2)
      by ih (inr i) = (n, omega arith, i)

  gaps-in : (m n s : ℕ) (e : ListEntry) → s < n → In e (state_gaps A s m) → In e (gaps_in A m n)
  unfolding gaps_in
  gaps-in m zero s e l h = absurd (not-suc-le-zero l)
  gaps-in m (suc n) s e l h = by (λ i. gaps-in m n s e i h) (eq-or-lt_of_le (le_of_suc-le-suc l))
    where
      by : (s < n → In e (gaps_in A m n)) → (s ≡ n) ⊎ (s < n) → In e (gaps_in A m n ++ state_gaps A n m)
      by ih (inl p) = in_right e (gaps_in A m n) (state_gaps A n m) (subst (λ (x : ℕ). In e (state_gaps A x m)) p h)
      by ih (inr i) = in_left e (gaps_in A m n) (state_gaps A n m) (ih i)

  -- just the gaps and doubles of the states below n and the letters below m
  pub listed-exactly : (m n : ℕ) (e : ListEntry) → e.state < n → e.letter < m → In e (gaps_in A m n) ↔ Gap A e
  listed-exactly m n e l k = (there, back)
    where
      there : In e (gaps_in A m n) → Gap A e
      there h = let r = gaps-has m n e h in let q = state-has r.0 m e r.2 in subst (Gap A) (sym q.3) (gap_is r.0 q.0 q.2)

      back : Gap A e → In e (gaps_in A m n)
      back g = let r = is-gap e g in gaps-in m n e.state e l (subst (λ (x : ListEntry). In x (state_gaps A e.state m)) (sym r.1) (state-in e.state m e.letter k r.0))

  -- an entry of the list is one of its states and letters
  pub listed-low : (m n : ℕ) (e : ListEntry) → In e (gaps_in A m n) → (e.state < n) × (e.letter < m)
  listed-low m n e h =
      let r = gaps-has m n e h in
      let q = state-has r.0 m e r.2 in
      (subst (λ (x : ℕ). x < n) (sym (ap (λ (x : ListEntry). x.state) q.3)) r.1, subst (λ (x : ℕ). x < m) (sym (ap (λ (x : ListEntry). x.letter) q.3)) q.1)

  -- ---- its order

  ordered-append : (xs ys : List ListEntry) → Ordered xs → Ordered ys → ((d e : ListEntry) → In d xs → In e ys → Before d e) → Ordered (xs ++ ys)
  ordered-append [] ys p q h = q
  ordered-append (x ∷ xs) ys p q h = ((λ e i. by e (in-cases e xs ys i)), ordered-append xs ys p.1 q (λ d e i k. h d e (inr i) k))
    where
      by : (e : ListEntry) → In e xs ⊎ In e ys → Before x e
      by e (inl i) = p.0 e i
      by e (inr i) = h x e (inl refl) i

  ordered-if : (b : Bool) (x : ListEntry) → Ordered (cons_if b x [])
  ordered-if true x = ((λ e i. absurd i), tt)
  ordered-if false x = tt

  state-ordered : (s m : ℕ) → Ordered (state_gaps A s m)
  unfolding state_gaps
  state-ordered s zero = tt
  state-ordered s (suc m) = ordered-append (state_gaps A s m) (cons_if (gap_at A s m) (gap_of A s m) []) (state-ordered s m) (ordered-if (gap_at A s m) (gap_of A s m)) by
    where
      by : (d e : ListEntry) → In d (state_gaps A s m) → In e (cons_if (gap_at A s m) (gap_of A s m) []) → Before d e
      by d e i k =
          let q = state-has s m d i in
          let r = in-if (gap_at A s m) e (gap_of A s m) k in
          let x = ap (λ (y : ListEntry). y.state) q.3 in
          let y = ap (λ (y : ListEntry). y.state) r.1 in
          let z = ap (λ (y : ListEntry). y.letter) q.3 in
          let w = ap (λ (y : ListEntry). y.letter) r.1 in inr (x ∙ sym y, omega (arith, q.1, z, w))

  pub gaps-ordered : (m n : ℕ) → Ordered (gaps_in A m n)
  unfolding gaps_in
  gaps-ordered m zero = tt
  gaps-ordered m (suc n) = ordered-append (gaps_in A m n) (state_gaps A n m) (gaps-ordered m n) (state-ordered n m) by
    where
      by : (d e : ListEntry) → In d (gaps_in A m n) → In e (state_gaps A n m) → Before d e
      by d e i k =
          let q = listed-low m n d i in
          let r = state-has n m e k in
          let x = ap (λ (y : ListEntry). y.state) r.3 in inl (omega (arith, q.0, x))

  -- ---- its length

  -- of one state at most one entry for each letter
  pub state-short : (s m : ℕ) → length (state_gaps A s m) ≤ m
  unfolding state_gaps
  state-short s zero = omega arith
  state-short s (suc m) = by (gap_at A s m) (state-short s m)
    where
      by : (b : Bool) → length (state_gaps A s m) ≤ m → length (state_gaps A s m ++ cons_if b (gap_of A s m) []) ≤ suc m
      by true h = omega (arith, length-append (state_gaps A s m) (gap_of A s m ∷ []))
      by false h = omega (arith, length-append (state_gaps A s m) [])

  -- so of n states at most n times as many
  pub gaps-short : (m n : ℕ) → length (gaps_in A m n) ≤ n * m
  unfolding gaps_in
  gaps-short m zero = omega arith
  gaps-short m (suc n) =
      let i = gaps-short m n in
      let r = state-short n m in
      let e = length-append (gaps_in A m n) (state_gaps A n m) in
      let z = suc-mul n m in omega arith

-- ---- the list of a file that is not refused

pub bytes-length : (es : List ListEntry) → length (concat_map bytes_of es) ≡ 3 * length es
bytes-length [] = refl
bytes-length (e ∷ es) = let i = bytes-length es in omega arith

module _ (bs : List ℕ) (v : (fault bs).number ≡ 0) where
  letter-below : (c : ℕ) → LetterUsed (automaton_of bs) c → c < first_remark
  letter-below c r = subst (λ (x : ℕ). x < first_remark) r.2 (letter-low bs v r.0 r.1)

  pub state-low : (s : ℕ) → StateTaken (automaton_of bs) s → s < states
  state-low s (inl e) = omega arith
  state-low s (inr (inl m)) = by m.2
    where
      by : (m.0.source ≡ s) ⊎ (m.0.target ≡ s) → s < states
      by (inl e) = omega (arith, (automaton-within bs v).sources m.0 m.1)
      by (inr e) = omega (arith, (automaton-within bs v).targets m.0 m.1)
  state-low s (inr (inr m)) = (automaton-within bs v).ends s m

  -- an entry is listed exactly when its state and its letter are taken and its number of transitions isn't one
  pub listed : (e : ListEntry) → In e (gaps_of bs) ↔ Gap (automaton_of bs) e
  unfolding gaps_of
  listed e = (
    (λ h. let l = listed-low (automaton_of bs) first_remark states e h in (listed-exactly (automaton_of bs) first_remark states e l.0 l.1).0 h),
    (λ g. (listed-exactly (automaton_of bs) first_remark states e (state-low e.state g.state-taken) (letter-below e.letter g.letter-used)).1 g),
  )

  pub listed-ordered : Ordered (gaps_of bs)
  unfolding gaps_of
  listed-ordered = gaps-ordered (automaton_of bs) first_remark states

  -- 16 states and 120 letters
  pub few-entries : length (gaps_of bs) ≤ 16 * 120
  unfolding gaps_of
  few-entries = gaps-short (automaton_of bs) first_remark states

  -- so document 02's buffer always suffices
  pub fits : length (concat_map bytes_of (gaps_of bs)) ≤ list_bytes
  fits = omega (arith, bytes-length (gaps_of bs), few-entries)

  -- each number is a byte
  pub byte-moves : (e : ListEntry) → In e (gaps_of bs) → e.moves ≤ states
  byte-moves e h = let g = (listed e).0 h in omega (arith, g.counted, moves-few bs v e.state e.letter)

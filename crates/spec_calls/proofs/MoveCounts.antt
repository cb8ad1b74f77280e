-- The number of transitions from a state on a letter: it grows with the list; where it is one, there is one target; and in a file that is not
-- refused it is at most the number of states, since no record stands there twice. Assumes nothing.
use Rattle.std.specs.Prelude.{◌≡◌, ◌⊎◌, Bool, ◌&&◌, ◌||◌, cond, List, [], ◌∷◌, ◌++◌, ltb}
use Rattle.std.proofs.Math.Path.{refl, sym}
use Rattle.std.proofs.Common.{ap, ap₂, ◌∙◌, subst, inl, inr, true≢false}
use Rattle.std.proofs.Math.Bool.{true, false}
use Prim.Native.Nat.{ℕ, zero, suc, ◌+◌, ◌-◌, ◌≤◌, ◌<◌}
use native.Mathlib.Omega.{arith}
use Rattle.std.proofs.Math.Dec.{eqb}
use borrow.Author.Tests.{ltb-true, ltb-false, lt-ltb, eqb-true, eq-eqb, ne_eqb}
use Rattle.spec_basics.specs.Tests.{and_intro, and-fst, and-snd, or_left, or_right, or-neither}
use Rattle.relation.specs.Relation.{states}
use Rattle.spec_language.specs.Automaton.{Transition, Moves}
use Rattle.spec_file.specs.Records.{record_count, record_at, byte, kind_at, rule_kind, transition_kind, final_kind}
use Rattle.spec_file.specs.Refusals.{stray_symbol, some_byte, stray_byte, stray_byte_in, rises_from, rises, exceeds_in, fault}
use Rattle.spec_file.specs.Views.{transition_of, cons_if, collect, transitions_of}
use Rattle.spec_file.proofs.Valid.{valid-passes, transition-range}
use Rattle.spec_calls.specs.Gaps.{moves_on}

-- ---- the count along a list

-- the transition leads from a on c
abbrev pub leads : Transition → ℕ → ℕ → Bool
leads t a c = eqb t.source a && eqb t.letter c

pub moves-none : (a c : ℕ) → moves_on [] a c ≡ 0
unfolding moves_on
moves-none a c = refl

pub moves_next : (ts : List Transition) (t : Transition) (a c : ℕ) → moves_on (ts ++ (t ∷ [])) a c ≡ moves_on ts a c + cond (leads t a c) 1 0
unfolding moves_on
moves_next [] t a c = let z : cond (leads t a c) 1 0 + 0 ≡ 0 + cond (leads t a c) 1 0 = omega arith in z
moves_next (s ∷ ts) t a c = let e = moves_next ts t a c in let z : cond (leads s a c) 1 0 + moves_on (ts ++ (t ∷ [])) a c ≡ cond (leads s a c) 1 0 + moves_on ts a c + cond (leads t a c) 1 0 = omega arith in z

moves-first : (t : Transition) (ts : List Transition) (a c : ℕ) (b : Bool) → leads t a c ≡ b → moves_on (t ∷ ts) a c ≡ cond b 1 0 + moves_on ts a c
unfolding moves_on
moves-first t ts a c b e = ap (λ (x : Bool). cond x 1 0 + moves_on ts a c) e

-- ---- one transition

same-leads : (t : Transition) (a c b : ℕ) → record { source = a; letter = c; target = b } ≡ t → leads t a c ≡ true
same-leads t a c b e =
    and_intro (eqb t.source a) (eqb t.letter c) (eq-eqb t.source a (ap (λ (x : Transition). x.source) (sym e))) (eq-eqb t.letter c (ap (λ (x : Transition). x.letter) (sym e)))

pub moves-some : (ts : List Transition) (a c b : ℕ) → Moves ts a c b → 0 < moves_on ts a c
moves-some [] a c b h = absurd h
moves-some (t ∷ ts) a c b (inl e) = omega (arith, moves-first t ts a c true (same-leads t a c b e))
moves-some (t ∷ ts) a c b (inr h) = by (leads t a c) refl (moves-some ts a c b h)
  where
    by : (x : Bool) → leads t a c ≡ x → 0 < moves_on ts a c → 0 < moves_on (t ∷ ts) a c
    by true p i = omega (arith, moves-first t ts a c true p)
    by false p i = omega (arith, moves-first t ts a c false p)

-- a target, and no other
pub record OneTarget (ts : List Transition) (a c : ℕ) : Type 0 where
  pub target : ℕ
  pub leads-there : Moves ts a c target
  pub alone : (b : ℕ) → Moves ts a c b → b ≡ target

pub one-target : (ts : List Transition) (a c : ℕ) → moves_on ts a c ≡ 1 → OneTarget ts a c
one-target [] a c h = absurd (let z : ⊥ = omega (arith, moves-none a c) in z)
one-target (t ∷ ts) a c h = by (leads t a c) refl (one-target ts a c)
  where
    here : leads t a c ≡ true → moves_on ts a c ≡ 0 → (b : ℕ) → Moves (t ∷ ts) a c b → b ≡ t.target
    here p z b (inl e) = ap (λ (x : Transition). x.target) e
    here p z b (inr m) = absurd (let y : ⊥ = omega (arith, moves-some ts a c b m) in y)

    later : leads t a c ≡ false → (o : OneTarget ts a c) → (b : ℕ) → Moves (t ∷ ts) a c b → b ≡ o.target
    later p o b (inl e) = absurd (true≢false (sym (same-leads t a c b e) ∙ p))
    later p o b (inr m) = o.alone b m

    by : (x : Bool) → leads t a c ≡ x → (moves_on ts a c ≡ 1 → OneTarget ts a c) → OneTarget (t ∷ ts) a c
    by true p ih =
        let s = eqb-true t.source a (and-fst (eqb t.source a) (eqb t.letter c) p) in
        let l = eqb-true t.letter c (and-snd (eqb t.source a) (eqb t.letter c) p) in record {
          target = t.target;
          leads-there = inl (ap₂ (λ (x y : ℕ). record { source = x; letter = y; target = t.target }) (sym s) (sym l));
          alone = here p (omega (arith, moves-first t ts a c true p));
        }
    by false p ih = let o = ih (omega (arith, moves-first t ts a c false p)) in record { target = o.target; leads-there = inr o.leads-there; alone = later p o }

-- ---- the order of records carries on

rises-cases : (m j : ℕ) (r s : List ℕ) → rises_from (suc m) j r s ≡ true → (byte r j < byte s j) ⊎ ((byte r j ≡ byte s j) × (rises_from m (suc j) r s ≡ true))
unfolding rises_from
rises-cases m j r s h = by (ltb (byte r j) (byte s j)) refl h
  where
    by : (x : Bool) → ltb (byte r j) (byte s j) ≡ x → (x || (eqb (byte r j) (byte s j) && rises_from m (suc j) r s)) ≡ true
        → (byte r j < byte s j) ⊎ ((byte r j ≡ byte s j) × (rises_from m (suc j) r s ≡ true))
    by true p e = inl (ltb-true (byte r j) (byte s j) p)
    by false p e =
        inr (eqb-true (byte r j) (byte s j) (and-fst (eqb (byte r j) (byte s j)) (rises_from m (suc j) r s) e), and-snd (eqb (byte r j) (byte s j)) (rises_from m (suc j) r s) e)

rises-less : (m j : ℕ) (r s : List ℕ) → byte r j < byte s j → rises_from (suc m) j r s ≡ true
unfolding rises_from
rises-less m j r s h = or_left (ltb (byte r j) (byte s j)) _ (lt-ltb (byte r j) (byte s j) h)

rises-equal : (m j : ℕ) (r s : List ℕ) → byte r j ≡ byte s j → rises_from m (suc j) r s ≡ true → rises_from (suc m) j r s ≡ true
unfolding rises_from
rises-equal m j r s e h = or_right (ltb (byte r j) (byte s j)) _ (and_intro (eqb (byte r j) (byte s j)) _ (eq-eqb (byte r j) (byte s j) e) h)

rises-last : (j : ℕ) (r s : List ℕ) → rises_from 0 j r s ≡ true → byte r j < byte s j
unfolding rises_from
rises-last j r s h = ltb-true (byte r j) (byte s j) h

rises-on : (m j : ℕ) (r s t : List ℕ) → rises_from m j r s ≡ true → rises_from m j s t ≡ true → rises_from m j r t ≡ true
unfolding rises_from
rises-on zero j r s t p q = lt-ltb (byte r j) (byte t j) (omega (arith, rises-last j r s p, rises-last j s t q))
rises-on (suc m) j r s t p q = by (rises-on m (suc j) r s t) (rises-cases m j r s p) (rises-cases m j s t q)
  where
    by : (rises_from m (suc j) r s ≡ true → rises_from m (suc j) s t ≡ true → rises_from m (suc j) r t ≡ true)
        → (byte r j < byte s j) ⊎ ((byte r j ≡ byte s j) × (rises_from m (suc j) r s ≡ true)) → (byte s j < byte t j) ⊎ ((byte s j ≡ byte t j) × (rises_from m (suc j) s t ≡ true))
        → rises_from (suc m) j r t ≡ true
    by ih (inl x) (inl y) = rises-less m j r t (omega arith)
    by ih (inl x) (inr y) = rises-less m j r t (omega (arith, y.0))
    by ih (inr x) (inl y) = rises-less m j r t (omega (arith, x.0))
    by ih (inr x) (inr y) = rises-equal m j r t (x.0 ∙ y.0) (ih x.1 y.1)

rises-past : (m j : ℕ) (r s : List ℕ) → byte r j ≡ byte s j → rises_from (suc m) j r s ≡ true → rises_from m (suc j) r s ≡ true
rises-past m j r s e h = by (rises-cases m j r s h)
  where
    by : (byte r j < byte s j) ⊎ ((byte r j ≡ byte s j) × (rises_from m (suc j) r s ≡ true)) → rises_from m (suc j) r s ≡ true
    by (inl x) = absurd (let z : ⊥ = omega arith in z)
    by (inr x) = x.1

-- not below a byte that is 0
rises-over : (m j : ℕ) (r s : List ℕ) → byte s j ≡ 0 → rises_from (suc m) j r s ≡ true → rises_from m (suc j) r s ≡ true
rises-over m j r s e h = by (rises-cases m j r s h)
  where
    by : (byte r j < byte s j) ⊎ ((byte r j ≡ byte s j) × (rises_from m (suc j) r s ≡ true)) → rises_from m (suc j) r s ≡ true
    by (inl x) = absurd (let z : ⊥ = omega arith in z)
    by (inr x) = x.1

-- the unused bytes of a transition
transition-zeros : (r : List ℕ) → stray_byte r ≡ false → byte r 0 ≡ transition_kind → (byte r 4 ≡ 0) × (byte r 5 ≡ 0) × (byte r 6 ≡ 0) × (byte r 7 ≡ 0)
unfolding stray_byte_in
transition-zeros r a k =
    let T = ltb 0 (byte r 4) || (ltb 0 (byte r 5) || (ltb 0 (byte r 6) || ltb 0 (byte r 7))) in
    let P = eqb (byte r 0) rule_kind && (stray_symbol 1 0 r || some_byte 2 5 r) in
    let F = eqb (byte r 0) final_kind && some_byte 5 2 r in
    let q = (or-neither (eqb (byte r 0) transition_kind && T) F (or-neither P ((eqb (byte r 0) transition_kind && T) || F) a).1).0 in
    let s : T ≡ false = sym (ap (λ (b : Bool). b && T) (eq-eqb (byte r 0) transition_kind k)) ∙ q in
    let u = or-neither (ltb 0 (byte r 4)) (ltb 0 (byte r 5) || (ltb 0 (byte r 6) || ltb 0 (byte r 7))) s in
    let w = or-neither (ltb 0 (byte r 5)) (ltb 0 (byte r 6) || ltb 0 (byte r 7)) u.1 in
    let x = or-neither (ltb 0 (byte r 6)) (ltb 0 (byte r 7)) w.1 in
    (omega (arith, ltb-false 0 (byte r 4) u.0), omega (arith, ltb-false 0 (byte r 5) w.0), omega (arith, ltb-false 0 (byte r 6) x.0), omega (arith, ltb-false 0 (byte r 7) x.1))

-- ---- no record stands twice in a file that is not refused

module _ (bs : List ℕ) (v : (fault bs).number ≡ 0) where
  next-rises : (i : ℕ) → suc i < record_count bs → rises (record_at bs i) (record_at bs (suc i)) ≡ true
  unfolding exceeds_in
  next-rises i h =
      let z : suc i - 1 ≡ i = omega arith in
      let o = (valid-passes bs v (suc i) h).order in
      let f : eqb (suc i) 0 ≡ false = ne_eqb (suc i) 0 (λ e. let y : ⊥ = omega arith in y) in
      sym (ap (λ (j : ℕ). rises (record_at bs j) (record_at bs (suc i))) z) ∙ sym (ap (λ (b : Bool). b || rises (record_at bs (suc i - 1)) (record_at bs (suc i))) f) ∙ o

  later-rises : (i d : ℕ) → i + suc d < record_count bs → rises (record_at bs i) (record_at bs (i + suc d)) ≡ true
  later-rises i zero h = let z : suc i ≡ i + 1 = omega arith in subst (λ (j : ℕ). rises (record_at bs i) (record_at bs j) ≡ true) z (next-rises i (omega arith))
  later-rises i (suc d) h =
      let z : suc (i + suc d) ≡ i + suc (suc d) = omega arith in
      subst (λ (j : ℕ). rises (record_at bs i) (record_at bs j) ≡ true) z
      (rises-on 7 0 (record_at bs i) (record_at bs (i + suc d)) (record_at bs (suc (i + suc d))) (later-rises i d (omega arith)) (next-rises (i + suc d) (omega arith)))

  -- of two transitions from one state on one letter the later one has the higher target
  targets-rise : (i j : ℕ) → i < j → j < record_count bs → kind_at bs i ≡ transition_kind → kind_at bs j ≡ transition_kind
      → byte (record_at bs i) 1 ≡ byte (record_at bs j) 1 → byte (record_at bs i) 2 ≡ byte (record_at bs j) 2 → byte (record_at bs i) 3 < byte (record_at bs j) 3
  targets-rise i j l h ki kj e f =
      let z : i + suc (j - suc i) ≡ j = omega arith in
      let r = record_at bs i in
      let s = record_at bs j in
      let up = subst (λ (k : ℕ). rises (record_at bs i) (record_at bs k) ≡ true) z (later-rises i (j - suc i) (omega arith)) in
      by (rises-cases 3 3 r s (rises-past 4 2 r s f (rises-past 5 1 r s e (rises-past 6 0 r s (ki ∙ sym kj) up))))
      (transition-zeros s (valid-passes bs v j h).zeros kj)
    where
      by : (byte (record_at bs i) 3 < byte (record_at bs j) 3) ⊎ ((byte (record_at bs i) 3 ≡ byte (record_at bs j) 3) × (rises_from 3 4 (record_at bs i) (record_at bs j) ≡ true))
          → (byte (record_at bs j) 4 ≡ 0) × (byte (record_at bs j) 5 ≡ 0) × (byte (record_at bs j) 6 ≡ 0) × (byte (record_at bs j) 7 ≡ 0) → byte (record_at bs i) 3 < byte (record_at bs j) 3
      by (inl x) o = x
      by (inr x) o =
          let r = record_at bs i in
          let s = record_at bs j in
          let q = rises-last 7 r s (rises-over 0 6 r s o.2 (rises-over 1 5 r s o.1 (rises-over 2 4 r s o.0 x.1))) in
          absurd (let z : ⊥ = omega (arith, o.3) in z)

  -- so those of m records from i on, whose targets are at least b, are few
  few-from : (a c m i b : ℕ) → i + m ≤ record_count bs → b ≤ states
      → ((j : ℕ) → i ≤ j → j < i + m → kind_at bs j ≡ transition_kind → byte (record_at bs j) 1 ≡ a → byte (record_at bs j) 2 ≡ c → b ≤ byte (record_at bs j) 3)
      → moves_on (collect transition_kind transition_of bs m i) a c + b ≤ states
  unfolding collect
  few-from a c zero i b h l low = omega (arith, moves-none a c)
  few-from a c (suc m) i b h l low = by (eqb (kind_at bs i) transition_kind) refl (few-from a c m (suc i))
    where
      by : (k : Bool) → eqb (kind_at bs i) transition_kind ≡ k
          → ((b' : ℕ) → suc i + m ≤ record_count bs → b' ≤ states
          → ((j : ℕ) → suc i ≤ j → j < suc i + m → kind_at bs j ≡ transition_kind → byte (record_at bs j) 1 ≡ a → byte (record_at bs j) 2 ≡ c → b' ≤ byte (record_at bs j) 3)
          → moves_on (collect transition_kind transition_of bs m (suc i)) a c + b' ≤ states)
          → moves_on (cons_if k (transition_of (record_at bs i)) (collect transition_kind transition_of bs m (suc i))) a c + b ≤ states
      by false k ih = ih b (omega arith) l (λ j p q. low j (omega arith) (omega arith))
      by true k ih = led (leads (transition_of (record_at bs i)) a c) refl
        where
          kind : kind_at bs i ≡ transition_kind
          kind = eqb-true (kind_at bs i) transition_kind k

          led : (x : Bool) → leads (transition_of (record_at bs i)) a c ≡ x → moves_on (transition_of (record_at bs i) ∷ collect transition_kind transition_of bs m (suc i)) a c + b ≤ states
          led false p =
              omega (arith, moves-first (transition_of (record_at bs i)) (collect transition_kind transition_of bs m (suc i)) a c false p, ih b (omega arith) l (λ j p q. low j (omega arith) (omega arith)))
          led true p =
              let s = eqb-true (byte (record_at bs i) 1) a (and-fst (eqb (byte (record_at bs i) 1) a) (eqb (byte (record_at bs i) 2) c) p) in
              let t = eqb-true (byte (record_at bs i) 2) c (and-snd (eqb (byte (record_at bs i) 1) a) (eqb (byte (record_at bs i) 2) c) p) in
              let u = (transition-range (record_at bs i) (valid-passes bs v i (omega arith)).range kind).2 in
              let f = ih (suc (byte (record_at bs i) 3)) (omega arith) (omega arith) (λ j y z kj e g. targets-rise i j (omega arith) (omega arith) kind kj (s ∙ sym e) (t ∙ sym g)) in
              omega (arith, moves-first (transition_of (record_at bs i)) (collect transition_kind transition_of bs m (suc i)) a c true p, low i (omega arith) (omega arith) kind s t, f)

  -- at most one for each target
  pub moves-few : (a c : ℕ) → moves_on (transitions_of bs) a c ≤ states
  unfolding transitions_of
  moves-few a c = omega (arith, few-from a c (record_count bs) 0 0 (omega arith) (omega arith) (λ j p q k e f. omega arith))

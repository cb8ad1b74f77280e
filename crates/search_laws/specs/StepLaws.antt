-- Laws of the steps between candidates, on values: no effect is named. Assumes nothing.
use Rattle.std.specs.Prelude.{◌≡◌, refl, Bool, true, not, ◌&&◌, ◌||◌, List, ℕ, zero, suc, ◌+◌, ◌-◌, ◌*◌, ◌≤◌, ◌<◌, eqb, leb, ltb, length, take, drop, set}
use Rattle.std.proofs.Common.{sym, ap, ◌∙◌, subst, le_refl, le_of_eq, zero-mul, suc-mul, arith, length-set, length-drop, drop-set-lt, take_all, get_or-set_other, leb-false, ltb-true, lt-ltb}
use Rattle.std.proofs.lemmas.Bool.{lt-leb}
use Rattle.spec_basics.specs.Tests.{and_intro, and-fst, and-snd, fails, not-excludes}
use Rattle.spec_order.specs.Journal.{absent}
use Rattle.search_state.specs.Budgets.{is_spent}
use Rattle.search_state.specs.Forming.{left_part, right_part, entry_at}
use Rattle.search_state.specs.Layout.{row_cells, heads, head_cell, lists_from, lists_in, end}
use Rattle.search_state.specs.Positions.{first_at}
use Rattle.search_state.specs.declared.Counts.{Counts}
use Rattle.search_state.specs.declared.Place.{Place}
use Rattle.search_state.specs.declared.Terms.{Terms}
use Rattle.search_order.specs.Lists.{after_in}
use Rattle.search_order.specs.PlaceLaws.{follows-right, follows-left}
use Rattle.search_order.specs.Places.{FirstPosition, NextPlace}
use Rattle.search_order.specs.PlacesLeft.{places_left, PassFrom}
use Rattle.search_order.specs.PlacesLeftLaws.{places-next}
use Rattle.search_spans.specs.Spans.{Along, Measured, Spans}
use Rattle.search_spans.specs.declared.Span.{Span}
use Rattle.search_links.specs.CoverLaws.{covering-links}
use Rattle.search_laws.specs.Problems.{RuleBytes}
use Rattle.search_laws.specs.Steps.{Remembers, LinksAlong, MayPass, is_before, repeats_at, passes_at, StepsTo, Moves, moved_to, OverStep, PassesOver, PassesSpan, JoinsAlone, Later}
use Rattle.search_laws.specs.declared.Reached.{Reached}

-- ---- hints

pub remembers-none : (t : List ℕ) → Remembers t t
remembers-none t = record { size = refl; links = λ i m. refl; lists = refl }

pub remembers-one : (t : List ℕ) (cell v : ℕ) → head_cell heads ≤ cell → cell < lists_from → Remembers t (set t cell v)
remembers-one t cell v a b =
    record { size = length-set t cell v; links = λ i m. get_or-set_other t cell i v 0 (λ e. omega (arith, e, a, m)); lists = drop-set-lt lists_from t cell v b }

pub remembers-two : (t : List ℕ) (cell slot v : ℕ) → head_cell heads ≤ cell → cell < lists_from → head_cell heads ≤ slot → slot < lists_from → Remembers t (set (set t cell v) slot v)
remembers-two t cell slot v a b c d =
    let x = remembers-one t cell v a b in
    let y = remembers-one (set t cell v) slot v c d in
    record { size = y.size ∙ x.size; links = λ i m. y.links i m ∙ x.links i m; lists = y.lists ∙ x.lists }

pub remembers-links : {u : ℕ} {old new : List ℕ} → Remembers old new → u ≤ row_cells → LinksAlong u old → LinksAlong u new
remembers-links {u} {old} {new} m h l = record { rows = l.rows; size = l.size; covering = covering-links l.rows old new (omega (arith, l.size, h)) m.size m.links l.covering }

pub remembers-passes : {rules : RuleBytes} {n : ℕ} {b : Terms} {old new : List ℕ} {p : Place} → Remembers old new → MayPass rules n b old p → MayPass rules n b new p
remembers-passes {rules} {n} {b} {old} {new} {p} m a =
    record { table = m.size ∙ a.table; count = a.count; old = a.old; measured = subst (Measured b.old) (sym m.lists) a.measured; places = subst (λ (lists : List ℕ). PassFrom lists (take n rules) p) (sym m.lists) a.places }

-- the last part of the table, as it is lent
pub lent-lists : (t : List ℕ) → take (length t - lists_from) (drop lists_from t) ≡ lists_in t
lent-lists t = take_all (length t - lists_from) (drop lists_from t) (le_of_eq (length-drop lists_from t))

-- ---- steps

module _ {step : Reached → Reached → Type 0} where
  -- what each step keeps, all of them keep
  steps-keep : (I : Reached → Type 0) → ((y r : Reached) → step y r → I y → I r) → (k : ℕ) {x r : Reached} → StepsTo step k x r → I x → I r
  steps-keep I f zero e i = subst I (sym e) i
  steps-keep I f (suc k) (y, s, e) i = f y _ e (steps-keep I f k s i)

  pub moves-keep : (I : Reached → Type 0) → ((y r : Reached) → step y r → I y → I r) → {x r : Reached} → Moves step x r → I x → I r
  moves-keep I f (k, s) i = steps-keep I f k s i

  pub moves-none : (x : Reached) → Moves step x x
  moves-none x = (0, refl)

  pub moves_next : {x y r : Reached} → Moves step x y → step y r → Moves step x r
  moves_next {x} {y} (k, s) e = (suc k, (y, s, e))

  moves_more : {x y z : Reached} → Moves step x y → Moves step y z → Moves step x z
  moves_more {x} u v = moves-keep (Moves step x) (λ y r e i. moves_next i e) v u

-- ---- a candidate that may be passed over

-- one more join may be made
pub not-spent : (B n : ℕ) → not (is_spent B n) ≡ true → n < B
not-spent B n e = leb-false B n (fails (leb B n) (not-excludes (leb B n) e))

module _ (b : Terms) (n : ℕ) (x : Reached) (e : passes_at b n x ≡ true) where
  rest-passes : (not (is_spent b.budget x.counts.joins) && repeats_at b.old x.place) ≡ true
  rest-passes = and-snd (ltb x.place.rule n) (not (is_spent b.budget x.counts.joins) && repeats_at b.old x.place) e

  pub passes-here : x.place.rule < n
  passes-here = ltb-true x.place.rule n (and-fst (ltb x.place.rule n) (not (is_spent b.budget x.counts.joins) && repeats_at b.old x.place) e)

  pub passes-paid : x.counts.joins < b.budget
  passes-paid = not-spent b.budget x.counts.joins (and-fst (not (is_spent b.budget x.counts.joins)) (repeats_at b.old x.place) rest-passes)

  pub passes-again : repeats_at b.old x.place ≡ true
  passes-again = and-snd (not (is_spent b.budget x.counts.joins)) (repeats_at b.old x.place) rest-passes

  -- its positions are old, or no rows
  abbrev both-before : Bool
  both-before = is_before b.old x.place.left && is_before b.old x.place.right

  left-before : is_before b.old x.place.left ≡ true
  left-before = and-fst (is_before b.old x.place.left) (is_before b.old x.place.right) (and-snd (ltb 0 b.old) both-before passes-again)

  right-before : is_before b.old x.place.right ≡ true
  right-before = and-snd (is_before b.old x.place.left) (is_before b.old x.place.right) (and-snd (ltb 0 b.old) both-before passes-again)

  -- at other such positions it may be passed over too, if a join is left
  passes-moved : (m i k : ℕ) → is_before b.old i ≡ true → is_before b.old k ≡ true → m < b.budget → passes_at b n (moved_to x m i k) ≡ true
  passes-moved m i k hi hk hm =
      let u = b.old in
      and_intro (ltb x.place.rule n) (not (is_spent b.budget m) && (ltb 0 u && (is_before u i && is_before u k))) (lt-ltb x.place.rule n passes-here)
      (and_intro (not (is_spent b.budget m)) (ltb 0 u && (is_before u i && is_before u k)) (ap not (lt-leb b.budget m hm))
      (and_intro (ltb 0 u) (is_before u i && is_before u k) (and-fst (ltb 0 u) both-before passes-again) (and_intro (is_before u i) (is_before u k) hi hk)))

-- an old row
old-before : (b i : ℕ) → i < b → is_before b i ≡ true
old-before b i h = ap (λ (z : Bool). z || eqb i absent) (lt-ltb i b h)

-- ---- from place to place

module _ (rules : RuleBytes) (t : List ℕ) (b : Terms) where
  pub over_none : (x : Reached) → PassesOver rules t b x x
  over_none x = moves-none x

  pub over-more : {x y z : Reached} → PassesOver rules t b x y → PassesOver rules t b y z → PassesOver rules t b x z
  over-more u v = moves_more u v

  pub over-counted : {x r : Reached} → PassesOver rules t b x r → JoinsAlone x r
  over-counted {x} v = moves-keep (JoinsAlone x) more v (record { joins = le_refl x.counts.joins; used = refl; added = refl })
    where
      more : (y r : Reached) → OverStep rules t b y r → JoinsAlone x y → JoinsAlone x r
      more y r e i =
          record {
            joins = omega (arith, i.joins, ap (λ (w : Counts). w.joins) e.counts);
            used = ap (λ (w : Counts). w.used) e.counts ∙ i.used;
            added = ap (λ (w : Counts). w.added) e.counts ∙ i.added;
          }

  -- a span, and the place after it
  module _ {x r : Reached} {q : Place} (v : PassesSpan rules t b x r) (f : NextPlace (lists_in t) rules r.place q) where
    next_last : NextPlace (lists_in t) rules v.last.place q
    next_last = subst (λ (p : Place). NextPlace (lists_in t) rules p q) (ap (λ (z : Reached). z.place) v.counted) f

    pub over-span : PassesOver rules t b x (record { counts = r.counts; place = q })
    over-span = moves_next v.before (record { passes = v.passes; next = next_last; counts = ap (λ (z : Reached). z.counts) v.counted })

    -- less of the pass is left
    pub span-later : PassFrom (lists_in t) rules x.place → Later rules t x.place q
    span-later w =
        let n = length rules in
        let a = moves-keep Kept step v.before (w, le_refl (places_left (lists_in t) rules x.place)) in
        let z = places-next (passes-here b n v.last v.passes) next_last a.0 in
        (z.0, omega (arith, z.1, a.1))
      where
        Kept : Reached → Type 0
        Kept y = PassFrom (lists_in t) rules y.place × (places_left (lists_in t) rules y.place ≤ places_left (lists_in t) rules x.place)

        step : (y z : Reached) → OverStep rules t b y z → Kept y → Kept z
        step y z o (p, l) =
            let next = places-next (passes-here b (length rules) y o.passes) o.next p in
            (next.0, omega (arith, next.1, l))

-- ---- a span, counted at once

module _ (rules : RuleBytes) (t : List ℕ) (b : Terms) (fits : b.old ≤ row_cells) (x : Reached) (e : passes_at b (length rules) x ≡ true) where
  -- the candidates from x on up to that of this place are counted, n joins in all
  abbrev Done : ℕ → ℕ → ℕ → Type 0
  Done n i k = PassesSpan rules t b x (moved_to x n i k)

  abbrev At : ℕ → ℕ → Place
  At i k = first_at x.place.rule i k

  -- one more
  done_next : (n i k i' k' : ℕ) → Done n i k → NextPlace (lists_in t) rules (At i k) (At i' k') → is_before b.old i' ≡ true → is_before b.old k' ≡ true → n < b.budget → Done (n + 1) i' k'
  done_next n i k i' k' d f hi hk paid =
      record { last = moved_to x n i' k'; before = over-span rules t b d f; passes = passes-moved b (length rules) x e n i' k' hi hk paid; counted = refl }

  -- the place alone
  pub span-alone : Done (x.counts.joins + 1) x.place.left x.place.right
  span-alone = record { last = x; before = over_none rules t b x; passes = e; counted = refl }

  -- m rights more
  rights-done : (n i k m l : ℕ) → is_before b.old i ≡ true → Along (lists_in t) b.old k m l → n + m ≤ b.budget → Done n i k → Done (n + m) i l
  rights-done n i k zero l hi a paid d = subst (Done (n + zero) i) (sym a) (subst (λ (z : ℕ). Done z i k) (let z : n ≡ n + zero = omega arith in z) d)
  rights-done n i k (suc m) l hi (y, a, z, h) paid d =
      subst (λ (v : ℕ). Done v i l) (let v : n + m + 1 ≡ n + suc m = omega arith in v)
      (done_next (n + m) i y i l (rights-done n i k m y hi a (omega (arith, paid)) d) (follows-right (lists_in t) rules (At i y) l z (λ v. omega (arith, v, h, fits))) hi (old-before b.old l h) (omega (arith, paid)))

  -- c lefts more, each with all its rights: one that begins with k, and m more, the last of which is l
  module _ (k m l : ℕ) (begins : FirstPosition (lists_in t) (right_part (entry_at rules x.place.rule).body) k) (hk : is_before b.old k ≡ true) (along : Along (lists_in t) b.old k m l) (last : after_in (lists_in t) l ≡ end) where
    lefts-done : (n i c y : ℕ) → Along (lists_in t) b.old i c y → n + c * (m + 1) ≤ b.budget → Done n i l → Done (n + c * (m + 1)) y l
    lefts-done n i zero y a paid d = subst (λ (v : ℕ). Done (n + zero * (m + 1)) v l) (sym a) (subst (λ (v : ℕ). Done v i l) (let v : n ≡ n + zero * (m + 1) = omega (arith, zero-mul (m + 1)) in v) d)
    lefts-done n i (suc c) y (z, a, f, h) paid d =
        let s : suc c * (m + 1) ≡ c * (m + 1) + (m + 1) = suc-mul c (m + 1) in
        let before = lefts-done n i c z a (omega (arith, paid, s)) d in
        let hy = old-before b.old y h in
        let first = done_next (n + c * (m + 1)) z l y k before (follows-left (lists_in t) rules (At z l) last y k f (λ v. omega (arith, v, h, fits)) begins) hy hk (omega (arith, paid, s)) in
        subst (λ (v : ℕ). Done v y l) (let v : n + c * (m + 1) + 1 + m ≡ n + suc c * (m + 1) = omega (arith, s) in v)
        (rights-done (n + c * (m + 1) + 1) y k m l hy along (omega (arith, paid, s)) first)

  -- the place with the rights of their span
  module _ (s : Span) (v : Spans b.old (lists_in t) (right_part (entry_at rules x.place.rule).body) s) (f : s.first ≡ x.place.right) (paid : x.counts.joins + 1 + s.steps ≤ b.budget) where
    rights-along : Along (lists_in t) b.old x.place.right s.steps s.last
    rights-along = subst (λ (i : ℕ). Along (lists_in t) b.old i s.steps s.last) f v.along

    pub span-rights : Done (x.counts.joins + 1 + s.steps) x.place.left s.last
    span-rights = rights-done (x.counts.joins + 1) x.place.left x.place.right s.steps s.last (left-before b (length rules) x e) rights-along paid span-alone

    -- and with the lefts of theirs, where no other right is left
    pub span-lefts : after_in (lists_in t) s.last ≡ end → (l : Span) → Spans b.old (lists_in t) (left_part (entry_at rules x.place.rule).body) l → l.first ≡ x.place.left
        → x.counts.joins + 1 + s.steps + l.steps * (s.steps + 1) ≤ b.budget → Done (x.counts.joins + 1 + s.steps + l.steps * (s.steps + 1)) l.last s.last
    span-lefts last l w h more =
        lefts-done x.place.right s.steps s.last (subst (FirstPosition (lists_in t) (right_part (entry_at rules x.place.rule).body)) f v.first) (right-before b (length rules) x e) rights-along last
        (x.counts.joins + 1 + s.steps) x.place.left l.steps l.last (subst (λ (i : ℕ). Along (lists_in t) b.old i l.steps l.last) h w.along) more span-rights

-- A glance passes only candidates that a live row covers, so that the invariant of the search holds where it ends, and the effect that it returns is
-- that of the candidate there. Assumes nothing.
use Rattle.std.specs.Prelude.{◌≡◌, Bool, true, false, not, cond, List, [], ℕ, suc, ◌-◌, ◌≤◌, ◌<◌, T, ltb, length, get_or}
use Rattle.std.proofs.Math.Path.{refl, ap₂}
use Rattle.std.proofs.Common.{sym, ap, ◌∙◌, subst, subst₂, inl, inr, le_refl, arith, le-ltb, ltb-true, ltb-false}
use Rattle.std.proofs.Math.ListN.{get_or-eq_default}
use Rattle.std.proofs.lemmas.Bool.{lt-leb}
use Rattle.relation.specs.Relation.{states, compose, contained}
use Rattle.relation.specs.Representation.{value, none}
use Rattle.spec_language.specs.Grammar.{Symbol, terminal, nonterminal, Body, empty, one, two, Rule}
use Rattle.spec_file.specs.Entries.{entry_of}
use Rattle.spec_file.specs.Limits.{terminals}
use Rattle.spec_file.specs.Views.{symbol_of}
use Rattle.spec_order.specs.Candidates.{Candidate, bare, sole, paired}
use Rattle.spec_order.proofs.Coverage.{dropped-covered, covered-dropped}
use Rattle.spec_order.specs.Journal.{Row, live_of}
use Rattle.spec_order.specs.Order.{dropped}
use Rattle.search_rows.specs.Forming.{formed_in}
use Rattle.search_rows.specs.Meanings.{composing_of}
use Rattle.search_order.specs.Candidates.{candidate_at}
use Rattle.search_state.specs.Forming.{left_part, right_part, entry_at, symbol_choice, part_choice, combined}
use Rattle.search_state.specs.Layout.{heads, head_cell, lists_from, lists_in}
use Rattle.search_state.specs.Positions.{first_at}
use Rattle.search_state.specs.declared.Place.{Place}
use Rattle.search_state.specs.Phases.{is_going}
use Rattle.search_state.specs.declared.State.{State}
use Rattle.search_state.specs.declared.Terms.{Terms}
use Rattle.search_cover.specs.Near.{row_effect_at, as_candidate, RowsIn, Beside}
use Rattle.spec_calls.specs.Rows.{row_of, blank, Journal}
use Rattle.spec_calls.specs.declared.Row.{Row as LentRow}
use Rattle.search_links.specs.RowLaws.{rows-length}
use Rattle.search_links.specs.Rows.{rows_read}
use Rattle.search_order.specs.PlaceLaws.{follows-right}
use Rattle.search_laws.specs.OnRelations.{problem_in, NearIn, Running}
use Rattle.search_laws.specs.Passing.{InPass, pass-covered}
use Rattle.search_laws.specs.ProblemLaws.{problem-laws}
use Rattle.search_laws.specs.Problems.{RuleBytes, Problem, algebra_of, first_rows}
use Rattle.search_laws.specs.RunLaws.{works-on, started, stands_on, goes_on, used-fits, limit, rule-inside, rule-there, formed-there}
use Rattle.search_laws.specs.Running.{Goes, SearchAt, Onward, candidates_left}
use Rattle.search_laws.specs.RunningLaws.{stand-on}
use Rattle.search_laws.specs.States.{standing_by, standing}
use Rattle.search_laws.specs.StepLaws.{moves-keep}
use Rattle.search_laws.specs.Walks.{candidate_in}
use Rattle.search_laws.specs.declared.Reached.{Reached}
use Rattle.search_glance.specs.Glancing.{used_effect, symbol_effect, body_effect, right_effect, effect_in, after_left, KnownBelow, GlanceStep, right_at, stands_at, Passed, PassedFrom, Glances, MayGlance, Tries}
use Rattle.search_glance.specs.declared.Tried.{Tried}

-- ---- the rule

-- a body of two symbols, of which the second is a nonterminal
pub body-two : (xs : List ℕ) → get_or xs 1 0 ≡ 2 → terminals ≤ get_or xs 3 0 → (entry_of xs).body ≡ two (symbol_of (get_or xs 2 0)) (nonterminal (get_or xs 3 0 - terminals))
body-two xs e h = rw (e, le-ltb (get_or xs 3 0) terminals h)

-- its effect is that of its first symbol before that of a row
pub effect-two : (letters w : List ℕ) (u : ℕ) (xs : List ℕ) → get_or xs 1 0 ≡ 2 → terminals ≤ get_or xs 3 0 → (i k : ℕ) → body_effect letters w u (entry_of xs).body i k ≡ after_left w u (symbol_effect letters w u (symbol_of (get_or xs 2 0)) i) k
effect-two letters w u xs e h i k = ap (λ (b : Body). body_effect letters w u b i k) (body-two xs e h)

-- where candidates were passed, the state is at a place, and not at the end
passed-state : {t w : List ℕ} {s : State} {x : ℕ} {f : ℕ → ℕ} {r : State} (p : Passed t w s x f r) → r ≡ standing_by false s s.terms (right_at s p.joins p.right).counts (right_at s p.joins p.right).place
passed-state {t} {w} {s} {x} {f} {r} p =
    p.is ∙ ap (λ (b : Bool). standing_by b s s.terms (right_at s p.joins p.right).counts (right_at s p.joins p.right).place) (lt-leb s.terms.budget p.joins p.paid)

-- where these are of such a rule, a glance has passed them
pub tries-past : (letters : List ℕ) (rules : RuleBytes) (t w : List ℕ) (s : State) {r : Tried} → let xs = get_or rules s.place.rule [] in get_or xs 1 0 ≡ 2 → terminals ≤ get_or xs 3 0
    → PassedFrom t w (entry_at rules s.place.rule).head (symbol_effect letters w s.counts.used (symbol_of (get_or xs 2 0)) s.place.left) s r → Tries letters rules t w s r
tries-past letters rules t w s {r} e h p =
    let u = s.counts.used in
    let x = (entry_at rules s.place.rule).head in
    let body = body-two (get_or rules s.place.rule []) e h in
    let passed : Passed t w s x (right_effect letters rules w s) r.state = subst (λ (b : Body). Passed t w s x (body_effect letters w u b s.place.left) r.state) (sym body) p.passed in
    record {
      glances = inr passed;
      effect =
          p.effect ∙ sym (ap (λ (b : Body). body_effect letters w u b s.place.left p.passed.right) body)
          ∙ sym (ap (effect_in letters rules w) (passed-state p.passed));
      known = p.hints.known;
      slot = p.hints.slot;
    }

-- ---- the rows in the words

-- these u rows have their effects and nonterminals in the words w
module _ (letters w : List ℕ) (u : ℕ) (rows : List (Row ℕ)) (size : length rows ≡ u) (g : RowsIn rows w) where
  -- the effect of a row is the one in the words, and past them that of a blank row
  row_is : (i : ℕ) → (get_or rows i (row_of blank)).effect ≡ used_effect w u i
  row_is i = by (ltb i u) refl
    where
      by : (b : Bool) → ltb i u ≡ b → (get_or rows i (row_of blank)).effect ≡ cond b (row_effect_at w i) (value none)
      by true p = sym (g.effects (row_of blank) i (omega (arith, ltb-true i u p, size)))
      by false p = ap (λ (r : Row ℕ). r.effect) (get_or-eq_default rows (row_of blank) (omega (arith, ltb-false i u p, size)))

  symbol-is : (a : Symbol) (i : ℕ) → (symbol_choice (composing_of letters) a i (get_or rows i (row_of blank))).effect ≡ symbol_effect letters w u a i
  symbol-is (terminal c) i = refl
  symbol-is (nonterminal x) i = row_is i

  -- what is formed at a place of these rows, by the body
  abbrev formed : RuleBytes → Place → Body → Candidate ℕ
  formed rules p b =
      let F = composing_of letters in
      combined F (entry_at rules p.rule).head p.rule b (part_choice F (left_part b) p.left (get_or rows p.left (row_of blank))) (part_choice F (right_part b) p.right (get_or rows p.right (row_of blank)))

  -- it has the effect that the words give, and the nonterminal of the rule
  formed-is : (rules : RuleBytes) (p : Place) → (candidate_at (composing_of letters) (row_of blank) rows rules p).effect ≡ body_effect letters w u (entry_at rules p.rule).body p.left p.right
  unfolding bare sole paired
  formed-is rules p = by (entry_at rules p.rule).body
    where
      by : (b : Body) → (formed rules p b).effect ≡ body_effect letters w u b p.left p.right
      by empty = refl
      by (one a) = symbol-is a p.left
      by (two a b) = ap₂ (compose states) (symbol-is a p.left) (symbol-is b p.right)

  head-is : (rules : RuleBytes) (p : Place) → (candidate_at (composing_of letters) (row_of blank) rows rules p).head ≡ (entry_at rules p.rule).head
  unfolding bare sole paired
  head-is rules p = by (entry_at rules p.rule).body
    where
      by : (b : Body) → (formed rules p b).head ≡ (entry_at rules p.rule).head
      by empty = refl
      by (one a) = refl
      by (two a b) = refl

  -- a row of the nonterminal with a smaller effect, live or retired, tells that a live one covers
  known-dropped : (c : Candidate ℕ) → KnownBelow w u c.head c.effect → dropped contained c rows ≡ true
  known-dropped c k =
      let h : k.row < length rows = omega (arith, k.used, size) in
      let r = get_or rows k.row (row_of blank) in
      let v = dropped-covered (algebra_of (problem_in 0 0 [] [])) (as_candidate r) rows (g.under (row_of blank) k.row h) in
      let head : r.head ≡ c.head = sym (g.heads-of (row_of blank) k.row h) ∙ k.head in
      covered-dropped (algebra_of (problem_in 0 0 [] [])) c rows (record {
        row = v.row;
        listed = v.listed;
        alive = subst (λ (x : ℕ). live_of x v.row ≡ true) head v.alive;
        within = (problem-laws 0 0 [] []).below-trans v.row.effect r.effect c.effect v.within (subst (λ (e : ℕ). contained e c.effect ≡ true) (g.effects (row_of blank) k.row h) k.below);
      })

  -- so where a candidate is known to be covered, a live row covers it
  place-dropped : (rules : RuleBytes) (p : Place) → KnownBelow w u (entry_at rules p.rule).head (body_effect letters w u (entry_at rules p.rule).body p.left p.right) → dropped contained (candidate_at (composing_of letters) (row_of blank) rows rules p) rows ≡ true
  place-dropped rules p k = known-dropped (candidate_at (composing_of letters) (row_of blank) rows rules p) (subst₂ (KnownBelow w u) (sym (head-is rules p)) (sym (formed-is rules p)) k)

-- ---- the candidate at which a search stands

module _ {letters : List ℕ} {rules : RuleBytes} {start : State} {j₀ : Journal} {s : State} {j : Journal} {t w : List ℕ} (r : Running letters rules start j₀ s j t) (going : T (is_going s.phase)) (near : NearIn s j w) where
  size_is : length (rows_read row_of s.counts.used j) ≡ s.counts.used
  size_is = rows-length row_of s.counts.used j (used-fits r.search going)

  -- it has the effect that the words give
  effect-there : (formed_in letters rules s (get_or j s.left_row blank) (get_or j s.right_row blank)).effect ≡ effect_in letters rules w s
  effect-there =
      ap (λ (c : Candidate ℕ). c.effect) (formed-there r.search going)
      ∙ formed-is letters w s.counts.used (rows_read row_of s.counts.used j) size_is near.rows_in (works-on r.search going).rules s.place
      ∙ ap (λ (v : Rule). body_effect letters w s.counts.used v.body s.place.left s.place.right) (sym (rule-there r.search going))

  -- and where that is known to be covered, a live row covers it
  dropped-there : KnownBelow w s.counts.used (entry_at rules s.place.rule).head (effect_in letters rules w s)
      → dropped contained (formed_in letters rules s (get_or j s.left_row blank) (get_or j s.right_row blank)) (rows_read row_of s.counts.used j) ≡ true
  dropped-there k =
      subst (λ (c : Candidate ℕ). dropped contained c (rows_read row_of s.counts.used j) ≡ true) (sym (formed-there r.search going))
      (place-dropped letters w s.counts.used (rows_read row_of s.counts.used j) size_is near.rows_in (works-on r.search going).rules s.place
      (subst (λ (v : Rule). KnownBelow w s.counts.used v.head (body_effect letters w s.counts.used v.body s.place.left s.place.right)) (rule-there r.search going) k))

-- ---- the search after a glance

module _ {letters : List ℕ} {rules : RuleBytes} {start : State} {j₀ : Journal} {s : State} {j : Journal} {t w : List ℕ} (r : Running letters rules start j₀ s j t) (going : T (is_going s.phase)) (near : NearIn s j w) where
  abbrev P : Problem ℕ LentRow
  P = problem_in start.terms.starts start.terms.finals letters rules

  abbrev Q : Problem ℕ LentRow
  Q = works-on r.search going

  go : Goes Q start.terms.budget j₀ s j t
  go = goes_on r.search going

  budget-is : s.terms.budget ≡ start.terms.budget
  budget-is = ap (λ (b : Terms). b.budget) go.begun.terms

  pub may-glance : MayGlance letters rules t w s
  may-glance =
      record {
        near = near.size;
        table = go.in-pass.covering.size;
        letters-all = r.all (started r.search going);
        rule = rule-inside r.search going;
        used = omega (arith, used-fits r.search going, limit r.search going);
        paid = omega (arith, go.unspent, budget-is);
      }

  -- a place of the state's rule and left that the pass has reached, with no row more: the invariant of the pass holds there
  record Here (y : Reached) : Type 0 where
    in-pass : InPass s.terms Q go.first go.journal t y.counts j y.place
    form : y.place ≡ first_at s.place.rule s.place.left y.place.right
    used : y.counts.used ≡ s.counts.used
    joins : s.counts.joins ≤ y.counts.joins

  here-first : Here (stands_at s)
  here-first = record { in-pass = go.in-pass; form = refl; used = refl; joins = le_refl s.counts.joins }

  rule-in : {y : Reached} → Here y → y.place.rule < length Q.rules
  rule-in h = omega (arith, ap (λ (p : Place). p.rule) h.form, go.here)

  module _ {r' : State} (x : Passed t w s (entry_at rules s.place.rule).head (right_effect letters rules w s) r') where
    here-next : (y z : Reached) → GlanceStep t w s (entry_at rules s.place.rule).head (right_effect letters rules w s) y z → Here y → Here z
    here-next y z (m, em, p, e) h =
        let rows = first_rows Q s.counts.used j in
        let known =
        subst (λ (v : Rule). KnownBelow w s.counts.used v.head (body_effect letters w s.counts.used v.body s.place.left y.place.right)) (rule-there r.search going) p.known
        in
        let gone = place-dropped letters w s.counts.used rows (size_is r going near) near.rows_in Q.rules (first_at s.place.rule s.place.left y.place.right) known in
        let dropped-here : dropped contained (candidate_in Q (first_rows Q y.counts.used j) y.place) (first_rows Q y.counts.used j) ≡ true =
        subst₂ (λ (q : Place) (u : ℕ). dropped contained (candidate_in Q (first_rows Q u j) q) (first_rows Q u j) ≡ true) (sym h.form) (sym h.used) gone
        in
        let next = follows-right (lists_in t) Q.rules y.place m em p.more in
        subst Here (sym e) (record {
          in-pass = pass-covered h.in-pass (problem-laws start.terms.starts start.terms.finals letters rules) (rule-in h) (omega (arith, p.paid)) dropped-here next;
          form = ap₂ (λ (a b : ℕ). first_at a b m) (ap (λ (q : Place). q.rule) h.form) (ap (λ (q : Place). q.left) h.form);
          used = h.used;
          joins = omega (arith, h.joins);
        })

    reached : Here (right_at s x.joins x.right)
    reached = moves-keep Here here-next x.passes here-first

    on : Onward Q start.terms.budget j₀ (right_at s x.joins x.right).counts (standing s s.terms (right_at s x.joins x.right).counts (right_at s x.joins x.right).place) j t
    on = stand-on Q start.terms.budget j₀ s (stands_on r.search going).rows (stands_on r.search going).count go.begun reached.in-pass (rule-in reached)

    passed-running : Running letters rules start j₀ r' j t
    passed-running =
        record {
          all = r.all;
          search =
              record {
                idle = λ z. absurd (both (is_going start.phase) (started r.search going) z);
                sized = r.search.sized;
                whole = r.search.whole;
                stands = λ _. subst (λ (v : State). SearchAt Q start.terms.budget j₀ v j t) (sym x.is) on.stands;
              };
        }
      where
        both : (b : Bool) → T b → T (not b) → ⊥
        both true y n = n
        both false y n = y

    passed-left : candidates_left r' ≤ candidates_left s
    passed-left =
        subst (λ (v : State). candidates_left v ≤ candidates_left s) (sym (passed-state x)) (by (is_going s.phase) going)
      where
        by : (b : Bool) → T b → suc (s.terms.budget - x.joins) ≤ cond b (suc (s.terms.budget - s.counts.joins)) 0
        by true y = omega (arith, reached.joins)
        by false y = absurd y

  -- the search goes on after a glance, at the same rule, with no row more and no more candidates left
  record Onwards (v : State) : Type 0 where
    runs : Running letters rules start j₀ v j t
    goes : T (is_going v.phase)
    fewer : candidates_left v ≤ candidates_left s
    used : v.counts.used ≡ s.counts.used
    rule : v.place.rule ≡ s.place.rule

  onwards : (v : State) → Glances letters rules t w s v → Onwards v
  onwards v (inl e) = subst Onwards (sym e) (record { runs = r; goes = going; fewer = le_refl (candidates_left s); used = refl; rule = refl })
  onwards v (inr x) =
      record {
        runs = passed-running x;
        goes = subst (λ (z : State). T (is_going z.phase)) (sym (passed-state x)) tt;
        fewer = passed-left x;
        used = ap (λ (z : State). z.counts.used) (passed-state x);
        rule = ap (λ (z : State). z.place.rule) (passed-state x);
      }

  -- and what is returned is the effect of the candidate there, which a live row covers where the hints say so, and a cell of the hints
  pub record Glanced (r' : Tried) : Type 0 where
    pub runs : Running letters rules start j₀ r'.state j t
    pub goes : T (is_going r'.state.phase)
    pub beside : NearIn r'.state j w
    pub fewer : candidates_left r'.state ≤ candidates_left s
    pub effect : value r'.effect ≡ (formed_in letters rules r'.state (get_or j r'.state.left_row blank) (get_or j r'.state.right_row blank)).effect
    pub covered : r'.covers ≡ true
        → dropped contained (formed_in letters rules r'.state (get_or j r'.state.left_row blank) (get_or j r'.state.right_row blank)) (rows_read row_of r'.state.counts.used j) ≡ true
    pub slot : (head_cell heads ≤ r'.slot) × (r'.slot < lists_from)

  pub glanced : (r' : Tried) → Tries letters rules t w s r' → Glanced r'
  glanced r' x =
      let v = onwards r'.state x.glances in
      let beside : NearIn r'.state j w = subst (λ (u : ℕ). Beside (rows_read row_of u j) w) (sym v.used) near in
      record {
        runs = v.runs;
        goes = v.goes;
        beside = beside;
        fewer = v.fewer;
        effect = x.effect ∙ sym (effect-there v.runs v.goes beside);
        covered =
            λ y. dropped-there v.runs v.goes beside
            (subst₂ (λ (u i : ℕ). KnownBelow w u (entry_at rules i).head (effect_in letters rules w r'.state)) (sym v.used) (sym v.rule)
            (subst (KnownBelow w s.counts.used (entry_at rules s.place.rule).head) x.effect (x.known y)));
        slot = x.slot;
      }

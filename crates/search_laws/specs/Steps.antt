-- What the steps between candidates ask and do, on values: no effect is named. The letters are those at the head of src/lib.rt. Definitions
-- only. Assumes nothing.
use Rattle.std.specs.Prelude.{◌≡◌, Bool, true, not, ◌&&◌, ◌||◌, List, ℕ, zero, suc, ◌≤◌, ◌<◌, eqb, ltb, length, get_or, take}
use Rattle.spec_order.specs.Journal.{Row, absent}
use Rattle.search_state.specs.Budgets.{is_spent}
use Rattle.search_state.specs.Fates.{full_in}
use Rattle.search_state.specs.Layout.{row_cells, heads, head_cell, list_cells, lists_from, table_cells, lists_in}
use Rattle.search_state.specs.NextPass.{next_pass}
use Rattle.search_state.specs.Positions.{first_at}
use Rattle.search_state.specs.declared.Counts.{Counts}
use Rattle.search_state.specs.declared.Fate.{Fate}
use Rattle.search_state.specs.declared.Place.{Place}
use Rattle.search_state.specs.declared.State.{State}
use Rattle.search_state.specs.declared.Terms.{Terms}
use Rattle.search_order.specs.Places.{NextPlace}
use Rattle.search_order.specs.PlacesLeft.{places_left, PassFrom}
use Rattle.search_spans.specs.Spans.{Measured, Measures}
use Rattle.search_links.specs.Covers.{Covering}
use Rattle.search_cover.specs.declared.CoverAnswer.{CoverAnswer}
use Rattle.search_laws.specs.Meanings.{counts_in, with_join, decided_in}
use Rattle.search_laws.specs.Problems.{RuleBytes}
use Rattle.search_laws.specs.declared.Reached.{Reached}

-- ---- hints and counts

-- storing hints leaves the links and the lists as they were
pub record Remembers (old new : List ℕ) : Type 0 where
  pub size : length new ≡ length old
  pub links : (i : ℕ) → i < list_cells → get_or new i 0 ≡ get_or old i 0
  pub lists : lists_in new ≡ lists_in old

-- a slot of the hints is there, and what is stored in it is a row
pub record MayRemember (s : State) (l : CoverAnswer) (t : List ℕ) : Type 0 where
  pub used : s.counts.used ≤ row_cells
  pub table : length t ≡ table_cells
  pub above : head_cell heads ≤ l.slot
  pub below : l.slot < lists_from
  pub row : l.covers ≡ true → l.row < s.counts.used

-- one join and one row more can be counted
pub record MayDecide (s : State) : Type 0 where
  pub used : s.counts.used ≤ row_cells
  pub joins : s.counts.joins < s.terms.budget
  pub added : s.counts.added ≤ s.counts.used

-- ---- over what the pass before formed

-- no row, or one of the first n
abbrev pub is_before : ℕ → ℕ → Bool
is_before n i = ltb i n || eqb i absent

-- the rows of the place are such rows; where there were none, the first pass may be under way, and nothing was formed before
abbrev pub repeats_at : ℕ → Place → Bool
repeats_at n p = ltb 0 n && (is_before n p.left && is_before n p.right)

-- the candidate of x may be passed over: its rule is one of the n, the budget leaves a join, and the pass before formed it
abbrev pub passes_at : Terms → ℕ → Reached → Bool
passes_at b n x = ltb x.place.rule n && (not (is_spent b.budget x.counts.joins) && repeats_at b.old x.place)

-- k steps lead from x to r
abbrev pub StepsTo : (Reached → Reached → Type 0) → ℕ → Reached → Reached → Type 0
StepsTo step zero x r = r ≡ x
StepsTo step (suc k) x r = (y : Reached) × StepsTo step k x y × step y r

-- some steps lead from x to r
abbrev pub Moves : (Reached → Reached → Type 0) → Reached → Reached → Type 0
Moves step x r = (k : ℕ) × StepsTo step k x r

-- the rule of x at other positions, and n joins
abbrev pub moved_to : Reached → ℕ → ℕ → ℕ → Reached
moved_to x n i k = record { counts = record { used = x.counts.used; joins = n; added = x.counts.added }; place = first_at x.place.rule i k }

-- the candidate of x is passed over, and r is at the place after it
pub record OverStep (rules : RuleBytes) (t : List ℕ) (b : Terms) (x r : Reached) : Type 0 where
  pub passes : passes_at b (length rules) x ≡ true
  pub next : NextPlace (lists_in t) rules x.place r.place
  pub counts : r.counts ≡ with_join x.counts

-- q is a place of the pass after p: less of the pass is left
abbrev pub Later : RuleBytes → List ℕ → Place → Place → Type 0
Later rules t p q = PassFrom (lists_in t) rules q × (places_left (lists_in t) rules q < places_left (lists_in t) rules p)

-- every candidate from x up to that of r is passed over
abbrev pub PassesOver : RuleBytes → List ℕ → Terms → Reached → Reached → Type 0
PassesOver rules t b = Moves (OverStep rules t b)

-- every candidate from x up to that of `last` is passed over, and r is at its place, with its own join counted too
pub record PassesSpan (rules : RuleBytes) (t : List ℕ) (b : Terms) (x r : Reached) : Type 0 where
  pub last : Reached
  pub before : PassesOver rules t b x last
  pub passes : passes_at b (length rules) last ≡ true
  pub counted : r ≡ record { counts = with_join last.counts; place = last.place }

-- from x to r only joins were counted
pub record JoinsAlone (x r : Reached) : Type 0 where
  pub joins : x.counts.joins ≤ r.counts.joins
  pub used : r.counts.used ≡ x.counts.used
  pub added : r.counts.added ≡ x.counts.added

-- ---- passes

-- measuring the lists of a pass changes no cell before them
pub record MeasuresIn (b : ℕ) (old new : List ℕ) : Type 0 where
  pub size : length new ≡ length old
  pub links : (i : ℕ) → i < lists_from → get_or new i 0 ≡ get_or old i 0
  pub lists : Measures b (lists_in old) (lists_in new)

-- the links of the table lead along some u rows
pub record LinksAlong (u : ℕ) (t : List ℕ) : Type 0 where
  pub rows : List (Row Unit)
  pub size : length rows ≡ u
  pub covering : Covering rows t

-- passing over may begin at the place p, which is one of the pass over the first n rules, under the terms b
pub record MayPass (rules : RuleBytes) (n : ℕ) (b : Terms) (t : List ℕ) (p : Place) : Type 0 where
  pub table : length t ≡ table_cells
  pub count : n ≤ length rules
  pub old : b.old ≤ row_cells
  pub measured : Measured b.old (lists_in t)
  pub places : PassFrom (lists_in t) (take n rules) p

-- a pass over the first n rules may begin, under the terms b
pub record MayOpen (rules : RuleBytes) (n : ℕ) (b : Terms) (w : Counts) (t : List ℕ) : Type 0 where
  pub table : length t ≡ table_cells
  pub count : n ≤ length rules
  pub old : b.old ≤ row_cells
  pub used : w.used ≤ row_cells
  pub links : LinksAlong w.used t

-- the pass after that of s may begin
pub record MayGoOn (rules : RuleBytes) (s : State) (w : Counts) (t : List ℕ) : Type 0 where
  pub opens : MayOpen rules s.rules (next_pass s.terms w.used) w t
  pub pass : s.terms.pass ≤ 65535

-- what follows a candidate may be done: hints are stored, the candidate is counted, the pass goes on from the place of s, or the next one begins
pub record MayAdvance (rules : RuleBytes) (s : State) (f : Fate) (l : CoverAnswer) (t : List ℕ) : Type 0 where
  pub full : f.full ≡ full_in s
  pub remember : MayRemember s l t
  pub decide : MayDecide s
  pub here : s.place.rule < s.rules
  pub passes : MayPass rules s.rules s.terms t s.place
  pub links : LinksAlong (counts_in (decided_in s f)).used t
  pub start : s.terms.present ≤ row_cells
  pub pass : s.terms.pass ≤ 65535
  pub room : s.counts.used ≤ s.rows
  pub limit : s.rows ≤ row_cells

-- What a check that answers promises, as statements about the answer on a file's bytes. Demand 3 first: the checker and a reader who derives
-- words with no checker share one verdict. Its reader needs document 000 only: words are derived by rewriting, and accepted by a path.
-- Definitions only. Assumes nothing.
use Rattle.std.specs.Prelude.{◌≡◌, ◌↔◌, ◌⊎◌, true, List, ◌++◌, ℕ, suc, ◌+◌, ◌*◌, ◌≤◌, ◌<◌, length, drop}
use Rattle.relation.specs.Digits.{bit}
use Rattle.relation.specs.Relation.{states, has}
use Rattle.spec_language.specs.Grammar.{initial}
use Rattle.spec_language.specs.Rewriting.{Language}
use Rattle.spec_language.specs.Spelling.{DerivesWithin}
use Rattle.spec_language.specs.Automaton.{WordPath, Accepts, TurnsAway}
use Rattle.spec_file.specs.Limits.{nonterminals}
use Rattle.spec_file.specs.Refusals.{refuse}
use Rattle.spec_file.specs.Views.{rules_of, productions_of, automaton_of}
use Rattle.spec_order.specs.Journal.{Row, absent, capped}
use Rattle.spec_order.specs.Order.{Answer, holds, broken, full, spent, empty}
use Rattle.spec_order.specs.Stopping.{Stops, Ends}
use Rattle.spec_order.specs.Fitting.{row_fits}
use Rattle.spec_calls.specs.Base.{forms_on}
use Rattle.spec_calls.specs.Checking.{Settings, journal_limit, algebra_over, check_of, journal_after, shown, shown_head}
use Rattle.spec_calls.specs.Replies.{refused, answered}
use Rattle.spec_calls.specs.Writing.{long_word, row_on, word_of, write_of, buffer_after}

-- every pair of states in d is one in e
abbrev pub Subrelation : ℕ → ℕ → Type 0
Subrelation d e = (p q : ℕ) → p < states → q < states → has states d p q ≡ true → has states e p q ≡ true

-- bit p of the set is set: p is a member, a nonterminal whose words count (document 02, C-18)
abbrev pub Member : Settings → ℕ → Type 0
Member g p = (p < nonterminals) × (bit g.starts p ≡ true)

module _ (bs : List ℕ) where
  -- the initial symbol derives the word (document 01: the run is derivable)
  abbrev pub Derivable : List ℕ → Type 0
  Derivable w = Language (productions_of bs) initial w

  -- p derives some word (document 02, C-15: a run exists); none
  abbrev pub SomeFrom : ℕ → Type 0
  SomeFrom p = (w : List ℕ) × Language (productions_of bs) p w

  abbrev pub NoneFrom : ℕ → Type 0
  NoneFrom p = (w : List ℕ) → Language (productions_of bs) p w → ⊥

  -- the member p derives the word, and it is turned away
  abbrev pub Counterexample : Settings → ℕ → List ℕ → Type 0
  Counterexample g p w = Member g p × Language (productions_of bs) p w × TurnsAway (automaton_of bs) w

  -- every word of every member is accepted
  abbrev pub AllAccepted : Settings → Type 0
  AllAccepted g = (p : ℕ) → Member g p → (w : List ℕ) → Language (productions_of bs) p w → Accepts (automaton_of bs) w

  -- ---- the verdict and the counts

  -- the answer to a check with the settings g
  pub record OneVerdict (g : Settings) (a : Answer ℕ) : Type 0 where
    -- "holds" only if no word of a member, however long, is turned away, and each member has one
    pub holds-for-all : a.verdict ≡ holds → AllAccepted g
    pub holds-for-some : a.verdict ≡ holds → (p : ℕ) → Member g p → SomeFrom p
    -- "empty" only if some member derives no word
    pub empty-for-none : a.verdict ≡ empty → (p : ℕ) × Member g p × NoneFrom p
    -- "broken" only with a word of a member shown that is turned away: the member is the row's
    pub broken-shows : a.verdict ≡ broken → Counterexample g (shown_head a) (shown bs a)
    -- any verdict other than "full" and "spent" is "broken" exactly when such a word exists, "empty" exactly when none does and some member
    -- derives no word, and "holds" exactly when none does and each member derives one
    pub broken-exactly : (a.verdict ≡ full → ⊥) → (a.verdict ≡ spent → ⊥) → (a.verdict ≡ broken) ↔ ((p : ℕ) × (w : List ℕ) × Counterexample g p w)
    pub empty-exactly : (a.verdict ≡ full → ⊥) → (a.verdict ≡ spent → ⊥) → (a.verdict ≡ empty) ↔ (AllAccepted g × ((p : ℕ) × Member g p × NoneFrom p))
    pub holds-exactly : (a.verdict ≡ full → ⊥) → (a.verdict ≡ spent → ⊥) → (a.verdict ≡ holds) ↔ (AllAccepted g × ((p : ℕ) → Member g p → SomeFrom p))
    -- "full" exactly where the rows run out, and "spent" where the joins do: at the candidate that Stops names
    pub stops-full : (a.verdict ≡ full) ↔ Stops (algebra_over states bs g) (rules_of bs) g.rows g.budget full a
    pub stops-spent : (a.verdict ≡ spent) ↔ Stops (algebra_over states bs g) (rules_of bs) g.rows g.budget spent a
    -- "broken" exactly where a candidate becomes a row that breaks, and "holds" or "empty" where a pass ends that has added no row: each
    -- member has a live row, or some member has none
    pub stops-broken : (a.verdict ≡ broken) ↔ Stops (algebra_over states bs g) (rules_of bs) g.rows g.budget broken a
    pub ends-holds : (a.verdict ≡ holds) ↔ Ends (algebra_over states bs g) (rules_of bs) g.rows g.budget holds a
    pub ends-empty : (a.verdict ≡ empty) ↔ Ends (algebra_over states bs g) (rules_of bs) g.rows g.budget empty a

  -- document 01's bound on the joins: R · J · J · (J + 1)
  abbrev pub joins_bound : Settings → ℕ
  joins_bound g = length (rules_of bs) * g.rows * g.rows * (g.rows + 1)

  -- its counts: what the joins are stands in Stops and Ends above, and here the row and document 01's bounds
  pub record Counts (g : Settings) (a : Answer ℕ) : Type 0 where
    -- 65,535 unless broken, and then the last used row
    pub no_row : (a.verdict ≡ broken → ⊥) → a.row ≡ absent
    pub last_row : a.verdict ≡ broken → suc a.row ≡ a.used
    -- "full" has used all rows, and "spent" has made all joins of the budget
    pub all-rows : a.verdict ≡ full → a.used ≡ g.rows
    pub all-joins : a.verdict ≡ spent → a.joins ≡ g.budget
    pub used-rows : a.used ≡ length a.journal
    pub rows_bound : a.used ≤ g.rows
    pub pass-bound : a.pass ≤ g.rows + 1
    pub joins-bound : a.joins ≤ joins_bound g
    -- a budget of that size is never spent
    pub never-spent : joins_bound g ≤ g.budget → a.verdict ≡ spent → ⊥

  -- the pass of a broken answer is the least height of a derivation from a member whose word is turned away
  pub record LeastHeight (g : Settings) (a : Answer ℕ) : Type 0 where
    pub shown-within : a.verdict ≡ broken → DerivesWithin (productions_of bs) a.pass (shown_head a) (shown bs a)
    pub none-lower : a.verdict ≡ broken → (h : ℕ) → h < a.pass → (p : ℕ) → Member g p → (w : List ℕ) → DerivesWithin (productions_of bs) h p w → Accepts (automaton_of bs) w

  -- ---- stability

  -- the answer b says what a says: the verdict, the joins, the pass and the word that is shown
  pub record Agrees (a b : Answer ℕ) : Type 0 where
    pub verdict : b.verdict ≡ a.verdict
    pub joins : b.joins ≡ a.joins
    pub pass : b.pass ≡ a.pass
    pub word : shown bs b ≡ shown bs a

  -- ---- the rows

  -- row i that the check left, and the word behind it
  abbrev pub used_row : Answer ℕ → ℕ → Row ℕ
  used_row a i = row_on bs a.journal i

  abbrev pub used_word : Answer ℕ → ℕ → List ℕ
  used_word a i = word_of bs a.journal i

  -- what row i is
  pub record RowMeans (a : Answer ℕ) (i : ℕ) : Type 0 where
    -- its nonterminal derives the word behind it
    pub derived : Language (productions_of bs) (used_row a i).head (used_word a i)
    -- its relation has exactly the pairs of states that a path on this word joins
    pub pairs-exactly : (p q : ℕ) → p < states → q < states
        → (has states (used_row a i).effect p q ≡ true) ↔ WordPath (automaton_of bs).transitions p (used_word a i) q
    pub length-is : (used_row a i).len ≡ capped (length (used_word a i))
    -- it fits the file
    pub fits : row_fits (forms_on states (automaton_of bs)) a.journal (rules_of bs) i ≡ true

  -- the live rows of one nonterminal are an antichain (document 000, section 4, as document 01 reads it: a condition on two different
  -- members): of two different ones neither relation is contained in the other
  abbrev pub LiveAntichain : Answer ℕ → Type 0
  LiveAntichain a = (i j : ℕ) → i < a.used → j < a.used → (i ≡ j → ⊥) → (used_row a i).head ≡ (used_row a j).head
      → (used_row a i).retired ≡ 0 → (used_row a j).retired ≡ 0 → Subrelation (used_row a i).effect (used_row a j).effect → ⊥

  -- ---- the word of a broken answer, written

  -- writing from the journal as the check leaves it, which had these rows before, to a buffer that holds old: the word is the shown
  -- one, and it is refused with 10 where it is too long, and in no other case
  pub record WritesShown (g : Settings) (a : Answer ℕ) (rows : List (Row ℕ)) (old : List ℕ) : Type 0 where
    pub length-told : length (shown bs a) < long_word → length (shown bs a) ≤ length old
        → write_of bs (journal_after bs g rows) a.used a.row (length old) ≡ answered (length (shown bs a))
    pub written : length (shown bs a) < long_word → length (shown bs a) ≤ length old
        → buffer_after bs (journal_after bs g rows) a.used a.row old ≡ shown bs a ++ drop (length (shown bs a)) old
    pub too_long : (long_word ≤ length (shown bs a)) ⊎ (length old < length (shown bs a))
        → write_of bs (journal_after bs g rows) a.used a.row (length old) ≡ refused (refuse 10 0)
    pub untouched : (long_word ≤ length (shown bs a)) ⊎ (length old < length (shown bs a))
        → buffer_after bs (journal_after bs g rows) a.used a.row old ≡ old

-- the settings g' give a check at least the rows and the joins of g, and no more rows than a journal may have; the starting nonterminals are
-- the same
pub record Extends (g g' : Settings) : Type 0 where
  pub more_rows : g.rows ≤ g'.rows
  pub within-limit : g'.rows ≤ journal_limit
  pub more-joins : g.budget ≤ g'.budget
  pub same-starts : g'.starts ≡ g.starts

-- ---- what a check that answers promises

-- the answer a to a check of the file bs with the settings g
pub record Promises (bs : List ℕ) (g : Settings) (a : Answer ℕ) : Type 0 where
  pub one-verdict : OneVerdict bs g a
  pub counts : Counts bs g a
  pub least-height : LeastHeight bs g a
  pub rows-mean : (i : ℕ) → i < a.used → RowMeans bs a i
  pub antichain : LiveAntichain bs a
  -- whatever the rows of the journal held before, and whatever the buffer holds
  pub writes-shown : a.verdict ≡ broken → (rows : List (Row ℕ)) → length rows ≡ g.rows → (old : List ℕ) → WritesShown bs g a rows old
  -- once the verdict is neither "full" nor "spent", a check with a longer journal or a larger budget answers with the same verdict, joins,
  -- pass and shown word
  pub stable : (a.verdict ≡ full → ⊥) → (a.verdict ≡ spent → ⊥) → (g' : Settings) → Extends g g' → (b : Answer ℕ) × (check_of bs g' ≡ answered b) × Agrees bs a b
  -- and today with the same rows too: the answer is the whole of a
  pub same_answer : (a.verdict ≡ full → ⊥) → (a.verdict ≡ spent → ⊥) → (g' : Settings) → Extends g g' → check_of bs g' ≡ answered a

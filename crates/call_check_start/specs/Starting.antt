-- What a check decides before its first pass, and what it has then. Definitions only. Assumes nothing.
use Rattle.std.specs.Prelude.{◌≡◌, List, [], map, ℕ, ◌≤◌, length, take, Ok, Err}
use Rattle.std.specs.declared.result.Result.{Result}
use Rattle.relation.specs.Digits.{number}
use Rattle.relation.specs.Relation.{states}
use Rattle.spec_language.specs.WordRelation.{is_final}
use Rattle.spec_file.specs.Views.{rules_of, transitions_of, automaton_of}
use Rattle.spec_file.specs.Answers.{refusal_of}
use Rattle.spec_file.specs.Refusals.{refuse, first_of}
use Rattle.spec_file.specs.declared.Refusal.{Refusal}
use Rattle.spec_calls.specs.Checking.{Settings, check_refusals}
use Rattle.spec_file.specs.Entries.{entry_of}
use Rattle.spec_calls.specs.Rows.{Journal}
use Rattle.spec_calls.specs.declared.Row.{Row}
use Rattle.search_state.specs.declared.Phase.TheVariants.{Waiting}
use Rattle.search_state.specs.declared.State.{State}
use Rattle.search_cover.specs.Near.{Beside}
use Rattle.search_laws.specs.OnRelations.{Letters, problem_in}
use Rattle.search_laws.specs.Problems.{RuleBytes, Problem}
use Rattle.search_laws.specs.Running.{SearchAt}
use Rattle.file_tables.specs.Tables.{letter_table}

-- before the first pass, over n rules, with the settings g and these final states
abbrev pub waiting : Settings → ℕ → ℕ → State
waiting g n finals =
    record {
      phase = Waiting;
      left_row = 0;
      right_row = 0;
      terms = record { budget = g.budget; starts = g.starts; finals = finals; pass = 1; present = 0; old = 0 };
      counts = record { used = 0; joins = 0; added = 0 };
      place = record { rule = 0; left = 0; right = 0 };
      rows = g.rows;
      rules = n;
    }

-- what a check of the file bs works on, with the settings g and these tables
abbrev pub problem_of : List ℕ → Settings → Letters → RuleBytes → Problem ℕ Row
problem_of bs g letters rules = problem_in g.starts (number states (is_final (automaton_of bs))) letters rules

-- the tables are the file's, no row is used, and over every journal of g's number of rows the search stands in s; no effect stands in the words w
pub record FirstPass (bs : List ℕ) (g : Settings) (letters : Letters) (rules : RuleBytes) (t w : List ℕ) (s : State) : Type 0 where
  pub relations : letters ≡ letter_table states (transitions_of bs)
  pub whole : s.rules ≤ length rules
  pub entries : map entry_of (take s.rules rules) ≡ rules_of bs
  pub none-used : s.counts.used ≡ 0
  pub none-near : Beside [] w
  pub stands : (j : Journal) → length j ≡ g.rows → SearchAt (problem_of bs g letters (take s.rules rules)) g.budget j s j t

-- what refuses is the first refusal; nothing does where the first pass begins
abbrev pub Starts : List ℕ → Settings → Letters → RuleBytes → List ℕ → List ℕ → Result State Refusal → Type 0
Starts bs g letters rules t w (Err x) = refusal_of x ≡ first_of (check_refusals bs g.rows)
Starts bs g letters rules t w (Ok s) = (refuse 0 0 ≡ first_of (check_refusals bs g.rows)) × FirstPass bs g letters rules t w s

-- Where a check stops, and how many joins it has made there. The rows run out at the candidate that gives "full", the joins at the one that
-- gives "spent" (document 01, "What demand 3 compares"); a row that breaks gives "broken", and a pass that adds no row ends with "holds" or "empty".
-- J is the journal's size and B the budget. Definitions only. Assumes nothing.
use Rattle.std.specs.Prelude.{◌≡◌, true, false, List, ◌∷◌, ◌++◌, ℕ, zero, suc, ◌+◌, length}
use Rattle.spec_language.specs.Grammar.{Rule}
use Rattle.spec_order.specs.Algebra.{Algebra}
use Rattle.spec_order.specs.Candidates.{Candidate, pass_candidates}
use Rattle.spec_order.specs.Journal.{absent}
use Rattle.spec_order.specs.Order.{Progress, start, Verdict, holds, broken, full, spent, empty, Answer, going, dropped, added, walk, finish, one_pass}

-- ---- the candidates of a pass

module _ {E : Type 0} where
  -- after a candidate that was formed, and did not become a row
  abbrev pub counted : Progress E → Progress E
  counted s = record { rows = s.rows; joins = suc s.joins }

module _ {E : Type 0} (A : Algebra E) where
  -- after a candidate that became a row in pass k
  abbrev pub grown : ℕ → Candidate E → Progress E → Progress E
  grown k c s = record { rows = added A.below k c s.rows; joins = suc s.joins }

  module _ (J B k : ℕ) where
    -- why the candidate c stopped the check in pass k: the test of document 01's working order that applied at the progress t, and the verdict,
    -- the row i and the progress u of the answer
    abbrev pub Found : Verdict → ℕ → Candidate E → Progress E → Progress E → Type 0
    -- no candidate ends a check so
    Found holds i c t u = ⊥
    Found empty i c t u = ⊥
    -- the joins so far equal the budget, and c is not formed
    Found spent i c t u = (t.joins ≡ B) × (i ≡ absent) × (u ≡ t)
    -- no live row drops c, and no row of the journal is unused
    Found full i c t u = (t.joins ≡ B → ⊥) × (dropped A.below c t.rows ≡ false) × (length t.rows ≡ J) × (i ≡ absent) × (u ≡ counted t)
    -- c becomes the next row, and it breaks
    Found broken i c t u =
        (t.joins ≡ B → ⊥) × (dropped A.below c t.rows ≡ false) × (length t.rows ≡ J → ⊥) × (A.breaks c.head c.effect ≡ true)
        × (i ≡ length t.rows) × (u ≡ grown k c t)

    -- the walk through the candidates cs, from s, has stopped at one of them: it went on past all before it
    pub record Halt (cs : List (Candidate E)) (s : Progress E) (v : Verdict) (i : ℕ) (u : Progress E) : Type 0 where
      pub before : List (Candidate E)
      pub at : Candidate E
      pub after : List (Candidate E)
      pub split : cs ≡ before ++ (at ∷ after)
      pub reached : Progress E
      pub walked : walk A.below A.breaks J B k before s ≡ going reached
      pub found : Found v i at reached u

-- ---- the passes of a check

-- the candidate at which a check stops is a join, unless the joins have run out there ("holds" and "empty" come at none)
abbrev pub last_join : Verdict → ℕ
last_join holds = 0
last_join empty = 0
last_join spent = 0
last_join full = 1
last_join broken = 1

-- the candidates of a pass that begins with s
abbrev pub candidates_at : {E : Type 0} → Algebra E → List Rule → Progress E → List (Candidate E)
candidates_at A rules s = pass_candidates A.forms s.rows 0 rules

module _ {E : Type 0} (A : Algebra E) (rules : List Rule) (J B : ℕ) where
  -- s is where pass h + 1 begins: h passes went before, each through all its candidates, and each added a row
  abbrev pub Begun : ℕ → Progress E → Type 0
  Begun zero s = s ≡ start
  Begun (suc h) s = (s₀ : Progress E) × Begun h s₀ × (one_pass A rules J B (suc h) s₀ ≡ going s) × (length s.rows ≡ length s₀.rows → ⊥)

  -- how many candidates those passes had
  abbrev pub formed : (h : ℕ) (s : Progress E) → Begun h s → ℕ
  formed zero s b = 0
  formed (suc h) s b = formed h b.0 b.1 + length (candidates_at A rules b.0)

  -- the answer a: the check stopped with the verdict v in its last pass, at a candidate of that pass
  pub record Stops (v : Verdict) (a : Answer E) : Type 0 where
    pub passed : ℕ
    pub pass-is : a.pass ≡ suc passed
    pub began : Progress E
    pub begun : Begun passed began
    pub last : Progress E
    pub halt : Halt A J B (suc passed) (candidates_at A rules began) began v a.row last
    -- the candidates of the passes before, and those of this one
    pub joins-are : a.joins ≡ formed passed began begun + length halt.before + last_join v
    pub journal-is : a.journal ≡ last.rows

  -- the answer a: the last pass went through all its candidates, and added no row; the check ends with the verdict v
  pub record Ends (v : Verdict) (a : Answer E) : Type 0 where
    pub passed : ℕ
    pub pass-is : a.pass ≡ suc passed
    pub began : Progress E
    pub begun : Begun passed began
    pub last : Progress E
    pub walked : one_pass A rules J B (suc passed) began ≡ going last
    pub none-added : length last.rows ≡ length began.rows
    pub verdict-is : finish A.starts last.rows ≡ v
    -- the candidates of all passes
    pub joins-are : a.joins ≡ formed passed began begun + length (candidates_at A rules began)
    pub journal-is : a.journal ≡ last.rows

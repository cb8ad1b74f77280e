-- Remarks (C-11: "spoken notes between steps"): the terminals that leave an automaton in its state. Definitions only. Assumes nothing.
use Rattle.std.specs.Prelude.{Bool, true, false, ◌&&◌, List, [], ◌∷◌, ℕ, leb}

-- C-11: "Codes 120 to 127 become remarks"
abbrev pub first_remark : ℕ
first_remark = 120

-- the last terminal; a letter above it is no terminal, and no remark
abbrev pub last_remark : ℕ
last_remark = 127

unfoldable pub is_remark : ℕ → Bool
is_remark c = leb first_remark c && leb c last_remark

abbrev pub struck_by : Bool → ℕ → List ℕ → List ℕ
struck_by true c w = w
struck_by false c w = c ∷ w

-- the word without its remarks
unfoldable pub struck : List ℕ → List ℕ
struck [] = []
struck (c ∷ w) = struck_by (is_remark c) c (struck w)

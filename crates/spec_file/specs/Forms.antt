-- The form of a file's records. What refuses a file is said over a form, so that another width or another limit on bodies is one more
-- instance of the same definitions. Definitions only. Assumes nothing.
use Rattle.std.specs.Prelude.{ℕ}

pub record Form : Type 0 where
  -- bytes of a record
  pub width : ℕ
  -- symbols of a rule's body at most
  pub body_limit : ℕ
  -- the number that refuses a file whose length is no multiple of the width
  pub torn : ℕ

-- document 01's records: 8 bytes, bodies of at most two symbols, and number 1
abbrev pub eight : Form
eight = record { width = 8; body_limit = 2; torn = 1 }

-- C-17's: "twelve symbols in bytes 3 to 14; byte 15 and all unused bytes are 0", and "16, in 1's place for the new form"
abbrev pub sixteen : Form
sixteen = record { width = 16; body_limit = 12; torn = 16 }

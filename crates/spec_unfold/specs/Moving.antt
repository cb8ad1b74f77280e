-- Moving a file to the other form of records (document 02, C-17: "Every old file moves over, and moving back gives the same bytes").
-- Definitions only. Assumes nothing.
use Rattle.std.specs.Prelude.{Bool, ◌&&◌, List, ◌++◌, map, ℕ, eqb, ltb, take, replicate}
use Rattle.spec_basics.specs.Elements.{any}
use Rattle.spec_file.specs.Records.{byte, rule_kind}
use Rattle.spec_records.specs.Blocks.{bytes_of, records_of}

-- a record of 8 bytes in 16: "byte 15 and all unused bytes are 0"
abbrev pub wider : List ℕ → List ℕ
wider r = r ++ replicate 8 0

-- the first 8 bytes of a record of 16
abbrev pub narrower : List ℕ → List ℕ
narrower r = take 8 r

-- moving over
unfoldable pub widened : List ℕ → List ℕ
widened bs = bytes_of (map wider (records_of 8 bs))

-- moving back
unfoldable pub narrowed : List ℕ → List ℕ
narrowed bs = bytes_of (map narrower (records_of 16 bs))

-- a rule with "a body above two"
abbrev pub is_long : List ℕ → Bool
is_long r = eqb (byte r 0) rule_kind && ltb 2 (byte r 2)

-- 17: some record is one
unfoldable pub has_long : List ℕ → Bool
has_long bs = any is_long (records_of 16 bs)

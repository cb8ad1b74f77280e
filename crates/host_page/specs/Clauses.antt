-- What rendering an answer ensures. Definitions only. Assumes nothing.
use Rattle.std.specs.Prelude.{◌≡◌, List, ◌++◌, ℕ, ◌≤◌, length, drop}

-- a buffer that held `old` holds `new`: at its front the `text`, which has `r` bytes, and behind it its own bytes as they were
pub record Printed (text old new : List ℕ) (r : ℕ) : Type 0 where
  pub count : r ≡ length text
  pub bytes : new ≡ text ++ drop (length text) old
  pub room : length text ≤ length old

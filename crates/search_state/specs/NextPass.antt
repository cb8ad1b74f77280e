-- From one pass to the next. Definitions only. Assumes nothing.
use Rattle.std.specs.Prelude.{ℕ, ◌+◌}
use Rattle.search_state.specs.declared.Terms.{Terms}

-- the terms of the pass after that of the terms b, where it begins with u rows
abbrev pub next_pass : Terms → ℕ → Terms
next_pass b u = record { budget = b.budget; starts = b.starts; finals = b.finals; pass = b.pass + 1; present = u; old = b.present }

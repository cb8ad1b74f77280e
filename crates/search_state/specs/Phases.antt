-- Whether a search is at a place. Definitions only. Assumes nothing.
use Rattle.std.specs.Prelude.{Bool, true, false}
use Rattle.search_state.specs.declared.Phase.{Phase}
use Rattle.search_state.specs.declared.Phase.TheVariants.{Going, Waiting, Ended, Broken}

abbrev pub is_going : Phase → Bool
is_going Going = true
is_going Waiting = false
is_going (Ended v) = false
is_going (Broken i) = false

-- What the replies of moving over and moving back mean (document 02, C-17). Definitions only. Assumes nothing.
use Rattle.std.specs.Prelude.{◌≡◌, ℕ, ◌*◌, ◌≤◌, ◌<◌, take}
use mathlib.Core.List.{List, ◌++◌}
use Rattle.std.proofs.Math.ListN.{length, drop}
use Rattle.spec_basics.specs.Elements.{In}
use Rattle.spec_language.specs.Grammar.{Production}
use Rattle.spec_file.specs.Limits.{nonterminals}
use Rattle.spec_file.specs.Forms.{sixteen}
use Rattle.spec_file.specs.Refusals.{refuse, fault, fault_in}
use Rattle.spec_file.specs.Views.{productions_of, automaton_of}
use Rattle.spec_calls.specs.Replies.{Reply, refused, answered}
use Rattle.spec_unfold.specs.Unfolding.{wide_productions_of, wide_automaton_of}
use Rattle.spec_unfold.specs.Calls.{widen_of, widen_after, narrow_of, narrow_after, unfold_of, unfold_after}

-- moving the file bs over has answered n, where the output held old before and new afterwards: the new file is take n new
pub record WidenShows (bs old new : List ℕ) (n : ℕ) : Type 0 where
  pub size : n ≡ length bs * 2
  pub fits : n ≤ length old
  pub same_length : length new ≡ length old
  -- "bytes past the result keep their values"
  pub other-bytes : drop n new ≡ drop n old
  -- the new file is not refused, and has the same rules, moves and finishing stages
  pub passes : fault_in sixteen (take n new) ≡ refuse 0 0
  pub same-rules : wide_productions_of (take n new) ≡ productions_of bs
  pub same-sheet : wide_automaton_of (take n new) ≡ automaton_of bs
  -- "moving back gives the same bytes", into any output that has room for them
  pub moves-back : (out : List ℕ) → length bs ≤ length out
      → (narrow_of (take n new) (length out) ≡ answered (length bs)) × (narrow_after (take n new) out ≡ bs ++ drop (length bs) out)
  -- and so does unfolding, whatever `least` is
  pub unfolds-back : (least : ℕ) → least ≤ nonterminals → (out : List ℕ) → length bs ≤ length out
      → (unfold_of least (take n new) (length out) ≡ answered (length bs)) × (unfold_after least (take n new) out ≡ bs ++ drop (length bs) out)

-- a refused call leaves the output as it was
abbrev pub WidenMeans : List ℕ → List ℕ → List ℕ → Reply ℕ → Type 0
WidenMeans bs old new (refused r) = new ≡ old
WidenMeans bs old new (answered n) = WidenShows bs old new n

-- 17: "a move back with a body above two"
abbrev pub HasLongBody : List Production → Type 0
HasLongBody ps = (p : Production) × In p ps × (2 < length p.symbols)

-- moving the file bs back has answered n
pub record NarrowShows (bs old new : List ℕ) (n : ℕ) : Type 0 where
  pub size : n * 2 ≡ length bs
  pub fits : n ≤ length old
  pub same_length : length new ≡ length old
  pub other-bytes : drop n new ≡ drop n old
  pub passes : fault (take n new) ≡ refuse 0 0
  pub same-rules : productions_of (take n new) ≡ wide_productions_of bs
  pub same-sheet : automaton_of (take n new) ≡ wide_automaton_of bs
  -- moving over again gives the same bytes
  pub moves-over : (out : List ℕ) → length bs ≤ length out
      → (widen_of (take n new) (length out) ≡ answered (length bs)) × (widen_after (take n new) out ≡ bs ++ drop (length bs) out)

abbrev pub NarrowMeans : List ℕ → List ℕ → List ℕ → Reply ℕ → Type 0
NarrowMeans bs old new (refused r) = new ≡ old
NarrowMeans bs old new (answered n) = NarrowShows bs old new n

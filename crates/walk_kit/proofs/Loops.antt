-- A loop in a walk, with the last part of the function after it. The loop's variable has a type X of the walk's choice, and the measure `left`
-- falls with each turn.
--     Falls            the order by which it falls
--     Turn             what the walk of a turn must show: it comes to a variable with a smaller measure (`again`), or leaves for the last part
--     loops-from       so the loop runs from any variable
-- Definitions assume nothing; the step assumes `Logic`.
use mathlib.Core.List.{List}
use mathlib.Core.WellFounded.InvImage
use Prim.Native.Nat.{ℕ, ◌<◌}
use lib.WfN.{lt-wf_rel}
use seplogic.Ra.Ura.{Ura}
use mir.Syntax.{Body, seq, block, loop}
use mir.Val.{Val}
use base.Logic.{SProp}
use prog.Wp.{Env, Wp, Tables, after_seq, after_block, after_turn, at_return}
use types.Logic.{Logic}
use types.Kit.{Item, Sq, runs, any_q, at_ret, ◌$◌, ! }
use types.Run.{first, blocks, loops, Below}

abbrev pub Falls : {X : Type 0} → (X → ℕ) → X → X → Type 0
Falls left x y = left x < left y

module _ {M : Type 1} {𝓤 : Ura M} (𝓛 : Logic 𝓤) (𝓣 : Tables 𝓤 𝓛.H) (E : Env 𝓤 𝓛.H) (Post : Val → SProp 𝓤) {X : Type 0} (left : X → ℕ) (Inv : X → List (Item 𝓤)) (turn last : Body) where
  -- a proof of it says `unfolding after_turn`
  open 𝓛 use {H}

  abbrev pub Turn : X → Type 1
  Turn x = Sq 𝓛 (Inv x) (runs 𝓣.C 𝓣.Λ E turn (any_q (after_turn 𝓤 H (Below 𝓛 (Falls left) Inv x) (after_block 𝓤 H (after_seq 𝓤 H (Wp 𝓤 H 𝓣.C 𝓣.Λ E last (at_return 𝓤 H E Post)) (at_return 𝓤 H E Post))))))

  pub loops-from : ((x : X) → Turn x) → (x : X) → Sq 𝓛 (Inv x) (runs 𝓣.C 𝓣.Λ E (seq (block (loop turn)) last) (at_ret E Post))
  loops-from turns x = first ! $ blocks ! $ loops ! 𝓣 (Falls left) (InvImage.wf left lt-wf_rel.wf) Inv turns x

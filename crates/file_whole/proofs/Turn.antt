-- One turn of the walk, as facts: the place and the counts after a step, and the refusal where it stops. Assumes nothing.
use Rattle.std.specs.Prelude.{◌≡◌, refl, List, ℕ, ◌+◌, ◌<◌, ◌^◌, length}
use Rattle.std.proofs.Common.{arith, sym}
use Rattle.spec_file.specs.Records.{Record}
use Rattle.spec_file.specs.Refusals.{Refusal, fault, refuse}
use Rattle.spec_file.specs.Reading.{gives, refuses, ended, step_from}
use Rattle.spec_file.specs.Walk.{rules_in, transitions_in}
use Rattle.spec_file.proofs.WalkLaws.{At, at_moved, at-stop}

module _ (bs : List ℕ) (rules transitions i : ℕ) (h : At bs rules transitions i) where
  pub counts-fit : (r : Record) (j : ℕ) → gives r j ≡ step_from bs i rules transitions → length bs < 2 ^ 64 → (rules + rules_in r < 2 ^ 64) × (transitions + transitions_in r < 2 ^ 64)
  counts-fit r j e l = let m = at_moved bs rules transitions i h r j (sym e) in (omega (arith, m.rules-fit), omega (arith, m.transitions-fit))

  pub at_refused : (x : Refusal) → refuses x ≡ step_from bs i rules transitions → x ≡ fault bs
  at_refused x e = at-stop bs rules transitions i h (refuses x) e (λ y. refl)

  pub at_end : ended ≡ step_from bs i rules transitions → refuse 0 0 ≡ fault bs
  at_end e = at-stop bs rules transitions i h ended e (λ y. refl)

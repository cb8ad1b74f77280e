-- What a read says, by what it answered: an error, no bytes, or some; and that it says what it answered. Assumes nothing.
use Rattle.std.specs.Prelude.{◌≡◌, refl, List, ℕ, ◌≤◌, length, min, Ok, Err}
use Rattle.std.proofs.Common.{sym, ap, ◌∙◌, arith}
use Rattle.std.specs.declared.option.Option.{Option}
use Rattle.std.specs.declared.result.Result.{Result}
use Rattle.host_input.specs.Held.{held_by, Came}

pub said-failed : {E : Type 0} (r : Result ℕ E) (e : E) (room : ℕ) → r ≡ Err e → Err e ≡ held_by r room
said-failed {E} r e room h = sym (ap (λ (x : Result ℕ E). held_by x room) h)

-- so many bytes, as a read answers them
abbrev came : (E : Type 0) → ℕ → Result ℕ E
came E n = Ok n

-- `min` does not compute at an open number
least : (n m : ℕ) → n ≤ m → n ≡ min n m
least n m h = omega arith

pub said-ended : {E : Type 0} (r : Result ℕ E) (room : ℕ) → r ≡ Ok 0 → Ok 0 ≡ held_by r room
said-ended {E} r room h = ap (came E) (least 0 room (omega arith)) ∙ sym (ap (λ (x : Result ℕ E). held_by x room) h)

pub said-bytes : {E : Type 0} (z : Result ℕ E) (n room r : ℕ) → z ≡ Ok n → (n ≡ 0 → ⊥) → r ≡ min n room → Ok r ≡ held_by z room
said-bytes {E} z n room r h u v = ap (came E) v ∙ sym (ap (λ (x : Result ℕ E). held_by x room) h)

-- a read that came says what it answered
pub said-came : {E : Type 0} (old new : Option (List ℕ)) (r : Result ℕ E) (room : List ℕ) → Came old new r room → held_by r (length room) ≡ r
said-came old new (Err e) room c = refl
said-came {E} old new (Ok n) room c = ap (came E) (sym (least n (length room) c.1))

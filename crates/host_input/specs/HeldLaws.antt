-- What is handed over of a long input is refused exactly as the whole input would be. Assumes nothing.
use Rattle.std.specs.Prelude.{◌≡◌, refl, Bool, true, false, not, cond, List, ℕ, ◌+◌, ◌-◌, ◌/◌, ◌%◌, ◌≤◌, ◌<◌, eqb, ltb, length}
use Rattle.std.proofs.Common.{sym, ap, ◌∙◌, arith, take_all, lt-ltb, le-ltb, ltb-true, ltb-false}
use Rattle.spec_file.specs.Limits.{record_limit}
use Rattle.spec_file.specs.Records.{record_count}
use Rattle.spec_file.specs.Refusals.{Refusal, refuse, or_next, fault_from, fault, fault_in, length_fault_in}
use Rattle.spec_calls.specs.Checking.{Settings, check_of}
use Rattle.spec_calls.specs.Printing.{refused_line, text_of, program_settings, program_room, program_text}
use Rattle.host_input.specs.Held.{most, held_of, Handed}

pub held-short : (n : ℕ) → n < most → held_of n ≡ n
unfolding held_of
held-short n h = rw (lt-ltb n most h)

pub held-long : (n : ℕ) → most ≤ n → held_of n ≡ most + (n - most) % 8
unfolding held_of
held-long n h = rw (le-ltb n most h)

-- ---- more bytes

-- where the place is below the most, it is the count of the whole input
pub count-is : (n : ℕ) → held_of n < most → n ≡ held_of n
count-is n h = by (ltb n most) refl
  where
    by : (b : Bool) → ltb n most ≡ b → n ≡ held_of n
    by true e = sym (held-short n (ltb-true n most e))
    by false e = absurd (let l = held-long n (ltb-false n most e) in let z : ⊥ = omega arith in z)

pub held_on : (at got n : ℕ) → at < most → got < most - at → at ≡ held_of n → at + got ≡ held_of (n + got)
held_on at got n a g e =
    let same : n ≡ held_of n = count-is n (omega arith) in
    let f = held-short (n + got) (omega arith) in
    omega arith

pub held-over : (at got n : ℕ) → (at < most → most - at ≤ got) → at ≡ held_of n → most + (at % 8 + got % 8) % 8 ≡ held_of (n + got)
held-over at got n g e = by (ltb n most) refl
  where
    by : (b : Bool) → ltb n most ≡ b → most + (at % 8 + got % 8) % 8 ≡ held_of (n + got)
    by true q =
        let l = ltb-true n most q in
        let s = held-short n l in
        let m = g (omega arith) in
        let f = held-long (n + got) (omega arith) in
        omega arith
    by false q =
        let l = ltb-false n most q in
        let s = held-long n l in
        let f = held-long (n + got) (omega arith) in
        omega arith

-- ---- refused alike

-- a file that long is refused by 1 or 2, by its length alone
abbrev refusal_at : Bool → Refusal
refusal_at whole = refuse (cond (not whole) 1 2) 0

long-fault : (bs : List ℕ) → most ≤ length bs → fault bs ≡ refusal_at (eqb (length bs % 8) 0)
unfolding fault_in length_fault_in
long-fault bs h = rw (lt-ltb record_limit (length bs / 8) (omega arith)) (by (eqb (length bs % 8) 0))
  where
    by : (whole : Bool) → or_next (refuse (cond (not whole) 1 2) 0) (fault_from bs (record_count bs) 0) ≡ refusal_at whole
    by true = refl
    by false = refl

-- what is handed over of a long input is long, and as long by 8
long-held : (n m : ℕ) → most ≤ n → m ≡ held_of n → (most ≤ m) × (m % 8 ≡ n % 8)
long-held n m h e = let l = held-long n h in (omega arith, omega arith)

pub same-fault : (whole file : List ℕ) → most ≤ length whole → length file ≡ held_of (length whole) → fault file ≡ fault whole
same-fault whole file h e =
    let l = long-held (length whole) (length file) h e in
    long-fault file l.0 ∙ ap (λ (n : ℕ). refusal_at (eqb n 0)) l.1 ∙ sym (long-fault whole h)

-- ---- and so printed alike

long-text : (bs : List ℕ) (g : Settings) (room : ℕ) → most ≤ length bs → text_of bs g room ≡ refused_line (fault bs).number
unfolding text_of check_of
long-text bs g room h = by (eqb (length bs % 8) 0) refl
  where
    by : (b : Bool) → eqb (length bs % 8) 0 ≡ b → text_of bs g room ≡ refused_line (fault bs).number
    by true e = rw (long-fault bs h, e)
    by false e = rw (long-fault bs h, e)

pub handed-text : (whole file : List ℕ) → Handed whole file → program_text file ≡ program_text whole
unfolding program_text
handed-text whole file h = by (ltb (length whole) most) refl
  where
    by : (b : Bool) → ltb (length whole) most ≡ b → text_of file program_settings program_room ≡ text_of whole program_settings program_room
    by true e =
        let l : length whole < most = ltb-true (length whole) most e in
        let s = held-short (length whole) l in
        let c = h.count in
        ap (λ (bs : List ℕ). text_of bs program_settings program_room)
        (sym (take_all most file (omega arith)) ∙ h.front ∙ take_all most whole (omega arith))
    by false e =
        let l = ltb-false (length whole) most e in
        long-text file program_settings program_room (long-held (length whole) (length file) l h.count).0
        ∙ ap (λ (r : Refusal). refused_line r.number) (same-fault whole file l h.count)
        ∙ sym (long-text whole program_settings program_room l)

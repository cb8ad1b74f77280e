-- The numbers that refuse writing, and what holds where none does. Assumes nothing.
use mathlib.Core.Path.{◌≡◌, refl, sym, ap, ◌∙◌}
use mathlib.Core.Bool.{Bool, true, false, not, ◌||◌, cond}
use mathlib.Core.List.{List}
use Prim.Native.Nat.{ℕ, ◌+◌, ◌<◌}
use native.Mathlib.Omega.{arith}
use lib.Dec.{ltb, leb}
use lib.ListN.{length, get_or}
use borrow.Author.Tests.{ltb-true, ltb-false, leb-true, leb-false, not-false, le-leb}
use Rattle.spec_basics.specs.Tests.{or-neither}
use Rattle.spec_language.specs.Grammar.{Rule}
use Rattle.spec_file.proofs.RefusalLaws.{not-held}
use Rattle.spec_order.specs.Algebra.{Forms}
use Rattle.spec_order.specs.Journal.{Row, no_row, capped}
use Rattle.spec_order.specs.Behind.{word_behind}
use Rattle.spec_order.specs.Fitting.{all_rows_fit}
use Rattle.spec_calls.specs.Base.{words}
use Rattle.spec_calls.proofs.BaseLaws.{word-sizes}
use Rattle.spec_calls.specs.Writing.{long_word, too_long, row_fault, room_fault}
use Rattle.call_write_fit.specs.Forms.{no_forms}
use Rattle.call_write_word.specs.Parts.{older_row, Ready}
use Rattle.spec_order.proofs.FittingLaws.{FitThrough, fit-through, fit_same}
use Rattle.spec_order.proofs.BehindLaws.{len-behind}

-- 9 does not ask for effects
pub row-fault-same : (M N : Forms ℕ) (rules : List Rule) (rows : List (Row ℕ)) (used i : ℕ) → row_fault M rules rows used i ≡ row_fault N rules rows used i
unfolding row_fault
row-fault-same M N rules rows used i = ap (λ (b : Bool). cond (not (ltb i used) || (ltb (length rows) used || not b)) 9 0) (fit_same M N rows rules (i + 1))

-- 9 does not refuse
pub record Named (rules : List Rule) (rows : List (Row ℕ)) (i : ℕ) : Type 0 where
  pub inside : i < length rows
  pub fits : FitThrough no_forms rows rules i

pub named : (rules : List Rule) (rows : List (Row ℕ)) (used i : ℕ) → row_fault no_forms rules rows used i ≡ 0 → Named rules rows i
unfolding row_fault
named rules rows used i e =
    let fit = all_rows_fit no_forms rows rules (i + 1) in
    let u = or-neither (not (ltb i used)) (ltb (length rows) used || not fit) (not-held (not (ltb i used) || (ltb (length rows) used || not fit)) 8 e) in
    let v = or-neither (ltb (length rows) used) (not fit) u.1 in
    let l = ltb-true i used (not-false (ltb i used) u.0) in
    record {
      inside = omega (arith, ltb-false (length rows) used v.0);
      fits = λ j h. fit-through no_forms rows rules (i + 1) (not-false fit v.1) j (omega arith);
    }

module _ (rules : List Rule) (rows : List (Row ℕ)) (used i : ℕ) where
  -- 10 by the length in the row
  pub by_length : Named rules rows i → (room : ℕ) → too_long (get_or rows i (no_row no_forms)).len room ≡ too_long (length (word_behind words rules rows i)) room
  unfolding capped
  by_length m room = by (leb long_word n) refl
    where
      k : ℕ
      k = (get_or rows i (no_row no_forms)).len

      n : ℕ
      n = length (word_behind words rules rows i)

      e : k ≡ capped n
      e = len-behind words no_forms rules rows word-sizes i m.inside m.fits

      by : (t : Bool) → leb long_word n ≡ t → too_long k room ≡ too_long n room
      by true h =
          let l = leb-true long_word n h in
          ap (λ (t : Bool). t || ltb room k) (le-leb long_word k (omega (arith, e))) ∙ sym (ap (λ (t : Bool). t || ltb room n) h)
      by false h =
          let l = leb-false long_word n h in
          let z : k ≡ n = omega (arith, e) in ap (λ (x : ℕ). too_long x room) z

  -- 9 and 10 do not refuse: the row may be written
  pub ready : (room : ℕ) → row_fault no_forms rules rows used i ≡ 0 → room_fault (word_behind words rules rows i) room ≡ 0 → Ready rules rows (older_row i) room
  unfolding room_fault
  ready room nine ten =
      let n = length (word_behind words rules rows i) in
      let m = named rules rows used i nine in
      let c = or-neither (leb long_word n) (ltb room n) (not-held (too_long n room) 9 ten) in
      record { fits = (m.inside, m.fits); room = ltb-false room n c.1 }

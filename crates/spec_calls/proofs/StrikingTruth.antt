-- What the crews asked (C-11: "the sheet shouldn't care"), of judging: a run that is not refused is judged as it is without its remarks. A run
-- of 65,535 steps is refused, and may be short enough without its remarks. Assumes nothing.
use Rattle.std.specs.Prelude.{◌≡◌, refl, Bool, true, false, ◌||◌, cond, List, [], ◌∷◌, ℕ, ◌≤◌, leb, ltb, length}
use Rattle.std.proofs.Common.{sym, ap₂, ◌∙◌, arith, ltb-false, le-ltb}
use Rattle.spec_basics.specs.Tests.{or-neither}
use Rattle.spec_basics.specs.Elements.{any}
use Rattle.relation.specs.Relation.{states}
use Rattle.spec_language.specs.Remarks.{is_remark, struck_by, struck}
use Rattle.spec_language.proofs.Striking.{rejected-struck}
use Rattle.spec_file.specs.Limits.{terminals}
use Rattle.spec_file.specs.Refusals.{refuse, fault}
use Rattle.spec_file.specs.Views.{automaton_of}
use Rattle.spec_calls.specs.Replies.{reply}
use Rattle.spec_calls.specs.Judging.{word_limit, word_fault, judgement_by, judge_of}

struck-length : (w : List ℕ) → length (struck w) ≤ length w
unfolding struck
struck-length [] = omega arith
struck-length (c ∷ w) = by (is_remark c) (struck-length w)
  where
    by : (r : Bool) → length (struck w) ≤ length w → length (struck_by r c (struck w)) ≤ length (c ∷ w)
    by true h = omega arith
    by false h = omega arith

abbrev stray : ℕ → Bool
stray c = leb terminals c

struck-letters : (w : List ℕ) → any stray w ≡ false → any stray (struck w) ≡ false
unfolding struck
struck-letters [] h = refl
struck-letters (c ∷ w) h = let p = or-neither (stray c) (any stray w) h in by (is_remark c) p.0 (struck-letters w p.1)
  where
    by : (r : Bool) → stray c ≡ false → any stray (struck w) ≡ false → any stray (struck_by r c (struck w)) ≡ false
    by true p q = q
    by false p q = ap₂ (λ (a b : Bool). a || b) p q

not-refused : (b : Bool) → ◌≡◌ {A = ℕ} (cond b 11 0) 0 → b ≡ false
not-refused true h = absurd (let z : ⊥ = omega arith in z)
not-refused false h = refl

struck-fault : (w : List ℕ) → word_fault w ≡ 0 → word_fault (struck w) ≡ 0
unfolding word_fault
struck-fault w h =
    let p = or-neither (ltb word_limit (length w)) (any stray w) (not-refused (ltb word_limit (length w) || any stray w) h) in
    let short : length (struck w) ≤ word_limit = omega (arith, struck-length w, ltb-false word_limit (length w) p.0) in
    rw (le-ltb word_limit (length (struck w)) short, struck-letters w p.1)

pub judge-struck : (bs w : List ℕ) → word_fault w ≡ 0 → judge_of bs (struck w) ≡ judge_of bs w
unfolding judge_of
judge-struck bs w h =
    ap₂ (λ (f : ℕ) (b : Bool). reply (fault bs ∷ refuse f 0 ∷ []) (judgement_by b)) (struck-fault w h ∙ sym h) (rejected-struck states (automaton_of bs) w)

-- What recognizing says of a plan with one rule, by which procedure 0 gives step 5 and then the remark 127. Remarks are ordinary steps: the
-- run 5 127 is one of the plan's, and the run 5, which judging can not tell from it, is none. And whose bit stands in which cell: that of
-- procedure 0 in the cell of the whole run, no other bit there, and none in the cell of the step 5 alone. Assumes nothing.
use Rattle.std.specs.Prelude.{◌≡◌, refl, Bool, true, false, List, [], ◌∷◌, ◌++◌, ℕ, zero, suc, length, get_or}
use Rattle.std.proofs.Common.{sym, ap, ap₂, ◌∙◌, subst, inl, inr, arith}
use Rattle.spec_basics.specs.Tests.{fails}
use Rattle.relation.specs.Digits.{bit}
use Rattle.spec_language.specs.Grammar.{terminal, Production, initial}
use Rattle.spec_language.specs.Rewriting.{Language}
use Rattle.spec_language.specs.Spelling.{Spells, DerivesWithin}
use Rattle.spec_language.proofs.Agreement.{language}
use Rattle.spec_file.specs.Views.{collect, rules_of, productions_of}
use Rattle.spec_calls.specs.Replies.{answered}
use Rattle.spec_calls.specs.Recognizing.{cell, TableShows, RecognizeMeans}
use Rattle.spec_calls.proofs.Cases.{entry}

-- 0 gives 5 127
abbrev remarked : List ℕ
remarked = entry 1 0 2 5 127 []

abbrev only_rule : Production
only_rule = record { head = initial; symbols = terminal 5 ∷ terminal 127 ∷ [] }

rules-are : productions_of remarked ≡ only_rule ∷ []
unfolding rules_of collect
rules-are = refl

both-steps : Language (only_rule ∷ []) initial (5 ∷ 127 ∷ [])
both-steps = (language (only_rule ∷ []) initial (5 ∷ 127 ∷ [])).1 (1, (only_rule, inl refl, refl, (5 ∷ [], 127 ∷ [], refl, refl, (127 ∷ [], [], refl, refl, refl))))

-- only procedure 0 derives a run, and that has two steps
two_steps : (p : ℕ) (w : List ℕ) → Language (only_rule ∷ []) p w → (p ≡ initial) × (length w ≡ 2)
two_steps p w d = let e = (language (only_rule ∷ []) p w).0 d in by e.0 e.1
  where
    spelled : (h : ℕ) (r : Production) → r ≡ only_rule → Spells (DerivesWithin (only_rule ∷ []) h) r.symbols w → length w ≡ 2
    spelled h r q s =
        let t = subst (λ (x : Production). Spells (DerivesWithin (only_rule ∷ []) h) x.symbols w) q s in
        let v = t.4 in
        ap length (t.2 ∙ ap₂ (λ (x y : List ℕ). x ++ y) t.3 (v.2 ∙ ap₂ (λ (x y : List ℕ). x ++ y) v.3 v.4))

    by : (h : ℕ) → DerivesWithin (only_rule ∷ []) h p w → (p ≡ initial) × (length w ≡ 2)
    by zero x = absurd x
    by (suc h) (r, inl q, e, s) = (sym e ∙ ap (λ (x : Production). x.head) q, spelled h r q s)
    by (suc h) (r, inr q, e, s) = absurd q

-- the plan's rules are that rule
by-rules : (p : ℕ) (w : List ℕ) → Language (productions_of remarked) p w → Language (only_rule ∷ []) p w
by-rules p w d = subst (λ (x : List Production). Language x p w) rules-are d

of-rules : (p : ℕ) (w : List ℕ) → Language (only_rule ∷ []) p w → Language (productions_of remarked) p w
of-rules p w d = subst (λ (x : List Production). Language x p w) (sym rules-are) d

module _ (before after : List ℕ) (b : Bool) where
  pub with-remark : RecognizeMeans remarked (5 ∷ 127 ∷ []) before after (answered b) → b ≡ true
  with-remark m = m.0.1 (of-rules initial (5 ∷ 127 ∷ []) both-steps)

  pub without-remark : RecognizeMeans remarked (5 ∷ []) before after (answered b) → b ≡ false
  without-remark m = fails b (λ q. let l : 1 ≡ 2 = (two_steps initial (5 ∷ []) (by-rules initial (5 ∷ []) (m.0.0 q))).1 in omega (arith, l))

pub own_bits : (table : List ℕ) → TableShows (productions_of remarked) (5 ∷ 127 ∷ []) table
    → (bit (get_or table (cell 0 2) 0) 0 ≡ true) × (bit (get_or table (cell 0 2) 0) 1 ≡ false) × (bit (get_or table (cell 0 1) 0) 0 ≡ false)
own_bits table t = (
  (t.within 0 2 0 (omega arith) (omega arith) (omega arith)).1 (of-rules 0 (5 ∷ 127 ∷ []) both-steps),
  fails (bit (get_or table (cell 0 2) 0) 1) (λ q. let z : 1 ≡ 0 = (two_steps 1 (5 ∷ 127 ∷ []) (by-rules 1 (5 ∷ 127 ∷ []) ((t.within 0 2 1 (omega arith) (omega arith) (omega arith)).0 q))).0 in omega (arith, z)),
  fails (bit (get_or table (cell 0 1) 0) 0) (λ q. let z : 1 ≡ 2 = (two_steps 0 (5 ∷ []) (by-rules 0 (5 ∷ []) ((t.within 0 1 0 (omega arith) (omega arith) (omega arith)).0 q))).1 in omega (arith, z)),
)

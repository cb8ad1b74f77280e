-- What the crews asked (C-11: "the sheet shouldn't care"): striking the remarks from a word changes neither its relation, on any number of
-- states, nor where its paths lead, nor whether the automaton accepts it. Assumes nothing.
use Rattle.std.specs.Prelude.{◌≡◌, Bool, ℕ}
use Rattle.std.proofs.Math.Path.{refl, subst}
use Rattle.std.proofs.Common.{sym, ap, ◌∙◌}
use Rattle.std.proofs.Math.Bool.{true, false}
use mathlib.Core.List.{List, [], ◌∷◌}
use Rattle.spec_basics.specs.Elements.{In}
use Rattle.relation.specs.Relation.{compose, rejects}
use Rattle.relation.specs.RelationLaws.{identity-compose}
use Rattle.spec_language.specs.Remarks.{is_remark, struck_by, struck}
use Rattle.spec_language.specs.Automaton.{Transition, Automaton, ReadsBy, WordPath, Accepts, TurnsAway}
use Rattle.spec_language.specs.WordRelation.{letter_relation, word_relation, is_final, rejected}
use Rattle.spec_language.proofs.Paths.{word_relation-lt, letter_relation-remark, reads_as}

-- ---- the effect of a run

pub relation-struck : (n : ℕ) (ts : List Transition) (w : List ℕ) → word_relation n ts (struck w) ≡ word_relation n ts w
unfolding word_relation struck
relation-struck n ts [] = refl
relation-struck n ts (c ∷ w) = by (is_remark c) refl (relation-struck n ts w)
  where
    by : (r : Bool) → is_remark c ≡ r → word_relation n ts (struck w) ≡ word_relation n ts w
        → word_relation n ts (struck_by r c (struck w)) ≡ compose n (letter_relation n ts c) (word_relation n ts w)
    by true e ih =
        ih
        ∙ sym (identity-compose n (word_relation n ts w) (word_relation-lt n ts w))
        ∙ ap (λ (x : ℕ). compose n x (word_relation n ts w)) (sym (letter_relation-remark n ts c e))
    by false e ih = ap (compose n (letter_relation n ts c)) ih

pub rejected-struck : (n : ℕ) (A : Automaton) (w : List ℕ) → rejected n A (struck w) ≡ rejected n A w
unfolding rejected
rejected-struck n A w = ap (rejects n (is_final A)) (relation-struck n A.transitions w)

-- ---- the paths on a run

module _ (ts : List Transition) where
  path-struck : (w : List ℕ) (a b : ℕ) → WordPath ts a w b → WordPath ts a (struck w) b
  unfolding struck
  path-struck [] a b p = p
  path-struck (c ∷ w) a b p = by (is_remark c) p.1 (path-struck w p.0 b p.2)
    where
      by : (r : Bool) → ReadsBy r ts a c p.0 → WordPath ts p.0 (struck w) b → WordPath ts a (struck_by r c (struck w)) b
      by true s rest = subst (λ (x : ℕ). WordPath ts x (struck w) b) (sym s) rest
      by false s rest = (p.0, p.1, rest)

  struck-path : (w : List ℕ) (a b : ℕ) → WordPath ts a (struck w) b → WordPath ts a w b
  unfolding struck
  struck-path [] a b p = p
  struck-path (c ∷ w) a b p = by (is_remark c) refl p (λ m. struck-path w m b)
    where
      by : (r : Bool) → is_remark c ≡ r → WordPath ts a (struck_by r c (struck w)) b
          → ((m : ℕ) → WordPath ts m (struck w) b → WordPath ts m w b) → WordPath ts a (c ∷ w) b
      by true e p rest = (a, reads_as ts c a a true e refl, rest a p)
      by false e p rest = (p.0, p.1, rest p.0 p.2)

  -- a path on the word is one on what is left without its remarks, and the other way round
  pub same-paths : (w : List ℕ) (a b : ℕ) → (WordPath ts a w b → WordPath ts a (struck w) b) × (WordPath ts a (struck w) b → WordPath ts a w b)
  same-paths w a b = (path-struck w a b, struck-path w a b)

-- ---- acceptance

module _ (A : Automaton) (w : List ℕ) where
  -- the automaton accepts the word exactly where it accepts it without its remarks
  pub accepts-struck : (Accepts A w → Accepts A (struck w)) × (Accepts A (struck w) → Accepts A w)
  accepts-struck = (
    λ h. (h.0, h.1, path-struck A.transitions w 0 h.0 h.2),
    λ h. (h.0, h.1, struck-path A.transitions w 0 h.0 h.2),
  )

  -- and so for turning it away
  pub turns-away-struck : (TurnsAway A w → TurnsAway A (struck w)) × (TurnsAway A (struck w) → TurnsAway A w)
  turns-away-struck = (λ t h. t (accepts-struck.1 h), λ t h. t (accepts-struck.0 h))

  -- a word of remarks alone is accepted exactly where state 0 is final
  pub remarks-alone : struck w ≡ [] → (Accepts A w → In 0 A.finals) × (In 0 A.finals → Accepts A w)
  remarks-alone e = (
    λ a.
        let h = accepts-struck.0 a in
        let stays : 0 ≡ h.0 = subst (λ (v : List ℕ). WordPath A.transitions 0 v h.0) e h.2 in
        subst (λ (x : ℕ). In x A.finals) (sym stays) h.1,
    λ i. accepts-struck.1 (0, i, subst (λ (v : List ℕ). WordPath A.transitions 0 v 0) (sym e) refl),
  )

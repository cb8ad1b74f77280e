-- Where the list is empty, a word of letters that are used has exactly one path from each state that is taken. Assumes nothing.
use Rattle.std.specs.Prelude.{◌≡◌, refl, ◌↔◌, Bool, true, false, List, [], ◌∷◌, ℕ, eqb}
use Rattle.std.proofs.Common.{sym, ap, ap₂, ◌∙◌, subst, inl, inr, eqb-true}
use Rattle.std.proofs.lemmas.Bool.{eqb-false}
use Rattle.spec_basics.specs.Elements.{In}
use Rattle.spec_language.specs.Automaton.{Transition, Automaton, Reads, ReadsBy, WordPath}
use Rattle.spec_language.specs.Remarks.{is_remark}
use Rattle.spec_file.specs.Refusals.{fault}
use Rattle.spec_file.proofs.Valid.{no-remark-moves}
use Rattle.spec_file.specs.Views.{transitions_of, automaton_of}
use Rattle.spec_calls.specs.Gaps.{StateTaken, LetterUsed, moves_on, ListEntry, Trace, end_of, ExactlyOne}
use Rattle.spec_calls.specs.Listing.{gaps_of}
use Rattle.spec_calls.proofs.MoveCounts.{OneTarget, one-target}
use Rattle.spec_calls.proofs.GapLists.{listed}

-- ---- a path, with the states that it goes through or without them

module _ (ts : List Transition) where
  trace-path : (a b : ℕ) (w ss : List ℕ) → Trace ts a w ss → end_of a ss ≡ b → WordPath ts a w b
  trace-path a b [] ss t e = sym (ap (end_of a) t) ∙ e
  trace-path a b (c ∷ w) ss t e = (t.0, t.3, trace-path t.0 b w t.1 t.4 (sym (ap (end_of a) t.2) ∙ e))

  path-trace : (a b : ℕ) (w : List ℕ) → WordPath ts a w b → (ss : List ℕ) × Trace ts a w ss × (end_of a ss ≡ b)
  path-trace a b [] p = ([], refl, p)
  path-trace a b (c ∷ w) p = let r = path-trace p.0 b w p.2 in (p.0 ∷ r.0, (p.0, r.0, refl, p.1, r.1), r.2)

  -- a path to b is a trace that ends there
  pub path-as-trace : (a b : ℕ) (w : List ℕ) → WordPath ts a w b ↔ ((ss : List ℕ) × Trace ts a w ss × (end_of a ss ≡ b))
  path-as-trace a b w = (path-trace a b w, λ r. trace-path a b w r.0 r.1 r.2)

  -- exactly one trace leads to exactly one end
  pub one_end : (a : ℕ) (w : List ℕ) (o : ExactlyOne ts a w) → WordPath ts a w (end_of a o.states) × ((b : ℕ) → WordPath ts a w b → b ≡ end_of a o.states)
  one_end a w o =
      (trace-path a (end_of a o.states) w o.states o.path refl, λ b p. let r = path-trace a b w p in sym r.2 ∙ ap (end_of a) (o.alone r.0 r.1))

-- ---- one transition for each pair, and none on a remark

module _ (A : Automaton) (plain : (c : ℕ) → LetterUsed A c → is_remark c ≡ false) (one : (s c : ℕ) → StateTaken A s → LetterUsed A c → moves_on A.transitions s c ≡ 1) where
  exactly-one : (w : List ℕ) → ((c : ℕ) → In c w → LetterUsed A c) → (a : ℕ) → StateTaken A a → ExactlyOne A.transitions a w
  exactly-one [] l a s = record { states = []; path = refl; alone = λ ss t. t }
  exactly-one (c ∷ w) l a s = by (one-target A.transitions a c (one a c s (l c (inl refl)))) (exactly-one w (λ d i. l d (inr i)))
    where
      by : OneTarget A.transitions a c → ((b : ℕ) → StateTaken A b → ExactlyOne A.transitions b w) → ExactlyOne A.transitions a (c ∷ w)
      by o next = record { states = o.target ∷ r.states; path = (o.target, r.states, refl, there, r.path); alone = same }
        where
          -- the letter is no remark, so it takes a transition
          e : is_remark c ≡ false
          e = plain c (l c (inl refl))

          there : Reads A.transitions a c o.target
          there = subst (λ (x : Bool). ReadsBy x A.transitions a c o.target) (sym e) o.leads-there

          r : ExactlyOne A.transitions o.target w
          r = next o.target (inr (inl (record { source = a; letter = c; target = o.target }, o.leads-there, inr refl)))

          same : (ss : List ℕ) → Trace A.transitions a (c ∷ w) ss → ss ≡ o.target ∷ r.states
          same ss t =
              let q = o.alone t.0 (subst (λ (x : Bool). ReadsBy x A.transitions a c t.0) e t.3) in
              t.2 ∙ ap₂ (λ (x : ℕ) (xs : List ℕ). x ∷ xs) q (r.alone t.1 (subst (λ (x : ℕ). Trace A.transitions x w t.1) q t.4))

-- ---- a file that is not refused, with an empty list

module _ (bs : List ℕ) (v : (fault bs).number ≡ 0) (none : gaps_of bs ≡ []) where
  one-move : (s c : ℕ) → StateTaken (automaton_of bs) s → LetterUsed (automaton_of bs) c → moves_on (transitions_of bs) s c ≡ 1
  one-move s c p q = by (eqb (moves_on (transitions_of bs) s c) 1) refl
    where
      by : (x : Bool) → eqb (moves_on (transitions_of bs) s c) 1 ≡ x → moves_on (transitions_of bs) s c ≡ 1
      by true e = eqb-true (moves_on (transitions_of bs) s c) 1 e
      by false e =
          let x : ListEntry = record { state = s; letter = c; moves = moves_on (transitions_of bs) s c } in
          let i = (listed bs v x).1 (record { state-taken = p; letter-used = q; counted = refl; not-one = eqb-false (moves_on (transitions_of bs) s c) 1 e }) in
          absurd (subst (λ (es : List ListEntry). In x es) none i)

  -- document 02: a run of codes used in its moves has exactly one path from each stage taken
  pub one-path : (a : ℕ) → StateTaken (automaton_of bs) a → (w : List ℕ) → ((c : ℕ) → In c w → LetterUsed (automaton_of bs) c) → ExactlyOne (transitions_of bs) a w
  one-path a s w l = exactly-one (automaton_of bs) (λ c u. subst (λ (x : ℕ). is_remark x ≡ false) u.2 (no-remark-moves bs v u.0 u.1)) one-move w l a s

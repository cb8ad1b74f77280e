-- Each procedure of a file of 16-byte records derives the same words after unfolding, and the automaton is the same (document 02, C-17).
-- Assumes nothing.
use Rattle.std.specs.Prelude.{◌≡◌, refl, ◌↔◌, ◌⊎◌, false, not}
use Rattle.std.proofs.Common.{sym, ◌∙◌, subst}
use Rattle.std.proofs.Math.Path.{ap, ap₂}
use Rattle.std.proofs.Math.Logic.{inl, inr, ⊎_elim}
use mathlib.Core.List.{List, [], ◌∷◌, ◌++◌, map, append-nil, map-append}
use Prim.Native.Nat.{ℕ, zero, suc, ◌+◌, ◌≤◌, ◌<◌}
use native.Mathlib.Omega.{arith}
use Rattle.std.proofs.Math.Seq.{get_or-take}
use borrow.Author.Tests.{eq-eqb, ne_eqb}
use Rattle.spec_basics.specs.Elements.{In}
use Rattle.spec_basics.specs.Lists.{in_map, map-in}
use Rattle.spec_language.specs.Grammar.{nonterminal, Production, production_of, initial}
use Rattle.spec_language.specs.Rewriting.{Language}
use Rattle.spec_language.proofs.RewritingLaws.{more-productions, no_words}
use Rattle.spec_file.specs.Records.{record_count, byte, rule_kind, transition_kind, final_kind}
use Rattle.spec_file.specs.Views.{rule_of, transition_of, final_of, collect, rules_of, productions_of, transitions_of, finals_of, automaton_of}
use Rattle.spec_records.specs.Blocks.{records_of}
use Rattle.spec_file.specs.Forms.{sixteen}
use Rattle.spec_file.specs.Refusals.{fault_in}
use Rattle.spec_records.specs.OnRecords.{precedes}
use Rattle.spec_unfold.specs.Chains.{RuleOver, chains_in, unfolded, first_free}
use Rattle.spec_unfold.proofs.ChainFacts.{head-cases}
use Rattle.spec_unfold.proofs.ChainLaws.{same-words, as_productions}
use Rattle.spec_unfold.specs.Sorting.{sort}
use Rattle.spec_unfold.proofs.SortingLaws.{sort-in, in-sort}
use Rattle.spec_unfold.specs.Moving.{narrower}
use Rattle.spec_unfold.specs.Unfolding.{keep, has_kind, byte_rules, spelled, wide_productions_of, wide_automaton_of, first_chain, rule_bytes, chained_rules, unfolded_file, too_many, above_byte, call_byte}
use Rattle.spec_unfold.proofs.FreshLaws.{free-above, call-different, fresh-bytes, fresh-symbols, unfolded-symbolic, symbolic, spelled-symbolic}
use Rattle.spec_unfold.proofs.ViewLaws.{kept, keep_append, keep_all, keep-none, keep-narrow, rule-read}
use Rattle.spec_unfold.proofs.UnfoldingLaws.{small, sorted-kind, narrow-kind, unfolded-records}

-- ---- the unfolded file

module _ (least : ℕ) (bs : List ℕ) (v : (fault_in sixteen bs).number ≡ 0) (fits : too_many least (byte_rules (records_of 16 bs)) ≡ false) where
  abbrev rs : List (List ℕ)
  rs = records_of 16 bs

  abbrev us : List (RuleOver ℕ)
  us = chained_rules least (byte_rules rs)

  abbrev sorted : List (List ℕ)
  sorted = sort precedes (map rule_bytes us)

  abbrev narrow : List (List ℕ)
  narrow = map narrower (keep (λ r. not (has_kind rule_kind r)) rs)

  -- what the file holds of one kind
  view : {A : Type 0} (k : ℕ) (g : List ℕ → A) → collect k g (unfolded_file least bs) (record_count (unfolded_file least bs)) 0 ≡ map g (keep (has_kind k) sorted) ++ map g (keep (has_kind k) narrow)
  view k g =
      kept k g (unfolded_file least bs) ∙ ap (λ (l : List (List ℕ)). map g (keep (has_kind k) l)) (unfolded-records least bs v fits)
      ∙ ap (map g) (keep_append (has_kind k) sorted narrow) ∙ map-append g (keep (has_kind k) sorted) (keep (has_kind k) narrow)

  no-sorted : (k : ℕ) → (k ≡ rule_kind → ⊥) → keep (has_kind k) sorted ≡ []
  no-sorted k n = keep-none (has_kind k) sorted (λ x h. ne_eqb (byte x 0) k (λ e. n (sym e ∙ sorted-kind least bs v fits x h)))

  -- its transitions and final states are those of the file
  pub same-automaton : automaton_of (unfolded_file least bs) ≡ wide_automaton_of bs
  unfolding transitions_of finals_of wide_automaton_of
  same-automaton =
      λ i. record {
        transitions = (view transition_kind transition_of ∙ ap (λ (l : List (List ℕ)). map transition_of l ++ map transition_of (keep (has_kind transition_kind) narrow)) (no-sorted transition_kind (λ e. let z : ⊥ = omega arith in z))
            ∙ keep-narrow transition_kind transition_of (λ e. let z : ⊥ = omega arith in z) move rs) i;
        finals = (view final_kind final_of ∙ ap (λ (l : List (List ℕ)). map final_of l ++ map final_of (keep (has_kind final_kind) narrow)) (no-sorted final_kind (λ e. let z : ⊥ = omega arith in z))
            ∙ keep-narrow final_kind final_of (λ e. let z : ⊥ = omega arith in z) (λ r. get_or-take 8 r 1 0 (omega arith)) rs) i;
      }
    where
      move : (r : List ℕ) → transition_of (narrower r) ≡ transition_of r
      move r = λ i. record { source = get_or-take 8 r 1 0 (omega arith) i; letter = get_or-take 8 r 2 0 (omega arith) i; target = get_or-take 8 r 3 0 (omega arith) i }

  -- its rules, in file order, are the sorted ones
  pub rules-sorted : rules_of (unfolded_file least bs) ≡ map rule_of sorted
  unfolding rules_of
  rules-sorted =
      view rule_kind rule_of
      ∙ ap₂ (λ (l m : List (List ℕ)). map rule_of l ++ map rule_of m) (keep_all (has_kind rule_kind) sorted (λ x h. eq-eqb (byte x 0) rule_kind (sorted-kind least bs v fits x h)))
      (keep-none (has_kind rule_kind) narrow (λ x h. ne_eqb (byte x 0) rule_kind (λ e. ⊎_elim (λ f. let z : ⊥ = omega arith in z) (λ f. let z : ⊥ = omega arith in z) (narrow-kind least bs v fits x h))))
      ∙ append-nil (map rule_of sorted)

  read : (q : RuleOver ℕ) → In q us → production_of (rule_of (rule_bytes q)) ≡ spelled q
  read q h = rule-read q.head q.body (small least bs v fits q h).size

  -- they are those that the chains give
  pub to-chains : (p : Production) → In p (productions_of (unfolded_file least bs)) → In p (map spelled us)
  to-chains p h =
      let t = map-in production_of p (rules_of (unfolded_file least bs)) h in
      let r = map-in rule_of t.0 sorted (subst (In t.0) rules-sorted t.1) in
      let q = map-in rule_bytes r.0 us (sort-in precedes r.0 (map rule_bytes us) r.1) in
      subst (λ (x : Production). In x (map spelled us)) (sym (t.2 ∙ ap production_of r.2 ∙ ap (λ (x : List ℕ). production_of (rule_of x)) q.2 ∙ read q.0 q.1)) (in_map spelled q.0 us q.1)

  pub from-chains : (p : Production) → In p (map spelled us) → In p (productions_of (unfolded_file least bs))
  from-chains p h =
      let q = map-in spelled p us h in
      let m = in-sort precedes (rule_bytes q.0) (map rule_bytes us) (in_map rule_bytes q.0 us q.1) in
      let r = in_map production_of (rule_of (rule_bytes q.0)) (rules_of (unfolded_file least bs)) (subst (In (rule_of (rule_bytes q.0))) (sym rules-sorted) (in_map rule_of (rule_bytes q.0) sorted m)) in
      subst (λ (x : Production). In x (productions_of (unfolded_file least bs))) (read q.0 q.1 ∙ sym q.2) r

  -- each procedure below the chain procedures, so each that is in use, derives the same words
  pub same-language : (x : ℕ) (w : List ℕ) → x < first_chain least (byte_rules (records_of 16 bs)) → Language (wide_productions_of bs) x w ↔ Language (productions_of (unfolded_file least bs)) x w
  unfolding wide_productions_of
  same-language x w l =
      let n = first_chain least (byte_rules rs) in
      let before = spelled-symbolic (byte_rules rs) in
      let after : map spelled us ≡ as_productions (unfolded nonterminal n (map symbolic (byte_rules rs))) = spelled-symbolic us ∙ ap as_productions (unfolded-symbolic n (byte_rules rs)) in
      let s = same-words n (map symbolic (byte_rules rs)) (fresh-symbols least (byte_rules rs)) x w l in
      let out = productions_of (unfolded_file least bs) in (
        λ g. more-productions (map spelled us) out from-chains x w (rw after (s.0 (rw before at g))),
        λ g. rw before (s.1 (rw after at (more-productions out (map spelled us) to-chains x w g))),
      )

  -- every other procedure that is no chain procedure derives nothing, before and after
  beyond : (x : ℕ) (w : List ℕ) → first_chain least (byte_rules rs) + chains_in (byte_rules rs) ≤ x → (Language (wide_productions_of bs) x w → ⊥) × (Language (productions_of (unfolded_file least bs)) x w → ⊥)
  unfolding wide_productions_of
  beyond x w l =
      let n = first_chain least (byte_rules rs) in
      let f = fresh-bytes least (byte_rules rs) in (
        no_words (map spelled (byte_rules rs)) x w
            (λ p h e. let t = map-in spelled p (byte_rules rs) h in let z = f.heads t.0 t.1 in let y = ap (λ (q : Production). q.head) t.2 in omega arith),
        no_words (productions_of (unfolded_file least bs)) x w
            (λ p h e. let t = map-in spelled p us (to-chains p h) in let v = ap (λ (q : Production). q.head) t.2 in
            ⊎_elim (λ k. let z : ⊥ = omega arith in z) (λ k. let z : ⊥ = omega (arith, k.1) in z) (head-cases call_byte call-different n n (byte_rules rs) (fresh-bytes least (byte_rules rs)) t.0 t.1)),
      )

  -- so each procedure that is no chain procedure derives the same words
  pub same-everywhere : (x : ℕ) (w : List ℕ) → (x < first_chain least (byte_rules rs)) ⊎ (first_chain least (byte_rules rs) + chains_in (byte_rules rs) ≤ x)
      → Language (wide_productions_of bs) x w ↔ Language (productions_of (unfolded_file least bs)) x w
  same-everywhere x w (inl l) = same-language x w l
  same-everywhere x w (inr l) = let b = beyond x w l in (λ g. absurd (b.0 g), λ g. absurd (b.1 g))

  -- the initial symbol is never a chain procedure
  pub initial-first : (ps : List (RuleOver ℕ)) → (0 < first_chain least ps) ⊎ (first_chain least ps + chains_in ps ≤ 0)
  unfolding first_free chains_in
  initial-first [] = by least
    where
      by : (m : ℕ) → (0 < m) ⊎ (m + 0 ≤ 0)
      by zero = inr (omega arith)
      by (suc m) = inl (omega arith)
  initial-first (p ∷ ps) = inl (let z = (free-above above_byte least (p ∷ ps) p (inl refl)).0 in omega arith)

  pub same-initial : (w : List ℕ) → Language (wide_productions_of bs) initial w ↔ Language (productions_of (unfolded_file least bs)) initial w
  same-initial w = same-everywhere initial w (initial-first (byte_rules rs))

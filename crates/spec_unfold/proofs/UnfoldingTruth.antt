-- The reply of unfolding, and the output after it, mean what document 02 says; and a check of the unfolded file is one of the 16-byte file.
-- Assumes nothing.
use Rattle.std.specs.Prelude.{◌≡◌, ◌↔◌, ◌⊎◌, Bool, true, false, ltb, drop}
use Rattle.std.proofs.Math.Path.{refl, ap, subst}
use Rattle.std.proofs.Common.{sym, ◌∙◌, inl, inr, ltb-true, ltb-false}
use Rattle.std.proofs.Math.Logic.{⊎_elim}
use mathlib.Core.List.{List, [], map}
use Prim.Native.Nat.{ℕ, ◌+◌, ◌≤◌, ◌<◌}
use native.Mathlib.Omega.{arith}
use Rattle.std.proofs.Math.ListN.{length, length-map}
use Rattle.std.proofs.Math.Seq.{take_at, drop_at}
use Rattle.spec_basics.specs.Elements.{In}
use Rattle.spec_language.specs.Grammar.{nonterminal, Production, production_of, initial}
use Rattle.spec_language.specs.Rewriting.{Language}
use Rattle.spec_language.specs.Automaton.{Automaton, Accepts, TurnsAway}
use Rattle.spec_file.specs.Forms.{sixteen}
use Rattle.spec_file.specs.Refusals.{fault, fault_in}
use Rattle.spec_file.specs.Views.{rule_of, rules_of, productions_of, automaton_of}
use Rattle.spec_order.specs.Order.{Answer}
use Rattle.spec_calls.specs.Replies.{Reply, refused, answered}
use Rattle.spec_calls.specs.Checking.{Settings, shown, shown_head}
use Rattle.spec_calls.specs.DemandThree.{Member, SomeFrom, NoneFrom, Counterexample, AllAccepted, OneVerdict}
use Rattle.spec_calls.proofs.Promising.{promises}
use Rattle.spec_calls.specs.Writing.{written_by}
use Rattle.spec_records.specs.Blocks.{records_of}
use Rattle.spec_records.specs.OnRecords.{precedes}
use Rattle.spec_unfold.specs.Chains.{RuleOver, chains_in, unfolded}
use Rattle.spec_unfold.proofs.ChainLaws.{as_productions}
use Rattle.spec_unfold.proofs.ChainFacts.{length-unfolded}
use Rattle.spec_unfold.specs.Sorting.{sort}
use Rattle.spec_unfold.proofs.SortingLaws.{length-all}
use Rattle.spec_unfold.specs.Unfolding.{byte_rules, spelled, wide_productions_of, wide_automaton_of, call_byte, first_chain, chained_rules, rule_bytes, unfolded_file, too_many}
use Rattle.spec_unfold.proofs.FreshLaws.{symbolic, spelled-symbolic, unfolded-symbolic}
use Rattle.spec_unfold.proofs.UnfoldingLaws.{unfolded-passes}
use Rattle.spec_unfold.proofs.SameRuns.{same-automaton, rules-sorted, to-chains, from-chains, same-everywhere, initial-first}
use Rattle.spec_unfold.proofs.LinkLaws.{links-exactly}
use Rattle.spec_unfold.proofs.NumberTruth.{taken-spelled, first_above}
use Rattle.spec_unfold.specs.Calls.{unfold_of, unfold_after}
use Rattle.spec_unfold.proofs.CallLaws.{after-length, unfold-answers}
use Rattle.spec_unfold.specs.UnfoldingMeans.{taken_by, FirstAbove, ChainProcedure, IsLink, WideSomeFrom, WideNoneFrom, WideCounterexample, WideAccepted, WideVerdict, UnfoldMeans}

module _ (least : ℕ) (bs : List ℕ) (v : (fault_in sixteen bs).number ≡ 0) (fits : too_many least (byte_rules (records_of 16 bs)) ≡ false) where
  abbrev ps : List (RuleOver ℕ)
  ps = byte_rules (records_of 16 bs)

  abbrev file : List ℕ
  file = unfolded_file least bs

  -- ---- the rules

  links : (q : Production) → In q (productions_of file) ↔ IsLink (first_chain least ps) (wide_productions_of bs) q
  unfolding wide_productions_of
  links q =
      let n = first_chain least ps in
      let before = spelled-symbolic ps in
      let after : map spelled (chained_rules least ps) ≡ as_productions (unfolded nonterminal n (map symbolic ps)) = spelled-symbolic (chained_rules least ps) ∙ ap as_productions (unfolded-symbolic n ps) in
      let e = links-exactly n (map symbolic ps) q in (
        λ h. subst (λ (l : List Production). IsLink n l q) (sym before) (e.0 (subst (In q) after (to-chains least bs v fits q h))),
        λ h. from-chains least bs v fits q (subst (In q) (sym after) (e.1 (subst (λ (l : List Production). IsLink n l q) before h))),
      )

  count : length (productions_of file) ≡ length (wide_productions_of bs) + taken_by (wide_productions_of bs)
  unfolding wide_productions_of
  count =
      let us = chained_rules least ps in
      let a = length-map (rules_of file) production_of in
      let b = ap length (rules-sorted least bs v fits) in
      let c = length-map (sort precedes (map rule_bytes us)) rule_of in
      let d = length-all precedes [] (map rule_bytes us) in
      let e = length-map us rule_bytes in
      let f = length-unfolded call_byte (first_chain least ps) ps in
      let g = length-map ps spelled in
      let h = taken-spelled ps in omega arith

  -- ---- the runs

  runs : (x : ℕ) → (ChainProcedure (first_chain least ps) (wide_productions_of bs) x → ⊥) → (w : List ℕ) → Language (wide_productions_of bs) x w ↔ Language (productions_of file) x w
  unfolding wide_productions_of
  runs x out w = same-everywhere least bs v fits x w (by (ltb x n) (ltb-true x n) (ltb-false x n) (ltb x (n + c)) (ltb-true x (n + c)) (ltb-false x (n + c)))
    where
      n : ℕ
      n = first_chain least ps

      c : ℕ
      c = chains_in ps

      by : (a : Bool) → (a ≡ true → x < n) → (a ≡ false → n ≤ x) → (b : Bool) → (b ≡ true → x < n + c) → (b ≡ false → n + c ≤ x) → (x < n) ⊎ (n + c ≤ x)
      by true p q b r s = inl (p refl)
      by false p q true r s = let z = r refl in let t = taken-spelled ps in absurd (out (q refl, omega arith))
      by false p q false r s = inr (s refl)

  initial-original : ChainProcedure (first_chain least ps) (wide_productions_of bs) initial → ⊥
  unfolding wide_productions_of
  initial-original c = let t = taken-spelled ps in ⊎_elim (λ z. let y : ⊥ = omega (arith, c.0) in y) (λ z. let y : ⊥ = omega (arith, c.1) in y) (initial-first least bs v fits ps)

  -- ---- demand 3

  -- what is said of the automaton of the unfolded file is said of the file's
  of-automaton : (P : Automaton → Type 0) → P (automaton_of file) → P (wide_automaton_of bs)
  of-automaton P h = subst P (same-automaton least bs v fits) h

  from-automaton : (P : Automaton → Type 0) → P (wide_automaton_of bs) → P (automaton_of file)
  from-automaton P h = subst P (sym (same-automaton least bs v fits)) h

  -- g: the settings of a check of the unfolded file, of whose members none is a chain procedure
  module _ (g : Settings) (original : (p : ℕ) → Member g p → ChainProcedure (first_chain least ps) (wide_productions_of bs) p → ⊥) where
    derived : (p : ℕ) → Member g p → (w : List ℕ) → Language (wide_productions_of bs) p w ↔ Language (productions_of file) p w
    derived p m w = runs p (original p m) w

    some : (p : ℕ) → Member g p → SomeFrom file p → WideSomeFrom bs p
    some p m t = (t.0, (derived p m t.0).1 t.1)

    none : (p : ℕ) → Member g p → NoneFrom file p → WideNoneFrom bs p
    none p m n w d = n w ((derived p m w).0 d)

    accepted : AllAccepted file g → WideAccepted bs g
    accepted h p m w d = of-automaton (λ (A : Automaton). Accepts A w) (h p m w ((derived p m w).0 d))

    all-accepted : WideAccepted bs g → AllAccepted file g
    all-accepted h p m w d = from-automaton (λ (A : Automaton). Accepts A w) (h p m w ((derived p m w).1 d))

    counter : (p : ℕ) (w : List ℕ) → Counterexample file g p w → WideCounterexample bs g p w
    counter p w c = (c.0, (derived p c.0 w).1 c.1, of-automaton (λ (A : Automaton). TurnsAway A w) c.2)

    verdict : (a : Answer ℕ) → OneVerdict file g a → WideVerdict bs g a (shown_head a) (shown file a)
    verdict a one =
        record {
          holds-for-all = λ e. accepted (one.holds-for-all e);
          holds-for-some = λ e p m. some p m (one.holds-for-some e p m);
          empty-for-none = λ e. let n = one.empty-for-none e in (n.0, n.1, none n.0 n.1 n.2);
          broken-shows = λ e. counter (shown_head a) (shown file a) (one.broken-shows e);
          broken-exactly = λ f s. (
            λ e. (shown_head a, shown file a, counter (shown_head a) (shown file a) (one.broken-shows e)),
            λ c. (one.broken-exactly f s).1
                (c.0, c.1, (c.2.0, (derived c.0 c.2.0 c.1).0 c.2.1, from-automaton (λ (A : Automaton). TurnsAway A c.1) c.2.2)),
          );
          empty-exactly = λ f s. (
            λ e. let n = (one.empty-exactly f s).0 e in (accepted n.0, (n.1.0, n.1.1, none n.1.0 n.1.1 n.1.2)),
            λ h. (one.empty-exactly f s).1 (all-accepted h.0, (h.1.0, h.1.1, λ w d. h.1.2 w ((derived h.1.0 h.1.1 w).1 d))),
          );
          holds-exactly = λ f s. (
            λ e. let n = (one.holds-exactly f s).0 e in (accepted n.0, λ p m. some p m (n.1 p m)),
            λ h. (one.holds-exactly f s).1 (all-accepted h.0, λ p m. let t = h.1 p m in (t.0, (derived p m t.0).0 t.1)),
          );
        }

-- ---- the call

pub unfold-means : (least : ℕ) (bs out : List ℕ) → UnfoldMeans least bs out (unfold_after least bs out) (unfold_of least bs (length out))
unfolding unfold_after wide_productions_of
unfold-means least bs out = by (unfold_of least bs (length out)) refl
  where
    by : (x : Reply ℕ) → unfold_of least bs (length out) ≡ x → UnfoldMeans least bs out (written_by (unfolded_file least bs) out x) x
    by (refused r) e = refl
    by (answered n) e =
        let a = unfold-answers least bs (length out) n e in
        let v = a.0 in
        let f = a.1 in
        let is = take_at (unfolded_file least bs) (drop n out) n a.3 in
        record {
          fits = omega (arith, a.2, a.3);
          same_length = after-length (unfolded_file least bs) out n a.2 a.3;
          other-bytes = drop_at (unfolded_file least bs) (drop n out) n a.3;
          passes = ap fault is ∙ unfolded-passes least bs v f;
          same-sheet = ap automaton_of is ∙ same-automaton least bs v f;
          first = first_chain least (byte_rules (records_of 16 bs));
          first_above = above;
          rules-exactly = λ q. rw is (links least bs v f q);
          rule-count = ap (λ (l : List ℕ). length (productions_of l)) is ∙ count least bs v f;
          same_runs = λ x c w. rw is (runs least bs v f x c w);
          no-chain-in-use = λ x u c. let z = above.above-use x u in let y : ⊥ = omega (arith, c.0) in y;
          no-chain-initial = initial-original least bs v f;
          no-chain-below = λ x l c. let y : ⊥ = omega (arith, l, above.above-least, c.0) in y;
          verdict = λ g o b q. rw is (verdict least bs v f g o b (promises (unfolded_file least bs) g b (rw is at q)).one-verdict);
        }
      where
        above : FirstAbove least (wide_productions_of bs) (first_chain least (byte_rules (records_of 16 bs)))
        above = first_above least (byte_rules (records_of 16 bs))

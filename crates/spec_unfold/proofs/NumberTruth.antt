-- The numbers of the chain procedures, and numbers 17 and 18, in the words of document 02, C-17. Assumes nothing.
use Rattle.std.specs.Prelude.{◌≡◌, refl, ◌↔◌, ◌⊎◌, Bool, true, false, ◌||◌, cond, List, [], ◌∷◌, map, ℕ, suc, ◌+◌, ◌-◌, ◌≤◌, ◌<◌, eqb, ltb, length}
use Rattle.std.proofs.Common.{ap, ap₂, subst, ◌∙◌, inl, inr, arith, eqb-true, ltb-true, lt-ltb}
use Rattle.std.proofs.lemmas.List.{length-map}
use Rattle.spec_basics.specs.Elements.{In}
use Rattle.spec_basics.specs.Lists.{in_map, map-in, any_of, any_at}
use Rattle.spec_basics.specs.Tests.{and_intro, and-fst, and-snd, or_left, or_right}
use Rattle.spec_language.specs.Grammar.{Symbol, nonterminal, Production}
use Rattle.spec_file.specs.Limits.{rule_limit, nonterminals, terminals}
use Rattle.spec_file.specs.Forms.{sixteen}
use Rattle.spec_file.specs.Refusals.{fault_in}
use Rattle.spec_file.specs.Views.{symbol_by, symbol_of}
use Rattle.spec_file.specs.Records.{byte, rule_kind}
use Rattle.spec_records.specs.Blocks.{records_of}
use Rattle.spec_records.specs.BlockLaws.{records-wide}
use Rattle.spec_records.specs.OnRecords.{body_in}
use Rattle.spec_records.specs.Agreement.{sixteen-fits}
use Rattle.spec_records.specs.FormLaws.{sound}
use Rattle.spec_unfold.specs.Moving.{is_long, has_long}
use Rattle.spec_unfold.specs.MovingMeans.{HasLongBody}
use Rattle.spec_unfold.proofs.RuleRecords.{body-length, keep-in, in-keep}
use Rattle.spec_unfold.specs.Chains.{RuleOver, chains_in}
use Rattle.spec_unfold.specs.Unfolding.{keep, has_kind, byte_rule, byte_rules, spelled, wide_productions_of, above_byte, first_chain, too_many}
use Rattle.spec_unfold.specs.Calls.{long_fault, chain_fault}
use Rattle.spec_unfold.proofs.FreshLaws.{free-le, free-above, free-most, call-symbol}
use Rattle.spec_unfold.proofs.Needing.{first-low}
use Rattle.spec_unfold.specs.UnfoldingMeans.{InUse, taken_by, FirstAbove, ChainProcedure, NeedsMore}

-- ---- the first chain procedure

pub taken-spelled : (ps : List (RuleOver ℕ)) → taken_by (map spelled ps) ≡ chains_in ps
unfolding chains_in
taken-spelled [] = refl
taken-spelled (p ∷ ps) = ap₂ (λ (a b : ℕ). a - 2 + b) (length-map p.body symbol_of) (taken-spelled ps)

pub first_above : (least : ℕ) (ps : List (RuleOver ℕ)) → FirstAbove least (map spelled ps) (first_chain least ps)
first_above least ps = record {
  above-use = λ x u. let t = map-in spelled u.0 ps u.1 in in_use x t.0 t.1 (subst (λ (p : Production). (p.head ≡ x) ⊎ In (nonterminal x) p.symbols) t.2 u.2);
  above-least = free-le above_byte least ps;
  no-higher = λ m h l. free-most above_byte m least ps l (λ p k. (h p.head (spelled p, in_map spelled p ps k, inl refl), λ s i. symbol m h p k s i (ltb s terminals) refl));
}
  where
    in_use : (x : ℕ) (p : RuleOver ℕ) → In p ps → (p.head ≡ x) ⊎ In (nonterminal x) (map symbol_of p.body) → x < first_chain least ps
    in_use x p h (inl e) = let z = (free-above above_byte least ps p h).0 in omega arith
    in_use x p h (inr k) =
        let b = map-in symbol_of (nonterminal x) p.body k in
        let z = (free-above above_byte least ps p h).1 b.0 b.1 in
        let y = call-symbol b.0 x b.2 in omega arith

    symbol : (m : ℕ) → ((x : ℕ) → InUse (map spelled ps) x → x < m) → (p : RuleOver ℕ) → In p ps → (s : ℕ) → In s p.body → (b : Bool) → ltb s terminals ≡ b → above_byte s ≤ m
    symbol m h p k s i true e = rw e (omega arith)
    symbol m h p k s i false e =
        let is : symbol_of s ≡ nonterminal (s - terminals) = ap (λ (b : Bool). symbol_by b s) e in
        let z = h (s - terminals) (spelled p, in_map spelled p ps k, inr (subst (λ (x : Symbol). In x (map symbol_of p.body)) is (in_map symbol_of s p.body i))) in
        rw e (let y : suc (s - terminals) ≤ m = omega arith in y)

-- there is one such number
first_one : (least : ℕ) (ps : List Production) (m n : ℕ) → FirstAbove least ps m → FirstAbove least ps n → m ≡ n
first_one least ps m n a b =
    let z = a.no-higher n b.above-use b.above-least in
    let y = b.no-higher m a.above-use a.above-least in omega arith

-- the number of a test is said only where it holds
held : (b : Bool) (k : ℕ) → cond b (suc k) 0 ≡ suc k → b ≡ true
held true k e = refl
held false k e = absurd (let z : ⊥ = omega arith in z)

-- ---- 17

pub long-exactly : (bs : List ℕ) → (fault_in sixteen bs).number ≡ 0 → (long_fault bs ≡ 17) ↔ HasLongBody (wide_productions_of bs)
unfolding long_fault has_long wide_productions_of
long-exactly bs v = (λ e. there (held (has_long bs) 16 e), λ h. rw (back h))
  where
    size : (r : List ℕ) → In r (records_of 16 bs) → byte r 0 ≡ rule_kind → length (spelled (byte_rule r)).symbols ≡ byte r 2
    size r h k = length-map (body_in r) symbol_of ∙ body-length 13 12 (omega arith) r (records-wide 16 (omega arith) bs r h) ((sound sixteen sixteen-fits bs v).records.alone r h) k

    there : has_long bs ≡ true → HasLongBody (map spelled (byte_rules (records_of 16 bs)))
    there e =
        let t = any_of is_long (records_of 16 bs) e in
        let r = t.0 in
        let k = and-fst (eqb (byte r 0) rule_kind) (ltb 2 (byte r 2)) t.2 in
        let n = ltb-true 2 (byte r 2) (and-snd (eqb (byte r 0) rule_kind) (ltb 2 (byte r 2)) t.2) in
        let z = size r t.1 (eqb-true (byte r 0) rule_kind k) in
        (spelled (byte_rule r), in_map spelled (byte_rule r) (byte_rules (records_of 16 bs)) (in_map byte_rule r (keep (has_kind rule_kind) (records_of 16 bs)) (in-keep (has_kind rule_kind) (records_of 16 bs) r t.1 k)), omega arith)

    back : HasLongBody (map spelled (byte_rules (records_of 16 bs))) → has_long bs ≡ true
    back u =
        let p = map-in spelled u.0 (byte_rules (records_of 16 bs)) u.1 in
        let r = map-in byte_rule p.0 (keep (has_kind rule_kind) (records_of 16 bs)) p.1 in
        let k = keep-in (has_kind rule_kind) (records_of 16 bs) r.0 r.1 in
        let z = size r.0 k.0 (eqb-true (byte r.0 0) rule_kind k.1) in
        let y = ap (λ (q : Production). length q.symbols) (p.2 ∙ ap spelled r.2) in
        any_at is_long r.0 (records_of 16 bs) k.0 (and_intro (eqb (byte r.0 0) rule_kind) (ltb 2 (byte r.0 2)) k.1 (lt-ltb 2 (byte r.0 2) (omega (arith, u.2))))

-- ---- 18

pub needs-exactly : (least : ℕ) (bs : List ℕ) → least ≤ nonterminals → (fault_in sixteen bs).number ≡ 0 → (chain_fault least bs ≡ 18) ↔ NeedsMore least (wide_productions_of bs)
unfolding chain_fault too_many wide_productions_of
needs-exactly least bs low v = (λ e. there (held (too_many least ps) 17 e), back)
  where
    ps : List (RuleOver ℕ)
    ps = byte_rules (records_of 16 bs)

    there : too_many least ps ≡ true → NeedsMore least (map spelled ps)
    there e = (first_chain least ps, first_above least ps, by (ltb nonterminals (first_chain least ps + chains_in ps)) (ltb-true nonterminals (first_chain least ps + chains_in ps)) e)
      where
        by : (b : Bool) → (b ≡ true → nonterminals < first_chain least ps + chains_in ps) → (b || ltb rule_limit (length ps + chains_in ps)) ≡ true
            → ((x : ℕ) × ChainProcedure (first_chain least ps) (map spelled ps) x × (nonterminals ≤ x)) ⊎ (rule_limit < length (map spelled ps) + taken_by (map spelled ps))
        by true h e =
            let z = h refl in
            let f = first-low least bs low v in
            let t = taken-spelled ps in
            inl (nonterminals, (omega arith, omega arith), omega arith)
        by false h e =
            let z = ltb-true rule_limit (length ps + chains_in ps) e in
            let t = taken-spelled ps in
            let l = length-map ps spelled in
            inr (omega arith)

    back : NeedsMore least (map spelled ps) → ◌≡◌ {A = ℕ} (cond (too_many least ps) 18 0) 18
    back u = rw (by u.2) refl
      where
        same : u.0 ≡ first_chain least ps
        same = first_one least (map spelled ps) u.0 (first_chain least ps) u.1 (first_above least ps)

        by : ((x : ℕ) × ChainProcedure u.0 (map spelled ps) x × (nonterminals ≤ x)) ⊎ (rule_limit < length (map spelled ps) + taken_by (map spelled ps)) → too_many least ps ≡ true
        by (inl c) =
            let t = taken-spelled ps in
            let z = same in
            or_left (ltb nonterminals (first_chain least ps + chains_in ps)) (ltb rule_limit (length ps + chains_in ps)) (lt-ltb nonterminals (first_chain least ps + chains_in ps) (omega (arith, c.1.1, c.2)))
        by (inr h) =
            let t = taken-spelled ps in
            let l = length-map ps spelled in
            or_right (ltb nonterminals (first_chain least ps + chains_in ps)) (ltb rule_limit (length ps + chains_in ps)) (lt-ltb rule_limit (length ps + chains_in ps) (omega arith))

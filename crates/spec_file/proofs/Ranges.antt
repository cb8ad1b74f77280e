-- The bytes that the records of a file that is not refused use are in their ranges (document 01, number 4). Theorems for a caller of the views;
-- nothing here cites the last two. Assumes nothing.
use Rattle.std.specs.Prelude.{◌≡◌, Bool, true, false, ◌&&◌, ◌||◌, List, ℕ, ◌+◌, ◌≤◌, ◌<◌, eqb, leb, ltb}
use Rattle.std.proofs.Common.{sym, ap, ◌∙◌, subst, arith, lt-ltb, ltb-false, leb-false, eq-eqb}
use Rattle.spec_basics.specs.Tests.{or-neither}
use Rattle.relation.specs.Relation.{states}
use Rattle.spec_file.specs.declared.Rule.{Rule}
use Rattle.spec_file.specs.declared.Transition.{Transition}
use Rattle.spec_file.specs.Limits.{terminals, nonterminals, symbol_bytes}
use Rattle.spec_file.specs.Records.{record_count, record_at, byte, rule_kind, transition_kind, final_kind}
use Rattle.spec_file.specs.Refusals.{above_range, above_range_in, fault}
use Rattle.spec_file.specs.Entries.{rule_count, transition_count, final_count, rule_in, transition_in, whole_record, rule_at, transition_at, final_at}
use Rattle.spec_file.proofs.Valid.{valid-passes, transition-range, final-range}
use Rattle.spec_file.proofs.Sorted.{counts-le, rule-kind, transition-kind, final-kind}
use Rattle.spec_file.proofs.EntryLaws.{whole}

pub record RuleInRange (r : Rule) : Type 0 where
  pub head : r.head < nonterminals
  pub size : r.size ≤ 2
  pub first : 0 < r.size → r.first < symbol_bytes
  pub second : 1 < r.size → r.second < symbol_bytes

pub record TransitionInRange (t : Transition) : Type 0 where
  pub source : t.source < states
  pub letter : t.letter < terminals
  pub target : t.target < states

-- a test that another one guards
guarded : (a b : Bool) → a ≡ true → (a && b) ≡ false → b ≡ false
guarded a b p q = sym (ap (λ (x : Bool). x && b) p) ∙ q

rule-range : (r : List ℕ) → above_range r ≡ false → byte r 0 ≡ rule_kind → RuleInRange (rule_in r)
unfolding above_range_in
rule-range r a k =
    let n = byte r 2 in
    let H = leb nonterminals (byte r 1) in
    let N = ltb 2 n in
    let used = guarded (eqb (byte r 0) rule_kind) _ (eq-eqb (byte r 0) rule_kind k) (or-neither _ _ a).0 in
    let both = or-neither (H || N) _ used in
    let front = or-neither H N both.0 in
    let symbols = or-neither _ _ both.1 in record {
      head = leb-false nonterminals (byte r 1) front.0;
      size = ltb-false 2 n front.1;
      first = λ h. leb-false symbol_bytes (byte r 3) (guarded (ltb 0 n) _ (lt-ltb 0 n h) symbols.0);
      second = λ h. leb-false symbol_bytes (byte r 4) (guarded (ltb 1 n) _ (lt-ltb 1 n h) symbols.1);
    }

module _ (bs : List ℕ) (v : (fault bs).number ≡ 0) where
  -- what check 4 shows of a record of some kind
  read : (P : List ℕ → Type 0) (k i : ℕ) → ((r : List ℕ) → above_range r ≡ false → byte r 0 ≡ k → P r) → i < record_count bs → byte (record_at bs i) 0 ≡ k → P (whole_record bs i)
  read P k i f h e = subst P (whole bs i h) (f (record_at bs i) (valid-passes bs v i h).range e)

  pub rule-in-range : (i : ℕ) → i < rule_count bs → RuleInRange (rule_at bs i)
  rule-in-range i h = read (λ r. RuleInRange (rule_in r)) rule_kind i rule-range (omega (arith, counts-le bs (record_count bs))) (rule-kind bs v i h)

  -- the transitions stand after the rules
  pub transition-in-range : (i : ℕ) → i < transition_count bs → TransitionInRange (transition_at bs (rule_count bs + i))
  transition-in-range i h =
      read (λ r. TransitionInRange (transition_in r)) transition_kind (rule_count bs + i) (λ r a k. let t = transition-range r a k in record { source = t.0; letter = t.1; target = t.2 })
      (omega (arith, counts-le bs (record_count bs))) (transition-kind bs v i h)

  -- and the final states after both
  pub final-in-range : (i : ℕ) → i < final_count bs → final_at bs (rule_count bs + transition_count bs + i) < states
  final-in-range i h =
      read (λ r. byte r 1 < states) final_kind (rule_count bs + transition_count bs + i) final-range (omega (arith, counts-le bs (record_count bs))) (final-kind bs v i h)

-- The procedures of a 16-byte file that is not refused are below 64, so the first chain procedure is 64 at most. Assumes nothing.
use Rattle.std.specs.Prelude.{◌≡◌, Bool, true, false, cond, List, ℕ, suc, ◌-◌, ◌≤◌, ◌<◌, ltb}
use Rattle.std.proofs.Common.{ap, subst, arith, eqb-true}
use Rattle.spec_basics.specs.Elements.{In}
use Rattle.spec_basics.specs.Lists.{map-in}
use Rattle.spec_file.specs.Limits.{nonterminals, symbol_bytes}
use Rattle.spec_file.specs.Records.{byte, rule_kind}
use Rattle.spec_records.specs.Blocks.{records_of}
use Rattle.spec_file.specs.Forms.{sixteen}
use Rattle.spec_file.specs.Refusals.{fault_in}
use Rattle.spec_records.specs.Agreement.{sixteen-fits}
use Rattle.spec_records.specs.FormLaws.{sound}
use Rattle.spec_records.specs.RecordLaws.{rule-bytes, symbol_low}
use Rattle.spec_unfold.specs.Chains.{RuleOver}
use Rattle.spec_unfold.specs.Unfolding.{keep, has_kind, byte_rule, byte_rules, above_byte, first_chain}
use Rattle.spec_unfold.proofs.FreshLaws.{free-most}
use Rattle.spec_unfold.proofs.RuleRecords.{keep-in}

module _ (least : ℕ) (bs : List ℕ) (l : least ≤ nonterminals) (v : (fault_in sixteen bs).number ≡ 0) where
  abbrev ps : List (RuleOver ℕ)
  ps = byte_rules (records_of 16 bs)

  above_most : (s : ℕ) → s < symbol_bytes → above_byte s ≤ nonterminals
  above_most s h = by (ltb s 128)
    where
      by : (b : Bool) → cond b 0 (suc (s - 128)) ≤ nonterminals
      by true = omega arith
      by false = omega arith

  pub first-low : first_chain least ps ≤ nonterminals
  first-low = free-most above_byte nonterminals least ps l low
    where
      low : (p : RuleOver ℕ) → In p ps → (p.head < nonterminals) × ((s : ℕ) → In s p.body → above_byte s ≤ nonterminals)
      low p m =
          let t = map-in byte_rule p (keep (has_kind rule_kind) (records_of 16 bs)) m in
          let k = keep-in (has_kind rule_kind) (records_of 16 bs) t.0 t.1 in
          let a = (sound sixteen sixteen-fits bs v).records.alone t.0 k.0 in
          let b = rule-bytes 12 t.0 a.range (eqb-true (byte t.0 0) rule_kind k.1) in (
            let e = ap (λ (r : RuleOver ℕ). r.head) t.2 in let h = b.head in omega arith,
            λ s i. above_most s (symbol_low 12 t.0 b s (subst (λ (r : RuleOver ℕ). In s r.body) t.2 i)),
          )

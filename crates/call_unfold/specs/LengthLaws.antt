-- The length of what a file unfolds to, whatever the file: a record for each of its records, and one for each chain procedure. Assumes
-- nothing.
use Rattle.std.specs.Prelude.{◌≡◌, not, ℕ, suc, ◌+◌, ◌*◌, ◌/◌, ◌≤◌, length}
use Rattle.std.proofs.Common.{ap, ◌∙◌, inl, inr, ⊎_elim, length-take-le}
use mathlib.Core.List.{List, [], ◌∷◌, map}
use native.Mathlib.Omega.{arith}
use Rattle.std.proofs.Math.ListN.{length-append, length-map}
use Rattle.spec_basics.specs.Elements.{In}
use Rattle.spec_basics.specs.Lists.{map-in, in-cases}
use Rattle.spec_file.specs.Records.{rule_kind}
use Rattle.spec_records.specs.Blocks.{records_of}
use Rattle.spec_records.specs.BlockLaws.{Wide, length-bytes, length-blocks, records-wide}
use Rattle.spec_records.specs.OnRecords.{precedes}
use Rattle.spec_unfold.specs.Chains.{RuleOver, chains_for, chains_in, chain, unfolded}
use Rattle.spec_unfold.proofs.ChainFacts.{length-unfolded}
use Rattle.spec_unfold.specs.Moving.{narrower}
use Rattle.spec_unfold.proofs.RuleRecords.{rule-length, keep-in}
use Rattle.spec_unfold.specs.Sorting.{sort}
use Rattle.spec_unfold.proofs.SortingLaws.{sort-in, length-all}
use Rattle.spec_unfold.specs.Unfolding.{has_kind, byte_rules, call_byte, first_chain, rule_bytes, chained_rules, unfolded_records, unfolded_file}
use Rattle.call_unfold.specs.KeptLaws.{others, both-kinds}

-- ---- every rule of a chain has at most two symbols

chain-two : (x n : ℕ) (body : List ℕ) (q : RuleOver ℕ) → In q (chain call_byte x n body) → length q.body ≤ 2
unfolding chain
chain-two x n [] q (inl e) = rw e (omega arith)
chain-two x n [] q (inr h) = absurd h
chain-two x n (s ∷ []) q (inl e) = rw e (omega arith)
chain-two x n (s ∷ []) q (inr h) = absurd h
chain-two x n (s ∷ t ∷ []) q (inl e) = rw e (omega arith)
chain-two x n (s ∷ t ∷ []) q (inr h) = absurd h
chain-two x n (s ∷ t ∷ u ∷ rest) q (inl e) = rw e (omega arith)
chain-two x n (s ∷ t ∷ u ∷ rest) q (inr h) = chain-two n (suc n) (t ∷ u ∷ rest) q h

unfolded-two : (n : ℕ) (ps : List (RuleOver ℕ)) (q : RuleOver ℕ) → In q (unfolded call_byte n ps) → length q.body ≤ 2
unfolding unfolded
unfolded-two n [] q h = absurd h
unfolded-two n (p ∷ ps) q h =
    ⊎_elim (chain-two p.head n p.body q) (unfolded-two (n + chains_for p) ps q) (in-cases q (chain call_byte p.head n p.body) (unfolded call_byte (n + chains_for p) ps) h)

-- ---- the records of the result

module _ (least : ℕ) (bs : List ℕ) where
  abbrev rs : List (List ℕ)
  rs = records_of 16 bs

  abbrev us : List (RuleOver ℕ)
  us = chained_rules least (byte_rules rs)

  wide : Wide 8 (unfolded_records least rs)
  wide r h = ⊎_elim rule other (in-cases r (sort precedes (map rule_bytes us)) (map narrower (others rs)) h)
    where
      rule : In r (sort precedes (map rule_bytes us)) → length r ≡ 8
      rule m =
          let t = map-in rule_bytes r us (sort-in precedes r (map rule_bytes us) m) in
          ap length t.2 ∙ rule-length t.0 (unfolded-two (first_chain least (byte_rules rs)) (byte_rules rs) t.0 t.1)

      other : In r (map narrower (others rs)) → length r ≡ 8
      other m =
          let t = map-in narrower r (others rs) m in
          let w = records-wide 16 (omega arith) bs t.0 (keep-in (λ x. not (has_kind rule_kind x)) rs t.0 t.1).0 in
          ap length t.2 ∙ length-take-le 8 t.0 (omega arith)

  pub unfolded-length : length (unfolded_file least bs) ≡ (length bs / 16 + chains_in (byte_rules rs)) * 8
  unfolding unfolded_file
  unfolded-length =
      let a = length-bytes 8 (unfolded_records least rs) wide in
      let b = length-append (sort precedes (map rule_bytes us)) (map narrower (others rs)) in
      let c = length-all precedes [] (map rule_bytes us) in
      let d = length-map us rule_bytes in
      let e = length-unfolded call_byte (first_chain least (byte_rules rs)) (byte_rules rs) in
      let f = length-map (others rs) narrower in
      let g = both-kinds rs in
      let h = length-blocks 16 (length bs / 16) bs in
      omega arith

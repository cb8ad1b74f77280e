-- The records from the keys in order are the rules in order, and with the other records the unfolded file. Assumes nothing.
use Rattle.std.specs.Prelude.{◌≡◌, refl, false, ℕ, zero, suc, ◌+◌, ◌-◌, ◌*◌, ◌/◌, ◌≤◌, ◌<◌, ltb, length, drop, get_or, replicate}
use Rattle.std.proofs.Math.Path.{sym, ap₂}
use Rattle.std.proofs.Common.{ap, ◌∙◌, subst, inl, inr, ⊎_elim, arith, take_all}
use mathlib.Core.List.{List, [], ◌∷◌, ◌++◌, map, map-map}
use Rattle.std.proofs.lemmas.List.{length-map}
use borrow.Author.Tests.{ltb-true}
use Rattle.spec_basics.specs.Elements.{In}
use Rattle.spec_basics.specs.Lists.{map-in, in-cases}
use Rattle.spec_basics.specs.Tests.{and-fst}
use Rattle.spec_file.specs.Forms.{sixteen}
use Rattle.spec_file.specs.Limits.{nonterminals, symbol_bytes}
use Rattle.spec_file.specs.Records.{byte}
use Rattle.spec_file.specs.Refusals.{fault_in, kind_known}
use Rattle.spec_records.specs.Agreement.{sixteen-fits}
use Rattle.spec_records.specs.Blocks.{bytes_of, records_of}
use Rattle.spec_records.specs.BlockLaws.{bytes-append, length-blocks}
use Rattle.spec_records.specs.OnRecords.{precedes}
use Rattle.spec_records.specs.FormLaws.{SoundFile, sound}
use Rattle.spec_unfold.specs.Chains.{RuleOver, chains_in, unfolded}
use Rattle.spec_unfold.proofs.ChainFacts.{Small, length-unfolded}
use Rattle.spec_unfold.specs.Moving.{narrower, narrowed}
use Rattle.spec_unfold.proofs.OrderLaws.{rising-ordered}
use Rattle.spec_unfold.proofs.RuleRecords.{rule-length}
use Rattle.spec_unfold.specs.Sorting.{sort}
use Rattle.spec_unfold.proofs.SortingLaws.{sort-in, length-all}
use Rattle.spec_unfold.specs.Unfolding.{byte_rules, call_byte, rule_bytes, chained_rules, unfolded_file, too_many}
use Rattle.spec_unfold.proofs.UnfoldingLaws.{wide, alone, small}
use Rattle.file_checks.specs.BigEndian.{big_endian}
use Rattle.file_checks.specs.BigEndianLaws.{BytesBelow}
use Rattle.unfold_order.specs.Keys.{key, digits_of}
use Rattle.unfold_order.specs.KeyLaws.{digits-bytes, number-order, sort-map}
use Rattle.call_unfold.specs.KeptLaws.{others, both-kinds, others-last, records-drop}

-- ---- the bytes of a rule

below_all : (n : ℕ) (l : List ℕ) → 0 < n → ((x : ℕ) → In x l → x < n) → (i : ℕ) → get_or l i 0 < n
below_all n [] pos h i = pos
below_all n (x ∷ l) pos h zero = h x (inl refl)
below_all n (x ∷ l) pos h (suc i) = below_all n l pos (λ y m. h y (inr m)) i

in-zeros : (n x : ℕ) → In x (replicate n 0) → x ≡ 0
in-zeros zero x m = absurd m
in-zeros (suc n) x (inl e) = e
in-zeros (suc n) x (inr m) = in-zeros n x m

rule-below : (p : RuleOver ℕ) → Small call_byte nonterminals (λ (b : ℕ). b < symbol_bytes) p → BytesBelow 256 (rule_bytes p)
rule-below p s = below_all 256 (rule_bytes p) (omega arith) each
  where
    each : (x : ℕ) → In x (rule_bytes p) → x < 256
    each x (inl e) = omega arith
    each x (inr (inl e)) = let z = s.head in omega arith
    each x (inr (inr (inl e))) = let z = s.size in omega arith
    each x (inr (inr (inr m))) = ⊎_elim (λ k. let z = s.symbols x k in omega arith) (λ k. let z = in-zeros (5 - length p.body) x k in omega arith) (in-cases x p.body (replicate (5 - length p.body) 0) m)

-- a record of eight bytes
abbrev Bytes8 : List ℕ → Type 0
Bytes8 r = (length r ≡ 8) × BytesBelow 256 r

number-back : (r : List ℕ) → Bytes8 r → digits_of 256 8 (big_endian 256 8 r) ≡ r
number-back r b = digits-bytes 256 8 r (omega arith) b.1 (omega (arith, b.0)) ∙ take_all 8 r (omega (arith, b.0))

map_back : (rs : List (List ℕ)) → ((r : List ℕ) → In r rs → Bytes8 r) → map (digits_of 256 8) (map (big_endian 256 8) rs) ≡ rs
map_back [] h = refl
map_back (r ∷ rs) h = ap₂ (λ (x : List ℕ) (xs : List (List ℕ)). x ∷ xs) (number-back r (h r (inl refl))) (map_back rs (λ s m. h s (inr m)))

-- how many rules
pub keys_length : (n : ℕ) (ps : List (RuleOver ℕ)) → length (sort ltb (map key (unfolded call_byte n ps))) ≡ length ps + chains_in ps
keys_length n ps = length-all ltb [] (map key (unfolded call_byte n ps)) ∙ (let a = length-map (unfolded call_byte n ps) key in let b = length-unfolded call_byte n ps in omega arith)

-- at most as many as records
pub rules-few : (bs : List ℕ) → length (byte_rules (records_of 16 bs)) ≤ length bs / 16
rules-few bs = let a = both-kinds (records_of 16 bs) in let c = length-blocks 16 (length bs / 16) bs in omega arith

-- ---- the unfolded file

module _ (least : ℕ) (bs : List ℕ) (v : (fault_in sixteen bs).number ≡ 0) (fits : too_many least (byte_rules (records_of 16 bs)) ≡ false) where
  abbrev rs : List (List ℕ)
  rs = records_of 16 bs

  abbrev ps : List (RuleOver ℕ)
  ps = byte_rules rs

  abbrev us : List (RuleOver ℕ)
  us = chained_rules least ps

  ruled : (r : List ℕ) → In r (map rule_bytes us) → Bytes8 r
  ruled r m = let t = map-in rule_bytes r us m in let s = small least bs v fits t.0 t.1 in subst Bytes8 (sym t.2) (rule-length t.0 s.size, rule-below t.0 s)

  -- the records in order, from the keys in order
  sorted-keys : map (digits_of 256 8) (sort ltb (map key us)) ≡ sort precedes (map rule_bytes us)
  sorted-keys =
      ap (map (digits_of 256 8)) (ap (sort ltb) (sym (map-map (big_endian 256 8) rule_bytes us))
      ∙ sym (sort-map Bytes8 precedes (big_endian 256 8) (λ x y p q. number-order x y p.0 q.0 p.1 q.1) (map rule_bytes us) ruled))
      ∙ map_back (sort precedes (map rule_bytes us)) (λ r m. ruled r (sort-in precedes r (map rule_bytes us) m))

  passed : SoundFile sixteen sixteen-fits bs
  passed = sound sixteen sixteen-fits bs v

  kinds : (r : List ℕ) → In r rs → 0 < byte r 0
  unfolding kind_known
  kinds r m = ltb-true 0 (byte r 0) (and-fst (ltb 0 (byte r 0)) (ltb (byte r 0) 4) (alone least bs v fits r m).kind)

  tail : map narrower (others rs) ≡ map narrower (records_of 16 (drop (length ps * 16) bs))
  tail =
      ap (map narrower)
      (others-last rs kinds (rising-ordered rs (λ r m. let z = wide least bs v fits r m in omega arith) passed.records.rising) ∙ sym (records-drop (length ps) bs (rules-few bs)))

  pub result-bytes : bytes_of (map (digits_of 256 8) (sort ltb (map key us))) ++ narrowed (drop (length ps * 16) bs) ≡ unfolded_file least bs
  unfolding unfolded_file narrowed
  result-bytes =
      ap₂ (λ (a b : List (List ℕ)). bytes_of a ++ bytes_of b) sorted-keys (sym tail) ∙ sym (bytes-append (sort precedes (map rule_bytes us)) (map narrower (others rs)))

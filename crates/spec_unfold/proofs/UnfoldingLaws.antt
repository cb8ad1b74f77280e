-- The unfolded file passes the checks of a file of 8-byte records (document 02, C-17). Assumes nothing.
use Rattle.std.specs.Prelude.{◌≡◌, ◌⊎◌, true, false, not, List, [], ◌∷◌, ◌++◌, map, ℕ, ◌+◌, ◌≤◌, ◌<◌, ltb, length, replicate}
use Rattle.std.proofs.Common.{sym, ap, ◌∙◌, subst, ⊎_elim, arith, length-append, get_or-take}
use Rattle.std.proofs.lemmas.List.{length-map}
use borrow.Author.Tests.{eqb-true, eqb-false, ne_eqb, ltb-false, not-true}
use Rattle.spec_basics.specs.Tests.{or-neither}
use Rattle.spec_basics.specs.Elements.{In}
use Rattle.spec_basics.specs.Lists.{map-in, in-cases}
use Rattle.spec_file.specs.Limits.{record_limit, rule_limit, transition_limit, nonterminals, symbol_bytes}
use Rattle.spec_file.specs.Records.{byte, rule_kind, transition_kind, final_kind}
use Rattle.spec_file.specs.Refusals.{refuse, fault}
use Rattle.spec_records.specs.Blocks.{records_of}
use Rattle.spec_records.specs.BlockLaws.{Wide, records-wide, records-bytes}
use Rattle.spec_file.specs.Forms.{eight, sixteen}
use Rattle.spec_file.specs.Refusals.{fault_in}
use Rattle.spec_records.specs.OnRecords.{precedes}
use Rattle.spec_records.specs.FormLaws.{Alone, count_among, SoundFile, sound, records-file}
use Rattle.spec_records.specs.RecordLaws.{precedes-less, precedes-cancel, rule-bytes, symbol_low}
use Rattle.spec_records.specs.Agreement.{eight_fits, sixteen-fits}
use Rattle.spec_unfold.specs.Chains.{RuleOver, chains_in}
use Rattle.spec_unfold.proofs.ChainFacts.{length-unfolded, Small, all_small, all-distinct}
use Rattle.spec_unfold.specs.Sorting.{sort}
use Rattle.spec_unfold.proofs.SortingLaws.{Ordered, Distinct, sort-in, length-all, ordered-sort, ordered-append}
use Rattle.spec_unfold.proofs.OrderLaws.{strict, rising-ordered, ordered-rising, ordered-map}
use Rattle.spec_unfold.specs.Moving.{narrower}
use Rattle.spec_unfold.proofs.MovingLaws.{Narrows, narrows, length-narrower, count_map}
use Rattle.spec_unfold.specs.Unfolding.{keep, has_kind, byte_rule, byte_rules, call_byte, first_chain, rule_bytes, chained_rules, unfolded_records, unfolded_file, too_many}
use Rattle.spec_unfold.proofs.FreshLaws.{call-different, fresh-bytes}
use Rattle.spec_unfold.proofs.RuleRecords.{rule-back, rule-length, rule-alone, keep-in, keep-ordered, distinct-rules}
use Rattle.spec_unfold.proofs.FewFinals.{count-append, count-all, count_none, count-keep, other-kind, count-others, few-finals}

-- a function with a way back tells elements apart
distinct-through : {A B : Type 0} (f : A → B) (g : B → A) → ((x : A) → g (f x) ≡ x) → (xs : List A) → Distinct xs → Distinct (map f xs)
distinct-through f g h [] d = tt
distinct-through f g h (x ∷ xs) d = (λ y m e. let t = map-in f y xs m in d.0 t.0 t.1 (sym (h x) ∙ ap g (e ∙ t.2) ∙ h t.0), distinct-through f g h xs d.1)

-- the first bytes decide
first-precedes : (x y : List ℕ) → 0 < length x → 0 < length y → byte x 0 < byte y 0 → precedes x y ≡ true
first-precedes [] y a b h = absurd (let z : ⊥ = omega arith in z)
first-precedes (c ∷ x) [] a b h = absurd (let z : ⊥ = omega arith in z)
first-precedes (c ∷ x) (d ∷ y) a b h = precedes-less c d x y h

module _ (least : ℕ) (bs : List ℕ) (v : (fault_in sixteen bs).number ≡ 0) (fits : too_many least (byte_rules (records_of 16 bs)) ≡ false) where
  abbrev rs : List (List ℕ)
  rs = records_of 16 bs

  abbrev ps : List (RuleOver ℕ)
  ps = byte_rules rs

  abbrev us : List (RuleOver ℕ)
  us = chained_rules least ps

  new : SoundFile sixteen sixteen-fits bs
  new = sound sixteen sixteen-fits bs v

  pub wide : Wide 16 rs
  wide = records-wide 16 (omega arith) bs

  pub alone : (r : List ℕ) → In r rs → Alone 12 r
  alone = new.records.alone

  order : Ordered precedes rs
  order = rising-ordered rs (λ r h. let z = wide r h in omega arith) new.records.rising

  room : (first_chain least ps + chains_in ps ≤ nonterminals) × (length ps + chains_in ps ≤ rule_limit)
  unfolding too_many
  room =
      let p = or-neither (ltb nonterminals (first_chain least ps + chains_in ps)) (ltb rule_limit (length ps + chains_in ps)) fits in
      (ltb-false nonterminals (first_chain least ps + chains_in ps) p.0, ltb-false rule_limit (length ps + chains_in ps) p.1)

  -- ---- the rules

  -- a rule of the file, and its record
  rule-record : (p : RuleOver ℕ) → In p ps → (r : List ℕ) × In r rs × (byte r 0 ≡ rule_kind) × (p ≡ byte_rule r)
  rule-record p h =
      let t = map-in byte_rule p (keep (has_kind rule_kind) rs) h in
      let k = keep-in (has_kind rule_kind) rs t.0 t.1 in
      (t.0, k.0, eqb-true (byte t.0 0) rule_kind k.1, t.2)

  pub small : (q : RuleOver ℕ) → In q us → Small call_byte nonterminals (λ (b : ℕ). b < symbol_bytes) q
  small =
      all_small call_byte nonterminals (λ (b : ℕ). b < symbol_bytes) (λ c h. omega arith) (first_chain least ps) ps room.0
      (λ p h. let t = rule-record p h in let b = (rule-bytes 12 t.0 (alone t.0 t.1).range t.2).head in let e = ap (λ (r : RuleOver ℕ). r.head) t.3 in omega arith)
      (λ p h s m. let t = rule-record p h in symbol_low 12 t.0 (rule-bytes 12 t.0 (alone t.0 t.1).range t.2) s (subst (λ (r : RuleOver ℕ). In s r.body) t.3 m))

  abbrev ruled : List (List ℕ)
  ruled = map rule_bytes us

  ruled-length : (r : List ℕ) → In r ruled → length r ≡ 8
  ruled-length r h = let t = map-in rule_bytes r us h in ap length t.2 ∙ rule-length t.0 (small t.0 t.1).size

  ruled-alone : (r : List ℕ) → In r ruled → Alone 2 r
  ruled-alone r h = let t = map-in rule_bytes r us h in subst (Alone 2) (sym t.2) (rule-alone t.0 (small t.0 t.1))

  ruled-kind : (r : List ℕ) → In r ruled → byte r 0 ≡ rule_kind
  ruled-kind r h = let t = map-in rule_bytes r us h in ap (λ (x : List ℕ). byte x 0) t.2

  ruled-distinct : Distinct ruled
  ruled-distinct =
      distinct-through rule_bytes byte_rule rule-back us
      (all-distinct call_byte call-different (first_chain least ps) (first_chain least ps) ps (fresh-bytes least ps) (omega arith) (distinct-rules rs wide alone order))

  abbrev sorted : List (List ℕ)
  sorted = sort precedes ruled

  sorted-order : Ordered precedes sorted
  sorted-order = ordered-sort (λ (r : List ℕ). length r ≡ 8) precedes (strict 8) ruled ruled-length ruled-distinct

  sorted-few : length sorted ≤ rule_limit
  sorted-few = let a = length-all precedes [] ruled in let b = length-map us rule_bytes in let c = length-unfolded call_byte (first_chain least ps) ps in let d = room.1 in omega arith

  -- ---- the other records

  abbrev others : List (List ℕ)
  others = keep (λ r. not (has_kind rule_kind r)) rs

  no-rule : (r : List ℕ) → In r others → In r rs × (byte r 0 ≡ rule_kind → ⊥)
  no-rule r h = let k = keep-in (λ r. not (has_kind rule_kind r)) rs r h in (k.0, eqb-false (byte r 0) rule_kind (not-true (has_kind rule_kind r) k.1))

  other : (r : List ℕ) → In r others → Narrows r
  other r h = let k = no-rule r h in narrows r (wide r k.0) (λ e. absurd (k.1 e)) (alone r k.0)

  abbrev narrow : List (List ℕ)
  narrow = map narrower others

  narrow-length : (r : List ℕ) → In r narrow → length r ≡ 8
  narrow-length r h = let t = map-in narrower r others h in ap length t.2 ∙ length-narrower t.0 (wide t.0 (no-rule t.0 t.1).0)

  narrow-alone : (r : List ℕ) → In r narrow → Alone 2 r
  narrow-alone r h = let t = map-in narrower r others h in subst (Alone 2) (sym t.2) (other t.0 t.1).alone

  same_kind : (r : List ℕ) → In r others → byte (narrower r) 0 ≡ byte r 0
  same_kind r h = get_or-take 8 r 0 0 (omega arith)

  pub narrow-kind : (r : List ℕ) → In r narrow → (byte r 0 ≡ transition_kind) ⊎ (byte r 0 ≡ final_kind)
  narrow-kind r h =
      let t = map-in narrower r others h in
      other-kind r (narrow-alone r h).kind (λ e. (no-rule t.0 t.1).1 (sym (same_kind t.0 t.1) ∙ sym (ap (λ (x : List ℕ). byte x 0) t.2) ∙ e))

  narrow-order : Ordered precedes narrow
  narrow-order =
      ordered-map narrower others
      (λ r t p q h. precedes-cancel (narrower r) (narrower t) (replicate 8 0) (length-narrower r (wide r (no-rule r p).0) ∙ sym (length-narrower t (wide t (no-rule t q).0))) (rw ((other r p).back, (other t q).back) h))
      (keep-ordered (λ r. not (has_kind rule_kind r)) rs order)

  narrow-transitions : count_among transition_kind narrow ≤ transition_limit
  narrow-transitions =
      let a = count_map transition_kind narrower others same_kind in
      let b = count-keep transition_kind (λ r. not (has_kind rule_kind r)) rs (λ r e. ap not (ne_eqb (byte r 0) rule_kind (λ f. let z : ⊥ = omega arith in z))) in
      let c = new.records.few-transitions in omega arith

  -- ---- all of them

  all-length : Wide 8 (sorted ++ narrow)
  all-length r h = ⊎_elim (λ k. ruled-length r (sort-in precedes r ruled k)) (λ k. narrow-length r k) (in-cases r sorted narrow h)

  all-alone : (r : List ℕ) → In r (sorted ++ narrow) → Alone 2 r
  all-alone r h = ⊎_elim (λ k. ruled-alone r (sort-in precedes r ruled k)) (λ k. narrow-alone r k) (in-cases r sorted narrow h)

  all-order : Ordered precedes (sorted ++ narrow)
  all-order =
      ordered-append precedes sorted narrow sorted-order narrow-order
      (λ x y h k. let m = sort-in precedes x ruled h in let a = ruled-length x m in let b = narrow-length y k in let c = ruled-kind x m in
      first-precedes x y (omega arith) (omega arith) (⊎_elim (λ e. omega arith) (λ e. omega arith) (narrow-kind y k)))

  pub sorted-kind : (r : List ℕ) → In r sorted → byte r 0 ≡ rule_kind
  sorted-kind r h = ruled-kind r (sort-in precedes r ruled h)

  all-rules : 0 + count_among rule_kind (sorted ++ narrow) ≤ rule_limit
  all-rules =
      let a = count-append rule_kind sorted narrow in
      let b = count-all rule_kind sorted sorted-kind in
      let c = count_none rule_kind narrow (λ x h e. ⊎_elim (λ f. let z : ⊥ = omega arith in z) (λ f. let z : ⊥ = omega arith in z) (narrow-kind x h)) in
      let d = sorted-few in omega arith

  all-transitions : 0 + count_among transition_kind (sorted ++ narrow) ≤ transition_limit
  all-transitions =
      let a = count-append transition_kind sorted narrow in
      let b = count_none transition_kind sorted (λ x h e. let f = sorted-kind x h in let z : ⊥ = omega arith in z) in
      let d = narrow-transitions in omega arith

  all-few : length (sorted ++ narrow) ≤ record_limit
  all-few =
      let a = length-append sorted narrow in
      let b = sorted-few in
      let c = count-others narrow narrow-kind in
      let d = narrow-transitions in
      let e = few-finals narrow narrow-length narrow-alone narrow-order in omega arith

  -- the unfolded file is not refused
  pub unfolded-passes : fault (unfolded_file least bs) ≡ refuse 0 0
  unfolding unfolded_file
  unfolded-passes =
      records-file eight eight_fits (sorted ++ narrow) all-length all-few
      (record { alone = all-alone; rising = ordered-rising (sorted ++ narrow) all-order; few-rules = all-rules; few-transitions = all-transitions })

  -- its records
  pub unfolded-records : records_of 8 (unfolded_file least bs) ≡ unfolded_records least (records_of 16 bs)
  unfolding unfolded_file
  unfolded-records = records-bytes 8 (omega arith) (sorted ++ narrow) all-length

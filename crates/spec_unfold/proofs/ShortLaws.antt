-- A 16-byte file without a long body unfolds to what moving it back gives, and 18 does not refuse it; so a file that was moved over unfolds
-- to itself, byte for byte (document 02, C-17). Assumes nothing.
use Rattle.std.specs.Prelude.{◌≡◌, Bool, true, false, cond, ℕ, ◌+◌, ◌≤◌, eqb, drop, replicate}
use Rattle.std.proofs.Math.Path.{refl, ap, ap₂}
use Rattle.std.proofs.Common.{sym, ◌∙◌, inl, inr, ⊎_elim, take_at}
use Rattle.std.proofs.Math.Bool.{not}
use mathlib.Core.List.{List, [], ◌∷◌, ◌++◌, map}
use native.Mathlib.Omega.{arith}
use Rattle.std.proofs.Math.ListN.{length, length-map, length-take}
use borrow.Author.Tests.{eqb-true, eqb-false, ne_eqb, le-ltb}
use Rattle.spec_basics.specs.Elements.{In}
use Rattle.spec_basics.specs.Lists.{map-in}
use Rattle.spec_file.specs.Limits.{rule_limit, nonterminals}
use Rattle.spec_file.specs.Forms.{sixteen}
use Rattle.spec_file.specs.Records.{byte, rule_kind}
use Rattle.spec_file.specs.Refusals.{Refusal, kind_known, fault, fault_in}
use Rattle.spec_file.specs.Views.{cons_if}
use Rattle.spec_records.specs.Blocks.{bytes_of, records_of}
use Rattle.spec_records.specs.BlockLaws.{bytes-records}
use Rattle.spec_records.specs.OnRecords.{precedes}
use Rattle.spec_records.specs.Agreement.{sixteen-fits}
use Rattle.spec_records.specs.FormLaws.{Alone, count_among, sound}
use Rattle.spec_records.specs.RecordLaws.{precedes-first, rule-bytes}
use Rattle.spec_unfold.specs.Chains.{chains_for, RuleOver, chains_in, chain, unfolded}
use Rattle.spec_unfold.specs.Sorting.{sort}
use Rattle.spec_unfold.proofs.SortingLaws.{Ordered, sort-ordered}
use Rattle.spec_unfold.proofs.OrderLaws.{strict, rising-ordered}
use Rattle.spec_unfold.specs.Moving.{wider, narrower, widened, narrowed, has_long}
use Rattle.spec_unfold.proofs.MovingLaws.{byte-same, body_same, map-fixed, old, wide, widened-records, few-symbols, narrowed-passes, moved-again}
use Rattle.spec_unfold.specs.Unfolding.{keep, has_kind, byte_rule, byte_rules, call_byte, first_chain, rule_bytes, chained_rules, unfolded_file, too_many}
use Rattle.spec_unfold.proofs.RuleRecords.{rule-again, keep-in, keep-ordered}
use Rattle.spec_unfold.proofs.FewFinals.{other-kind}
use Rattle.spec_unfold.proofs.ViewLaws.{keep_all, keep-none}
use Rattle.spec_unfold.proofs.Needing.{first-low}

-- ---- rules of at most two symbols take no chain procedure

abbrev Short : {S : Type 0} → List (RuleOver S) → Type 0
Short {S} ps = (p : RuleOver S) → In p ps → length p.body ≤ 2

chains-none : {S : Type 0} (ps : List (RuleOver S)) → Short ps → chains_in ps ≡ 0
unfolding chains_in
chains-none [] h = refl
chains-none (p ∷ ps) h = let z = h p (inl refl) in let ih = chains-none ps (λ q m. h q (inr m)) in omega arith

module _ {S : Type 0} (call : ℕ → S) where
  chain-short : (x n : ℕ) (body : List S) → length body ≤ 2 → chain call x n body ≡ record { head = x; body = body } ∷ []
  unfolding chain
  chain-short x n [] h = refl
  chain-short x n (s ∷ []) h = refl
  chain-short x n (s ∷ t ∷ []) h = refl
  chain-short x n (s ∷ t ∷ u ∷ rest) h = absurd (let z : ⊥ = omega arith in z)

  unfolded-short : (n : ℕ) (ps : List (RuleOver S)) → Short ps → unfolded call n ps ≡ ps
  unfolding unfolded
  unfolded-short n [] h = refl
  unfolded-short n (p ∷ ps) h =
      ap₂ (λ (a b : List (RuleOver S)). a ++ b) (chain-short p.head n p.body (h p (inl refl))) (unfolded-short (n + chains_for p) ps (λ q m. h q (inr m)))

-- ---- lists of records

pub count_kept : (k : ℕ) (rs : List (List ℕ)) → length (keep (has_kind k) rs) ≡ count_among k rs
count_kept k [] = refl
count_kept k (r ∷ rs) = by (has_kind k r) (count_kept k rs)
  where
    by : (b : Bool) → length (keep (has_kind k) rs) ≡ count_among k rs → length (cons_if b r (keep (has_kind k) rs)) ≡ cond b 1 0 + count_among k rs
    by true e = omega arith
    by false e = omega arith

keep-map : (f : List ℕ → Bool) (g : List ℕ → List ℕ) (rs : List (List ℕ)) → ((r : List ℕ) → In r rs → f (g r) ≡ f r) → keep f (map g rs) ≡ map g (keep f rs)
keep-map f g [] h = refl
keep-map f g (r ∷ rs) h = rw (h r (inl refl)) (ap (cons_if (f r) (g r)) (keep-map f g rs (λ s m. h s (inr m))) ∙ by (f r) (keep f rs))
  where
    by : (b : Bool) (l : List (List ℕ)) → cons_if b (g r) (map g l) ≡ map g (cons_if b r l)
    by true l = refl
    by false l = refl

map-through : {B : Type 0} (f : List ℕ → B) (g : List ℕ → List ℕ) (l : List (List ℕ)) → ((r : List ℕ) → In r l → f (g r) ≡ f r) → map f (map g l) ≡ map f l
map-through f g [] h = refl
map-through {B} f g (r ∷ l) h = ap₂ (λ (x : B) (xs : List B). x ∷ xs) (h r (inl refl)) (map-through f g l (λ s m. h s (inr m)))

-- in a file's order the rules come first
rules-first : (rs : List (List ℕ)) → ((r : List ℕ) → In r rs → kind_known r ≡ true) → Ordered precedes rs → keep (has_kind rule_kind) rs ++ keep (λ r. not (has_kind rule_kind r)) rs ≡ rs
rules-first [] known o = refl
rules-first (r ∷ rs) known o = by (has_kind rule_kind r) refl (rules-first rs (λ s m. known s (inr m)) o.1)
  where
    by : (b : Bool) → has_kind rule_kind r ≡ b → keep (has_kind rule_kind) rs ++ keep (λ r. not (has_kind rule_kind r)) rs ≡ rs
        → cons_if b r (keep (has_kind rule_kind) rs) ++ cons_if (not b) r (keep (λ r. not (has_kind rule_kind r)) rs) ≡ r ∷ rs
    by true e ih = ap (λ (l : List (List ℕ)). r ∷ l) ih
    by false e ih =
        let later : (s : List ℕ) → In s rs → has_kind rule_kind s ≡ false =
        λ s m. ne_eqb (byte s 0) rule_kind (λ k. let z = precedes-first r s (o.0 s m) in
        ⊎_elim (λ f. let y : ⊥ = omega arith in y) (λ f. let y : ⊥ = omega arith in y) (other-kind r (known r (inl refl)) (eqb-false (byte r 0) rule_kind e))) in
        ap₂ (λ (a b : List (List ℕ)). a ++ (r ∷ b)) (keep-none (has_kind rule_kind) rs later) (keep_all (λ s. not (has_kind rule_kind s)) rs (λ s m. ap not (later s m)))

-- ---- a file that was moved over

module _ (bs : List ℕ) (v : (fault bs).number ≡ 0) where
  abbrev rs : List (List ℕ)
  rs = records_of 8 bs

  pub alone : (r : List ℕ) → In r rs → Alone 2 r
  alone = (old bs v).records.alone

  order : Ordered precedes rs
  order = rising-ordered rs (λ r h. let z = wide bs v r h in omega arith) (old bs v).records.rising

  wider-kind : (r : List ℕ) → In r rs → has_kind rule_kind (wider r) ≡ has_kind rule_kind r
  wider-kind r h = ap (λ (b : ℕ). eqb b rule_kind) (byte-same r (replicate 8 0) (wide bs v r h) 0 (omega arith))

  -- a rule among the records
  pub rule-in : (r : List ℕ) → In r (keep (has_kind rule_kind) rs) → In r rs × (byte r 0 ≡ rule_kind)
  rule-in r h = let k = keep-in (has_kind rule_kind) rs r h in (k.0, eqb-true (byte r 0) rule_kind k.1)

  wider-rule : (r : List ℕ) → In r (keep (has_kind rule_kind) rs) → byte_rule (wider r) ≡ byte_rule r
  wider-rule r h =
      let k = rule-in r h in
      let l = wide bs v r k.0 in
      let n = (rule-bytes 2 r (alone r k.0).range k.1).size in
      λ i. record { head = byte-same r (replicate 8 0) l 1 (omega arith) i; body = body_same r (replicate 8 0) l (omega arith) i }

  -- the rules of the new file are those of the old one
  pub widened-rules : byte_rules (records_of 16 (widened bs)) ≡ byte_rules rs
  widened-rules =
      ap byte_rules (widened-records bs v)
      ∙ ap (map byte_rule) (keep-map (has_kind rule_kind) wider rs wider-kind)
      ∙ map-through byte_rule wider (keep (has_kind rule_kind) rs) wider-rule

  short-rules : Short (byte_rules rs)
  short-rules p h =
      let t = map-in byte_rule p (keep (has_kind rule_kind) rs) h in
      let k = rule-in t.0 t.1 in
      let n = (rule-bytes 2 t.0 (alone t.0 k.0).range k.1).size in
      let e = ap (λ (q : RuleOver ℕ). length q.body) t.2 ∙ length-take (byte t.0 2) (drop 3 t.0) in omega arith

  others-back : map narrower (keep (λ r. not (has_kind rule_kind r)) (map wider rs)) ≡ keep (λ r. not (has_kind rule_kind r)) rs
  others-back =
      ap (map narrower) (keep-map (λ r. not (has_kind rule_kind r)) wider rs (λ r h. ap not (wider-kind r h)))
      ∙ map-fixed narrower wider (keep (λ r. not (has_kind rule_kind r)) rs) (λ r h. take_at r (replicate 8 0) 8 (wide bs v r (keep-in (λ r. not (has_kind rule_kind r)) rs r h).0))

  rules-back : (least : ℕ) → sort precedes (map rule_bytes (chained_rules least (byte_rules rs))) ≡ keep (has_kind rule_kind) rs
  rules-back least =
      ap (λ (ps : List (RuleOver ℕ)). sort precedes (map rule_bytes ps)) (unfolded-short call_byte (first_chain least (byte_rules rs)) (byte_rules rs) short-rules)
      ∙ ap (sort precedes) (map-fixed rule_bytes byte_rule (keep (has_kind rule_kind) rs) (λ r h. let k = rule-in r h in rule-again r (wide bs v r k.0) (alone r k.0) k.1))
      ∙ sort-ordered (λ (r : List ℕ). length r ≡ 8) precedes (strict 8) (keep (has_kind rule_kind) rs) (keep-ordered (has_kind rule_kind) rs order)

  -- a moved-over file unfolds to the old file, byte for byte
  pub unfolded-widened : (least : ℕ) → unfolded_file least (widened bs) ≡ bs
  unfolding unfolded_file
  unfolded-widened least =
      ap₂ (λ (ps : List (RuleOver ℕ)) (l : List (List ℕ)). bytes_of (sort precedes (map rule_bytes (chained_rules least ps)) ++ map narrower (keep (λ r. not (has_kind rule_kind r)) l))) widened-rules (widened-records bs v)
      ∙ ap₂ (λ (a b : List (List ℕ)). bytes_of (a ++ b)) (rules-back least) others-back
      ∙ ap bytes_of (rules-first rs (λ r h. (alone r h).kind) order)
      ∙ bytes-records 8 (omega arith) bs (old bs v).whole

-- ---- a 16-byte file without a long body

module _ (bs : List ℕ) (v : (fault_in sixteen bs).number ≡ 0) (short : has_long bs ≡ false) where
  -- unfolding it is moving it back
  pub unfolded-narrowed : (least : ℕ) → unfolded_file least bs ≡ narrowed bs
  unfolded-narrowed least =
      ap (unfolded_file least) (sym (moved-again bs v short)) ∙ unfolded-widened (narrowed bs) (ap (λ (x : Refusal). x.number) (narrowed-passes bs v short)) least

  -- and 18 does not refuse it
  pub short-fits : (least : ℕ) → least ≤ nonterminals → too_many least (byte_rules (records_of 16 bs)) ≡ false
  unfolding too_many
  short-fits least l =
      let ps = byte_rules (records_of 16 bs) in
      let c = chains-none ps each in
      let f = first-low least bs l v in
      let n = length-map (keep (has_kind rule_kind) (records_of 16 bs)) byte_rule ∙ count_kept rule_kind (records_of 16 bs) in
      let m = (sound sixteen sixteen-fits bs v).records.few-rules in
      rw (le-ltb nonterminals (first_chain least ps + chains_in ps) (omega arith), le-ltb rule_limit (length ps + chains_in ps) (omega arith))
    where
      each : Short (byte_rules (records_of 16 bs))
      each p h =
          let t = map-in byte_rule p (keep (has_kind rule_kind) (records_of 16 bs)) h in
          let k = keep-in (has_kind rule_kind) (records_of 16 bs) t.0 t.1 in
          let n = few-symbols bs v short t.0 k.0 (eqb-true (byte t.0 0) rule_kind k.1) in
          let e = ap (λ (q : RuleOver ℕ). length q.body) t.2 ∙ length-take (byte t.0 2) (drop 3 t.0) in omega arith

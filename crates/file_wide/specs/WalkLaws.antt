-- The walk over the records of a file of any form: what is left of it decides. Assumes nothing.
use Rattle.std.specs.Prelude.{◌≡◌, refl, Bool, true, false, not, cond, List, [], ◌∷◌, eqb, ltb, length}
use Rattle.std.proofs.Math.Path.{sym}
use Rattle.std.proofs.Common.{ap, ap₂, ◌∙◌}
use Prim.Native.Nat.{ℕ, zero, suc, ◌+◌, ◌-◌, ◌%◌, ◌≤◌, ◌<◌}
use Rattle.std.proofs.Math.Nat.{sub-zero}
use Rattle.std.proofs.Math.Numerals.{add-one}
use native.Mathlib.Omega.{arith}
use Rattle.spec_file.specs.Forms.{Form}
use Rattle.spec_file.specs.Limits.{record_limit}
use Rattle.spec_file.specs.Records.{record_count_in, kind_in, count_in, rule_kind, transition_kind}
use Rattle.spec_file.specs.Refusals.{refuse, first_holding, length_fault_in, fault_by_in, fault_at_in, fault_from_in, or_next}
use Rattle.spec_file.proofs.RefusalLaws.{number-some}

-- the two tests of a file's length, each a refusal where it holds
pub length-tests : (F : Form) (bs : List ℕ) → 0 < F.torn
    → or_next (refuse (cond (not (eqb (length bs % F.width) 0)) F.torn 0) 0) (refuse (cond (ltb record_limit (record_count_in F bs)) 2 0) 0) ≡ refuse (length_fault_in F bs) 0
unfolding length_fault_in
length-tests F bs h = by F.torn h (not (eqb (length bs % F.width) 0)) (ltb record_limit (record_count_in F bs))
  where
    by : (f : ℕ) → 0 < f → (a b : Bool) → or_next (refuse (cond a f 0) 0) (refuse (cond b 2 0) 0) ≡ refuse (first_holding ((f, a) ∷ (2, b) ∷ [])) 0
    by zero h a b = absurd (let z : ⊥ = omega arith in z)
    by (suc f) h true b = refl
    by (suc f) h false b = refl

module _ (F : Form) (bs : List ℕ) (i : ℕ) where
  -- the walk is at record i, with the counts of the records before it
  pub record At (rules transitions : ℕ) : Type 0 where
    pub rules-are : rules ≡ count_in F bs rule_kind i
    pub transitions-are : transitions ≡ count_in F bs transition_kind i
    pub left : fault_from_in F bs (record_count_in F bs - i) i ≡ fault_from_in F bs (record_count_in F bs) 0
    pub inside : i ≤ record_count_in F bs
    pub few-rules : rules ≤ i
    pub few-transitions : transitions ≤ i

  -- one record more of a kind
  count_next : (k n c : ℕ) → n ≡ count_in F bs k i → c ≡ cond (eqb (kind_in F bs i) k) 1 0 → n + c ≡ count_in F bs k (i + 1)
  unfolding count_in
  count_next k n c p q = rw (add-one i) (ap₂ (λ (a b : ℕ). a + b) p q)

  module _ (rules transitions : ℕ) (at : At rules transitions) where
    -- what is left: record i, and the records after it
    left_step : i < record_count_in F bs
        → fault_from_in F bs (record_count_in F bs - i) i ≡ or_next (refuse (fault_by_in F bs i rules transitions) i) (fault_from_in F bs (record_count_in F bs - (i + 1)) (i + 1))
    unfolding fault_from_in fault_at_in
    left_step h =
        let z : record_count_in F bs - i ≡ suc (record_count_in F bs - (i + 1)) = omega arith in
        rw (z, at.rules-are, at.transitions-are, add-one i)

    pub walk_refused : (f : ℕ) → i < record_count_in F bs → (f ≡ 0 → ⊥) → f ≡ fault_by_in F bs i rules transitions → refuse f i ≡ fault_from_in F bs (record_count_in F bs) 0
    walk_refused f h n e =
        sym (number-some (refuse f i) (fault_from_in F bs (record_count_in F bs - (i + 1)) (i + 1)) f n)
        ∙ ap (λ (g : ℕ). or_next (refuse g i) (fault_from_in F bs (record_count_in F bs - (i + 1)) (i + 1))) e ∙ sym (left_step h) ∙ at.left

    pub walk_end : record_count_in F bs ≤ i → refuse 0 0 ≡ fault_from_in F bs (record_count_in F bs) 0
    unfolding fault_from_in
    walk_end h = let z : record_count_in F bs - i ≡ 0 = omega arith in sym (ap (λ (m : ℕ). fault_from_in F bs m i) z) ∙ at.left

pub at-start : (F : Form) (bs : List ℕ) → At F bs 0 0 0
unfolding count_in
at-start F bs = record { rules-are = refl; transitions-are = refl; left = ap (λ (m : ℕ). fault_from_in F bs m 0) (sub-zero (record_count_in F bs)); inside = omega arith; few-rules = omega arith; few-transitions = omega arith }

-- past record i, which nothing refuses
module _ (F : Form) (bs : List ℕ) (i rules transitions : ℕ) (at : At F bs i rules transitions) where
  pub at_next : (a b : ℕ) → i < record_count_in F bs → fault_by_in F bs i rules transitions ≡ 0
      → a ≡ cond (eqb (kind_in F bs i) rule_kind) 1 0 → a ≤ 1 → b ≡ cond (eqb (kind_in F bs i) transition_kind) 1 0 → b ≤ 1 → At F bs (i + 1) (rules + a) (transitions + b)
  at_next a b h f p la q lb = record {
    rules-are = count_next F bs i rule_kind rules a at.rules-are p;
    transitions-are = count_next F bs i transition_kind transitions b at.transitions-are q;
    left = sym (left_step F bs i rules transitions at h ∙ ap (λ (g : ℕ). or_next (refuse g i) (fault_from_in F bs (record_count_in F bs - (i + 1)) (i + 1))) f) ∙ at.left;
    inside = omega arith;
    few-rules = omega (arith, at.few-rules);
    few-transitions = omega (arith, at.few-transitions);
  }

-- Starting procedures and the numbers of chain procedures (document 02, C-18): no member is a chain procedure, and for procedure 0 alone the
-- unfolding is the one without a set. Assumes nothing.
use Rattle.std.specs.Prelude.{◌≡◌, refl, ◌⊎◌, Bool, true, false, not, ◌&&◌, ◌||◌, ℕ, zero, suc, ◌+◌, ◌≤◌, ◌<◌, max, ltb, length}
use Rattle.std.proofs.Math.Path.{sym, ap, ap₂}
use Rattle.std.proofs.Common.{◌∙◌, inl, inr, eq-or-lt_of_le, le_of_suc-le-suc, not-suc-le-zero, add-one, arith, lt-ltb}
use Rattle.std.proofs.Math.Bool.{cond}
use Rattle.std.proofs.lemmas.Bool.{false≢true}
use mathlib.Core.List.{List, [], ◌∷◌, ◌++◌, map}
use Rattle.relation.specs.Digits.{bit}
use Rattle.spec_file.specs.Limits.{rule_limit, nonterminals}
use Rattle.spec_file.specs.Refusals.{refuse, fault_in}
use Rattle.spec_file.specs.Forms.{sixteen}
use Rattle.spec_calls.specs.Base.{members_of, initial_alone, is_one_of}
use Rattle.spec_calls.proofs.MemberLaws.{is_member}
use Rattle.spec_file.specs.Records.{rule_kind}
use Rattle.spec_calls.specs.Replies.{Reply, reply}
use Rattle.spec_calls.specs.Writing.{written_by}
use Rattle.spec_records.specs.Blocks.{bytes_of, records_of}
use Rattle.spec_records.specs.OnRecords.{precedes}
use Rattle.spec_unfold.specs.Chains.{RuleOver, chains_in, unfolded, above_body, first_free}
use Rattle.spec_unfold.specs.Moving.{narrower}
use Rattle.spec_unfold.specs.Sorting.{sort}
use Rattle.spec_unfold.specs.Unfolding.{keep, has_kind, byte_rules, call_byte, above_byte, rule_bytes, above_members, least_for, first_chain, chained_rules, unfolded_file, too_many}
use Rattle.spec_unfold.specs.Calls.{chain_fault, output_fault, unfold_of, unfold_after}

-- ---- no member is a chain procedure

members-below : (set m p : ℕ) → p < m → bit set p ≡ true → p < above_members set m
unfolding above_members
members-below set zero p l h = absurd (not-suc-le-zero l)
members-below set (suc m) p l h = by (bit set m) refl (λ i. members-below set m p i h) (eq-or-lt_of_le (le_of_suc-le-suc l))
  where
    by : (b : Bool) → bit set m ≡ b → (p < m → p < above_members set m) → (p ≡ m) ⊎ (p < m) → p < cond b (suc m) (above_members set m)
    by true e ih k = omega (arith, l)
    by false e ih (inl q) = absurd (false≢true (sym e ∙ ap (bit set) (sym q) ∙ h))
    by false e ih (inr i) = ih i

members-limit : (set m : ℕ) → above_members set m ≤ m
unfolding above_members
members-limit set zero = omega arith
members-limit set (suc m) = by (bit set m) (members-limit set m)
  where
    by : (b : Bool) → above_members set m ≤ m → cond b (suc m) (above_members set m) ≤ suc m
    by true h = omega arith
    by false h = omega arith

-- a member is below the least number for a chain procedure, and that is at most 64
pub member_below : (set p : ℕ) → p < nonterminals → bit set p ≡ true → p < least_for set
member_below set p l h = members-below set nonterminals p l h

pub least-limit : (set : ℕ) → least_for set ≤ nonterminals
least-limit set = members-limit set nonterminals

-- and it is no higher than that takes
members-least : (set m n : ℕ) → ((p : ℕ) → p < m → bit set p ≡ true → p < n) → above_members set m ≤ n
unfolding above_members
members-least set zero n h = omega arith
members-least set (suc m) n h = by (bit set m) refl (members-least set m n (λ p l. h p (omega (arith, l))))
  where
    by : (b : Bool) → bit set m ≡ b → above_members set m ≤ n → cond b (suc m) (above_members set m) ≤ n
    by true e i = h m (omega arith) e
    by false e i = i

pub least-exactly : (set n : ℕ) → ((p : ℕ) → p < nonterminals → bit set p ≡ true → p < n) → least_for set ≤ n
least-exactly set n h = members-least set nonterminals n h

-- ---- the least number, procedure by procedure

pub above-none : (set : ℕ) → 0 ≡ above_members set 0
unfolding above_members
above-none set = refl

module _ (set p : ℕ) (low : p < nonterminals) where
  of-set : is_one_of (members_of set) p ≡ bit set p
  of-set = is_member set p ∙ ap (λ (b : Bool). b && bit set p) (lt-ltb p nonterminals low)

  above_step : (b : Bool) → is_one_of (members_of set) p ≡ b → cond b (p + 1) (above_members set p) ≡ above_members set (p + 1)
  unfolding above_members
  above_step b e =
      ap₂ (λ (x : Bool) (n : ℕ). cond x n (above_members set p)) (sym e ∙ of-set) (add-one p) ∙ sym (ap (above_members set) (add-one p))

  pub above_in : is_one_of (members_of set) p ≡ true → p + 1 ≡ above_members set (p + 1)
  above_in e = above_step true e

  pub above-out : is_one_of (members_of set) p ≡ false → above_members set p ≡ above_members set (p + 1)
  above-out e = above_step false e

-- ---- procedure 0 alone

pub least-initial : least_for initial_alone ≡ 1
unfolding above_members bit
least-initial = refl

-- a rule has a head, so the first free number is at least 1 already
first-same : (ps : List (RuleOver ℕ)) (p : RuleOver ℕ) → first_chain 1 (p ∷ ps) ≡ first_chain 0 (p ∷ ps)
unfolding first_free
first-same ps p = ap (λ (m : ℕ). first_free above_byte (above_body above_byte m p.body) ps) (let z : max 1 (suc p.head) ≡ max 0 (suc p.head) = omega arith in z)

chained_same : (ps : List (RuleOver ℕ)) → chained_rules 1 ps ≡ chained_rules 0 ps
unfolding unfolded
chained_same [] = refl
chained_same (p ∷ ps) = ap (λ (n : ℕ). unfolded call_byte n (p ∷ ps)) (first-same ps p)

many-same : (ps : List (RuleOver ℕ)) → too_many 1 ps ≡ too_many 0 ps
unfolding too_many first_free chains_in
many-same [] = refl
many-same (p ∷ ps) = ap (λ (n : ℕ). ltb nonterminals (n + chains_in (p ∷ ps)) || ltb rule_limit (length (p ∷ ps) + chains_in (p ∷ ps))) (first-same ps p)

file-same : (bs : List ℕ) → unfolded_file 1 bs ≡ unfolded_file 0 bs
unfolding unfolded_file
file-same bs =
    let rs = records_of 16 bs in
    ap (λ (us : List (RuleOver ℕ)). bytes_of (sort precedes (map rule_bytes us) ++ map narrower (keep (λ r. not (has_kind rule_kind r)) rs))) (chained_same (byte_rules rs))

-- "For the set of procedure 0 alone, answers equal those so far": the answer and the output are those of an unfolding that is given no set
pub unfold-so-far : (bs : List ℕ) (room : ℕ) → unfold_of (least_for initial_alone) bs room ≡ unfold_of 0 bs room
unfolding unfold_of chain_fault
unfold-so-far bs room =
    ap (λ (least : ℕ). unfold_of least bs room) least-initial
    ∙ ap₂ (λ (b : Bool) (l : List ℕ). reply (fault_in sixteen bs ∷ refuse (cond b 18 0) 0 ∷ refuse (output_fault l room) 0 ∷ []) (length l)) (many-same (byte_rules (records_of 16 bs))) (file-same bs)

pub output-so-far : (bs old : List ℕ) → unfold_after (least_for initial_alone) bs old ≡ unfold_after 0 bs old
unfolding unfold_after
output-so-far bs old =
    ap₂ (λ (l : List ℕ) (x : Reply ℕ). written_by l old x) (ap (λ (least : ℕ). unfolded_file least bs) least-initial ∙ file-same bs) (unfold-so-far bs (length old))

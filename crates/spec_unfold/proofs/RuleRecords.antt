-- Rules as records: the eight bytes of a rule, and what 16 bytes say. Assumes nothing.
use Rattle.std.specs.Prelude.{◌≡◌, refl, Bool, true, false, List, [], ◌∷◌, ◌++◌, map, ℕ, suc, ◌+◌, ◌-◌, ◌≤◌, ◌<◌, min, eqb, leb, ltb, drop}
use Rattle.std.proofs.Common.{sym, ap₂, ◌∙◌, subst, inl, inr, true≢false, length-append, length-take, length-drop, take-append-drop, drop-drop, eqb-true, eq-eqb, leb-true}
use Rattle.std.proofs.Math.Path.{ap}
use Rattle.std.proofs.Math.Bool.{cond}
use native.Mathlib.Omega.{arith}
use Rattle.std.proofs.Math.ListN.{length, replicate}
use Rattle.std.proofs.lemmas.List.{length-replicate}
use Rattle.std.proofs.Math.Seq.{take-append_seam, drop-append_seam}
use Rattle.spec_basics.specs.Tests.{fails}
use Rattle.spec_basics.specs.Elements.{In, any}
use Rattle.spec_basics.specs.Lists.{any_of, map-in}
use Rattle.spec_file.specs.Limits.{nonterminals, symbol_bytes}
use Rattle.spec_file.specs.Records.{byte, rule_kind, transition_kind}
use Rattle.spec_file.specs.Refusals.{kind_known, on_remark}
use Rattle.spec_file.specs.Views.{cons_if}
use Rattle.spec_records.specs.OnRecords.{body_in, used_bytes, unused_byte, precedes}
use Rattle.spec_records.specs.FormLaws.{Alone}
use Rattle.spec_records.specs.RecordLaws.{precedes-never, zeros, none-stray, rule-bytes, rule-in-range}
use Rattle.spec_unfold.specs.Chains.{RuleOver}
use Rattle.spec_unfold.proofs.ChainFacts.{Small}
use Rattle.spec_unfold.proofs.SortingLaws.{Ordered, Distinct}
use Rattle.spec_unfold.specs.Unfolding.{keep, has_kind, byte_rule, byte_rules, call_byte, rule_bytes}

-- ---- the bytes of a rule

pub body_of : (p : RuleOver ℕ) → body_in (rule_bytes p) ≡ p.body
body_of p = take-append_seam p.body (replicate (5 - length p.body) 0)

-- they say the rule
pub rule-back : (p : RuleOver ℕ) → byte_rule (rule_bytes p) ≡ p
rule-back p = λ i. record { head = p.head; body = body_of p i }

pub rule-length : (p : RuleOver ℕ) → length p.body ≤ 2 → length (rule_bytes p) ≡ 8
rule-length p h =
    ap (λ (n : ℕ). suc (suc (suc n))) (length-append p.body (replicate (5 - length p.body) 0) ∙ ap (λ (n : ℕ). length p.body + n) (length-replicate (5 - length p.body) 0))
    ∙ (let z : suc (suc (suc (length p.body + (5 - length p.body)))) ≡ 8 = omega arith in z)

-- and pass the checks of a record
pub rule-alone : (p : RuleOver ℕ) → Small call_byte nonterminals (λ (b : ℕ). b < symbol_bytes) p → Alone 2 (rule_bytes p)
unfolding kind_known unused_byte on_remark
rule-alone p s =
    record {
      kind = refl;
      range = rule-in-range 2 (rule_bytes p) refl (record { head = s.head; size = s.size; symbols = rw (body_of p) (fails (any (leb symbol_bytes) p.body) low) });
      zeros = rw three (ap (any (ltb 0)) (drop-append_seam p.body (replicate (5 - length p.body) 0)) ∙ none-stray (5 - length p.body));
      step = refl;
    }
  where
    low : any (leb symbol_bytes) p.body ≡ true → ⊥
    low h = let t = any_of (leb symbol_bytes) p.body h in let z = leb-true symbol_bytes t.0 t.2 in let w = s.symbols t.0 t.1 in omega arith

    three : 3 + length p.body ≡ suc (suc (suc (length p.body)))
    three = omega arith

-- ---- what the 16 bytes of a rule say

shape : (r : List ℕ) → 3 ≤ length r → r ≡ byte r 0 ∷ byte r 1 ∷ byte r 2 ∷ drop 3 r
shape [] h = absurd (let z : ⊥ = omega arith in z)
shape (a ∷ []) h = absurd (let z : ⊥ = omega arith in z)
shape (a ∷ b ∷ []) h = absurd (let z : ⊥ = omega arith in z)
shape (a ∷ b ∷ c ∷ r) h = refl

-- a rule with `room` bytes for its body, which has at most `most` symbols, is its head, its size, its body and zeros
module _ (room most : ℕ) (fits : most ≤ room) (r : List ℕ) (long : length r ≡ 3 + room) (alone : Alone most r) (kind : byte r 0 ≡ rule_kind) where
  size-le : byte r 2 ≤ most
  size-le = (rule-bytes most r alone.range kind).size

  pub body-length : length (body_in r) ≡ byte r 2
  body-length = length-take (byte r 2) (drop 3 r) ∙ (let e = length-drop 3 r in let z = size-le in let w : min (byte r 2) (length (drop 3 r)) ≡ byte r 2 = omega arith in w)

  rest-zero : drop (3 + byte r 2) r ≡ replicate (room - byte r 2) 0
  unfolding unused_byte
  rest-zero =
      let u : used_bytes r ≡ 3 + byte r 2 = ap (λ (b : Bool). cond b (3 + byte r 2) (cond (eqb (byte r 0) transition_kind) 4 2)) (eq-eqb (byte r 0) rule_kind kind) in
      zeros (drop (3 + byte r 2) r) (subst (λ (n : ℕ). any (ltb 0) (drop n r) ≡ false) u alone.zeros)
      ∙ ap (λ (n : ℕ). replicate n 0) (length-drop (3 + byte r 2) r ∙ (let z : length r - (3 + byte r 2) ≡ room - byte r 2 = omega arith in z))

  pub rule-shape : r ≡ rule_kind ∷ byte r 1 ∷ byte r 2 ∷ body_in r ++ replicate (room - byte r 2) 0
  rule-shape =
      shape r (omega arith)
      ∙ ap₂ (λ (k : ℕ) (t : List ℕ). k ∷ byte r 1 ∷ byte r 2 ∷ t) kind
      (sym (take-append-drop (byte r 2) (drop 3 r)) ∙ ap (λ (t : List ℕ). body_in r ++ t) (drop-drop (byte r 2) 3 r ∙ rest-zero))

-- so two records that say one rule are equal
same-rule : (r s : List ℕ) → length r ≡ 16 → length s ≡ 16 → Alone 12 r → Alone 12 s → byte r 0 ≡ rule_kind → byte s 0 ≡ rule_kind → byte_rule r ≡ byte_rule s → r ≡ s
same-rule r s lr ls ar at kr ks e =
    let l : 12 ≤ 13 = omega arith in
    let body : body_in r ≡ body_in s = ap (λ (p : RuleOver ℕ). p.body) e in
    let size : byte r 2 ≡ byte s 2 = sym (body-length 13 12 l r lr ar kr) ∙ ap length body ∙ body-length 13 12 l s ls at ks in
    let head : byte r 1 ≡ byte s 1 = ap (λ (p : RuleOver ℕ). p.head) e in
    rule-shape 13 12 l r lr ar kr ∙ (λ i. rule_kind ∷ head i ∷ size i ∷ body i ++ replicate (13 - size i) 0) ∙ sym (rule-shape 13 12 l s ls at ks)

-- and eight bytes are those of the rule that they say
pub rule-again : (r : List ℕ) → length r ≡ 8 → Alone 2 r → byte r 0 ≡ rule_kind → rule_bytes (byte_rule r) ≡ r
rule-again r long alone kind =
    let l : 2 ≤ 5 = omega arith in
    let size = body-length 5 2 l r long alone kind in
    (λ i. rule_kind ∷ byte r 1 ∷ size i ∷ body_in r ++ replicate (5 - size i) 0) ∙ sym (rule-shape 5 2 l r long alone kind)

-- ---- the records that pass a test

pub keep-in : (f : List ℕ → Bool) (rs : List (List ℕ)) (r : List ℕ) → In r (keep f rs) → In r rs × (f r ≡ true)
keep-in f [] r h = absurd h
keep-in f (s ∷ rs) r h = by (f s) refl h (keep-in f rs r)
  where
    by : (b : Bool) → f s ≡ b → In r (cons_if b s (keep f rs)) → (In r (keep f rs) → In r rs × (f r ≡ true)) → In r (s ∷ rs) × (f r ≡ true)
    by true e (inl v) ih = (inl v, ap f v ∙ e)
    by true e (inr m) ih = let t = ih m in (inr t.0, t.1)
    by false e m ih = let t = ih m in (inr t.0, t.1)

pub in-keep : (f : List ℕ → Bool) (rs : List (List ℕ)) (r : List ℕ) → In r rs → f r ≡ true → In r (keep f rs)
in-keep f [] r h e = absurd h
in-keep f (s ∷ rs) r (inl v) e = subst (λ (b : Bool). In r (cons_if b s (keep f rs))) (sym (ap f (sym v) ∙ e)) (inl v)
in-keep f (s ∷ rs) r (inr m) e = by (f s) (in-keep f rs r m e)
  where
    by : (b : Bool) → In r (keep f rs) → In r (cons_if b s (keep f rs))
    by true i = inr i
    by false i = i

pub keep-ordered : (f : List ℕ → Bool) (rs : List (List ℕ)) → Ordered precedes rs → Ordered precedes (keep f rs)
keep-ordered f [] o = tt
keep-ordered f (r ∷ rs) o = by (f r) (keep-ordered f rs o.1)
  where
    by : (b : Bool) → Ordered precedes (keep f rs) → Ordered precedes (cons_if b r (keep f rs))
    by true p = (λ y h. o.0 y (keep-in f rs y h).0, p)
    by false p = p

-- a list in order, through a function that tells its elements apart
distinct-map : {B : Type 0} (f : List ℕ → B) (rs : List (List ℕ)) → ((r s : List ℕ) → In r rs → In s rs → f r ≡ f s → r ≡ s) → Ordered precedes rs → Distinct (map f rs)
distinct-map f [] h o = tt
distinct-map f (r ∷ rs) h o = (
  λ y m e. let t = map-in f y rs m in true≢false (sym (o.0 t.0 t.1) ∙ subst (λ (x : List ℕ). precedes r x ≡ false) (h r t.0 (inl refl) (inr t.1) (e ∙ t.2)) (precedes-never r)),
  distinct-map f rs (λ a b p q. h a b (inr p) (inr q)) o.1,
)

pub distinct-rules : (rs : List (List ℕ)) → ((r : List ℕ) → In r rs → length r ≡ 16) → ((r : List ℕ) → In r rs → Alone 12 r) → Ordered precedes rs → Distinct (byte_rules rs)
distinct-rules rs wide alone o =
    distinct-map byte_rule (keep (has_kind rule_kind) rs)
    (λ r s p q e. let a = keep-in (has_kind rule_kind) rs r p in let b = keep-in (has_kind rule_kind) rs s q in
    same-rule r s (wide r a.0) (wide s b.0) (alone r a.0) (alone s b.0) (eqb-true (byte r 0) rule_kind a.1) (eqb-true (byte s 0) rule_kind b.1) e)
    (keep-ordered (has_kind rule_kind) rs o)

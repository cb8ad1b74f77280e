-- The rows of the rules are written one by one, up to the limit. Assumes nothing.
use Rattle.std.specs.Prelude.{◌≡◌, refl, Bool, true, false, cond, List, [], ◌∷◌, ◌++◌, map, ℕ, suc, ◌+◌, ◌≤◌, ◌<◌, ltb, length, get_or, take, drop, set}
use Rattle.std.proofs.Common.{sym, ap, ap₂, ◌∙◌, add-one, arith, length-append, length-take, length-drop, take_all, drop-cons, take_at, drop_at, ltb-true, ltb-false}
use Rattle.std.proofs.lemmas.List.{length-map, take-append-le}
use Rattle.std.proofs.Math.Seq.{append_snoc, set-append_seam}
use Rattle.spec_basics.specs.Lists.{take-map}
use Rattle.spec_file.specs.Limits.{rule_limit}
use Rattle.spec_file.specs.Records.{record_count, rule_kind}
use Rattle.spec_file.specs.Views.{rules_of}
use Rattle.spec_file.specs.Entries.{entry_of}
use Rattle.file_tables.specs.Prefixes.{collect-map}
use Rattle.file_tables.specs.Tables.{rule_bytes_in, rows_of, Rows, rows_in, with_row, written, RuleTable}

pub written_none : (t : List (List ℕ)) → rows_in t 0 ≡ written t []
unfolding written
written_none t = refl

pub written_next : (t xs : List (List ℕ)) (x : List ℕ) → rule_limit ≤ length t → with_row (written t xs) x ≡ written t (xs ++ (x ∷ []))
unfolding written
written_next t xs x h = by (ltb (length (take rule_limit xs)) rule_limit) (ltb-true (length (take rule_limit xs)) rule_limit) (ltb-false (length (take rule_limit xs)) rule_limit)
  where
    n : ℕ
    n = length (take rule_limit xs)

    more : length (xs ++ (x ∷ [])) ≡ length xs + 1
    more = length-append xs (x ∷ [])

    room : n < rule_limit → length xs < rule_limit
    room l = omega (arith, length-take rule_limit xs)

    by : (b : Bool) → (b ≡ true → n < rule_limit) → (b ≡ false → rule_limit ≤ n)
        → cond b (rows_in (set (take rule_limit xs ++ drop n t) n x) (n + 1)) (written t xs) ≡ written t (xs ++ (x ∷ []))
    by true p q =
        let l = room (p refl) in
        let a = take_all rule_limit xs (omega arith) in
        let b = take_all rule_limit (xs ++ (x ∷ [])) (omega (arith, more)) in
        ap₂ rows_in
        (ap (λ (ys : List (List ℕ)). set (ys ++ drop (length ys) t) (length ys) x) a
        ∙ ap (λ (ys : List (List ℕ)). set (xs ++ ys) (length xs) x) (drop-cons t (length xs) [] (omega arith))
        ∙ set-append_seam xs (get_or t (length xs) []) (drop (suc (length xs)) t) x
        ∙ sym (append_snoc xs x (drop (suc (length xs)) t))
        ∙ ap (λ (k : ℕ). xs ++ (x ∷ []) ++ drop k t) (sym (more ∙ add-one (length xs)))
        ∙ sym (ap (λ (ys : List (List ℕ)). ys ++ drop (length ys) t) b))
        (ap (λ (ys : List (List ℕ)). length ys + 1) a ∙ sym (ap length b ∙ more))
    by false p q =
        let l = q refl in
        ap (λ (ys : List (List ℕ)). rows_in (ys ++ drop (length ys) t) (length ys))
        (sym (take-append-le rule_limit xs (x ∷ []) (omega (arith, length-take rule_limit xs))))

rows-rules : (bs : List ℕ) → map entry_of (rows_of bs) ≡ rules_of bs
unfolding rows_of rules_of
rows-rules bs = collect-map rule_kind rule_bytes_in bs entry_of (record_count bs) 0

pub all-written : (bs : List ℕ) (before after : List (List ℕ)) (n : ℕ) → length before ≡ rule_limit → rows_in after n ≡ written before (rows_of bs) → RuleTable bs before after n
unfolding written
all-written bs before after n size e = record {
  count = used ∙ sym (length-map first entry_of) ∙ ap length first-rules;
  rules = ap (map entry_of) front ∙ first-rules;
  rows = front;
  rest = ap (drop n) whole ∙ drop_at first (drop (length first) before) n (sym used) ∙ ap (λ (k : ℕ). drop k before) (sym used);
  size = ap length whole ∙ length-append first (drop (length first) before) ∙ let z : length first + length (drop (length first) before) ≡ rule_limit = omega (arith, size, length-drop (length first) before, length-take rule_limit (rows_of bs)) in z;
}
  where
    first : List (List ℕ)
    first = take rule_limit (rows_of bs)

    whole : after ≡ first ++ drop (length first) before
    whole = ap (λ (s : Rows). s.table) e

    used : n ≡ length first
    used = ap (λ (s : Rows). s.count) e

    front : take n after ≡ first
    front = ap (take n) whole ∙ take_at first (drop (length first) before) n (sym used)

    first-rules : map entry_of first ≡ take rule_limit (rules_of bs)
    first-rules = sym (take-map entry_of rule_limit (rows_of bs)) ∙ ap (take rule_limit) (rows-rules bs)

-- The numbers that refuse: a file is refused with one of its form's numbers, with a record for `record_numbers` only, and every refusal's number
-- is below those of the answers. Assumes nothing.
use Rattle.std.specs.Prelude.{◌≡◌, ◌⊎◌, Bool, true, false, not, ◌||◌, cond, eqb, leb, ltb, length}
use Rattle.std.proofs.Math.Path.{refl}
use Rattle.std.proofs.Common.{sym, ◌∙◌, subst, inr, arith, leb-false}
use Rattle.std.proofs.Math.Logic.{inl}
use Rattle.std.proofs.lemmas.Bool.{false≢true}
use mathlib.Core.List.{List, [], ◌∷◌, map}
use Prim.Native.Nat.{ℕ, zero, suc, ◌≤◌, ◌<◌}
use Rattle.spec_basics.specs.Elements.{In, any}
use Rattle.spec_basics.specs.Lists.{any_at}
use Rattle.spec_file.specs.Limits.{terminals}
use Rattle.spec_file.specs.Forms.{Form, eight, sixteen}
use Rattle.spec_file.specs.Records.{record_count_in, rule_kind, transition_kind, count_in}
use Rattle.spec_file.specs.Refusals.{Refusal, refuse, or_next, first_holding, record_numbers, file_numbers, record_tests_in, length_tests_in, fault, by_number, fault_at_in, fault_by_in, fault_from_in, fault_in, length_fault_in}
use Rattle.spec_calls.specs.Checking.{Settings, journal_limit, journal_fault, check_refusals, check_of}
use Rattle.spec_calls.specs.Judging.{word_limit, word_fault, judge_refusals, judge_of}
use Rattle.spec_calls.specs.Recognizing.{run_limit, stretch_cells, run_fault, table_fault, recognize_refusals, recognize_of}
use Rattle.spec_calls.specs.Listing.{list_bytes, list_fault, list_refusals, list_of}
use Rattle.spec_calls.specs.Replies.{Reply, refused, answered, unless, reply}
use Rattle.spec_records.specs.Blocks.{records_of}
use Rattle.spec_unfold.specs.Moving.{widened, narrowed, has_long}
use Rattle.spec_unfold.specs.Unfolding.{byte_rules, unfolded_file, too_many}
use Rattle.spec_unfold.specs.Calls.{output_fault, long_fault, chain_fault, widen_refusals, narrow_refusals, unfold_refusals, widen_of, narrow_of, unfold_of}
use Rattle.spec_calls.specs.Codes.{first_answer_code}

-- ---- a file, of any form

-- the numbers that refuse a file of the form
abbrev pub numbers_of : Form → List ℕ
numbers_of F = F.torn ∷ 2 ∷ record_numbers

-- the number of the first test that holds is one of the list's
first-among : (ts : List (ℕ × Bool)) → (first_holding ts ≡ 0) ⊎ In (first_holding ts) (map (λ (t : ℕ × Bool). t.0) ts)
first-among [] = inl refl
first-among (t ∷ ts) = by t.1 (first-among ts)
  where
    numbers : List ℕ
    numbers = map (λ (t : ℕ × Bool). t.0) ts

    by : (b : Bool) → (first_holding ts ≡ 0) ⊎ In (first_holding ts) numbers
        → (cond b t.0 (first_holding ts) ≡ 0) ⊎ In (cond b t.0 (first_holding ts)) (t.0 ∷ numbers)
    by true next = inr (inl refl)
    by false (inl e) = inl e
    by false (inr h) = inr (inr h)

module _ (F : Form) where
  -- the refusals of a file, by number and record
  pub record FileRefusal (x : Refusal) : Type 0 where
    pub number : (x.number ≡ 0) ⊎ In x.number (numbers_of F)
    pub no_record : (In x.number record_numbers → ⊥) → x.place ≡ 0

  -- the first of two, by the number of the one
  next-refusal : (f i : ℕ) (next : Refusal) → (f ≡ 0) ⊎ In f (numbers_of F) → ((f ≡ 0) ⊎ In f record_numbers) ⊎ (i ≡ 0)
      → FileRefusal next → FileRefusal (or_next (refuse f i) next)
  next-refusal zero i next n place l = l
  next-refusal (suc f) i next n place l = record { number = n; no_record = λ none. by none place }
    where
      by : (In (suc f) record_numbers → ⊥) → ((suc f ≡ 0) ⊎ In (suc f) record_numbers) ⊎ (i ≡ 0) → i ≡ 0
      by none (inl (inl e)) = absurd (let z : ⊥ = omega (arith, e) in z)
      by none (inl (inr h)) = absurd (none h)
      by none (inr e) = e

  of-file : {f : ℕ} → (f ≡ 0) ⊎ In f record_numbers → (f ≡ 0) ⊎ In f (numbers_of F)
  of-file (inl e) = inl e
  of-file (inr h) = inr (inr (inr h))

  by_length : {f : ℕ} → (f ≡ 0) ⊎ In f (F.torn ∷ 2 ∷ []) → (f ≡ 0) ⊎ In f (numbers_of F)
  by_length (inl e) = inl e
  by_length (inr (inl e)) = inr (inl e)
  by_length (inr (inr (inl e))) = inr (inr (inl e))
  by_length (inr (inr (inr h))) = absurd h

  at-number : (bs : List ℕ) (i : ℕ) → (fault_at_in F bs i ≡ 0) ⊎ In (fault_at_in F bs i) record_numbers
  unfolding fault_at_in fault_by_in
  at-number bs i = first-among (record_tests_in F bs i (count_in F bs rule_kind i) (count_in F bs transition_kind i))

  length-number : (bs : List ℕ) → (length_fault_in F bs ≡ 0) ⊎ In (length_fault_in F bs) (F.torn ∷ 2 ∷ [])
  unfolding length_fault_in
  length-number bs = first-among (length_tests_in F bs)

  from-refusal : (bs : List ℕ) (m i : ℕ) → FileRefusal (fault_from_in F bs m i)
  unfolding fault_from_in
  from-refusal bs zero i = record { number = inl refl; no_record = λ none. refl }
  from-refusal bs (suc m) i =
      let n = at-number bs i in
      next-refusal (fault_at_in F bs i) i (fault_from_in F bs m (suc i)) (of-file n) (inl n) (from-refusal bs m (suc i))

  pub refusal-in : (bs : List ℕ) → FileRefusal (fault_in F bs)
  unfolding fault_in
  refusal-in bs =
      next-refusal (length_fault_in F bs) 0 (fault_from_in F bs (record_count_in F bs) 0) (by_length (length-number bs)) (inr refl) (from-refusal bs (record_count_in F bs) 0)

-- of document 01's form
pub file-refusal : (bs : List ℕ) → FileRefusal eight (fault bs)
file-refusal bs = refusal-in eight bs

-- so a call that the file refuses names a record for 3 to 7 and 12 only
pub record-none : (bs : List ℕ) (r i : ℕ) → r ≡ (fault bs).number → i ≡ (fault bs).place → (In r record_numbers → ⊥) → i ≡ 0
record-none bs r i e q none = q ∙ (file-refusal bs).no_record (λ h. none (subst (λ (n : ℕ). In n record_numbers) (sym e) h))

-- and its number is one of a file's
pub file-number : (bs : List ℕ) (r : ℕ) → r ≡ (fault bs).number → ((fault bs).number ≡ 0 → ⊥) → In r file_numbers
file-number bs r e refuses = by (file-refusal bs).number
  where
    by : ((fault bs).number ≡ 0) ⊎ In (fault bs).number file_numbers → In r file_numbers
    by (inl z) = absurd (refuses z)
    by (inr h) = subst (λ (n : ℕ). In n file_numbers) (sym e) h

-- ---- a reply

-- the number of a refusal is no answer's
abbrev pub Low : Refusal → Type 0
Low x = x.number < first_answer_code

pub low-high : {n : ℕ} → n < first_answer_code → first_answer_code ≤ n → ⊥
low-high l h = omega (arith, l, h)

among-low : (ns : List ℕ) → any (λ n. leb first_answer_code n) ns ≡ false → (n : ℕ) → In n ns → n < first_answer_code
among-low ns none n h = by (leb first_answer_code n) refl
  where
    by : (b : Bool) → leb first_answer_code n ≡ b → n < first_answer_code
    by true e = absurd (false≢true (sym none ∙ any_at (λ (m : ℕ). leb first_answer_code m) n ns h e))
    by false e = leb-false first_answer_code n e

form-low : (F : Form) → any (λ n. leb first_answer_code n) (numbers_of F) ≡ false → (bs : List ℕ) → Low (fault_in F bs)
form-low F none bs = by (refusal-in F bs).number
  where
    by : ((fault_in F bs).number ≡ 0) ⊎ In (fault_in F bs).number (numbers_of F) → Low (fault_in F bs)
    by (inl e) = omega (arith, e)
    by (inr h) = among-low (numbers_of F) none (fault_in F bs).number h

fault-low : (bs : List ℕ) → Low (fault bs)
fault-low bs = form-low eight refl bs

wide_low : (bs : List ℕ) → Low (fault_in sixteen bs)
wide_low bs = form-low sixteen refl bs

number-low : (b : Bool) (f : ℕ) → f < first_answer_code → cond b f 0 < first_answer_code
number-low true f h = h
number-low false f h = omega arith

module _ {A : Type 0} where
  -- where it is a refusal
  abbrev pub LowIn : Reply A → Type 0
  LowIn (refused x) = Low x
  LowIn (answered a) = Unit {0}

  unless-low : (x : Refusal) (y : Reply A) → Low x → LowIn y → LowIn (unless x y)
  unless-low x y l m = by x.number
    where
      by : (f : ℕ) → LowIn (by_number f (refused x) y)
      by zero = m
      by (suc f) = l

-- each of a list
abbrev AllLow : List Refusal → Type 0
AllLow [] = Unit {0}
AllLow (x ∷ xs) = Low x × AllLow xs

reply-low : {A : Type 0} (xs : List Refusal) (a : A) → AllLow xs → LowIn (reply xs a)
reply-low [] a l = tt
reply-low (x ∷ xs) a l = unless-low x (reply xs a) l.0 (reply-low xs a l.1)

pub check-low : (bs : List ℕ) (g : Settings) → LowIn (check_of bs g)
unfolding check_of journal_fault
check-low bs g = reply-low (check_refusals bs g.rows) _ (fault-low bs, (number-low (eqb g.rows 0 || ltb journal_limit g.rows) 8 (omega arith), tt))

pub judge-low : (bs w : List ℕ) → LowIn (judge_of bs w)
unfolding judge_of word_fault
judge-low bs w =
    reply-low (judge_refusals bs w) _ (fault-low bs, (number-low (ltb word_limit (length w) || any (λ c. leb terminals c) w) 11 (omega arith), tt))

pub recognize-low : (bs w : List ℕ) (cells : ℕ) (after : List ℕ) → LowIn (recognize_of bs w cells after)
unfolding recognize_of word_fault run_fault table_fault
recognize-low bs w cells after =
    let word = number-low (ltb word_limit (length w) || any (λ c. leb terminals c) w) 11 (omega arith) in
    let run = number-low (ltb run_limit (length w)) 13 (omega arith) in
    let table = number-low (not (eqb cells stretch_cells)) 14 (omega arith) in
    reply-low (recognize_refusals bs w cells) _ (fault-low bs, (word, (run, (table, tt))))

pub list-low : (bs : List ℕ) (room : ℕ) → LowIn (list_of bs room)
unfolding list_of list_fault
list-low bs room = reply-low (list_refusals bs room) _ (fault-low bs, (number-low (ltb room list_bytes) 15 (omega arith), tt))

-- ---- moving and unfolding

output-low : (result : List ℕ) (room : ℕ) → output_fault result room < first_answer_code
unfolding output_fault
output-low result room = number-low (ltb room (length result)) 10 (omega arith)

pub widen_low : (bs : List ℕ) (room : ℕ) → LowIn (widen_of bs room)
unfolding widen_of
widen_low bs room = reply-low (widen_refusals bs room) _ (fault-low bs, (output-low (widened bs) room, tt))

pub narrow-low : (bs : List ℕ) (room : ℕ) → LowIn (narrow_of bs room)
unfolding narrow_of long_fault
narrow-low bs room = reply-low (narrow_refusals bs room) _ (wide_low bs, (number-low (has_long bs) 17 (omega arith), (output-low (narrowed bs) room, tt)))

pub unfold-low : (least : ℕ) (bs : List ℕ) (room : ℕ) → LowIn (unfold_of least bs room)
unfolding unfold_of chain_fault
unfold-low least bs room =
    reply-low (unfold_refusals least bs room) _
    (wide_low bs, (number-low (too_many least (byte_rules (records_of 16 bs))) 18 (omega arith), (output-low (unfolded_file least bs) room, tt)))

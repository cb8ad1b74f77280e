-- The part of the library's array that is lent as the journal: rows of zeros, as many as the host asked for; and a host that asks
-- for more rows than a journal may have is refused as one that asks for none. Assumes nothing.
use Rattle.std.specs.Prelude.{◌≡◌, Bool, cond, List, [], ◌∷◌, ◌++◌, map, length, replicate}
use Rattle.std.proofs.Math.Path.{refl, sym, ap}
use Rattle.std.proofs.Common.{◌∙◌, subst, arith, take_at, lt-ltb, ne_eqb, leb-true, leb-false}
use Rattle.std.proofs.Math.Bool.{true, false}
use Prim.Native.Nat.{ℕ, zero, suc, ◌+◌, ◌-◌, ◌≤◌, ◌<◌}
use Rattle.std.proofs.Math.Dec.{leb}
use Rattle.std.proofs.Math.ListN.{take}
use Rattle.std.proofs.lemmas.List.{length-replicate, replicate-append-replicate}
use Rattle.relation.specs.Representation.{value_none}
use Rattle.spec_file.specs.Refusals.{Refusal, refuse, fault}
use Rattle.spec_order.specs.Journal.{Row}
use Rattle.spec_order.specs.Order.{Answer}
use Rattle.spec_calls.specs.Checking.{Settings, journal_limit, journal_fault, check_of, journal_after}
use Rattle.spec_calls.proofs.Promising.{promises}
use Rattle.spec_calls.specs.Replies.{Reply, refused}
use Rattle.spec_calls.specs.Rows.{row_of, blank, settings_of, Journal}
use Rattle.spec_calls.specs.declared.Options.{Options}
use Rattle.spec_calls.specs.declared.Row.{Row as LentRow}
use Rattle.host_result.specs.Fronts.{journal_of}
use Rattle.call_check.specs.Clauses.{settings_over}
use Rattle.host_check.specs.Details.{zero_row, head_of}
use Rattle.host_result.specs.Results.{numbers_in}
use Rattle.host_check.specs.Clauses.{Tells, ChecksBy, ChecksOver, ChecksAlone}
use Rattle.host_result.specs.declared.CheckResult.{CheckResult}
use Rattle.bolfrega.specs.Clauses.{zero_rows, ChecksZeros, ChecksFrom}

-- ---- rows of zeros

module _ {A : Type 0} (a : A) where
  take-replicate : (n m : ℕ) → n ≤ m → take n (replicate m a) ≡ replicate n a
  take-replicate n m h =
      ap (λ (k : ℕ). take n (replicate k a)) (let e : m ≡ n + (m - n) = omega arith in e)
      ∙ ap (take n) (sym (replicate-append-replicate n (m - n) a))
      ∙ take_at (replicate n a) (replicate (m - n) a) n (length-replicate n a)

map-replicate : {A B : Type 0} (f : A → B) (n : ℕ) (a : A) → map f (replicate n a) ≡ replicate n (f a)
map-replicate f zero a = refl
map-replicate f (suc n) a = ap (λ xs. f a ∷ xs) (map-replicate f n a)

-- a row of zeros but for its effect
abbrev zeros_but : ℕ → Row ℕ
zeros_but e = record { head = 0; rule = 0; effect = e; left = 0; right = 0; len = 0; birth = 0; retired = 0 }

-- a blank row, read so
zero-read : row_of blank ≡ zero_row
zero-read = ap zeros_but value_none

zeros-read : (n : ℕ) → map row_of (replicate n blank) ≡ zero_rows n
unfolding zero_rows
zeros-read n = map-replicate row_of n blank ∙ ap (replicate n) zero-read

-- ---- more rows than a journal may have

too_many : (J : ℕ) → journal_limit < J → journal_fault J ≡ 8
unfolding journal_fault
too_many J h = rw (ne_eqb J 0 (λ e. omega arith), lt-ltb journal_limit J h)

none : journal_fault 0 ≡ 8
unfolding journal_fault
none = refl

module _ (bs : List ℕ) (o : Options) where
  -- one refusal, for any number of rows that 8 refuses
  refusal : (x : Refusal) × ((g : Settings) → journal_fault g.rows ≡ 8 → check_of bs g ≡ refused x)
  unfolding check_of
  refusal = by (fault bs).number refl
    where
      by : (f : ℕ) → (fault bs).number ≡ f → (x : Refusal) × ((g : Settings) → journal_fault g.rows ≡ 8 → check_of bs g ≡ refused x)
      by zero e = (refuse 8 0, λ g h. rw (e, h))
      by (suc f) e = (fault bs, λ g h. rw e)

  module _ (d old new : List ℕ) (r : ℕ) where
    -- what a host is given of a refusal does not depend on the rows
    any-rows : (x : Refusal) (rows rows' : List (Row ℕ)) → Tells bs rows (refused x) d old new r → Tells bs rows' (refused x) d old new r
    any-rows x rows rows' t = record { code = t.code; details = t.details; buffer = t.buffer }

    over-front : (J : ℕ) → ChecksOver bs (journal_of J blank) o d old new r → ChecksZeros bs (settings_of J o) d old new r
    unfolding journal_of
    over-front J h = by (leb J journal_limit) refl
      where
        Over : Journal → Type 0
        Over journal = ChecksOver bs journal o d old new r

        by : (b : Bool) → leb J journal_limit ≡ b → ChecksZeros bs (settings_of J o) d old new r
        by true p =
            let all = ap (λ (b : Bool). take (cond b J 0) (replicate journal_limit blank)) p ∙ take-replicate blank J journal_limit (leb-true J journal_limit p) in
            subst (λ (n : ℕ). ChecksBy bs (settings_of n o) (journal_after bs (settings_of n o) (zero_rows J)) d old new r) (length-replicate J blank)
            (subst (λ (rows : List (Row ℕ)). let g = settings_of (length (replicate J blank)) o in ChecksBy bs g (journal_after bs g rows) d old new r) (zeros-read J) (subst Over all h))
        by false p =
            let t = (subst Over (ap (λ (b : Bool). take (cond b J 0) (replicate journal_limit blank)) p) h).told in
            let x = refusal.0 in
            record {
              told =
                  subst (λ (y : Reply (Answer ℕ)). Tells bs (journal_after bs (settings_of J o) (zero_rows J)) y d old new r) (sym (refusal.1 (settings_of J o) (too_many J (leb-false J journal_limit p))))
                  (any-rows x (journal_after bs (settings_of 0 o) []) (journal_after bs (settings_of J o) (zero_rows J))
                  (subst (λ (y : Reply (Answer ℕ)). Tells bs (journal_after bs (settings_of 0 o) []) y d old new r) (refusal.1 (settings_of 0 o) none) t));
              promises = promises bs (settings_of J o);
            }

  -- and neither does the nonterminal of a run that is shown
  head-front : (J : ℕ) → head_of (check_of bs (settings_over o (journal_of J blank))) ≡ head_of (check_of bs (settings_of J o))
  unfolding journal_of
  head-front J = by (leb J journal_limit) refl
    where
      by : (b : Bool) → leb J journal_limit ≡ b → head_of (check_of bs (settings_over o (journal_of J blank))) ≡ head_of (check_of bs (settings_of J o))
      by true p =
          ap (λ (journal : Journal). head_of (check_of bs (settings_over o journal)))
          (ap (λ (b : Bool). take (cond b J 0) (replicate journal_limit blank)) p ∙ take-replicate blank J journal_limit (leb-true J journal_limit p))
          ∙ ap (λ (n : ℕ). head_of (check_of bs (settings_of n o))) (length-replicate J blank)
      by false p =
          ap (λ (b : Bool). head_of (check_of bs (settings_over o (take (cond b J 0) (replicate journal_limit blank))))) p
          ∙ ap head_of (refusal.1 (settings_of 0 o) none ∙ sym (refusal.1 (settings_of J o) (too_many J (leb-false J journal_limit p))))

-- a check over rows x, which are y
pub alone_at : {bs : List ℕ} {n : ℕ} {x y : LentRow} {o : Options} {p : ℕ} {old new : List ℕ} {r : CheckResult} → x ≡ y → ChecksAlone bs n x o p old new r → ChecksAlone bs n y o p old new r
alone_at {bs} {n} {x} {y} {o} {p} {old} {new} {r} e h = subst (λ (z : LentRow). ChecksAlone bs n z o p old new r) e h

-- the details d of a check over blank rows
pub over_zeros : (bs : List ℕ) (J : ℕ) (o : Options) (old new : List ℕ) (t : CheckResult) → ChecksAlone bs J blank o 0 old new t → (d : List ℕ) → d ≡ numbers_in t → ChecksZeros bs (settings_of J o) d old new t.code
over_zeros bs J o old new t h d q =
    subst (λ (y : List ℕ). ChecksZeros bs (settings_of J o) y old new t.code) (sym q) (over-front bs o (numbers_in t) old new t.code J h.over)

-- and with the nonterminal of the run as the ninth
pub from-zeros : (bs : List ℕ) (J : ℕ) (o : Options) (old new : List ℕ) (t : CheckResult) → ChecksAlone bs J blank o 0 old new t → (d : List ℕ) → d ≡ numbers_in t ++ (t.head ∷ [])
    → ChecksFrom bs (settings_of J o) d old new t.code
from-zeros bs J o old new t h d q =
    record {
      eight = over_zeros bs J o old new t h (take 8 d) (ap (take 8) q);
      ninth = q ∙ ap (λ (n : ℕ). numbers_in t ++ (n ∷ [])) (h.head ∙ head-front bs o J) ∙ ap (λ (xs : List ℕ). xs ++ (head_of (check_of bs (settings_of J o)) ∷ [])) (sym (ap (take 8) q));
    }

-- What the code writes by the tables is the list, over the old bytes. Assumes nothing.
use Rattle.std.specs.Prelude.{◌≡◌, Bool, true, false, ◌&&◌, cond, List, [], ◌∷◌, ◌++◌, eqb, length, set, drop}
use Rattle.std.proofs.Math.Path.{refl, sym, ap, ap₂}
use Rattle.std.proofs.Common.{◌∙◌, append-nil, append_assoc, add-one, arith, length-drop, drop-drop}
use Rattle.std.proofs.Math.Bool.{not}
use Prim.Native.Nat.{ℕ, zero, suc, ◌+◌, ◌*◌, ◌≤◌, ◌<◌}
use Rattle.std.proofs.Math.ListN.{length-append}
use Rattle.std.proofs.lemmas.List.{set_at}
use Rattle.spec_basics.specs.Elements.{concat_map}
use Rattle.relation.specs.Relation.{states}
use Rattle.spec_language.specs.Automaton.{Automaton}
use Rattle.spec_language.specs.Remarks.{first_remark}
use Rattle.spec_file.specs.Views.{cons_if, automaton_of}
use Rattle.spec_calls.specs.Gaps.{ListEntry}
use Rattle.spec_calls.specs.Listing.{gap_at, gap_of, state_gaps, gaps_in, gaps_of, bytes_of, list_bytes, over}
use Rattle.spec_calls.proofs.GapLists.{state-short, gaps-short, bytes-length}
use Rattle.call_gaps.specs.Sheets.{Sheet, Lines, lines_in, with_entry, gap_in, pair_into, state_into, all_into}

bytes_next : (es : List ListEntry) (e : ListEntry) → concat_map bytes_of (es ++ (e ∷ [])) ≡ concat_map bytes_of es ++ bytes_of e
bytes_next [] e = refl
bytes_next (d ∷ es) e = ap (λ (l : List ℕ). d.state ∷ d.letter ∷ d.moves ∷ l) (bytes_next es e)

-- three bytes over the front of a rest
put-over : (front rest : List ℕ) (n a b c : ℕ) → length front ≡ n → 3 ≤ length rest → set (set (set (front ++ rest) n a) (n + 1) b) (n + 2) c ≡ (front ++ (a ∷ b ∷ c ∷ [])) ++ drop 3 rest
put-over front [] n a b c e h = absurd (let z : ⊥ = omega arith in z)
put-over front (x ∷ []) n a b c e h = absurd (let z : ⊥ = omega arith in z)
put-over front (x ∷ y ∷ []) n a b c e h = absurd (let z : ⊥ = omega arith in z)
put-over front (x ∷ y ∷ z ∷ rest) n a b c e h =
    ap (λ (l : List ℕ). set (set l (n + 1) b) (n + 2) c) (set_at front x (y ∷ z ∷ rest) a n e)
    ∙ ap (λ (l : List ℕ). set (set l (n + 1) b) (n + 2) c) (sym (append_assoc front (a ∷ []) (y ∷ z ∷ rest)))
    ∙ ap (λ (l : List ℕ). set l (n + 2) c) (set_at (front ++ (a ∷ [])) y (z ∷ rest) b (n + 1) (omega (arith, length-append front (a ∷ []))))
    ∙ ap (λ (l : List ℕ). set l (n + 2) c) (append_assoc front (a ∷ []) (b ∷ z ∷ rest) ∙ sym (append_assoc front (a ∷ b ∷ []) (z ∷ rest)))
    ∙ set_at (front ++ (a ∷ b ∷ [])) z rest c (n + 2) (omega (arith, length-append front (a ∷ b ∷ [])))
    ∙ append_assoc front (a ∷ b ∷ []) (c ∷ rest) ∙ sym (append_assoc front (a ∷ b ∷ c ∷ []) rest)

-- entries over a buffer, and their count
abbrev pub lines_of : List ℕ → List ListEntry → Lines
lines_of old es = lines_in (over old es) (length es)

pub line-next : (old : List ℕ) (es : List ListEntry) (e : ListEntry) → length es * 3 + 3 ≤ length old → with_entry (lines_of old es) e ≡ lines_of old (es ++ (e ∷ []))
unfolding over
line-next old es e h =
    ap₂ lines_in
    (put-over (concat_map bytes_of es) (drop (length (concat_map bytes_of es)) old) (length es * 3) e.state e.letter e.moves
    (omega (arith, bytes-length es)) (omega (arith, bytes-length es, length-drop (length (concat_map bytes_of es)) old))
    ∙ ap₂ (λ (x y : List ℕ). x ++ y) (sym (bytes_next es e)) (drop-drop 3 (length (concat_map bytes_of es)) old ∙ ap (λ (n : ℕ). drop n old) m))
    (let l = length-append es (e ∷ []) in let z : length es + 1 ≡ length (es ++ (e ∷ [])) = omega arith in z)
  where
    m : length (concat_map bytes_of es) + 3 ≡ length (concat_map bytes_of (es ++ (e ∷ [])))
    m = let p = bytes-length es in let q = bytes-length (es ++ (e ∷ [])) in let l = length-append es (e ∷ []) in omega arith

pub line-none : (old : List ℕ) → lines_of old [] ≡ lines_in old 0
unfolding over
line-none old = refl

module _ (A : Automaton) (counts : List ℕ) (taken used : List Bool) (h : Sheet A counts taken used) where
  gap_same : (s c : ℕ) → s < states → c < first_remark → gap_in counts taken used s c ≡ gap_at A s c
  unfolding gap_at
  gap_same s c ls lc = ap₂ (λ (x y : Bool). x && y) (h.state-marked s ls) (ap₂ (λ (x : Bool) (n : ℕ). x && not (eqb n 1)) (h.letter-marked c lc) (h.counted s c ls lc))

  pair-into : (old : List ℕ) (es : List ListEntry) (s c : ℕ) → s < states → c < first_remark → length es * 3 + 3 ≤ length old
      → pair_into counts taken used s c (lines_of old es) ≡ lines_of old (es ++ cons_if (gap_at A s c) (gap_of A s c) [])
  pair-into old es s c ls lc room =
      ap₂ (λ (b : Bool) (n : ℕ). cond b (with_entry (lines_of old es) (record { state = s; letter = c; moves = n })) (lines_of old es)) (gap_same s c ls lc) (h.counted s c ls lc) ∙ by (gap_at A s c)
    where
      by : (b : Bool) → cond b (with_entry (lines_of old es) (gap_of A s c)) (lines_of old es) ≡ lines_of old (es ++ cons_if b (gap_of A s c) [])
      by true = line-next old es (gap_of A s c) room
      by false = ap (lines_of old) (sym (append-nil es))

  state-into : (old : List ℕ) (es : List ListEntry) (s m : ℕ) → s < states → m ≤ first_remark → (length es + m) * 3 ≤ length old
      → state_into counts taken used s m (lines_of old es) ≡ lines_of old (es ++ state_gaps A s m)
  unfolding state_into state_gaps
  state-into old es s zero ls lm room = ap (lines_of old) (sym (append-nil es))
  state-into old es s (suc m) ls lm room =
      let k = length-append es (state_gaps A s m) in
      let l = state-short A s m in
      ap (pair_into counts taken used s m) (state-into old es s m ls (omega arith) (omega arith))
      ∙ pair-into old (es ++ state_gaps A s m) s m ls (omega arith) (omega arith)
      ∙ ap (lines_of old) (append_assoc es (state_gaps A s m) (cons_if (gap_at A s m) (gap_of A s m) []))

  all-into : (old : List ℕ) (n : ℕ) → n ≤ states → list_bytes ≤ length old → all_into counts taken used n (lines_in old 0) ≡ lines_of old (gaps_in A first_remark n)
  unfolding all_into gaps_in
  all-into old zero l room = sym (line-none old)
  all-into old (suc n) l room =
      let k = gaps-short A first_remark n in
      ap (state_into counts taken used n first_remark) (all-into old n (omega arith) room)
      ∙ state-into old (gaps_in A first_remark n) n first_remark (omega arith) (omega arith) (omega arith)

-- the whole list
pub list-into : (bs counts : List ℕ) (taken used : List Bool) (old : List ℕ) → Sheet (automaton_of bs) counts taken used → list_bytes ≤ length old
    → all_into counts taken used states (lines_in old 0) ≡ lines_of old (gaps_of bs)
unfolding gaps_of
list-into bs counts taken used old h room = all-into (automaton_of bs) counts taken used h old states (omega arith) room

-- ---- letter by letter, and state by state

module _ (counts : List ℕ) (taken used : List Bool) where
  pub state-none : (s : ℕ) (l : Lines) → l ≡ state_into counts taken used s 0 l
  unfolding state_into
  state-none s l = refl

  pub state-next : (s c : ℕ) (l k m : Lines) → k ≡ state_into counts taken used s c l → m ≡ pair_into counts taken used s c k → m ≡ state_into counts taken used s (c + 1) l
  unfolding state_into
  state-next s c l k m e f = f ∙ ap (pair_into counts taken used s c) e ∙ sym (ap (λ (x : ℕ). state_into counts taken used s x l) (add-one c))

  pub all_none : (l : Lines) → l ≡ all_into counts taken used 0 l
  unfolding all_into
  all_none l = refl

  pub all-next : (s : ℕ) (l k m : Lines) → k ≡ all_into counts taken used s l → m ≡ state_into counts taken used s first_remark k → m ≡ all_into counts taken used (s + 1) l
  unfolding all_into
  all-next s l k m e f = f ∙ ap (state_into counts taken used s first_remark) e ∙ sym (ap (λ (x : ℕ). all_into counts taken used x l) (add-one s))

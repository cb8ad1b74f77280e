-- The tables record by record: with each one that is read they say what the automaton up to it has. Assumes nothing.
use Rattle.std.specs.Prelude.{◌≡◌, ◌⊎◌, Bool, ◌||◌, List, [], ◌∷◌, ◌++◌, ℕ, ◌+◌, ◌*◌, ◌≤◌, ◌<◌, ltb, length, get_or, set, replicate}
use Rattle.std.proofs.Math.Path.{refl, sym, ap}
use Rattle.std.proofs.Common.{ap₂, ◌∙◌, subst, inl, inr, le_of_eq, le_trans, arith, get_or-set_same, get_or-set_other, eqb-true, eq-eqb, ne_eqb, ltb-true, ltb-false}
use Rattle.std.proofs.Math.Bool.{true, false, cond, or-false}
use Rattle.std.proofs.Math.Dec.{eqb}
use Rattle.std.proofs.Math.ListN.{length-set, get_or-eq_default}
use Rattle.std.proofs.lemmas.List.{length-replicate, get_or-replicate}
use Rattle.std.proofs.Math.Seq.{set_out}
use Rattle.std.proofs.lemmas.Bool.{eqb-false}
use Rattle.spec_basics.specs.Tests.{eqb_comm, and-fst, and-snd, and_intro}
use Rattle.spec_basics.specs.Elements.{any}
use Rattle.spec_basics.specs.Lists.{any_append}
use Rattle.relation.specs.Relation.{states}
use Rattle.spec_language.specs.Automaton.{Transition, Automaton}
use Rattle.spec_language.specs.Remarks.{first_remark}
use Rattle.spec_file.specs.Records.{record_count, record_at, kind_at, transition_kind, final_kind}
use Rattle.spec_file.specs.Refusals.{fault}
use Rattle.spec_file.specs.Views.{transition_of, final_of, collect, transitions_of, finals_of, automaton_of}
use Rattle.spec_file.specs.declared.Transition.{Transition as FileTransition}
use Rattle.spec_file.specs.Entries.{transition_in, transition_at, final_at}
use Rattle.spec_file.proofs.EntryLaws.{whole}
use Rattle.file_tables.specs.Prefixes.{none_yet, turn}
use Rattle.spec_calls.specs.Listing.{touches, takes_state, uses_letter}
use Rattle.spec_calls.proofs.MoveCounts.{leads, moves-none, moves_next, moves-few}
use Rattle.call_gaps.specs.Sheets.{cell_of, with_move, with_mark, Sheet, up_to_record, Taken, Bytes}

-- ---- a mark

mark-at : (marks : List Bool) (k j : ℕ) → j < length marks → get_or (with_mark marks k) j false ≡ (eqb k j || get_or marks j false)
mark-at marks k j h = by (eqb k j) refl
  where
    by : (b : Bool) → eqb k j ≡ b → get_or (with_mark marks k) j false ≡ (b || get_or marks j false)
    by true e =
        let q = eqb-true k j e in
        subst (λ (x : ℕ). get_or (set marks x true) j false ≡ true) (sym q) (get_or-set_same marks j true false h)
    by false e = get_or-set_other marks k j true false (λ q. eqb-false k j e (sym q))

-- ---- a count

-- places of pairs differ
cell_same : (s c a d : ℕ) → c < first_remark → d < first_remark → cell_of s c ≡ cell_of a d → (s ≡ a) × (c ≡ d)
cell_same s c a d h k e = (omega arith, omega arith)

move_at : (counts : List ℕ) (t : Transition) (s c : ℕ) → length counts ≡ states * first_remark → s < states → c < first_remark
    → get_or (with_move counts t.source t.letter) (cell_of s c) 0 ≡ get_or counts (cell_of s c) 0 + cond (leads t s c) 1 0
move_at counts t s c z hs hc = by (ltb t.letter first_remark) refl (leads t s c) refl
  where
    same : get_or counts (cell_of s c) 0 ≡ get_or counts (cell_of s c) 0 + 0
    same = omega arith

    by : (b : Bool) → ltb t.letter first_remark ≡ b → (x : Bool) → leads t s c ≡ x
        → get_or (cond b (set counts (cell_of t.source t.letter) (get_or counts (cell_of t.source t.letter) 0 + 1)) counts) (cell_of s c) 0 ≡ get_or counts (cell_of s c) 0 + cond x 1 0
    by true p true q =
        let a = eqb-true t.source s (and-fst (eqb t.source s) (eqb t.letter c) q) in
        let d = eqb-true t.letter c (and-snd (eqb t.source s) (eqb t.letter c) q) in
        let e : cell_of t.source t.letter ≡ cell_of s c = ap₂ cell_of a d in
        let l : cell_of s c < length counts = omega arith in
        subst (λ (x : ℕ). get_or (set counts x (get_or counts x 0 + 1)) (cell_of s c) 0 ≡ get_or counts (cell_of s c) 0 + 1) (sym e) (get_or-set_same counts (cell_of s c) (get_or counts (cell_of s c) 0 + 1) 0 l)
    by true p false q =
        get_or-set_other counts (cell_of t.source t.letter) (cell_of s c) _ 0
        (λ e.
        let r = cell_same s c t.source t.letter hc (ltb-true t.letter first_remark p) e in
        let y = and_intro (eqb t.source s) (eqb t.letter c) (eq-eqb t.source s (sym r.0)) (eq-eqb t.letter c (sym r.1)) in
        let w : ◌≡◌ {A = Bool} true false = sym y ∙ q in let u : ◌≡◌ {A = ℕ} 0 1 = cc in let o : ⊥ = omega arith in o)
        ∙ same
    by false p true q =
        let d = eqb-true t.letter c (and-snd (eqb t.source s) (eqb t.letter c) q) in
        absurd (let o : ⊥ = omega (arith, ltb-false t.letter first_remark p) in o)
    by false p false q = same

move-size : (counts : List ℕ) (s c : ℕ) → length (with_move counts s c) ≡ length counts
move-size counts s c = by (ltb c first_remark)
  where
    by : (b : Bool) → length (cond b (set counts (cell_of s c) (get_or counts (cell_of s c) 0 + 1)) counts) ≡ length counts
    by true = length-set counts (cell_of s c) _
    by false = refl

-- ---- one transition, one final state

or-last : (a b : Bool) → (a || b) ≡ (b || a)
or-last true true = refl
or-last true false = refl
or-last false true = refl
or-last false false = refl

-- a test on a list with one more at its end
any_next : {A : Type 0} (f : A → Bool) (xs : List A) (x : A) → any f (xs ++ (x ∷ [])) ≡ (f x || any f xs)
any_next f xs x = any_append f xs (x ∷ []) ∙ ap (λ (b : Bool). any f xs || b) (or-false (f x)) ∙ or-last (any f xs) (f x)

module _ (ts : List Transition) (fs counts : List ℕ) (taken used : List Bool) (h : Sheet (record { transitions = ts; finals = fs }) counts taken used) where
  pub sheet-move : (t : Transition) → Sheet (record { transitions = ts ++ (t ∷ []); finals = fs }) (with_move counts t.source t.letter) (with_mark (with_mark taken t.source) t.target) (with_mark used t.letter)
  unfolding takes_state uses_letter
  sheet-move t = record {
    count-size = move-size counts t.source t.letter ∙ h.count-size;
    taken-size = length-set (with_mark taken t.source) t.target true ∙ length-set taken t.source true ∙ h.taken-size;
    used-size = length-set used t.letter true ∙ h.used-size;
    counted = λ s c ls lc. move_at counts t s c h.count-size ls lc ∙ ap (λ (n : ℕ). n + cond (leads t s c) 1 0) (h.counted s c ls lc) ∙ sym (moves_next ts t s c);
    state-marked = stage;
    letter-marked = λ c l. mark-at used t.letter c (omega (arith, h.used-size)) ∙ ap (λ (b : Bool). eqb t.letter c || b) (h.letter-marked c l) ∙ sym (any_next (λ (x : Transition). eqb x.letter c) ts t);
  }
    where
      order : (z x y m f : Bool) → (y || (x || (z || (m || f)))) ≡ (z || (((x || y) || m) || f))
      order true true true m f = refl
      order true true false m f = refl
      order true false true m f = refl
      order true false false m f = refl
      order false true true m f = refl
      order false true false m f = refl
      order false false true m f = refl
      order false false false m f = refl

      stage : (s : ℕ) → s < states → get_or (with_mark (with_mark taken t.source) t.target) s false ≡ takes_state (record { transitions = ts ++ (t ∷ []); finals = fs }) s
      stage s l =
          mark-at (with_mark taken t.source) t.target s (omega (arith, length-set taken t.source true, h.taken-size))
          ∙ ap (λ (b : Bool). eqb t.target s || b) (mark-at taken t.source s (omega (arith, h.taken-size)) ∙ ap (λ (b : Bool). eqb t.source s || b) (h.state-marked s l))
          ∙ order (eqb s 0) (eqb t.source s) (eqb t.target s) (touches ts s) (any (λ f. eqb f s) fs)
          ∙ ap (λ (b : Bool). eqb s 0 || (b || any (λ f. eqb f s) fs)) (sym (any_next (λ (x : Transition). eqb x.source s || eqb x.target s) ts t))

  pub sheet-final : (f : ℕ) → Sheet (record { transitions = ts; finals = fs ++ (f ∷ []) }) counts (with_mark taken f) used
  unfolding takes_state uses_letter
  sheet-final f = record {
    count-size = h.count-size;
    taken-size = length-set taken f true ∙ h.taken-size;
    used-size = h.used-size;
    counted = h.counted;
    state-marked = stage;
    letter-marked = h.letter-marked;
  }
    where
      order : (z m x f : Bool) → (x || (z || (m || f))) ≡ (z || (m || (x || f)))
      order true true true f = refl
      order true true false f = refl
      order true false true f = refl
      order true false false f = refl
      order false true true f = refl
      order false true false f = refl
      order false false true f = refl
      order false false false f = refl

      stage : (s : ℕ) → s < states → get_or (with_mark taken f) s false ≡ takes_state (record { transitions = ts; finals = fs ++ (f ∷ []) }) s
      stage s l =
          mark-at taken f s (omega (arith, h.taken-size)) ∙ ap (λ (b : Bool). eqb f s || b) (h.state-marked s l) ∙ order (eqb s 0) (touches ts s) (eqb f s) (any (λ g. eqb g s) fs)
          ∙ ap (λ (b : Bool). eqb s 0 || (touches ts s || b)) (sym (any_next (λ (g : ℕ). eqb g s) fs f))

-- ---- the first tables

sheet-same : {A B : Automaton} {n m : List ℕ} {p q c d : List Bool} → A ≡ B → m ≡ n → q ≡ p → d ≡ c → Sheet A n p c → Sheet B m q d
sheet-same {A} {B} {n} {m} {p} {q} {c} {d} e f g k h =
    subst (λ (x : List ℕ). Sheet B x q d) (sym f) (subst (λ (x : List Bool). Sheet B n x d) (sym g) (subst (λ (x : List Bool). Sheet B n p x) (sym k) (subst (λ (x : Automaton). Sheet x n p c) e h)))

pub sheet-none : (bs : List ℕ) → Sheet (up_to_record bs 0) (replicate (states * first_remark) 0) (with_mark (replicate states false) 0) (replicate first_remark false)
unfolding takes_state uses_letter
sheet-none bs = subst (λ (A : Automaton). Sheet A (replicate (states * first_remark) 0) (with_mark (replicate states false) 0) (replicate first_remark false)) (sym e) first
  where
    e : up_to_record bs 0 ≡ record { transitions = []; finals = [] }
    e = ap₂ (λ (ts : List Transition) (fs : List ℕ). record { transitions = ts; finals = fs }) (none_yet transition_kind transition_of bs) (none_yet final_kind final_of bs)

    zero_or : (s : ℕ) → (eqb 0 s || false) ≡ (eqb s 0 || false)
    zero_or s = ap (λ (b : Bool). b || false) (eqb_comm 0 s)

    first : Sheet (record { transitions = []; finals = [] }) (replicate (states * first_remark) 0) (with_mark (replicate states false) 0) (replicate first_remark false)
    first = record {
      count-size = length-replicate {A = ℕ} (states * first_remark) 0;
      taken-size = length-set (replicate states false) 0 true ∙ length-replicate states false;
      used-size = length-replicate first_remark false;
      counted = λ s c ls lc. get_or-replicate (states * first_remark) (cell_of s c) 0 0 (omega arith) ∙ sym (moves-none s c);
      state-marked = λ s l. mark-at (replicate states false) 0 s (omega (arith, length-replicate states false)) ∙ ap (λ (b : Bool). eqb 0 s || b) (get_or-replicate states s false false l) ∙ zero_or s;
      letter-marked = λ c l. get_or-replicate first_remark c false false l;
    }

module _ (bs counts : List ℕ) (taken used taken' : List Bool) (n : counts ≡ replicate (states * first_remark) 0) where
  pub sheet-start : taken ≡ replicate states false → used ≡ replicate first_remark false → taken' ≡ with_mark taken 0 → Sheet (up_to_record bs 0) counts taken' used
  sheet-start p c q = sheet-same refl n (q ∙ ap (λ (x : List Bool). with_mark x 0) p) c (sheet-none bs)

pub low-start : (counts : List ℕ) → counts ≡ replicate (states * first_remark) 0 → (k : ℕ) → get_or counts k 0 ≤ 0
low-start counts e k = subst (λ (x : List ℕ). get_or x k 0 ≤ 0) (sym e) (by (ltb k (states * first_remark)) refl)
  where
    by : (b : Bool) → ltb k (states * first_remark) ≡ b → get_or (replicate (states * first_remark) 0) k 0 ≤ 0
    by true p = le_of_eq (get_or-replicate (states * first_remark) k 0 0 (ltb-true k (states * first_remark) p))
    by false p = le_of_eq (get_or-eq_default (replicate (states * first_remark) 0) 0 (le_trans (le_of_eq (length-replicate {A = ℕ} (states * first_remark) 0)) (ltb-false k (states * first_remark) p)))

-- ---- one record more

module _ (bs : List ℕ) (i : ℕ) (counts : List ℕ) (taken used : List Bool) (h : Sheet (up_to_record bs i) counts taken used) where
  pub sheet-next : (counts' : List ℕ) (taken' used' : List Bool) → Taken bs i counts taken used counts' taken' used' → Sheet (up_to_record bs (i + 1)) counts' taken' used'
  sheet-next counts' taken' used' k =
      sheet-same e k.counts-then k.taken_then k.used-then (by (eqb (kind_at bs i) transition_kind) (eqb (kind_at bs i) final_kind))
    where
      e : record {
        transitions = cond (eqb (kind_at bs i) transition_kind) (collect transition_kind transition_of bs i 0 ++ (transition_of (record_at bs i) ∷ [])) (collect transition_kind transition_of bs i 0);
        finals = cond (eqb (kind_at bs i) final_kind) (collect final_kind final_of bs i 0 ++ (final_of (record_at bs i) ∷ [])) (collect final_kind final_of bs i 0);
      } ≡ up_to_record bs (i + 1)
      e =
          ap₂ (λ (x : List Transition) (y : List ℕ). record { transitions = x; finals = y })
          (turn transition_kind transition_of bs (λ xs. xs) (λ xs x. xs ++ (x ∷ [])) (λ xs x. refl) i (collect transition_kind transition_of bs i 0) refl)
          (turn final_kind final_of bs (λ xs. xs) (λ xs x. xs ++ (x ∷ [])) (λ xs x. refl) i (collect final_kind final_of bs i 0) refl)

      by : (x y : Bool) → Sheet (record {
        transitions = cond x (collect transition_kind transition_of bs i 0 ++ (transition_of (record_at bs i) ∷ [])) (collect transition_kind transition_of bs i 0);
        finals = cond y (collect final_kind final_of bs i 0 ++ (final_of (record_at bs i) ∷ [])) (collect final_kind final_of bs i 0);
      })
          (cond x (with_move counts (transition_of (record_at bs i)).source (transition_of (record_at bs i)).letter) counts)
          (cond y (with_mark (cond x (with_mark (with_mark taken (transition_of (record_at bs i)).source) (transition_of (record_at bs i)).target) taken) (final_of (record_at bs i))) (cond x (with_mark (with_mark taken (transition_of (record_at bs i)).source) (transition_of (record_at bs i)).target) taken))
          (cond x (with_mark used (transition_of (record_at bs i)).letter) used)
      by true true = sheet-final _ _ _ _ _ (sheet-move _ _ _ _ _ h (transition_of (record_at bs i))) (final_of (record_at bs i))
      by true false = sheet-move _ _ _ _ _ h (transition_of (record_at bs i))
      by false true = sheet-final _ _ _ _ _ h (final_of (record_at bs i))
      by false false = h

module _ (bs : List ℕ) (i : ℕ) (counts counts' : List ℕ) (taken used taken' used' : List Bool) where
  pub taken-move : (t : FileTransition) → i < record_count bs → t ≡ transition_at bs i → kind_at bs i ≡ transition_kind → counts' ≡ with_move counts t.source t.letter
      → taken' ≡ with_mark (with_mark taken t.source) t.target → used' ≡ with_mark used t.letter → Taken bs i counts taken used counts' taken' used'
  taken-move t l e k p q r =
      let f : t ≡ transition_in (record_at bs i) = e ∙ sym (ap transition_in (whole bs i l)) in
      let x = eq-eqb (kind_at bs i) transition_kind k in
      let y : eqb (kind_at bs i) final_kind ≡ false = ne_eqb (kind_at bs i) final_kind (λ z. let o : ⊥ = omega arith in o) in record {
        counts-then = rw (x) (p ∙ ap (λ (u : FileTransition). with_move counts u.source u.letter) f);
        taken_then = rw (x, y) (q ∙ ap (λ (u : FileTransition). with_mark (with_mark taken u.source) u.target) f);
        used-then = rw (x) (r ∙ ap (λ (u : FileTransition). with_mark used u.letter) f);
      }

module _ (bs : List ℕ) (i : ℕ) (counts : List ℕ) (taken used taken' : List Bool) (m : kind_at bs i ≡ transition_kind → ⊥) where
  pub taken-final : (f : ℕ) → i < record_count bs → f ≡ final_at bs i → kind_at bs i ≡ final_kind → taken' ≡ with_mark taken f → Taken bs i counts taken used counts taken' used
  taken-final f l e k q =
      let g : f ≡ final_of (record_at bs i) = e ∙ sym (ap final_of (whole bs i l)) in
      let x = ne_eqb (kind_at bs i) transition_kind m in
      let y = eq-eqb (kind_at bs i) final_kind k in record { counts-then = rw x; taken_then = rw (x, y) (q ∙ ap (with_mark taken) g); used-then = rw x }

  pub taken-other : (kind_at bs i ≡ final_kind → ⊥) → Taken bs i counts taken used counts taken used
  taken-other k =
      let x = ne_eqb (kind_at bs i) transition_kind m in
      let y = ne_eqb (kind_at bs i) final_kind k in record { counts-then = rw x; taken_then = rw (x, y); used-then = rw x }

-- ---- all of them

pub sheet-whole : (bs counts : List ℕ) (taken used : List Bool) → Sheet (up_to_record bs (record_count bs)) counts taken used → Sheet (automaton_of bs) counts taken used
unfolding transitions_of finals_of
sheet-whole bs counts taken used h = h

pub sheet-bytes : (bs counts : List ℕ) (taken used : List Bool) → (fault bs).number ≡ 0 → Sheet (automaton_of bs) counts taken used → Bytes counts
sheet-bytes bs counts taken used v h s c ls lc = omega (arith, h.counted s c ls lc, moves-few bs v s c)

-- ---- counts stay low

pub move-low : (counts : List ℕ) (i s c : ℕ) → ((k : ℕ) → get_or counts k 0 ≤ i) → (k : ℕ) → get_or (with_move counts s c) k 0 ≤ i + 1
move-low counts i s c h k = by (ltb c first_remark) (eqb (cell_of s c) k) refl
  where
    at : (l : ℕ) → (cell_of s c < length counts) ⊎ (length counts ≤ cell_of s c) → cell_of s c ≡ k → get_or (set counts (cell_of s c) (get_or counts (cell_of s c) 0 + 1)) k 0 ≤ i + 1
    at l (inl p) e =
        subst (λ (x : ℕ). get_or (set counts (cell_of s c) (get_or counts (cell_of s c) 0 + 1)) x 0 ≤ i + 1) e
        (omega (arith, get_or-set_same counts (cell_of s c) (get_or counts (cell_of s c) 0 + 1) 0 p, h (cell_of s c)))
    at l (inr p) e = subst (λ (x : List ℕ). get_or x k 0 ≤ i + 1) (sym (set_out counts (cell_of s c) (get_or counts (cell_of s c) 0 + 1) p)) (omega (arith, h k))

    room : (b : Bool) → ltb (cell_of s c) (length counts) ≡ b → (cell_of s c < length counts) ⊎ (length counts ≤ cell_of s c)
    room true e = inl (ltb-true (cell_of s c) (length counts) e)
    room false e = inr (ltb-false (cell_of s c) (length counts) e)

    by : (b x : Bool) → eqb (cell_of s c) k ≡ x → get_or (cond b (set counts (cell_of s c) (get_or counts (cell_of s c) 0 + 1)) counts) k 0 ≤ i + 1
    by true true e = at 0 (room (ltb (cell_of s c) (length counts)) refl) (eqb-true (cell_of s c) k e)
    by true false e = omega (arith, get_or-set_other counts (cell_of s c) k (get_or counts (cell_of s c) 0 + 1) 0 (λ q. eqb-false (cell_of s c) k e (sym q)), h k)
    by false x e = omega (arith, h k)

pub taken-low : (bs : List ℕ) (i : ℕ) (counts counts' : List ℕ) (taken used taken' used' : List Bool) → Taken bs i counts taken used counts' taken' used' → ((k : ℕ) → get_or counts k 0 ≤ i) → (k : ℕ) → get_or counts' k 0 ≤ i + 1
taken-low bs i counts counts' taken used taken' used' t h k =
    subst (λ (x : List ℕ). get_or x k 0 ≤ i + 1) (sym t.counts-then) (by (eqb (kind_at bs i) transition_kind))
  where
    by : (b : Bool) → get_or (cond b (with_move counts (transition_of (record_at bs i)).source (transition_of (record_at bs i)).letter) counts) k 0 ≤ i + 1
    by true = move-low counts i (transition_of (record_at bs i)).source (transition_of (record_at bs i)).letter h k
    by false = omega (arith, h k)

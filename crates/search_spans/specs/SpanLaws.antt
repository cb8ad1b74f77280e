-- Measuring the lists, one after the other, and what is read of them. Assumes nothing.
use Rattle.std.specs.Prelude.{◌≡◌, refl, Bool, true, false, cond, List, [], ◌∷◌, ℕ, zero, suc, ◌+◌, ◌≤◌, ◌<◌, eqb, ltb, length, get_or, set}
use Rattle.std.proofs.Common.{sym, ap, ◌∙◌, subst, arith, length-set, get_or-set_same, get_or-set_other, lt-ltb, ltb-true, eqb-true}
use Rattle.std.proofs.Math.Arith.{lt_of_le-ne}
use Rattle.std.proofs.lemmas.Bool.{eqb-false}
use Rattle.spec_file.specs.Limits.{nonterminals}
use Rattle.spec_language.specs.Grammar.{nonterminal}
use Rattle.search_state.specs.Forming.{Part, some}
use Rattle.search_state.specs.Layout.{row_cells, head_cell, list_cells, step_cell, end_cell, span_cells, end}
use Rattle.search_order.specs.Lists.{after_in, Chain, ListedAs}
use Rattle.search_order.specs.PlaceLaws.{begins-nonterminal}
use Rattle.search_order.specs.Places.{FirstPosition}
use Rattle.search_spans.specs.Spans.{Along, MeasuredAt, Measured, NoneLeads, Measures, MeasuresOne, Spans}

-- ---- along a list

-- after a row comes what its cell has
pub row-after : (lists : List ℕ) (i : ℕ) → i < row_cells → after_in lists i ≡ get_or lists i 0
row-after lists i h = ap (λ (b : Bool). cond b (get_or lists i 0) end) (lt-ltb i row_cells h)

-- the steps lead to an old row, if they begin at one
pub along-below : (lists : List ℕ) (b i n k : ℕ) → Along lists b i n k → i < b → k < b
along-below lists b i zero k e h = subst (λ (j : ℕ). j < b) (sym e) h
along-below lists b i (suc n) k (j, a, e, l) h = l

-- lists with the same rows lead the same way
module _ (old new : List ℕ) (same : (i : ℕ) → i < row_cells → get_or new i 0 ≡ get_or old i 0) where
  after_same : (i : ℕ) → after_in new i ≡ after_in old i
  after_same i = by (ltb i row_cells) refl
    where
      by : (t : Bool) → ltb i row_cells ≡ t → cond t (get_or new i 0) end ≡ cond t (get_or old i 0) end
      by true e = same i (ltb-true i row_cells e)
      by false e = refl

  along-same : (b i n k : ℕ) → Along old b i n k → Along new b i n k
  along-same b i zero k e = e
  along-same b i (suc n) k (j, a, e, l) = (j, along-same b i n j a, e ∙ sym (after_same j), l)

  chain_same : (i : ℕ) (ks : List ℕ) → Chain old i ks → Chain new i ks
  chain_same i [] c = c
  chain_same i (k ∷ ks) (h, e, c) = (h, e, subst (λ (m : ℕ). Chain new m ks) (sym (after_same i)) (chain_same (after_in old i) ks c))

  -- with the cells of one nonterminal too
  measured-same : (b x : ℕ) → get_or new (head_cell x) 0 ≡ get_or old (head_cell x) 0 → get_or new (step_cell x) 0 ≡ get_or old (step_cell x) 0 → get_or new (end_cell x) 0 ≡ get_or old (end_cell x) 0
      → MeasuredAt b old x → MeasuredAt b new x
  measured-same b x eh es ee m l l' =
      let i = get_or old (head_cell x) 0 in
      let a = m (subst (λ (z : ℕ). z < b) eh l) (subst (λ (z : ℕ). z < b) (after_same i) (subst (λ (z : ℕ). after_in new z < b) eh l')) in
      subst (λ (z : ℕ). Along new b z (get_or new (step_cell x) 0) (get_or new (end_cell x) 0)) (sym eh)
      (subst (λ (z : ℕ). Along new b i z (get_or new (end_cell x) 0)) (sym es)
      (subst (λ (z : ℕ). Along new b i (get_or old (step_cell x) 0) z) (sym ee) (along-same b i (get_or old (step_cell x) 0) (get_or old (end_cell x) 0) a)))

-- measured lists list the same rows
pub measures-listed : (live : ℕ → List ℕ) {b : ℕ} {old new : List ℕ} → Measures b old new → ListedAs live old → ListedAs live new
measures-listed live {b} {old} {new} m l x h =
    subst (λ (i : ℕ). Chain new i (live x)) (sym (m.lists (head_cell x) (omega (arith, h)))) (chain_same old new (λ i k. m.lists i (omega (arith, k))) (get_or old (head_cell x) 0) (live x) (l x h))

-- ---- measuring

-- the first m nonterminals are measured, and the lists as they were
pub record MeasuresTo (b m : ℕ) (old new : List ℕ) : Type 0 where
  pub size : length new ≡ length old
  pub lists : (i : ℕ) → i < list_cells → get_or new i 0 ≡ get_or old i 0
  pub measured : (x : ℕ) → x < m → MeasuredAt b new x

-- a list that begins with no two old rows needs no cells
pub one_none : (b x : ℕ) (t : List ℕ) → (get_or t (head_cell x) 0 < b → after_in t (get_or t (head_cell x) 0) < b → ⊥) → MeasuresOne b x t t
one_none b x t n = record { size = refl; others = λ i p q. refl; measured = λ l l'. absurd (n l l') }

module _ (b x : ℕ) (hx : x < nonterminals) (old : List ℕ) (z : span_cells ≤ length old) (n k : ℕ) (a : Along old b (get_or old (head_cell x) 0) n k) where
  abbrev noted : List ℕ
  noted = set (set old (step_cell x) n) (end_cell x) k

  other : (i : ℕ) → (i ≡ step_cell x → ⊥) → (i ≡ end_cell x → ⊥) → get_or noted i 0 ≡ get_or old i 0
  other i p q = get_or-set_other (set old (step_cell x) n) (end_cell x) i k 0 q ∙ get_or-set_other old (step_cell x) i n 0 p

  steps-there : get_or noted (step_cell x) 0 ≡ n
  steps-there = get_or-set_other (set old (step_cell x) n) (end_cell x) (step_cell x) k 0 (λ e. omega (arith, e)) ∙ get_or-set_same old (step_cell x) n 0 (omega (arith, z, hx))

  end-there : get_or noted (end_cell x) 0 ≡ k
  end-there = get_or-set_same (set old (step_cell x) n) (end_cell x) k 0 (omega (arith, z, hx, length-set old (step_cell x) n))

  pub one-noted : MeasuresOne b x old noted
  one-noted =
      record {
        size = length-set (set old (step_cell x) n) (end_cell x) k ∙ length-set old (step_cell x) n;
        others = other;
        measured = λ l l'.
            subst (λ (i : ℕ). Along noted b i (get_or noted (step_cell x) 0) (get_or noted (end_cell x) 0)) (sym (other (head_cell x) (λ e. omega (arith, e, hx)) (λ e. omega (arith, e, hx))))
            (subst (λ (m : ℕ). Along noted b (get_or old (head_cell x) 0) m (get_or noted (end_cell x) 0)) (sym steps-there)
            (subst (λ (m : ℕ). Along noted b (get_or old (head_cell x) 0) n m) (sym end-there)
            (along-same old noted (λ i m. other i (λ e. omega (arith, e, m)) (λ e. omega (arith, e, m))) b (get_or old (head_cell x) 0) n k a)));
      }

pub to_none : (b : ℕ) (t : List ℕ) → MeasuresTo b 0 t t
to_none b t = record { size = refl; lists = λ i l. refl; measured = λ x h. absurd (omega (arith, h)) }

pub to-next : (b m : ℕ) (old mid new : List ℕ) → m < nonterminals → MeasuresTo b m old mid → MeasuresOne b m mid new → MeasuresTo b (m + 1) old new
to-next b m old mid new hm s o =
    record {
      size = o.size ∙ s.size;
      lists = λ i l. o.others i (λ e. omega (arith, e, l)) (λ e. omega (arith, e, l)) ∙ s.lists i l;
      measured = λ x h. by x h (eqb x m) refl;
    }
  where
    by : (x : ℕ) → x < m + 1 → (t : Bool) → eqb x m ≡ t → MeasuredAt b new x
    by x h true e = subst (λ (y : ℕ). MeasuredAt b new y) (sym (eqb-true x m e)) o.measured
    by x h false e =
        let n : x < m = lt_of_le-ne (omega (arith, h)) (eqb-false x m e) in
        measured-same mid new (λ i k. o.others i (λ q. omega (arith, q, k)) (λ q. omega (arith, q, k))) b x
        (o.others (head_cell x) (λ q. omega (arith, q, n, hm)) (λ q. omega (arith, q, n, hm)))
        (o.others (step_cell x) (λ q. omega (arith, q, n)) (λ q. omega (arith, q, n, hm)))
        (o.others (end_cell x) (λ q. omega (arith, q, n, hm)) (λ q. omega (arith, q, n))) (s.measured x n)

pub to-all : (b : ℕ) (old new : List ℕ) → MeasuresTo b nonterminals old new → Measures b old new
to-all b old new s = record { size = s.size; lists = s.lists; measured = s.measured }

pub leads-none : (b : ℕ) (t : List ℕ) → NoneLeads b 0 t
leads-none b t i h = absurd (omega (arith, h))

pub leads-next : (b m : ℕ) (t : List ℕ) → (get_or t m 0 < b → ⊥) → NoneLeads b m t → NoneLeads b (m + 1) t
leads-next b m t z n i h = by (eqb i m) refl
  where
    by : (e : Bool) → eqb i m ≡ e → get_or t i 0 < b → ⊥
    by true e l = z (subst (λ (k : ℕ). get_or t k 0 < b) (eqb-true i m e) l)
    by false e l = n i (lt_of_le-ne (omega (arith, h)) (eqb-false i m e)) l

-- where no old row leads to another, there is nothing to note
pub measures-none : (b : ℕ) (t : List ℕ) → b ≤ row_cells → NoneLeads b b t → Measures b t t
measures-none b t fits n =
    record { size = refl; lists = λ i l. refl; measured = λ x h l l'. absurd (n (get_or t (head_cell x) 0) l (subst (λ (k : ℕ). k < b) (row-after t (get_or t (head_cell x) 0) (omega (arith, l, fits))) l')) }

-- ---- what is read

pub spans-alone : (b : ℕ) (lists : List ℕ) (p : Part) (i : ℕ) → FirstPosition lists p i → Spans b lists p (record { first = i; steps = 0; last = i })
spans-alone b lists p i h = record { first = h; along = refl; few = omega arith }

pub spans-list : (b : ℕ) (lists : List ℕ) (x : ℕ) → x < nonterminals → Measured b lists → get_or lists (head_cell x) 0 < b → after_in lists (get_or lists (head_cell x) 0) < b → get_or lists (step_cell x) 0 ≤ 4294967295
    → Spans b lists (some (nonterminal x)) (record { first = get_or lists (head_cell x) 0; steps = get_or lists (step_cell x) 0; last = get_or lists (end_cell x) 0 })
spans-list b lists x h m l l' few = record { first = begins-nonterminal lists x (omega (arith, h)); along = m x h l l'; few = few }

-- The links, copied when a pass begins, are the lists of the pass. Assumes nothing.
use Rattle.std.specs.Prelude.{◌≡◌, refl, Bool, true, false, cond, List, ◌∷◌, ◌⊎◌, ℕ, zero, suc, ◌+◌, ◌≤◌, ◌<◌, eqb, ltb, length, get_or, drop, set}
use Rattle.std.proofs.Common.{sym, ap, ◌∙◌, subst, inl, inr, arith, length-set, get_or-drop, get_or-set_same, get_or-set_other, lt-ltb, ltb-true, ltb-false, eqb-true}
use Rattle.std.proofs.lemmas.Bool.{false≢true, eqb-false}
use Rattle.std.proofs.Math.Arith.{lt_of_le-ne}
use Rattle.std.proofs.Math.Seq.{drop-length}
use Rattle.spec_order.specs.Journal.{Row, live_of}
use Rattle.search_state.specs.Layout.{row_cells, heads, head_cell, list_cells, lists_from, table_cells, lists_in, end}
use Rattle.search_order.specs.Lists.{after_in, Chain, live_numbers, Listed}
use Rattle.search_links.specs.Covers.{live_at, Reach, Covering}
use Rattle.search_links.specs.CoverLaws.{live_inside, covering-links}
use Rattle.search_links.specs.RowLaws.{there}
use Rattle.search_links.specs.Rows.{IsAt}

-- the links are as they were, and those of the first u rows and of the nonterminals stand in the lists
pub record Gathered (u : ℕ) (old new : List ℕ) : Type 0 where
  pub size : length new ≡ length old
  pub links : (i : ℕ) → i < lists_from → get_or new i 0 ≡ get_or old i 0
  pub rows : (i : ℕ) → i < u → get_or (lists_in new) i 0 ≡ get_or old i 0
  pub firsts : (x : ℕ) → x < heads → get_or (lists_in new) (head_cell x) 0 ≡ get_or old (head_cell x) 0

-- the links of the cells from a up to b have been copied, and the others are as they were
pub record Copied (a b : ℕ) (old new : List ℕ) : Type 0 where
  pub size : length new ≡ length old
  pub links : (i : ℕ) → i < lists_from → get_or new i 0 ≡ get_or old i 0
  pub copies : (i : ℕ) → a ≤ i → i < b → get_or new (lists_from + i) 0 ≡ get_or old i 0
  pub before : (i : ℕ) → i < a → get_or new (lists_from + i) 0 ≡ get_or old (lists_from + i) 0

pub copied_none : (a : ℕ) (t : List ℕ) → Copied a a t t
copied_none a t = record { size = refl; links = λ i l. refl; copies = λ i l m. absurd (omega (arith, l, m)); before = λ i l. refl }

pub copied_next : (a b : ℕ) (old new : List ℕ) → a ≤ b → b < list_cells → length old ≡ table_cells → Copied a b old new → Copied a (b + 1) old (set new (lists_from + b) (get_or new b 0))
copied_next a b old new h l n c =
    let v : ℕ = get_or new b 0 in
    record {
      size = length-set new (lists_from + b) v ∙ c.size;
      links = λ i m. get_or-set_other new (lists_from + b) i v 0 (λ e. omega (arith, e, m)) ∙ c.links i m;
      copies = λ i m k. by i m k (eqb i b) refl;
      before = λ i m. get_or-set_other new (lists_from + b) (lists_from + i) v 0 (λ e. omega (arith, e, m, h)) ∙ c.before i m;
    }
  where
    by : (i : ℕ) → a ≤ i → i < b + 1 → (t : Bool) → eqb i b ≡ t → get_or (set new (lists_from + b) (get_or new b 0)) (lists_from + i) 0 ≡ get_or old i 0
    by i m k true e =
        let q : i ≡ b = eqb-true i b e in
        ap (λ (z : ℕ). get_or (set new (lists_from + b) (get_or new b 0)) (lists_from + z) 0) q ∙ get_or-set_same new (lists_from + b) (get_or new b 0) 0 (omega (arith, c.size, n, l))
        ∙ c.links b (omega (arith, l)) ∙ ap (λ (z : ℕ). get_or old z 0) (sym q)
    by i m k false e =
        get_or-set_other new (lists_from + b) (lists_from + i) (get_or new b 0) 0 (λ z. eqb-false i b e (omega (arith, z)))
        ∙ c.copies i m (lt_of_le-ne (omega (arith, k)) (eqb-false i b e))

pub gathered-both : (u : ℕ) (old mid new : List ℕ) → u ≤ row_cells → length old ≡ table_cells → Copied 0 u old mid → Copied row_cells list_cells mid new → Gathered u old new
gathered-both u old mid new l n a b =
    record {
      size = b.size ∙ a.size;
      links = λ i m. b.links i m ∙ a.links i m;
      rows = λ i m. get_or-drop lists_from new i 0 ∙ b.before i (omega (arith, m, l)) ∙ a.copies i (omega arith) m;
      firsts = λ x m. get_or-drop lists_from new (head_cell x) 0 ∙ b.copies (head_cell x) (omega arith) (omega (arith, m)) ∙ a.links (head_cell x) (omega (arith, m));
    }

module _ {E : Type 0} (A : List (Row E)) (limit : length A ≤ row_cells) (old new : List ℕ) (g : Covering A old) (h : Gathered (length A) old new) where
  -- the positions from v on are the live rows of x from row n on
  abbrev Rest : ℕ → ℕ → ℕ → Type 0
  Rest x n v = Chain (lists_in new) v (live_numbers n (drop n A) x)

  rest-none : (x n v : ℕ) → n ≡ length A → Reach x A n v → Rest x n v
  rest-none x n v e r =
      subst (λ (rs : List (Row E)). Chain (lists_in new) v (live_numbers n rs x)) (sym (ap (λ (m : ℕ). drop m A) e ∙ drop-length A)) (ended r.stop)
    where
      ended : (v ≡ end) ⊎ (live_at x A v ≡ true) → v ≡ end
      ended (inl z) = z
      ended (inr z) = absurd (omega (arith, live_inside x A v z, r.within, e))

  module _ (x : ℕ) (hx : x < heads) (n : ℕ) (inside : n < length A) where
    -- a live row is where the list goes on
    here : (v : ℕ) → live_at x A n ≡ true → Reach x A n v → v ≡ n
    here v y r = by (ltb n v) refl
      where
        by : (b : Bool) → ltb n v ≡ b → v ≡ n
        by true e = absurd (false≢true (sym (r.gap n (omega arith) (ltb-true n v e)) ∙ y))
        by false e = omega (arith, ltb-false n v e, r.within)

    -- and another row is passed over
    past : (v : ℕ) → live_at x A n ≡ false → Reach x A n v → Reach x A (suc n) v
    past v y r =
        record { within = lt_of_le-ne r.within (λ e. dead r.stop (sym e)); gap = λ i a b. r.gap i (omega (arith, a)) b; stop = r.stop }
      where
        dead : (v ≡ end) ⊎ (live_at x A v ≡ true) → v ≡ n → ⊥
        dead (inl z) e = omega (arith, z, e, inside, limit)
        dead (inr z) e = false≢true (sym y ∙ ap (live_at x A) (sym e) ∙ z)

    rest_some : ((v : ℕ) → Reach x A (suc n) v → Rest x (suc n) v) → (v : ℕ) → Reach x A n v → Rest x n v
    rest_some f v r =
        subst (λ (rs : List (Row E)). Chain (lists_in new) v (live_numbers n rs x)) (sym row.2) (by (live_of x row.0) (row.1 (live_of x)))
      where
        row : (r : Row E) × IsAt A n r × (drop n A ≡ r ∷ drop (suc n) A)
        row = there A n inside

        after : after_in (lists_in new) n ≡ get_or old n 0
        after = ap (λ (b : Bool). cond b (get_or (lists_in new) n 0) end) (lt-ltb n row_cells (omega (arith, inside, limit))) ∙ h.rows n inside

        by : (b : Bool) → live_at x A n ≡ b → Chain (lists_in new) v (cond b (n ∷ live_numbers (suc n) (drop (suc n) A) x) (live_numbers (suc n) (drop (suc n) A) x))
        by true y =
            subst (λ (m : ℕ). Chain (lists_in new) m (n ∷ live_numbers (suc n) (drop (suc n) A) x)) (sym (here v y r)) (
              λ z. omega (arith, z, inside, limit),
              refl,
              subst (λ (m : ℕ). Rest x (suc n) m) (sym after) (f (get_or old n 0) (g.reach x n (suc n) hx (inr (y, refl)))),
            )
        by false y = f v (past v y r)

  rest_from : (x : ℕ) → x < heads → (k n : ℕ) → n + k ≡ length A → (v : ℕ) → Reach x A n v → Rest x n v
  rest_from x hx zero n e v r = rest-none x n v (omega (arith, e)) r
  rest_from x hx (suc k) n e v r = rest_some x hx n (omega (arith, e)) (λ u q. rest_from x hx k (suc n) (omega (arith, e)) u q) v r

  pub gathered-listed : Listed A (lists_in new)
  gathered-listed x hx =
      subst (λ (v : ℕ). Rest x 0 v) (sym (h.firsts x hx)) (rest_from x hx (length A) 0 (omega arith) (get_or old (head_cell x) 0) (g.reach x (head_cell x) 0 hx (inl (refl, refl))))

  pub gathered-covering : Covering A new
  gathered-covering = covering-links A old new limit h.size (λ i m. h.links i (omega (arith, m))) g

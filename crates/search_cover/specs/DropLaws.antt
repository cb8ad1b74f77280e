-- Rows that retire are dropped from the numbers, one place after the other. Assumes nothing.
use Rattle.std.specs.Prelude.{◌≡◌, refl, Bool, true, false, cond, List, ℕ, ◌+◌, ◌≤◌, ◌<◌, ltb, length, get_or, set}
use Rattle.std.proofs.Common.{sym, ap, ◌∙◌, subst, subst₂, true≢false, arith, length-set, get_or-set_same, get_or-set_other, ltb-true, ltb-false}
use Rattle.relation.specs.Relation.{contained}
use Rattle.relation.specs.Representation.{relation_words}
use Rattle.search_state.specs.Layout.{row_cells}
use Rattle.search_cover.specs.Near.{near_words, count_of, row_effect_at, row_head_at, number_at, effect_at, Numbers, Among}
use Rattle.search_cover.specs.NearLaws.{SameAbove, set-low, above_rows, above-among, above-number, above-numbers, rows-twice, rows_none, numbers-none, with-length, with-low, with_rows, with-number, with-number-other, numbers_more, among-old, among-new}
use Rattle.search_cover.specs.Steps.{with_number, Ready, SameRows, kept_at, Keeps, Drops}

-- of the first i numbers of w₀, k are kept in w, and the others are as they were
pub record Dropping (e : ℕ) (w₀ : List ℕ) (i k : ℕ) (w : List ℕ) : Type 0 where
  pub size : length w ≡ near_words
  pub same : SameRows w₀ w
  pub low : (p : ℕ) → p < relation_words → get_or w p 0 ≡ get_or w₀ p 0
  pub rest : (m : ℕ) → i ≤ m → m < row_cells → number_at w m ≡ number_at w₀ m
  pub keeps : Keeps e w₀ i k w
  pub keys : (x m : ℕ) → Numbers x m (count_of w₀) w₀ → Numbers x m k w

-- at a place before i, or at i
up_to : (P : ℕ → Type 0) (i : ℕ) → ((m : ℕ) → m < i → P m) → P i → (m : ℕ) → m < i + 1 → P m
up_to P i a b m l = by (ltb m i) refl
  where
    by : (t : Bool) → ltb m i ≡ t → P m
    by true q = a m (ltb-true m i q)
    by false q = let z : i ≡ m = omega (arith, ltb-false m i q, l) in subst P z b

wider : {w : List ℕ} {n m v : ℕ} → n ≤ m → Among w n v → Among w m v
wider h a = record { place = a.place; inside = omega (arith, a.inside, h); is = a.is }

module _ (e : ℕ) (w₀ : List ℕ) (ready : Ready row_cells w₀) where
  pub drop-first : Dropping e w₀ 0 0 w₀
  drop-first =
      record {
        size = ready.size;
        same = rows_none w₀;
        low = λ p l. refl;
        rest = λ m a b. refl;
        keeps = record { few = omega arith; old = λ m l. absurd (omega (arith, l)); kept = λ m l z. absurd (omega (arith, l)) };
        keys = λ x m g. numbers-none x m w₀;
      }

  -- nothing is dropped
  pub drop-none : Drops e w₀ w₀
  drop-none =
      record {
        size = ready.size;
        same = rows_none w₀;
        head = refl;
        keeps = record { few = omega arith; old = λ m l. record { place = m; inside = l; is = refl }; kept = λ m l z. record { place = m; inside = l; is = refl } };
        keys = λ x m g. g;
      }

  module _ {i k : ℕ} {w : List ℕ} (d : Dropping e w₀ i k w) (hi : i < count_of w₀) where
    in_cells : i < row_cells
    in_cells = omega (arith, hi, ready.few)

    number_is : number_at w i ≡ number_at w₀ i
    number_is = d.rest i (omega arith) in_cells

    effect_is : effect_at w i ≡ effect_at w₀ i
    effect_is = ap (row_effect_at w) number_is ∙ d.same.effects (number_at w₀ i)

    pub drop-inside : number_at w i < row_cells
    drop-inside = subst (λ (v : ℕ). v < row_cells) (sym number_is) (ready.numbers.inside i hi)

    pub drop-next : {k' : ℕ} {w' : List ℕ} → ◌≡◌ {A = ℕ × List ℕ} (k', w') (kept_at e w i k) → Dropping e w₀ (i + 1) k' w'
    drop-next {k'} {w'} q = by (contained e (effect_at w i)) refl q
      where
        v : ℕ
        v = number_at w i

        gone : contained e (effect_at w i) ≡ true → Dropping e w₀ (i + 1) k w
        gone t =
            record {
              size = d.size;
              same = d.same;
              low = d.low;
              rest = λ m a b. d.rest m (omega (arith, a)) b;
              keeps =
                  record {
                    few = omega (arith, d.keeps.few);
                    old = λ m l. wider (omega arith) (d.keeps.old m l);
                    kept = up_to (λ (m : ℕ). contained e (effect_at w₀ m) ≡ false → Among w k (number_at w₀ m)) i d.keeps.kept (λ z. absurd (true≢false (sym t ∙ ap (contained e) effect_is ∙ z)));
                  };
              keys = d.keys;
            }

        stays : Dropping e w₀ (i + 1) (k + 1) (with_number w k v)
        stays =
            let room : k < row_cells = omega (arith, d.keeps.few, in_cells) in
            let old : (m : ℕ) → m < k → number_at (with_number w k v) m ≡ number_at w m = λ m l. with-number-other w k v d.size room m (omega (arith, l, room)) (λ z. omega (arith, z, l)) in
            record {
              size = with-length w k v d.size room;
              same = rows-twice d.same (with_rows w k v d.size room);
              low = λ p l. with-low w k v d.size room p l ∙ d.low p l;
              rest = λ m a b. with-number-other w k v d.size room m b (λ z. omega (arith, z, a, d.keeps.few)) ∙ d.rest m (omega (arith, a)) b;
              keeps =
                  record {
                    few = omega (arith, d.keeps.few);
                    old =
                        up_to (λ (m : ℕ). Among w₀ (i + 1) (number_at (with_number w k v) m)) k
                        (λ m l. subst (Among w₀ (i + 1)) (sym (old m l)) (wider (omega arith) (d.keeps.old m l)))
                        (record { place = i; inside = omega arith; is = sym (with-number w k v d.size room ∙ number_is) });
                    kept =
                        up_to (λ (m : ℕ). contained e (effect_at w₀ m) ≡ false → Among (with_number w k v) (k + 1) (number_at w₀ m)) i
                        (λ m l z. among-old w k v d.size room (d.keeps.kept m l z))
                        (λ z. subst (Among (with_number w k v) (k + 1)) number_is (among-new w k v d.size room));
                  };
              keys = λ x m g. numbers_more w k v d.size room (subst (λ (y : ℕ). y < m) (sym number_is) (g.inside i hi)) (ap (row_head_at w) number_is ∙ d.same.heads-of (number_at w₀ i) ∙ g.heads-of i hi) (d.keys x m g);
            }

        by : (b : Bool) → contained e (effect_at w i) ≡ b → ◌≡◌ {A = ℕ × List ℕ} (k', w') (cond b (k, w) (k + 1, with_number w k v)) → Dropping e w₀ (i + 1) k' w'
        by true t z = subst₂ (Dropping e w₀ (i + 1)) (sym (ap (λ (y : ℕ × List ℕ). y.0) z)) (sym (ap (λ (y : ℕ × List ℕ). y.1) z)) (gone t)
        by false t z = subst₂ (Dropping e w₀ (i + 1)) (sym (ap (λ (y : ℕ × List ℕ). y.0) z)) (sym (ap (λ (y : ℕ × List ℕ). y.1) z)) stays

  -- at the end their count is noted
  pub drop-ended : {k : ℕ} {w : List ℕ} → Dropping e w₀ (count_of w₀) k w → Drops e w₀ (set w 1 k)
  drop-ended {k} {w} d =
      record {
        size = length-set w 1 k ∙ d.size;
        same = rows-twice d.same (above_rows above);
        head = get_or-set_other w 1 0 k 0 (λ z. omega (arith, z)) ∙ d.low 0 (omega arith);
        keeps =
            record {
              few = omega (arith, count, d.keeps.few);
              old = λ m l. subst (Among w₀ (count_of w₀)) (sym (above-number above m)) (d.keeps.old m (omega (arith, l, count)));
              kept = λ m l z. subst (λ (n : ℕ). Among (set w 1 k) n (number_at w₀ m)) (sym count) (above-among above (d.keeps.kept m l z));
            };
        keys = λ x m g. subst (λ (n : ℕ). Numbers x m n (set w 1 k)) (sym count) (above-numbers above (d.keys x m g));
      }
    where
      above : SameAbove w (set w 1 k)
      above = set-low w 1 k (omega arith)

      count : count_of (set w 1 k) ≡ k
      count = get_or-set_same w 1 k 0 (omega (arith, d.size))

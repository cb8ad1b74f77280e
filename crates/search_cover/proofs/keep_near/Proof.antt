-- `search_cover::keep_near` meets its contract: no row is new, or the new one is noted, larger ones are dropped, and it stands last. Assumes
-- nothing.
use mathlib.Core.Path.{◌≡◌, refl, sym, ap, ◌∙◌, subst}
use mathlib.Core.List.{List}
use mathlib.Core.Bool.{true≢false}
use Prim.Native.Nat.{ℕ}
use native.Mathlib.Omega.{arith}
use borrow.Author.Rules.{rules}
use Rattle.search_rows.specs.Meanings.{candidate_of}
use Rattle.search_cover.specs.Near.{count_of}
use Rattle.search_cover.specs.NearLaws.{row_other, row-ready}
use Rattle.search_cover.specs.Steps.{with_row, with_last, Drops}
use Rattle.search_cover.proofs.keep_near.Statement.{statement}
use Rattle.search_cover.proofs.keep_near.Tie as tie

-- the words after the row was noted, and after larger ones were dropped
through : (w : List ℕ) (u x e : ℕ) (w₁ w₂ w' : List ℕ) → w₁ ≡ with_row w u x e → Drops e w₁ w₂ → w' ≡ with_last w₂ u → (v : List ℕ) × Drops e (with_row w u x e) v × (w' ≡ with_last v u)
through w u x e w₁ w₂ w' n d p = (w₂, subst (λ (v : List ℕ). Drops e v w₂) n d, p)

returns : tie.Need-returns-then-fate
returns c = record { idle = λ _. refl; new = λ e. absurd (true≢false (sym c.if-fate.true ∙ e)) }

note-requires : tie.Need-note_row-requires
note-requires c κs =
    let i = c.before.before in
    let st = i.before.before.before in
    (st.requires.0, (st.requires.1 i.if-fate.false).1)

drop-requires : tie.Need-drop_above-requires
drop-requires c κs =
    let n = c.before.before.before in
    let i = n.before.before.before in
    let st = i.before.before.before in
    let room = st.requires.1 i.if-fate.false in
    rw n.note_row.ensures (row-ready st.args.near.now st.args.state.counts.used st.args.candidate.head (candidate_of st.args.candidate).effect st.requires.0 room.1 room.0)

last-requires : tie.Need-put_last-requires
last-requires c κs =
    let d = c.before.before.before in
    let n = d.before.before.before.before in
    let i = n.before.before.before in
    let st = i.before.before.before in
    let room = st.requires.1 i.if-fate.false in
    let w = st.args.near.now in
    let u = st.args.state.counts.used in
    let x = st.args.candidate.head in
    let e = (candidate_of st.args.candidate).effect in
    (d.drop_above.ensures.size, omega (arith, d.drop_above.ensures.keeps.few, ap (λ (v : List ℕ). count_of v) n.note_row.ensures, row_other w u x e st.requires.0 room.1 1 (omega arith), room.0.few, room.1), room.1)

returns-2 : tie.Need-returns
returns-2 c =
    let p = c.before.before in
    let d = p.before.before.before.before in
    let n = d.before.before.before.before in
    let i = n.before.before.before in
    let st = i.before.before.before in
    record {
      idle = λ z. absurd (true≢false (sym z ∙ i.if-fate.false));
      new = λ _. through st.args.near.now st.args.state.counts.used st.args.candidate.head (candidate_of st.args.candidate).effect _ _ _ n.note_row.ensures d.drop_above.ensures p.put_last.ensures;
    }

pub keep_near_spec : {M : Type 1} → statement M
keep_near_spec = tie.close (tie.spec returns note-requires drop-requires last-requires (λ c. search rules) returns-2)

-- A candidate that is formed with its own effect is the candidate. Assumes nothing.
use Rattle.std.specs.Prelude.{◌≡◌, List, [], ℕ}
use Rattle.std.proofs.Math.Path.{refl}
use Rattle.spec_language.specs.Grammar.{Symbol, terminal, nonterminal, Body, empty, one, two}
use Rattle.spec_order.specs.Candidates.{bare, sole, paired}
use Rattle.spec_calls.specs.Rows.{row_of}
use Rattle.spec_calls.specs.declared.Row.{Row as LentRow}
use Rattle.search_state.specs.Forming.{Composing, entry_at, left_part, right_part, part_choice, combined}
use Rattle.search_state.specs.declared.State.{State}
use Rattle.search_rows.specs.Base.{Row}
use Rattle.search_rows.specs.Forming.{among_first, formed_in, with_effect, formed_with}
use Rattle.search_rows.specs.Meanings.{composing_of}

module _ (F G : Composing ℕ) (x r i k : ℕ) (left right : Row) where
  same_body : (b : Body) → with_effect (combined F x r b (part_choice F (left_part b) i left) (part_choice F (right_part b) k right)).effect (combined G x r b (part_choice G (left_part b) i left) (part_choice G (right_part b) k right))
      ≡ combined F x r b (part_choice F (left_part b) i left) (part_choice F (right_part b) k right)
  unfolding bare sole paired
  same_body empty = refl
  same_body (one (terminal c)) = refl
  same_body (one (nonterminal y)) = refl
  same_body (two (terminal c) (terminal d)) = refl
  same_body (two (terminal c) (nonterminal z)) = refl
  same_body (two (nonterminal y) (terminal d)) = refl
  same_body (two (nonterminal y) (nonterminal z)) = refl

pub formed-with : (letters : List ℕ) (rules : List (List ℕ)) (s : State) (left right : LentRow) → formed_with (formed_in letters rules s left right).effect rules s left right ≡ formed_in letters rules s left right
formed-with letters rules s left right =
    let e = entry_at rules s.place.rule in
    same_body (composing_of letters) (composing_of []) e.head s.place.rule s.place.left s.place.right (row_of (among_first left s.place.left s.counts.used)) (row_of (among_first right s.place.right s.counts.used)) e.body

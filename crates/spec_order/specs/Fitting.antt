-- Rows that fit the rules (document 01, "Working order": a row fits if). Definitions only. Assumes nothing.
use Rattle.std.specs.Prelude.{Bool, true, ◌&&◌, List, ℕ, zero, suc, ◌+◌, eqb, ltb, length, get_or}
use Rattle.spec_language.specs.Grammar.{Symbol, terminal, nonterminal, Body, empty, one, two, Rule, no_rule}
use Rattle.spec_order.specs.Algebra.{Forms}
use Rattle.spec_order.specs.Journal.{Row, no_row, absent, capped}

module _ {E : Type 0} (M : Forms E) (rows : List (Row E)) where
  -- in row i, a nonterminal points to a lower row of that nonterminal, and the other pointers are absent
  unfoldable pub pointer_fits : ℕ → Symbol → ℕ → Bool
  pointer_fits i (terminal c) p = eqb p absent
  pointer_fits i (nonterminal x) p = ltb p i && eqb (get_or rows p (no_row M)).head x

  unfoldable pub symbol_len : Symbol → ℕ → ℕ
  symbol_len (terminal c) p = 1
  symbol_len (nonterminal x) p = (get_or rows p (no_row M)).len

  -- the pointers l and r, and the length n, which is the capped sum
  unfoldable pub body_fits : ℕ → Body → ℕ → ℕ → ℕ → Bool
  body_fits i empty l r n = (eqb l absent && eqb r absent) && eqb n 0
  body_fits i (one s) l r n = (pointer_fits i s l && eqb r absent) && eqb n (capped (symbol_len s l))
  body_fits i (two s t) l r n = (pointer_fits i s l && pointer_fits i t r) && eqb n (capped (symbol_len s l + symbol_len t r))

  -- the rule is there and belongs to the row's nonterminal
  unfoldable pub row_fits : List Rule → ℕ → Bool
  row_fits rules i =
      let r = get_or rows i (no_row M) in
      let x = get_or rules r.rule no_rule in
      (ltb r.rule (length rules) && eqb x.head r.head) && body_fits i x.body r.left r.right r.len

  -- the first m rows fit
  unfoldable pub all_rows_fit : List Rule → ℕ → Bool
  all_rows_fit rules zero = true
  all_rows_fit rules (suc m) = all_rows_fit rules m && row_fits rules m

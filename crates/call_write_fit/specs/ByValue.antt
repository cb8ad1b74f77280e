-- A row that fits, said of the row and the rows that its pointers name, by value. Definitions only. Assumes nothing.
use Rattle.std.specs.Prelude.{Bool, ◌&&◌, cond, List, ℕ, zero, suc, ◌+◌, eqb, ltb, length, get_or}
use Rattle.spec_language.specs.Grammar.{Symbol, terminal, nonterminal, Body, empty, one, two, Rule, no_rule}
use Rattle.spec_order.specs.Journal.{Row, no_row, absent, capped}
use Rattle.call_write_fit.specs.Forms.{no_forms}

-- the row that a pointer of row i names, where it is lower, else row i
unfoldable pub lower_of : ℕ → ℕ → ℕ
lower_of p i = cond (ltb p i) p i

-- x is the row that p names
unfoldable pub pointer_by : ℕ → Symbol → ℕ → Row ℕ → Bool
pointer_by i (terminal c) p x = eqb p absent
pointer_by i (nonterminal h) p x = ltb p i && eqb x.head h

unfoldable pub length_by : Symbol → Row ℕ → ℕ
length_by (terminal c) x = 1
length_by (nonterminal h) x = x.len

-- row i is r, and its pointers name x and y
unfoldable pub body_by : ℕ → Body → Row ℕ → Row ℕ → Row ℕ → Bool
body_by i empty r x y = (eqb r.left absent && eqb r.right absent) && eqb r.len 0
body_by i (one s) r x y = (pointer_by i s r.left x && eqb r.right absent) && eqb r.len (capped (length_by s x))
body_by i (two s t) r x y = (pointer_by i s r.left x && pointer_by i t r.right y) && eqb r.len (capped (length_by s x + length_by t y))

unfoldable pub row_by : List Rule → ℕ → Row ℕ → Row ℕ → Row ℕ → Bool
row_by rules i r x y =
    let e = get_or rules r.rule no_rule in
    (ltb r.rule (length rules) && eqb e.head r.head) && body_by i e.body r x y

-- the length in the last of the first m rows
abbrev pub last_len : List (Row ℕ) → ℕ → ℕ
last_len rows zero = 0
last_len rows (suc m) = (get_or rows m (no_row no_forms)).len

-- What a row hands over to (document 01, "Writing a run"), what writing a part asks, and what it leaves. Definitions only.
-- Assumes nothing.
use Rattle.std.specs.Prelude.{◌≡◌, true, cond, List, [], ◌∷◌, ◌++◌, ℕ, ◌≤◌, ◌<◌, eqb, length, get_or, drop}
use Rattle.spec_language.specs.Grammar.{Symbol, terminal, nonterminal, Body, empty, one, two, Rule, no_rule}
use Rattle.spec_order.specs.Journal.{Row}
use Rattle.spec_order.specs.Behind.{word_behind}
use Rattle.spec_order.specs.Fitting.{row_fits}
use Rattle.spec_calls.specs.Base.{words}
use Rattle.call_write_word.specs.declared.Part.{Part}
use Rattle.call_write_word.specs.declared.Part.TheVariants.{Nothing, Terminal, Row as OlderRow}
use Rattle.call_write_fit.specs.Forms.{no_forms}

abbrev pub nothing : Part
nothing = Nothing

abbrev pub older_row : ℕ → Part
older_row i = OlderRow i

-- a symbol and its pointer
abbrev pub part_of : Symbol → ℕ → Part
part_of (terminal c) p = Terminal c
part_of (nonterminal x) p = older_row p

abbrev pub body_parts : Body → ℕ → ℕ → Part × Part
body_parts empty l r = (nothing, nothing)
body_parts (one s) l r = (part_of s l, nothing)
body_parts (two s t) l r = (part_of s l, part_of t r)

-- a row of length 0 writes nothing
unfoldable pub parts_of : List Rule → Row ℕ → Part × Part
parts_of rules r = cond (eqb r.len 0) (nothing, nothing) (body_parts (get_or rules r.rule no_rule).body r.left r.right)

-- the word of a part that is no older row
abbrev pub own_word : Part → List ℕ
own_word Nothing = []
own_word (Terminal c) = c ∷ []
own_word (OlderRow i) = []

module _ (rules : List Rule) (rows : List (Row ℕ)) where
  abbrev pub part_word : Part → List ℕ
  part_word Nothing = own_word Nothing
  part_word (Terminal c) = own_word (Terminal c)
  part_word (OlderRow i) = word_behind words rules rows i

  abbrev pub parts_word : Part × Part → List ℕ
  parts_word p = part_word p.0 ++ part_word p.1

  -- an older row and all before it fit
  abbrev pub FitsIf : Part → Type 0
  FitsIf Nothing = Unit {0}
  FitsIf (Terminal c) = Unit {0}
  FitsIf (OlderRow i) = (i < length rows) × ((j : ℕ) → j ≤ i → row_fits no_forms rows rules j ≡ true)

  -- x may be written to a buffer of n bytes
  pub record Ready (x : Part) (n : ℕ) : Type 0 where
    pub fits : FitsIf x
    pub room : length (part_word x) ≤ n

-- n steps were written, the word w, and the buffer is as it was past them
pub record Wrote (w before after : List ℕ) (n : ℕ) : Type 0 where
  pub count : n ≡ length w
  pub bytes : after ≡ w ++ drop n before

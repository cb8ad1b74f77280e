-- A text at the front of a buffer: the bytes there are the text, as many as it has, and the buffer has room for them. Assumes nothing.
use Rattle.std.specs.Prelude.{◌≡◌, List, ℕ, ◌≤◌, length, take, drop}
use Rattle.std.proofs.Common.{sym, ap, ◌∙◌, arith, length-append, take_at}
use Rattle.host_page.specs.Clauses.{Printed}

module _ (text old new : List ℕ) (r : ℕ) (h : Printed text old new r) where
  pub text-stands : take r new ≡ text
  text-stands = ap (take r) h.bytes ∙ take_at text (drop (length text) old) r (sym h.count)

  pub text-count : r ≡ length (take r new)
  text-count = h.count ∙ ap length (sym text-stands)

  pub text-within : r ≤ length new
  text-within = omega (arith, h.count, ap length h.bytes, length-append text (drop (length text) old))

-- `rises` meets its contract: the two numbers compare as the bytes do. Assumes nothing.
use Prim.Native.Nat.{ℕ}
use mir.Syntax.{w8}
use mir.Val.{Fits}
use borrow.Author.Rules.{rules}
use Rattle.spec_file.specs.Records.{byte}
use Rattle.file_checks.specs.BigEndianLaws.{rises-as-numbers}
use Rattle.file_checks.proofs.rises.Statement.{statement}
use Rattle.file_checks.proofs.rises.Tie as tie

returns : tie.Need-returns
returns c =
    let a = c.before.before.args in
    let hr : (i : ℕ) → Fits w8 (byte a.r i) = search rules in
    let hs : (i : ℕ) → Fits w8 (byte a.s i) = search rules in
    rw (c.before.number_of.ensures, c.number_of-2.ensures) (rises-as-numbers 256 a.r a.s (λ i. (hr i).fits) (λ i. (hs i).fits) 7)

pub rises_spec : {M : Type 1} → statement M
rises_spec = tie.close (tie.spec (λ c κs. search rules) (λ c κs. search rules) returns)

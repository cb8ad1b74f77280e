-- Where nothing refuses a call on a file and a journal. Assumes nothing.
use Rattle.std.specs.Prelude.{◌≡◌, List, ℕ}
use Rattle.std.proofs.Common.{sym, ap}
use Rattle.spec_file.specs.Refusals.{Refusal, refuse, fault, first_of}
use Rattle.spec_file.proofs.RefusalLaws.{none-refuses}
use Rattle.spec_calls.specs.Checking.{journal_fault, check_refusals}

-- ---- of a file and a journal of J rows
module _ (bs : List ℕ) (J : ℕ) where
  pub none-refused : refuse 0 0 ≡ first_of (check_refusals bs J) → ((fault bs).number ≡ 0) × (journal_fault J ≡ 0)
  none-refused e = let n = none-refuses (check_refusals bs J) (sym (ap (λ (s : Refusal). s.number) e)) in (n.0, n.1.0)

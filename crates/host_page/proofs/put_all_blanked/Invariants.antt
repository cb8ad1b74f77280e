-- The invariant: putting the numbers from the next one on at `place` gives what putting all of them at `at` gives.
use Rattle.std.proofs.Common.{◌≡◌, drop}
use Rattle.spec_calls.specs.Printing.{blanked}
use Rattle.host_page.specs.Page.{page, puts}
use Rattle.host_page.proofs.put_all_blanked.Given as goal

abbrev pub invariant-loop-n : goal.invariant-loop-n
invariant-loop-n l = puts (blanked (drop l.n-index l.numbers)) (page l.place l.text) ≡ puts (blanked l.numbers) (page l.fn.at l.initial.text)

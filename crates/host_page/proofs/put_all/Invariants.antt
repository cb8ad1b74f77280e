-- The invariant: putting the bytes from the next one on at `place` gives what putting all of them at `at` gives.
use Rattle.std.proofs.Common.{◌≡◌, drop}
use Rattle.host_page.specs.Page.{page, puts}
use Rattle.host_page.proofs.put_all.Given as goal

abbrev pub invariant-loop-byte : goal.invariant-loop-byte
invariant-loop-byte l = puts (drop l.byte-index l.bytes) (page l.place l.text) ≡ puts l.bytes (page l.fn.at l.initial.text)

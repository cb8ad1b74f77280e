-- The measure is `n`, which the division makes smaller, since `n` is at least 10 there.
use Rattle.host_page.proofs.+put_decimal.Given as goal

abbrev pub decreases-put_decimal : goal.decreases-put_decimal
decreases-put_decimal l = l.n

-- A number of one digit, or the digits in front of the last one, put by the call on n / 10, and then that one. Assumes nothing.
use Rattle.host_page.specs.DecimalLaws.{puts-small, puts-digits}
use Rattle.host_page.proofs.+put_decimal.Goals as goal

pub returns-then-n-lt10 : goal.returns-then-n-lt10
returns-then-n-lt10 t c = puts-small _ _ _ _ c.if-n-lt10.true c.digit.ensures c.put.ensures

pub returns : goal.returns
returns t c = puts-digits _ _ _ _ _ c.if-n-lt10.false c.put_decimal-last.ensures c.digit-2.ensures c.put-2.ensures

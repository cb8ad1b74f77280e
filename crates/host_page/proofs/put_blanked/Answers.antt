-- Putting the blank and then the digits is putting them in one list. Assumes nothing.
use Rattle.host_page.specs.PageLaws.{puts-byte}
use Rattle.host_page.proofs.put_blanked.Goals as goal

pub returns : goal.returns
returns c = puts-byte _ _ _ _ _ c.put-next.ensures c.put_decimal.ensures

-- What the loop keeps is what is handed over.
use Rattle.std.proofs.Common.{arith, rules, ◌≡◌, length}
use Rattle.host_input.proofs.Reading.{kept-none, kept-bytes, handed-over}
use Rattle.host_input.proofs.read.Goals as goal

pub loop-init : goal.loop-init
loop-init g c = (omega arith, kept-none (g.R.Read.remaining c.args.input.now) c.args.buffer.now)

pub returns-then-got-eq0-clause-bytes : goal.returns-then-got-eq0-clause-bytes
returns-then-got-eq0-clause-bytes g c =
    let before : length c.loop.buffer ≡ 10383 = search rules in
    let after : length c.read_at.new.buffer ≡ 10383 = search rules in
    handed-over _ _ (g.R.Read.remaining c.read_at.new.input) c.loop.at c.in_ok-got.got c.loop.buffer c.read_at.new.buffer (omega arith) (omega arith)
    (let i = c.loop.invariant.0 in omega arith) c.loop.invariant.1 c.in_ok-got.ensures c.if-got-eq0.true

pub loop-preserved : goal.loop-preserved
loop-preserved g c =
    let before : length c.loop.buffer ≡ 10383 = search rules in
    let after : length c.read_at.new.buffer ≡ 10383 = search rules in (
      c.held-at.ensures.room,
      kept-bytes _ _ (g.R.Read.remaining c.read_at.new.input) c.loop.at c.in_ok-got.got c.held-at.result c.loop.buffer c.read_at.new.buffer
          (omega arith) (omega arith) c.loop.invariant.1 c.in_ok-got.ensures c.held-at.ensures.count,
    )

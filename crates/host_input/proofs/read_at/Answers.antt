-- Where the bytes come from place `at` on, they stand there.
use Rattle.std.proofs.Common.{arith, rules, ◌≡◌, ◌-◌, length}
use Rattle.std.proofs.lemmas.Slice.{take-put_mid}
use Rattle.host_input.proofs.read_at.Goals as goal

pub returns-then-at-lt-HELD : goal.returns-then-at-lt-HELD
returns-then-at-lt-HELD g c =
    let room = c.read_into.new.buffer in
    let long : length room ≡ 10376 - c.args.at = search rules in
    record {
      room = room;
      some = omega arith;
      came = c.read_into.ensures;
      stored = record {
        below = λ l. (long, take-put_mid c.args.at (10376 - c.args.at) c.args.buffer.now room 10376 (omega arith) (omega arith));
        past = λ l. absurd (let z : ⊥ = omega arith in z);
      };
    }

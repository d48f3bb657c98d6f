use Rattle.std.proofs.Common.{◌≡◌, ◌≤◌, length, vec_len, arith}
use Rattle.call_rim.proofs.laws.InputBytes.{IsInput-short}
use Rattle.call_rim.proofs.early.make_early.Goals as goal

pub make_from-requires-clause-room : goal.make_from-requires-clause-room
make_from-requires-clause-room g c =
    let count : vec_len c.in-Ok.bytes ≡ length c.in-Ok.bytes.items = c.in-Ok.bytes.ok.0 in
    omega (arith, count, c.in-Ok.ensures.room, c.requires.large)

pub returns-then-len-lt-BEGINNING-clause-made : goal.returns-then-len-lt-BEGINNING-clause-made
returns-then-len-lt-BEGINNING-clause-made g c =
    let most = g.P.Program.most c.args.program.now in
    let bytes = c.in-Ok.bytes.items in
    let count : vec_len c.in-Ok.bytes ≡ length bytes = c.in-Ok.bytes.ok.0 in
    let few : length bytes ≤ 1048575 = omega (arith, count, c.len.ensures, c.if-len-lt-BEGINNING.true) in
    record {
      bytes = bytes;
      taken = c.in-Ok.ensures.taken;
      input = IsInput-short 1048575 most (g.S.Source.left c.args.source.now) bytes c.in-Ok.ensures.bytes few (omega (arith, c.requires.large));
      performed = c.perform_within.ensures;
    }

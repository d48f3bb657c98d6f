use Rattle.std.proofs.Common.{◌≡◌, ◌<◌, ◌≤◌, ◌+◌, length, take, vec_len, arith}
use Rattle.std.proofs.lemmas.List.{length-take}
use Rattle.std.proofs.lemmas.Grind.{common_steps}
use Rattle.call_rim.proofs.laws.InputBytes.{IsInput-at_end, IsInput-full}
use Rattle.call_rim.proofs.reading.read_on.Goals as goal

pub returns-in-Ok-eq0-clause-bytes : goal.returns-in-Ok-eq0-clause-bytes
returns-in-Ok-eq0-clause-bytes g c =
    let read = c.in-Ok-eq0.ensures in
    let most = c.args.most in
    let whole : length c.deref_mut.result.now ≡ 65536 = grind (arith, common_steps) in
    let room : 0 < c.min-room.result = grind (arith, common_steps) in
    let some : 0 < length (take c.min-room.result c.deref_mut.result.now) = omega (arith, whole, room, length-take c.min-room.result c.deref_mut.result.now) in
    let before : vec_len c.pieces.bytes ≤ most = grind (arith, common_steps) in
    let now : vec_len c.read_piece.new.bytes ≡ length c.read_piece.new.bytes.items = c.read_piece.new.bytes.ok.0 in
    let fits : length c.read_piece.new.bytes.items ≤ most + 1 = omega (arith, before, now, read.count, c.in-Ok-eq0.field-0-test) in
    λ start consumed. IsInput-at_end most start (g.S.Source.left c.read_piece.new.source) c.read_piece.new.bytes.items
    (read.bytes start (c.pieces.invariant.bytes start consumed)) (read.end c.in-Ok-eq0.field-0-test some) fits

pub returns-clause-bytes : goal.returns-clause-bytes
returns-clause-bytes g c =
    let now : vec_len c.pieces.bytes ≡ length c.pieces.bytes.items = c.pieces.bytes.ok.0 in
    let most = c.args.most in
    let more : most < vec_len c.pieces.bytes = grind (arith, common_steps) in
    let room = c.pieces.invariant.room in
    let full : length c.pieces.bytes.items ≡ most + 1 = omega (arith, now, more, room) in
    λ start consumed. IsInput-full most start (g.S.Source.left c.pieces.source) c.pieces.bytes.items (c.pieces.invariant.bytes start consumed) full

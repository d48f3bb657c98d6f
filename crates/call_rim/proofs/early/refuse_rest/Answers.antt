use Rattle.std.proofs.Common.{◌≡◌, ◌+◌, ◌≤◌, length, arith}
use Rattle.std.specs.Io.KnownBytes.{IsAtEnd}
use Rattle.call_rim.proofs.PassedRests.{IsMadeOf-large, IsMadeOf-refused}
use Rattle.call_rim.proofs.early.refuse_rest.Goals as goal

pub returns-then-taken-rest-clause-made : goal.returns-then-taken-rest-clause-made
returns-then-taken-rest-clause-made g c =
    let most = g.P.Program.most c.args.program.now in
    let left = g.S.Source.left in
    let rest = c.in-Ok.ensures in
    λ start before same consumed refused.
    let full : length before + c.in-Ok.rest ≡ most + 1 = omega (arith, same, rest.within, c.requires.room, c.most_bytes-most.ensures.most, c.if-taken-rest.true) in
    IsMadeOf-large most (g.P.Program.refuses c.args.program.now) (g.P.Program.reports c.args.program.now) start (left c.args.source.now) (left c.pass_over.new.source) before c.in-Ok.rest consumed rest.passed c.refuse_size.result full c.refuse_size.ensures

pub returns-else-taken-rest-clause-made : goal.returns-else-taken-rest-clause-made
returns-else-taken-rest-clause-made g c =
    let most = g.P.Program.most c.args.program.now in
    let left = g.S.Source.left in
    let rest = c.in-Ok.ensures in
    λ start before same consumed refused.
    let few : length before + c.in-Ok.rest ≤ most = omega (arith, same, c.most_bytes-most.ensures.most, c.if-taken-rest.false) in
    let end : IsAtEnd (left c.pass_over.new.source) = rest.ended (omega (arith, same, few, c.requires.room, c.most_bytes-most.ensures.most)) in
    IsMadeOf-refused most (g.P.Program.refuses c.args.program.now) (g.P.Program.reports c.args.program.now) start (left c.args.source.now) (left c.pass_over.new.source) before c.in-Ok.rest consumed rest.passed c.args.line few end refused

use Rattle.std.proofs.Common.{◌+◌, ◌*◌}
use Rattle.trace_gen.proofs.Texts.{Stands, access_piece}
use Rattle.trace_gen.proofs.phases.push_accesses.Given as goal

abbrev pub invariant-accesses : goal.invariant-accesses
invariant-accesses l = Stands (access_piece l.task) l.n (l.task * l.n + 1) l.counter (l.task * l.n + l.counter) l.trace.last l.initial.trace.text l.trace.text

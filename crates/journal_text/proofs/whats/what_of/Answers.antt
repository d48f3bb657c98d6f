use Rattle.std.proofs.Common.{refl}
use Rattle.cache_core.specs.declared.entry.What.TheVariants as entries
use Rattle.machine.specs.Maps.{parameters_of}
use Rattle.journal_text.specs.declared.kind.EntryKind.TheVariants as kinds
use Rattle.journal_text.proofs.Drops.{IsRest-nothing, no_flush, no_raise}
use Rattle.journal_text.proofs.whats.what_of.Goals as goal

pub returns-in-Raise : goal.returns-in-Raise
returns-in-Raise c =
    let m = parameters_of c.args.machine.now in
    let rest = c.args.rest.now in
    rw c.in-Raise.is (IsRest-nothing m c.args.slice kinds.Raise rest c.nothing_more.result entries.Raise c.nothing_more.ensures (record { kind_is = refl; writable = tt; same = refl }) (no_raise m c.args.slice rest))

pub returns-in-Flush : goal.returns-in-Flush
returns-in-Flush c =
    let m = parameters_of c.args.machine.now in
    let rest = c.args.rest.now in
    rw c.in-Flush.is (IsRest-nothing m c.args.slice kinds.Flush rest c.nothing_more-in-Flush.result entries.Flush c.nothing_more-in-Flush.ensures (record { kind_is = refl; writable = tt; same = refl }) (no_flush m c.args.slice rest))

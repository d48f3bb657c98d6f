use Rattle.std.proofs.Common.{sym, ap, ◌∙◌}
use Rattle.std.proofs.lemmas.Bool.{true≢false}
use Rattle.cache_core.specs.Filled.{empties}
use Rattle.cache_core.specs.History.{Shape, decides}
use Rattle.cache_core.specs.declared.entry.What.{What}
use Rattle.machine.specs.Maps.{parameters_of}
use Rattle.run_counts.proofs.CountedEntries.{HasCounted-decided, HasCounted-flush, HasCounted-lock, HasDecided-drop, HasDecided-quiet}
use Rattle.run_law.specs.Slices.{shape_in}
use Rattle.run_counts.proofs.line_counts.Occupancy.take_change.Goals as goal

-- ---- entries that empty every place

pub returns-in-Lock-clause-counted : goal.returns-in-Lock-clause-counted
returns-in-Lock-clause-counted c = λ base es before.
    HasCounted-lock (shape_in (parameters_of c.args.machine.now) c.args.i) base c.args.self.now c.load.new.self c.args.entry.now es c.in-Lock.mask c.in-Lock.first_line c.in-Lock.is c.load.ensures before

pub returns-in-Lock-clause-decided : goal.returns-in-Lock-clause-decided
returns-in-Lock-clause-decided c = λ base es full before. absurd (true≢false (sym (ap empties c.in-Lock.is) ∙ full))

pub returns-in-Flush-clause-counted : goal.returns-in-Flush-clause-counted
returns-in-Flush-clause-counted c = λ base es before.
    HasCounted-flush (shape_in (parameters_of c.args.machine.now) c.args.i) base c.args.self.now c.args.self.now c.args.entry.now es c.in-Flush.is before

pub returns-in-Flush-clause-decided : goal.returns-in-Flush-clause-decided
returns-in-Flush-clause-decided c = λ base es full before. absurd (true≢false (sym (ap empties c.in-Flush.is) ∙ full))

-- ---- entries that decide nothing

pub returns-in-Raise-clause-counted : goal.returns-in-Raise-clause-counted
returns-in-Raise-clause-counted c = λ base es before.
    let m : Shape = shape_in (parameters_of c.args.machine.now) c.args.i in
    HasCounted-decided m base c.args.self.now c.args.self.now c.args.entry.now es c.args.self.now (HasDecided-quiet m base c.args.self.now c.args.self.now c.args.entry.now es (λ s w. ap (λ (x : What). decides m s w x) c.in-Raise.is) before)

pub returns-in-Raise-clause-decided : goal.returns-in-Raise-clause-decided
returns-in-Raise-clause-decided c = λ base es fills before.
    let m : Shape = shape_in (parameters_of c.args.machine.now) c.args.i in
    HasDecided-quiet m base c.args.self.now c.args.self.now c.args.entry.now es (λ s w. ap (λ (x : What). decides m s w x) c.in-Raise.is) before

pub returns-in-Look-clause-counted : goal.returns-in-Look-clause-counted
returns-in-Look-clause-counted c = λ base es before.
    let m : Shape = shape_in (parameters_of c.args.machine.now) c.args.i in
    HasCounted-decided m base c.args.self.now c.args.self.now c.args.entry.now es c.args.self.now (HasDecided-quiet m base c.args.self.now c.args.self.now c.args.entry.now es (λ s w. ap (λ (x : What). decides m s w x) c.in-Look.is) before)

pub returns-in-Look-clause-decided : goal.returns-in-Look-clause-decided
returns-in-Look-clause-decided c = λ base es fills before.
    let m : Shape = shape_in (parameters_of c.args.machine.now) c.args.i in
    HasDecided-quiet m base c.args.self.now c.args.self.now c.args.entry.now es (λ s w. ap (λ (x : What). decides m s w x) c.in-Look.is) before

-- ---- a drop

pub returns-in-Drop-clause-decided : goal.returns-in-Drop-clause-decided
returns-in-Drop-clause-decided c = λ base es fills before.
    HasDecided-drop (shape_in (parameters_of c.args.machine.now) c.args.i) base c.args.self.now c.empty_if_held.new.self c.args.entry.now es c.in-Drop.line c.in-Drop.way c.in-Drop.is c.empty_if_held.ensures before

pub returns-in-Drop-clause-counted : goal.returns-in-Drop-clause-counted
returns-in-Drop-clause-counted c = λ base es before.
    let m : Shape = shape_in (parameters_of c.args.machine.now) c.args.i in
    HasCounted-decided m base c.args.self.now c.empty_if_held.new.self c.args.entry.now es c.empty_if_held.new.self (HasDecided-drop m base c.args.self.now c.empty_if_held.new.self c.args.entry.now es c.in-Drop.line c.in-Drop.way c.in-Drop.is c.empty_if_held.ensures before)

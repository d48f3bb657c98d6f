use Rattle.std.proofs.Common.{◌≡◌, true, false, ap}
use Rattle.cache_core.specs.History.{Shape, decides}
use Rattle.cache_core.specs.declared.entry.What.{What}
use Rattle.cache_core.specs.declared.entry.What.TheVariants.{Access}
use Rattle.machine.specs.Maps.{parameters_of}
use Rattle.run_counts.proofs.CountedEntries.{HasCounted-decided, HasDecided-fill, HasDecided-quiet}
use Rattle.run_law.specs.Slices.{shape_in}
use Rattle.run_counts.proofs.walk.Walk.take.Goals as goal

-- ---- a hit

pub returns-in_ok-add_hit-in-Access-true-default-default-default-default-default-clause-decided : goal.returns-in_ok-add_hit-in-Access-true-default-default-default-default-default-clause-decided
returns-in_ok-add_hit-in-Access-true-default-default-default-default-default-clause-decided c = λ base es fills before.
    let m : Shape = shape_in (parameters_of c.args.machine.now) c.args.i in
    let old = c.args.self.now.lines in
    let at = c.in-Access-true-default-default-default-default-default in
    let is : c.args.entry.now.what ≡ Access true at.way at.owner at.rmid at.mask at.line = cc in
    HasDecided-quiet m base old old c.args.entry.now es (λ s w. ap (λ (x : What). decides m s w x) is) before

pub returns-in_ok-add_hit-in-Access-true-default-default-default-default-default-clause-counted : goal.returns-in_ok-add_hit-in-Access-true-default-default-default-default-default-clause-counted
returns-in_ok-add_hit-in-Access-true-default-default-default-default-default-clause-counted c = λ base es before.
    let m : Shape = shape_in (parameters_of c.args.machine.now) c.args.i in
    let old = c.args.self.now.lines in
    let at = c.in-Access-true-default-default-default-default-default in
    let is : c.args.entry.now.what ≡ Access true at.way at.owner at.rmid at.mask at.line = cc in
    HasCounted-decided m base old old c.args.entry.now es old (HasDecided-quiet m base old old c.args.entry.now es (λ s w. ap (λ (x : What). decides m s w x) is) before)

-- ---- a fill

pub returns-in_ok-add_miss-in-Access-clause-decided : goal.returns-in_ok-add_miss-in-Access-clause-decided
returns-in_ok-add_miss-in-Access-clause-decided c = λ base es fills before.
    let at = c.in-Access in
    let is : c.args.entry.now.what ≡ Access false at.way at.owner at.rmid at.mask at.line = cc in
    HasDecided-fill (shape_in (parameters_of c.args.machine.now) c.args.i) base c.args.self.now.lines c.fill.new.self c.args.entry.now es at.owner at.rmid at.mask at.line at.way is c.fill.ensures before

pub returns-in_ok-add_miss-in-Access-clause-counted : goal.returns-in_ok-add_miss-in-Access-clause-counted
returns-in_ok-add_miss-in-Access-clause-counted c = λ base es before.
    let m : Shape = shape_in (parameters_of c.args.machine.now) c.args.i in
    let old = c.args.self.now.lines in
    let at = c.in-Access in
    let is : c.args.entry.now.what ≡ Access false at.way at.owner at.rmid at.mask at.line = cc in
    HasCounted-decided m base old c.fill.new.self c.args.entry.now es c.fill.new.self (HasDecided-fill m base old c.fill.new.self c.args.entry.now es at.owner at.rmid at.mask at.line at.way is c.fill.ensures before)

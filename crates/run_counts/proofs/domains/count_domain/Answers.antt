use Rattle.std.proofs.Common.{◌≡◌, ◌+◌, ◌*◌, ◌^◌, ◌<◌, ◌∙◌, ap, subst, arith, length}
use Rattle.cache_core.specs.History.{lines_of, valid_of}
use Rattle.machine.specs.Ranges.{InRange}
use Rattle.machine.specs.Slices.{slice_number}
use Rattle.lists.specs.Sums.{sum_below}
use Rattle.run_counts.proofs.CountedAccesses.{HasTallied-suc, IsFewWith-le}
use Rattle.run_counts.proofs.DomainCounts.{IsAtMost-counted, sum_below-more}
use Rattle.run_counts.proofs.Occupancies.{IsAtMost-le}
use Rattle.run_counts.specs.Occupancies.{lines_told}
use Rattle.run_counts.specs.Tallies.{HasTallied}
use Rattle.run_law.specs.Journals.{slice_at}
use Rattle.run_law.specs.Slices.{shape_in}
use Rattle.run_counts.proofs.domains.count_domain.Goals as goal

pub loop-slice-init : goal.loop-slice-init
loop-slice-init c =
    let t = c.args.walk.now.tally in
    record {
      tallied = subst (λ n. HasTallied c.args.journals.now n t.tally t.streak) (let same : c.args.domain * c.args.script.now.machine.slices ≡ slice_number c.args.script.now.machine c.args.domain 0 = omega arith in same) c.requires.tallied;
      suits = record { sets = c.clear.ensures.sets ∙ c.requires.suits.sets; rmids = c.clear.ensures.rmids ∙ c.requires.suits.rmids };
      few = record { counts = λ r. let none = c.clear.ensures.counts r in omega (arith, none); valid = let none = c.clear.ensures.valid in omega (arith, none) };
      lines = λ r there. c.clear.ensures.counts r;
      valid = c.clear.ensures.valid;
    }

pub take_slice-requires-clause-few : goal.take_slice-requires-clause-few
take_slice-requires-clause-few c =
    let t = c.loop-slice.walk.tally in
    let n = slice_number c.args.script.now.machine c.args.domain c.loop-slice.slice in
    IsFewWith-le (n * 2 ^ 58) (31 * 2 ^ 58) t.tally t.streak (let few = c.number_of-i.ensures.few in let is = c.number_of-i.ensures.number in omega (arith, few, is)) c.loop-slice.invariant.tallied.few

pub loop-slice-preserved : goal.loop-slice-preserved
loop-slice-preserved c =
    let m = c.args.script.now.machine in
    let j = c.args.journals.now in
    let number = slice_number m c.args.domain in
    let before = c.loop-slice.invariant in
    let i = c.number_of-i.result in
    let told = c.in_ok-take_slice.ensures in
    let machine = c.machine-in-loop-slice.ensures in
    let range : InRange m = subst InRange c.machine.ensures c.machine.result.now.in_range in
    let lines_here : (r : _) → r < length c.loop-slice.walk.lines.counts → lines_told c.take_slice.new.self.lines r ≡ lines_told c.loop-slice.walk.lines r + lines_of (shape_in m i) (slice_at j i) r =
    λ r there. told.counts r there ∙ (ap (λ p. lines_told c.loop-slice.walk.lines r + lines_of (shape_in p i) c.slice.result.now r) machine ∙ ap (λ es. lines_told c.loop-slice.walk.lines r + lines_of (shape_in m i) es r) c.slice.ensures) in
    let valid_here : c.take_slice.new.self.lines.valid ≡ c.loop-slice.walk.lines.valid + valid_of (shape_in m i) (slice_at j i) =
    told.valid ∙ (ap (λ p. c.loop-slice.walk.lines.valid + valid_of (shape_in p i) c.slice.result.now) machine ∙ ap (λ es. c.loop-slice.walk.lines.valid + valid_of (shape_in m i) es) c.slice.ensures) in
    let was = c.loop-slice.walk.tally in
    let now = c.take_slice.new.self.tally in
    record {
      tallied =
          subst (λ n. HasTallied j n now.tally now.streak) (let same : number c.loop-slice.slice + 1 ≡ number (c.loop-slice.slice + 1) = omega arith in same)
          (HasTallied-suc j (number c.loop-slice.slice) was.tally now.tally was.streak now.streak c.slice.result.now (c.slice.ensures ∙ ap (slice_at j) c.number_of-i.ensures.number) told.length told.groups told.all before.tallied);
      suits = record { sets = told.sets ∙ before.suits.sets; rmids = told.rmids ∙ before.suits.rmids };
      few = IsAtMost-le (c.loop-slice.slice * 2097152 + 2097152) ((c.loop-slice.slice + 1) * 2097152) c.take_slice.new.self.lines (omega arith)
          (IsAtMost-counted m i (slice_at j i) (c.loop-slice.slice * 2097152) c.loop-slice.walk.lines c.take_slice.new.self.lines range told.rmids lines_here valid_here before.few);
      lines = λ r there.
          lines_here r (let room = before.suits.rmids in omega (arith, room, there))
          ∙ sum_below-more c.loop-slice.slice (lines_told c.loop-slice.walk.lines r) (lines_of (shape_in m i) (slice_at j i) r) (λ x. lines_of (shape_in m (number x)) (slice_at j (number x)) r) (before.lines r there)
          (ap (λ n. lines_of (shape_in m n) (slice_at j n) r) c.number_of-i.ensures.number);
      valid =
          valid_here
          ∙ sum_below-more c.loop-slice.slice c.loop-slice.walk.lines.valid (valid_of (shape_in m i) (slice_at j i)) (λ x. valid_of (shape_in m (number x)) (slice_at j (number x))) before.valid
          (ap (λ n. valid_of (shape_in m n) (slice_at j n)) c.number_of-i.ensures.number);
    }

pub returns-clause-tallied : goal.returns-clause-tallied
returns-clause-tallied c =
    let t = c.loop-slice.walk.tally in
    let end : c.loop-slice.slice ≡ c.args.script.now.machine.slices = let same = c.machine.ensures in let slices = ap (λ p. p.slices) same in let none = c.loop-slice-test.false in let within = c.loop-slice.auto.slice-end in omega arith in
    subst (λ n. HasTallied c.args.journals.now n t.tally t.streak)
    (let same : slice_number c.args.script.now.machine c.args.domain c.loop-slice.slice ≡ (c.args.domain + 1) * c.args.script.now.machine.slices = omega arith in same) c.loop-slice.invariant.tallied

pub returns-clause-lines : goal.returns-clause-lines
returns-clause-lines c =
    let m = c.args.script.now.machine in
    let j = c.args.journals.now in
    let number = slice_number m c.args.domain in
    let end : c.loop-slice.slice ≡ c.args.script.now.machine.slices = let same = c.machine.ensures in let slices = ap (λ p. p.slices) same in let none = c.loop-slice-test.false in let within = c.loop-slice.auto.slice-end in omega arith in
    record {
      suits = c.loop-slice.invariant.suits;
      lines = λ r there. c.loop-slice.invariant.lines r there ∙ ap (λ n. sum_below n (λ x. lines_of (shape_in m (number x)) (slice_at j (number x)) r)) end;
      valid = c.loop-slice.invariant.valid ∙ ap (λ n. sum_below n (λ x. valid_of (shape_in m (number x)) (slice_at j (number x)))) end;
    }

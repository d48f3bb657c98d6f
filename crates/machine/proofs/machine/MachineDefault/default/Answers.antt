use Rattle.std.proofs.Common.{◌≡◌, true, refl, sym, subst}
use Rattle.std.specs.Int.Count.{ones}
use Rattle.machine.specs.Ranges.{InRange, is_machine, usual}
use Rattle.machine.proofs.laws.Ranges.{is_machine-true}
use Rattle.machine.proofs.machine.MachineDefault.default.Goals as goal

is_machine-usual : is_machine usual ≡ true
unfolding is_machine ones
is_machine-usual = refl

pub of-requires : goal.of-requires
of-requires c = subst InRange (sym c.default.ensures) (is_machine-true usual is_machine-usual)

-- Where lines stand.
use Rattle.std.proofs.Common.{◌≡◌, true, refl}
use Rattle.script_text.specs.declared.kind.Kind.TheVariants as kinds
use Rattle.script_text.specs.declared.kind.LinePosition.{LinePosition}
use Rattle.script_text.specs.declared.kind.LinePosition.TheVariants as places
use Rattle.script_text.specs.Kinds.{may_stand}
use Rattle.script_text.specs.States.{is_thread, is_early}

-- an open thread is no early place
pub is_early-thread : (place : LinePosition) → is_thread place ≡ true → is_early place ≡ true → ⊥
is_early-thread places.Start t e = absurd cc
is_early-thread places.Head t e = absurd cc
is_early-thread places.Opened t e = absurd cc
is_early-thread places.Ordered t e = absurd cc
is_early-thread places.Thread t e = absurd cc

-- a machine line stands early
pub is_early-machine : (place : LinePosition) → may_stand kinds.Machine place ≡ true → is_early place ≡ true
is_early-machine places.Start h = refl
is_early-machine places.Head h = absurd cc
is_early-machine places.Opened h = absurd cc
is_early-machine places.Ordered h = absurd cc
is_early-machine places.Thread h = absurd cc

-- so does a line of tasks
pub is_early-tasks : (place : LinePosition) → may_stand kinds.Tasks place ≡ true → is_early place ≡ true
is_early-tasks places.Start h = absurd cc
is_early-tasks places.Head h = refl
is_early-tasks places.Opened h = absurd cc
is_early-tasks places.Ordered h = absurd cc
is_early-tasks places.Thread h = absurd cc

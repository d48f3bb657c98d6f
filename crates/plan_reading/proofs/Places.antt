-- Where lines stand.
use Rattle.std.proofs.Common.{◌≡◌, true, false, refl}
use Rattle.script_text.specs.Kinds.{may_stand}
use Rattle.script_text.specs.States.{is_early, is_head, is_start, is_thread}
use Rattle.script_text.specs.declared.kind.Kind.TheVariants as kinds
use Rattle.script_text.specs.declared.kind.LinePosition.{LinePosition}
use Rattle.script_text.specs.declared.kind.LinePosition.TheVariants as places

-- an open thread is no early place
pub is_early-thread : (place : LinePosition) → is_thread place ≡ true → is_early place ≡ false
is_early-thread places.Start t = absurd cc
is_early-thread places.Head t = absurd cc
is_early-thread places.Opened t = absurd cc
is_early-thread places.Ordered t = absurd cc
is_early-thread places.Thread t = refl

-- before the first phase is early
pub is_early-head : (place : LinePosition) → is_head place ≡ true → is_early place ≡ true
is_early-head places.Start h = absurd cc
is_early-head places.Head h = refl
is_early-head places.Opened h = absurd cc
is_early-head places.Ordered h = absurd cc
is_early-head places.Thread h = absurd cc

-- a machine line stands early
pub is_early-machine : (place : LinePosition) → may_stand kinds.Machine place ≡ true → is_early place ≡ true
is_early-machine places.Start h = refl
is_early-machine places.Head h = absurd cc
is_early-machine places.Opened h = absurd cc
is_early-machine places.Ordered h = absurd cc
is_early-machine places.Thread h = absurd cc

-- so does a line of tasks
pub is_early-tasks : (place : LinePosition) → may_stand kinds.Tasks place ≡ true → is_early place ≡ true
is_early-tasks places.Start h = absurd cc
is_early-tasks places.Head h = refl
is_early-tasks places.Opened h = absurd cc
is_early-tasks places.Ordered h = absurd cc
is_early-tasks places.Thread h = absurd cc

-- an order stands in no thread
pub is_thread-order : (place : LinePosition) → may_stand kinds.Order place ≡ true → is_thread place ≡ false
is_thread-order places.Start h = absurd cc
is_thread-order places.Head h = absurd cc
is_thread-order places.Opened h = refl
is_thread-order places.Ordered h = absurd cc
is_thread-order places.Thread h = absurd cc

-- a phase may stand anywhere after the machine line
pub may_stand-phase : (place : LinePosition) → is_start place ≡ false → may_stand kinds.Phase place ≡ true
may_stand-phase places.Start begun = absurd cc
may_stand-phase places.Head begun = refl
may_stand-phase places.Opened begun = refl
may_stand-phase places.Ordered begun = refl
may_stand-phase places.Thread begun = refl

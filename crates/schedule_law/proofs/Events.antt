-- Events that happen one after the other.
use Rattle.std.proofs.Common.{List, [], ◌∷◌, ◌++◌, refl, subst}
use Rattle.script_ops.specs.Values.{ScriptValue}
use Rattle.step_world.specs.Machine.{MachineValue}
use Rattle.step_world.specs.Schedules.{Event, Happens, Plays}

-- one event more
pub Plays-push : (script : ScriptValue) (events : List Event) (e : Event) (a b c : MachineValue) → Plays script events a b → Happens script e b c → Plays script (events ++ e ∷ []) a c
Plays-push script [] e a b c p h = (c, subst (λ x. Happens script e x c) p h, refl)
Plays-push script (x ∷ xs) e a b c p h = (p.0, p.1, Plays-push script xs e p.0 b c p.2 h)

-- events after others
pub Plays-append : (script : ScriptValue) (events more : List Event) (a b c : MachineValue) → Plays script events a b → Plays script more b c → Plays script (events ++ more) a c
Plays-append script [] more a b c same q = subst (λ x. Plays script more x c) same q
Plays-append script (x ∷ xs) more a b c p q = (p.0, p.1, Plays-append script xs more p.0 b c p.2 q)

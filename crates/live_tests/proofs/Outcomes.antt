-- What holds of a success, whatever came of the call.
use Rattle.std.specs.Prelude.{ℕ, Result, Ok, Err, OnOk}
use Rattle.atomic_table.specs.Seated.{TableId}
use Rattle.live_run.specs.Names.{PassesValue}
use Rattle.live_tests.specs.Turns.{HasMade, HaveMade}
use Rattle.schedule_law.specs.declared.part.Part.{Part}
use Rattle.script_ops.specs.Values.{ScriptValue}
use Rattle.shared_parts.specs.Shares.{ShareValue}

-- what holds anyway
pub OnOk-anyway : {T E P : Type 0} (r : Result T E) → P → OnOk r P
OnOk-anyway (Ok x) p = p
OnOk-anyway (Err e) p = tt

-- the second thread has made more
pub HaveMade-second : {T E : Type 0} (r : Result T E) (script : ScriptValue) (table : TableId) (m n k : ℕ) (turn : ShareValue Part) (a b b' c : PassesValue) → HaveMade script table m n turn a b c → OnOk r (HasMade 1 k b')
    → OnOk r (HaveMade script table k n turn a b' c)
HaveMade-second (Ok x) script table m n k turn a b b' c made more = record { turn_is = made.turn_is; first_made = made.first_made; second_made = more; third_made = made.third_made }
HaveMade-second (Err e) script table m n k turn a b b' c made more = tt

-- the second has made more, and then the third
pub HaveMade-round : {T E : Type 0} (r : Result T E) (script : ScriptValue) (table : TableId) (m n k l : ℕ) (turn : ShareValue Part) (a b b' c c' : PassesValue) → HaveMade script table m n turn a b c → HasMade 1 k b' → OnOk r (HasMade 2 l c')
    → OnOk r (HaveMade script table k l turn a b' c')
HaveMade-round (Ok x) script table m n k l turn a b b' c c' made second third = record { turn_is = made.turn_is; first_made = made.first_made; second_made = second; third_made = third }
HaveMade-round (Err e) script table m n k l turn a b b' c c' made second third = tt

use Rattle.std.proofs.Common.{List, Result, Ok, Err, Bool, ℕ}
use Rattle.std.specs.Prelude.{IfOk, IsTrue}
use Rattle.check_parts.specs.BadInputs.{HasScript}
use Rattle.check_parts.specs.declared.form.Form.TheVariants.{Export}
use Rattle.check_parts.specs.declared.form.Play.TheVariants.{Step}
use Rattle.replay_top.specs.Reports.{Makes}
use Rattle.run_law.specs.Journals.{JournalsValue}
use Rattle.script_ops.specs.Values.{ScriptValue}
use Rattle.step_world.specs.Play.{IsPlay}
use Rattle.replay_top.proofs.ordering.makes.Goals as goal

-- a script that was read of the text, and whose play is asked
makes-read : {E : Type 0} (text : List ℕ) (run : JournalsValue) (script : ScriptValue) → HasScript (Export Step) text script → (result : Result Bool E)
    → IfOk result (λ same. IsTrue same → IsPlay script run) → IfOk result (λ same. IsTrue same → Makes text run)
makes-read text run script has (Ok same) plays = λ is_same. (script, has, plays is_same)
makes-read text run script has (Err error) plays = tt

pub returns-in-Ok : goal.returns-in-Ok
returns-in-Ok c = makes-read c.args.text.now c.args.journals.now c.in-Ok.script (c.in-Ok.ensures Step) c.is_play.result c.is_play.ensures

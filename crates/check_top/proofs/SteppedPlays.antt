-- A play by order lines is one by order lists, so that either kind of export may be made of it.
use Rattle.check_parts.specs.declared.form.Play.{Play}
use Rattle.check_parts.specs.declared.form.Play.TheVariants.{Run, Step}
use Rattle.check_top.specs.Endings.{PlaysAs}
use Rattle.run_law.specs.Journals.{JournalsValue}
use Rattle.script_ops.specs.Values.{ScriptValue}
use Rattle.step_world.specs.Play.{IsPlay, orders_of}

pub PlaysAs-stepped : (play : Play) (script : ScriptValue) (run : JournalsValue) → IsPlay script run → PlaysAs play script run
PlaysAs-stepped Step script run played = played
PlaysAs-stepped Run script run played = (orders_of script.phases, played)

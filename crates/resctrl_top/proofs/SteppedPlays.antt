-- A play by order lines is one by order lists, so that either may be promised of it.
use Rattle.resctrl_top.specs.Endings.{PlaysAs}
use Rattle.run_law.specs.Journals.{JournalsValue}
use Rattle.script_ops.specs.Values.{ScriptValue}
use Rattle.step_world.specs.Play.{IsPlay, orders_of}
use Rattle.top_parts.specs.declared.command.Command.{Command}
use Rattle.top_parts.specs.declared.command.Command.TheVariants.{Gen, Run, Step}

pub PlaysAs-stepped : (command : Command) (script : ScriptValue) (run : JournalsValue) → IsPlay script run → PlaysAs command script run
PlaysAs-stepped Step script run played = played
PlaysAs-stepped Run script run played = (orders_of script.phases, played)
PlaysAs-stepped (Gen n) script run played = played

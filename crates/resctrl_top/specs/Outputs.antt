-- What is written of a run: the report that the flags ask for, with the windows that are due.
use Rattle.std.specs.Prelude.{◌≡◌, ℕ, Bool, true, false, if◌then◌else◌, List, []}
use Rattle.json_report.specs.Reporting.{json_of}
use Rattle.report_text.specs.Reporting.{report_of}
use Rattle.run_law.specs.Journals.{JournalsValue}
use Rattle.report_pieces.specs.declared.flags.Flags.{Flags}
use Rattle.run_counts.specs.declared.window.Window.{Window}
use Rattle.run_windows.specs.AllWindows.{AreWindowsOf}
use Rattle.script_ops.specs.Values.{ScriptValue}

-- the windows that are due: those of the run where they are asked for, and else none
abbrev pub AreWindowsDue : Bool → ScriptValue → JournalsValue → List Window → Type 0
AreWindowsDue true script run windows = AreWindowsOf script run windows
AreWindowsDue false script run windows = windows ≡ []

-- the report in JSON where that is asked for, and else in lines
abbrev pub output_of : ScriptValue → JournalsValue → Flags → List Window → List ℕ
output_of script run flags windows = if flags.json then json_of script run flags windows else report_of script run flags windows

-- the text is the report of the run that the flags ask for, with the windows that are due
pub record IsOutput (script : ScriptValue) (run : JournalsValue) (flags : Flags) (text : List ℕ) : Type 0 where
  pub windows : List Window
  pub are_due : AreWindowsDue flags.windows script run windows
  pub is : text ≡ output_of script run flags windows

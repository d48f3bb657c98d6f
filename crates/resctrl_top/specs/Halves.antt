-- What is written of a run with its windows, and in two: the first part, for which its commands are taken once more, and the rest.
-- (For functions and proofs: no promise of the program stands on it.)
use Rattle.std.specs.Prelude.{◌≡◌, ℕ, if◌then◌else◌, List}
use Rattle.json_report.specs.Halves as json
use Rattle.report_text.specs.Halves as lines
use Rattle.resctrl_top.specs.Outputs.{output_of}
use Rattle.run_law.specs.Journals.{JournalsValue}
use Rattle.report_pieces.specs.declared.flags.Flags.{Flags}
use Rattle.run_counts.specs.declared.window.Window.{Window}
use Rattle.run_windows.specs.AllWindows.{AreWindowsOf}
use Rattle.script_ops.specs.Values.{ScriptValue}

-- the first part, in JSON where that is asked for
abbrev pub output_head : ScriptValue → JournalsValue → Flags → List ℕ
output_head script run flags = if flags.json then json.head_of script run flags else lines.head_of script run flags

-- the rest
abbrev pub output_tail : ScriptValue → JournalsValue → Flags → List Window → List ℕ
output_tail script run flags windows = if flags.json then json.tail_of script run flags windows else lines.tail_of script run flags windows

-- the text is the report with the windows of the run
pub record IsWithWindows (script : ScriptValue) (run : JournalsValue) (flags : Flags) (text : List ℕ) : Type 0 where
  pub windows : List Window
  pub are : AreWindowsOf script run windows
  pub is : text ≡ output_of script run flags windows

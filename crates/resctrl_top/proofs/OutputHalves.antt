-- What is written of a run: with its windows or without them, and in two.
use Rattle.std.proofs.Common.{◌≡◌, Bool, true, false, List, [], ℕ, ◌++◌, Result, Ok, Err, refl, sym, subst}
use Rattle.std.specs.Prelude.{IfOk, if◌then◌else◌}
use Rattle.json_report.proofs.laws.Halves.{json_of-halves}
use Rattle.json_report.specs.Halves as json
use Rattle.json_report.specs.Reporting.{json_of}
use Rattle.report_text.proofs.laws.Halves.{report_of-halves}
use Rattle.report_text.specs.Halves as lines
use Rattle.report_text.specs.Reporting.{report_of}
use Rattle.resctrl_top.specs.Halves.{IsWithWindows, output_head, output_tail}
use Rattle.resctrl_top.specs.Outputs.{AreWindowsDue, IsOutput, output_of}
use Rattle.run_law.specs.Journals.{JournalsValue}
use Rattle.report_pieces.specs.declared.flags.Flags.{Flags}
use Rattle.run_counts.specs.declared.window.Window.{Window}
use Rattle.script_ops.specs.Values.{ScriptValue}

-- it is its first part and the rest
pub output_of-halves : (script : ScriptValue) (run : JournalsValue) (flags : Flags) (windows : List Window) → output_of script run flags windows ≡ output_head script run flags ++ output_tail script run flags windows
output_of-halves script run flags windows = at flags.json
  where
    at : (in_json : Bool)
        → (if in_json then json_of script run flags windows else report_of script run flags windows)
        ≡ (if in_json then json.head_of script run flags else lines.head_of script run flags) ++ (if in_json then json.tail_of script run flags windows else lines.tail_of script run flags windows)
    at true = json_of-halves script run flags windows
    at false = report_of-halves script run flags windows

-- what holds of a value, if there is one, follows from another fact of it
pub IfOk-map : {A E : Type 0} (P Q : A → Type 0) (r : Result A E) → ((a : A) → P a → Q a) → IfOk r P → IfOk r Q
IfOk-map P Q (Ok a) f h = f a h
IfOk-map P Q (Err e) f h = tt

-- the report with the windows is what is written, where they are asked for
pub IsOutput-with : (script : ScriptValue) (run : JournalsValue) (flags : Flags) (text : List ℕ) → flags.windows ≡ true → IsWithWindows script run flags text → IsOutput script run flags text
IsOutput-with script run flags text asked w = record {
  windows = w.windows;
  are_due = subst (λ (b : Bool). AreWindowsDue b script run w.windows) (sym asked) w.are;
  is = w.is;
}

-- and the report without windows is, where they are not
pub IsOutput-without : (script : ScriptValue) (run : JournalsValue) (flags : Flags) (text : List ℕ) → flags.windows ≡ false → text ≡ output_of script run flags [] → IsOutput script run flags text
IsOutput-without script run flags text not_asked is = record {
  windows = [];
  are_due = subst (λ (b : Bool). AreWindowsDue b script run []) (sym not_asked) refl;
  is = is;
}

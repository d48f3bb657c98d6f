-- What each status of the top call says: the endings of `call_rim`, with what a form plays and what is promised of it.
use Rattle.std.specs.Prelude.{◌≡◌, ℕ, false, true, is_some, IsSomeAnd, List, [], Option, Some, Ok, Err, option_map, unwrap_or}
use Rattle.call_rim.specs.Endings as rim
use Rattle.call_rim.specs.Outside.{LeavesRest, Reading, Writing}
use Rattle.call_rim.specs.declared.status.Status.{Status}
use Rattle.top_parts.specs.declared.command.Command.{Command}
use Rattle.top_parts.specs.declared.command.Command.TheVariants.{Gen, Run, Step}
use Rattle.top_parts.specs.declared.form.Form.{Form}
use Rattle.top_parts.specs.Forms.{reads_source, usage_line}
use Rattle.run_windows.specs.Isolation.{BeginsGroupWindows, BeginsLockWindows, HoldsRegions, IsolatesGroups}
use Rattle.top_parts.specs.Meaning.{meaning, refusal_line}
use Rattle.resctrl_top.specs.Outputs.{IsOutput}
use Rattle.top_parts.specs.declared.refusal.Refusal.{Refusal}
use Rattle.run_law.specs.Runs.{IsRun}
use Rattle.run_law.specs.Journals.{JournalsValue}
use Rattle.script_ops.specs.Values.{IsLawful, ScriptValue}
use Rattle.script_ops.specs.declared.limits.TheConstants.{MOST_SCRIPT_BYTES}
use Rattle.step_world.specs.Play.{IsPlay, IsPlayBy}
use Rattle.trace_gen.specs.Trace.{trace_text}

-- a call as it is seen from outside: the form of its words, and its source and its sink before and after
pub record Call : Type 0 where
  pub form : Option Form
  pub source : Reading
  pub sink : Writing

-- the call with this form, this source and this sink
abbrev pub call_of : Option Form → Reading → Writing → Call
call_of form source sink = record { form = form; source = source; sink = sink }

-- how a command plays a script: `step` and `gen` by its order lines, and `run` in whatever order its workers take the locks, for which
-- there are order lists by which the play of the script has just these journals
abbrev pub PlaysAs : Command → ScriptValue → JournalsValue → Type 0
PlaysAs Step script run = IsPlay script run
PlaysAs Run script run = (orders : List (List ℕ)) × IsPlayBy script orders run
PlaysAs (Gen n) script run = IsPlay script run

-- What is promised of the journals of a script that was played: the script is lawful, and they are a run of it, played as the
-- command says, which isolates groups and holds regions. Windows exist: each flush and each lock begins one of each group that is
-- exclusive then, and each lock one of its region.
pub record IsPromised (command : Command) (script : ScriptValue) (run : JournalsValue) : Type 0 where
  pub lawful : IsLawful script
  pub is_run : IsRun script run
  pub plays : PlaysAs command script run
  pub isolates : IsolatesGroups script run
  pub holds : HoldsRegions script run
  pub begins_windows : BeginsLockWindows script run
  pub begins_group_windows : BeginsGroupWindows script run

-- the bytes are a script, the journals are those of its play, and the text is their report
pub record IsPlayed (form : Form) (bytes : List ℕ) (run : JournalsValue) (text : List ℕ) : Type 0 where
  pub script : ScriptValue
  pub is_script : meaning bytes ≡ Ok script
  pub promised : IsPromised form.command script run
  pub output : IsOutput script run form.flags text

-- the bytes are those of the source, and no script, and this is the line that says why
pub record IsRefused (form : Option Form) (bytes line : List ℕ) : Type 0 where
  pub refusal : Refusal
  pub reads : reads_source form ≡ true
  pub no_script : meaning bytes ≡ Err refusal
  pub is_line : line ≡ refusal_line refusal

-- where the bytes that a command plays come from: the source, or for `gen` the generator's text, which is read to its end and does not
-- fail
abbrev pub origin_of : Command → Reading → Reading
origin_of Step source = source
origin_of Run source = source
origin_of (Gen n) source = record { left = Some (trace_text n); left_now = Some []; faults = 0; faults_now = 0 }

-- the call as the rim has it, by where its bytes come from
abbrev pub rim_call : Call → rim.Call
rim_call c = record { has_form = is_some c.form; usage = usage_line; source = unwrap_or (option_map (λ form. origin_of form.command c.source) c.form) c.source; sink = c.sink }

-- What a status says of its call and of its journals. Behind a refusal the source has the rest left, after one byte more than a script
-- may have. One that is not read has all that it had, and did not fail.
abbrev pub Ends : Call → Status → Option JournalsValue → Type 0
Ends c status journals =
    rim.Ends (λ bytes line. IsRefused c.form bytes line × LeavesRest MOST_SCRIPT_BYTES c.source.left c.source.left_now) (λ bytes run text. IsSomeAnd c.form (λ form. IsPlayed form bytes run text)) (rim_call c) status journals
    × (reads_source c.form ≡ false → (c.source.left_now ≡ c.source.left) × (c.source.faults_now ≡ c.source.faults))

-- The status when nothing fails: what `gen` plays is never refused, so it gets Done or NoMemory.
abbrev pub IsComplete : Call → Status → Type 0
IsComplete c status = rim.IsComplete (IsRefused c.form) (rim_call c) status

-- Laws of traces.
-- (For functions and proofs: no promise of the program stands on it.)
use Rattle.std.specs.Prelude.{◌≡◌, ℕ, ◌≤◌, List, length, Ok}
use Rattle.script_ops.specs.declared.limits.TheConstants.{MOST_SCRIPT_BYTES}
use Rattle.script_ops.specs.Values.{ScriptValue}
use Rattle.script_text.specs.Reading.{script_of}
use Rattle.trace_gen.specs.declared.making.TheConstants.{MOST_THREAD_ACCESSES}
use Rattle.trace_gen.specs.Scripts.{trace_script}
use Rattle.trace_gen.specs.Trace.{trace_text}

-- a text that is a script, and no longer than a script may be
pub record IsScriptText (text : List ℕ) : Type 0 where
  pub script : ScriptValue
  pub is : script_of text ≡ Ok script
  pub short : length text ≤ MOST_SCRIPT_BYTES

-- each trace is one
abbrev pub TracesAreScripts : Type 0
TracesAreScripts = (n : ℕ) → 1 ≤ n → n ≤ MOST_THREAD_ACCESSES → IsScriptText (trace_text n)

-- and which it is
abbrev pub TracesSay : Type 0
TracesSay = (n : ℕ) → 1 ≤ n → n ≤ MOST_THREAD_ACCESSES → script_of (trace_text n) ≡ Ok (trace_script n)

-- What the calls promise, by the form of their words.
use Rattle.std.proofs.Common.{◌≡◌, ℕ, Bool, true, List, Option, Some, subst}
use Rattle.call_rim.proofs.laws.Ends.{IsComplete-ends}
use Rattle.call_rim.specs.Endings.{Call, Ends, IsComplete, call_of}
use Rattle.call_rim.specs.Outside.{Reading, Writing}
use Rattle.call_rim.specs.declared.status.Status.{Status}
use Rattle.pair_text.specs.Values.{PairScriptValue}
use Rattle.pair_text.specs.declared.kind.PairKind.{PairKind}
use Rattle.pair_top.proofs.Apart.{apart}
use Rattle.pair_top.specs.Forms.{is_quiet, is_valid, usage_line}
use Rattle.pair_top.specs.Refusals.{refuses}
use Rattle.pair_top.specs.Reports.{Plays, reports}
use Rattle.pair_top.specs.declared.words.Form.{Form}

module _ {T : Type 0} (kind : PairKind) (Run Isolated Listed : PairScriptValue → T → Type 0) (report_of : PairScriptValue → T → Bool → List ℕ) (source : Reading) (sink : Writing) where
  -- what is reported on
  abbrev pub reports_of : Bool → List ℕ → T → List ℕ → Type 0
  reports_of = reports (Plays kind Run Isolated Listed report_of)

  -- the call with words of this form
  abbrev pub call_with : Option Form → Call
  call_with form = call_of (is_valid form) (usage_line kind) source sink

  -- how it ended, and that this status was due
  pub record IsPromised (form : Option Form) (status : Status) (journals : Option T) : Type 0 where
    pub ends : Ends (refuses kind) (reports_of (is_quiet form)) (call_with form) status journals
    pub complete : IsComplete (refuses kind) (call_with form) status

  promised-by : (form : Option Form) (status : Status) (journals : Option T) → Ends (refuses kind) (reports_of (is_quiet form)) (call_with form) status journals → IsPromised form status journals
  promised-by form status journals ends = record {
    ends = ends;
    complete = IsComplete-ends (refuses kind) (reports_of (is_quiet form)) (apart kind Run Isolated Listed report_of (is_quiet form)) (call_with form) status journals ends;
  }

  -- a call that read its source
  pub promised-read : (words : Option Form) (form : Form) (status : Status) (journals : Option T) → Some form ≡ words → Ends (refuses kind) (reports_of form.quiet) (call_of true (usage_line kind) source sink) status journals
      → IsPromised words status journals
  promised-read words form status journals is ends = subst (λ (f : Option Form). IsPromised f status journals) is (promised-by (Some form) status journals ends)

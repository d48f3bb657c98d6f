-- What holds after the lines of a script.
use Rattle.std.proofs.Common.{◌≡◌, ℕ, ◌<◌, ◌≤◌, List, [], ◌∷◌, length, get_or, Result, Ok, Err, IfOk, sym, ap, subst, ◌∙◌, inl, inr, ◌⊎◌}
use Rattle.std.specs.List.{AllByRecursion, slice_get}
use Rattle.std.specs.Str.Lines.{lines}
use Rattle.std.proofs.lemmas.Bool.{cases_lt}
use Rattle.std.proofs.lemmas.List.{get_or_past}
use Rattle.std.proofs.lemmas.Option.{get_or_from_slice_get, none-some, slice_get_within}
use Rattle.lists.proofs.Recursions.{AllByRecursion-map}
use Rattle.rc_base.specs.Faults.{◌>>=◌}
use Rattle.path_names.specs.declared.dirs.DirRef.{DirRef}
use Rattle.path_names.specs.declared.dirs.DirRef.TheVariants.{Root, Info, InfoL3, InfoL3Mon, Ctrl, MonGroups, Mon, MonData, MonDomain}
use Rattle.path_names.specs.declared.path_ref.PathRef.TheVariants.{Dir}
use Rattle.script_lines.specs.declared.fault.LineFault.{LineFault}
use Rattle.script_ops.specs.Values.{ScriptValue, ops_of, threads_of}
use Rattle.script_ops.specs.declared.op.Op.{Op}
use Rattle.script_ops.specs.declared.op.Op.TheVariants as ops
use Rattle.script_text.specs.Meaning.{line_meaning}
use Rattle.script_text.specs.Reading.{nothing_read, script_of}
use Rattle.script_text.specs.States.{ReaderState, close_phase}
use Rattle.plan_reading.proofs.Meanings.{AreRead, AreRead-script_of, meaning_of}
use Rattle.plan_reading.proofs.Told.{IsTold-line_meaning}
use Rattle.plan_reading.proofs.Tallies.{AllMakeNamed, IsShut, IsShut-close_phase, IsTold, IsTold-nothing_read, MakeNamed, MakesNamed}
use Rattle.plan_reading.specs.GroupWrites.{IsGroupDir, IsGroupName, IsGroupWrite, IsMadeDir}

-- what holds after good lines
IsTold-meaning_of : (ls : List (List ℕ)) (s t : ReaderState) → IsTold s → meaning_of s ls ≡ Ok t → IsTold t
IsTold-meaning_of [] s t told e = let same : s ≡ t = cc in subst IsTold same told
IsTold-meaning_of (l ∷ ls) s t told e = at (line_meaning s l) (IsTold-line_meaning s l told) e (λ u v f. IsTold-meaning_of ls u t v f)
  where
    at : (r : Result ReaderState LineFault) → IfOk r IsTold → (r >>= λ u. meaning_of u ls) ≡ Ok t → ((u : ReaderState) → IsTold u → meaning_of u ls ≡ Ok t → IsTold t) → IsTold t
    at (Ok u) v f rest = rest u v f
    at (Err fault) v f rest = absurd (let g : Err fault ≡ Ok t = f in cc)

-- a group that a command of the script makes has a name
IsGroupDir-made : (script : ScriptValue) → AllMakeNamed script.names (threads_of script) → (dir : DirRef) → IsMadeDir script dir → IsGroupDir script.names dir
IsGroupDir-made script all Root made = tt
IsGroupDir-made script all (Ctrl id) made = at (cases_lt made.0 (length (threads_of script)))
  where
    own : List Op
    own = ops_of script made.0

    here : MakeNamed script.names own → IsGroupName script.names id
    here each =
        let is : get_or own made.1 ops.Tick ≡ ops.Mkdir (Dir (Ctrl id)) = get_or_from_slice_get own made.1 (ops.Mkdir (Dir (Ctrl id))) ops.Tick made.2 in
        subst (λ (op : Op). MakesNamed script.names op) is (each made.1 ops.Tick (slice_get_within own made.1 (ops.Mkdir (Dir (Ctrl id))) made.2))

    at : (made.0 < length (threads_of script)) ⊎ (length (threads_of script) ≤ made.0) → IsGroupName script.names id
    at (inl lt) = here (all made.0 [] lt)
    at (inr le) =
        let none : own ≡ [] = get_or_past (threads_of script) made.0 [] le in
        absurd (none-some (ops.Mkdir (Dir (Ctrl id))) (sym (ap (λ (xs : List Op). slice_get xs made.1) none) ∙ made.2))
IsGroupDir-made script all Info made = absurd made
IsGroupDir-made script all InfoL3 made = absurd made
IsGroupDir-made script all InfoL3Mon made = absurd made
IsGroupDir-made script all (MonGroups owner) made = absurd made
IsGroupDir-made script all (Mon owner id) made = absurd made
IsGroupDir-made script all (MonData holder) made = absurd made
IsGroupDir-made script all (MonDomain holder domain) made = absurd made

-- so a write to such a directory is one to a directory with a name
IsGroupWrite-made : (script : ScriptValue) → AllMakeNamed script.names (threads_of script) → (op : Op) → IsGroupWrite (IsMadeDir script) op → IsGroupWrite (IsGroupDir script.names) op
IsGroupWrite-made script all op write = record {
  dir = write.dir;
  kind = write.kind;
  text = write.text;
  is = write.is;
  is_dir = IsGroupDir-made script all write.dir write.is_dir;
  has_file = write.has_file;
  bytes = write.bytes;
  short = write.short;
}

-- the state after the lines of a script has nothing open
pub IsShut-script_of : (text : List ℕ) (script : ScriptValue) → (read : AreRead nothing_read (lines text) script) → IsShut (close_phase read.last)
IsShut-script_of text script read = IsShut-close_phase read.last (IsTold-meaning_of (lines text) nothing_read read.last IsTold-nothing_read read.meaning)

-- writes to groups that a script makes
pub AllNamed-script_of : (text : List ℕ) (script : ScriptValue) (writes : List Op) → script_of text ≡ Ok script → AllByRecursion (IsGroupWrite (IsMadeDir script)) writes → AllByRecursion (IsGroupWrite (IsGroupDir script.names)) writes
AllNamed-script_of text script writes reads all =
    let read = AreRead-script_of text script reads in
    let named : AllMakeNamed script.names (threads_of script) = subst (λ (v : ScriptValue). AllMakeNamed v.names (threads_of v)) (sym read.is) (IsShut-script_of text script read).phases in
    AllByRecursion-map (IsGroupWrite (IsMadeDir script)) (IsGroupWrite (IsGroupDir script.names)) (λ op write. IsGroupWrite-made script named op write) writes all

-- The last entry of a legal list may follow those before it.
use Rattle.std.proofs.Common.{ℕ, List, [], ◌∷◌, ◌++◌, sym, subst}
use Rattle.std.proofs.lemmas.List.{append_assoc, append-nil}
use Rattle.cache_core.specs.History.{EntryMayFollow, IsLegal}
use Rattle.cache_core.specs.declared.entry.SliceEntry.{SliceEntry}
use Rattle.rc_base.specs.Follows.{GoesOn}
use Rattle.run_law.specs.Slices.{shape_in}
use Rattle.script_ops.specs.Values.{ScriptValue}

GoesOn-last : {E : Type 0} (may : List E → E → Type 0) (before es : List E) (e : E) → GoesOn may before (es ++ e ∷ []) → may (before ++ es) e
GoesOn-last {E} may before [] e goes = subst (λ l. may l e) (sym (append-nil before)) goes.0
GoesOn-last {E} may before (x ∷ xs) e goes = subst (λ l. may l e) (append_assoc before (x ∷ []) xs) (GoesOn-last may (before ++ x ∷ []) xs e goes.1)

pub last_may_follow : (script : ScriptValue) (i : ℕ) (list : List SliceEntry) (e : SliceEntry) → IsLegal (shape_in script.machine i) (list ++ e ∷ []) → EntryMayFollow (shape_in script.machine i) list e
last_may_follow script i list e legal = GoesOn-last (EntryMayFollow (shape_in script.machine i)) [] list e legal

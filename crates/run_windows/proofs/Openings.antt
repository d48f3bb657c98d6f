-- The flushes and locks of a slice.
use Rattle.std.proofs.Common.{◌≡◌, ℕ, true, List, Option, Some, None, Result, Ok, Err, refl, sym, subst, ap}
use Rattle.std.specs.Prelude.{IsSomeAnd, OnOk, slice_get}
use Rattle.cache_core.specs.Filled.{empties}
use Rattle.cache_core.specs.declared.entry.SliceEntry.{SliceEntry}
use Rattle.machine.specs.Slices.{slice_number}
use Rattle.rc_base.specs.declared.names.Gid.{Gid}
use Rattle.run_law.specs.Journals.{At, JournalsValue, slice_at}
use Rattle.run_counts.specs.declared.window.Window.{Window}
use Rattle.run_windows.proofs.SiteOrder.{site}
use Rattle.run_windows.specs.AllWindows.{IsOpening}
use Rattle.run_windows.specs.Sites.{site_of}
use Rattle.script_ops.specs.Values.{ScriptValue}

-- what opens there
pub IsOpening-entry : (script : ScriptValue) (j : JournalsValue) (d x f : ℕ) → IsOpening script j d x f → (e : SliceEntry) × At (slice_at j (slice_number script.machine d x)) f e × (empties e.what ≡ true)
IsOpening-entry script j d x f opens = of (slice_get (slice_at j (slice_number script.machine d x)) f) refl opens
  where
    of : (o : Option SliceEntry) → slice_get (slice_at j (slice_number script.machine d x)) f ≡ o → IsSomeAnd o (λ e. empties e.what ≡ true)
        → (e : SliceEntry) × At (slice_at j (slice_number script.machine d x)) f e × (empties e.what ≡ true)
    of None is none = absurd none
    of (Some e) is empty = (e, is, empty)

-- the place of a window by its parts
pub site_of-parts : (w : Window) (d x f : ℕ) (group : Gid) → w.domain ≡ d → w.slice ≡ x → w.from ≡ f → w.gid ≡ group → site_of w ≡ site d x f group.0
site_of-parts w d x f group a b c e = let n = ap (λ (g : Gid). g.0) e in cc

-- what holds of a list holds of an equal one, where there is one
pub OnOk-list : {A E : Type 0} (P : List Window → Type 0) (l m : List Window) (r : Result A E) → P m → OnOk r (l ≡ m) → OnOk r (P l)
OnOk-list P l m (Ok a) p e = subst P (sym e) p
OnOk-list P l m (Err x) p e = tt

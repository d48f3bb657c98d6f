-- What follows a test, or a value that may be missing.
use Rattle.std.proofs.Common.{◌≡◌, Bool, true, false, Option, Some, None, Result, Ok, Err, IfOk, refl}
use Rattle.std.specs.Option.{ok_or}
use Rattle.rc_base.specs.Faults.{◌>>=◌, fault_if}
use Rattle.script_lines.specs.declared.fault.LineFault.{LineFault}

module _ {B : Type 0} (P : B → Type 0) where
  -- a test
  pub IfOk-fault_if : (b : Bool) (f : LineFault) (next : Result B LineFault) → (b ≡ false → IfOk next P) → IfOk (fault_if b f >>= λ u. next) P
  IfOk-fault_if true f next h = tt
  IfOk-fault_if false f next h = h refl

  -- a value or a fault
  pub IfOk-ok_or : {A : Type 0} (o : Option A) (f : LineFault) (next : A → Result B LineFault) → ((x : A) → o ≡ Some x → IfOk (next x) P) → IfOk (ok_or o f >>= next) P
  IfOk-ok_or None f next h = tt
  IfOk-ok_or (Some x) f next h = h x refl

  -- a meaning
  pub IfOk-bind : {A : Type 0} (r : Result A LineFault) (next : A → Result B LineFault) → ((x : A) → r ≡ Ok x → IfOk (next x) P) → IfOk (r >>= next) P
  IfOk-bind (Err e) next h = tt
  IfOk-bind (Ok x) next h = h x refl

-- The marks of a thread's own ops.
use Rattle.std.proofs.Common.{◌≡◌, ℕ, ◌<◌, ◌≤◌, List, length, Some, sym, subst, arith}
use Rattle.std.proofs.lemmas.Option.{slice_get_within}
use Rattle.cache_core.specs.declared.entry.SliceEntry.{SliceEntry}
use Rattle.run_law.specs.Journals.{JournalsValue}
use Rattle.run_law.specs.Order.{HasMarks, IsMadeAt, IsTakenAt}
use Rattle.run_law.specs.TreeHistory.{TreeEntryValue}
use Rattle.run_law.proofs.laws.OpKinds.{from_kind}
use Rattle.run_law.proofs.laws.Pairs.{both_eqb-true}
use Rattle.script_ops.specs.Values.{ScriptValue, op_at}
use Rattle.script_ops.specs.declared.op.Op.{Op}
use Rattle.script_ops.specs.declared.op.Op.TheVariants.{Access}
use Rattle.live_law.specs.DoneOps.{HasDone, IsTrueIfAccess}
use Rattle.live_law.specs.Passes.{AreBelow, StandAfter}

-- they are of ops below the thread's bound
pub HasMarks-below : (t bound op start stop : ℕ) (c : Op) (v : JournalsValue)
    → AreBelow t bound bound v → HasMarks v t op c start stop
    → op < bound
HasMarks-below t bound op start stop c v below marks =
    from_kind (λ task cpu addr. IsMadeAt v t op start stop) (IsTakenAt v t op start stop) (op < bound) c
    (λ task cpu addr made.
    let (i, p, e, there, mine, epoch, same) = made in
    let is = both_eqb-true e.thread t e.op op mine in
    let less = below.entries i p e there is.0 in
    omega (arith, less, is.1))
    (λ taken.
    let (h, there, mine, same) = taken in
    let is = both_eqb-true h.thread t h.op op mine in
    let less = below.commands start h there is.0 in
    omega (arith, less, is.1))
    marks

-- the epoch of an access that is true
epoch-within : (script : ScriptValue) (tree : List TreeEntryValue) (e : SliceEntry) (task cpu addr : ℕ)
    → IsTrueIfAccess script tree e (Access task cpu addr)
    → e.epoch ≤ length tree
epoch-within script tree e task cpu addr is = is.0

-- the marks of an access that is done
IsMadeAt-within : (script : ScriptValue) (t n op start stop task cpu addr : ℕ) (v : JournalsValue)
    → HasDone script v t n → op_at script t op ≡ Some (Access task cpu addr) → IsMadeAt v t op start stop
    → stop ≤ length v.tree
IsMadeAt-within script t n op start stop task cpu addr v done is_op made =
    let (i, p, e, there, mine, epoch, same) = made in
    let is = both_eqb-true e.thread t e.op op mine in
    let its : op_at script t e.op ≡ Some (Access task cpu addr) =
    subst (λ o. op_at script t o ≡ Some (Access task cpu addr)) (sym is.1) is_op in
    let early = epoch-within script v.tree e task cpu addr (done.accesses i p e (Access task cpu addr) there is.0 its) in
    omega (arith, early, epoch, same)

-- the marks of a command
IsTakenAt-within : (t op start stop : ℕ) (v : JournalsValue) → IsTakenAt v t op start stop → stop ≤ length v.tree
IsTakenAt-within t op start stop v taken =
    let (h, there, mine, same) = taken in
    let within = slice_get_within v.tree start h there in
    omega (arith, within, same)

-- no mark is after the tree's history
pub HasMarks-within : (script : ScriptValue) (t n op start stop : ℕ) (c : Op) (v : JournalsValue)
    → HasDone script v t n → op_at script t op ≡ Some c → HasMarks v t op c start stop
    → stop ≤ length v.tree
HasMarks-within script t n op start stop (Access task cpu addr) v done is marks =
    IsMadeAt-within script t n op start stop task cpu addr v done is marks
HasMarks-within script t n op start stop c v done is marks = IsTakenAt-within t op start stop v marks

-- and none is before the thread's start
pub HasMarks-after : (t op from to : ℕ) (c : Op) (start v : JournalsValue)
    → StandAfter t start v → HasMarks v t op c from to
    → length start.tree ≤ from
HasMarks-after t op from to c start v after marks =
    from_kind (λ task cpu addr. IsMadeAt v t op from to) (IsTakenAt v t op from to) (length start.tree ≤ from) c
    (λ task cpu addr made.
    let (i, p, e, there, mine, epoch, same) = made in
    let is = both_eqb-true e.thread t e.op op mine in
    let late = after.epochs i p e there is.0 in
    omega (arith, late, epoch))
    (λ taken.
    let (h, there, mine, same) = taken in
    let is = both_eqb-true h.thread t h.op op mine in
    after.commands from h there is.0)
    marks

-- Entries that are true to their ops, by the kind of the op alone.
use Rattle.std.proofs.Common.{◌≡◌, ℕ, ◌<◌, ◌≤◌, Bool, true, false, List, length, Option, Some, None, refl, ap, subst}
use Rattle.std.specs.Prelude.{IsTrue}
use Rattle.cache_core.specs.declared.entry.SliceEntry.{SliceEntry}
use Rattle.cache_core.specs.declared.entry.What.{What}
use Rattle.cache_core.specs.declared.entry.What.TheVariants as whats
use Rattle.run_law.specs.Journals.{At, JournalsValue, slice_at}
use Rattle.run_law.specs.Ops.{ByKind}
use Rattle.run_law.specs.Owed.{Owed, owed_by_access, paid_by, undecided}
use Rattle.run_law.specs.TreeHistory.{TreeEntryValue}
use Rattle.run_law.specs.Truth.{AreTrue, IsOwed, IsTrueAccess, IsTrueCommand, is_made_by, is_of_access}
use Rattle.script_ops.specs.Values.{ScriptValue, op_at}
use Rattle.script_ops.specs.declared.op.Op.{Op}
use Rattle.script_ops.specs.declared.op.Op.TheVariants.{Access}

-- an entry of slice i is true to its op; one of no op is passed over
abbrev pub IsTrueTo : ScriptValue → List TreeEntryValue → ℕ → SliceEntry → Option Op → Type 0
IsTrueTo script tree i e None = Unit {0}
IsTrueTo script tree i e (Some op) =
    ByKind
    (λ task cpu addr. (e.epoch ≤ length tree) × (paid_by e ≡ owed_by_access script tree e.epoch task cpu addr))
    (IsOwed script tree i e op)
    op

-- what an access owes is paid by an Access alone
owed_by_access-paid : (script : ScriptValue) (tree : List TreeEntryValue) (epoch task cpu addr : ℕ) (what : What) → is_of_access (Access task cpu addr) what ≡ false
    → undecided what ≡ (owed_by_access script tree epoch task cpu addr).what → ⊥
unfolding owed_by_access
owed_by_access-paid script tree epoch task cpu addr (whats.Access hit way owner rmid mask line) apart is = absurd (let wrong : true ≡ false = apart in cc)
owed_by_access-paid script tree epoch task cpu addr whats.Raise apart is = cc
owed_by_access-paid script tree epoch task cpu addr whats.Flush apart is = cc
owed_by_access-paid script tree epoch task cpu addr (whats.Lock mask first_line) apart is = cc
owed_by_access-paid script tree epoch task cpu addr (whats.Look rmid lines) apart is = cc
owed_by_access-paid script tree epoch task cpu addr (whats.Drop line at) apart is = cc

module _ (script : ScriptValue) (tree : List TreeEntryValue) (i : ℕ) (e : SliceEntry) where
  -- of an op whose entry is its Access
  IsTrueAccess-of : (op : Op) → is_of_access op e.what ≡ true → IsTrueTo script tree i e (Some op) → IsTrueAccess script tree e op
  IsTrueAccess-of (Access task cpu addr) own is = is
  IsTrueAccess-of op own is = absurd (let wrong : false ≡ true = own in cc)

  -- of an op whose entry is no Access of it
  IsTrueCommand-of : (op : Op) → is_of_access op e.what ≡ false → IsTrueTo script tree i e (Some op) → IsTrueCommand script tree i e op
  IsTrueCommand-of (Access task cpu addr) apart is = owed_by_access-paid script tree e.epoch task cpu addr e.what apart (ap (λ (o : Owed). o.what) is.1)
  IsTrueCommand-of op apart is = is

  -- and back
  IsTrueTo-access : (op : Op) → IsTrueAccess script tree e op → IsTrueTo script tree i e (Some op)
  IsTrueTo-access (Access task cpu addr) is = is
  IsTrueTo-access op is = absurd is

  IsTrueTo-command : (op : Op) → IsTrueCommand script tree i e op → IsTrueTo script tree i e (Some op)
  IsTrueTo-command (Access task cpu addr) is = absurd is
  IsTrueTo-command op is = is

-- each entry of entries that are true is true to its op
pub IsTrueTo-at : (script : ScriptValue) (j : JournalsValue) → AreTrue script j → (i p : ℕ) (e : SliceEntry) → At (slice_at j i) p e → IsTrueTo script j.tree i e (op_at script e.thread e.op)
IsTrueTo-at script j are i p e at = of (op_at script e.thread e.op) refl
  where
    of : (o : Option Op) → op_at script e.thread e.op ≡ o → IsTrueTo script j.tree i e o
    of None is = tt
    of (Some op) is = by_kind (is_of_access op e.what) refl
      where
        by_kind : (b : Bool) → is_of_access op e.what ≡ b → IsTrueTo script j.tree i e (Some op)
        by_kind true own = IsTrueTo-access script j.tree i e op (are.accesses i p e op at is own)
        by_kind false apart = IsTrueTo-command script j.tree i e op (are.others i p e op at is apart)

-- where each entry is true to its op, and stands after those of earlier commands, the entries are true
pub AreTrue-each : (script : ScriptValue) (j : JournalsValue) → ((i p : ℕ) (e : SliceEntry) → At (slice_at j i) p e → IsTrueTo script j.tree i e (op_at script e.thread e.op))
    → ((i p q k : ℕ) (e earlier : SliceEntry) (command : TreeEntryValue) → At (slice_at j i) p e → At (slice_at j i) q earlier → At j.tree k command
    → IsTrue (is_made_by command.thread command.op earlier) → k < e.epoch → (IsTrue (is_made_by command.thread command.op e) → ⊥) → q < p)
    → AreTrue script j
AreTrue-each script j each after = record {
  accesses = λ i p e op at is own. IsTrueAccess-of script j.tree i e op own (subst (λ o. IsTrueTo script j.tree i e o) is (each i p e at));
  others = λ i p e op at is apart. IsTrueCommand-of script j.tree i e op apart (subst (λ o. IsTrueTo script j.tree i e o) is (each i p e at));
  after_commands = after;
}

-- Entries of accesses that are true to them.
use Rattle.std.proofs.Common.{◌≡◌, ◌↔◌, ℕ, ◌≤◌, inl, inr, true, false, List, length, take, Some, refl, sym, ap, ◌∙◌, subst}
use Rattle.std.proofs.lemmas.Bool.{cases_lt}
use Rattle.std.proofs.lemmas.Option.{get_or_from_slice_get, slice_get-get_or, slice_get_within}
use Rattle.cache_core.specs.declared.entry.SliceEntry.{SliceEntry}
use Rattle.cache_core.specs.declared.entry.What.{What}
use Rattle.cache_core.specs.declared.entry.What.TheVariants as whats
use Rattle.journal_check.specs.Asks.{AreAsks, IsAnswered, IsAsked, IsAskOf, IsPaid}
use Rattle.journal_check.specs.CheckReplays.{IsReplayed}
use Rattle.journal_check.specs.Tags.{IsTagOf, access_of}
use Rattle.cache_core.specs.Whats.{is_access}
use Rattle.journal_check.specs.declared.asks.Ask.{Ask}
use Rattle.journal_check.proofs.laws.OpKinds.{is_access_of-some, is_access_of-true}
use Rattle.journal_check.proofs.laws.Told.{slice_at-past}
use Rattle.journal_check.specs.OpKinds.{is_access_of}
use Rattle.run_law.specs.Clauses.{AccessesAreTrue}
use Rattle.run_law.specs.Journals.{At, JournalsValue, slice_at}
use Rattle.run_law.specs.Ops.{is_command}
use Rattle.run_law.specs.Owed.{Owed, owed_by_access}
use Rattle.run_law.specs.TreeHistory.{TreeEntryValue, tree_after}
use Rattle.run_law.specs.Truth.{IsTrueAccess, is_of_access}
use Rattle.script_ops.specs.Values.{ScriptValue, op_at}
use Rattle.script_ops.specs.declared.op.Op.{Op}
use Rattle.script_ops.specs.declared.op.Op.TheVariants as ops
use Rattle.tree_core.specs.Values.{TreeValue}

module _ (script : ScriptValue) (tree : List TreeEntryValue) (e : SliceEntry) (t : TreeValue) (replayed : IsReplayed script (take e.epoch tree) t) (epoch : e.epoch ≤ length tree) where
  -- what an access owes, by the tree of its epoch
  owed-tree : (task cpu addr : ℕ) → owed_by_access script tree e.epoch task cpu addr ≡ (record { epoch = e.epoch; what = access_of t.machine t.state task cpu addr })
  unfolding owed_by_access
  owed-tree task cpu addr =
      ap (λ m. record { epoch = e.epoch; what = access_of m (tree_after script (take e.epoch tree)) task cpu addr }) (sym replayed.machine)
      ∙ ap (λ s. record { epoch = e.epoch; what = access_of t.machine s task cpu addr }) (sym replayed.state)

  -- an entry of an access is true to it where it has the tag that the tree gives
  pub IsTrueAccess-tag : (op : Op) → is_command op ≡ false → IsTagOf t.machine t.state op e.what ↔ IsTrueAccess script tree e op
  IsTrueAccess-tag (ops.Access task cpu addr) access = (
    λ same. (epoch, ap (λ (w : What). record { epoch = e.epoch; what = w }) same ∙ sym (owed-tree task cpu addr)),
    λ held. ap (λ (o : Owed). o.what) (held.1 ∙ owed-tree task cpu addr),
  )
  IsTrueAccess-tag op access = absurd cc

  -- the same of the op that it is of
  pub IsPaid-tag : (op : Op) → op_at script e.thread e.op ≡ Some op → is_access_of (op_at script e.thread e.op) ≡ true → IsTagOf t.machine t.state op e.what ↔ IsPaid script tree e
  IsPaid-tag op is access =
      let it = is_access_of-true (op_at script e.thread e.op) access in
      let one : it.0 ≡ op = (let w : Some it.0 ≡ Some op = sym it.1 ∙ is in cc) in
      let kind : is_command op ≡ false = ap is_command (sym one) ∙ it.2 in
      let same = IsTrueAccess-tag op kind in (
        λ tag c is_c. (let w : op ≡ c = (let x : Some op ≡ Some c = sym is ∙ is_c in cc) in subst (λ d. IsTrueAccess script tree e d) w (same.0 tag)),
        λ paid. same.1 (paid op is),
      )

-- an entry that is true to its access has an epoch that the tree had
pub IsPaid-epoch : (script : ScriptValue) (tree : List TreeEntryValue) (e : SliceEntry) → IsAsked script e → IsPaid script tree e → e.epoch ≤ length tree
IsPaid-epoch script tree e asked paid =
    let it = is_access_of-true (op_at script e.thread e.op) asked.0 in
    of it.0 it.2 (paid it.0 it.1)
  where
    of : (op : Op) → is_command op ≡ false → IsTrueAccess script tree e op → e.epoch ≤ length tree
    of (ops.Access task cpu addr) access held = held.0
    of op access held = absurd cc

-- an access of an access is asked about
asked-of_access : (script : ScriptValue) (e : SliceEntry) (op : Op) → op_at script e.thread e.op ≡ Some op → is_of_access op e.what ≡ true → IsAsked script e
asked-of_access script e op is of = (is_access_of-some (op_at script e.thread e.op) op is (kind op e.what of), what op e.what of)
  where
    kind : (c : Op) (w : What) → is_of_access c w ≡ true → is_command c ≡ false
    kind (ops.Access task cpu addr) w h = refl
    kind c w h = absurd cc

    what : (c : Op) (w : What) → is_of_access c w ≡ true → is_access w ≡ true
    what (ops.Access task cpu addr) (whats.Access hit way owner rmid mask line) h = refl
    what c w h = absurd cc

-- and what is asked about is one
of_access-asked : (script : ScriptValue) (e : SliceEntry) (op : Op) → op_at script e.thread e.op ≡ Some op → IsAsked script e → is_of_access op e.what ≡ true
of_access-asked script e op is asked =
    let it = is_access_of-true (op_at script e.thread e.op) asked.0 in
    let one : it.0 ≡ op = (let w : Some it.0 ≡ Some op = sym it.1 ∙ is in cc) in
    both op e.what (ap is_command (sym one) ∙ it.2) asked.1
  where
    both : (c : Op) (w : What) → is_command c ≡ false → is_access w ≡ true → is_of_access c w ≡ true
    both (ops.Access task cpu addr) (whats.Access hit way owner rmid mask line) a h = refl
    both c w a h = absurd cc

module _ (script : ScriptValue) (j : JournalsValue) (asks : List Ask) (all : AreAsks script j (length j.slices) 0 asks) where
  -- where each ask is answered, accesses are true
  pub AccessesAreTrue-answered : ((k : ℕ) (ask : Ask) → At asks k ask → IsAnswered script j ask) → AccessesAreTrue script j
  AccessesAreTrue-answered answered i p e op at is of = elim (cases_lt i (length j.slices)) [
    | inl inside ↦
        let ask : Ask = record { epoch = e.epoch; slice = i; position = p } in
        let has = all.every i p e (inl inside) at (asked-of_access script e op is of) in
        let there : At asks has.0 ask = slice_get-get_or asks has.0 ask has.1 ∙ ap (λ (a : Ask). Some a) has.2 in
        answered has.0 ask there e at op is
    | inr past ↦ absurd (slice_at-past j i p e past at)
  ]

  -- and where accesses are true, each is
  pub answered-AccessesAreTrue : AccessesAreTrue script j → (k : ℕ) (ask : Ask) → At asks k ask → (e : SliceEntry) × At (slice_at j ask.slice) ask.position e × (e.epoch ≡ ask.epoch) × IsAsked script e × IsPaid script j.tree e
  answered-AccessesAreTrue true_all k ask at =
      let it = subst (λ (a : Ask). IsAskOf script j a) (get_or_from_slice_get asks k ask ask at) (all.each k ask (slice_get_within asks k ask at)) in
      (it.entry, it.there, it.same_epoch, it.asked, λ op is. true_all ask.slice ask.position it.entry op it.there is (of_access-asked script it.entry op is it.asked))

-- What an entry of a run says is what the tree of its epoch gives.
use Rattle.std.proofs.Common.{◌≡◌, ℕ, zero, suc, ◌<◌, Bool, true, false, ◌==◌, List, [], ◌∷◌, length, filter, Option, None, Some, inl, inr, refl, sym, subst, ap, ◌∙◌, arith}
use Rattle.std.specs.Prelude.{IsSome}
use Rattle.std.proofs.lemmas.Bool.{cases_Bool, eq-eqb, eqb-true}
use Rattle.cache_core.specs.declared.entry.SliceEntry.{SliceEntry}
use Rattle.cache_core.specs.declared.entry.What.{What}
use Rattle.cache_core.specs.declared.entry.What.TheVariants as whats
use Rattle.lists.specs.Sums.{one_if}
use Rattle.machine.specs.Maps.{domain_of, line_of}
use Rattle.machine.specs.Slices.{domain_in, slice_count, slice_of_line}
use Rattle.machine.specs.declared.parameters.Parameters.{Parameters}
use Rattle.rc_base.specs.declared.names.Gid.{Gid}
use Rattle.run_law.proofs.laws.Truth.{IsTrueTo, IsTrueTo-at}
use Rattle.run_law.specs.Journals.{At, JournalsValue, slice_at}
use Rattle.run_law.specs.Owed.{Owed, owed_by_access, paid_by, undecided}
use Rattle.run_law.specs.Runs.{IsRun}
use Rattle.run_law.specs.Truth.{is_made_by}
use Rattle.script_ops.specs.Values.{IsLawful, ScriptValue, op_at}
use Rattle.script_ops.specs.declared.op.Op.{Op}
use Rattle.script_ops.specs.declared.op.Op.TheVariants as ops
use Rattle.tree_law.specs.Resolving.{mask_of_group, owner_of, resolve}
use Rattle.tree_law.specs.State.{State}
use Rattle.run_windows.specs.Epochs.{state_at}
use Rattle.run_windows.proofs.GivenCommands.{IsGiven, IsGivenEntry, IsOwed-given}
use Rattle.machine.proofs.laws.Slices.{domain_in-slice_of_line}
use Rattle.run_law.proofs.laws.SoundHistories.{Fits-op_at}

-- what passes and is there is filtered
length-filter_at : {X : Type 0} (p : X → Bool) (xs : List X) (k : ℕ) (x : X) → At xs k x → p x ≡ true → 0 < length (filter p xs)
length-filter_at p [] k x h passes = absurd (let none : None ≡ Some x = h in cc)
length-filter_at p (y ∷ ys) zero x h passes = let same : y ≡ x = cc in let here : p y ≡ true = ap p same ∙ passes in rw here (omega arith)
length-filter_at p (y ∷ ys) (suc k) x h passes =
    let rest : 0 < length (filter p ys) = length-filter_at p ys k x h passes in
    elim (cases_Bool (p y)) [
      | inl e ↦ rw e (omega arith)
      | inr e ↦ rw e rest
    ]

-- something that is counted once passes
one_if-some : (b : Bool) → 0 < one_if b → b ≡ true
one_if-some true some = refl
one_if-some false some = absurd (omega arith)

-- the CPU of an access is of the domain in whose slice its entry stands
domain_of-access : (script : ScriptValue) (j : JournalsValue) (i p : ℕ) (e : SliceEntry) (task cpu addr : ℕ) → IsLawful script → IsRun script j → i < slice_count script.machine → At (slice_at j i) p e → op_at script e.thread e.op ≡ Some (ops.Access task cpu addr)
    → domain_of script.machine cpu ≡ domain_in script.machine i
domain_of-access script j i p e task cpu addr lawful run within there is =
    let m : Parameters = script.machine in
    let line : ℕ = line_of addr in
    let made : length (filter (is_made_by e.thread e.op) (slice_at j i)) ≡ one_if (i == slice_of_line m (domain_of m cpu) line) = run.in_order.entries_once i e.thread e.op (ops.Access task cpu addr) within is in
    let own : is_made_by e.thread e.op e ≡ true = rw (eq-eqb e.thread e.thread refl, eq-eqb e.op e.op refl) refl in
    let some : 0 < length (filter (is_made_by e.thread e.op) (slice_at j i)) = length-filter_at (is_made_by e.thread e.op) (slice_at j i) p e there own in
    let here : i ≡ slice_of_line m (domain_of m cpu) line = eqb-true i (slice_of_line m (domain_of m cpu) line) (one_if-some _ (subst (λ n. 0 < n) made some)) in
    sym (ap (domain_in m) here ∙ domain_in-slice_of_line m (domain_of m cpu) line lawful.in_range.some_slice)

-- the owner and the mask of an access
abbrev owner_in : Gid → What → Gid
owner_in d (whats.Access hit way owner rmid mask line) = owner
owner_in d what = d

-- the mask of an access
abbrev mask_in_access : What → ℕ
mask_in_access (whats.Access hit way owner rmid mask line) = mask
mask_in_access what = 0

-- an entry that pays for an access
IsTrueAccess-given : (script : ScriptValue) (j : JournalsValue) (i : ℕ) (e : SliceEntry) (task cpu addr : ℕ) → cpu < script.machine.cpus → domain_of script.machine cpu ≡ domain_in script.machine i → paid_by e ≡ owed_by_access script j.tree e.epoch task cpu addr
    → IsGiven script.machine (domain_in script.machine i) (state_at script j e.epoch) e.what
unfolding owed_by_access resolve
IsTrueAccess-given script j i e task cpu addr exists domain paid = by_what e.what (ap (λ (o : Owed). o.what) paid)
  where
    s : State
    s = state_at script j e.epoch

    by_what : (what : What) → undecided what ≡ (owed_by_access script j.tree e.epoch task cpu addr).what → IsGiven script.machine (domain_in script.machine i) s what
    by_what (whats.Access hit way owner rmid mask line) is = record {
      task = task;
      cpu = cpu;
      exists = exists;
      owner_is = ap (owner_in owner) is;
      mask_is = ap mask_in_access is ∙ ap (λ d. mask_of_group s d (owner_of s task cpu)) domain;
    }
    by_what whats.Raise is = tt
    by_what whats.Flush is = tt
    by_what (whats.Lock mask first_line) is = absurd cc
    by_what (whats.Look rmid lines) is = tt
    by_what (whats.Drop line at) is = tt

-- Each entry of a run says what the tree of its epoch gives.
pub IsRun-given : (script : ScriptValue) (j : JournalsValue) (i p : ℕ) (e : SliceEntry) → IsLawful script → IsRun script j → i < slice_count script.machine → At (slice_at j i) p e → IsGivenEntry script j i e
IsRun-given script j i p e lawful run within there = of (op_at script e.thread e.op) refl (run.in_order.no_others i p e there) (IsTrueTo-at script j run.entries_true i p e there)
  where
    by_op : (op : Op) → op_at script e.thread e.op ≡ Some op → IsTrueTo script j.tree i e (Some op) → IsGivenEntry script j i e
    by_op (ops.Access task cpu addr) is t = record {
      known = t.0;
      given = IsTrueAccess-given script j i e task cpu addr (Fits-op_at script e.thread e.op (ops.Access task cpu addr) lawful is).1 (domain_of-access script j i p e task cpu addr lawful run within there is) t.1;
    }
    by_op op is t = IsOwed-given script j i e op lawful run is t

    of : (o : Option Op) → op_at script e.thread e.op ≡ o → IsSome o → IsTrueTo script j.tree i e o → IsGivenEntry script j i e
    of None is some t = absurd cc
    of (Some op) is some t = by_op op is t

-- What the entries of a command say is what the tree of its epoch gives.
use Rattle.lists.proofs.Pairs.{All-flat_map}
use Rattle.std.proofs.Common.{◌≡◌, ℕ, zero, suc, ◌+◌, ◌*◌, ◌<◌, ◌≤◌, true, ◌==◌, List, length, get_or, Some, inl, inr, sym, subst, ap, ◌∙◌, arith}
use Rattle.std.specs.List.{All, flat_map}
use Rattle.std.proofs.lemmas.Bool.{cases_Bool, eqb-true}
use Rattle.std.proofs.lemmas.List.Elements.{All-append, All-nil}
use Rattle.std.proofs.lemmas.Nat.{div_below}
use Rattle.std.proofs.lemmas.Option.{slice_get_within}
use Rattle.cache_core.specs.declared.entry.SliceEntry.{SliceEntry}
use Rattle.cache_core.specs.declared.entry.What.{What}
use Rattle.cache_core.specs.declared.entry.What.TheVariants as whats
use Rattle.lists.proofs.Tests.{All-one}
use Rattle.machine.specs.Slices.{domain_in, slice_count, slice_of_line}
use Rattle.machine.specs.declared.parameters.Parameters.{Parameters}
use Rattle.run_law.specs.Journals.{At, JournalsValue}
use Rattle.run_law.specs.Owed.{Owed, follow_in, is_entered_in, look_in, owed_by_command, paid_by, undecided, what_of}
use Rattle.run_law.specs.Runs.{IsRun}
use Rattle.run_law.specs.TreeHistory.{TreeEntryValue}
use Rattle.run_law.specs.Truth.{IsOwed}
use Rattle.script_ops.specs.Values.{IsLawful, ScriptValue, op_at}
use Rattle.script_ops.specs.declared.op.Op.{Op}
use Rattle.tree_law.specs.State.{State}
use Rattle.tree_law.specs.Steps.{after, needs}
use Rattle.tree_law.specs.declared.follow.Follow.{Follow}
use Rattle.tree_law.specs.declared.follow.Follow.TheVariants as follows
use Rattle.run_windows.specs.Epochs.{state_at}
use Rattle.run_windows.proofs.Epochs.{Fits-state_at, IsSound-state_at, state_at-suc}
use Rattle.run_windows.proofs.StepFollows.{IsGivenFollow, IsRegionOf, IsResolved, after-given}
use Rattle.machine.proofs.laws.Slices.{domain_in-slice_of_line}
use Rattle.run_law.proofs.laws.SoundHistories.{Fits-op_at}

-- An entry of a domain's slice says what a state gives: an access an owner with a mask, a lock the region.
abbrev pub IsGiven : Parameters → ℕ → State → What → Type 0
IsGiven m domain s (whats.Access hit way owner rmid mask line) = IsResolved m s domain owner mask
IsGiven m domain s (whats.Lock mask first_line) = IsRegionOf s domain mask first_line
IsGiven m domain s whats.Raise = Unit {0}
IsGiven m domain s whats.Flush = Unit {0}
IsGiven m domain s (whats.Look rmid lines) = Unit {0}
IsGiven m domain s (whats.Drop line at) = Unit {0}

-- what the slice decides says nothing of it
undecided-given : (m : Parameters) (domain : ℕ) (s : State) (what : What) → IsGiven m domain s (undecided what) → IsGiven m domain s what
undecided-given m domain s (whats.Access hit way owner rmid mask line) given = given
undecided-given m domain s whats.Raise given = tt
undecided-given m domain s whats.Flush given = tt
undecided-given m domain s (whats.Lock mask first_line) given = given
undecided-given m domain s (whats.Look rmid lines) given = tt
undecided-given m domain s (whats.Drop line at) given = tt

-- ---- slices and domains

-- a product with something below it has a second factor
factor-some : (a b i : ℕ) → i < a * b → 0 < b
factor-some a zero i below = absurd (omega arith)
factor-some a (suc b) i below = omega arith

-- a slice of the machine is of a domain of the machine
pub domain_in-lt : (m : Parameters) (i : ℕ) → i < slice_count m → domain_in m i < m.domains
domain_in-lt m i within = div_below i m.slices m.domains (factor-some m.domains m.slices i within) within

-- ---- commands

-- what one of a list is
All-contained : {X : Type 0} (P : X → Type 0) (xs : List X) (x : X) → All P xs → (k : ℕ) → k < length xs → get_or xs k x ≡ x → P x
All-contained P xs x all k within is = subst P is (all k x within)

-- an entry that is owed is of an epoch of the tree, and says what its state gives
pub record IsGivenOwed (script : ScriptValue) (j : JournalsValue) (i : ℕ) (o : Owed) : Type 0 where
  pub known : o.epoch ≤ length j.tree
  pub given : IsGiven script.machine (domain_in script.machine i) (state_at script j o.epoch) o.what

-- a follow-up that is entered in a slice
what_of-given : (m : Parameters) (i : ℕ) (s : State) (f : Follow) → 0 < m.slices → is_entered_in m i f ≡ true → IsGivenFollow m s f → IsGiven m (domain_in m i) s (what_of f)
what_of-given m i s (follows.Raise domain) some entered given = tt
what_of-given m i s (follows.Flush domain) some entered given = tt
what_of-given m i s (follows.Drop domain line) some entered given = tt
what_of-given m i s (follows.Lock domain mask first_line) some entered given = subst (λ d. IsRegionOf s d mask first_line) (eqb-true domain (domain_in m i) entered) given
what_of-given m i s (follows.Touch tag line) some entered given =
    subst (λ d. IsResolved m s d tag.owner tag.mask) (sym (domain_in-slice_of_line m tag.domain line some) ∙ ap (domain_in m) (eqb-true (slice_of_line m tag.domain line) i entered)) given

-- all that a command owes
owed_by_command-given : (script : ScriptValue) (j : JournalsValue) (i k : ℕ) (h : TreeEntryValue) (op : Op) → IsLawful script → IsRun script j → At j.tree k h → op_at script h.thread h.op ≡ Some op
    → All (IsGivenOwed script j i) (owed_by_command script j.tree i k op)
unfolding owed_by_command
owed_by_command-given script j i k h op lawful run there is =
    let m : Parameters = script.machine in
    let s : State = state_at script j k in
    let within : k < length j.tree = slice_get_within j.tree k h there in
    All-append (IsGivenOwed script j i) (flat_map (look_in m i k) (needs m s op)) (flat_map (follow_in m i (k + 1)) (after m s k op))
    (All-flat_map (IsGivenOwed script j i) (look_in m i k) (needs m s op) (λ n d lt. look (get_or (needs m s op) n d) within))
    (All-flat_map (IsGivenOwed script j i) (follow_in m i (k + 1)) (after m s k op) (λ n d lt. follow (get_or (after m s k op) n d) within
    (subst (λ t. IsGivenFollow m t (get_or (after m s k op) n d)) (sym (state_at-suc script j k h op there is))
    (after-given m s k op h.looks lawful.in_range (IsSound-state_at script j lawful run k (omega arith)) (Fits-state_at script j k op (Fits-op_at script h.thread h.op op lawful is)) n d lt))))
  where
    look : (need : ℕ × ℕ) → k < length j.tree → All (IsGivenOwed script j i) (look_in script.machine i k need)
    look need within = elim (cases_Bool (need.0 == domain_in script.machine i)) [
      | inl e ↦ rw e (All-one (IsGivenOwed script j i) (record { epoch = k; what = whats.Look need.1 0 }) (record { known = omega arith; given = tt }))
      | inr e ↦ rw e (All-nil (IsGivenOwed script j i))
    ]

    follow : (f : Follow) → k < length j.tree → IsGivenFollow script.machine (state_at script j (k + 1)) f → All (IsGivenOwed script j i) (follow_in script.machine i (k + 1) f)
    follow f within given = elim (cases_Bool (is_entered_in script.machine i f)) [
      | inl e ↦ rw e (All-one (IsGivenOwed script j i) (record { epoch = k + 1; what = what_of f }) (record { known = omega arith; given = what_of-given script.machine i (state_at script j (k + 1)) f lawful.in_range.some_slice e given }))
      | inr e ↦ rw e (All-nil (IsGivenOwed script j i))
    ]

-- an entry of a run is of an epoch of the tree, and says what the tree of its epoch gives
pub record IsGivenEntry (script : ScriptValue) (j : JournalsValue) (i : ℕ) (e : SliceEntry) : Type 0 where
  pub known : e.epoch ≤ length j.tree
  pub given : IsGiven script.machine (domain_in script.machine i) (state_at script j e.epoch) e.what

-- an entry of a command
pub IsOwed-given : (script : ScriptValue) (j : JournalsValue) (i : ℕ) (e : SliceEntry) (op : Op) → IsLawful script → IsRun script j → op_at script e.thread e.op ≡ Some op → IsOwed script j.tree i e op → IsGivenEntry script j i e
IsOwed-given script j i e op lawful run is owed =
    let h : TreeEntryValue = owed.command in
    let same : op_at script h.thread h.op ≡ Some op = ap (λ t. op_at script t h.op) owed.same_thread ∙ ap (op_at script e.thread) owed.same_op ∙ is in
    let all = owed_by_command-given script j i owed.position h op lawful run owed.there same in
    let c = owed.owed in
    let one : IsGivenOwed script j i (paid_by e) = All-contained (IsGivenOwed script j i) (owed_by_command script j.tree i owed.position op) (paid_by e) all c.0 c.1 c.2 in
    record { known = one.known; given = undecided-given script.machine (domain_in script.machine i) (state_at script j e.epoch) e.what one.given }

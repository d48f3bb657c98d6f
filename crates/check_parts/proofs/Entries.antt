-- The entries of the slices of a run have a text.
use Rattle.std.proofs.Common.{◌≡◌, ℕ, zero, suc, ◌+◌, ◌^◌, ◌<◌, ◌≤◌, Bool, true, false, cond, List, [], ◌∷◌, length, filter, take, Option, Some, None, refl, sym, subst, ap, ◌∙◌, arith}
use Rattle.std.specs.Prelude.{◌==◌, IsSome}
use Rattle.std.specs.List.{All, flat_map}
use Rattle.std.proofs.lemmas.Bool.{eqb-true, true≢false}
use Rattle.std.proofs.lemmas.List.Elements.{All-append, All-contains, All-nil}
use Rattle.std.proofs.lemmas.Option.{get_or_from_slice_get, same_Some, slice_get_within}
use Rattle.cache_core.specs.Fills.{IsOutcome, Resident}
use Rattle.cache_core.specs.History.{EntryMayFollow, MayHappen}
use Rattle.cache_core.specs.declared.entry.SliceEntry.{SliceEntry}
use Rattle.cache_core.specs.declared.entry.What.{What}
use Rattle.cache_core.specs.declared.entry.What.TheVariants as whats
use Rattle.journal_text.specs.Writable.{HasText, IsLine, IsLineIn, IsMask, IsWritableEntry}
use Rattle.lists.proofs.Pairs.{All-flat_map}
use Rattle.lists.proofs.Tests.{All-one}
use Rattle.lists.specs.Sums.{one_if}
use Rattle.machine.proofs.laws.Slices.{domain_in-slice_of_line}
use Rattle.machine.specs.Maps.{domain_of, line_of}
use Rattle.machine.specs.Ranges.{InRange}
use Rattle.machine.specs.Slices.{domain_in, slice_count, slice_of_line}
use Rattle.machine.specs.declared.parameters.Parameters.{Parameters}
use Rattle.rc_base.proofs.laws.Histories.{EachFollows-at}
use Rattle.run_law.proofs.laws.Lines.{lines_of-few}
use Rattle.run_law.proofs.laws.Pairs.{both_eqb-same}
use Rattle.run_law.proofs.laws.RunSizes.{length-commands}
use Rattle.run_law.proofs.laws.SoundHistories.{Fits-op_at, Fits-tree_after}
use Rattle.run_law.proofs.laws.Truth.{IsTrueTo, IsTrueTo-at}
use Rattle.run_law.specs.Journals.{At, JournalsValue, slice_at}
use Rattle.run_law.specs.Owed.{Owed, follow_in, is_entered_in, look_in, owed_by_access, owed_by_command, paid_by, undecided, what_of}
use Rattle.run_law.specs.Runs.{IsRun}
use Rattle.run_law.specs.Slices.{shape_in}
use Rattle.run_law.specs.TreeHistory.{TreeEntryValue, tree_after}
use Rattle.run_law.specs.Truth.{IsOwed, is_made_by}
use Rattle.script_ops.specs.Values.{IsLawful, ScriptValue, op_at}
use Rattle.script_ops.specs.declared.op.Op.{Op}
use Rattle.script_ops.specs.declared.op.Op.TheVariants as ops
use Rattle.tree_law.proofs.laws.Counts.{NamesDomain-fits, needs-exist}
use Rattle.tree_law.specs.State.{State}
use Rattle.tree_law.specs.Steps.{after, needs}
use Rattle.tree_law.specs.declared.follow.Follow.{Follow}
use Rattle.tree_law.specs.declared.follow.Follow.TheVariants as follows
use Rattle.check_parts.proofs.Follows.{HasNumbers, IsLine-address, after-written}
use Rattle.check_parts.proofs.Histories.{IsShort-take}
use Rattle.check_parts.proofs.Numbers.{numbers-op_at}
use Rattle.check_parts.proofs.Tags.{IsWritten-resolve}

-- ---- what an entry pays

-- an entry that is owed to a slice, and whose numbers may be written
abbrev MayBeOwed : Parameters → ℕ → What → Type 0
MayBeOwed m i (whats.Access hit way owner rmid mask line) = (owner.0 < 2 ^ 32) × (rmid < 2 ^ 16) × IsMask m mask × IsLineIn m i line
MayBeOwed m i whats.Raise = Unit {0}
MayBeOwed m i whats.Flush = Unit {0}
MayBeOwed m i (whats.Lock mask first_line) = IsMask m mask × IsLine first_line
MayBeOwed m i (whats.Look rmid lines) = rmid < 2 ^ 16
MayBeOwed m i (whats.Drop line at) = IsLineIn m i line

-- what the slice decides of an outcome
way-within : (ways mask : ℕ) (residents : ℕ → Option Resident) (age : ℕ → ℕ) (line : ℕ) (hit : Bool) (way : ℕ) → IsOutcome ways mask residents age line hit way → way < ways
way-within ways mask residents age line true way is = is.0
way-within ways mask residents age line false way is = is.1.within

-- what happened has a text, by what was owed and by what the slice decides
HasText-paid : (m : Parameters) (i epoch : ℕ) (before : List SliceEntry) (what : What) → InRange m → MayHappen (shape_in m i) before epoch what → MayBeOwed m i (undecided what) → HasText m i what
HasText-paid m i epoch before (whats.Access hit way owner rmid mask line) range may owed = (way-within m.ways mask _ _ line hit way may.1, owed.0, owed.1, owed.2, owed.3)
HasText-paid m i epoch before whats.Raise range may owed = tt
HasText-paid m i epoch before whats.Flush range may owed = tt
HasText-paid m i epoch before (whats.Lock mask first_line) range may owed = owed
HasText-paid m i epoch before (whats.Look rmid lines) range may owed = (owed, let few = lines_of-few m i before rmid range in omega (arith, few, may))
HasText-paid m i epoch before (whats.Drop line (Some way)) range may owed = (owed, may.1.0)
HasText-paid m i epoch before (whats.Drop line None) range may owed = (owed, tt)

-- ---- what a command owes

-- the same, of an epoch that the history has
abbrev IsGoodOwed : Parameters → ℕ → ℕ → Owed → Type 0
IsGoodOwed m i most o = (o.epoch ≤ most) × MayBeOwed m i o.what

module _ (m : Parameters) (i most : ℕ) where
  -- the look that a count needs
  look-owed : (epoch : ℕ) (need : ℕ × ℕ) → epoch ≤ most → need.1 < 2 ^ 16 → All (IsGoodOwed m i most) (look_in m i epoch need)
  look-owed epoch need known small = at (need.0 == domain_in m i)
    where
      at : (b : Bool) → All (IsGoodOwed m i most) (cond b (record { epoch = epoch; what = whats.Look need.1 0 } ∷ []) [])
      at true = All-one (IsGoodOwed m i most) (record { epoch = epoch; what = whats.Look need.1 0 }) (known, small)
      at false = All-nil (IsGoodOwed m i most)

  -- a line of this slice
  line-in : (domain line : ℕ) → 0 < m.slices → slice_of_line m domain line ≡ i → IsLine line → IsLineIn m i line
  line-in domain line some is small =
      let own : domain_in m i ≡ domain = ap (domain_in m) (sym is) ∙ domain_in-slice_of_line m domain line some in
      (small, ap (λ d. slice_of_line m d line) own ∙ is)

  -- what a follow-up enters
  what_of-owed : (f : Follow) → 0 < m.slices → is_entered_in m i f ≡ true → HasNumbers m f → MayBeOwed m i (what_of f)
  what_of-owed (follows.Raise domain) some enters has = tt
  what_of-owed (follows.Flush domain) some enters has = tt
  what_of-owed (follows.Lock domain mask first_line) some enters has = has
  what_of-owed (follows.Touch tag line) some enters has = (has.0, has.1, has.2, line-in tag.domain line some (eqb-true (slice_of_line m tag.domain line) i enters) has.3)
  what_of-owed (follows.Drop domain line) some enters has = line-in domain line some (eqb-true (slice_of_line m domain line) i enters) has

  -- the entry of a follow-up
  follow-owed : (epoch : ℕ) (f : Follow) → epoch ≤ most → 0 < m.slices → HasNumbers m f → All (IsGoodOwed m i most) (follow_in m i epoch f)
  follow-owed epoch f known some has = at (is_entered_in m i f) refl
    where
      at : (b : Bool) → is_entered_in m i f ≡ b → All (IsGoodOwed m i most) (cond b (record { epoch = epoch; what = what_of f } ∷ []) [])
      at true enters = All-one (IsGoodOwed m i most) (record { epoch = epoch; what = what_of f }) (known, what_of-owed f some enters has)
      at false away = All-nil (IsGoodOwed m i most)

-- ---- each entry

-- a filter that one passes keeps some
length-filter_at : {A : Type 0} (p : A → Bool) (xs : List A) (k : ℕ) (x : A) → At xs k x → p x ≡ true → 0 < length (filter p xs)
length-filter_at p [] k x there passes = absurd (let f : ◌≡◌ {A = Option _} None (Some x) = there in cc)
length-filter_at p (y ∷ ys) zero x there passes = (let same : p y ≡ true = ap p (same_Some y x there) ∙ passes in rw same (omega arith))
length-filter_at p (y ∷ ys) (suc k) x there passes = at (p y) (length-filter_at p ys k x there passes)
  where
    at : (b : Bool) → 0 < length (filter p ys) → 0 < length (cond b (y ∷ filter p ys) (filter p ys))
    at true rest = omega arith
    at false rest = rest

module _ (script : ScriptValue) (j : JournalsValue) (lawful : IsLawful script) (run : IsRun script j) where
  abbrev m : Parameters
  m = script.machine

  -- a state of the run
  abbrev state : ℕ → State
  state k = tree_after script (take k j.tree)

  few : length j.tree ≤ 4000000
  few = length-commands script j lawful run

  -- what a command owes
  command-owed : (i k : ℕ) (h : TreeEntryValue) (t o : ℕ) (op : Op) → At j.tree k h → op_at script t o ≡ Some op → All (IsGoodOwed m i (length j.tree)) (owed_by_command script j.tree i k op)
  unfolding owed_by_command
  command-owed i k h t o op there is =
      let within = slice_get_within j.tree k h there in
      let short = IsShort-take script j lawful run few k (omega (arith, within)) in
      let exist = needs-exist m (state k) op short.sound (NamesDomain-fits m script.tasks op (Fits-op_at script t o op lawful is)) in
      let followed = after-written m (state k) lawful.in_range short k op (Fits-tree_after script (take k j.tree) t o op lawful is) in
      All-append (IsGoodOwed m i (length j.tree)) (flat_map (look_in m i k) (needs m (state k) op)) (flat_map (follow_in m i (k + 1)) (after m (state k) k op))
      (All-flat_map (IsGoodOwed m i (length j.tree)) (look_in m i k) (needs m (state k) op) (λ q d below. look-owed m i (length j.tree) k _ (omega (arith, within)) (let lt = (exist q d below).1 in omega (arith, lt, lawful.in_range.rmid_limit))))
      (All-flat_map (IsGoodOwed m i (length j.tree)) (follow_in m i (k + 1)) (after m (state k) k op) (λ q d below. follow-owed m i (length j.tree) (k + 1) _ (omega (arith, within)) lawful.in_range.some_slice (followed q d below)))

  module _ (i : ℕ) (exists : i < slice_count script.machine) where
    -- an access goes to the slice of its line
    access-slice : (p : ℕ) (e : SliceEntry) (task cpu addr : ℕ) → At (slice_at j i) p e → op_at script e.thread e.op ≡ Some (ops.Access task cpu addr) → slice_of_line m (domain_of m cpu) (line_of addr) ≡ i
    access-slice p e task cpu addr there is = at (i == slice_of_line m (domain_of m cpu) (line_of addr)) refl (run.in_order.entries_once i e.thread e.op (ops.Access task cpu addr) exists is)
      where
        some : 0 < length (filter (is_made_by e.thread e.op) (slice_at j i))
        some = length-filter_at (is_made_by e.thread e.op) (slice_at j i) p e there (both_eqb-same e.thread e.thread e.op e.op refl refl)

        at : (b : Bool) → (i == slice_of_line m (domain_of m cpu) (line_of addr)) ≡ b → length (filter (is_made_by e.thread e.op) (slice_at j i)) ≡ one_if b → slice_of_line m (domain_of m cpu) (line_of addr) ≡ i
        at true same count = sym (eqb-true i (slice_of_line m (domain_of m cpu) (line_of addr)) same)
        at false other count = absurd (omega (arith, some, count))

    -- an entry pays what may be written, of an epoch that the tree had
    entry-owed : (p : ℕ) (e : SliceEntry) → At (slice_at j i) p e → (e.epoch ≤ length j.tree) × MayBeOwed m i (undecided e.what)
    unfolding owed_by_access
    entry-owed p e there = of (op_at script e.thread e.op) refl (IsTrueTo-at script j run.entries_true i p e there)
      where
        of_access : (task cpu addr : ℕ) → op_at script e.thread e.op ≡ Some (ops.Access task cpu addr) → e.epoch ≤ length j.tree → paid_by e ≡ owed_by_access script j.tree e.epoch task cpu addr → MayBeOwed m i (undecided e.what)
        of_access task cpu addr is within pays =
            let fits = Fits-op_at script e.thread e.op (ops.Access task cpu addr) lawful is in
            let short = IsShort-take script j lawful run few e.epoch within in
            let owned = IsWritten-resolve m (state e.epoch) lawful.in_range short task cpu fits.1 in
            let line = line-in m i (length j.tree) (domain_of m cpu) (line_of addr) lawful.in_range.some_slice (access-slice p e task cpu addr there is) (IsLine-address addr fits.2) in
            subst (MayBeOwed m i) (sym (ap (λ (o : Owed). o.what) pays)) (owned.owner, owned.rmid, owned.mask, line)

        of_command : (op : Op) → op_at script e.thread e.op ≡ Some op → IsOwed script j.tree i e op → (e.epoch ≤ length j.tree) × MayBeOwed m i (undecided e.what)
        of_command op is owed =
            let all = command-owed i owed.position owed.command e.thread e.op op owed.there is in
            let pays = All-contains (IsGoodOwed m i (length j.tree)) (owed_by_command script j.tree i owed.position op) (paid_by e) all owed.owed in
            pays

        of : (o : Option Op) → op_at script e.thread e.op ≡ o → IsTrueTo script j.tree i e o → (e.epoch ≤ length j.tree) × MayBeOwed m i (undecided e.what)
        of None is true_to = absurd (true≢false (sym (subst IsSome is (run.in_order.no_others i p e there))))
        of (Some (ops.Access task cpu addr)) is true_to = (true_to.0, of_access task cpu addr is true_to.0 true_to.1)
        of (Some op) is true_to = of_command op is true_to

    -- each entry has a text
    pub IsWritableEntry-at : (p : ℕ) (e : SliceEntry) → At (slice_at j i) p e → IsWritableEntry m i e
    IsWritableEntry-at p e there =
        let numbers = numbers-op_at script lawful e.thread e.op (run.in_order.no_others i p e there) in
        let owed = entry-owed p e there in
        let may : EntryMayFollow (shape_in m i) (take p (slice_at j i)) e = subst (EntryMayFollow (shape_in m i) (take p (slice_at j i))) (get_or_from_slice_get (slice_at j i) p e e there)
        (EachFollows-at (EntryMayFollow (shape_in m i)) (slice_at j i) p e (run.slices_legal i exists) (slice_get_within (slice_at j i) p e there)) in
        record {
          thread = numbers.0;
          op = numbers.1;
          epoch = omega (arith, owed.0, few);
          what = HasText-paid m i e.epoch (take p (slice_at j i)) e.what lawful.in_range may owed.1;
        }

-- Each entry that empties a slice begins a window of each group that is exclusive then.
use Rattle.std.proofs.Common.{◌≡◌, ℕ, ◌+◌, ◌<◌, true, List, length, Option, None, Some, ◌⊎◌, inl, inr, sym, ◌∙◌, arith}
use Rattle.std.specs.Prelude.{IsSomeAnd}
use Rattle.std.proofs.lemmas.Bool.{cases_Bool, cases_eq, true≢false}
use Rattle.std.proofs.lemmas.Option.{slice_get_within}
use Rattle.cache_core.specs.declared.entry.SliceEntry.{SliceEntry}
use Rattle.group_tree.specs.Records.{has_mode, mask_in}
use Rattle.group_tree.specs.declared.group.Group.{Group}
use Rattle.machine.specs.Slices.{domain_in}
use Rattle.rc_base.specs.declared.names.Gid.{Gid}
use Rattle.rc_base.specs.declared.names.Mode.TheVariants.{Exclusive}
use Rattle.run_law.specs.Journals.{slice_at}
use Rattle.run_windows.specs.Epochs.{state_at}
use Rattle.run_windows.specs.WindowLaws.{WindowsExist}
use Rattle.run_windows.specs.Windows.{Ends, GoesOver, IsExclusive}
use Rattle.run_windows.proofs.Entries.{IsRun-given}
use Rattle.private_lru.proofs.laws.EntryExtents.{ends-not_over, ends-or_over, IsExtent-end, IsExtent-entries}
use Rattle.private_lru.proofs.laws.LastEpochs.{IsSpan-some}
use Rattle.tree_law.specs.Existing.{group_of}
use Rattle.tree_law.specs.State.{State}

-- a group is exclusive with a mask, or not
IsExclusive-or_not : (domain : ℕ) (group : Gid) (mask : ℕ) (s : State) → IsExclusive domain group mask s ⊎ (IsExclusive domain group mask s → ⊥)
IsExclusive-or_not domain group mask s = at (group_of s group)
  where
    at : (o : Option Group) → IsSomeAnd o (λ g. (has_mode Exclusive g ≡ true) × (mask_in domain g ≡ mask)) ⊎ (IsSomeAnd o (λ g. (has_mode Exclusive g ≡ true) × (mask_in domain g ≡ mask)) → ⊥)
    at None = inr (λ h. h)
    at (Some g) = elim (cases_Bool (has_mode Exclusive g)) [
      | inl mode ↦ elim (cases_eq (mask_in domain g) mask) [
        | inl is ↦ inl (mode, is)
        | inr other ↦ inr (λ h. other h.1)
      ]
      | inr none ↦ inr (λ h. true≢false (sym h.0 ∙ none))
    ]

-- a flush or a lock begins a window of each exclusive group
pub IsWindow-some : WindowsExist
IsWindow-some script j i from opening group mask lawful run there opens empty exclusive =
    let domain : ℕ = domain_in script.machine i in
    let es : List SliceEntry = slice_at j i in
    let span = IsSpan-some (λ epoch. IsExclusive domain group mask (state_at script j epoch)) (λ epoch. IsExclusive-or_not domain group mask (state_at script j epoch)) opening.epoch (length j.tree)
    (IsRun-given script j i from opening lawful run there opens).known exclusive in
    let last : ℕ = span.0 in
    let inside : from < length es = slice_get_within es from opening opens in
    let x = IsExtent-entries (GoesOver last) (Ends last) (ends-or_over last) (ends-not_over last) es (from + 1) (omega (arith, inside)) in
    let begins = x.1.begins in (
      x.0,
      last,
      record {
        slice_exists = there;
        opens = opens;
        empty = empty;
        exclusive = span.1;
        after_opening = omega (arith, begins);
        within = x.1.within;
        goes_over = λ p e at low high. x.1.over p (omega (arith, low)) high e at;
        ends = IsExtent-end (GoesOver last) (Ends last) (ends-or_over last) (ends-not_over last) es (from + 1) x.0 x.1;
      },
    )

-- A window is the only one of its group at its opening.
use Rattle.std.proofs.Common.{◌≡◌, ℕ, List, length, ◌+◌, true, sym, subst, ap, ◌∙◌, arith}
use Rattle.std.specs.Prelude.{IfSome, slice_get}
use Rattle.std.proofs.lemmas.Option.{same_Some}
use Rattle.cache_core.specs.declared.entry.SliceEntry.{SliceEntry}
use Rattle.group_tree.specs.Records.{has_mode, mask_in}
use Rattle.group_tree.specs.declared.group.Group.{Group}
use Rattle.rc_base.specs.declared.names.Gid.{Gid}
use Rattle.rc_base.specs.declared.names.Mode.TheVariants.{Exclusive}
use Rattle.run_law.specs.Journals.{slice_at}
use Rattle.machine.specs.Slices.{domain_in}
use Rattle.private_lru.proofs.laws.Extents.{IsExtent-same}
use Rattle.private_lru.proofs.laws.LastEpochs.{IsSpan-same}
use Rattle.tree_law.specs.Existing.{group_of}
use Rattle.tree_law.specs.State.{State}
use Rattle.run_windows.specs.Epochs.{state_at}
use Rattle.run_windows.specs.WindowLaws.{WindowsAreUnique}
use Rattle.run_windows.specs.Windows.{Ends, GoesOver, IsExclusive, StaysExclusive}
use Rattle.private_lru.proofs.laws.EntryExtents.{ends-not_over, ends-or_over, IsExtent-between, IsOverAt}
use Rattle.run_windows.proofs.Owners.{IsSomeAnd-parts}

-- a group has one mask in a domain
pub mask-same : (s : State) (domain : ℕ) (group : Gid) (mask other : ℕ) → IsExclusive domain group mask s → IsExclusive domain group other s → mask ≡ other
mask-same s domain group mask other first second =
    let x = IsSomeAnd-parts (λ (g : Group). (has_mode Exclusive g ≡ true) × (mask_in domain g ≡ mask)) (group_of s group) first in
    let y = IsSomeAnd-parts (λ (g : Group). (has_mode Exclusive g ≡ true) × (mask_in domain g ≡ other)) (group_of s group) second in
    let same : x.0 ≡ y.0 = same_Some x.0 y.0 (sym x.1 ∙ y.1) in
    sym x.2.1 ∙ (ap (mask_in domain) same ∙ y.2.1)

-- a flush or a lock begins at most one window of a group
pub IsWindow-same : WindowsAreUnique
IsWindow-same script j i from to other_to opening other group mask other_mask last other_last one two =
    let domain : ℕ = domain_in script.machine i in
    let same_opening : other ≡ opening = same_Some other opening (sym two.opens ∙ one.opens) in
    let stays : StaysExclusive script j domain group other_mask opening.epoch other_last = subst (λ (e : SliceEntry). StaysExclusive script j domain group other_mask e.epoch other_last) same_opening two.exclusive in
    let first = one.exclusive.from_first in
    let other_first = stays.from_first in
    let masks : mask ≡ other_mask = mask-same (state_at script j opening.epoch) domain group mask other_mask (one.exclusive.always opening.epoch (omega arith) first) (stays.always opening.epoch (omega arith) other_first) in
    let stays_so : StaysExclusive script j domain group mask opening.epoch other_last = subst (λ k. StaysExclusive script j domain group k opening.epoch other_last) (sym masks) stays in
    let lasts : last ≡ other_last = IsSpan-same (λ epoch. IsExclusive domain group mask (state_at script j epoch)) opening.epoch (length j.tree) last other_last one.exclusive stays_so in
    let es : List SliceEntry = slice_at j i in
    let x = IsExtent-between (GoesOver last) (Ends last) (ends-or_over last) (ends-not_over last) es from to one.after_opening one.within one.goes_over one.ends in
    let y = IsExtent-between (GoesOver last) (Ends last) (ends-or_over last) (ends-not_over last) es from other_to two.after_opening two.within
    (λ p e there late early. subst (λ k. GoesOver k e) (sym lasts) (two.goes_over p e there late early)) (subst (λ k. IfSome (slice_get es other_to) (Ends k)) (sym lasts) two.ends) in
    record { same_mask = masks; same_last = lasts; same_end = IsExtent-same (IsOverAt (GoesOver last) es) (from + 1) (length es) to other_to x y }

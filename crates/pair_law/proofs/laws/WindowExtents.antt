-- A flush begins just one window.
use Rattle.std.proofs.Common.{◌≡◌, ℕ, ◌+◌, ◌-◌, ◌<◌, ◌≤◌, true, false, List, length, ◌⊎◌, inl, inr, refl, sym, subst, ◌∙◌, arith}
use Rattle.std.proofs.lemmas.Bool.{cases_Bool, cases_lt, true≢false}
use Rattle.cache_core.specs.Filled.{empties}
use Rattle.cache_core.specs.declared.entry.SliceEntry.{SliceEntry}
use Rattle.pair_law.specs.Epochs.{state_at}
use Rattle.pair_text.specs.Values.{PairScriptValue, commands_of, epoch_at, op_at}
use Rattle.pair_text.specs.declared.op.PairOp.TheVariants as ops
use Rattle.pair_text.specs.declared.side.Side.{Side}
use Rattle.pair_law.proofs.laws.CdpEntries.{IsCdpRun-given}
use Rattle.pair_law.proofs.laws.Commands.{epoch_at-lt}
use Rattle.pair_law.proofs.Conditions.{Decided, HasLevels-decided, HasLevels-masks, HasLevels-same, IsAlone-decided, IsAlone-mask}
use Rattle.std.proofs.lemmas.Option.{same_Some, slice_get_within}
use Rattle.pair_law.specs.CdpRuns.{CdpJournalsValue}
use Rattle.pair_law.specs.CdpWindows.{IsAlone, IsCdpWindow, StaysAlone}
use Rattle.pair_law.specs.Entries.{slice_in}
use Rattle.pair_law.specs.JointWindows.{HasLevels, IsJointWindow, is_flush}
use Rattle.pair_law.specs.WindowLaws.{CdpWindowsAreUnique, CdpWindowsExist, JointWindowsAreUnique, JointWindowsExist}
use Rattle.rc_base.specs.declared.names.Gid.{Gid}
use Rattle.private_lru.proofs.laws.EntryExtents.{IsExtent-between, IsExtent-end, IsExtent-entries, IsOverAt, ends-not_over, ends-or_over}
use Rattle.private_lru.proofs.laws.Extents.{IsExtent, IsExtent-same, IsExtent-some}
use Rattle.private_lru.proofs.laws.LastEpochs.{IsSpan-as, IsSpan-same, IsSpan-some}
use Rattle.private_lru.specs.Spans.{IsSpan}

-- ---- in one cache

-- an entry that a window goes over
abbrev GoesOver : ℕ → SliceEntry → Type 0
GoesOver last e = (empties e.what ≡ false) × (e.epoch ≤ last)

-- one that ends it
abbrev Ends : ℕ → SliceEntry → Type 0
Ends last e = (empties e.what ≡ true) ⊎ (last < e.epoch)

pub IsCdpWindow-some : CdpWindowsExist
IsCdpWindow-some script j domain from opening group side mask run exists opens flush alone =
    let es : List SliceEntry = slice_in j.slices domain in
    let known = (IsCdpRun-given script domain j from opening run exists opens).known in
    let span = IsSpan-some (λ epoch. IsAlone domain group side mask (state_at script epoch)) (λ epoch. IsAlone-decided domain group side mask (state_at script epoch)) opening.epoch (length (commands_of script)) known alone in
    let inside : from < length es = slice_get_within es from opening opens in
    let x = IsExtent-entries (GoesOver span.0) (Ends span.0) (ends-or_over span.0) (ends-not_over span.0) es (from + 1) (omega (arith, inside)) in
    let begins = x.1.begins in (
      x.0,
      span.0,
      record {
        domain_exists = exists;
        opens = opens;
        flush = flush;
        alone = span.1;
        after_opening = omega (arith, begins);
        within = x.1.within;
        goes_over = λ p e there low high. x.1.over p (omega arith) high e there;
        ends = IsExtent-end (GoesOver span.0) (Ends span.0) (ends-or_over span.0) (ends-not_over span.0) es (from + 1) x.0 x.1;
      },
    )

-- the extent of a window
IsExtent-window : (script : PairScriptValue) (j : CdpJournalsValue) (domain from to : ℕ) (opening : SliceEntry) (group : Gid) (side : Side) (mask last : ℕ) → IsCdpWindow script j domain from to opening group side mask last
    → IsExtent (IsOverAt (GoesOver last) (slice_in j.slices domain)) (from + 1) (length (slice_in j.slices domain)) to
IsExtent-window script j domain from to opening group side mask last w =
    IsExtent-between (GoesOver last) (Ends last) (ends-or_over last) (ends-not_over last) (slice_in j.slices domain) from to w.after_opening w.within w.goes_over w.ends

pub IsCdpWindow-same : CdpWindowsAreUnique
IsCdpWindow-same script j domain from to other_to opening other group side mask other_mask last other_last one two =
    let es : List SliceEntry = slice_in j.slices domain in
    let same_opening : other ≡ opening = same_Some other opening (sym two.opens ∙ one.opens) in
    let stays : StaysAlone script domain group side other_mask opening.epoch other_last = subst (λ (e : SliceEntry). StaysAlone script domain group side other_mask e.epoch other_last) same_opening two.alone in
    let low = one.alone.from_first in
    let low' = stays.from_first in
    let masks : mask ≡ other_mask = IsAlone-mask domain group side mask other_mask (state_at script opening.epoch) (one.alone.always opening.epoch (omega arith) low) (stays.always opening.epoch (omega arith) low') in
    let so : StaysAlone script domain group side mask opening.epoch other_last = subst (λ n. StaysAlone script domain group side n opening.epoch other_last) (sym masks) stays in
    let lasts : last ≡ other_last = IsSpan-same (λ epoch. IsAlone domain group side mask (state_at script epoch)) opening.epoch (length (commands_of script)) last other_last one.alone so in
    let x = IsExtent-window script j domain from to opening group side mask last one in
    let y : IsExtent (IsOverAt (GoesOver last) es) (from + 1) (length es) other_to = subst (λ n. IsExtent (IsOverAt (GoesOver n) es) (from + 1) (length es) other_to) (sym lasts) (IsExtent-window script j domain from other_to other group side other_mask other_last two) in
    record { same_end = IsExtent-same (IsOverAt (GoesOver last) es) (from + 1) (length es) to other_to x y; same_last = lasts; same_mask = masks }

-- ---- at two levels

-- an op that a joint window goes over
abbrev OverOp : PairScriptValue → ℕ → ℕ → Type 0
OverOp script last k = (is_flush (op_at script k) ≡ false) × (epoch_at script k ≤ last)

OverOp-or_ends : (script : PairScriptValue) (last k : ℕ) → OverOp script last k ⊎ ((is_flush (op_at script k) ≡ true) ⊎ (last < epoch_at script k))
OverOp-or_ends script last k = elim (cases_Bool (is_flush (op_at script k))) [
  | inl flush ↦ inr (inl flush)
  | inr calm ↦ elim (cases_lt last (epoch_at script k)) [
    | inl late ↦ inr (inr late)
    | inr early ↦ inl (calm, early)
  ]
]

ends-not_over_op : (script : PairScriptValue) (last k : ℕ) → (is_flush (op_at script k) ≡ true) ⊎ (last < epoch_at script k) → OverOp script last k → ⊥
ends-not_over_op script last k (inl flush) over = true≢false (sym flush ∙ over.0)
ends-not_over_op script last k (inr late) over = let le = over.1 in absurd (omega (arith, le))

OverOp-decided : (script : PairScriptValue) (last k : ℕ) → Decided (OverOp script last k)
OverOp-decided script last k = elim (OverOp-or_ends script last k) [
  | inl over ↦ inl over
  | inr ends ↦ inr (λ over. ends-not_over_op script last k ends over)
]

pub IsJointWindow-some : JointWindowsExist
IsJointWindow-some script domain from group mask masks exists opens has =
    let first : ℕ = epoch_at script from + 1 in
    let most : first ≤ length (commands_of script) = epoch_at-lt script from ops.Flush opens refl in
    let span = IsSpan-some (λ epoch. HasLevels script.machines domain group mask masks (state_at script epoch)) (λ epoch. HasLevels-decided script.machines domain group mask masks (state_at script epoch)) first (length (commands_of script)) most has in
    let inside : from < length script.ops = slice_get_within script.ops from ops.Flush opens in
    let x = IsExtent-some (OverOp script span.0) (OverOp-decided script span.0) (length script.ops - (from + 1)) (from + 1) (length script.ops) (omega arith) in
    let begins = x.1.begins in (
      x.0,
      span.0,
      record {
        domain_exists = exists;
        opens = opens;
        joint = span.1;
        after_opening = omega (arith, begins);
        within = x.1.within;
        goes_over = λ i low high. x.1.over i (omega arith) high;
        ends = λ less. elim (OverOp-or_ends script span.0 x.0) [
          | inl over ↦ absurd (x.1.ends less over)
          | inr ends ↦ ends
        ];
      },
    )

IsExtent-joint : (script : PairScriptValue) (domain from to : ℕ) (group : Gid) (mask : ℕ) (masks : ℕ → ℕ) (last : ℕ) → IsJointWindow script domain from to group mask masks last → IsExtent (OverOp script last) (from + 1) (length script.ops) to
IsExtent-joint script domain from to group mask masks last w =
    let after = w.after_opening in
    record { begins = omega (arith, after); within = w.within; over = λ k low high. w.goes_over k (omega arith) high; ends = λ less over. ends-not_over_op script last to (w.ends less) over }

pub IsJointWindow-same : JointWindowsAreUnique
IsJointWindow-same script domain from to other_to group mask other_mask masks other_masks last other_last one two =
    let first : ℕ = epoch_at script from + 1 in
    let low = one.joint.from_first in
    let low' = two.joint.from_first in
    let both = HasLevels-masks script.machines domain group mask other_mask masks other_masks (state_at script first) (one.joint.always first (omega arith) low) (two.joint.always first (omega arith) low') in
    let P : ℕ → Type 0 = λ epoch. HasLevels script.machines domain group mask masks (state_at script epoch) in
    let turned : (n : ℕ) → HasLevels script.machines domain group other_mask other_masks (state_at script n) → P n = λ n has. HasLevels-same script.machines domain group mask other_mask masks other_masks (state_at script n) both.0 both.1 has in
    let back : (n : ℕ) → P n → HasLevels script.machines domain group other_mask other_masks (state_at script n) =
    λ n has. HasLevels-same script.machines domain group other_mask mask other_masks masks (state_at script n) (sym both.0) (λ x lt lies. sym (both.1 x lt lies)) has in
    let other : IsSpan P first (length (commands_of script)) other_last = IsSpan-as (λ n. HasLevels script.machines domain group other_mask other_masks (state_at script n)) P first (length (commands_of script)) other_last turned back two.joint in
    let lasts : last ≡ other_last = IsSpan-same P first (length (commands_of script)) last other_last one.joint other in
    let x = IsExtent-joint script domain from to group mask masks last one in
    let y : IsExtent (OverOp script last) (from + 1) (length script.ops) other_to = subst (λ n. IsExtent (OverOp script n) (from + 1) (length script.ops) other_to) (sym lasts) (IsExtent-joint script domain from other_to group other_mask other_masks other_last two) in
    (record { same_end = IsExtent-same (OverOp script last) (from + 1) (length script.ops) to other_to x y; same_last = lasts; same_mask = both.0 }, both.1)

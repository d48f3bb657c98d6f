-- What was asked of the L3 so far does not change where later ops enter more in the L2.
use Rattle.std.proofs.Common.{◌≡◌, ◌≢◌, ℕ, ◌<◌, ◌==◌, Bool, false, cond, ◌&&◌, List, [], ◌∷◌, ◌++◌, length, Option, None, Some, inl, inr, refl, sym, ap, ◌∙◌, arith}
use Rattle.std.specs.List.{All}
use Rattle.std.proofs.lemmas.Bool.{cases_eq, cases_lt}
use Rattle.std.proofs.lemmas.List.{get_or-map, get_or-set_other, get_or-set_same, get_or_past, length-map}
use Rattle.std.proofs.lemmas.List.Elements.{All-nil, All-cons, All-weaker}
use Rattle.cache_core.specs.declared.entry.SliceEntry.{SliceEntry}
use Rattle.cache_core.specs.declared.entry.What.TheVariants.{Access, Flush}
use Rattle.pair_law.specs.Epochs.{state_at}
use Rattle.pair_law.specs.Registers.{mask_of_group}
use Rattle.pair_text.specs.Values.{PairScriptValue, epoch_at, op_at}
use Rattle.pair_text.specs.declared.op.PairOp.{PairOp}
use Rattle.pair_text.specs.declared.op.PairOp.TheVariants as ops
use Rattle.pair_text.specs.declared.side.Side.{Side}
use Rattle.pair_text.specs.declared.side.Side.TheVariants.{First, Second}
use Rattle.pair_play.specs.Histories.{AddsAccessIn, access_entry, all_with_flush, with_flush}
use Rattle.pair_law.proofs.laws.Cuts.{has_at-cut}
use Rattle.pair_law.proofs.laws.Playing.{has_at-more}
use Rattle.pair_law.specs.Entries.{entry, slice_in}
use Rattle.pair_law.specs.LevelRuns.{LevelJournalsValue, asked_at, asked_of_op, domain_on, has_at, is_miss, user_at}
use Rattle.rc_base.specs.declared.names.Tag.{Tag}

-- histories in which each earlier op missed where it did
abbrev pub KeepsEarlier : ℕ → List (List SliceEntry) → List (List SliceEntry) → Type 0
KeepsEarlier i old new = (x k : ℕ) → k < i → has_at (slice_in new x) k is_miss ≡ has_at (slice_in old x) k is_miss

-- an entry of an op changes nothing of earlier ones
has_at-earlier : (h : List SliceEntry) (e : SliceEntry) (i k : ℕ) → e.op ≡ i → k < i → has_at (h ++ e ∷ []) k is_miss ≡ has_at h k is_miss
has_at-earlier h e i k op lt = has_at-more h (e ∷ []) k is_miss (All-cons (λ (x : SliceEntry). x.op ≢ k) e [] (λ same. absurd (omega arith)) (All-nil (λ (x : SliceEntry). x.op ≢ k)))

-- an access
pub KeepsEarlier-access : (i : ℕ) (tag : Tag) (line : ℕ) (hit : Bool) (old new : List (List SliceEntry)) → AddsAccessIn i tag line hit old new → tag.domain < length old → KeepsEarlier i old new
KeepsEarlier-access i tag line hit old new adds within x k lt =
    let e = access_entry i tag line hit adds.0 in
    let h = slice_in old tag.domain ++ e ∷ [] in
    elim (cases_eq x tag.domain) [
      | inl is ↦
          let now : slice_in new x ≡ h = ap (slice_in new) is ∙ (ap (λ (hs : List (List SliceEntry)). slice_in hs tag.domain) adds.1 ∙ get_or-set_same old tag.domain h [] within) in
          ap (λ (l : List SliceEntry). has_at l k is_miss) now ∙ (has_at-earlier (slice_in old tag.domain) e i k refl lt ∙ ap (λ (d : ℕ). has_at (slice_in old d) k is_miss) (sym is))
      | inr other ↦
          ap (λ (l : List SliceEntry). has_at l k is_miss) (ap (λ (hs : List (List SliceEntry)). slice_in hs x) adds.1 ∙ get_or-set_other old tag.domain x h [] other)
    ]

-- a flush
pub KeepsEarlier-flush : (i epoch : ℕ) (old new : List (List SliceEntry)) → new ≡ all_with_flush i epoch old → KeepsEarlier i old new
KeepsEarlier-flush i epoch old new flushed x k lt = elim (cases_lt x (length old)) [
  | inl within ↦
      ap (λ (l : List SliceEntry). has_at l k is_miss) (ap (λ (hs : List (List SliceEntry)). slice_in hs x) flushed ∙ get_or-map (with_flush i epoch) old x [] [] within)
      ∙ has_at-earlier (slice_in old x) (entry i epoch Flush) i k refl lt
  | inr past ↦
      ap (λ (l : List SliceEntry). has_at l k is_miss)
      (ap (λ (hs : List (List SliceEntry)). slice_in hs x) flushed
      ∙ (get_or_past (all_with_flush i epoch old) x [] (omega (arith, length-map old (with_flush i epoch))) ∙ sym (get_or_past old x [] past)))
]

-- whether an op's last entry is a miss
pub has_at-last : (h : List SliceEntry) (e : SliceEntry) (i : ℕ) → All (λ (x : SliceEntry). x.op < i) h → e.op ≡ i → has_at (h ++ e ∷ []) i is_miss ≡ is_miss e.what
has_at-last h e i before op =
    has_at-cut h [] e i is_miss (All-weaker (λ (x : SliceEntry). x.op < i) (λ (x : SliceEntry). x.op ≢ i) (λ x lt same. absurd (omega arith)) h before) (All-nil (λ (x : SliceEntry). x.op ≢ i)) op

-- ---- what is asked

module _ (script : PairScriptValue) (i : ℕ) (old new : LevelJournalsValue) (keeps : KeepsEarlier i old.l2 new.l2) where
  asked_of_op-earlier : (side : Side) (d k : ℕ) → k < i → (o : Option PairOp) → asked_of_op script old side d k o ≡ asked_of_op script new side d k o
  asked_of_op-earlier First d k lt (Some (ops.Use task cpu line code)) = refl
  asked_of_op-earlier Second d k lt (Some (ops.Use task cpu line code)) =
      ap (λ (b : Bool). cond ((domain_on script Second cpu == d) && b)
      (entry k (epoch_at script k) (Access false 0 (user_at script k task) 0 (mask_of_group (state_at script (epoch_at script k)) Second d (user_at script k task)) line) ∷ []) [])
      (sym (keeps (domain_on script First cpu) k lt))
  asked_of_op-earlier side d k lt (Some (ops.Mkdir name)) = refl
  asked_of_op-earlier side d k lt (Some (ops.Rmdir name)) = refl
  asked_of_op-earlier side d k lt (Some (ops.Write file text)) = refl
  asked_of_op-earlier side d k lt (Some (ops.Read file)) = refl
  asked_of_op-earlier side d k lt (Some ops.Flush) = refl
  asked_of_op-earlier side d k lt None = refl

  -- earlier ops ask the same by the later journals
  pub asked_at-earlier : (side : Side) (d k : ℕ) → k < i → asked_at script old side d k ≡ asked_at script new side d k
  asked_at-earlier side d k lt = asked_of_op-earlier side d k lt (op_at script k)

-- The windows of a domain, flush by flush.
use Rattle.std.proofs.Common.{◌≡◌, ℕ, zero, suc, ◌+◌, ◌-◌, ◌<◌, ◌≤◌, Bool, true, false, List, [], ◌∷◌, ◌++◌, length, map, filter, take, get_or, Option, None, Some, refl, sym, subst, ap, ◌∙◌, arith}
use Rattle.std.specs.List.{flat_map, range_with_len}
use Rattle.std.proofs.lemmas.List.{append-nil}
use Rattle.cache_core.specs.declared.entry.SliceEntry.{SliceEntry}
use Rattle.cache_core.specs.declared.entry.What.TheVariants as whats
use Rattle.pair_windows.proofs.SegmentWindows.{counted_windows-segment}
use Rattle.pair_windows.specs.JointCounted.{counted_window, counted_windows, is_used}
use Rattle.pair_windows.specs.DomainWalks.{windows_before}
use Rattle.pair_windows.specs.Hits.{AreHits}
use Rattle.pair_law.specs.Epochs.{state_at}
use Rattle.pair_windows.specs.LevelSpans.{exclusive_in, held_from, stay_of}
use Rattle.pair_windows.specs.Joined.{joined}
use Rattle.pair_windows.specs.LevelJournals.{IsPlayedOnLevels}
use Rattle.pair_windows.specs.JointWindows.{window_from, windows_at, windows_from}
use Rattle.pair_windows.specs.Segments.{IsSegment, hit_l2, hit_l3}
use Rattle.pair_windows.specs.declared.level_masks.LevelMasks.{LevelMasks}
use Rattle.private_lru.specs.declared.span.Span.{Span}
use Rattle.pair_windows.specs.declared.joint_window.JointWindow.{JointWindow}
use Rattle.pair_text.specs.Values.{PairScriptValue, epoch_at, op_at}
use Rattle.pair_text.specs.declared.group.PairGroup.{PairGroup}
use Rattle.pair_text.specs.declared.op.PairOp.{PairOp}
use Rattle.pair_text.specs.declared.op.PairOp.TheVariants as ops
use Rattle.pair_text.specs.declared.side.Side.TheVariants.{First, Second}
use Rattle.pair_law.proofs.laws.Playing.{epoch_at-command}
use Rattle.pair_law.proofs.laws.Cuts.{flat_map-range_at}
use Rattle.pair_law.specs.JointWindows.{is_flush}
use Rattle.pair_law.specs.LevelRuns.{LevelJournalsValue}
use Rattle.private_lru.specs.declared.counts.WindowCounts.{WindowCounts}
use Rattle.private_lru.specs.Tallies.{AreCounted}

-- ---- group by group

-- one group more
pub counted_windows-more : (domain from i : ℕ) (hs : List (Span LevelMasks)) (cs ds : List WindowCounts) (h : Span LevelMasks) (a b : WindowCounts) → i < length hs → length cs ≡ length hs → length ds ≡ length hs
    → counted_windows domain from (take (i + 1) hs) (take (i + 1) cs) (take (i + 1) ds)
    ≡ counted_windows domain from (take i hs) (take i cs) (take i ds) ++ counted_window domain from (get_or hs i h) (get_or cs i a) (get_or ds i b) ∷ []
counted_windows-more domain from i hs cs ds h a b lt same too = let one : i + 1 ≡ suc i = omega arith in ap (λ n. counted_windows domain from (take n hs) (take n cs) (take n ds)) one ∙ of i hs cs ds lt same too
  where
    of : (i : ℕ) (hs : List (Span LevelMasks)) (cs ds : List WindowCounts) → i < length hs → length cs ≡ length hs → length ds ≡ length hs
        → counted_windows domain from (take (suc i) hs) (take (suc i) cs) (take (suc i) ds)
        ≡ counted_windows domain from (take i hs) (take i cs) (take i ds) ++ counted_window domain from (get_or hs i h) (get_or cs i a) (get_or ds i b) ∷ []
    of i [] cs ds lt same too = absurd (omega (arith, lt))
    of i (x ∷ xs) [] ds lt same too = absurd (omega (arith, same))
    of i (x ∷ xs) (y ∷ ys) [] lt same too = absurd (omega (arith, too))
    of zero (x ∷ xs) (y ∷ ys) (z ∷ zs) lt same too = refl
    of (suc i) (x ∷ xs) (y ∷ ys) (z ∷ zs) lt same too = ap (λ ws. counted_window domain from x y z ∷ ws) (of i xs ys zs (omega (arith, lt)) (omega (arith, same)) (omega (arith, too)))

-- ---- flush by flush

-- a range of places that give nothing
pub flat_map-range_none : {X : Type 0} (f : ℕ → List X) (a n : ℕ) → ((k : ℕ) → a ≤ k → k < a + n → f k ≡ []) → flat_map f (range_with_len a n) ≡ []
flat_map-range_none f a zero each = refl
flat_map-range_none f a (suc n) each =
    let here = each a (omega arith) (omega arith) in
    let rest = flat_map-range_none f (a + 1) n (λ k low high. each k (omega (arith, low)) (omega (arith, high))) in
    ap (λ l. l ++ flat_map f (range_with_len (a + 1) n)) here ∙ rest

-- a flush is one
pub op-flush : (op : Option PairOp) → is_flush op ≡ true → op ≡ Some ops.Flush
op-flush (Some ops.Flush) is = refl
op-flush (Some (ops.Use task cpu line code)) is = absurd (let f : false ≡ true = is in cc)
op-flush (Some (ops.Mkdir name)) is = absurd (let f : false ≡ true = is in cc)
op-flush (Some (ops.Rmdir name)) is = absurd (let f : false ≡ true = is in cc)
op-flush (Some (ops.Write file text)) is = absurd (let f : false ≡ true = is in cc)
op-flush (Some (ops.Read file)) is = absurd (let f : false ≡ true = is in cc)
op-flush None is = absurd (let f : false ≡ true = is in cc)

module _ (script : PairScriptValue) (domain : ℕ) (j : LevelJournalsValue) where
  -- no other op begins a window
  windows_at-quiet : (from : ℕ) (op : Option PairOp) → is_flush op ≡ false → windows_at script domain j from op ≡ []
  windows_at-quiet from (Some ops.Flush) is = absurd (let f : true ≡ false = is in cc)
  windows_at-quiet from (Some (ops.Use task cpu line code)) is = refl
  windows_at-quiet from (Some (ops.Mkdir name)) is = refl
  windows_at-quiet from (Some (ops.Rmdir name)) is = refl
  windows_at-quiet from (Some (ops.Write file text)) is = refl
  windows_at-quiet from (Some (ops.Read file)) is = refl
  windows_at-quiet from None is = refl

  -- a segment has none
  windows-quiet : (first n : ℕ) → ((i : ℕ) → first ≤ i → i < first + n → is_flush (op_at script i) ≡ false) → flat_map (λ from. windows_at script domain j from (op_at script from)) (range_with_len first n) ≡ []
  windows-quiet first n quiet = flat_map-range_none (λ from. windows_at script domain j from (op_at script from)) first n (λ k low high. windows_at-quiet k (op_at script k) (quiet k low high))

  pub windows_before-first : (last : ℕ) → IsSegment script 0 last → windows_before script domain j last ≡ []
  windows_before-first last segment = windows-quiet 0 last (λ i low high. segment.quiet i low (omega (arith, high)))

  -- a flush and its segment have those of the flush
  pub windows_before-more : (from last : ℕ) → is_flush (op_at script from) ≡ true → IsSegment script (from + 1) last → windows_before script domain j last ≡ windows_before script domain j from ++ windows_from script domain j from
  windows_before-more from last flush segment =
      let f : ℕ → List JointWindow = λ k. windows_at script domain j k (op_at script k) in
      let n : ℕ = last - (from + 1) in
      let le = segment.later in
      let cut : windows_before script domain j last ≡ windows_before script domain j from ++ (f from ++ flat_map f (range_with_len (from + 1) n)) = flat_map-range_at f 0 from n last from (omega (arith, le)) (omega arith) in
      let none : flat_map f (range_with_len (from + 1) n) ≡ [] = windows-quiet (from + 1) n (λ i low high. segment.quiet i low (omega (arith, le, high))) in
      let here : f from ≡ windows_from script domain j from = ap (windows_at script domain j from) (op-flush (op_at script from) flush) in
      cut ∙ ap (λ (l : List JointWindow). windows_before script domain j from ++ l) (ap (λ (l : List JointWindow). f from ++ l) none ∙ (append-nil (f from) ∙ here))

-- ---- a flush, by what was counted of its segment

module _ (script : PairScriptValue) (j : LevelJournalsValue) (domain from last sets : ℕ) (played : IsPlayedOnLevels script j) (exists : domain < script.machines.machine.domains)
    (flush : is_flush (op_at script from) ≡ true) (segment : IsSegment script (from + 1) last) (a b : List Bool) (l2 : AreHits script First j.l2 a) (l3 : AreHits script Second j.l3 b) where
  abbrev pub held_after : List (Span LevelMasks)
  held_after = held_from script domain (epoch_at script (from + 1)) (epoch_at script last - epoch_at script (from + 1))

  pub windows_from-counted : (held : List (Span LevelMasks)) (es ds : List SliceEntry) (c2 c3 : List WindowCounts) → held ≡ held_after
      → es ≡ joined script domain (hit_l2 a) (from + 1) (last - (from + 1)) → ds ≡ joined script domain (hit_l3 a b) (from + 1) (last - (from + 1))
      → AreCounted sets whats.Flush es (map stay_of held) c2 → AreCounted sets whats.Flush ds (map stay_of held) c3
      → filter is_used (counted_windows domain (epoch_at script from) held c2 c3) ≡ windows_from script domain j from
  windows_from-counted held es ds c2 c3 is first second counts more =
      let one = subst (λ (hs : List (Span LevelMasks)). AreCounted sets whats.Flush (joined script domain (hit_l2 a) (from + 1) (last - (from + 1))) (map stay_of hs) c2) is
      (subst (λ (l : List SliceEntry). AreCounted sets whats.Flush l (map stay_of held) c2) first counts) in
      let two = subst (λ (hs : List (Span LevelMasks)). AreCounted sets whats.Flush (joined script domain (hit_l3 a b) (from + 1) (last - (from + 1))) (map stay_of hs) c3) is
      (subst (λ (l : List SliceEntry). AreCounted sets whats.Flush l (map stay_of held) c3) second more) in
      ap (filter is_used)
      (ap (λ (hs : List (Span LevelMasks)). counted_windows domain (epoch_at script from) hs c2 c3) is
      ∙ counted_windows-segment script j domain from last sets a b c2 c3 played exists (op-flush (op_at script from) flush) segment l2 l3 one two)

-- no window begins where no group is exclusive
pub windows_from-none : (script : PairScriptValue) (domain : ℕ) (j : LevelJournalsValue) (from : ℕ) → is_flush (op_at script from) ≡ true → exclusive_in (state_at script (epoch_at script (from + 1))) ≡ []
    → windows_from script domain j from ≡ []
windows_from-none script domain j from flush none =
    let next = epoch_at-command script from ops.Flush (op-flush (op_at script from) flush) refl in
    ap (λ (gs : List PairGroup). filter is_used (map (window_from script domain j from) gs)) (ap (λ (n : ℕ). exclusive_in (state_at script n)) (sym next) ∙ none)

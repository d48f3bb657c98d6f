-- One op more in the histories of a level.
use Rattle.std.proofs.Common.{◌≡◌, ◌≢◌, ℕ, ◌+◌, ◌%◌, ◌^◌, ◌<◌, ◌≤◌, Bool, true, false, cond, max, List, [], ◌∷◌, ◌++◌, length, inl, inr, refl, sym, ap, ◌∙◌, subst, arith}
use Rattle.std.specs.List.{All, flat_map, range_with_len}
use Rattle.std.proofs.lemmas.Bool.{cases_eq}
use Rattle.std.proofs.lemmas.List.{append-nil, get_or-map, get_or-set_other, get_or-set_same, length-map, length-set, length_push, map-append}
use Rattle.std.proofs.lemmas.List.Elements.{All-from_get_or, All-push, All-weaker}
use Rattle.cache_core.proofs.laws.Histories.{floor_of-push}
use Rattle.cache_core.specs.History.{floor_of, sets_floor}
use Rattle.cache_core.specs.declared.entry.SliceEntry.{SliceEntry}
use Rattle.cache_core.specs.declared.entry.What.TheVariants.{Access, Flush}
use Rattle.machine.specs.declared.parameters.Parameters.{Parameters}
use Rattle.pair_play.specs.Histories.{AddsAccessIn, CanAccess, CanFlush, HasRoom, IsNotAfter, LevelValue, access_entry, all_with_flush, with_flush}
use Rattle.pair_play.specs.SoFar.{IsHistorySoFar, IsLevelSoFar}
use Rattle.pair_law.proofs.laws.Cuts.{flat_map-range_same}
use Rattle.pair_law.proofs.laws.Playing.{asked-more}
use Rattle.pair_law.specs.Entries.{asked_by, entry, slice_in}
use Rattle.rc_base.specs.declared.names.Tag.{Tag}

-- ---- one history

-- nothing before the first op
IsHistorySoFar-none : (epoch : ℕ) (h : List SliceEntry) → h ≡ [] → IsHistorySoFar [] 0 epoch h
IsHistorySoFar-none epoch h empty = subst (IsHistorySoFar [] 0 epoch) (sym empty) (record { entries = refl; floor = omega arith; count = omega arith; ops = λ k d within. absurd (omega arith) })

module _ (asked : List SliceEntry) (i epoch : ℕ) (h : List SliceEntry) (so_far : IsHistorySoFar asked i epoch h) (later : ℕ) (rises : epoch ≤ later) where
  -- earlier ops are below the next one
  below : All (λ (x : SliceEntry). x.op < i + 1) h
  below = All-weaker (λ (x : SliceEntry). x.op < i) (λ (x : SliceEntry). x.op < i + 1) (λ x lt. omega arith) h so_far.ops

  -- an op that asks nothing
  IsHistorySoFar-idle : IsHistorySoFar asked (i + 1) later h
  IsHistorySoFar-idle = record {
    entries = so_far.entries;
    floor = let low : floor_of h ≤ epoch = so_far.floor in omega arith;
    count = let few = so_far.count in omega arith;
    ops = below;
  }

  -- an op that asks for an entry
  IsHistorySoFar-push : (e : SliceEntry) → e.op ≡ i → e.epoch ≤ later → IsHistorySoFar (asked ++ asked_by e ∷ []) (i + 1) later (h ++ e ∷ [])
  IsHistorySoFar-push e op low = record {
    entries = map-append asked_by h (e ∷ []) ∙ ap (λ (es : List SliceEntry). es ++ asked_by e ∷ []) so_far.entries;
    floor = at (sets_floor e.what) (floor_of-push h e);
    count = let few = so_far.count in omega (arith, length_push h e);
    ops = All-push (λ (x : SliceEntry). x.op < i + 1) h e below (omega arith);
  }
    where
      at : (b : Bool) → floor_of (h ++ e ∷ []) ≡ max (floor_of h) (cond b e.epoch 0) → floor_of (h ++ e ∷ []) ≤ later
      at true is = let was : floor_of h ≤ epoch = so_far.floor in omega arith
      at false is = let was : floor_of h ≤ epoch = so_far.floor in omega arith

-- ---- all histories of a level

-- the histories before the first op
pub IsLevelSoFar-none : (asked : ℕ → ℕ → List SliceEntry) (p : Parameters) (epoch : ℕ) (level : LevelValue) → level.parameters ≡ p → length level.histories ≡ p.domains
    → All (λ (h : List SliceEntry). h ≡ []) level.histories → IsLevelSoFar asked p 0 epoch level
IsLevelSoFar-none asked p epoch level same count empty = record {
  parameters = same;
  one_each = count;
  each = λ d lt. IsHistorySoFar-none epoch (slice_in level.histories d) (empty d [] (omega arith));
}

-- what is asked by other definitions that agree on the ops so far
pub IsLevelSoFar-same : (asked other : ℕ → ℕ → List SliceEntry) (p : Parameters) (i epoch : ℕ) (level : LevelValue) → IsLevelSoFar asked p i epoch level
    → ((d k : ℕ) → d < p.domains → k < i → asked d k ≡ other d k) → IsLevelSoFar other p i epoch level
IsLevelSoFar-same asked other p i epoch level so_far agree = record {
  parameters = so_far.parameters;
  one_each = so_far.one_each;
  each = λ d lt. subst (λ es. IsHistorySoFar es i epoch (slice_in level.histories d)) (flat_map-range_same (asked d) (other d) 0 i (λ k low high. agree d k lt (omega arith))) (so_far.each d lt);
}

module _ (asked : ℕ → ℕ → List SliceEntry) (p : Parameters) (i epoch : ℕ) (old : LevelValue) (so_far : IsLevelSoFar asked p i epoch old) where
  -- what is asked by an op more
  more : (d : ℕ) (es : List SliceEntry) → asked d i ≡ es → flat_map (asked d) (range_with_len 0 i) ++ es ≡ flat_map (asked d) (range_with_len 0 (i + 1))
  more d es is = ap (λ (l : List SliceEntry). flat_map (asked d) (range_with_len 0 i) ++ l) (sym is) ∙ sym (asked-more (asked d) i)

  -- an op that asks nothing of a domain
  idle : (d later : ℕ) (h : List SliceEntry) → d < p.domains → epoch ≤ later → asked d i ≡ [] → h ≡ slice_in old.histories d → IsHistorySoFar (flat_map (asked d) (range_with_len 0 (i + 1))) (i + 1) later h
  idle d later h lt rises none same =
      subst (λ es. IsHistorySoFar es (i + 1) later h) (sym (append-nil (flat_map (asked d) (range_with_len 0 i))) ∙ more d [] none)
      (subst (IsHistorySoFar (flat_map (asked d) (range_with_len 0 i)) (i + 1) later) (sym same) (IsHistorySoFar-idle (flat_map (asked d) (range_with_len 0 i)) i epoch (slice_in old.histories d) (so_far.each d lt) later rises))

  -- an op that asks for an entry in a domain
  added : (d later : ℕ) (h : List SliceEntry) (e : SliceEntry) → d < p.domains → epoch ≤ later → e.op ≡ i → e.epoch ≤ later → asked d i ≡ asked_by e ∷ [] → h ≡ slice_in old.histories d ++ e ∷ []
      → IsHistorySoFar (flat_map (asked d) (range_with_len 0 (i + 1))) (i + 1) later h
  added d later h e lt rises op low is same =
      subst (λ es. IsHistorySoFar es (i + 1) later h) (more d (asked_by e ∷ []) is)
      (subst (IsHistorySoFar (flat_map (asked d) (range_with_len 0 i) ++ asked_by e ∷ []) (i + 1) later) (sym same)
      (IsHistorySoFar-push (flat_map (asked d) (range_with_len 0 i)) i epoch (slice_in old.histories d) (so_far.each d lt) later rises e op low))

  -- an op that asks nothing
  pub IsLevelSoFar-idle : (later : ℕ) → epoch ≤ later → ((d : ℕ) → d < p.domains → asked d i ≡ []) → IsLevelSoFar asked p (i + 1) later old
  IsLevelSoFar-idle later rises none = record {
    parameters = so_far.parameters;
    one_each = so_far.one_each;
    each = λ d lt. idle d later (slice_in old.histories d) lt rises (none d lt) refl;
  }

  -- an access in one domain
  pub IsLevelSoFar-access : (new : LevelValue) (tag : Tag) (line : ℕ) (hit : Bool) → new.parameters ≡ old.parameters → AddsAccessIn i tag line hit old.histories new.histories → tag.domain < p.domains → tag.epoch ≤ epoch
      → asked tag.domain i ≡ entry i tag.epoch (Access false 0 tag.owner tag.rmid tag.mask line) ∷ [] → ((d : ℕ) → d < p.domains → d ≢ tag.domain → asked d i ≡ []) → IsLevelSoFar asked p (i + 1) epoch new
  IsLevelSoFar-access new tag line hit same adds there low here elsewhere =
      let histories = old.histories in
      let h = slice_in histories tag.domain ++ access_entry i tag line hit adds.0 ∷ [] in
      let within : tag.domain < length histories = omega (arith, so_far.one_each) in
      record {
        parameters = same ∙ so_far.parameters;
        one_each = ap length adds.1 ∙ (length-set histories tag.domain h ∙ so_far.one_each);
        each = λ d lt. elim (cases_eq d tag.domain) [
          | inl is ↦
              subst (λ k. IsHistorySoFar (flat_map (asked k) (range_with_len 0 (i + 1))) (i + 1) epoch (slice_in new.histories k)) (sym is)
              (added tag.domain epoch (slice_in new.histories tag.domain) (access_entry i tag line hit adds.0) there (omega arith) refl low here
              (ap (λ (hs : List (List SliceEntry)). slice_in hs tag.domain) adds.1 ∙ get_or-set_same histories tag.domain h [] within))
          | inr other ↦
              idle d epoch (slice_in new.histories d) lt (omega arith) (elsewhere d lt other)
              (ap (λ (hs : List (List SliceEntry)). slice_in hs d) adds.1 ∙ get_or-set_other histories tag.domain d h [] other)
        ];
      }

  -- a flush of all domains
  pub IsLevelSoFar-flush : (new : LevelValue) (later : ℕ) → new.parameters ≡ old.parameters → new.histories ≡ all_with_flush i later old.histories → epoch ≤ later
      → ((d : ℕ) → d < p.domains → asked d i ≡ entry i later Flush ∷ []) → IsLevelSoFar asked p (i + 1) later new
  IsLevelSoFar-flush new later same flushed rises all = record {
    parameters = same ∙ so_far.parameters;
    one_each = ap length flushed ∙ (length-map old.histories (with_flush i later) ∙ so_far.one_each);
    each = λ d lt. added d later (slice_in new.histories d) (entry i later Flush) lt rises refl (omega arith) (all d lt)
        (ap (λ (hs : List (List SliceEntry)). slice_in hs d) flushed ∙ get_or-map (with_flush i later) old.histories d [] [] (omega (arith, so_far.one_each)));
  }

-- ---- what an op needs

module _ (asked : ℕ → ℕ → List SliceEntry) (p : Parameters) (i epoch : ℕ) (level : LevelValue) (so_far : IsLevelSoFar asked p i epoch level) (few : i < 2 ^ 32) where
  -- an access of the present epoch
  pub CanAccess-IsLevelSoFar : (tag : Tag) → tag.domain < p.domains → 0 < tag.mask % 2 ^ p.ways → tag.rmid ≡ 0 → epoch ≤ tag.epoch → CanAccess level tag
  CanAccess-IsLevelSoFar tag there some none now =
      let one = so_far.each tag.domain there in
      record {
        domain = omega (arith, so_far.one_each);
        mask = subst (λ (q : Parameters). 0 < tag.mask % 2 ^ q.ways) (sym so_far.parameters) some;
        rmid = none;
        floor = let low : floor_of (slice_in level.histories tag.domain) ≤ epoch = one.floor in omega arith;
        room = let count = one.count in omega arith;
      }

  -- a flush of the present epoch or a later one
  pub CanFlush-IsLevelSoFar : (later : ℕ) → epoch ≤ later → CanFlush level later
  CanFlush-IsLevelSoFar later rises = record {
    floors = All-from_get_or (IsNotAfter later) level.histories [] (λ d lt.
        let one = so_far.each d (omega (arith, so_far.one_each)) in let low : floor_of (slice_in level.histories d) ≤ epoch = one.floor in omega arith);
    rooms = All-from_get_or HasRoom level.histories [] (λ d lt.
        let one = so_far.each d (omega (arith, so_far.one_each)) in let count = one.count in omega arith);
  }

-- The turns of an access.
use Rattle.std.proofs.Common.{◌≡◌, ℕ, ◌+◌, ◌%◌, ◌^◌, ◌<◌, ◌≤◌, Contains, length, Some, None, Ok, Err, Result, refl, sym, ap, ◌∙◌, subst, arith}
use Rattle.std.specs.Prelude.{IsSome}
use Rattle.cache_core.specs.History.{IsOwn}
use Rattle.cache_core.specs.Stands.{entry}
use Rattle.cache_core.specs.declared.entry.SliceEntry.{SliceEntry}
use Rattle.cache_core.specs.declared.entry.What.TheVariants as whats
use Rattle.live_law.proofs.laws.AccessStages.{PassesKeepFrom-touch}
use Rattle.live_law.proofs.laws.Passes.{IsReady-begin, PassesKeep-end}
use Rattle.live_law.proofs.laws.Prefixes.{IsPrefix-no_more}
use Rattle.seen_journal.proofs.laws.Prefixes.{length-prefix}
use Rattle.live_law.proofs.laws.SeenJournals.{AddsEntry-through, SeesMore-through}
use Rattle.live_law.specs.DoneOps.{AreEnded}
use Rattle.live_law.specs.Passes.{PassesKeep}
use Rattle.live_law.specs.SeenJournals.{AddsEntry, SeesMore, is_from}
use Rattle.live_law.specs.Stages.{HoldsTag, IsReady, slice_reached}
use Rattle.live_law.specs.Room.{entries_by, slice_quota}
use Rattle.live_run.proofs.Bridges.{history_length}
use Rattle.live_run.proofs.Room.{entries_by-more}
use Rattle.live_run.specs.Names.{SeenValue, history_of, seen_by}
use Rattle.live_run.specs.Accesses.{HasAccessed, HasTurned, IsTurning, turns_left}
use Rattle.live_run.specs.Steps.{HasSeenTree, HasTaken, HasTouched}
use Rattle.live_run.specs.Visits.{HasRoomIn, MayTouch}
use Rattle.step_world.specs.declared.reached.Reached.{Reached}
use Rattle.machine.specs.Maps.{domain_of, line_of}
use Rattle.machine.specs.Slices.{slice_of_line}
use Rattle.rc_base.specs.declared.names.Tag.{Tag}
use Rattle.run_law.proofs.laws.OwnLines.{IsOwn-shape_in, mod-some_way}
use Rattle.run_law.proofs.laws.SoundHistories.{Fits-op_at}
use Rattle.run_law.specs.Quotas.{command_count}
use Rattle.run_law.specs.Slices.{shape_in}
use Rattle.script_ops.specs.Values.{IsLawful, ScriptValue, op_at}
use Rattle.script_ops.specs.declared.op.Op.TheVariants.{Access}

-- an access of a lawful script is of a task and a CPU that are there
pub access_fits : (script : ScriptValue) (t op task cpu addr : ℕ) → IsLawful script → op_at script t op ≡ Some (Access task cpu addr) → Contains script.tasks task × (cpu < script.machine.cpus) × (addr < 2 ^ 48)
access_fits script t op task cpu addr lawful is = Fits-op_at script t op (Access task cpu addr) lawful is

-- the domain of a tag
pub tag_domain : (script : ScriptValue) (s : SeenValue) (task cpu : ℕ) (tag : Tag) → HoldsTag script (seen_by s) task cpu tag → tag.domain ≡ domain_of script.machine cpu
tag_domain script s task cpu tag holds = ap (λ (x : Tag). x.domain) holds.is

-- the room of a thread that has added nothing
pub room_after : (script : ScriptValue) (i : ℕ) (s met : SeenValue) → HasTaken s met → HasRoomIn script i s → HasRoomIn script i met
room_after script i s met taken room =
    let same : entries_by (seen_by met) i s.thread ≡ entries_by (seen_by s) i s.thread = entries_by-more (seen_by s) (seen_by met) i s.thread taken.sees in
    subst (λ t. length (entries_by (seen_by met) i t) < slice_quota script i t) (sym taken.thread) (omega (arith, room, ap length same))

module _ (script : ScriptValue) (op task cpu addr : ℕ) where
  -- the slice of the access
  abbrev slice : ℕ
  slice = slice_reached script.machine cpu addr

  -- what the thread knows when it goes to its slice
  pub turn_can : (i : ℕ) (tag : Tag) (s met : SeenValue) → IsLawful script → op_at script s.thread op ≡ Some (Access task cpu addr) → HasTaken s met → HoldsTag script (seen_by met) task cpu tag → tag.rmid < script.machine.rmids
      → (0 < tag.mask) × (tag.mask < 2 ^ script.machine.ways) → i ≡ slice_of_line script.machine tag.domain (line_of addr) → HasRoomIn script slice s
      → MayTouch script i op tag (line_of addr) met
  turn_can i tag s met lawful is taken holds rmid mask number room =
      let m = script.machine in
      let here : slice ≡ i = ap (λ d. slice_of_line m d (line_of addr)) (sym (tag_domain script met task cpu tag holds)) ∙ sym number in
      record {
        known = subst (λ t. IsSome (op_at script t op)) (sym taken.thread) (rw is refl);
        within = omega (arith, holds.within, history_length met.tree.seen);
        made = holds.others;
        can = record {
          own = subst (λ x. IsOwn (shape_in m x) (line_of addr % m.sets)) (sym number) (IsOwn-shape_in m tag.domain (line_of addr) lawful.in_range.some_set lawful.in_range.some_slice);
          mask = mod-some_way tag.mask m.ways mask.0 mask.1;
          rmid = rmid;
        };
        room = subst (λ x. HasRoomIn script x met) here (room_after script slice s met taken room);
      }

  -- it has made its entry
  pub turn_some : (i : ℕ) (tag : Tag) (r : Reached) (s met new : SeenValue) → HasTaken s met → HoldsTag script (seen_by met) task cpu tag → length s.tree.seen ≤ tag.epoch → i ≡ slice_of_line script.machine tag.domain (line_of addr)
      → HasTouched i op tag (line_of addr) met new (Some r) → HasAccessed script op task cpu addr r s new
  turn_some i tag r s met new taken holds late number touched =
      let (mid, meets, added, tree) = touched in
      let here : i ≡ slice = number ∙ ap (λ d. slice_of_line script.machine d (line_of addr)) (tag_domain script met task cpu tag holds) in
      let e : SliceEntry = entry met.thread op tag.epoch (whats.Access r.hit r.way tag.owner tag.rmid tag.mask (line_of addr)) in
      let later : AddsEntry met.thread i e (seen_by mid) (seen_by new) = subst (λ t. AddsEntry t i e (seen_by mid) (seen_by new)) meets.thread added.adds in
      let adds : AddsEntry met.thread i e (seen_by met) (seen_by new) = AddsEntry-through met.thread i e (seen_by met) (seen_by mid) (seen_by new) meets.sees later in
      record {
        thread = added.thread ∙ (meets.thread ∙ taken.thread);
        tag = tag;
        at = seen_by met;
        sees = taken.sees;
        holds = holds;
        late = omega (arith, late, history_length s.tree.seen);
        adds = subst (λ t. AddsEntry t slice (entry t op tag.epoch (whats.Access r.hit r.way tag.owner tag.rmid tag.mask (line_of addr))) (seen_by met) (seen_by new)) taken.thread
            (subst (λ x. AddsEntry met.thread x e (seen_by met) (seen_by new)) here adds);
      }

-- what was taken, and seen of the tree
taken_seen : (s met new : SeenValue) → HasTaken s met → HasSeenTree met new → HasTaken s new
taken_seen s met new taken meets = record {
  thread = meets.thread ∙ taken.thread;
  sees = SeesMore-through s.thread (seen_by s) (seen_by met) (seen_by new) taken.sees (subst (λ t. SeesMore t (seen_by met) (seen_by new)) taken.thread meets.sees);
}

-- two turns
taken_taken : (a b c : SeenValue) → HasTaken a b → HasTaken b c → HasTaken a c
taken_taken a b c first second = record {
  thread = second.thread ∙ first.thread;
  sees = SeesMore-through a.thread (seen_by a) (seen_by b) (seen_by c) first.sees (subst (λ t. SeesMore t (seen_by b) (seen_by c)) first.thread second.sees);
}

-- the tag was stale
pub turn_none : (script : ScriptValue) (op task cpu addr i line : ℕ) (tag : Tag) (s met new : SeenValue) → HasTaken s met → length s.tree.seen ≤ tag.epoch → tag.epoch ≤ command_count script → HasTouched i op tag line met new None
    → HasTurned script op task cpu addr s new (Err tag.epoch)
turn_none script op task cpu addr i line tag s met new taken late bound touched = (taken_seen s met new taken touched.0, late, touched.1, bound)

-- an access after stale turns
accessed_after : (script : ScriptValue) (op task cpu addr : ℕ) (r : Reached) (a b c : SeenValue) → HasTaken a b → HasAccessed script op task cpu addr r b c → HasAccessed script op task cpu addr r a c
accessed_after script op task cpu addr r a b c taken accessed =
    let longer = length-prefix (history_of a.tree.seen) (history_of b.tree.seen) (IsPrefix-no_more (is_from a.thread) (history_of a.tree.seen) (history_of b.tree.seen) taken.sees.tree) in
    record {
      thread = accessed.thread ∙ taken.thread;
      tag = accessed.tag;
      at = accessed.at;
      sees = SeesMore-through a.thread (seen_by a) (seen_by b) accessed.at taken.sees (subst (λ t. SeesMore t (seen_by b) accessed.at) taken.thread accessed.sees);
      holds = accessed.holds;
      late = omega (arith, longer, accessed.late);
      adds = subst (λ t. AddsEntry t (slice_reached script.machine cpu addr) (entry t op accessed.tag.epoch (whats.Access r.hit r.way accessed.tag.owner accessed.tag.rmid accessed.tag.mask (line_of addr))) accessed.at (seen_by c))
          taken.thread accessed.adds;
    }

-- the first turn
pub turning_first : (script : ScriptValue) (op task cpu addr : ℕ) (a b : SeenValue) (result : Result Reached ℕ) → HasTurned script op task cpu addr a b result → IsTurning script op task cpu addr a b result
turning_first script op task cpu addr a b (Ok r) turned = turned
turning_first script op task cpu addr a b (Err epoch) turned = (turned.0, turned.2, turned.3)

-- one turn more
pub turning_more : (script : ScriptValue) (op task cpu addr epoch : ℕ) (a b c : SeenValue) (result : Result Reached ℕ) → IsTurning script op task cpu addr a b (Err epoch) → HasTurned script op task cpu addr b c result
    → IsTurning script op task cpu addr a c result × (turns_left script result < turns_left script (Err epoch))
turning_more script op task cpu addr epoch a b c (Ok r) was turned = (accessed_after script op task cpu addr r a b c was.0 turned, omega (arith, was.2))
turning_more script op task cpu addr epoch a b c (Err next) was turned = ((taken_taken a b c was.0 turned.0, turned.2, turned.3), omega (arith, was.1, was.2, turned.1, turned.3))

-- ---- between two ops

-- what the passes keep, with an access more
pub passes_access : (script : ScriptValue) (n task cpu addr : ℕ) (r : Reached) (old new : SeenValue) → AreEnded script (seen_by old) old.thread → op_at script old.thread n ≡ Some (Access task cpu addr) → HasAccessed script n task cpu addr r old new
    → PassesKeep script old.thread n (seen_by old) → PassesKeep script new.thread (n + 1) (seen_by new)
passes_access script n task cpu addr r old new ended is accessed keeps =
    let t : ℕ = old.thread in
    let ready : IsReady script t n (seen_by old) = IsReady-begin script t n (seen_by old) ended keeps in
    let tag : Tag = accessed.tag in
    let e : SliceEntry = entry t n tag.epoch (whats.Access r.hit r.way tag.owner tag.rmid tag.mask (line_of addr)) in
    subst (λ u. PassesKeep script u (n + 1) (seen_by new)) (sym accessed.thread)
    (PassesKeep-end script ready.start t n (seen_by new) ready.ended
    (PassesKeepFrom-touch script ready.start t n task cpu addr tag (seen_by old) accessed.at (seen_by new) e ready.keeps accessed.sees accessed.holds accessed.late is refl refl refl accessed.adds))

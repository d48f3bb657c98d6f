-- A world whose tree is held by a command that looks: what it has to look at, and that there is room for it.
use Rattle.std.proofs.Common.{◌≡◌, ℕ, ◌+◌, ◌*◌, ◌<◌, ◌≤◌, List, [], ◌∷◌, length, get_or, set, get_or-set_same, get_or-set_other, length-set, All, Some, refl, sym, ap, ◌∙◌, subst, arith}
use Rattle.std.specs.Prelude.{◌^◌, IsSome, slice_get, vec_capacity}
use Rattle.std.proofs.lemmas.List.{get_or_default, length_push}
use Rattle.std.proofs.lemmas.Nat.{mul-le}
use Rattle.std.proofs.lemmas.Option.{get_or_from_slice_get, slice_get_within, same_Some}
use Rattle.cache_core.specs.History.{lines_of}
use Rattle.machine.specs.Slices.{slice_number}
use Rattle.rc_base.specs.Buffers.{Looks}
use Rattle.run_law.proofs.laws.LookPositions.{pair_at}
use Rattle.run_law.proofs.laws.FoundSums.{At-map}
use Rattle.run_law.proofs.laws.JobKinds.{look_of, looks_are}
use Rattle.run_law.proofs.laws.Lines.{lines_of-few}
use Rattle.run_law.proofs.laws.LongerHistories.{jobs_front}
use Rattle.run_law.proofs.laws.NeededCounts.{needs-few}
use Rattle.run_law.proofs.laws.Positions.{At-append_front}
use Rattle.run_law.proofs.laws.SoundHistories.{Fits-op_at}
use Rattle.run_law.specs.FoundLooks.{look_pairs}
use Rattle.run_law.specs.Jobs.{Job, follows_of, jobs_of, looks_of}
use Rattle.run_law.specs.Journals.{At, slice_at}
use Rattle.run_law.specs.Progress.{Progress}
use Rattle.run_law.specs.Quotas.{most_counts, room_of}
use Rattle.run_law.specs.TreeHistory.{tree_after}
use Rattle.script_ops.specs.Values.{ScriptValue, op_at}
use Rattle.script_ops.specs.declared.op.Op.{Op}
use Rattle.step_world.proofs.laws.AccessSteps.{some_can_be}
use Rattle.step_world.proofs.NextRooms.{room-job}
use Rattle.run_law.proofs.laws.ReadyLists.{spare_in-last}
use Rattle.step_world.proofs.LookedWorlds.{counted}
use Rattle.step_world.proofs.laws.MachineStates.{can_be_at}
use Rattle.step_world.proofs.RoomLeft.{has-room}
use Rattle.step_world.proofs.SoundStates.{IsSound-now}
use Rattle.step_world.proofs.StepParts.{looking_is}
use Rattle.step_world.proofs.TakenWorlds.{within-next}
use Rattle.step_world.specs.Answers.{HasCounted, HasNext}
use Rattle.run_law.specs.LookLists.{spare_in}
use Rattle.step_world.specs.Machine.{thread_at}
use Rattle.step_world.specs.Moments.{progress_by, progress_in}
use Rattle.step_world.specs.Slices.{CountsLines, SliceValue}
use Rattle.step_world.specs.Works.{CountsOn}
use Rattle.step_world.specs.Worlds.{IsAtWork, IsLookingAt, IsWorldOf, machine_of}
use Rattle.step_world.specs.declared.thread_state.ThreadState.TheVariants.{Looking}
use Rattle.step_world.specs.declared.world.World.{World}
use Rattle.tree_law.proofs.laws.Counts.{needs-exist, NamesDomain-fits}
use Rattle.tree_law.specs.LawsCounts.{CanLook}
use Rattle.tree_law.specs.Steps.{needs}

module _ (script : ScriptValue) (t made : ℕ) (op : Op) (w : World) (world : IsWorldOf script w) (next : HasNext script (machine_of w) t op) (place : (thread_at (machine_of w) t).state ≡ Looking made) where
  -- how far the thread has come
  progress : progress_in (machine_of w) t ≡ progress_by (thread_at (machine_of w) t).next (Looking made)
  progress = ap (progress_by (thread_at (machine_of w) t).next) place

  -- it holds the tree
  pub held : w.holder ≡ Some t
  held = (world.so_far.held t).0 (subst (λ (p : Progress). IsSome p.made) (sym progress) refl)

  -- its work
  pub looking : (d : List Looks) → IsLookingAt script (machine_of w) t op (get_or w.lists.items t d) w.work
  looking d = subst (λ p. IsAtWork script (machine_of w) t op (get_or w.lists.items t d) w.work p) place (world.work t op d held next.is)

  abbrev pub now_needs : List (ℕ × ℕ)
  now_needs = needs script.machine (tree_after script (machine_of w).journals.tree) op

  -- what it needs is of domains and RMIDs that are there
  pub can-look : (q : ℕ) (need : ℕ × ℕ) → slice_get now_needs q ≡ Some need → CanLook script.machine need
  can-look q need is =
      let all : All (CanLook script.machine) now_needs = needs-exist script.machine (tree_after script (machine_of w).journals.tree) op (IsSound-now script (machine_of w) world.lawful world.so_far)
      (NamesDomain-fits script.machine script.tasks op (Fits-op_at script t (thread_at (machine_of w) t).next op world.lawful next.is)) in
      subst (CanLook script.machine) (get_or_from_slice_get now_needs q need need is) (all q need (slice_get_within now_needs q need is))

  -- it needs no more than its list has room for
  pub counts-few : length now_needs ≤ most_counts script.machine op
  counts-few = needs-few script.machine (tree_after script (machine_of w).journals.tree) op (IsSound-now script (machine_of w) world.lawful world.so_far)
      (NamesDomain-fits script.machine script.tasks op (Fits-op_at script t (thread_at (machine_of w) t).next op world.lawful next.is))

  -- while counts are missing, there is room for one more
  pub list-room : (lists : List Looks) → IsLookingAt script (machine_of w) t op lists w.work → w.work.at < w.work.count → 0 < spare_in lists
  list-room lists its less =
      let last : spare_in lists ≡ its.list.last.spare = ap spare_in its.list.is ∙ spare_in-last its.list.front its.list.last in
      omega (arith, less, its.number, counts-few, its.list.room op next.is, its.count, last)

  -- so many looks are made
  pub made-is : (lists : List Looks) (its : IsLookingAt script (machine_of w) t op lists w.work) → made ≡ length its.found
  made-is lists its = looking_is made (length its.found) (sym place ∙ its.looked.place)

  -- the next look
  look-there : (lists : List Looks) (its : IsLookingAt script (machine_of w) t op lists w.work) (need : ℕ × ℕ) → slice_get now_needs w.work.at ≡ Some need
      → At (looks_of script (machine_of w).journals.tree (length (machine_of w).journals.tree) op) made (look_of (length (machine_of w).journals.tree) (slice_number script.machine need.0 w.work.slice, need.1))
  look-there lists its need is =
      let tree = (machine_of w).journals.tree in
      let pair : At (look_pairs script.machine now_needs) (length its.found) (slice_number script.machine need.0 w.work.slice, need.1) =
      subst (λ k. At (look_pairs script.machine now_needs) k (slice_number script.machine need.0 w.work.slice, need.1)) (sym its.made) (pair_at script.machine now_needs w.work.at w.work.slice need is its.slice) in
      subst (λ k. At (looks_of script tree (length tree) op) k (look_of (length tree) (slice_number script.machine need.0 w.work.slice, need.1))) (sym (made-is lists its))
      (subst (λ jobs. At jobs (length its.found) (look_of (length tree) (slice_number script.machine need.0 w.work.slice, need.1))) (looks_are script tree op)
      (At-map (look_of (length tree)) (look_pairs script.machine now_needs) (length its.found) (slice_number script.machine need.0 w.work.slice, need.1) pair))

  -- the slice has room for it
  pub room-look : (lists : List Looks) (its : IsLookingAt script (machine_of w) t op lists w.work) (need : ℕ × ℕ) (d : SliceValue) → slice_get now_needs w.work.at ≡ Some need
      → (i : ℕ) → i ≡ slice_number script.machine need.0 w.work.slice → i < length w.slices.items → length (get_or w.slices.items i d).entries < (get_or w.slices.items i d).room
  room-look lists its need d is i number there =
      let tree = (machine_of w).journals.tree in
      let (all, can) = some_can_be (machine_of w) w.holder in
      let claim = can_be_at (machine_of w) w.holder t (Looking made) all held place can in
      let count : length tree + 1 ≡ length all = sym (ap length claim.3 ∙ length_push tree claim.0) in
      let job : Job = look_of (length tree) (slice_number script.machine need.0 w.work.slice, need.1) in
      let jobs : jobs_of script all (length tree) op ≡ jobs_of script tree (length tree) op = ap (λ hs. jobs_of script hs (length tree) op) claim.3 ∙ jobs_front script tree (claim.0 ∷ []) (length tree) op (omega arith) in
      let at : At (jobs_of script all (length tree) op) made job =
      subst (λ js. At js made job) (sym jobs) (At-append_front (looks_of script tree (length tree) op) (follows_of script tree (length tree) op) made job (look-there lists its need is)) in
      let room : length (slice_at (machine_of w).journals job.slice) < room_of script job.slice =
      room-job script (machine_of w) world.lawful world.so_far all can t made (length tree) op job (omega (arith, number, there, world.slices.count))
      (subst (λ k. op_at script t k ≡ Some op) (sym (ap (λ (x : Progress). x.next) progress)) next.is) (ap (λ (x : Progress). x.made) progress) count at in
      has-room script w world i d there (subst (λ k. length (slice_at (machine_of w).journals k) < room_of script k) (sym number) room)

  -- what a look finds is few
  pub here-few : (i n epoch rmid here : ℕ) (d now : SliceValue) → i < length w.slices.items → CountsLines t n epoch rmid here (get_or w.slices.items i d) now → here ≤ 2097152
  here-few i n epoch rmid here d now there counts =
      let cache = world.slices.caches i d there in
      let history = (get_or w.slices.items i d).entries in
      omega (arith, counts.counts history cache.stands, ap (λ shape. lines_of shape history rmid) cache.shape, lines_of-few script.machine i history rmid world.lawful.in_range)

  -- so is the number of looks
  pub looks-few : (lists : List Looks) (its : IsLookingAt script (machine_of w) t op lists w.work) → made < 2 ^ 40
  looks-few lists its =
      let product : w.work.at * script.machine.slices ≤ 4294967296 * 16 = mul-le w.work.at script.machine.slices 4294967296 16 (omega (arith, its.within, its.number, its.few)) world.lawful.in_range.slice_limit in
      omega (arith, made-is lists its, its.made, product, its.slice, world.lawful.in_range.slice_limit)

  -- the thread's lists are there
  pub lists-there : t < length w.lists.items
  lists-there = omega (arith, within-next script w t op world next, world.lists_count, world.threads)

  -- it has looked
  pub looked : (new : World) (n i here epoch slices : ℕ) (need : ℕ × ℕ) (s before : SliceValue) (had now : List Looks) → n ≡ (thread_at (machine_of w) t).next → slice_get now_needs w.work.at ≡ Some need
      → slices ≡ script.machine.slices → i ≡ slice_number script.machine need.0 w.work.slice → i < length w.slices.items → before ≡ get_or w.slices.items i before → epoch ≡ w.tree.epoch
      → CountsLines t n epoch need.1 here before s → had ≡ get_or w.lists.items t had → CountsOn slices here w.work new.work had now
      → new.tree ≡ w.tree → new.commands ≡ w.commands → new.slices.items ≡ set w.slices.items i s → new.holder ≡ w.holder → new.phase ≡ w.phase → new.closing ≡ w.closing
      → new.lists.items ≡ set w.lists.items t now → new.threads.items ≡ set w.threads.items t (record { next = n; state = Looking (made + 1) })
      → IsWorldOf script new × HasCounted script t here op (machine_of w) (machine_of new)
  looked new n i here epoch slices need s before had now number there same slice inside was epoch_is counts had_is on tree commands slices_are holder phase closing lists threads =
      let before_is : before ≡ get_or w.slices.items i s = was ∙ get_or_default w.slices.items i before s inside in
      let epochs : epoch ≡ length (machine_of w).journals.tree = epoch_is ∙ world.tree.epoch in
      let kept : (d : List Looks) → get_or w.lists.items t d ≡ get_or w.lists.items t had = λ d. get_or_default w.lists.items t d had lists-there in
      counted script t op w world next (get_or w.lists.items t had) (looking had) new made n i here need s number place there slice inside
      (subst (λ k. CountsLines t n k need.1 here (get_or w.slices.items i s) s) epochs (subst (λ x. CountsLines t n epoch need.1 here x s) before_is counts))
      tree commands slices_are holder
      (record {
        phase = phase;
        threads = threads;
        capacity = ap vec_capacity commands;
        closing = closing;
        lists_count = ap length lists ∙ length-set w.lists.items t now;
        others = λ u d apart. ap (λ ls. get_or ls u d) lists ∙ get_or-set_other w.lists.items t u now d apart;
        work = λ u apart other. absurd (apart (same_Some u t (sym other ∙ (holder ∙ held))));
      })
      kept now (λ d. ap (λ ls. get_or ls t d) lists ∙ get_or-set_same w.lists.items t now d lists-there)
      (subst (λ k. CountsOn k here w.work new.work (get_or w.lists.items t had) now) same (subst (λ ls. CountsOn slices here w.work new.work ls now) had_is on))

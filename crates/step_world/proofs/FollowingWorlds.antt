-- A world whose tree is held by a command that was decided: what follows it, and that there is room for that.
use Rattle.std.proofs.Common.{◌≡◌, ℕ, ◌+◌, ◌*◌, ◌<◌, ◌≤◌, List, [], length, take, get_or, All, Some, refl, sym, ap, ◌∙◌, subst, arith}
use Rattle.std.specs.Prelude.{◌^◌, IsSome, slice_get, sum_by}
use Rattle.std.specs.List.{flat_map}
use Rattle.std.proofs.lemmas.List.{length-append}
use Rattle.std.proofs.lemmas.List.Sums.{sum_by-le, sum_by-take-le}
use Rattle.std.proofs.lemmas.Nat.{mul-le}
use Rattle.std.proofs.lemmas.Option.{get_or_from_slice_get, slice_get-get_or}
use Rattle.cache_core.specs.History.{floor_of}
use Rattle.step_world.proofs.laws.FollowNeeds.{CanFollow-ready}
use Rattle.step_world.specs.Needs.{CanFollow}
use Rattle.machine.specs.declared.parameters.Parameters.{Parameters}
use Rattle.run_law.proofs.laws.FollowCounts.{follow-at, follow_job, follows-are, job_behind, length-follows}
use Rattle.run_law.specs.Jobs.{Job, follow_jobs, follows_of, jobs_of, looks_of}
use Rattle.run_law.specs.Journals.{At, slice_at}
use Rattle.run_law.specs.Progress.{Progress}
use Rattle.run_law.specs.Quotas.{room_of}
use Rattle.run_law.specs.Slices.{shape_in}
use Rattle.run_law.specs.Targets.{slice_for, slices_at, slices_for}
use Rattle.run_law.specs.TreeHistory.{TreeEntryValue}
use Rattle.script_ops.specs.Values.{ScriptValue, op_at}
use Rattle.script_ops.specs.declared.op.Op.{Op}
use Rattle.step_world.proofs.NextRooms.{room-job}
use Rattle.step_world.proofs.KeptWorlds.{slice_at-journals}
use Rattle.step_world.proofs.laws.MachineStates.{at_can_be}
use Rattle.step_world.proofs.RoomLeft.{has-room}
use Rattle.step_world.proofs.SliceFloors.{floor_following}
use Rattle.step_world.specs.Answers.{HasNext}
use Rattle.step_world.specs.Machine.{thread_at}
use Rattle.step_world.specs.Moments.{progress_by, progress_in}
use Rattle.step_world.specs.Slices.{SliceValue}
use Rattle.step_world.specs.Worlds.{IsAtWork, IsFollowing, IsWorldOf, machine_of}
use Rattle.step_world.specs.declared.thread_state.ThreadState.TheVariants.{Following}
use Rattle.step_world.specs.declared.world.World.{World}
use Rattle.tree_core.specs.Follows.{IsReady}
use Rattle.tree_law.specs.Steps.{Target, EachSlice, SliceOf, follow_domain, goes_to}
use Rattle.tree_law.specs.declared.follow.Follow.{Follow}
use Rattle.tree_law.specs.declared.follow.Follow.TheVariants.{Raise}

-- ---- one follow-up

-- these are no more slices than a domain has
slices_at-few : (m : Parameters) (t : Target) → 0 < m.slices → slices_at m t ≤ m.slices
slices_at-few m (EachSlice domain) some = omega arith
slices_at-few m (SliceOf domain line) some = some

-- it is entered in no more slices than a domain has
slices-few : (m : Parameters) (f : Follow) → 0 < m.slices → slices_for m f ≤ m.slices
slices-few m f some = slices_at-few m (goes_to f) some

module _ (script : ScriptValue) (t made : ℕ) (op : Op) (w : World) (world : IsWorldOf script w) (nexts : HasNext script (machine_of w) t op) (place : (thread_at (machine_of w) t).state ≡ Following made) where
  abbrev tree : List TreeEntryValue
  tree = (machine_of w).journals.tree

  abbrev items : List Follow
  items = w.work.after.items

  abbrev summed : List Follow → ℕ
  summed fs = sum_by (slices_for script.machine) fs

  progress : progress_in (machine_of w) t ≡ progress_by (thread_at (machine_of w) t).next (Following made)
  progress = ap (progress_by (thread_at (machine_of w) t).next) place

  -- it holds the tree
  pub held : w.holder ≡ Some t
  held = (world.so_far.held t).0 (subst (λ (p : Progress). IsSome p.made) (sym progress) refl)

  -- its work
  pub following : IsFollowing script tree made op w.work
  following = subst (λ p. IsAtWork script (machine_of w) t op (get_or w.lists.items t []) w.work p) place (world.work t op [] held nexts.is)

  -- all its entries
  pub jobs-all : length (jobs_of script tree following.position op) ≡ length (looks_of script tree following.position op) + summed items
  jobs-all =
      let k = following.position in
      let count : length (follows_of script tree k op) ≡ summed items =
      ap length (follows-are script tree k op) ∙ (ap (λ fs. length (flat_map (follow_jobs script.machine (k + 1)) fs)) (sym following.after) ∙ length-follows script.machine (k + 1) items) in
      length-append (looks_of script tree k op) (follows_of script tree k op) ∙ omega (arith, count)

  -- they are few
  pub made-few : length items ≤ 8 → made < 2 ^ 41
  made-few few =
      let each : All (λ f. slices_for script.machine f ≤ 16) items = λ k d less. omega (arith, slices-few script.machine (get_or items k d) world.lawful.in_range.some_slice, world.lawful.in_range.slice_limit) in
      let product : length items * 16 ≤ 8 * 16 = mul-le (length items) 16 8 16 few (omega arith) in
      let next : Follow = get_or items w.work.at (Raise 0) in
      omega (
        arith,
        following.number,
        following.bound,
        sum_by-take-le (slices_for script.machine) items w.work.at,
        sum_by-le (slices_for script.machine) 16 items each,
        product,
        following.slice next (slice_get-get_or items w.work.at (Raise 0) following.within),
        slices-few script.machine next world.lawful.in_range.some_slice,
        world.lawful.in_range.slice_limit,
      )

  -- no floor is past its epoch
  pub floor-below : (i : ℕ) (d : SliceValue) → i < length w.slices.items → (get_or w.slices.items i d).cache.floor ≤ w.tree.epoch
  floor-below i d there =
      let list : slice_at (machine_of w).journals i ≡ (get_or w.slices.items i d).entries = slice_at-journals tree w.slices.items i d there in
      omega (arith, (world.slices.caches i d there).stands.floor, ap floor_of list, floor_following script (machine_of w) t made i held place world.so_far, world.tree.epoch)

  module _ (f : Follow) (is : slice_get items w.work.at ≡ Some f) where
    pub domain-there : follow_domain f < script.machine.domains
    domain-there = subst (λ x. follow_domain x < script.machine.domains) (get_or_from_slice_get items w.work.at f f is) (following.domains w.work.at f following.within)

    ready : IsReady script.machine f
    ready = subst (IsReady script.machine) (get_or_from_slice_get items w.work.at f f is) (following.ready w.work.at f following.within)

    pub slice-there : w.work.slice < script.machine.slices
    slice-there = omega (arith, following.slice f is, slices-few script.machine f world.lawful.in_range.some_slice)

    -- the slice can take it
    pub can : (i : ℕ) (d : SliceValue) → i < length w.slices.items → i ≡ slice_for script.machine f w.work.slice → CanFollow (get_or w.slices.items i d).cache.shape (get_or w.slices.items i d).cache.rmids f
    can i d there number =
        let cache = world.slices.caches i d there in
        let can : CanFollow (shape_in script.machine i) script.machine.rmids f = CanFollow-ready script.machine f i w.work.slice world.lawful.in_range number ready in
        subst (λ r. CanFollow (get_or w.slices.items i d).cache.shape r f) (sym cache.rmids) (subst (λ m. CanFollow m script.machine.rmids f) (sym cache.shape) can)

    -- the entry's job
    abbrev pub job : Job
    job = follow_job script.machine (following.position + 1) f w.work.slice

    pub job-there : At (jobs_of script tree following.position op) made job
    job-there =
        let k = following.position in
        let at : At (flat_map (follow_jobs script.machine (k + 1)) items) (summed (take w.work.at items) + w.work.slice) job = follow-at script.machine (k + 1) items w.work.at w.work.slice f is (following.slice f is) in
        let all : flat_map (follow_jobs script.machine (k + 1)) items ≡ follows_of script tree k op = ap (flat_map (follow_jobs script.machine (k + 1))) following.after ∙ sym (follows-are script tree k op) in
        subst (λ r. At (jobs_of script tree k op) r job) (sym following.number)
        (job_behind (looks_of script tree k op) (follows_of script tree k op) (summed (take w.work.at items) + w.work.slice) job (subst (λ js. At js (summed (take w.work.at items) + w.work.slice) job) all at))

    -- the slice has room for it
    pub room-follow : (i : ℕ) (d : SliceValue) → i < length w.slices.items → i ≡ slice_for script.machine f w.work.slice → length (get_or w.slices.items i d).entries < (get_or w.slices.items i d).room
    room-follow i d there number =
        let room : length (slice_at (machine_of w).journals job.slice) < room_of script job.slice =
        room-job script (machine_of w) world.lawful world.so_far tree (at_can_be (machine_of w) w.holder t (Following made) tree held place refl) t made following.position op job (omega (arith, number, there, world.slices.count))
        (subst (λ (p : Progress). op_at script t p.next ≡ Some op) (sym progress) nexts.is) (ap (λ (p : Progress). p.made) progress) (sym following.decided) job-there in
        has-room script w world i d there (subst (λ k. length (slice_at (machine_of w).journals k) < room_of script k) (sym number) room)

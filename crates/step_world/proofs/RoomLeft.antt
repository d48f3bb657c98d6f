-- What a slice of a world needs for an entry more: room in its list, and a clock that does not overflow.
use Rattle.std.proofs.Common.{◌≡◌, ℕ, ◌<◌, length, take, get_or, Some, inl, inr, sym, ap, ◌∙◌, subst, arith}
use Rattle.std.specs.Prelude.{◌%◌, ◌^◌}
use Rattle.std.proofs.lemmas.Bool.{cases_lt}
use Rattle.std.proofs.lemmas.Option.{slice_get_within}
use Rattle.cbm.proofs.laws.Validity.{checked-zero}
use Rattle.machine.proofs.laws.Domains.{domain_of-lt}
use Rattle.machine.specs.Maps.{domain_of, line_of}
use Rattle.machine.specs.Slices.{slice_of_line}
use Rattle.machine.specs.declared.parameters.Parameters.{Parameters}
use Rattle.rc_base.specs.declared.names.Tag.{Tag}
use Rattle.run_law.proofs.laws.LightRooms.{room-light}
use Rattle.run_law.proofs.laws.OwnLines.{mod-some_way}
use Rattle.run_law.proofs.laws.SoundHistories.{Fits-op_at, IsSound-take}
use Rattle.run_law.specs.Journals.{slice_at}
use Rattle.run_law.specs.Progress.{Progress}
use Rattle.run_law.specs.Quotas.{room_of}
use Rattle.run_law.specs.TreeHistory.{tree_after}
use Rattle.script_ops.proofs.laws.Weights.{length-get_or}
use Rattle.script_ops.specs.Values.{IsLawful, ScriptValue, op_at, ops_of, threads_of}
use Rattle.script_ops.specs.declared.limits.TheConstants.{MOST_WEIGHT}
use Rattle.script_ops.specs.declared.op.Op.{Op}
use Rattle.script_ops.specs.declared.op.Op.TheVariants as ops
use Rattle.step_world.proofs.laws.EntryRooms.{entries-few}
use Rattle.step_world.proofs.NextRooms.{room-access}
use Rattle.step_world.proofs.KeptWorlds.{slice_at-journals}
use Rattle.step_world.proofs.TouchedWorlds.{known}
use Rattle.step_world.specs.Answers.{HasNext}
use Rattle.step_world.specs.Machine.{thread_at}
use Rattle.step_world.specs.Moments.{progress_by, progress_in}
use Rattle.step_world.specs.Slices.{SliceValue}
use Rattle.step_world.specs.Worlds.{IsWorldOf, machine_of}
use Rattle.step_world.specs.declared.thread_state.ThreadState.TheVariants.{Tagged}
use Rattle.step_world.specs.declared.world.World.{World}
use Rattle.tree_law.proofs.laws.Access.{resolve-good}
use Rattle.tree_law.specs.LawsAccess.{IsGood}
use Rattle.tree_law.specs.Masks.{IsValid}
use Rattle.tree_law.specs.Resolving.{resolve}
use Rattle.tree_law.specs.Space.{geometry_of}

-- a mask that is valid has a way
some-valid : (m : Parameters) (mask : ℕ) → IsValid m mask → 0 < mask
some-valid m mask valid = elim (cases_lt 0 mask) [
  | inl lt ↦ lt
  | inr le ↦ (let none : mask ≡ 0 = omega arith in absurd (let e = checked-zero (geometry_of m) mask none ∙ valid.faultless in cc))
]

module _ (script : ScriptValue) (w : World) (world : IsWorldOf script w) (i : ℕ) (d : SliceValue) (there : i < length w.slices.items) where
  -- a slice's list
  list : slice_at (machine_of w).journals i ≡ (get_or w.slices.items i d).entries
  list = slice_at-journals (machine_of w).journals.tree w.slices.items i d there

  -- where the machine's list has room, the slice has
  pub has-room : length (slice_at (machine_of w).journals i) < room_of script i → length (get_or w.slices.items i d).entries < (get_or w.slices.items i d).room
  has-room less = omega (arith, less, ap length list, world.slices.rooms i d there)

  -- no clock is near its end
  pub has-time : (get_or w.slices.items i d).cache.clock < 2 ^ 32
  has-time =
      let few = entries-few script (machine_of w) world.lawful world.so_far i (omega (arith, there, world.slices.count)) in
      omega (arith, (world.slices.caches i d there).stands.clock, ap length list, few, room-light script i (omega (arith, there, world.slices.count)) world.lawful)

-- ---- ops

-- the number of an op is small
pub op-few : (script : ScriptValue) (t n : ℕ) (op : Op) → IsLawful script → op_at script t n ≡ Some op → n < 4000000
op-few script t n op lawful is = omega (arith, slice_get_within (ops_of script t) n op is, length-get_or script.machine MOST_WEIGHT (threads_of script) t lawful.light)

-- ---- accesses

module _ (script : ScriptValue) (t task cpu addr : ℕ) (tag : Tag) (w : World) (world : IsWorldOf script w) (next : HasNext script (machine_of w) t (ops.Access task cpu addr)) (place : (thread_at (machine_of w) t).state ≡ Tagged tag) where
  -- its CPU is there
  cpu_there : cpu < script.machine.cpus
  cpu_there = (Fits-op_at script t (thread_at (machine_of w) t).next (ops.Access task cpu addr) world.lawful next.is).1

  -- its domain
  domain_is : tag.domain ≡ domain_of script.machine cpu
  domain_is = ap (λ (x : Tag). x.domain) (known script t task cpu addr tag w world next place).is

  -- exists
  pub domain-there : tag.domain < script.machine.domains
  domain-there = omega (arith, domain_is, domain_of-lt script.machine cpu world.lawful.in_range cpu_there)

  -- what the tree gave it
  good : IsGood script.machine (resolve script.machine (tree_after script (take tag.epoch (machine_of w).journals.tree)) task cpu)
  good =
      let its = known script t task cpu addr tag w world next place in
      resolve-good script.machine (tree_after script (take tag.epoch (machine_of w).journals.tree)) task cpu (IsSound-take script (machine_of w).journals.tree world.lawful world.so_far.legal.tree_legal tag.epoch its.within)
      cpu_there (domain_of-lt script.machine cpu world.lawful.in_range cpu_there)

  pub rmid-there : tag.rmid < script.machine.rmids
  rmid-there = omega (arith, ap (λ (x : Tag). x.rmid) (known script t task cpu addr tag w world next place).is, good.rmid)

  pub mask-some : 0 < tag.mask % 2 ^ script.machine.ways
  mask-some =
      let some = some-valid script.machine (resolve script.machine (tree_after script (take tag.epoch (machine_of w).journals.tree)) task cpu).mask good.mask in
      let is : tag.mask ≡ (resolve script.machine (tree_after script (take tag.epoch (machine_of w).journals.tree)) task cpu).mask = ap (λ (x : Tag). x.mask) (known script t task cpu addr tag w world next place).is in
      mod-some_way tag.mask script.machine.ways (omega (arith, is, some)) (subst (λ k. k < 2 ^ script.machine.ways) (sym is) good.mask.bounded)

  -- the slice has room for it
  pub room-touch : (i : ℕ) (d : SliceValue) → i < length w.slices.items → i ≡ slice_of_line script.machine tag.domain (line_of addr) → length (get_or w.slices.items i d).entries < (get_or w.slices.items i d).room
  room-touch i d there slice =
      let at : progress_in (machine_of w) t ≡ progress_by (thread_at (machine_of w) t).next (Tagged tag) = ap (progress_by (thread_at (machine_of w) t).next) place in
      let line : i ≡ slice_of_line script.machine (domain_of script.machine cpu) (line_of addr) = slice ∙ ap (λ k. slice_of_line script.machine k (line_of addr)) domain_is in
      has-room script w world i d there
      (room-access script (machine_of w) world.lawful world.so_far i t task cpu addr (omega (arith, there, world.slices.count))
      (subst (λ k. op_at script t k ≡ Some (ops.Access task cpu addr)) (sym (ap (λ (x : Progress). x.next) at)) next.is) (ap (λ (x : Progress). x.made) at) line)

-- The slice that an access of a world comes to with its tag.
use Rattle.std.proofs.Common.{◌≡◌, ℕ, ◌%◌, ◌<◌, length, get_or, sym, ap, ◌∙◌, subst, arith}
use Rattle.std.specs.Prelude.{◌^◌}
use Rattle.cache_core.specs.History.{IsOwn, Shape}
use Rattle.machine.specs.Maps.{line_of}
use Rattle.machine.specs.Slices.{slice_of_line}
use Rattle.rc_base.specs.declared.names.Tag.{Tag}
use Rattle.run_law.specs.Slices.{shape_in}
use Rattle.script_ops.specs.Values.{ScriptValue}
use Rattle.script_ops.specs.declared.op.Op.TheVariants as ops
use Rattle.run_law.proofs.laws.OwnLines.{IsOwn-shape_in}
use Rattle.step_world.proofs.RoomLeft.{has-time, mask-some, rmid-there, room-touch}
use Rattle.step_world.specs.Answers.{HasNext}
use Rattle.step_world.specs.Machine.{thread_at}
use Rattle.step_world.specs.Slices.{SliceValue}
use Rattle.step_world.specs.Worlds.{IsWorldOf, machine_of}
use Rattle.step_world.specs.declared.thread_state.ThreadState.TheVariants.{Tagged}
use Rattle.step_world.specs.declared.world.World.{World}

-- what a slice needs for an access
pub record CanReach (s : SliceValue) (tag : Tag) (line : ℕ) : Type 0 where
  pub own : IsOwn s.cache.shape (line % s.cache.shape.sets)
  pub mask : 0 < tag.mask % 2 ^ s.cache.shape.ways
  pub rmid : tag.rmid < s.cache.rmids
  pub clock : s.cache.clock < 2 ^ 32
  pub room : length s.entries < s.room

module _ (script : ScriptValue) (t task cpu addr : ℕ) (tag : Tag) (w : World) (world : IsWorldOf script w) (next : HasNext script (machine_of w) t (ops.Access task cpu addr)) (place : (thread_at (machine_of w) t).state ≡ Tagged tag) where
  -- the slice of its line has it
  pub can-reach : (i : ℕ) (s : SliceValue) → i < length w.slices.items → i ≡ slice_of_line script.machine tag.domain (line_of addr) → s ≡ get_or w.slices.items i s → CanReach s tag (line_of addr)
  can-reach i s there number value =
      let m = script.machine in
      let line : ℕ = line_of addr in
      let is = world.slices.caches i s there in
      let shape : s.cache.shape ≡ shape_in m (slice_of_line m tag.domain line) = ap (λ (x : SliceValue). x.cache.shape) value ∙ (is.shape ∙ ap (shape_in m) number) in
      let ways : s.cache.shape.ways ≡ m.ways = ap (λ (x : SliceValue). x.cache.shape.ways) value ∙ ap (λ (x : Shape). x.ways) is.shape in
      record {
        own = subst (λ (x : Shape). IsOwn x (line % x.sets)) (sym shape) (IsOwn-shape_in m tag.domain line world.lawful.in_range.some_set world.lawful.in_range.some_slice);
        mask = subst (λ k. 0 < tag.mask % 2 ^ k) (sym ways) (mask-some script t task cpu addr tag w world next place);
        rmid = omega (arith, ap (λ (x : SliceValue). x.cache.rmids) value, is.rmids, rmid-there script t task cpu addr tag w world next place);
        clock = omega (arith, ap (λ (x : SliceValue). x.cache.clock) value, has-time script w world i s there);
        room = subst (λ (x : SliceValue). length x.entries < x.room) (sym value) (room-touch script t task cpu addr tag w world next place i s there number);
      }

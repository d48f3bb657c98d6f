-- The next phase of a world begins.
use Rattle.std.proofs.Common.{◌≡◌, ◌+◌, ◌<◌, [], ◌∷◌, length, Some, None, refl, sym, ◌∙◌, arith}
use Rattle.script_ops.specs.Values.{ScriptValue}
use Rattle.step_world.proofs.laws.Schedules.{plays_keep}
use Rattle.step_world.specs.Schedules.{GoesOn, Next}
use Rattle.step_world.specs.Worlds.{IsWorldOf, machine_of}
use Rattle.step_world.specs.declared.world.World.{World}

-- the world with the next phase
abbrev pub next_of : World → World
next_of w = record { tree = w.tree; commands = w.commands; slices = w.slices; threads = w.threads; lists = w.lists; phase = w.phase + 1; holder = w.holder; work = w.work; closing = w.closing }

-- it is one of the script
pub IsWorldOf-next : (script : ScriptValue) (w : World) → w.phase < length script.phases → w.holder ≡ None → GoesOn script (machine_of w) (machine_of (next_of w)) → IsWorldOf script w → IsWorldOf script (next_of w)
IsWorldOf-next script w below free goes world = record {
  lawful = world.lawful;
  so_far = plays_keep script (Next ∷ []) (machine_of w) (machine_of (next_of w)) world.lawful.in_range.some_slice (machine_of (next_of w), goes, refl) world.so_far;
  phase = omega (arith, below);
  tree = world.tree;
  slices = world.slices;
  room = world.room;
  closing = world.closing;
  threads = world.threads;
  within = world.within;
  lists_count = world.lists_count;
  lists = world.lists;
  work = λ t op d held is. absurd (let wrong : None ≡ Some t = sym free ∙ held in cc);
}

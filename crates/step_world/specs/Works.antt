-- How the work of the command that holds the tree goes on.
-- (For functions and proofs: no promise of the program stands on it.)
use Rattle.std.specs.Prelude.{◌≡◌, ℕ, ◌+◌, ◌<◌, ◌≤◌, List, length, None, slice_set}
use Rattle.rc_base.specs.Buffers.{Looks}
use Rattle.run_law.specs.LookLists.{HasNoted}
use Rattle.step_world.specs.declared.thread_state.ThreadState.TheVariants.{Ready, Following}
use Rattle.step_world.specs.declared.work.Work.{Work}
use Rattle.step_world.specs.declared.world.World.{World}

-- a slice was counted: the next slice of its domain comes, and after the last the sum is noted, and the next count comes
pub record CountsOn (slices here : ℕ) (old new : Work) (before now : List Looks) : Type 0 where
  pub counts : new.counts ≡ old.counts
  pub count : new.count ≡ old.count
  pub within : old.slice + 1 < slices → (new.at ≡ old.at) × (new.slice ≡ old.slice + 1) × (new.lines ≡ old.lines + here) × (now ≡ before)
  pub last : slices ≤ old.slice + 1 → (new.at ≡ old.at + 1) × (new.slice ≡ 0) × (new.lines ≡ 0) × HasNoted (old.lines + here) before now

-- a slice was done: the next slice of the domain comes, and after the last the next follow-up
pub record FollowsOn (slices : ℕ) (old new : Work) : Type 0 where
  pub after : new.after ≡ old.after
  pub within : old.slice + 1 < slices → (new.at ≡ old.at) × (new.slice ≡ old.slice + 1)
  pub last : slices ≤ old.slice + 1 → (new.at ≡ old.at + 1) × (new.slice ≡ 0)

-- There is more to follow, and the thread goes on holding the tree; or it lets the tree go, and its op is done.
pub record Settles (t n made : ℕ) (old new : World) : Type 0 where
  pub tree : new.tree ≡ old.tree
  pub commands : new.commands ≡ old.commands
  pub slices : new.slices ≡ old.slices
  pub lists : new.lists ≡ old.lists
  pub phase : new.phase ≡ old.phase
  pub work : new.work ≡ old.work
  pub closing : new.closing ≡ old.closing
  pub goes : old.work.at < length old.work.after.items → (new.holder ≡ old.holder) × (new.threads.items ≡ slice_set old.threads.items t (record { next = n; state = Following made }))
  pub ends : length old.work.after.items ≤ old.work.at → (new.holder ≡ None) × (new.threads.items ≡ slice_set old.threads.items t (record { next = n + 1; state = Ready }))

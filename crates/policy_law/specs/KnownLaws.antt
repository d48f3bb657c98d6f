-- Where the known policies isolate, from any state on.
use Rattle.std.specs.Prelude.{◌≡◌, ℕ, ◌/◌, ◌^◌, ◌<◌, Bool, ◌==◌, List, length}
use Rattle.policy_law.specs.Policies.{has_way}
use Rattle.policy_law.specs.Isolation.{IsIsolated, KeepsMasks}
use Rattle.policy_law.specs.KnownPolicies.{Stamps, lru, fifo, tree, nru, srrip, random, random_by_mask}

-- Least recently used and first in, first out isolate on any mask, where no stamp is in the future.
abbrev pub StampsIsolate : Type 0
StampsIsolate =
    (mask : List ℕ) (s : Stamps) → 0 < length mask → ((w : ℕ) → s.stamp w < s.clock) → IsIsolated lru mask s s × IsIsolated fifo mask s s

-- A tree isolates on a mask that has just the ways below one of its nodes.
abbrev pub SubtreesIsolate : Type 0
SubtreesIsolate =
    (levels height node : ℕ) (mask : List ℕ) (bits : ℕ → ℕ → Bool)
    → 0 < length mask → ((w : ℕ) → has_way mask w ≡ (w / 2 ^ height == node)) → IsIsolated (tree levels) mask bits bits

-- Bits that are reset over the mask alone isolate on any mask.
abbrev pub OwnResetsIsolate : Type 0
OwnResetsIsolate = (mask : List ℕ) (s : ℕ → Bool) → 0 < length mask → IsIsolated (nru (λ ways. ways)) mask s s

-- So do intervals that age in the mask alone.
abbrev pub OwnAgesIsolate : Type 0
OwnAgesIsolate = (mask : List ℕ) (s : ℕ → ℕ) → 0 < length mask → IsIsolated (srrip (λ ways. ways)) mask s s

-- And so does a generator of the mask's own, whatever numbers it makes.
abbrev pub OwnGeneratorsIsolate : Type 0
OwnGeneratorsIsolate = (next : ℕ → ℕ) (mask : List ℕ) (s : ℕ → ℕ) → 0 < length mask → IsIsolated (random_by_mask next) mask s s

-- Each of them fills within the mask.
pub record KnownPoliciesKeepMasks : Type 0 where
  pub by_use : KeepsMasks lru
  pub by_fill : KeepsMasks fifo
  pub by_tree : (levels : ℕ) → KeepsMasks (tree levels)
  pub by_resets : (ways : List ℕ → List ℕ) → KeepsMasks (nru ways)
  pub by_ages : (ways : List ℕ → List ℕ) → KeepsMasks (srrip ways)
  pub by_generator : (next : ℕ → ℕ) → KeepsMasks (random next)
  pub by_generators : (next : ℕ → ℕ) → KeepsMasks (random_by_mask next)

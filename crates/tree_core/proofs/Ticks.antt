-- What a tick leaves.
use Rattle.std.proofs.Common.{◌≡◌, ℕ, ◌*◌, List, length, refl, sym, subst, ap, ap₂, ◌∙◌}
use Rattle.hw_ids.specs.Ids.{contains}
use Rattle.hw_ids.specs.MonitoringIds.{MonitoringIds, above}
use Rattle.machine.specs.Ranges.{InRange}
use Rattle.machine.specs.declared.parameters.Parameters.{Parameters}
use Rattle.script_ops.specs.declared.op.Op.TheVariants.{Tick}
use Rattle.tree_core.proofs.FreedIds.{above-bytes_each}
use Rattle.tree_core.proofs.NeededCounts.{length-counts_in}
use Rattle.tree_core.proofs.Outcomes.{next-accepted}
use Rattle.tree_core.proofs.ReadCounts.{needs-tick, refusal-tick}
use Rattle.tree_core.proofs.RemovedGroups.{threshold-lt}
use Rattle.tree_core.specs.Kept.{Keeps}
use Rattle.tree_core.specs.RmidLists.{bytes_each}
use Rattle.tree_core.specs.Tables.{Tables}
use Rattle.tree_law.proofs.laws.Steps.{next-sound}
use Rattle.tree_law.specs.Freeing.{staying_in_limbo}
use Rattle.tree_law.specs.Sound.{IsSound}
use Rattle.tree_law.specs.State.{Outcome, State}
use Rattle.tree_law.specs.Steps.{needs, next}
use Rattle.tree_law.specs.commands.Tick as tick

-- after a tick, those whose bytes pass the threshold stay in limbo
state-tick : (m : Parameters) (s : State) (looks : List ℕ) → (next m s Tick looks).state ≡ record s { limbo = staying_in_limbo m s.threshold s.limbo looks }
unfolding tick.accepted
state-tick m s looks = ap (λ (o : Outcome). o.state) (next-accepted m s Tick looks (refusal-tick m s))

-- there is one look for each domain of each
pub length-looks : (m : Parameters) (s : State) (looks : List ℕ) → length looks ≡ length (needs m s Tick) → length looks ≡ length s.limbo * m.domains
length-looks m s looks count = count ∙ ap (λ (xs : List (ℕ × ℕ)). length xs) (needs-tick m s) ∙ length-counts_in 0 m.domains s.limbo

module _ {m : Parameters} {t : Tables} {s : State} {epoch : ℕ} (keeps : Keeps m t s epoch) (looks : List ℕ) (rmids' : MonitoringIds) (range : InRange m) (count : length looks ≡ length (needs m s Tick))
    (is : rmids' ≡ record t.rmids { limbo = above t.rmids.threshold t.rmids.limbo (bytes_each m.domains (length t.rmids.limbo) looks) }) where
  -- the RMIDs that stay in limbo
  limbo-after : rmids'.limbo ≡ staying_in_limbo m s.threshold s.limbo looks
  limbo-after =
      ap (λ (r : MonitoringIds). r.limbo) is
      ∙ ap₂ (λ (h : ℕ) (limbo : List ℕ). above h limbo (bytes_each m.domains (length limbo) looks)) keeps.stands.threshold keeps.stands.limbo
      ∙ above-bytes_each m s.threshold s.limbo looks (threshold-lt m range s.threshold keeps.sound.threshold)

  -- the state with them is the one after the command
  pub ticked-next : record s { limbo = rmids'.limbo } ≡ (next m s Tick looks).state
  ticked-next = ap (λ (limbo : List ℕ). record s { limbo = limbo }) limbo-after ∙ sym (state-tick m s looks)

  -- which the type keeps
  pub Keeps-ticked : (after : State) → after ≡ record s { limbo = rmids'.limbo } → Keeps m (record t { rmids = rmids' }) after epoch
  Keeps-ticked after same = subst (λ (x : State). Keeps m (record t { rmids = rmids' }) x epoch) (sym same) (record {
    stands = record {
      groups = keeps.stands.groups;
      tasks = keeps.stands.tasks;
      cpus = keeps.stands.cpus;
      limbo = refl;
      threshold = ap (λ (r : MonitoringIds). r.threshold) is ∙ keeps.stands.threshold;
      regions = keeps.stands.regions;
      locks = keeps.stands.locks;
      shareable = keeps.stands.shareable;
      taken = record {
        class_count = keeps.stands.taken.class_count;
        class_taken = keeps.stands.taken.class_taken;
        rmid_count = ap (λ (r : MonitoringIds). r.count) is ∙ keeps.stands.taken.rmid_count;
        rmid_taken = λ id. ap (λ (r : MonitoringIds). contains id r.taken) is ∙ keeps.stands.taken.rmid_taken id;
      };
      gids_left = keeps.stands.gids_left;
      locks_left = keeps.stands.locks_left;
    };
    sound = subst (IsSound m) (sym ticked-next) (next-sound m s Tick looks range keeps.sound tt count);
    few_tasks = keeps.few_tasks;
  })

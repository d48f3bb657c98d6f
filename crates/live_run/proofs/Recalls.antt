-- An access that learns the tag of its thread's last access again.
use Rattle.std.proofs.Common.{◌≡◌, ℕ, ◌<◌, ◌^◌, [], ◌∷◌, Some, sym, ap, ◌∙◌, subst, arith}
use Rattle.atomic_table.specs.Seated.{TableId}
use Rattle.live_law.proofs.laws.SeenJournals.{SeesMore-self}
use Rattle.live_law.specs.SeenJournals.{SeesMore}
use Rattle.live_run.specs.CachedTags.{IsCached, IsNoted}
use Rattle.live_run.specs.Names.{SeenValue, seen_by}
use Rattle.live_run.specs.Sharing.{IsBeforeAccess, given_in}
use Rattle.live_run.specs.Steps.{HasTaken}
use Rattle.run_law.proofs.laws.LightRooms.{commands-light}
use Rattle.schedule_law.specs.LiveParts.{live_thread}
use Rattle.schedule_law.specs.LiveSteps.{MayRecall}
use Rattle.schedule_law.specs.declared.part.GivenTag.{GivenTag}
use Rattle.schedule_law.specs.declared.part.Part.{Part}
use Rattle.script_ops.specs.Values.{IsLawful, ScriptValue}
use Rattle.script_ops.specs.declared.op.Op.TheVariants.{Access}
use Rattle.shared_parts.specs.Shares.{ShareValue}
use Rattle.step_world.specs.declared.thread_state.ThreadState.TheVariants.{Ready}

-- a thread that has seen no more
pub HasTaken-self : (s now : SeenValue) → now ≡ s → HasTaken s now
HasTaken-self s now is = record { thread = ap (λ (v : SeenValue). v.thread) is; sees = subst (λ (v : SeenValue). SeesMore s.thread (seen_by s) (seen_by v)) (sym is) (SeesMore-self s.thread (seen_by s)) }

-- and whose share has the same parts
pub before_same : (script : ScriptValue) (table : TableId) (task cpu : ℕ) (s now : SeenValue) (worker later : ShareValue Part) → now ≡ s → later.table ≡ worker.table → later.parts ≡ worker.parts
    → IsBeforeAccess script table task cpu s worker → IsBeforeAccess script table task cpu now later
before_same script table task cpu s now worker later is same_table same_parts before =
    subst (λ (v : SeenValue). IsBeforeAccess script table task cpu v later) (sym is)
    (record {
      n = before.n;
      addr = before.addr;
      resting = record {
        found = before.resting.found;
        given = before.resting.given;
        is = record { table_is = same_table ∙ before.resting.is.table_is; words = before.resting.is.words; parts_are = same_parts ∙ before.resting.is.parts_are };
      };
      is = before.is;
    })

-- no tag has an epoch that is too great
pub epoch_few : (script : ScriptValue) (s : SeenValue) (k : GivenTag) → IsLawful script → IsCached script s k → k.tag.epoch < 2 ^ 62
epoch_few script s k lawful known = omega (arith, known.most, commands-light script lawful)

-- by its part it may learn the tag again
pub may_recall : (script : ScriptValue) (table : TableId) (task cpu : ℕ) (s : SeenValue) (worker : ShareValue Part) (k : GivenTag) → IsLawful script → IsBeforeAccess script table task cpu s worker → IsNoted worker (Some k) → IsCached script s k → k.task ≡ task → k.cpu ≡ cpu
    → MayRecall script worker.parts k
may_recall script table task cpu s worker k lawful before noted known same_task same_cpu =
    let given : before.resting.given ≡ Some k = sym (ap given_in before.resting.is.parts_are) ∙ noted in
    record {
      some = lawful.in_range.some_slice;
      t = s.thread;
      n = before.n;
      addr = before.addr;
      found = before.resting.found;
      worker_is = before.resting.is.parts_are ∙ ap (λ g. live_thread s.thread before.n Ready before.resting.found g ∷ []) given;
      is = before.is ∙ (λ j. Some (Access (sym same_task j) (sym same_cpu j) before.addr));
      few = epoch_few script s k lawful known;
    }

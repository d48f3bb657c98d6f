-- What a write of `max_threshold_occupancy` answers and leaves.
use Rattle.std.proofs.Common.{◌≡◌, ℕ, ◌+◌, ◌≤◌, List, [], find, Option, None, Some, refl, ap, ◌∙◌, arith}
use Rattle.machine.specs.Maps.{cache_bytes}
use Rattle.machine.specs.declared.parameters.Parameters.{Parameters}
use Rattle.num_text.specs.Blanks.{trim}
use Rattle.num_text.specs.Numbers.{dec_of}
use Rattle.path_names.specs.declared.dirs.DirRef.{DirRef}
use Rattle.path_names.specs.declared.files.FileKind.TheVariants.{MaxThreshold}
use Rattle.path_names.specs.declared.path_ref.PathRef.TheVariants.{File}
use Rattle.rc_base.specs.declared.replies.Reply.{Reply}
use Rattle.rc_base.specs.declared.replies.Why.TheVariants.{BadThreshold}
use Rattle.script_ops.specs.declared.op.Op.TheVariants.{Write}
use Rattle.tree_core.proofs.WrittenMasks.{refusal-write_text}
use Rattle.tree_core.specs.Kept.{Keeps}
use Rattle.tree_core.specs.Tables.{Tables}
use Rattle.tree_law.specs.Refusals.{plain}
use Rattle.tree_law.specs.State.{State}
use Rattle.tree_law.specs.Steps.{accepted, after_accepted, left, refusal, with_status}
use Rattle.tree_law.specs.commands.Threshold as threshold
use Rattle.tree_law.specs.commands.Write as write
use Rattle.num_text.proofs.laws.Limits.{below-lt}

-- a threshold that a text names is at most the bytes of one cache
pub threshold_in-le : (m : Parameters) (text : List ℕ) (n : ℕ) → threshold.threshold_in m text ≡ Some n → n ≤ cache_bytes m
unfolding threshold.threshold_in
threshold_in-le m text n is = (let lt = below-lt (cache_bytes m + 1) (dec_of (trim text)) n is in omega arith)

module _ (m : Parameters) (s : State) (dir : DirRef) (text : List ℕ) (writable : find (write.against s (File dir MaxThreshold)) write.reasons ≡ None) where
  -- what is against the command is against the text
  refusal-threshold : (number : Option ℕ) → threshold.threshold_in m text ≡ number → refusal m s (Write (File dir MaxThreshold) text) ≡ threshold.against_number number
  unfolding threshold.refusal
  refusal-threshold number is = refusal-write_text m s (File dir MaxThreshold) text writable ∙ ap threshold.against_number is

  -- a text that names none is refused
  pub refusal-bad : threshold.threshold_in m text ≡ None → refusal m s (Write (File dir MaxThreshold) text) ≡ Some (plain BadThreshold)
  refusal-bad is = refusal-threshold None is

  -- nothing is against one
  pub refusal-good : (n : ℕ) → threshold.threshold_in m text ≡ Some n → refusal m s (Write (File dir MaxThreshold) text) ≡ None
  refusal-good n is = refusal-threshold (Some n) is

  -- which is the threshold from then on
  pub accepted-threshold : (looks : List ℕ) (n : ℕ) → threshold.threshold_in m text ≡ Some n → accepted m s (Write (File dir MaxThreshold) text) looks ≡ record s { threshold = n }
  unfolding write.accepted threshold.accepted
  accepted-threshold looks n is = ap (threshold.with_threshold s) is

-- with another threshold of at most the bytes of one cache, the type keeps the rest
pub Keeps-threshold : {m : Parameters} {t : Tables} {s : State} {epoch : ℕ} (n : ℕ) (reply : Reply) → Keeps m t s epoch → n ≤ cache_bytes m → Keeps m (record t { rmids = record t.rmids { threshold = n } }) (record s { threshold = n; status = reply }) epoch
Keeps-threshold n reply keeps few = record {
  stands = record {
    groups = keeps.stands.groups;
    tasks = keeps.stands.tasks;
    cpus = keeps.stands.cpus;
    limbo = keeps.stands.limbo;
    threshold = refl;
    regions = keeps.stands.regions;
    locks = keeps.stands.locks;
    shareable = keeps.stands.shareable;
    taken = record { class_count = keeps.stands.taken.class_count; class_taken = keeps.stands.taken.class_taken; rmid_count = keeps.stands.taken.rmid_count; rmid_taken = keeps.stands.taken.rmid_taken };
    gids_left = keeps.stands.gids_left;
    locks_left = keeps.stands.locks_left;
  };
  sound = record { named = keeps.sound.named; numbered = keeps.sound.numbered; masks = keeps.sound.masks; regions = keeps.sound.regions; lines = keeps.sound.lines; threshold = few; tasks = keeps.sound.tasks; cpus = keeps.sound.cpus };
  few_tasks = keeps.few_tasks;
}

-- a refused write leaves the state, but for the last status
pub left-threshold : (s : State) (dir : DirRef) (text : List ℕ) (reply : Reply) → with_status (Write (File dir MaxThreshold) text) reply (left s (Write (File dir MaxThreshold) text)) ≡ record s { status = reply }
unfolding write.refused
left-threshold s dir text reply = refl

-- nothing follows a write
pub after_accepted-threshold : (m : Parameters) (s : State) (k : ℕ) (dir : DirRef) (text : List ℕ) → after_accepted m s k (Write (File dir MaxThreshold) text) ≡ []
unfolding write.after
after_accepted-threshold m s k dir text = refl

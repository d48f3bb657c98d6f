-- What an entry of a run with code and data prioritization says is what the state of its epoch gives.
use Rattle.std.proofs.Common.{◌≡◌, ℕ, ◌<◌, ◌≤◌, ◌==◌, length, get_or, Option, None, Some, inl, inr, refl, sym, subst}
use Rattle.std.specs.List.{All, range_with_len}
use Rattle.std.proofs.lemmas.Bool.{cases_Bool}
use Rattle.std.proofs.lemmas.List.Elements.{All-nil}
use Rattle.cache_core.specs.declared.entry.SliceEntry.{SliceEntry}
use Rattle.cache_core.specs.declared.entry.What.{What}
use Rattle.cache_core.specs.declared.entry.What.TheVariants as whats
use Rattle.lists.proofs.Pairs.{All-flat_map}
use Rattle.lists.proofs.Tests.{All-one}
use Rattle.machine.specs.Maps.{domain_of}
use Rattle.pair_law.specs.Epochs.{state_at}
use Rattle.pair_law.specs.State.{PairState, owner_of}
use Rattle.pair_text.specs.Values.{PairScriptValue, commands_of, op_at}
use Rattle.pair_text.specs.declared.op.PairOp.{PairOp}
use Rattle.pair_text.specs.declared.op.PairOp.TheVariants as ops
use Rattle.pair_text.specs.declared.side.Side.{Side}
use Rattle.pair_law.proofs.laws.Commands.{epoch_at-le, epoch_at-lt}
use Rattle.pair_law.proofs.Positions.{All-unmap}
use Rattle.run_law.proofs.laws.SoundHistories.{All-at}
use Rattle.pair_law.specs.CdpRuns.{CdpJournalsValue, IsCdpRun, asked, asked_at, asked_of_op, owner_on, register_mask, side_of}
use Rattle.pair_law.specs.Entries.{asked_by, slice_in}
use Rattle.run_law.specs.Journals.{At}
use Rattle.run_law.specs.Owed.{undecided}
use Rattle.rc_base.specs.declared.names.Gid.{Gid}

-- an access of a state: a side of a task's group, with its register's mask
pub record IsResolved (s : PairState) (domain : ℕ) (owner : Gid) (mask : ℕ) : Type 0 where
  pub task : ℕ
  pub side : Side
  pub owner_is : owner ≡ owner_on (owner_of s task) side
  pub mask_is : mask ≡ register_mask s side domain (owner_of s task)

-- an entry says what a state gives: it is an access that it gives, or a flush
abbrev pub IsGiven : PairState → ℕ → What → Type 0
IsGiven s domain (whats.Access hit way owner rmid mask line) = IsResolved s domain owner mask
IsGiven s domain whats.Flush = Unit {0}
IsGiven s domain what = ⊥

-- what the slice decides says nothing of it
undecided-given : (s : PairState) (domain : ℕ) (what : What) → IsGiven s domain (undecided what) → IsGiven s domain what
undecided-given s domain (whats.Access hit way owner rmid mask line) given = given
undecided-given s domain whats.Raise given = given
undecided-given s domain whats.Flush given = given
undecided-given s domain (whats.Lock mask first_line) given = given
undecided-given s domain (whats.Look rmid lines) given = given
undecided-given s domain (whats.Drop line at) given = given

-- of an epoch of the script, and what its state gives
pub record IsGivenEntry (script : PairScriptValue) (domain : ℕ) (e : SliceEntry) : Type 0 where
  pub known : e.epoch ≤ length (commands_of script)
  pub given : IsGiven (state_at script e.epoch) domain e.what

module _ (script : PairScriptValue) (domain : ℕ) where
  asked_of_op-given : (i : ℕ) (o : Option PairOp) → op_at script i ≡ o → All (IsGivenEntry script domain) (asked_of_op script domain i o)
  asked_of_op-given i (Some (ops.Use task cpu line code)) is = elim (cases_Bool (domain_of script.machines.machine cpu == domain)) [
    | inl e ↦ rw e (All-one (IsGivenEntry script domain) _ (record { known = epoch_at-le script i; given = record { task = task; side = side_of code; owner_is = refl; mask_is = refl } }))
    | inr e ↦ rw e (All-nil (IsGivenEntry script domain))
  ]
  asked_of_op-given i (Some ops.Flush) is = All-one (IsGivenEntry script domain) _ (record { known = epoch_at-lt script i ops.Flush is refl; given = tt })
  asked_of_op-given i (Some (ops.Mkdir name)) is = All-nil (IsGivenEntry script domain)
  asked_of_op-given i (Some (ops.Rmdir name)) is = All-nil (IsGivenEntry script domain)
  asked_of_op-given i (Some (ops.Write file text)) is = All-nil (IsGivenEntry script domain)
  asked_of_op-given i (Some (ops.Read file)) is = All-nil (IsGivenEntry script domain)
  asked_of_op-given i None is = All-nil (IsGivenEntry script domain)

  asked-given : All (IsGivenEntry script domain) (asked script domain)
  asked-given = All-flat_map (IsGivenEntry script domain) (asked_at script domain) (range_with_len 0 (length script.ops)) (λ k d lt. asked_of_op-given (get_or (range_with_len 0 (length script.ops)) k d) (op_at script (get_or (range_with_len 0 (length script.ops)) k d)) refl)

  -- each entry of a run
  pub IsCdpRun-given : (j : CdpJournalsValue) (p : ℕ) (e : SliceEntry) → IsCdpRun script j → domain < script.machines.machine.domains → At (slice_in j.slices domain) p e → IsGivenEntry script domain e
  IsCdpRun-given j p e run exists there =
      let all : All (λ (x : SliceEntry). IsGivenEntry script domain (asked_by x)) (slice_in j.slices domain) =
      All-unmap (IsGivenEntry script domain) asked_by (slice_in j.slices domain) (subst (All (IsGivenEntry script domain)) (sym (run.entries domain exists)) asked-given) in
      let one = All-at (λ (x : SliceEntry). IsGivenEntry script domain (asked_by x)) (slice_in j.slices domain) p e all there in
      record { known = one.known; given = undecided-given (state_at script e.epoch) domain e.what one.given }

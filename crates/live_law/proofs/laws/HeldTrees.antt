-- A thread whose command holds the tree.
use Rattle.std.proofs.Common.{◌≡◌, ℕ, ◌+◌, ◌-◌, ◌≤◌, true, inl, inr, List, [], ◌∷◌, ◌++◌, length, map, take, refl, sym, ap, ◌∙◌, arith}
use Rattle.std.specs.Prelude.{◌==◌, if◌then◌else◌}
use Rattle.std.proofs.lemmas.Bool.{cases_Bool}
use Rattle.std.proofs.lemmas.List.{map-append}
use Rattle.cache_core.specs.declared.entry.SliceEntry.{SliceEntry}
use Rattle.run_law.specs.Growth.{HasMade, PaysJob}
use Rattle.run_law.specs.Jobs.{Job, follows_of, in_slice, jobs_of, looks_of}
use Rattle.run_law.specs.Journals.{At, JournalsValue}
use Rattle.run_law.specs.Owed.{Owed, paid_by}
use Rattle.run_law.specs.Truth.{is_made_by}
use Rattle.run_law.proofs.laws.GrownLists.{Adds, made_one_more, only, with_slices}
use Rattle.run_law.proofs.laws.JobKinds.{follow_epoch, look_epoch}
use Rattle.run_law.proofs.laws.JobLists.{in_slice_more}
use Rattle.run_law.proofs.laws.Pairs.{both_eqb-same}
use Rattle.run_law.proofs.laws.Positions.{At-append}
use Rattle.script_ops.specs.Values.{ScriptValue}
use Rattle.script_ops.specs.declared.op.Op.{Op}
use Rattle.live_law.specs.SeenJournals.{SeesMore, made_in}
use Rattle.live_law.specs.Stages.{HoldsTree}
use Rattle.live_law.proofs.laws.AddedEntries.{HasGrown-adds}
use Rattle.live_law.proofs.laws.CommandEntries.{PassesKeepFrom-note}
use Rattle.live_law.proofs.laws.LaterViews.{PassesKeepFrom-more}
use Rattle.live_law.proofs.laws.MadeEntries.{AreMade-grown}
use Rattle.live_law.proofs.laws.SeenJournals.{HasGrown-more, made_in-more}

module _ (script : ScriptValue) (start : JournalsValue) (t n taken k : ℕ) (c : Op) (made : ℕ) (v : JournalsValue)
    (slices : List (List SliceEntry)) where
  -- when it has seen more of the slices
  pub HoldsTree-more : SeesMore t v (with_slices v slices) → k ≤ length v.tree
      → HoldsTree script start t n taken k c made v
      → HoldsTree script start t n taken k c made (with_slices v slices)
  HoldsTree-more more fits holds = record {
    is_op = holds.is_op;
    command = holds.command;
    keeps = PassesKeepFrom-more script start t n taken (n + 1) v (with_slices v slices) more holds.keeps;
    has = λ i within. ap (map paid_by) (made_in-more t n v (with_slices v slices) i more) ∙ holds.has i within;
    few = holds.few;
    others = AreMade-grown script v (with_slices v slices) k (HasGrown-more t v (with_slices v slices) more) fits holds.others;
  }

  -- what it has made, with the next entry
  HasMade-next : (job : Job) (e : SliceEntry) (i : ℕ)
      → Adds v slices job.slice e → At (jobs_of script v.tree k c) made job → PaysJob t n job e → HasMade script v i t n k c made
      → HasMade script (with_slices v slices) i t n k c (made + 1)
  HasMade-next job e i adds is_job pays had =
      let mine : is_made_by t n e ≡ true = both_eqb-same e.thread t e.op n pays.thread pays.op in
      let before : List Owed = in_slice i (take made (jobs_of script v.tree k c)) in
      let one : map paid_by (only job.slice e i) ≡ (if i == job.slice then job.owed ∷ [] else []) = elim (cases_Bool (i == job.slice)) [
        | inl here ↦ rw here (ap (λ (o : Owed). o ∷ []) pays.owed)
        | inr away ↦ rw away refl
      ] in
      ap (map paid_by) (made_one_more v slices job.slice e adds i t n mine)
      ∙ (map-append paid_by (made_in v i t n) (only job.slice e i)
      ∙ (ap (λ os. os ++ map paid_by (only job.slice e i)) had
      ∙ (ap (λ os. before ++ os) one ∙ sym (in_slice_more i (jobs_of script v.tree k c) made job is_job))))

  -- the epoch of a job is at least the position of its command
  epoch-job : (job : Job) → At (jobs_of script v.tree k c) made job → k ≤ job.owed.epoch
  epoch-job job at = elim (At-append (looks_of script v.tree k c) (follows_of script v.tree k c) made job at) [
    | inl front ↦ omega (arith, look_epoch script v.tree k c made job front)
    | inr back ↦ omega (arith, follow_epoch script v.tree k c (made - length (looks_of script v.tree k c)) job back.1)
  ]

  -- when it has made the next entry
  pub HoldsTree-note : (job : Job) (e : SliceEntry)
      → Adds v slices job.slice e → At (jobs_of script v.tree k c) made job → PaysJob t n job e → length start.tree ≤ k → k ≤ length v.tree
      → HoldsTree script start t n taken k c made v
      → HoldsTree script start t n taken k c (made + 1) (with_slices v slices)
  HoldsTree-note job e adds is_job pays late fits holds = record {
    is_op = holds.is_op;
    command = holds.command;
    keeps = PassesKeepFrom-note script start t n taken c v slices job.slice e adds pays.thread pays.op holds.is_op holds.command
        (omega (arith, late, epoch-job job is_job, ap (λ (o : Owed). o.epoch) pays.owed)) holds.keeps;
    has = λ i within. HasMade-next job e i adds is_job pays (holds.has i within);
    few = holds.few;
    others = AreMade-grown script v (with_slices v slices) k (HasGrown-adds v slices job.slice e adds) fits holds.others;
  }

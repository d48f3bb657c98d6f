-- A command that holds the tree makes an entry, which is true.
use Rattle.std.proofs.Common.{◌≡◌, ℕ, ◌+◌, ◌<◌, ◌≤◌, true, false, inl, inr, List, [], ◌∷◌, ◌++◌, length, filter, map, take, Option, Some, None, refl, sym, ap, ◌∙◌, subst, arith}
use Rattle.std.specs.Prelude.{◌==◌, if◌then◌else◌, Contains, IsSome, IsTrue}
use Rattle.std.proofs.lemmas.Bool.{cases_Bool}
use Rattle.std.proofs.lemmas.List.{map-append}
use Rattle.cache_core.specs.declared.entry.SliceEntry.{SliceEntry}
use Rattle.rc_base.specs.declared.names.Tag.{Tag}
use Rattle.run_law.specs.Ops.{is_command, phase_in}
use Rattle.run_law.specs.Truth.{AreTrue, IsOwed, is_made_by, is_taken_from}
use Rattle.run_law.proofs.laws.Truth.{AreTrue-each, IsTrueTo, IsTrueTo-at}
use Rattle.run_law.specs.Journals.{At, JournalsValue, slice_at}
use Rattle.run_law.specs.Owed.{owed_by_access, owed_by_command, paid_by}
use Rattle.run_law.specs.TreeHistory.{TreeEntryValue}
use Rattle.script_ops.specs.Values.{ScriptValue, op_at}
use Rattle.script_ops.specs.declared.op.Op.{Op}
use Rattle.run_law.proofs.laws.LaterEntries.{behind_entry, holder_comes_late}
use Rattle.run_law.proofs.laws.OpKinds.{of_command}
use Rattle.run_law.proofs.laws.JobLists.{in_slice_more, job_owed, owed_are}
use Rattle.run_law.proofs.laws.JobKinds.{job_epoch}
use Rattle.run_law.proofs.laws.MovedThreads.{moved-held, moved-own, moved-holds}
use Rattle.run_law.proofs.laws.Pairs.{both_eqb-true, both_eqb-same}
use Rattle.run_law.proofs.laws.GrownLists.{Adds, made_one_more, only, stood, with_slices}
use Rattle.run_law.specs.Jobs.{Job, in_slice, jobs_of}
use Rattle.run_law.specs.Growth.{PaysJob, AreOfBegun, HasMade, IsAlone, IsFree}
use Rattle.run_law.specs.Progress.{HasBegun, IsUnderWay, Progress, moved}

-- a thread's progress while its command holds the tree
abbrev pub holding : ℕ → ℕ → Progress
holding n made = record { next = n; made = Some made; tag = None }

-- What is known when the command at position k makes a job's entry.
pub record IsNoted (script : ScriptValue) (j : JournalsValue) (at : ℕ → Progress) (phase t n made k : ℕ) (c : Op) (job : Job) (e : SliceEntry) (slices : List (List SliceEntry)) : Type 0 where
  pub some : 0 < script.machine.slices
  pub here : phase_in script.phases t ≡ phase
  pub place : at t ≡ holding n made
  pub is_op : op_at script t n ≡ Some c
  pub last : k + 1 ≡ length j.tree
  pub is_job : At (jobs_of script j.tree k c) made job
  pub pays : PaysJob t n job e
  pub adds : Adds j slices job.slice e

-- a value that is there
pub some_is : (o : Option ℕ) (x : ℕ) → o ≡ Some x → IsSome o
some_is o x is = subst (λ y. IsSome y) (sym is) refl

-- there is no tag
pub none_tag : (o : Option Tag) (tag : Tag) → o ≡ None → o ≡ Some tag → ⊥
none_tag None tag a b = absurd cc
none_tag (Some x) tag a b = absurd cc

pub same_made : (o : Option ℕ) (a b : ℕ) → o ≡ Some a → o ≡ Some b → b ≡ a
same_made o a b h k = cc

-- an op by its number is one op
pub one_op : (script : ScriptValue) (t n : ℕ) (c d : Op) → op_at script t n ≡ Some c → op_at script t n ≡ Some d → c ≡ d
one_op script t n c d h k = cc

-- the tree is held as before
pub note_alone : (j : JournalsValue) (at : ℕ → Progress) (slices : List (List SliceEntry)) (t n made : ℕ) → at t ≡ holding n made → IsAlone j at → IsAlone (with_slices j slices) (moved at t (holding n (made + 1)))
note_alone j at slices t n made place alone =
    let p : Progress = holding n (made + 1) in
    let holds : IsSome (at t).made = subst (λ (x : Progress). IsSome x.made) (sym place) refl in
    let back : (u : ℕ) → IsSome (moved at t p u).made → IsSome (at u).made = λ u h. moved-held (λ u x. IsSome x.made) at t p (λ _. holds) u h in
    record {
      one = λ u v a b. alone.one u v (back u a) (back v b);
      some = λ u a. alone.some u (back u a);
      there = λ u k a last.
          moved-holds (λ u x. (h : TreeEntryValue) × At j.tree k h × IsTrue (is_taken_from u x.next h)) at t p
          (λ had. subst (λ (x : Progress). (h : TreeEntryValue) × At j.tree k h × IsTrue (is_taken_from t x.next h)) place had) u (alone.there u k (back u a) last);
      last = λ u k h a there taken. alone.last u k h (back u a) there
          (moved-held (λ u x. IsTrue (is_taken_from u x.next h)) at t p (λ mine. subst (λ (x : Progress). IsTrue (is_taken_from t x.next h)) (sym place) mine) u taken);
    }

-- entries are of ops that have begun
pub note_begun : (script : ScriptValue) (j : JournalsValue) (at : ℕ → Progress) (phase t n made k : ℕ) (c : Op) (job : Job) (e : SliceEntry) (slices : List (List SliceEntry))
    → IsNoted script j at phase t n made k c job e slices → AreOfBegun j at → AreOfBegun (with_slices j slices) (moved at t (holding n (made + 1)))
note_begun script j at phase t n made k c job e slices note begun =
    let p : Progress = holding n (made + 1) in
    let go : (o : ℕ) → HasBegun (at t) o → HasBegun p o = λ o h. (let it : HasBegun (holding n made) o = subst (λ x. HasBegun x o) note.place h in elim it [ inl less ↦ inl less | inr under ↦ inr (under.0, refl) ]) in
    let keep : (u o : ℕ) → HasBegun (at u) o → HasBegun (moved at t p u) o = λ u o h. moved-holds (λ u x. HasBegun x o) at t p (go o) u h in
    let holds : IsSome (at t).made = subst (λ (x : Progress). IsSome x.made) (sym note.place) refl in
    let under : (u o : ℕ) → IsUnderWay (at u) o → IsUnderWay (moved at t p u) o = λ u o h.
    moved-holds (λ u x. IsUnderWay x o) at t p (λ had. (let it : IsUnderWay (holding n made) o = subst (λ x. IsUnderWay x o) note.place had in (it.0, refl))) u h in
    let free : (epoch : ℕ) → IsFree at j.tree epoch → IsFree (moved at t p) j.tree epoch = λ epoch f. record {
      within = f.within;
      before = λ u h. f.before u (moved-held (λ u x. IsSome x.made) at t p (λ _. holds) u h);
    } in
    let mine : IsUnderWay (moved at t p e.thread) e.op =
    subst (λ u. IsUnderWay (moved at t p u) e.op) (sym note.pays.thread) (subst (λ x. IsUnderWay x e.op) (sym (moved-own at t p)) (note.pays.op, refl)) in
    record {
      commands = λ q h there. keep h.thread h.op (begun.commands q h there);
      entries = λ i q x there. elim (stood j slices job.slice e note.adds i q x there) [
        | inl old ↦ keep x.thread x.op (begun.entries i q x old)
        | inr new ↦ subst (λ (y : SliceEntry). HasBegun (moved at t p y.thread) y.op) (sym new.2) (inr mine)
      ];
      epochs = λ i q x there. elim (stood j slices job.slice e note.adds i q x there) [
        | inl old ↦ begun.epochs i q x old
        | inr new ↦
            let epoch : x.epoch ≡ job.owed.epoch = ap (λ (y : SliceEntry). y.epoch) new.2 ∙ ap (λ o. o.epoch) note.pays.owed in
            omega (arith, epoch, job_epoch script j.tree k c made job note.is_job, note.last)
      ];
      others = λ i q x there apart. elim (stood j slices job.slice e note.adds i q x there) [
        | inl old ↦ free x.epoch (begun.others i q x old (λ h. apart (under x.thread x.op h)))
        | inr new ↦ absurd (apart (subst (λ (y : SliceEntry). IsUnderWay (moved at t p y.thread) y.op) (sym new.2) mine))
      ];
    }

-- the entry is one that its command owes
pub note_owed : (script : ScriptValue) (j : JournalsValue) (at : ℕ → Progress) (phase t n made k : ℕ) (c : Op) (job : Job) (e : SliceEntry) (slices : List (List SliceEntry))
    → IsNoted script j at phase t n made k c job e slices → IsAlone j at → IsOwed script j.tree job.slice e c
note_owed script j at phase t n made k c job e slices note alone =
    let holds : IsSome (at t).made = subst (λ (x : Progress). IsSome x.made) (sym note.place) refl in
    let (h, there, taken) = alone.there t k holds note.last in
    let is = both_eqb-true h.thread t h.op (at t).next taken in
    let number : (at t).next ≡ n = ap (λ (x : Progress). x.next) note.place in
    let owed : Contains (in_slice job.slice (jobs_of script j.tree k c)) job.owed = job_owed (jobs_of script j.tree k c) made job note.is_job in
    record {
      position = k;
      command = h;
      there = there;
      same_thread = is.0 ∙ sym note.pays.thread;
      same_op = is.1 ∙ (number ∙ sym note.pays.op);
      owed = subst (λ o. Contains (owed_by_command script j.tree job.slice k c) o) (sym note.pays.owed) (subst (λ os. Contains os job.owed) (owed_are script j.tree job.slice k c note.some) owed);
    }

-- entries stay true
pub note_true : (script : ScriptValue) (j : JournalsValue) (at : ℕ → Progress) (phase t n made k : ℕ) (c : Op) (job : Job) (e : SliceEntry) (slices : List (List SliceEntry))
    → IsNoted script j at phase t n made k c job e slices → IsTrue (is_command c) → IsAlone j at → AreOfBegun j at → AreTrue script j → AreTrue script (with_slices j slices)
note_true script j at phase t n made k c job e slices note command alone begun are =
    let holds : IsSome (at t).made = subst (λ (x : Progress). IsSome x.made) (sym note.place) refl in
    let number : (at t).next ≡ n = ap (λ (x : Progress). x.next) note.place in
    let is_op : op_at script e.thread e.op ≡ Some c = rw (note.pays.thread, note.pays.op) note.is_op in
    let owed : IsTrueTo script j.tree job.slice e (Some c) = of_command
    (λ task cpu addr. (e.epoch ≤ length j.tree) × (paid_by e ≡ owed_by_access script j.tree e.epoch task cpu addr))
    (IsOwed script j.tree job.slice e c) c command (note_owed script j at phase t n made k c job e slices note alone) in
    let own : IsTrueTo script j.tree job.slice e (op_at script e.thread e.op) = subst (λ o. IsTrueTo script j.tree job.slice e o) (sym is_op) owed in
    AreTrue-each script (with_slices j slices)
    (λ i p x there. elim (stood j slices job.slice e note.adds i p x there) [
      | inl old ↦ IsTrueTo-at script j are i p x old
      | inr new ↦ subst (λ (y : SliceEntry). IsTrueTo script j.tree i y (op_at script y.thread y.op)) (sym new.2) (subst (λ q. IsTrueTo script j.tree q e (op_at script e.thread e.op)) (sym new.0) own)
    ])
    (behind_entry j slices job.slice e note.adds (holder_comes_late j at t e alone begun holds note.pays.thread (note.pays.op ∙ sym number)) are.after_commands)

-- what it has made now
pub note_made : (script : ScriptValue) (j : JournalsValue) (at : ℕ → Progress) (phase t n made k : ℕ) (c : Op) (job : Job) (e : SliceEntry) (slices : List (List SliceEntry)) (i : ℕ)
    → IsNoted script j at phase t n made k c job e slices → HasMade script j i t n k c made → HasMade script (with_slices j slices) i t n k c (made + 1)
note_made script j at phase t n made k c job e slices i note had =
    let mine : is_made_by t n e ≡ true = both_eqb-same e.thread t e.op n note.pays.thread note.pays.op in
    let one : map paid_by (only job.slice e i) ≡ (if i == job.slice then job.owed ∷ [] else []) = elim (cases_Bool (i == job.slice)) [
      | inl here ↦ rw here (ap (λ o. o ∷ []) note.pays.owed)
      | inr away ↦ rw away refl
    ] in
    ap (map paid_by) (made_one_more j slices job.slice e note.adds i t n mine)
    ∙ (map-append paid_by (filter (is_made_by t n) (slice_at j i)) (only job.slice e i)
    ∙ (ap (λ os. os ++ map paid_by (only job.slice e i)) had
    ∙ (ap (λ os. in_slice i (take made (jobs_of script j.tree k c)) ++ os) one ∙ sym (in_slice_more i (jobs_of script j.tree k c) made job note.is_job))))

-- another op than the holder's has made what it had made
pub other_op : (u t o n : ℕ) (e : SliceEntry) → e.thread ≡ t → e.op ≡ n → ((u ≡ t) × (o ≡ n) → ⊥) → is_made_by u o e ≡ false
other_op u t o n e thread number apart = elim (cases_Bool (is_made_by u o e)) [
  | inl mine ↦ absurd (let is = both_eqb-true e.thread u e.op o mine in apart (sym is.0 ∙ thread, sym is.1 ∙ number))
  | inr other ↦ other
]

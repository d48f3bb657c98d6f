-- The follow-ups of a command, one by one.
use Rattle.std.proofs.Common.{◌≡◌, ℕ, ◌+◌, ◌-◌, ◌<◌, inl, inr, true, Bool, List, length, get_or, take, sum_by, refl, sym, ap, ap₂, ◌∙◌, subst, arith}
use Rattle.std.specs.List.{flat_map}
use Rattle.std.specs.Prelude.{◌==◌, ◌&&◌, nat_lt, not}
use Rattle.std.proofs.lemmas.Bool.{and_from, and_left, and_right, cases_lt, eq-eqb, le-ltb, lt-ltb, ne_eqb}
use Rattle.std.proofs.lemmas.List.Sums.{sum_by_more, sum_by_more_le}
use Rattle.std.proofs.lemmas.Option.{slice_get_within}
use Rattle.atomic_table.specs.Seated.{TableId}
use Rattle.std.proofs.Math.Seq.{take-length}
use Rattle.std.proofs.lemmas.List.{length-append}
use Rattle.cache_core.specs.Stands.{entry}
use Rattle.cache_core.specs.declared.entry.SliceEntry.{SliceEntry}
use Rattle.step_world.specs.Needs.{CanFollow}
use Rattle.live_law.specs.Cells.{AreMade}
use Rattle.live_law.proofs.laws.FollowStages.{IsFollowing-follow}
use Rattle.live_law.proofs.laws.OwnRoom.{job-room}
use Rattle.live_law.proofs.laws.SliceCells.{At-same}
use Rattle.live_law.specs.DoneOps.{AreEnded}
use Rattle.live_law.specs.SeenJournals.{AddsEntry}
use Rattle.live_law.specs.Stages.{IsFollowing}
use Rattle.live_run.proofs.HeldTrees.{following-follow, following-more}
use Rattle.live_run.proofs.Trees.{lists_of}
use Rattle.live_run.specs.Sharing.{HasFollowedOn, IsNextFollow, following}
use Rattle.live_run.specs.Names.{SeenValue, history_of, seen_by}
use Rattle.live_run.specs.Commands.{FollowsAt}
use Rattle.live_run.specs.Steps.{HasAdded, HasFollowed}
use Rattle.live_run.specs.Visits.{MayFollow}
use Rattle.machine.specs.Slices.{slice_count}
use Rattle.run_law.specs.Growth.{PaysJob}
use Rattle.run_law.specs.Jobs.{Job, follow_jobs, follows_of, jobs_of, looks_of}
use Rattle.run_law.specs.Journals.{At, JournalsValue}
use Rattle.run_law.specs.Owed.{Owed, what_of}
use Rattle.run_law.specs.Slices.{shape_in}
use Rattle.run_law.specs.TreeHistory.{TreeEntryValue, tree_after}
use Rattle.run_law.proofs.laws.Pairs.{both_eqb-true}
use Rattle.run_law.specs.declared.journals.TreeEntry.{TreeEntry}
use Rattle.schedule_law.specs.LiveParts.{after}
use Rattle.schedule_law.specs.declared.part.Happening.TheVariants as happenings
use Rattle.schedule_law.specs.declared.part.Part.{Part}
use Rattle.script_ops.specs.Values.{ScriptValue}
use Rattle.script_ops.specs.declared.op.Op.{Op}
use Rattle.seen_journal.specs.Journals.{JournalName, JournalValue}
use Rattle.seen_journal.specs.Passes.{PassValue}
use Rattle.run_law.proofs.laws.FollowCounts.{follow-at, follow_job, follows-are, job_behind, length-follows}
use Rattle.run_law.specs.Targets.{slice_for, slices_for}
use Rattle.seen_journal.specs.Entries.{list_of}
use Rattle.shared_parts.specs.Parts.{parts_after}
use Rattle.shared_parts.specs.Shares.{ShareValue}
use Rattle.tree_law.specs.Steps.{after as after_command}
use Rattle.tree_law.specs.declared.follow.Follow.{Follow}

module _ (script : ScriptValue) (table : TableId) (tree : JournalName) (n k made : ℕ) (c : Op) (s : SeenValue) (worker : ShareValue Part) (at : FollowsAt script table n k c made s worker) (job : Job) (is_job : At (jobs_of script (history_of s.tree.seen) k c) made job) (within : job.slice < slice_count script.machine) where
  -- the thread may go there
  pub may_follow : (epoch : ℕ) (f : Follow) (history : JournalValue TreeEntry) → history.name ≡ tree → s.tree.seen ≡ history.entries → epoch ≡ k + 1 → CanFollow (shape_in script.machine job.slice) script.machine.rmids f
      → MayFollow script tree job.slice n epoch f history s
  may_follow epoch f history name whole is_epoch can =
      let before : epoch - 1 ≡ k = omega (arith, is_epoch) in
      record {
        name = name;
        whole = whole;
        is_epoch = omega (arith, is_epoch, at.last, ap length whole);
        some = omega (arith, is_epoch);
        last = λ q h position there.
            let here : k ≡ q = omega (arith, position, at.last, ap length whole) in
            let mine : At (history_of s.tree.seen) k h = subst (λ xs. At (history_of xs) k h) (sym whole) (subst (λ r. At (history_of history.entries) r h) (sym here) there) in
            let same : at.h ≡ h = At-same (history_of s.tree.seen) k at.h h at.is.there mine in
            let is = both_eqb-true at.h.thread s.thread at.h.op n at.is.is in
            (ap (λ (y : TreeEntryValue). y.thread) (sym same) ∙ is.0, ap (λ (y : TreeEntryValue). y.op) (sym same) ∙ is.1);
        known = rw at.is.holds.is_op refl;
        made = subst (λ q. AreMade script (seen_by s) q) (sym before) at.is.holds.others;
        can = can;
        room = job-room script at.start s.thread n (n + 1) k c made (seen_by s) at.is.holds job within is_job;
      }

  -- by the parts at hand too
  pub next_follow : (epoch : ℕ) (f : Follow) (last : Bool) (history : JournalValue TreeEntry) → s.tree.seen ≡ history.entries → epoch ≡ k + 1 → job.owed ≡ (record { epoch = k + 1; what = what_of f }) → last ≡ not (nat_lt (made + 1) (length (jobs_of script (history_of s.tree.seen) k c)))
      → IsNextFollow script table job.slice n epoch f last history s worker
  next_follow epoch f last history whole is_epoch owed ends =
      let jobs = jobs_of script (history_of s.tree.seen) k c in
      let more : nat_lt made (length jobs) ≡ true = lt-ltb made (length jobs) (slice_get_within jobs made job is_job) in
      let owed_now : job.owed ≡ (record { epoch = epoch; what = what_of f }) = owed ∙ ap (λ x. record { epoch = x; what = what_of f }) (sym is_epoch) in
      subst (λ es. IsNextFollow script table job.slice n epoch f last (record { name = history.name; entries = es }) s worker) whole
      (record {
        op = c;
        made = made;
        position = k;
        found = at.found;
        given = at.given;
        share = record {
          table_is = at.share_is.table_is;
          words = at.share_is.words;
          parts_are = at.share_is.parts_are ∙ following-more (list_of s.tree.seen) s.thread n made (length jobs) at.found at.given more;
        };
        is = at.is.holds.is_op;
        decided = is_epoch;
        next = subst (λ (o : Owed). At jobs made (record { slice = job.slice; owed = o })) owed_now is_job;
        ends = ends;
      })

  -- and has followed
  pub has_followed : (epoch : ℕ) (f : Follow) (last : Bool) (new : SeenValue) (worker_now : ShareValue Part) → epoch ≡ k + 1 → job.owed ≡ (record { epoch = k + 1; what = what_of f }) → HasFollowed job.slice n epoch f s new → new.tree ≡ s.tree
      → last ≡ not (nat_lt (made + 1) (length (jobs_of script (history_of s.tree.seen) k c))) → HasFollowedOn last worker worker_now → FollowsAt script table n k c (made + 1) new worker_now
  has_followed epoch f last new worker_now is_epoch owed followed same ends stepped =
      let e : SliceEntry = entry s.thread n epoch followed.what in
      let added : HasAdded job.slice e s new = followed.added in
      let seen : seen_by new ≡ (record { tree = history_of s.tree.seen; slices = lists_of new.slices }) = ap (λ (p : PassValue TreeEntry). record { tree = history_of p.seen; slices = lists_of new.slices }) same in
      let pays : PaysJob s.thread n job e = record { thread = refl; op = refl; owed = ap₂ (λ x w. record { epoch = x; what = w }) is_epoch followed.owed ∙ sym owed } in
      let is : IsFollowing script at.start s.thread n k c at.h (made + 1) (record { tree = history_of s.tree.seen; slices = lists_of new.slices }) =
      IsFollowing-follow script at.start s.thread n k c at.h made (seen_by s) (lists_of new.slices) job e is_job pays (subst (λ (v : JournalsValue). AddsEntry s.thread job.slice e (seen_by s) v) seen added.adds) at.is in
      record {
        start = at.start;
        ended = subst (λ t. AreEnded script at.start t) (sym added.thread) at.ended;
        h = at.h;
        is = subst (λ (v : JournalsValue). IsFollowing script at.start new.thread n k c at.h (made + 1) v) (sym seen)
            (subst (λ t. IsFollowing script at.start t n k c at.h (made + 1) (record { tree = history_of s.tree.seen; slices = lists_of new.slices })) (sym added.thread) is);
        last = at.last ∙ ap (λ (p : PassValue TreeEntry). length p.seen) (sym same);
        found = at.found;
        given = at.given;
        share_is = record {
          table_is = stepped.1.0 ∙ at.share_is.table_is;
          words = at.share_is.words;
          parts_are =
              stepped.1.1
              ∙ (ap (parts_after after (happenings.Follow stepped.0 last)) (at.share_is.parts_are ∙ following-more (list_of s.tree.seen) s.thread n made (length (jobs_of script (history_of s.tree.seen) k c)) at.found at.given more)
              ∙ (following-follow (list_of s.tree.seen) stepped.0 s.thread n made (length (jobs_of script (history_of s.tree.seen) k c)) at.found at.given last ends
              ∙ ap₂ (λ (p : PassValue TreeEntry) t. following (list_of p.seen) t n (made + 1) (length (jobs_of script (history_of p.seen) k c)) at.found at.given) (sym same) (sym added.thread)));
        };
      }
    where
      more : nat_lt made (length (jobs_of script (history_of s.tree.seen) k c)) ≡ true
      more = lt-ltb made (length (jobs_of script (history_of s.tree.seen) k c)) (slice_get_within (jobs_of script (history_of s.tree.seen) k c) made job is_job)

-- ---- the loops

module _ (script : ScriptValue) (tree : List TreeEntryValue) (k : ℕ) (c : Op) (fs : List Follow) (follows : fs ≡ after_command script.machine (tree_after script (take k tree)) k c) where
  abbrev pub made_before : ℕ → ℕ
  made_before q = length (looks_of script tree k c) + sum_by (slices_for script.machine) (take q fs)

  -- the x-th entry of the q-th follow-up is this job
  pub job_at : (q x : ℕ) (f : Follow) → At fs q f → x < slices_for script.machine f → At (jobs_of script tree k c) (made_before q + x) (record { slice = slice_for script.machine f x; owed = record { epoch = k + 1; what = what_of f } })
  job_at q x f there below =
      let position : length (looks_of script tree k c) + (sum_by (slices_for script.machine) (take q fs) + x) ≡ made_before q + x = omega arith in
      let its : At (follows_of script tree k c) (sum_by (slices_for script.machine) (take q fs) + x) (follow_job script.machine (k + 1) f x) =
      subst (λ js. At js (sum_by (slices_for script.machine) (take q fs) + x) (follow_job script.machine (k + 1) f x)) (ap (flat_map (follow_jobs script.machine (k + 1))) follows ∙ sym (follows-are script tree k c)) (follow-at script.machine (k + 1) fs q x f there below) in
      subst (λ r. At (jobs_of script tree k c) r (follow_job script.machine (k + 1) f x)) position (job_behind (looks_of script tree k c) (follows_of script tree k c) (sum_by (slices_for script.machine) (take q fs) + x) (follow_job script.machine (k + 1) f x) its)

  -- after the last all are made
  pub made_all : made_before (length fs) ≡ length (jobs_of script tree k c)
  made_all =
      let all : sum_by (slices_for script.machine) (take (length fs) fs) ≡ sum_by (slices_for script.machine) fs = ap (sum_by (slices_for script.machine)) (take-length fs) in
      let many : length (follows_of script tree k c) ≡ sum_by (slices_for script.machine) fs = ap length (follows-are script tree k c ∙ ap (flat_map (follow_jobs script.machine (k + 1))) (sym follows)) ∙ length-follows script.machine (k + 1) fs in
      omega (arith, all, many, length-append (looks_of script tree k c) (follows_of script tree k c))

  -- whether an entry is the last that the command owes
  pub last_made : (q x : ℕ) (d : Follow) → q < length fs → x < slices_for script.machine (get_or fs q d) → ((g : Follow) → 0 < slices_for script.machine g)
      → ((q + 1 == length fs) && (x + 1 == slices_for script.machine (get_or fs q d))) ≡ not (nat_lt (made_before q + x + 1) (length (jobs_of script tree k c)))
  last_made q x d there below some =
      let m = script.machine in
      let n : ℕ = slices_for m (get_or fs q d) in
      let all : ℕ = length (jobs_of script tree k c) in
      let one : sum_by (slices_for m) (take (q + 1) fs) ≡ sum_by (slices_for m) (take q fs) + n = sum_by_more (slices_for m) fs q d there in
      let many : all ≡ length (looks_of script tree k c) + sum_by (slices_for m) fs = sym made_all ∙ ap (λ xs. length (looks_of script tree k c) + sum_by (slices_for m) xs) (take-length fs) in
      elim (cases_lt (q + 1) (length fs)) [
        | inl within ↦
            let next = sum_by_more_le (slices_for m) fs (q + 1) d within in
            let left = some (get_or fs (q + 1) d) in
            and_left (q + 1 == length fs) (x + 1 == n) (ne_eqb (q + 1) (length fs) (λ is. omega (arith, is, within))) ∙ ap not (sym (lt-ltb (made_before q + x + 1) all (omega (arith, one, next, left, below, many))))
        | inr past ↦
            let end : q + 1 ≡ length fs = omega (arith, past, there) in
            let whole : made_before (q + 1) ≡ all = ap made_before end ∙ made_all in
            elim (cases_lt (x + 1) n) [
              | inl more ↦ and_right (q + 1 == length fs) (x + 1 == n) (ne_eqb (x + 1) n (λ is. omega (arith, is, more))) ∙ ap not (sym (lt-ltb (made_before q + x + 1) all (omega (arith, one, whole, more))))
              | inr last ↦
                  let is : x + 1 ≡ n = omega (arith, last, below) in
                  and_from (q + 1 == length fs) (x + 1 == n) (eq-eqb (q + 1) (length fs) end) (eq-eqb (x + 1) n is) ∙ ap not (sym (le-ltb (made_before q + x + 1) all (omega (arith, one, whole, is))))
            ]
      ]

use Rattle.std.proofs.Common.{◌≡◌, ℕ, ◌+◌, ◌-◌, ◌<◌, ◌∙◌, Bool, List, length, get_or, take, sum_by, ap, sym, refl, subst, arith}
use Rattle.std.specs.Prelude.{◌==◌, ◌&&◌, ◌≢◌, nat_lt, not}
use Rattle.std.proofs.lemmas.Bool.{and_left, eq-eqb, ne_eqb}
use Rattle.std.proofs.lemmas.List.Sums.{sum_by_more}
use Rattle.std.proofs.lemmas.Option.{slice_get-get_or}
use Rattle.step_world.proofs.laws.FollowNeeds.{CanFollow-ready}
use Rattle.live_law.proofs.laws.SeenJournals.{HasGrown-self, HasGrown-through}
use Rattle.live_run.proofs.Growth.{HasGrown-added}
use Rattle.live_run.proofs.Followed.{has_followed, job_at, last_made, made_all, may_follow, next_follow}
use Rattle.live_run.proofs.command.follow_all.Goals as goal
use Rattle.live_run.proofs.command.follow_all.Goals.{After-slice_for-i, else-q-all, then-q-all}
use Rattle.live_run.proofs.command.follow_all.Given.{Over}
use Rattle.live_run.specs.Names.{SeenValue, history_of, seen_by}
use Rattle.live_run.specs.Commands.{FollowsAt}
use Rattle.live_run.specs.Sharing.{IsNextFollow}
use Rattle.live_run.specs.Steps.{HasFollowed}
use Rattle.live_run.specs.Visits.{MayFollow}
use Rattle.machine.specs.Slices.{slice_count}
use Rattle.machine.specs.declared.parameters.Parameters.{Parameters}
use Rattle.run_law.specs.Jobs.{Job, jobs_of, looks_of}
use Rattle.run_law.specs.Journals.{At}
use Rattle.run_law.specs.Owed.{what_of}
use Rattle.run_law.specs.declared.journals.TreeEntry.{TreeEntry}
use Rattle.script_ops.specs.Values.{ScriptValue}
use Rattle.seen_journal.specs.Journals.{JournalValue}
use Rattle.seen_journal.specs.Passes.{PassValue}
use Rattle.run_law.proofs.laws.FollowCounts.{some-slices}
use Rattle.run_law.specs.Targets.{slice_for, slices_for}
use Rattle.tree_core.specs.Follows.{IsReady}
use Rattle.tree_law.specs.declared.follow.Follow.{Follow}
use Rattle.tree_law.specs.declared.follow.Follow.TheVariants.{Raise}

-- the flag, where the follow-up is the last one and where it is not
last_then : (a b : ℕ) (d last : Bool) → a ≡ b → last ≡ d → last ≡ ((a == b) && d)
last_then a b d last same is = is ∙ ap (λ (e : Bool). e && d) (sym (eq-eqb a b same))

last_else : (a b : ℕ) (d last : Bool) → a ≢ b → last ≡ (a == b) → last ≡ ((a == b) && d)
last_else a b d last apart is = is ∙ (ne_eqb a b apart ∙ sym (and_left (a == b) d (ne_eqb a b apart)))

-- What is known at each follow-up.
record AtFollow (g : Over) (c : After-slice_for-i g) : Type 0 where
  follow : Follow
  is : follow ≡ get_or c.args.all.now c.loop-q.q (Raise 0)
  number : c.slice_for-i.result ≡ slice_for g.N.RunNames.script.machine follow c.loop-x.x
  within : slice_for g.N.RunNames.script.machine follow c.loop-x.x < slice_count g.N.RunNames.script.machine
  epoch : c.args.turn.now.epoch ≡ c.args.turn.now.epoch - 1 + 1
  job : At (jobs_of g.N.RunNames.script (history_of c.loop-x.side.seen.tree.seen) (c.args.turn.now.epoch - 1) c.args.turn.now.op.now)
      (length (looks_of g.N.RunNames.script (history_of c.args.side.now.seen.tree.seen) (c.args.turn.now.epoch - 1) c.args.turn.now.op.now) + sum_by (slices_for g.N.RunNames.script.machine) (take c.loop-q.q c.args.all.now) + c.loop-x.x)
      (record { slice = slice_for g.N.RunNames.script.machine follow c.loop-x.x; owed = record { epoch = c.args.turn.now.epoch - 1 + 1; what = what_of follow } })
  ends : ((c.loop-q.q + 1 == length c.args.all.now) && (c.loop-x.x + 1 == c.slices_for-count.result))
      ≡ not (nat_lt (length (looks_of g.N.RunNames.script (history_of c.args.side.now.seen.tree.seen) (c.args.turn.now.epoch - 1) c.args.turn.now.op.now) + sum_by (slices_for g.N.RunNames.script.machine) (take c.loop-q.q c.args.all.now) + c.loop-x.x + 1)
      (length (jobs_of g.N.RunNames.script (history_of c.loop-x.side.seen.tree.seen) (c.args.turn.now.epoch - 1) c.args.turn.now.op.now)))

at_follow : (g : Over) (c : After-slice_for-i g) → AtFollow g c
at_follow g c =
    let script = g.N.RunNames.script in
    let machine = c.machine-m.ensures ∙ ap (λ (x : ScriptValue). x.machine) c.requires.script in
    let q : ℕ = c.loop-q.q in
    let x : ℕ = c.loop-x.x in
    let fs : List Follow = c.args.all.now in
    let f : Follow = get_or fs q (Raise 0) in
    let k : ℕ = c.args.turn.now.epoch - 1 in
    let below : x < slices_for script.machine f = omega (arith, c.loop-x-test.true, c.slices_for-count.ensures, ap (λ (m : Parameters). slices_for m f) machine) in
    let number : c.slice_for-i.result ≡ slice_for script.machine f x = c.slice_for-i.ensures.number ∙ ap (λ (m : Parameters). slice_for m f x) machine in
    let its = job_at script (history_of c.args.side.now.seen.tree.seen) k c.args.turn.now.op.now fs c.requires.follows q x f (slice_get-get_or fs q (Raise 0) c.loop-q-test.true) below in
    let made : ℕ = length (looks_of script (history_of c.args.side.now.seen.tree.seen) k c.args.turn.now.op.now) + sum_by (slices_for script.machine) (take q fs) + x in
    let count : slices_for script.machine f ≡ c.slices_for-count.result = omega (arith, c.slices_for-count.ensures, ap (λ (m : Parameters). slices_for m f) machine) in
    let last = last_made script (history_of c.args.side.now.seen.tree.seen) k c.args.turn.now.op.now fs c.requires.follows q x (Raise 0) c.loop-q-test.true below (λ y. some-slices script.machine y c.requires.range.some_slice) in
    record {
      follow = f;
      is = refl;
      number = number;
      within = omega (arith, c.slice_for-i.ensures.within, number, ap slice_count machine);
      epoch = omega (arith, c.requires.epoch.0);
      job = subst (λ (p : PassValue TreeEntry). At (jobs_of script (history_of p.seen) k c.args.turn.now.op.now) (length (looks_of script (history_of c.args.side.now.seen.tree.seen) k c.args.turn.now.op.now) + sum_by (slices_for script.machine) (take q fs) + x)
          (record { slice = slice_for script.machine f x; owed = record { epoch = k + 1; what = what_of f } })) (sym c.loop-x.invariant.tree) its;
      ends = subst (λ (p : PassValue TreeEntry). ((q + 1 == length fs) && (x + 1 == c.slices_for-count.result)) ≡ not (nat_lt (made + 1) (length (jobs_of script (history_of p.seen) k c.args.turn.now.op.now)))) (sym c.loop-x.invariant.tree)
          (subst (λ n. ((q + 1 == length fs) && (x + 1 == n)) ≡ not (nat_lt (made + 1) (length (jobs_of script (history_of c.args.side.now.seen.tree.seen) k c.args.turn.now.op.now)))) count last);
    }

pub follow-requires-clause-may : goal.follow-requires-clause-may
follow-requires-clause-may g c =
    let it = at_follow g (goal.at.follow-requires-clause-may g c).After-slice_for-i in
    let script = g.N.RunNames.script in
    let k : ℕ = c.args.turn.now.epoch - 1 in
    let f : Follow = get_or c.args.all.now c.loop-q.q (Raise 0) in
    let s : SeenValue = c.loop-x.side.seen in
    let made : ℕ = length (looks_of script (history_of c.args.side.now.seen.tree.seen) k c.args.turn.now.op.now) + sum_by (slices_for script.machine) (take c.loop-q.q c.args.all.now) + c.loop-x.x in
    let job : Job = record { slice = slice_for script.machine it.follow c.loop-x.x; owed = record { epoch = k + 1; what = what_of it.follow } } in
    let name = ap (λ (j : JournalValue TreeEntry). j.name) c.loop-x.invariant.history ∙ c.requires.name in
    let whole = ap (λ (p : PassValue TreeEntry). p.seen) c.loop-x.invariant.tree ∙ (c.requires.whole ∙ ap (λ (j : JournalValue TreeEntry). j.entries) (sym c.loop-x.invariant.history)) in
    subst (λ y. MayFollow script g.N.RunNames.tree c.slice_for-i.result c.args.turn.now.number c.args.turn.now.epoch y c.loop-x.history s) it.is
    (subst (λ i. MayFollow script g.N.RunNames.tree i c.args.turn.now.number c.args.turn.now.epoch it.follow c.loop-x.history s) (sym it.number)
    (may_follow script g.T.NamedTable.table g.N.RunNames.tree c.args.turn.now.number k made c.args.turn.now.op.now s c.loop-x.side.share c.loop-x.invariant.at job it.job it.within c.args.turn.now.epoch it.follow c.loop-x.history name whole it.epoch
    (CanFollow-ready script.machine it.follow job.slice c.loop-x.x c.requires.range refl (subst (IsReady script.machine) (sym it.is) (c.requires.ready c.loop-q.q (Raise 0) c.loop-q-test.true)))))

pub follow-requires-clause-next : goal.follow-requires-clause-next
follow-requires-clause-next g c =
    let it = at_follow g (goal.at.follow-requires-clause-next g c).After-slice_for-i in
    let script = g.N.RunNames.script in
    let k : ℕ = c.args.turn.now.epoch - 1 in
    let s : SeenValue = c.loop-x.side.seen in
    let made : ℕ = length (looks_of script (history_of c.args.side.now.seen.tree.seen) k c.args.turn.now.op.now) + sum_by (slices_for script.machine) (take c.loop-q.q c.args.all.now) + c.loop-x.x in
    let job : Job = record { slice = slice_for script.machine it.follow c.loop-x.x; owed = record { epoch = k + 1; what = what_of it.follow } } in
    let whole = ap (λ (p : PassValue TreeEntry). p.seen) c.loop-x.invariant.tree ∙ (c.requires.whole ∙ ap (λ (j : JournalValue TreeEntry). j.entries) (sym c.loop-x.invariant.history)) in
    let flag : c.if-q-all.is_last ≡ ((c.loop-q.q + 1 == length c.args.all.now) && (c.loop-x.x + 1 == c.slices_for-count.result)) =
    elim c.if-q-all.branch [
      | then-q-all w ↦ last_then (c.loop-q.q + 1) (length c.args.all.now) (c.loop-x.x + 1 == c.slices_for-count.result) c.if-q-all.is_last w.if-q-all.true w.is_last-is
      | else-q-all w ↦ last_else (c.loop-q.q + 1) (length c.args.all.now) (c.loop-x.x + 1 == c.slices_for-count.result) c.if-q-all.is_last w.if-q-all.false w.is_last-is
    ] in
    subst (λ y. IsNextFollow script g.T.NamedTable.table c.slice_for-i.result c.args.turn.now.number c.args.turn.now.epoch y c.if-q-all.is_last c.loop-x.history s c.loop-x.side.share) it.is
    (subst (λ i. IsNextFollow script g.T.NamedTable.table i c.args.turn.now.number c.args.turn.now.epoch it.follow c.if-q-all.is_last c.loop-x.history s c.loop-x.side.share) (sym it.number)
    (next_follow script g.T.NamedTable.table g.N.RunNames.tree c.args.turn.now.number k made c.args.turn.now.op.now s c.loop-x.side.share c.loop-x.invariant.at job it.job it.within c.args.turn.now.epoch it.follow c.if-q-all.is_last c.loop-x.history whole it.epoch refl (flag ∙ it.ends)))

pub loop-q-init : goal.loop-q-init
loop-q-init g c =
    let script = g.N.RunNames.script in
    let k : ℕ = c.args.turn.now.epoch - 1 in
    let none : length (looks_of script (history_of c.args.side.now.seen.tree.seen) k c.args.turn.now.op.now) ≡ length (looks_of script (history_of c.args.side.now.seen.tree.seen) k c.args.turn.now.op.now) + sum_by (slices_for script.machine) (take 0 c.args.all.now) = omega arith in
    record {
      history = refl;
      tree = refl;
      thread = refl;
      grown = HasGrown-self (seen_by c.args.side.now.seen);
      at = subst (λ n. FollowsAt script g.T.NamedTable.table c.args.turn.now.number k c.args.turn.now.op.now n c.args.side.now.seen c.args.side.now.share) none c.requires.at;
    }

pub loop-q-preserved : goal.loop-q-preserved
loop-q-preserved g c =
    let script = g.N.RunNames.script in
    let k : ℕ = c.args.turn.now.epoch - 1 in
    let fs : List Follow = c.args.all.now in
    let q : ℕ = c.loop-q.q in
    let f : Follow = get_or fs q (Raise 0) in
    let looks : ℕ = length (looks_of script (history_of c.args.side.now.seen.tree.seen) k c.args.turn.now.op.now) in
    let ended : c.loop-x.x ≡ slices_for script.machine f = omega (arith, c.loop-x-test.false, c.loop-x.auto.x-end, c.slices_for-count.ensures, ap (λ (m : Parameters). slices_for m f) (c.machine-m.ensures ∙ ap (λ (x : ScriptValue). x.machine) c.requires.script)) in
    let next : looks + sum_by (slices_for script.machine) (take q fs) + c.loop-x.x ≡ looks + sum_by (slices_for script.machine) (take (q + 1) fs) =
    omega (arith, ended, sum_by_more (slices_for script.machine) fs q (Raise 0) c.loop-q-test.true) in
    record {
      history = c.loop-x.invariant.history;
      tree = c.loop-x.invariant.tree;
      thread = c.loop-x.invariant.thread;
      grown = c.loop-x.invariant.grown;
      at = subst (λ n. FollowsAt script g.T.NamedTable.table c.args.turn.now.number k c.args.turn.now.op.now n c.loop-x.side.seen c.loop-x.side.share) next c.loop-x.invariant.at;
    }

pub loop-x-preserved : goal.loop-x-preserved
loop-x-preserved g c =
    let it = at_follow g (goal.at.loop-x-preserved g c).After-slice_for-i in
    let script = g.N.RunNames.script in
    let k : ℕ = c.args.turn.now.epoch - 1 in
    let s : SeenValue = c.loop-x.side.seen in
    let base : ℕ = length (looks_of script (history_of c.args.side.now.seen.tree.seen) k c.args.turn.now.op.now) + sum_by (slices_for script.machine) (take c.loop-q.q c.args.all.now) in
    let made : ℕ = base + c.loop-x.x in
    let job : Job = record { slice = slice_for script.machine it.follow c.loop-x.x; owed = record { epoch = k + 1; what = what_of it.follow } } in
    let followed : HasFollowed job.slice c.args.turn.now.number c.args.turn.now.epoch it.follow s c.follow.new.side.seen =
    subst (λ i. HasFollowed i c.args.turn.now.number c.args.turn.now.epoch it.follow s c.follow.new.side.seen) it.number (subst (λ y. HasFollowed c.slice_for-i.result c.args.turn.now.number c.args.turn.now.epoch y s c.follow.new.side.seen) (sym it.is) c.follow.ensures.followed) in
    let next : made + 1 ≡ base + (c.loop-x.x + 1) = omega arith in
    let flag : c.if-q-all.is_last ≡ ((c.loop-q.q + 1 == length c.args.all.now) && (c.loop-x.x + 1 == c.slices_for-count.result)) =
    elim c.if-q-all.branch [
      | then-q-all w ↦ last_then (c.loop-q.q + 1) (length c.args.all.now) (c.loop-x.x + 1 == c.slices_for-count.result) c.if-q-all.is_last w.if-q-all.true w.is_last-is
      | else-q-all w ↦ last_else (c.loop-q.q + 1) (length c.args.all.now) (c.loop-x.x + 1 == c.slices_for-count.result) c.if-q-all.is_last w.if-q-all.false w.is_last-is
    ] in
    record {
      history = c.follow.ensures.history ∙ c.loop-x.invariant.history;
      tree = c.follow.ensures.tree ∙ c.loop-x.invariant.tree;
      thread = followed.added.thread ∙ c.loop-x.invariant.thread;
      grown = HasGrown-through (seen_by c.args.side.now.seen) (seen_by s) (seen_by c.follow.new.side.seen) c.loop-x.invariant.grown (HasGrown-added _ _ s c.follow.new.side.seen followed.added);
      at = subst (λ n. FollowsAt script g.T.NamedTable.table c.args.turn.now.number k c.args.turn.now.op.now n c.follow.new.side.seen c.follow.new.side.share) next
          (has_followed script g.T.NamedTable.table g.N.RunNames.tree c.args.turn.now.number k made c.args.turn.now.op.now s c.loop-x.side.share c.loop-x.invariant.at job it.job it.within c.args.turn.now.epoch it.follow c.if-q-all.is_last c.follow.new.side.seen c.follow.new.side.share it.epoch refl followed c.follow.ensures.tree (flag ∙ it.ends) c.follow.ensures.worker);
    }

pub returns-clause-done : goal.returns-clause-done
returns-clause-done g c =
    let script = g.N.RunNames.script in
    let k : ℕ = c.args.turn.now.epoch - 1 in
    let history = history_of c.args.side.now.seen.tree.seen in
    let fs : List Follow = c.args.all.now in
    let last : c.loop-q.q ≡ length fs = omega (arith, c.loop-q-test.false, c.loop-q.auto.q-end) in
    let all : length (looks_of script history k c.args.turn.now.op.now) + sum_by (slices_for script.machine) (take c.loop-q.q fs) ≡ length (jobs_of script history k c.args.turn.now.op.now) =
    ap (λ q. length (looks_of script history k c.args.turn.now.op.now) + sum_by (slices_for script.machine) (take q fs)) last ∙ made_all script history k c.args.turn.now.op.now fs c.requires.follows in
    subst (λ n. FollowsAt script g.T.NamedTable.table c.args.turn.now.number k c.args.turn.now.op.now n c.loop-q.side.seen c.loop-q.side.share) all c.loop-q.invariant.at

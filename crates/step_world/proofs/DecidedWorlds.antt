-- A command of a world is decided.
use Rattle.std.proofs.Common.{◌≡◌, ◌≢◌, ℕ, ◌+◌, ◌<◌, ◌≤◌, inl, inr, List, [], ◌∷◌, ◌++◌, length, map, take, get_or, set, get_or-set_same, get_or-set_other, length-set, All, Some, refl, sym, ap, ◌∙◌, subst, arith}
use Rattle.std.specs.Prelude.{slice_get, sum_by, vec_capacity}
use Rattle.std.specs.List.{flat_map}
use Rattle.std.proofs.Math.Seq.{take-length}
use Rattle.std.proofs.lemmas.Bool.{cases_lt}
use Rattle.std.proofs.lemmas.List.{length-append, length_push, map_push, take-append-le}
use Rattle.std.proofs.lemmas.Option.{same_Some, none-some}
use Rattle.rc_base.specs.Buffers.{Looks}
use Rattle.run_law.proofs.laws.LongerHistories.{looks_front}
use Rattle.run_law.proofs.laws.TreeHistory.{tree_after-push}
use Rattle.run_law.specs.Entries.{entry_value}
use Rattle.run_law.specs.Jobs.{follow_jobs, follows_of, jobs_of, looks_of}
use Rattle.run_law.specs.Looks.{lines_looked}
use Rattle.run_law.specs.Targets.{slices_for}
use Rattle.run_law.specs.TreeHistory.{CommandMayFollow, IsCommandThat, TreeEntryValue, tree_after}
use Rattle.run_law.specs.declared.journals.TreeEntry.{TreeEntry}
use Rattle.script_ops.specs.Values.{ScriptValue, op_at}
use Rattle.script_ops.specs.declared.op.Op.{Op}
use Rattle.run_law.proofs.laws.FollowCounts.{follows-are, length-follows, none-follow, some-follow, some-slices}
use Rattle.step_world.proofs.KeptWorlds.{IsWorldOf-step, Leaves, moves-leaves}
use Rattle.step_world.proofs.laws.LookedCounts.{looked_given}
use Rattle.step_world.proofs.LookingWorlds.{held, lists-there, looks-few}
use Rattle.step_world.proofs.laws.MachineStates.{holder_off, holder_on, place_behind-ready, place_behind-following}
use Rattle.step_world.proofs.laws.StepRows.{step_decides}
use Rattle.step_world.proofs.TakenWorlds.{within-next}
use Rattle.step_world.specs.Answers.{HasDecided, HasNext}
use Rattle.run_law.specs.LookLists.{AreReady}
use Rattle.step_world.specs.Machine.{Decides, Moves, Steps, holder_behind, place_behind, thread_at}
use Rattle.step_world.specs.Slices.{SliceValue}
use Rattle.step_world.specs.Works.{Settles}
use Rattle.step_world.specs.Worlds.{AreInPlay, IsFollowing, IsLookingAt, IsTreeOf, IsWorldOf, machine_of, rooms_from}
use Rattle.step_world.specs.declared.thread_state.ThreadState.TheVariants.{Following, Looking, Ready}
use Rattle.step_world.specs.declared.thread_state.Thread.{Thread}
use Rattle.step_world.specs.declared.world.World.{World}
use Rattle.tree_core.specs.Follows.{IsReady}
use Rattle.tree_law.specs.Steps.{after, follow_domain, needs, next}
use Rattle.tree_law.specs.declared.follow.Follow.{Follow}
use Rattle.step_world.proofs.DecidedCounts.{commanded, counts-all, found-all, looks-all, numbers-all}

-- What has happened to a world when the tree has taken a command with these counts, before its thread moves on.
pub record HasApplied (t : ℕ) (op : Op) (numbers : List ℕ) (e : TreeEntry) (front : List Looks) (old new : World) : Type 0 where
  pub machine : new.tree.machine ≡ old.tree.machine
  pub reply : e.reply ≡ (next old.tree.machine old.tree.state op numbers).reply
  pub state : new.tree.state ≡ (next old.tree.machine old.tree.state op numbers).state
  pub epoch : new.tree.epoch ≡ old.tree.epoch + 1
  pub after : new.work.after.items ≡ after old.tree.machine old.tree.state old.tree.epoch op
  pub domains : All (λ f. follow_domain f < old.tree.machine.domains) new.work.after.items
  pub ready : All (IsReady old.tree.machine) new.work.after.items
  pub at : new.work.at ≡ 0
  pub slice : new.work.slice ≡ 0
  pub commands : new.commands.items ≡ old.commands.items ++ e ∷ []
  pub capacity : vec_capacity new.commands ≡ vec_capacity old.commands
  pub slices : new.slices ≡ old.slices
  pub threads : new.threads ≡ old.threads
  pub holder : new.holder ≡ old.holder
  pub phase : new.phase ≡ old.phase
  pub closing : new.closing ≡ old.closing
  pub lists : new.lists.items ≡ set old.lists.items t front

module _ (script : ScriptValue) (t made : ℕ) (op : Op) (w : World) (world : IsWorldOf script w) (nexts : HasNext script (machine_of w) t op) (place : (thread_at (machine_of w) t).state ≡ Looking made) where
  abbrev tree : List TreeEntryValue
  tree = (machine_of w).journals.tree

  abbrev now_needs : List (ℕ × ℕ)
  now_needs = needs script.machine (tree_after script tree) op

  module _ (lists : List Looks) (its : IsLookingAt script (machine_of w) t op lists w.work) (done : w.work.count ≤ w.work.at) where
    module _ (n : ℕ) (e : TreeEntry) (front : List Looks) (between new : World) (number : n ≡ (thread_at (machine_of w) t).next) (thread_is : e.thread ≡ t) (op_is : e.op ≡ n) (counts : e.looks.numbers ≡ its.numbers)
        (applied : HasApplied t op its.numbers e front w between) (settles : Settles t n made between new) (ready : AreReady (rooms_from script t (n + 1)) front) where
      abbrev h : TreeEntryValue
      h = entry_value e

      abbrev follows : List Follow
      follows = between.work.after.items

      -- the op of its entry
      its_op : op_at script h.thread h.op ≡ Some op
      its_op = subst (λ v. op_at script v h.op ≡ Some op) (sym thread_is) (subst (λ k. op_at script t k ≡ Some op) (sym (op_is ∙ number)) nexts.is)

      -- the tree's history
      trees : (machine_of new).journals.tree ≡ tree ++ h ∷ []
      trees = ap (λ cs. map entry_value cs.items) settles.commands ∙ (ap (map entry_value) applied.commands ∙ map_push entry_value w.commands.items e)

      -- what follows it
      after-is : follows ≡ after script.machine (tree_after script (take (length tree) tree)) (length tree) op
      after-is =
          applied.after ∙ (ap (λ m. after m w.tree.state w.tree.epoch op) world.tree.machine
          ∙ (ap (λ s. after script.machine s w.tree.epoch op) world.tree.state ∙ (ap (λ k. after script.machine (tree_after script tree) k op) world.tree.epoch
          ∙ ap (λ hs. after script.machine (tree_after script hs) (length tree) op) (sym (take-length tree)))))

      jobs-all : length (jobs_of script tree (length tree) op) ≡ made + sum_by (slices_for script.machine) follows
      jobs-all =
          let count : length (follows_of script tree (length tree) op) ≡ sum_by (slices_for script.machine) follows =
          ap length (follows-are script tree (length tree) op) ∙ (ap (λ fs. length (flat_map (follow_jobs script.machine (length tree + 1)) fs)) (sym after-is) ∙ length-follows script.machine (length tree + 1) follows) in
          length-append (looks_of script tree (length tree) op) (follows_of script tree (length tree) op) ∙ omega (arith, looks-all script t made op w world nexts place lists its done, count)

      -- it is a legal command
      may : CommandMayFollow script tree h
      may =
          let reply : e.reply ≡ (next script.machine (tree_after script tree) op e.looks.numbers).reply =
          applied.reply ∙ (ap (λ m. (next m w.tree.state op its.numbers).reply) world.tree.machine ∙ (ap (λ s. (next script.machine s op its.numbers).reply) world.tree.state ∙ ap (λ ns. (next script.machine (tree_after script tree) op ns).reply) (sym counts))) in
          subst (λ o. IsCommandThat (λ c. (length h.looks ≡ length (needs script.machine (tree_after script tree) c)) × (h.reply ≡ (next script.machine (tree_after script tree) c h.looks).reply)) o) (sym its_op)
          (commanded script t made op w world nexts place, (ap length counts ∙ numbers-all script t made op w world nexts place lists its done, reply))

      -- its counts are what its looks found
      given : map (λ n. Some n) h.looks ≡ map (lines_looked script (machine_of w).journals h) now_needs
      given = looked_given script (machine_of w) t op its.found h its.looked thread_is (op_is ∙ number) (found-all script t made op w world nexts place lists its done) (ap length counts ∙ numbers-all script t made op w world nexts place lists its done)
          (λ q less. ap (λ ns. slice_get ns q) counts ∙ its.each q (omega (arith, less, counts-all script t made op w world nexts place lists its done)))

      -- the tree
      tree-now : IsTreeOf script (map entry_value new.commands.items) new.tree
      tree-now = subst (λ hs. IsTreeOf script hs new.tree) (sym trees) (subst (λ x. IsTreeOf script (tree ++ h ∷ []) x) (sym settles.tree) (record {
        machine = applied.machine ∙ world.tree.machine;
        state = applied.state ∙ (ap (λ m. (next m w.tree.state op its.numbers).state) world.tree.machine ∙ (ap (λ s. (next script.machine s op its.numbers).state) world.tree.state
            ∙ (ap (λ ns. (next script.machine (tree_after script tree) op ns).state) (sym counts) ∙ sym (tree_after-push script tree h op its_op))));
        epoch = applied.epoch ∙ (ap (λ k. k + 1) world.tree.epoch ∙ sym (length_push tree h));
      }))

      slices-now : AreInPlay script new.slices.items
      slices-now = subst (λ ss. AreInPlay script ss.items) (sym (settles.slices ∙ applied.slices)) world.slices

      lists-now : (d : List Looks) → AreReady (rooms_from script t (n + 1)) (get_or new.lists.items t d)
      lists-now d = subst (λ ls. AreReady (rooms_from script t (n + 1)) (get_or ls.items t d)) (sym settles.lists)
          (subst (λ ls. AreReady (rooms_from script t (n + 1)) (get_or ls t d)) (sym applied.lists)
          (subst (λ ls. AreReady (rooms_from script t (n + 1)) ls) (sym (get_or-set_same w.lists.items t front d (lists-there script t made op w world nexts place))) ready))

      leaves : (now : Thread) → new.threads.items ≡ set w.threads.items t now → ((u : ℕ) → u ≢ t → new.holder ≡ Some u → ⊥) → Leaves t now w new
      leaves now threads nobody = record {
        phase = settles.phase ∙ applied.phase;
        threads = threads;
        capacity = ap vec_capacity settles.commands ∙ applied.capacity;
        closing = settles.closing ∙ applied.closing;
        lists_count = ap (λ ls. length ls.items) settles.lists ∙ (ap length applied.lists ∙ length-set w.lists.items t front);
        others = λ u d apart. ap (λ ls. get_or ls.items u d) settles.lists ∙ (ap (λ ls. get_or ls u d) applied.lists ∙ get_or-set_other w.lists.items t u front d apart);
        work = λ u apart other. absurd (nobody u apart other);
      }

      -- the row
      row : (now : Thread) → Moves t now (machine_of w) (machine_of new) → place_behind n made (length (jobs_of script tree (length tree) op)) ≡ now
          → new.holder ≡ holder_behind t made (length (jobs_of script tree (length tree) op)) → Decides script t made op (machine_of w) (machine_of new)
      row now moves behind holder = record {
        entry = h;
        thread = thread_is;
        number = op_is ∙ number;
        may = may;
        looks = given;
        tree = trees;
        slices = ap (λ ss. map (λ (s : SliceValue). s.entries) ss.items) (settles.slices ∙ applied.slices);
        holder = holder;
        moves = subst (λ k. Moves t (place_behind k made (length (jobs_of script tree (length tree) op))) (machine_of w) (machine_of new)) number (subst (λ v. Moves t v (machine_of w) (machine_of new)) (sym behind) moves);
      }

      -- the follow-ups are to come
      following : 0 < length follows → IsFollowing script (machine_of new).journals.tree made op new.work
      following some = subst (λ hs. IsFollowing script hs made op new.work) (sym trees) (subst (λ x. IsFollowing script (tree ++ h ∷ []) made op x) (sym settles.work) (record {
        position = length tree;
        decided = length_push tree h;
        after = after-is ∙ ap (λ hs. after script.machine (tree_after script hs) (length tree) op) (sym (take-append-le (length tree) tree (h ∷ []) (omega arith)));
        ready = subst (λ m. All (IsReady m) follows) world.tree.machine applied.ready;
        domains = subst (λ m. All (λ f. follow_domain f < m.domains) follows) world.tree.machine applied.domains;
        within = omega (arith, some, applied.at);
        slice = λ f is. omega (arith, applied.slice, some-slices script.machine f world.lawful.in_range.some_slice);
        number = let none : sum_by (slices_for script.machine) (take between.work.at follows) ≡ 0 = ap (λ k. sum_by (slices_for script.machine) (take k follows)) applied.at in
            omega (arith, looks-all script t made op w world nexts place lists its done, ap length (looks_front script tree (h ∷ []) (length tree) op (omega arith)), none, applied.slice);
        bound = omega (arith, looks-all script t made op w world nexts place lists its done, ap length (looks_front script tree (h ∷ []) (length tree) op (omega arith)), looks-few script t made op w world nexts place lists its);
      }))

      -- it is decided
      pub decided : IsWorldOf script new × HasDecided script t e.reply op (machine_of w) (machine_of new)
      unfolding row
      decided = elim (cases_lt 0 (length follows)) [
        | inl some ↦
            let now : Thread = record { next = n; state = Following made } in
            let (holder, threads) = settles.goes (omega (arith, some, applied.at)) in
            let mine : new.holder ≡ Some t = holder ∙ (applied.holder ∙ held script t made op w world nexts place) in
            let kept : Leaves t now w new = leaves now (threads ∙ ap (λ ts. set ts.items t now) applied.threads) (λ u apart other. apart (same_Some u t (sym other ∙ mine))) in
            let moves : Moves t now (machine_of w) (machine_of new) = moves-leaves t now w new (within-next script w t op world nexts) kept in
            let less : made < length (jobs_of script tree (length tree) op) = omega (arith, jobs-all, some-follow script.machine world.lawful.in_range.some_slice follows some) in
            let decides : Decides script t made op (machine_of w) (machine_of new) = row now moves (place_behind-following n made (length (jobs_of script tree (length tree) op)) less) (mine ∙ sym (holder_on t made (length (jobs_of script tree (length tree) op)) less)) in
            let step : Steps script t (machine_of w) (machine_of new) = step_decides script t made op (machine_of w) (machine_of new) nexts.present nexts.is place (omega (arith, looks-all script t made op w world nexts place lists its done)) decides in (
              IsWorldOf-step script w new t now world (within-next script w t op world nexts) step kept tree-now slices-now (λ d. lists-now d)
                  (λ other d held_by is. subst (λ c. IsFollowing script (machine_of new).journals.tree made c new.work) (same_Some op other (sym nexts.is ∙ subst (λ k. op_at script t k ≡ Some other) number is)) (following some)),
              record { made = made; place = place; looked = omega (arith, looks-all script t made op w world nexts place lists its done); row = decides; told = refl },
            )
        | inr none ↦
            let now : Thread = record { next = n + 1; state = Ready } in
            let (holder, threads) = settles.ends (omega (arith, none, applied.at)) in
            let kept : Leaves t now w new = leaves now (threads ∙ ap (λ ts. set ts.items t now) applied.threads) (λ u apart other. none-some u (sym holder ∙ other)) in
            let moves : Moves t now (machine_of w) (machine_of new) = moves-leaves t now w new (within-next script w t op world nexts) kept in
            let all : length (jobs_of script tree (length tree) op) ≤ made = omega (arith, jobs-all, none-follow script.machine follows none) in
            let decides : Decides script t made op (machine_of w) (machine_of new) = row now moves (place_behind-ready n made (length (jobs_of script tree (length tree) op)) all) (holder ∙ sym (holder_off t made (length (jobs_of script tree (length tree) op)) all)) in
            let step : Steps script t (machine_of w) (machine_of new) = step_decides script t made op (machine_of w) (machine_of new) nexts.present nexts.is place (omega (arith, looks-all script t made op w world nexts place lists its done)) decides in (
              IsWorldOf-step script w new t now world (within-next script w t op world nexts) step kept tree-now slices-now (λ d. lists-now d) (λ other d held_by is. tt),
              record { made = made; place = place; looked = omega (arith, looks-all script t made op w world nexts place lists its done); row = decides; told = refl },
            )
      ]

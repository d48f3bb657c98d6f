-- A command takes the tree, and looks.
use Rattle.std.proofs.Common.{◌≡◌, ℕ, ◌+◌, ◌<◌, ◌≤◌, List, [], ◌∷◌, ◌++◌, length, Some, None, refl, sym, ap, ◌∙◌, subst, arith}
use Rattle.std.specs.Prelude.{IsSome, IsTrue}
use Rattle.std.proofs.lemmas.List.{length_push}
use Rattle.std.proofs.lemmas.Option.{slice_get_within}
use Rattle.cache_core.specs.declared.entry.SliceEntry.{SliceEntry}
use Rattle.rc_base.specs.declared.replies.Reply.TheVariants as replies
use Rattle.run_law.specs.Ops.{is_command, phase_in}
use Rattle.run_law.specs.Journals.{At, JournalsValue}
use Rattle.run_law.specs.Truth.{is_made_by, is_taken_from}
use Rattle.run_law.specs.TreeHistory.{TreeEntryValue}
use Rattle.script_ops.specs.Values.{ScriptValue, op_at}
use Rattle.script_ops.specs.declared.op.Op.{Op}
use Rattle.run_law.proofs.laws.LongerHistories.{jobs_front}
use Rattle.run_law.proofs.laws.LegalHistories.{legal_entry}
use Rattle.run_law.proofs.laws.MatchedLooks.{not_by}
use Rattle.run_law.proofs.laws.NotedTruth.{holding, one_op}
use Rattle.run_law.proofs.laws.NotedEntries.{note_keeps}
use Rattle.run_law.proofs.laws.Pairs.{both_eqb-true, both_eqb-same}
use Rattle.run_law.proofs.laws.Positions.{At-append_front}
use Rattle.run_law.proofs.laws.GrownLists.{with_tree}
use Rattle.step_world.proofs.laws.MachineStates.{at_can_be, can_be_at, IsKept-same, nobody_holds, progress_moved, tree_can_be, where_now}
use Rattle.run_law.proofs.laws.TakenCommands.{fails, take_keeps}
use Rattle.run_law.specs.Jobs.{follows_of, jobs_of, looks_of}
use Rattle.step_world.specs.Machine.{Looks, MachineValue, Takes, thread_at}
use Rattle.step_world.specs.declared.thread_state.ThreadState.TheVariants.{Ready, Looking}
use Rattle.step_world.specs.declared.thread_state.Thread.{Thread}
use Rattle.run_law.specs.Growth.{AreLegal, IsKept}
use Rattle.run_law.specs.Progress.{Progress, moved}
use Rattle.step_world.specs.Moments.{IsRunSoFar, progress_in}
use Rattle.step_world.proofs.StepParts.{place_of, IsHeldBy-held, only_holder, looks_same, follows_same, looking_is, looking_not, journals_are}

-- ---- Take

-- a command takes the tree
pub take_step : (script : ScriptValue) (t : ℕ) (op : Op) (old new : MachineValue) → phase_in script.phases t ≡ old.phase → op_at script t (thread_at old t).next ≡ Some op → IsTrue (is_command op)
    → (thread_at old t).state ≡ Ready → old.holder ≡ None → Takes t old new → IsRunSoFar script old → IsRunSoFar script new
take_step script t op old new here is_op command place free takes so_far =
    let n : ℕ = (thread_at old t).next in
    let p : Progress = holding n 0 in
    let tree : new.journals.tree ≡ old.journals.tree = ap (λ (j : JournalsValue). j.tree) takes.journals in
    let slices : new.journals.slices ≡ old.journals.slices = ap (λ (j : JournalsValue). j.slices) takes.journals in
    let nobody : (u : ℕ) → IsSome (progress_in old u).made → ⊥ = nobody_holds old so_far.held free in
    let at : (u : ℕ) → progress_in new u ≡ moved (progress_in old) t p u = progress_moved old new t (record { next = n; state = Looking 0 }) takes.moves in
    record {
      legal = subst (λ j. AreLegal script j) (sym takes.journals) so_far.legal;
      held = IsHeldBy-held old new t p at refl (λ u some. absurd (nobody u some)) takes.holder;
      looking = looks_same script old new t (record { next = n; state = Looking 0 }) tree (where_now old new t (record { next = n; state = Looking 0 }) takes.moves)
          (λ made c is is_c. (let none : 0 ≡ made = looking_is 0 made is in omega (arith, none))) so_far.looking;
      following = follows_same script old new t (record { next = n; state = Looking 0 }) tree (where_now old new t (record { next = n; state = Looking 0 }) takes.moves)
          (λ made k c is is_c last. absurd (looking_not 0 made is)) so_far.following;
      kept = λ all can.
          let claim = can_be_at new new.holder t (Looking 0) all takes.holder (ap (λ (v : Thread). v.state) takes.moves.there) can in
          let h : TreeEntryValue = claim.0 in
          let number : h.op ≡ n = claim.2 ∙ ap (λ (v : Thread). v.next) takes.moves.there in
          let was : IsKept script old.journals (progress_in old) old.phase = so_far.kept old.journals.tree (tree_can_be old old.holder free) in
          IsKept-same script (old.journals.tree ++ h ∷ []) all old.journals.slices new.journals.slices (moved (progress_in old) t p) (progress_in new) old.phase new.phase
          (claim.3 ∙ ap (λ hs. hs ++ h ∷ []) tree) slices at takes.moves.phase
          (take_keeps script old.journals (progress_in old) old.phase t n op h
          (record { here = here; place = place_of old t Ready place; is_op = is_op; command = command; nobody = nobody; thread = claim.1; number = number }) was);
    }

-- ---- Look

-- no command that was decided is the present one
pub not_decided : (script : ScriptValue) (old : MachineValue) (t made : ℕ) → (thread_at old t).state ≡ Looking made → old.holder ≡ Some t → IsRunSoFar script old
    → (k : ℕ) (h : TreeEntryValue) → At old.journals.tree k h → IsTrue (is_taken_from t (thread_at old t).next h) → ⊥
not_decided script old t made place held so_far k h there taken =
    let n : ℕ = (thread_at old t).next in
    let claim : TreeEntryValue = record { thread = t; op = n; reply = replies.Ok; looks = [] } in
    let all : List TreeEntryValue = old.journals.tree ++ claim ∷ [] in
    let kept : IsKept script (with_tree old.journals all) (progress_in old) old.phase = so_far.kept all (at_can_be old old.holder t (Looking made) all held place (claim, refl, refl, refl)) in
    let holds : IsSome (progress_in old t).made = subst (λ (x : Progress). IsSome x.made) (sym (place_of old t (Looking made) place)) refl in
    let number : (progress_in old t).next ≡ n = ap (λ (x : Progress). x.next) (place_of old t (Looking made) place) in
    let last : k + 1 ≡ length all = kept.alone.last t k h holds (At-append_front old.journals.tree (claim ∷ []) k h there) (subst (λ o. IsTrue (is_taken_from t o h)) (sym number) taken) in
    let within = slice_get_within old.journals.tree k h there in
    omega (arith, last, length_push old.journals.tree claim, within)

-- one look more
pub look_step : (script : ScriptValue) (t made : ℕ) (op : Op) (old new : MachineValue) → 0 < script.machine.slices → phase_in script.phases t ≡ old.phase → op_at script t (thread_at old t).next ≡ Some op
    → (thread_at old t).state ≡ Looking made → Looks script t made op old new → IsRunSoFar script old → IsRunSoFar script new
look_step script t made op old new some here is_op place looks so_far =
    let n : ℕ = (thread_at old t).next in
    let p : Progress = holding n (made + 1) in
    let now : Thread = record { next = n; state = Looking (made + 1) } in
    let e : SliceEntry = looks.makes.entry in
    let notes = looks.makes.notes in
    let pays = looks.makes.pays in
    let at : (u : ℕ) → progress_in new u ≡ moved (progress_in old) t p u = progress_moved old new t now looks.moves in
    let was_at : progress_in old t ≡ holding n made = place_of old t (Looking made) place in
    let holds : IsSome (progress_in old t).made = subst (λ (x : Progress). IsSome x.made) (sym was_at) refl in
    let held : old.holder ≡ Some t = (so_far.held t).0 holds in
    let within : made < length (looks_of script old.journals.tree (length old.journals.tree) op) = slice_get_within (looks_of script old.journals.tree (length old.journals.tree) op) made looks.job looks.there in
    record {
      legal = subst (λ j. AreLegal script j) (journals_are old.journals new.journals notes.tree)
          (legal_entry script old.journals new.journals.slices looks.job.slice e notes.slices notes.count notes.may
          (λ k h there. not_by h.thread h.op e
          (fails (is_made_by h.thread h.op e)
          (λ mine.
          let is = both_eqb-true e.thread h.thread e.op h.op mine in
          not_decided script old t made place held so_far k h there (both_eqb-same h.thread t h.op n (sym is.0 ∙ pays.thread) (sym is.1 ∙ pays.op)))))
          so_far.legal);
      held = IsHeldBy-held old new t p at refl (only_holder old t so_far.held holds) (looks.holder ∙ held);
      looking = looks_same script old new t now notes.tree (where_now old new t now looks.moves)
          (λ m c is is_c.
          let count : made + 1 ≡ m = looking_is (made + 1) m is in
          let c_is : op ≡ c = one_op script t n op c is_op is_c in
          subst (λ x. m ≤ length (looks_of script old.journals.tree (length old.journals.tree) x)) c_is (omega (arith, count, within))) so_far.looking;
      following = follows_same script old new t now notes.tree (where_now old new t now looks.moves) (λ m k c is is_c last. absurd (looking_not (made + 1) m is)) so_far.following;
      kept = λ all can.
          let claim = can_be_at new new.holder t (Looking (made + 1)) all (looks.holder ∙ held) (ap (λ (v : Thread). v.state) looks.moves.there) can in
          let h : TreeEntryValue = claim.0 in
          let number : h.op ≡ n = claim.2 ∙ ap (λ (v : Thread). v.next) looks.moves.there in
          let tree : List TreeEntryValue = old.journals.tree ++ h ∷ [] in
          let was : IsKept script (with_tree old.journals tree) (progress_in old) old.phase = so_far.kept tree (at_can_be old old.holder t (Looking made) tree held place (h, claim.1, number, refl)) in
          let job : At (jobs_of script old.journals.tree (length old.journals.tree) op) made looks.job =
          At-append_front (looks_of script old.journals.tree (length old.journals.tree) op) (follows_of script old.journals.tree (length old.journals.tree) op) made looks.job looks.there in
          IsKept-same script tree all new.journals.slices new.journals.slices (moved (progress_in old) t p) (progress_in new) old.phase new.phase
          (claim.3 ∙ ap (λ hs. hs ++ h ∷ []) notes.tree) refl at looks.moves.phase
          (note_keeps script (with_tree old.journals tree) (progress_in old) old.phase t n made (length old.journals.tree) op looks.job e new.journals.slices
          (record {
            some = some;
            here = here;
            place = was_at;
            is_op = is_op;
            last = sym (length_push old.journals.tree h);
            is_job = subst (λ jobs. At jobs made looks.job) (sym (jobs_front script old.journals.tree (h ∷ []) (length old.journals.tree) op (omega arith))) job;
            pays = pays;
            adds = notes.slices;
          }) was);
    }

-- A command is decided, and what follows it.
use Rattle.std.proofs.Common.{◌≡◌, ℕ, ◌+◌, ◌-◌, ◌<◌, ◌≤◌, inl, inr, List, [], ◌∷◌, ◌++◌, length, Some, None, refl, sym, ap, ◌∙◌, subst, arith}
use Rattle.std.specs.Prelude.{IsSome}
use Rattle.std.proofs.lemmas.Bool.{cases_lt}
use Rattle.std.proofs.lemmas.List.{length-append, length_push}
use Rattle.std.proofs.lemmas.Option.{slice_get_within}
use Rattle.cache_core.specs.declared.entry.SliceEntry.{SliceEntry}
use Rattle.run_law.specs.Ops.{phase_in}
use Rattle.run_law.specs.Looks.{look_number}
use Rattle.run_law.specs.TreeHistory.{TreeEntryValue}
use Rattle.script_ops.specs.Values.{ScriptValue, op_at}
use Rattle.script_ops.specs.declared.op.Op.{Op}
use Rattle.run_law.proofs.laws.LongerHistories.{jobs_front, looks_front}
use Rattle.run_law.proofs.laws.LegalHistories.{legal_command, legal_entry}
use Rattle.run_law.proofs.laws.JobKinds.{follow_no_look}
use Rattle.run_law.proofs.laws.DoneCommands.{let_go_keeps}
use Rattle.run_law.proofs.laws.MatchedLooks.{look_by_owed, not_look}
use Rattle.run_law.proofs.laws.MovedThreads.{moved-own}
use Rattle.run_law.proofs.laws.NotedTruth.{holding, one_op}
use Rattle.run_law.proofs.laws.NotedEntries.{note_keeps}
use Rattle.run_law.proofs.laws.Positions.{At-append}
use Rattle.run_law.proofs.laws.GrownLists.{with_slices, with_tree}
use Rattle.step_world.proofs.laws.MachineStates.{at_can_be, can_be_at, can_be_tree, holder_off, holder_on, IsKept-same, place_behind-ready, place_behind-following, progress_moved, where_now}
use Rattle.run_law.proofs.laws.FreeTrees.{idle}
use Rattle.run_law.specs.Jobs.{Job, follows_of, jobs_of, looks_of}
use Rattle.step_world.specs.Machine.{Decides, Moves, Follows, MachineValue, thread_at}
use Rattle.step_world.specs.declared.thread_state.ThreadState.{ThreadState}
use Rattle.step_world.specs.declared.thread_state.ThreadState.TheVariants.{Ready, Looking, Following, Tagged}
use Rattle.step_world.specs.declared.thread_state.Thread.{Thread}
use Rattle.run_law.specs.Growth.{AreLegal, IsKept}
use Rattle.run_law.specs.Progress.{Progress, moved}
use Rattle.step_world.specs.Moments.{IsRunSoFar, progress_by, progress_in}
use Rattle.step_world.proofs.StepParts.{place_of, IsHeldBy-held, IsHeldBy-free, only_holder, looks_same, follows_same, not_looking, not_following, following_is, looking_not, journals_are, decided_are, moved-twice, still_there}

-- ---- Follow

-- one follow-up more
pub follow_step : (script : ScriptValue) (t made : ℕ) (op : Op) (old new : MachineValue) → 0 < script.machine.slices → phase_in script.phases t ≡ old.phase → op_at script t (thread_at old t).next ≡ Some op
    → (thread_at old t).state ≡ Following made → Follows script t made op old new → IsRunSoFar script old → IsRunSoFar script new
follow_step script t made op old new some here is_op place follows so_far =
    let n : ℕ = (thread_at old t).next in
    let jobs : List Job = jobs_of script old.journals.tree follows.position op in
    let e : SliceEntry = follows.makes.entry in
    let notes = follows.makes.notes in
    let pays = follows.makes.pays in
    let was_at : progress_in old t ≡ holding n made = place_of old t (Following made) place in
    let holds : IsSome (progress_in old t).made = subst (λ (x : Progress). IsSome x.made) (sym was_at) refl in
    let held : old.holder ≡ Some t = (so_far.held t).0 holds in
    let only = only_holder old t so_far.held holds in
    let decided : length (looks_of script old.journals.tree follows.position op) ≤ made = so_far.following t made follows.position op place is_op (sym follows.last) in
    let no_look : (rmid : ℕ) → look_number rmid e.what ≡ None = λ rmid.
    look_by_owed rmid e.what
    (ap (λ o. look_number rmid o.what) pays.owed
    ∙ elim (At-append (looks_of script old.journals.tree follows.position op) (follows_of script old.journals.tree follows.position op) made follows.job follows.there) [
      | inl front ↦ absurd (let within = slice_get_within (looks_of script old.journals.tree follows.position op) made follows.job front in omega (arith, within, decided))
      | inr back ↦ follow_no_look script old.journals.tree follows.position op (made - length (looks_of script old.journals.tree follows.position op)) follows.job back.1 rmid
    ]) in
    let legal : AreLegal script new.journals = subst (λ j. AreLegal script j) (journals_are old.journals new.journals notes.tree)
    (legal_entry script old.journals new.journals.slices follows.job.slice e notes.slices notes.count notes.may (λ k h there. not_look h.thread h.op e no_look) so_far.legal) in
    let was : IsKept script old.journals (progress_in old) old.phase = so_far.kept old.journals.tree (at_can_be old old.holder t (Following made) old.journals.tree held place refl) in
    let noted : IsKept script (with_slices old.journals new.journals.slices) (moved (progress_in old) t (holding n (made + 1))) old.phase =
    note_keeps script old.journals (progress_in old) old.phase t n made follows.position op follows.job e new.journals.slices
    (record { some = some; here = here; place = was_at; is_op = is_op; last = sym follows.last; is_job = follows.there; pays = pays; adds = notes.slices }) was in
    let within : made < length jobs = slice_get_within jobs made follows.job follows.there in
    elim (cases_lt (made + 1) (length jobs)) [
      | inl less ↦
          let now : Thread = record { next = n; state = Following (made + 1) } in
          let moves : Moves t now old new = subst (λ v. Moves t v old new) (place_behind-following n (made + 1) (length jobs) less) follows.moves in
          let holder : new.holder ≡ Some t = follows.holder ∙ holder_on t (made + 1) (length jobs) less in
          let at : (u : ℕ) → progress_in new u ≡ moved (progress_in old) t (holding n (made + 1)) u = progress_moved old new t now moves in
          record {
            legal = legal;
            held = IsHeldBy-held old new t (holding n (made + 1)) at refl only holder;
            looking = looks_same script old new t now notes.tree (where_now old new t now moves) (λ m c is is_c. absurd (looking_not m (made + 1) (sym is))) so_far.looking;
            following = follows_same script old new t now notes.tree (where_now old new t now moves)
                (λ m k c is is_c last.
                let count : made + 1 ≡ m = following_is (made + 1) m is in
                let c_is : op ≡ c = one_op script t n op c is_op is_c in
                let k_is : follows.position ≡ k = omega (arith, last, follows.last) in
                subst (λ x. length (looks_of script old.journals.tree x c) ≤ m) k_is
                (subst (λ x. length (looks_of script old.journals.tree follows.position x) ≤ m) c_is (omega (arith, count, decided)))) so_far.following;
            kept = λ all can.
                let same : all ≡ new.journals.tree = can_be_at new new.holder t (Following (made + 1)) all holder (ap (λ (v : Thread). v.state) moves.there) can in
                IsKept-same script old.journals.tree all new.journals.slices new.journals.slices (moved (progress_in old) t (holding n (made + 1))) (progress_in new) old.phase new.phase
                (same ∙ notes.tree) refl at moves.phase noted;
          }
      | inr more ↦
          let now : Thread = record { next = n + 1; state = Ready } in
          let moves : Moves t now old new = subst (λ v. Moves t v old new) (place_behind-ready n (made + 1) (length jobs) more) follows.moves in
          let holder : new.holder ≡ None = follows.holder ∙ holder_off t (made + 1) (length jobs) more in
          let at : (u : ℕ) → progress_in new u ≡ moved (progress_in old) t (idle (n + 1)) u = progress_moved old new t now moves in
          record {
            legal = legal;
            held = IsHeldBy-free old new t (idle (n + 1)) at refl only holder;
            looking = looks_same script old new t now notes.tree (where_now old new t now moves) (λ m c is is_c. absurd (not_looking Ready m refl is)) so_far.looking;
            following = follows_same script old new t now notes.tree (where_now old new t now moves) (λ m k c is is_c last. absurd (not_following Ready m refl is)) so_far.following;
            kept = λ all can.
                let same : all ≡ new.journals.tree = can_be_tree new new.holder all holder can in
                let between : ℕ → Progress = moved (progress_in old) t (holding n (made + 1)) in
                IsKept-same script old.journals.tree all new.journals.slices new.journals.slices (moved between t (idle (n + 1))) (progress_in new) old.phase new.phase
                (same ∙ notes.tree) refl (λ u. at u ∙ moved-twice (progress_in old) t (holding n (made + 1)) (idle (n + 1)) u) moves.phase
                (let_go_keeps script (with_slices old.journals new.journals.slices) between old.phase t n (made + 1) follows.position op
                (record { some = some; here = here; place = moved-own (progress_in old) t (holding n (made + 1)); is_op = is_op; last = sym follows.last; all = omega (arith, more, within) }) noted);
          }
    ]

-- ---- Decide

-- no other thread is inside
pub decide_other : (old : MachineValue) (t u : ℕ) (place : ThreadState) → ((v : ℕ) → IsSome (progress_in old v).made → v ≡ t) → (u ≡ t → ⊥) → (thread_at old u).state ≡ place → IsSome (progress_by 0 place).made → ⊥
decide_other old t u Ready only apart is some = absurd cc
decide_other old t u (Looking m) only apart is some = apart (only u (subst (λ (x : Progress). IsSome x.made) (sym (place_of old u (Looking m) is)) refl))
decide_other old t u (Following m) only apart is some = apart (only u (subst (λ (x : Progress). IsSome x.made) (sym (place_of old u (Following m) is)) refl))
decide_other old t u (Tagged tag) only apart is some = absurd cc

-- the command is decided
pub decide_step : (script : ScriptValue) (t made : ℕ) (op : Op) (old new : MachineValue) → 0 < script.machine.slices → phase_in script.phases t ≡ old.phase → op_at script t (thread_at old t).next ≡ Some op
    → (thread_at old t).state ≡ Looking made → length (looks_of script old.journals.tree (length old.journals.tree) op) ≤ made → Decides script t made op old new → IsRunSoFar script old → IsRunSoFar script new
decide_step script t made op old new some here is_op place looked decides so_far =
    let n : ℕ = (thread_at old t).next in
    let h : TreeEntryValue = decides.entry in
    let k : ℕ = length old.journals.tree in
    let tree : List TreeEntryValue = old.journals.tree ++ h ∷ [] in
    let jobs : List Job = jobs_of script old.journals.tree k op in
    let was_at : progress_in old t ≡ holding n made = place_of old t (Looking made) place in
    let holds : IsSome (progress_in old t).made = subst (λ (x : Progress). IsSome x.made) (sym was_at) refl in
    let held : old.holder ≡ Some t = (so_far.held t).0 holds in
    let only = only_holder old t so_far.held holds in
    let its : op_at script h.thread h.op ≡ Some op = rw (decides.thread, decides.number) is_op in
    let legal : AreLegal script new.journals = subst (λ j. AreLegal script j) (decided_are old.journals new.journals h decides.tree decides.slices) (legal_command script old.journals h op its decides.may decides.looks so_far.legal) in
    let was : IsKept script (with_tree old.journals tree) (progress_in old) old.phase = so_far.kept tree (at_can_be old old.holder t (Looking made) tree held place (h, decides.thread, decides.number, refl)) in
    let within : made ≤ length (looks_of script old.journals.tree k op) = so_far.looking t made op place is_op in
    let fits : length (looks_of script old.journals.tree k op) ≤ length jobs = omega (arith, length-append (looks_of script old.journals.tree k op) (follows_of script old.journals.tree k op)) in
    elim (cases_lt made (length jobs)) [
      | inl less ↦
          let now : Thread = record { next = n; state = Following made } in
          let moves : Moves t now old new = subst (λ v. Moves t v old new) (place_behind-following n made (length jobs) less) decides.moves in
          let holder : new.holder ≡ Some t = decides.holder ∙ holder_on t made (length jobs) less in
          let at : (u : ℕ) → progress_in new u ≡ moved (progress_in old) t (holding n made) u = progress_moved old new t now moves in
          let same_at : (u : ℕ) → progress_in new u ≡ progress_in old u = λ u. at u ∙ still_there (progress_in old) t (holding n made) was_at u in
          record {
            legal = legal;
            held = IsHeldBy-held old new t (holding n made) at refl only holder;
            looking = λ u m c is is_c. absurd
                (elim (where_now old new t now moves u) [
                  | inl mine ↦ looking_not m made (sym is ∙ ap (λ (v : Thread). v.state) mine.1)
                  | inr away ↦ decide_other old t u (Looking m) only away.0 (sym (ap (λ (v : Thread). v.state) away.1) ∙ is) refl
                ]);
            following = λ u m q c is is_c last.
                elim (where_now old new t now moves u) [
                  | inr away ↦ absurd (decide_other old t u (Following m) only away.0 (sym (ap (λ (v : Thread). v.state) away.1) ∙ is) refl)
                  | inl mine ↦
                      let count : made ≡ m = following_is made m (sym (ap (λ (v : Thread). v.state) mine.1) ∙ is) in
                      let c_is : op ≡ c = one_op script t n op c is_op (subst (λ v. op_at script v n ≡ Some c) mine.0 (subst (λ (v : Thread). op_at script u v.next ≡ Some c) mine.1 is_c)) in
                      let q_is : k ≡ q = omega (arith, last, ap length decides.tree, length_push old.journals.tree h) in
                      let front : looks_of script tree k op ≡ looks_of script old.journals.tree k op = looks_front script old.journals.tree (h ∷ []) k op (omega arith) in
                      let all : length (looks_of script tree k op) ≤ m = omega (arith, ap length front, looked, count) in
                      subst (λ x. length (looks_of script new.journals.tree q x) ≤ m) c_is
                      (subst (λ x. length (looks_of script new.journals.tree x op) ≤ m) q_is (subst (λ hs. length (looks_of script hs k op) ≤ m) (sym decides.tree) all))
                ];
            kept = λ all can.
                let same : all ≡ new.journals.tree = can_be_at new new.holder t (Following made) all holder (ap (λ (v : Thread). v.state) moves.there) can in
                IsKept-same script tree all old.journals.slices new.journals.slices (progress_in old) (progress_in new) old.phase new.phase (same ∙ decides.tree) decides.slices same_at moves.phase was;
          }
      | inr more ↦
          let now : Thread = record { next = n + 1; state = Ready } in
          let moves : Moves t now old new = subst (λ v. Moves t v old new) (place_behind-ready n made (length jobs) more) decides.moves in
          let holder : new.holder ≡ None = decides.holder ∙ holder_off t made (length jobs) more in
          let at : (u : ℕ) → progress_in new u ≡ moved (progress_in old) t (idle (n + 1)) u = progress_moved old new t now moves in
          let made_all : made ≡ length (jobs_of script tree k op) = omega (arith, within, fits, more, ap length (jobs_front script old.journals.tree (h ∷ []) k op (omega arith))) in
          record {
            legal = legal;
            held = IsHeldBy-free old new t (idle (n + 1)) at refl only holder;
            looking = λ u m c is is_c. absurd
                (elim (where_now old new t now moves u) [
                  | inl mine ↦ not_looking Ready m refl (sym (ap (λ (v : Thread). v.state) mine.1) ∙ is)
                  | inr away ↦ decide_other old t u (Looking m) only away.0 (sym (ap (λ (v : Thread). v.state) away.1) ∙ is) refl
                ]);
            following = λ u m q c is is_c last. absurd
                (elim (where_now old new t now moves u) [
                  | inl mine ↦ not_following Ready m refl (sym (ap (λ (v : Thread). v.state) mine.1) ∙ is)
                  | inr away ↦ decide_other old t u (Following m) only away.0 (sym (ap (λ (v : Thread). v.state) away.1) ∙ is) refl
                ]);
            kept = λ all can.
                let same : all ≡ new.journals.tree = can_be_tree new new.holder all holder can in
                IsKept-same script tree all old.journals.slices new.journals.slices (moved (progress_in old) t (idle (n + 1))) (progress_in new) old.phase new.phase (same ∙ decides.tree) decides.slices at moves.phase
                (let_go_keeps script (with_tree old.journals tree) (progress_in old) old.phase t n made k op
                (record { some = some; here = here; place = was_at; is_op = is_op; last = sym (length_push old.journals.tree h); all = made_all }) was);
          }
    ]

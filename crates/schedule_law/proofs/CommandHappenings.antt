-- The steps of a command may happen.
use Rattle.std.proofs.Common.{◌≡◌, inl, inr, ℕ, ◌+◌, ◌*◌, ◌<◌, ◌≤◌, true, Bool, List, [], ◌∷◌, ◌++◌, length, Option, Some, None, refl, sym, ◌∙◌, ap, subst}
use Rattle.std.specs.Prelude.{if◌then◌else◌, nat_lt, not}
use Rattle.std.proofs.lemmas.Bool.{cases_Bool, cond-true, cond-false}
use Rattle.std.proofs.lemmas.Option.{slice_get_within}
use Rattle.run_law.specs.Jobs.{jobs_of, looks_of}
use Rattle.run_law.specs.Journals.{At, slice_at}
use Rattle.run_law.specs.FoundLooks.{AreDistinct, pairs_for}
use Rattle.run_law.specs.TreeHistory.{CommandMayFollow, TreeEntryValue, tree_after}
use Rattle.script_ops.specs.Values.{ScriptValue, op_at}
use Rattle.script_ops.specs.declared.op.Op.{Op}
use Rattle.step_world.proofs.laws.LookedCounts.{look_looked, looked_given, take_looked}
use Rattle.step_world.proofs.laws.StepRows.{step_decides, step_follows, step_looks, step_takes}
use Rattle.step_world.specs.Machine.{Decides, Follows, Looks, MachineValue, Takes, holder_behind, place_behind, thread_at}
use Rattle.step_world.specs.Looked.{HasLooked}
use Rattle.step_world.specs.declared.thread_state.ThreadState.TheVariants.{Ready, Looking, Following}
use Rattle.step_world.specs.declared.thread_state.Thread.{Thread}
use Rattle.tree_law.specs.Steps.{needs}
use Rattle.schedule_law.specs.Law.{DecideMayHappen, FollowMayHappen, LookMayHappen, TakeMayHappen}
use Rattle.schedule_law.specs.Parts.{Decide, Follow, HappeningValue, Look, Take, found_after, lines_in, slice_part, thread_after, thread_part, tree_part}
use Rattle.schedule_law.proofs.StepStates.{Moves-next_state, next_state, Notes-next_state, AreReached-state_after, same_slices, so_far}
use Rattle.schedule_law.proofs.PartSets.{HasTurn-op, same_journals, same_op, slice_at-part, slice_within, thread_at-part, tree-part, AreStepParts-both, AreStepParts-tree}

-- a command takes the tree
pub take_may_happen : (script : ScriptValue) → 0 < script.machine.slices → TakeMayHappen script
take_may_happen script some t n op hs found given is command at r fit =
    let s = r.state in
    let v : Thread = record { next = n; state = Ready } in
    let e : HappeningValue = Take t in
    let turn = HasTurn-op script some at r t v op found given fit.1.0 is in
    let tree = tree-part script at r hs None fit.0 in
    let now : MachineValue = next_state e t 0 s in
    let row : Takes t s now = record {
      journals = same_journals e t 0 s refl (λ es. refl);
      holder = refl;
      moves = Moves-next_state e t 0 s (record { next = (thread_at s t).next; state = Looking 0 }) turn.within refl;
    } in
    AreReached-state_after script some e t 0 op (tree_part hs None ∷ thread_part t v true found given ∷ []) at r
    (AreStepParts-tree e t 0 hs None v true found given (λ b. refl) (λ es. refl)) turn.is turn.within (inr (λ es. refl)) (λ x last_is. inl last_is)
    (step_takes script t op s now turn.phase turn.is command turn.place tree.1 row)
    (λ other made place is_other. take_looked script t other s now turn.place tree.1 row (so_far script s some r.reached))

-- it looks
pub look_may_happen : (script : ScriptValue) → 0 < script.machine.slices → LookMayHappen script
look_may_happen script some t n op hs found given job list x is distinct next pays low may at r fit =
    let s = r.state in
    let i : ℕ = job.slice in
    let made : ℕ = length found in
    let v : Thread = record { next = n; state = Looking made } in
    let e : HappeningValue = Look x in
    let here = thread_at-part script at r t v true found given fit.1.1.0 in
    let turn = HasTurn-op script some at r t v op found given fit.1.1.0 is in
    let tree = tree-part script at r hs (Some t) fit.1.0 in
    let there : slice_at s.journals i ≡ list = slice_at-part script at r i list fit.0 in
    let within : i < length s.journals.slices = slice_within script some at r i low in
    let now : MachineValue = next_state e t i s in
    let job_is : At (looks_of script s.journals.tree (length s.journals.tree) op) made job = subst (λ (l : List TreeEntryValue). At (looks_of script l (length l) op) made job) (sym tree.0) next in
    let row : Looks script t made op s now = record {
      job = job;
      there = job_is;
      makes = record {
        entry = x;
        pays = record { thread = pays.thread; op = pays.op ∙ sym turn.next; owed = pays.owed };
        notes = Notes-next_state script.machine e x t i s list refl (λ es. refl) there within may;
      };
      holder = refl;
      moves = Moves-next_state e t i s (record { next = (thread_at s t).next; state = Looking (made + 1) }) turn.within
          (ap (λ (y : Thread). thread_after e y) here.0 ∙ ap (λ (m : ℕ). record { next = m; state = Looking (made + 1) }) (sym turn.next));
    } in
    AreReached-state_after script some e t i op (slice_part i list ∷ tree_part hs (Some t) ∷ thread_part t v true found given ∷ []) at r
    (AreStepParts-both e t i list hs (Some t) v true found given (λ b. refl)) turn.is turn.within (inl within) (λ x last_is. inl last_is)
    (step_looks script t made op s now turn.phase turn.is turn.place (slice_get_within (looks_of script s.journals.tree (length s.journals.tree) op) made job job_is) row)
    (λ other m place is_other.
    let had : HasLooked script s t op found = subst (λ l. HasLooked script s t op l) here.2 (r.looked t made op turn.place turn.is) in
    let apart : AreDistinct (pairs_for script s.journals.tree op) = subst (λ (l : List TreeEntryValue). AreDistinct (pairs_for script l op)) (sym tree.0) distinct in
    let more = look_looked script t op s now found apart had row in
    let same : op ≡ other = same_op script t (thread_at now t).next op other (ap (λ (y : Thread). op_at script t y.next) row.moves.there ∙ turn.is) is_other in
    let lines : lines_in x.what ≡ more.0 = ap lines_in more.1.1 in
    subst (λ (o : Op). HasLooked script now t o (found_after e (r.found t))) same
    (subst (λ l. HasLooked script now t op l) (λ j. sym here.2 j ++ sym lines j ∷ []) more.2))

-- after that it does not look
place_behind-not_looking : (next made all m : ℕ) → (place_behind next made all).state ≡ Looking m → ⊥
place_behind-not_looking next made all m is = elim (cases_Bool (nat_lt made all)) [
  | inl h ↦ let there : place_behind next made all ≡ record { next = next; state = Following made } = cond-true (nat_lt made all) (record { next = next; state = Following made }) (record { next = next + 1; state = Ready }) h in cc
  | inr h ↦ let there : place_behind next made all ≡ record { next = next + 1; state = Ready } = cond-false (nat_lt made all) (record { next = next; state = Following made }) (record { next = next + 1; state = Ready }) h in cc
]

-- where a thread and the holder are after so many entries
place_behind-last : (n m made all : ℕ) (last : Bool) → last ≡ not (nat_lt made all) → n ≡ m
    → ((if last then record { next = n + 1; state = Ready } else record { next = n; state = Following made }) ≡ place_behind m made all)
place_behind-last n m made all last is same = elim (cases_Bool (nat_lt made all)) [
  | inl h ↦ cond-false last (record { next = n + 1; state = Ready }) (record { next = n; state = Following made }) (is ∙ ap not h) ∙ (ap (λ (k : ℕ). record { next = k; state = Following made }) same ∙ sym (cond-true (nat_lt made all) (record { next = m; state = Following made }) (record { next = m + 1; state = Ready }) h))
  | inr h ↦ cond-true last (record { next = n + 1; state = Ready }) (record { next = n; state = Following made }) (is ∙ ap not h) ∙ (ap (λ (k : ℕ). record { next = k + 1; state = Ready }) same ∙ sym (cond-false (nat_lt made all) (record { next = m; state = Following made }) (record { next = m + 1; state = Ready }) h))
]

holder_behind-last : (t made all : ℕ) (last : Bool) → last ≡ not (nat_lt made all) → (if last then None else Some t) ≡ holder_behind t made all
holder_behind-last t made all last is = elim (cases_Bool (nat_lt made all)) [
  | inl h ↦ cond-false last None (Some t) (is ∙ ap not h) ∙ sym (cond-true (nat_lt made all) (Some t) None h)
  | inr h ↦ cond-true last None (Some t) (is ∙ ap not h) ∙ sym (cond-false (nat_lt made all) (Some t) None h)
]

-- it is decided
pub decide_may_happen : (script : ScriptValue) → 0 < script.machine.slices → DecideMayHappen script
decide_may_happen script some t n op hs found given h last is looked thread number may all count each ends at r fit =
    let s = r.state in
    let made : ℕ = length found in
    let v : Thread = record { next = n; state = Looking made } in
    let e : HappeningValue = Decide h last made in
    let here = thread_at-part script at r t v true found given fit.1.0 in
    let turn = HasTurn-op script some at r t v op found given fit.1.0 is in
    let tree = tree-part script at r hs (Some t) fit.0 in
    let now : MachineValue = next_state e t 0 s in
    let jobs : ℕ = length (jobs_of script s.journals.tree (length s.journals.tree) op) in
    let ends_here : last ≡ not (nat_lt made jobs) = ends ∙ ap (λ (l : List TreeEntryValue). not (nat_lt made (length (jobs_of script l (length l) op)))) (sym tree.0) in
    let row : Decides script t made op s now = record {
      entry = h;
      thread = thread;
      number = number ∙ sym turn.next;
      may = subst (λ (l : List TreeEntryValue). CommandMayFollow script l h) (sym tree.0) may;
      looks = looked_given script s t op found h (subst (λ l. HasLooked script s t op l) here.2 (r.looked t made op turn.place turn.is)) thread (number ∙ sym turn.next)
          (all ∙ ap (λ (l : List TreeEntryValue). length (needs script.machine (tree_after script l) op) * script.machine.slices) (sym tree.0))
          (count ∙ ap (λ (l : List TreeEntryValue). length (needs script.machine (tree_after script l) op)) (sym tree.0))
          (λ q low. each q (subst (λ (l : List TreeEntryValue). q < length (needs script.machine (tree_after script l) op)) tree.0 low));
      tree = refl;
      slices = same_slices e 0 s (λ es. refl);
      holder = ap (λ (o : Option ℕ). if last then None else o) tree.1 ∙ holder_behind-last t made jobs last ends_here;
      moves = Moves-next_state e t 0 s (place_behind (thread_at s t).next made jobs) turn.within (place_behind-last (thread_at s t).next (thread_at s t).next made jobs last ends_here refl);
    } in
    AreReached-state_after script some e t 0 op (tree_part hs (Some t) ∷ thread_part t v true found given ∷ []) at r
    (AreStepParts-tree e t 0 hs (Some t) v true found given (λ b. refl) (λ es. refl)) turn.is turn.within (inr (λ es. refl)) (λ x last_is. inl last_is)
    (step_decides script t made op s now turn.phase turn.is turn.place (subst (λ (l : List TreeEntryValue). length (looks_of script l (length l) op) ≤ made) (sym tree.0) looked) row)
    (λ other m place is_other. absurd (place_behind-not_looking (thread_at s t).next made jobs m (ap (λ (y : Thread). y.state) (sym row.moves.there) ∙ place)))

-- what follows it is done
pub follow_may_happen : (script : ScriptValue) → 0 < script.machine.slices → FollowMayHappen script
follow_may_happen script some t n made position op hs job list x last found given is decided next pays low may ends at r fit =
    let s = r.state in
    let i : ℕ = job.slice in
    let v : Thread = record { next = n; state = Following made } in
    let e : HappeningValue = Follow x last in
    let here = thread_at-part script at r t v true found given fit.1.1.0 in
    let turn = HasTurn-op script some at r t v op found given fit.1.1.0 is in
    let tree = tree-part script at r hs (Some t) fit.1.0 in
    let there : slice_at s.journals i ≡ list = slice_at-part script at r i list fit.0 in
    let within : i < length s.journals.slices = slice_within script some at r i low in
    let now : MachineValue = next_state e t i s in
    let jobs : ℕ = length (jobs_of script s.journals.tree position op) in
    let ends_here : last ≡ not (nat_lt (made + 1) jobs) = ends ∙ ap (λ (l : List TreeEntryValue). not (nat_lt (made + 1) (length (jobs_of script l position op)))) (sym tree.0) in
    let row : Follows script t made op s now = record {
      position = position;
      last = ap (λ (l : List TreeEntryValue). length l) tree.0 ∙ decided;
      job = job;
      there = subst (λ (l : List TreeEntryValue). At (jobs_of script l position op) made job) (sym tree.0) next;
      makes = record {
        entry = x;
        pays = record { thread = pays.thread; op = pays.op ∙ sym turn.next; owed = pays.owed };
        notes = Notes-next_state script.machine e x t i s list refl (λ es. refl) there within may;
      };
      holder = ap (λ (o : Option ℕ). if last then None else o) tree.1 ∙ holder_behind-last t (made + 1) jobs last ends_here;
      moves = Moves-next_state e t i s (place_behind (thread_at s t).next (made + 1) jobs) turn.within
          (ap (λ (y : Thread). thread_after e y) here.0 ∙ place_behind-last n (thread_at s t).next (made + 1) jobs last ends_here (sym turn.next));
    } in
    AreReached-state_after script some e t i op (slice_part i list ∷ tree_part hs (Some t) ∷ thread_part t v true found given ∷ []) at r
    (AreStepParts-both e t i list hs (Some t) v true found given (λ b. refl)) turn.is turn.within (inl within) (λ x last_is. inl last_is)
    (step_follows script t made op s now turn.phase turn.is turn.place row)
    (λ other m place is_other. absurd (place_behind-not_looking (thread_at s t).next (made + 1) jobs m (ap (λ (y : Thread). y.state) (sym row.moves.there) ∙ place)))

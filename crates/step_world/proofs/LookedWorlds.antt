-- A command of a world looks at a slice.
use Rattle.std.proofs.Common.{◌≡◌, ℕ, suc, ◌+◌, ◌*◌, ◌<◌, ◌≤◌, inl, inr, List, [], ◌∷◌, ◌++◌, length, map, get_or, set, Some, refl, sym, ap, ◌∙◌, subst, arith}
use Rattle.std.specs.Prelude.{IsSome, slice_get}
use Rattle.std.proofs.lemmas.Bool.{cases_lt}
use Rattle.std.proofs.lemmas.List.{length_push}
use Rattle.std.proofs.lemmas.Nat.{mul-le}
use Rattle.std.proofs.lemmas.Option.{slice_get_within, same_Some}
use Rattle.cache_core.specs.History.{lines_of}
use Rattle.cache_core.specs.Stands.{entry}
use Rattle.cache_core.specs.declared.entry.SliceEntry.{SliceEntry}
use Rattle.cache_core.specs.declared.entry.What.TheVariants as whats
use Rattle.machine.specs.Slices.{slice_number}
use Rattle.rc_base.specs.Buffers.{Looks as LooksValue}
use Rattle.run_law.proofs.laws.DistinctLooks.{distinct_pairs}
use Rattle.run_law.proofs.laws.LookPositions.{pair_at}
use Rattle.run_law.proofs.laws.FoundSums.{AreDistinct-pairs, At-map, found_at-last, found_at-push, get-push_front, get-push_last}
use Rattle.run_law.proofs.laws.JobKinds.{look_of, looks_are}
use Rattle.run_law.proofs.laws.Lines.{lines_of-few}
use Rattle.run_law.specs.Entries.{entry_value}
use Rattle.run_law.specs.FoundLooks.{AreDistinct, found_at, look_pairs, pairs_for}
use Rattle.run_law.specs.Jobs.{Job, looks_of}
use Rattle.run_law.specs.Journals.{At}
use Rattle.run_law.specs.Progress.{Progress}
use Rattle.run_law.specs.TreeHistory.{tree_after}
use Rattle.script_ops.specs.Values.{ScriptValue, op_at}
use Rattle.script_ops.specs.declared.op.Op.{Op}
use Rattle.step_world.proofs.KeptWorlds.{AreInPlay-set, IsWorldOf-step, Leaves, moves-leaves, notes-grows}
use Rattle.step_world.proofs.laws.LookedCounts.{look_looked}
use Rattle.step_world.proofs.NotedLists.{list-noted}
use Rattle.step_world.proofs.SoundStates.{IsSound-now}
use Rattle.step_world.proofs.StepParts.{looking_is}
use Rattle.step_world.proofs.laws.StepRows.{step_looks}
use Rattle.step_world.proofs.TakenWorlds.{within-next}
use Rattle.step_world.specs.Answers.{HasCounted, HasNext}
use Rattle.step_world.specs.Looked.{HasLooked}
use Rattle.step_world.specs.Machine.{Looks, Moves, Notes, Steps, thread_at}
use Rattle.step_world.specs.Moments.{progress_by}
use Rattle.step_world.specs.Slices.{CountsLines, SliceValue}
use Rattle.step_world.specs.Works.{CountsOn}
use Rattle.step_world.specs.Worlds.{AreInPlay, HasList, IsLookingAt, IsTreeOf, IsWorldOf, machine_of}
use Rattle.step_world.specs.declared.thread_state.ThreadState.TheVariants.{Looking}
use Rattle.step_world.specs.declared.thread_state.Thread.{Thread}
use Rattle.step_world.specs.declared.world.World.{World}
use Rattle.tree_law.proofs.laws.DistinctCounts.{needs-distinct}
use Rattle.tree_law.specs.Sound.{IsSound}
use Rattle.tree_law.specs.Steps.{needs}

module _ (script : ScriptValue) (t : ℕ) (op : Op) (old : World) (world : IsWorldOf script old) (next : HasNext script (machine_of old) t op) (lists : List LooksValue) (its : IsLookingAt script (machine_of old) t op lists old.work) where
  abbrev now_needs : List (ℕ × ℕ)
  now_needs = needs script.machine (tree_after script (machine_of old).journals.tree) op

  -- it holds the tree
  pub holds : old.holder ≡ Some t
  holds = (world.so_far.held t).0 (let at = ap (progress_by (thread_at (machine_of old) t).next) its.looked.place in subst (λ (p : Progress). IsSome p.made) (sym at) refl)

  -- all its looks differ
  apart : AreDistinct (pairs_for script (machine_of old).journals.tree op)
  apart =
      let sound : IsSound script.machine (tree_after script (machine_of old).journals.tree) = IsSound-now script (machine_of old) world.lawful world.so_far in
      distinct_pairs script.machine now_needs (AreDistinct-pairs now_needs (needs-distinct script.machine (tree_after script (machine_of old).journals.tree) op sound))

  -- the work after one look more
  looked-work : (new : World) (here : ℕ) (now : List LooksValue) → (machine_of new).journals.tree ≡ (machine_of old).journals.tree → (thread_at (machine_of new) t).next ≡ (thread_at (machine_of old) t).next
      → old.work.at < length now_needs → here ≤ 2097152 → HasLooked script (machine_of new) t op (its.found ++ here ∷ []) → CountsOn script.machine.slices here old.work new.work lists now
      → IsLookingAt script (machine_of new) t op now new.work
  looked-work new here now tree same less few looked on = elim (cases_lt (old.work.slice + 1) script.machine.slices) [
    | inl within ↦
        let (at, slice, lines, list) = on.within within in
        record {
          found = its.found ++ here ∷ [];
          looked = looked;
          counts = λ some. on.counts ∙ (its.counts (omega (arith, some, on.count)) ∙ ap (λ hs. Some (needs script.machine (tree_after script hs) op)) (sym tree));
          number = on.count ∙ (its.number ∙ ap (λ hs. length (needs script.machine (tree_after script hs) op)) (sym tree));
          few = omega (arith, on.count, its.few);
          made = let product : new.work.at * script.machine.slices ≡ old.work.at * script.machine.slices = ap (λ k. k * script.machine.slices) at in omega (arith, length_push its.found here, its.made, product, slice);
          within = subst (λ hs. new.work.at ≤ length (needs script.machine (tree_after script hs) op)) (sym tree) (omega (arith, at, less));
          slice = omega (arith, slice, within);
          last = λ end. absurd (omega (arith, at, less, end, ap (λ hs. length (needs script.machine (tree_after script hs) op)) tree));
          numbers = its.numbers;
          list = subst (λ k. HasList script t k its.numbers now) (sym same) (subst (λ ls. HasList script t (thread_at (machine_of old) t).next its.numbers ls) (sym list) its.list);
          count = its.count ∙ sym at;
          each = λ q below. before q (omega (arith, below, at));
          lines = lines ∙ (ap (λ k. k + here) its.lines ∙ (sym (found_at-last script.machine.slices its.found here old.work.at old.work.slice its.made) ∙ (ap (λ k. found_at script.machine.slices (its.found ++ here ∷ []) old.work.at k) (sym slice) ∙ ap (λ k. found_at script.machine.slices (its.found ++ here ∷ []) k new.work.slice) (sym at))));
          bound = let product : new.work.slice * 2097152 ≡ old.work.slice * 2097152 + 2097152 = ap (λ k. k * 2097152) slice ∙ omega arith in omega (arith, lines, its.bound, few, product);
        }
    | inr past ↦
        let (at, slice, lines, noted) = on.last past in
        let end : old.work.slice + 1 ≡ script.machine.slices = omega (arith, past, its.slice) in
        let sum : old.work.lines + here ≡ found_at script.machine.slices (its.found ++ here ∷ []) old.work.at script.machine.slices =
        ap (λ k. k + here) its.lines ∙ (sym (found_at-last script.machine.slices its.found here old.work.at old.work.slice its.made) ∙ ap (λ k. found_at script.machine.slices (its.found ++ here ∷ []) old.work.at k) end) in
        record {
          found = its.found ++ here ∷ [];
          looked = looked;
          counts = λ some. on.counts ∙ (its.counts (omega (arith, some, on.count)) ∙ ap (λ hs. Some (needs script.machine (tree_after script hs) op)) (sym tree));
          number = on.count ∙ (its.number ∙ ap (λ hs. length (needs script.machine (tree_after script hs) op)) (sym tree));
          few = omega (arith, on.count, its.few);
          made = let product : new.work.at * script.machine.slices ≡ old.work.at * script.machine.slices + script.machine.slices = ap (λ k. k * script.machine.slices) at ∙ omega arith in omega (arith, length_push its.found here, its.made, product, slice, end);
          within = subst (λ hs. new.work.at ≤ length (needs script.machine (tree_after script hs) op)) (sym tree) (omega (arith, at, less));
          slice = omega (arith, slice, its.slice);
          last = λ is. slice;
          numbers = its.numbers ++ (old.work.lines + here) ∷ [];
          list = subst (λ k. HasList script t k (its.numbers ++ (old.work.lines + here) ∷ []) now) (sym same) (list-noted script t (thread_at (machine_of old) t).next its.numbers (old.work.lines + here) lists now its.list noted);
          count = length_push its.numbers (old.work.lines + here) ∙ omega (arith, its.count, at);
          each = λ q below. elim (cases_lt q old.work.at) [
            | inl earlier ↦ get-push_front its.numbers (old.work.lines + here) q (omega (arith, earlier, its.count)) ∙ before q earlier
            | inr this ↦
                let is : q ≡ old.work.at = omega (arith, this, below, at) in
                get-push_last its.numbers (old.work.lines + here) q (omega (arith, is, its.count)) ∙ ap (λ k. Some k) (sum ∙ ap (λ k. found_at script.machine.slices (its.found ++ here ∷ []) k script.machine.slices) (sym is))
          ];
          lines = lines ∙ ap (λ k. found_at script.machine.slices (its.found ++ here ∷ []) new.work.at k) (sym slice);
          bound = omega (arith, lines);
        }
  ]
    where
      before : (q : ℕ) → q < old.work.at → slice_get its.numbers q ≡ Some (found_at script.machine.slices (its.found ++ here ∷ []) q script.machine.slices)
      before q earlier =
          let fits : q * script.machine.slices + script.machine.slices ≤ length its.found = omega (arith, its.made, mul-le-suc q old.work.at script.machine.slices earlier) in
          its.each q earlier ∙ ap (λ k. Some k) (sym (found_at-push script.machine.slices its.found here q script.machine.slices fits))
        where
          mul-le-suc : (a b c : ℕ) → a < b → a * c + c ≤ b * c
          mul-le-suc a b c less = let product : suc a * c ≡ a * c + c = omega arith in omega (arith, mul-le (suc a) c b c (omega (arith, less)) (omega arith), product)

  -- it has looked
  pub counted : (new : World) (made n i here : ℕ) (need : ℕ × ℕ) (s : SliceValue) → n ≡ (thread_at (machine_of old) t).next → (thread_at (machine_of old) t).state ≡ Looking made
      → slice_get now_needs old.work.at ≡ Some need → i ≡ slice_number script.machine need.0 old.work.slice → i < length old.slices.items
      → CountsLines t n (length (machine_of old).journals.tree) need.1 here (get_or old.slices.items i s) s
      → new.tree ≡ old.tree → new.commands ≡ old.commands → new.slices.items ≡ set old.slices.items i s → new.holder ≡ old.holder → Leaves t (record { next = n; state = Looking (made + 1) }) old new
      → ((d : List LooksValue) → get_or old.lists.items t d ≡ lists) → (now : List LooksValue) → ((d : List LooksValue) → get_or new.lists.items t d ≡ now) → CountsOn script.machine.slices here old.work new.work lists now
      → IsWorldOf script new × HasCounted script t here op (machine_of old) (machine_of new)
  counted new made n i here need s number place there slice inside counts tree commands slices holder leaves lists_are now now_are on =
      let m = script.machine in
      let thread : Thread = record { next = n; state = Looking (made + 1) } in
      let e : SliceEntry = entry t n (length (machine_of old).journals.tree) (whats.Look need.1 here) in
      let within = within-next script old t op world next in
      let made_is : made ≡ length its.found = looking_is made (length its.found) (sym place ∙ its.looked.place) in
      let less : old.work.at < length now_needs = slice_get_within now_needs old.work.at need there in
      let moves : Moves t thread (machine_of old) (machine_of new) = moves-leaves t thread old new within leaves in
      let notes : Notes m i e (machine_of old) (machine_of new) = notes-grows script old new i e s inside (ap (λ cs. cs.items) commands) slices counts.grows world in
      let job : Job = record { slice = i; owed = record { epoch = length (machine_of old).journals.tree; what = whats.Look need.1 0 } } in
      let pair : At (look_pairs m now_needs) (length its.found) (i, need.1) = subst (λ k. At (look_pairs m now_needs) k (i, need.1)) (sym its.made) (subst (λ k. At (look_pairs m now_needs) (old.work.at * m.slices + old.work.slice) (k, need.1)) (sym slice) (pair_at m now_needs old.work.at old.work.slice need there its.slice)) in
      let at : At (looks_of script (machine_of old).journals.tree (length (machine_of old).journals.tree) op) (length its.found) job =
      subst (λ jobs. At jobs (length its.found) job) (looks_are script (machine_of old).journals.tree op) (At-map (look_of (length (machine_of old).journals.tree)) (look_pairs m now_needs) (length its.found) (i, need.1) pair) in
      let row : Looks script t (length its.found) op (machine_of old) (machine_of new) = record {
        job = job;
        there = at;
        makes = record { entry = e; pays = record { thread = refl; op = number; owed = refl }; notes = notes };
        holder = holder;
        moves = subst (λ k. Moves t (record { next = k; state = Looking (length its.found + 1) }) (machine_of old) (machine_of new)) number (subst (λ k. Moves t (record { next = n; state = Looking (k + 1) }) (machine_of old) (machine_of new)) made_is moves);
      } in
      let all : length its.found < length (looks_of script (machine_of old).journals.tree (length (machine_of old).journals.tree) op) = slice_get_within (looks_of script (machine_of old).journals.tree (length (machine_of old).journals.tree) op) (length its.found) job at in
      let step : Steps script t (machine_of old) (machine_of new) = step_looks script t (length its.found) op (machine_of old) (machine_of new) next.present next.is its.looked.place all row in
      let (lines, what, looked) = look_looked script t op (machine_of old) (machine_of new) its.found apart its.looked row in
      let same_lines : lines ≡ here = look_lines what.0 need.1 lines here (sym what.1) in
      let history = (get_or old.slices.items i s).entries in
      let cache = world.slices.caches i s inside in
      let few : here ≤ 2097152 = omega (arith, counts.counts history cache.stands, ap (λ shape. lines_of shape history need.1) cache.shape, lines_of-few m i history need.1 world.lawful.in_range) in
      let now_next : (thread_at (machine_of new) t).next ≡ (thread_at (machine_of old) t).next = ap (λ (v : Thread). v.next) moves.there ∙ number in
      let trees : (machine_of new).journals.tree ≡ (machine_of old).journals.tree = notes.tree in
      let work : IsLookingAt script (machine_of new) t op now new.work = looked-work new here now trees now_next less few (subst (λ k. HasLooked script (machine_of new) t op (its.found ++ k ∷ [])) same_lines looked) on in (
        IsWorldOf-step script old new t thread world within step leaves
            (subst (λ cs. IsTreeOf script (map entry_value cs.items) new.tree) (sym commands) (subst (λ x. IsTreeOf script (map entry_value old.commands.items) x) (sym tree) world.tree))
            (subst (λ ss. AreInPlay script ss) (sym slices) (AreInPlay-set script old.slices.items i e s inside counts.grows world.slices))
            (λ d. (work.numbers, subst (λ ls. HasList script t n work.numbers ls) (sym (now_are d)) (subst (λ k. HasList script t k work.numbers now) (now_next ∙ sym number) work.list)))
            (λ other d held is.
            let one : op ≡ other = same_Some op other (sym next.is ∙ subst (λ k. op_at script t k ≡ Some other) number is) in
            subst (λ c. IsLookingAt script (machine_of new) t c (get_or new.lists.items t d) new.work) one (subst (λ ls. IsLookingAt script (machine_of new) t op ls new.work) (sym (now_are d)) work)),
        record { made = length its.found; place = its.looked.place; row = row; counts = (need.1, refl) },
      )
    where
      look_lines : (r q lines here : ℕ) → whats.Look r lines ≡ whats.Look q here → lines ≡ here
      look_lines r q lines here h = cc

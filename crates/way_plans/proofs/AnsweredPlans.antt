-- The commands of a plan are answered with success, and make the plan.
use Rattle.std.proofs.Common.{Bool, List, [], ap, append_assoc, arith, cond, false, get_or, inl, inr, length, length-append, map, refl, subst, sym, take_all, true, true≢false, zero-add, ℕ, ◌++◌, ◌+◌, ◌<◌, ◌∙◌, ◌∷◌, ◌≡◌, ◌≢◌, ◌⊎◌}
use Rattle.std.proofs.lemmas.Bool.{eq-eqb, eqb-true}
use Rattle.std.proofs.lemmas.List.Elements.{All-from_recursion, recursion_from_All}
use Rattle.std.proofs.lemmas.List.Folds.{list_any_at}
use Rattle.std.proofs.lemmas.List.Kept.{AllPairs-filter}
use Rattle.std.proofs.lemmas.List.{get_or-append-add, get_or-map, get_or_default}
use Rattle.std.specs.List.{AllByRecursion, flat_map}
use Rattle.std.specs.Prelude.{All}
use Rattle.group_tree.specs.Records.{has_gid}
use Rattle.group_tree.specs.declared.group.Group.{Group}
use Rattle.lists.proofs.Keyed.{get_or-key, place-key}
use Rattle.lists.proofs.Tests.{All-kept, IsFound-all, find-found, list_any-kept}
use Rattle.machine.specs.Ranges.{InRange}
use Rattle.machine.specs.declared.parameters.Parameters.{Parameters}
use Rattle.run_law.proofs.laws.SoundHistories.{IsSound-take}
use Rattle.run_law.specs.Journals.{JournalsValue}
use Rattle.run_law.specs.Runs.{IsRun}
use Rattle.run_law.specs.TreeHistory.{TreeEntryValue, tree_after}
use Rattle.schemata_text.specs.Printed.{ReadsBack}
use Rattle.script_ops.specs.Values.{IsLawful, ScriptValue}
use Rattle.script_ops.specs.declared.op.Op.{Op}
use Rattle.tree_law.specs.Counted.{is_counted}
use Rattle.tree_law.specs.Sound.{IsSound}
use Rattle.tree_law.specs.State.{State}
use Rattle.way_plans.proofs.ClosedGroups.{Closing, HasPlace, IsExclusive, closing}
use Rattle.way_plans.proofs.CommandSteps.{AreAnswered-append, played-append}
use Rattle.way_plans.proofs.GivenWays.{Giving, StandFrom, giving, ways_ops}
use Rattle.way_plans.proofs.OwnDirectories.{gid_number, group_of-own}
use Rattle.way_plans.proofs.PlannedEntries.{AreGiven}
use Rattle.way_plans.proofs.PlannedMasks.{AreGiven-planned, nothing, planned_mask, schemata_ops-planned}
use Rattle.way_plans.proofs.SharedGroups.{IsCovered, Sharing, WasExclusive, sharing}
use Rattle.way_plans.proofs.Stages.{IsDone, Stands, Whichever}
use Rattle.way_plans.specs.Masks.{mask_of, span_at}
use Rattle.way_plans.specs.PlanCommands.{AreAnswered, IsMade, PlansAreAnswered, PlansAreMade, exclusive_op, plan_ops, played, schemata_ops, shareable_ops}
use Rattle.way_plans.specs.PlanTexts.{DomainPart, is_whole}
use Rattle.way_plans.specs.Planned.{AreParts}
use Rattle.way_plans.specs.Plans.{planned}

-- ---- the groups of a plan

module _ (m : Parameters) (s : State) (sound : IsSound m s) where
  -- they stand in the tree
  AllStand-planned : (K : Group → Group → Type 0) → ((g : Group) → K g g) → AllByRecursion (Stands K s.groups) (planned s)
  AllStand-planned K kept = recursion_from_All (Stands K s.groups) (planned s) (All-kept (Stands K s.groups) is_counted s.groups (λ k d within counted.
      record { group = get_or s.groups k d; found = group_of-own m s sound k d within counted; named = refl; counted = counted; kept = kept (get_or s.groups k d) }))

  -- and no other counted group does
  IsCovered-planned : All (IsCovered (planned s)) s.groups
  IsCovered-planned = λ k d within counted.
      let y : Group = get_or s.groups k d in
      list_any-kept (has_gid y.gid) is_counted s.groups
      (λ i e below has. ap is_counted (get_or-key gid_number s.groups y y sound.named.gids (group_of-own m s sound k d within counted) i e below has) ∙ counted)
      (list_any_at (has_gid y.gid) s.groups k d within (eq-eqb y.gid.0 y.gid.0 refl))

-- the gids of groups by their places
StandFrom-all : (before : List ℕ) (rest : List Group) → StandFrom (λ i. get_or (before ++ map gid_number rest) i 0) (length before) rest
StandFrom-all before [] = tt
StandFrom-all before (p ∷ rest) =
    let place : length before ≡ length before + 0 = omega arith in
    let gids : (before ++ p.gid.0 ∷ []) ++ map gid_number rest ≡ before ++ map gid_number (p ∷ rest) = append_assoc before (p.gid.0 ∷ []) (map gid_number rest) in
    let long : length (before ++ p.gid.0 ∷ []) ≡ length before + 1 = length-append before (p.gid.0 ∷ []) in (
      ap (λ (n : ℕ). get_or (before ++ map gid_number (p ∷ rest)) n 0) place ∙ get_or-append-add before (map gid_number (p ∷ rest)) 0 0,
      subst (λ (n : ℕ). StandFrom (λ i. get_or (before ++ map gid_number (p ∷ rest)) i 0) n rest) long
          (subst (λ (xs : List ℕ). StandFrom (λ i. get_or xs i 0) (length (before ++ p.gid.0 ∷ [])) rest) gids (StandFrom-all (before ++ p.gid.0 ∷ []) rest)),
    )

-- ---- the commands

module _ (script : ScriptValue) (j : JournalsValue) (parts : List DomainPart) (reads_back : ReadsBack) (range : InRange script.machine) (are : AreParts script j parts) (sound : IsSound script.machine (tree_after script j.tree)) (is : is_whole parts ≡ true) where
  abbrev m : Parameters
  m = script.machine

  abbrev s : State
  s = tree_after script j.tree

  abbrev groups : List Group
  groups = planned s

  -- the gid of the group at a place
  abbrev gid_at : ℕ → ℕ
  gid_at place = get_or (map gid_number groups) place 0

  -- each of the commands of a whole plan is answered, and then no group is to come
  record ArePlayed (ops : List Op) : Type 0 where
    answered : AreAnswered m s ops
    closed : Closing m range s.regions groups (length groups) (planned_mask parts) (AreGiven-planned script j parts are is sound range.some_min range.way_limit) gid_at [] (played m s ops)

  ops-played : ArePlayed (flat_map shareable_ops groups ++ schemata_ops m.ways parts 0 groups ++ map exclusive_op groups)
  ops-played =
      let mask = planned_mask parts in
      let given : AreGiven m s.regions (length groups) mask = AreGiven-planned script j parts are is sound range.some_min range.way_limit in
      let covered = IsCovered-planned m s sound in
      let start : Sharing m range s.regions groups groups s = record {
        sound = sound;
        regions_same = refl;
        whole = AllStand-planned m s sound Whichever (λ g. tt);
        stand = AllStand-planned m s sound WasExclusive (λ g exclusive. exclusive);
        each = covered;
        done = λ k d within counted. inr (covered k d within counted);
      } in
      let first_ops = flat_map shareable_ops groups in
      let first = sharing m range s.regions groups groups s start in
      let shared : State = played m s first_ops in
      let middle : Giving m range s.regions groups (length groups) mask given reads_back gid_at groups shared = record {
        sound = first.1.sound;
        regions_same = first.1.regions_same;
        whole = first.1.whole;
        stand = first.1.whole;
        each = λ k d within counted. (only (first.1.done k d within counted), first.1.each k d within counted);
        done = λ k d within counted. inr (first.1.each k d within counted);
      } in
      let second = giving m range s.regions groups (length groups) mask given reads_back gid_at 0 groups shared (zero-add (length groups)) (StandFrom-all [] groups) middle in
      let second_ops = ways_ops m mask 0 groups in
      let given_state : State = played m shared second_ops in
      let last : Closing m range s.regions groups (length groups) mask given gid_at groups given_state = record {
        sound = second.1.sound;
        regions_same = second.1.regions_same;
        whole = second.1.whole;
        stand = second.1.whole;
        each = λ k d within counted. only (second.1.done k d within counted);
        done = λ k d within counted. inr (second.1.each k d within counted).1;
      } in
      let third = closing m range s.regions groups (length groups) mask given gid_at groups given_state last in
      let third_ops = map exclusive_op groups in
      let there : played m s (first_ops ++ second_ops) ≡ given_state = played-append m s first_ops second_ops in
      let finish : played m s (first_ops ++ second_ops ++ third_ops) ≡ played m given_state third_ops = played-append m s (first_ops ++ second_ops) third_ops ∙ ap (λ (t : State). played m t third_ops) there in
      subst (λ (ops : List Op). ArePlayed (flat_map shareable_ops groups ++ ops ++ map exclusive_op groups)) (sym (schemata_ops-planned script j parts are is 0 groups)) (record {
        answered = AreAnswered-append m s (first_ops ++ second_ops) third_ops (AreAnswered-append m s first_ops second_ops first.0 second.0) (subst (λ (t : State). AreAnswered m t third_ops) (sym there) third.0);
        closed = subst (Closing m range s.regions groups (length groups) mask given gid_at []) (sym finish) third.1;
      })
    where
      only : {X : Type 0} → X ⊎ (false ≡ true) → X
      only (inl x) = x
      only (inr e) = absurd (true≢false (sym e))

  -- the same of the commands as the plan has them
  plan_ops-played : ArePlayed (plan_ops m.ways groups parts)
  plan_ops-played = subst (λ (b : Bool). ArePlayed (cond b (flat_map shareable_ops groups ++ schemata_ops m.ways parts 0 groups ++ map exclusive_op groups) [])) (sym is) ops-played

  -- the group at a place is exclusive then, and has the masks of the place
  pub IsMade-planned : (place : ℕ) (d : Group) → place < length groups → IsMade m (played m s (plan_ops m.ways groups parts)) parts place (get_or groups place d)
  IsMade-planned place d within =
      let final : State = played m s (plan_ops m.ways groups parts) in
      let closed = plan_ops-played.closed in
      let p : Group = get_or groups place d in
      let st : Stands Whichever final.groups p = All-from_recursion (Stands Whichever final.groups) groups closed.whole place d within in
      let g : Group = st.group in
      let f = find-found (has_gid p.gid) final.groups g st.found in
      let done : IsDone IsExclusive [] g = IsFound-all (IsDone IsExclusive []) (has_gid p.gid) final.groups g f closed.done in
      let ways = IsFound-all (HasPlace m (length groups) (planned_mask parts) gid_at) (has_gid p.gid) final.groups g f closed.each st.counted in
      let own : p.gid.0 ≡ g.gid.0 = eqb-true p.gid.0 g.gid.0 f.passes in
      let there : (get_or groups ways.place d).gid.0 ≡ g.gid.0 = sym (get_or-map gid_number groups ways.place d 0 ways.within) ∙ ways.gid in
      let same : ways.place ≡ place = place-key gid_number groups ways.place place d (AllPairs-filter (λ (a b : Group). a.gid.0 ≢ b.gid.0) is_counted s.groups sound.named.gids) ways.within within (there ∙ sym own) in
      record {
        group = g;
        found = st.found;
        exclusive = only (done st.counted);
        masks = λ domain e lt.
            let known : domain < length parts = omega (arith, lt, are.all) in
            ways.masks domain lt ∙ (ap (planned_mask parts domain) same ∙ ap (λ (q : DomainPart). mask_of (span_at q.spans place)) (get_or_default parts domain nothing e known));
      }
    where
      only : {X : Type 0} → X ⊎ (false ≡ true) → X
      only (inl x) = x
      only (inr e) = absurd (true≢false (sym e))

  pub answered-planned : AreAnswered m s (plan_ops m.ways groups parts)
  answered-planned = plan_ops-played.answered

-- the state that a script leaves is sound
sound-left : (script : ScriptValue) (j : JournalsValue) → IsLawful script → IsRun script j → IsSound script.machine (tree_after script j.tree)
sound-left script j lawful run =
    subst (λ (t : List TreeEntryValue). IsSound script.machine (tree_after script t)) (take_all (length j.tree) j.tree (omega arith)) (IsSound-take script j.tree lawful run.tree_legal (length j.tree) (omega arith))

-- each command of a plan is answered with success
pub plans-answered : ReadsBack → PlansAreAnswered
plans-answered reads_back = λ script j parts lawful run are. at script j parts lawful.in_range are (sound-left script j lawful run) (is_whole parts) refl
  where
    at : (script : ScriptValue) (j : JournalsValue) (parts : List DomainPart) → InRange script.machine → AreParts script j parts → IsSound script.machine (tree_after script j.tree) → (b : Bool) → is_whole parts ≡ b
        → AreAnswered script.machine (tree_after script j.tree) (plan_ops script.machine.ways (planned (tree_after script j.tree)) parts)
    at script j parts range are sound true is = answered-planned script j parts reads_back range are sound is
    at script j parts range are sound false is =
        let m = script.machine in
        let groups = planned (tree_after script j.tree) in
        subst (λ (b : Bool). AreAnswered m (tree_after script j.tree) (cond b (flat_map shareable_ops groups ++ schemata_ops m.ways parts 0 groups ++ map exclusive_op groups) [])) (sym is) tt

-- and they make the plan
pub plans-made : ReadsBack → PlansAreMade
plans-made reads_back = λ script j parts lawful run are is place d within. IsMade-planned script j parts reads_back lawful.in_range are (sound-left script j lawful run) is place d within

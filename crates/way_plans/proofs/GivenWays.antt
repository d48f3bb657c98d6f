-- The commands of a plan that give groups their ways.
use Rattle.std.proofs.Common.{List, Ok, Option, Some, [], ap, arith, find, length, refl, subst, sym, true, ℕ, ◌+◌, ◌<◌, ◌∙◌, ◌∷◌, ◌≡◌}
use Rattle.std.proofs.lemmas.Bool.{eqb-true}
use Rattle.std.specs.List.{list_any}
use Rattle.group_tree.specs.Records.{has_gid, mask_in}
use Rattle.group_tree.specs.declared.group.Group.{Group}
use Rattle.lists.proofs.Tests.{IsFound-all, find-found}
use Rattle.machine.specs.Ranges.{InRange}
use Rattle.machine.specs.declared.parameters.Parameters.{Parameters}
use Rattle.path_names.specs.declared.files.FileKind.TheVariants.{Schemata as SchemataFile}
use Rattle.pseudo_lock.specs.declared.region.Region.{Region}
use Rattle.rc_base.specs.declared.names.Mode.TheVariants.{Shareable}
use Rattle.rc_base.specs.declared.replies.Reply.TheVariants as replies
use Rattle.schemata_text.specs.Printed.{ReadsBack, printed}
use Rattle.schemata_text.specs.declared.assignment.Assignment.{Assignment}
use Rattle.script_ops.specs.declared.limits.TheConstants.{MOST_TEXT_BYTES}
use Rattle.script_ops.specs.declared.op.Op.{Op}
use Rattle.tree_law.specs.Counted.{is_counted, is_counted_mode}
use Rattle.tree_law.specs.Places.{with_record}
use Rattle.tree_law.specs.State.{State}
use Rattle.tree_law.specs.Steps.{next}
use Rattle.tree_law.specs.commands.Schemata.{assigned}
use Rattle.way_plans.proofs.AcceptedWrites.{Takes, Takes-schemata, accepted-shareable, schemata-shareable}
use Rattle.way_plans.proofs.CommandSteps.{sound-taken}
use Rattle.way_plans.proofs.PlannedEntries.{AreGiven, against-entries, entries, get_or-assigned, length-printed, schemata_read-printed}
use Rattle.way_plans.proofs.Stages.{Stage, Stage-turned, Stands, Whichever, directory-stands, turned}
use Rattle.way_plans.specs.PlanCommands.{AreAnswered, played, write_op}
use Rattle.way_plans.specs.PlanTexts.{dir_of}

-- the command that gives a group the masks of a place
abbrev pub ways_op : Parameters → (ℕ → ℕ → ℕ) → ℕ → Group → Op
ways_op m mask place p = write_op p SchemataFile (printed m.ways (entries mask place 0 m.domains))

-- the same of several, from a place on
abbrev pub ways_ops : Parameters → (ℕ → ℕ → ℕ) → ℕ → List Group → List Op
ways_ops m mask place [] = []
ways_ops m mask place (p ∷ rest) = ways_op m mask place p ∷ ways_ops m mask (place + 1) rest

-- these groups have the places from one on
abbrev pub StandFrom : (ℕ → ℕ) → ℕ → List Group → Type 0
StandFrom gid_at place [] = Unit {0}
StandFrom gid_at place (p ∷ rest) = (gid_at place ≡ p.gid.0) × StandFrom gid_at (place + 1) rest

-- A group that has the masks of its place.
pub record HasWays (m : Parameters) (count : ℕ) (mask : ℕ → ℕ → ℕ) (gid_at : ℕ → ℕ) (g : Group) : Type 0 where
  pub place : ℕ
  pub within : place < count
  pub gid : gid_at place ≡ g.gid.0
  pub masks : (domain : ℕ) → domain < m.domains → mask_in domain g ≡ mask domain place

-- a counted group is shareable, and one of the plan's
abbrev pub IsOpen : List Group → Group → Type 0
IsOpen plan g = is_counted g ≡ true → (g.mode ≡ Shareable) × (list_any (has_gid g.gid) plan ≡ true)

module _ (m : Parameters) (range : InRange m) (regions : List (Option Region)) (plan : List Group) (count : ℕ) (mask : ℕ → ℕ → ℕ) (given : AreGiven m regions count mask) (reads_back : ReadsBack) (gid_at : ℕ → ℕ) where
  abbrev pub Giving : List Group → State → Type 0
  Giving rest s = Stage m Whichever (IsOpen plan) (HasWays m count mask gid_at) regions plan rest s

  giving-step : (place : ℕ) (p : Group) (rest : List Group) (s : State) → place < count → gid_at place ≡ p.gid.0 → Giving (p ∷ rest) s → (left : State) × Takes m s (ways_op m mask place p) left × Giving rest left
  giving-step place p rest s lt gid stage =
      let st : Stands Whichever s.groups p = stage.stand.0 in
      let g : Group = st.group in
      let all : List Assignment = entries mask place 0 m.domains in
      let f = find-found (has_gid p.gid) s.groups g st.found in
      let mode : g.mode ≡ Shareable = (IsFound-all (IsOpen plan) (has_gid p.gid) s.groups g f stage.each st.counted).0 in
      let places : length g.masks ≡ 8 = IsFound-all (λ (y : Group). length y.masks ≡ 8) (has_gid p.gid) s.groups g f stage.sound.masks.places in
      let own = directory-stands Whichever m s p stage.sound st in
      let read = schemata_read-printed m regions count mask range given place lt reads_back in
      let none = against-entries m regions count mask range given place lt s g stage.regions_same (λ k d within counted. (stage.each k d within counted).0) mode in
      let accepted = accepted-shareable m s g all mode in
      let new : Group = turned g g.mode (assigned g.masks all) in
      let left : State = record (with_record s new) { status = replies.Ok } in
      let first = Takes-schemata m s (dir_of p) (printed m.ways all) g (Ok all) own.1 own.0 read (schemata-shareable m s g all mode none) in
      let taken : Takes m s (ways_op m mask place p) left = record { counts = first.counts; success = first.success; state = first.state ∙ ap (λ (l : State). record l { status = replies.Ok }) accepted } in
      let short = length-printed m regions count mask range given place lt in
      let most : MOST_TEXT_BYTES ≡ 4096 = refl in
      let sound = sound-taken m s (ways_op m mask place p) left range stage.sound (omega (arith, short, most)) taken in
      let has : HasWays m count mask gid_at new = record {
        place = place;
        within = lt;
        gid = gid ∙ gid_same p g s st.found;
        masks = λ domain below. get_or-assigned m regions count mask range given place lt g.masks 0 m.domains domain places (omega arith) (omega (arith, below)) (omega (arith, range.domain_limit));
      } in
      (left, taken, Stage-turned m Whichever (IsOpen plan) (HasWays m count mask gid_at) regions plan p rest s stage g.mode (assigned g.masks all) (ap is_counted_mode mode) left refl refl sound (λ q any. tt) (λ opened counted. opened st.counted) has)
    where
      gid_same : (p g : Group) (s : State) → find (has_gid p.gid) s.groups ≡ Some g → p.gid.0 ≡ g.gid.0
      gid_same p g s found = eqb-true p.gid.0 g.gid.0 (find-found (has_gid p.gid) s.groups g found).passes

  pub giving : (place : ℕ) (rest : List Group) (s : State) → place + length rest ≡ count → StandFrom gid_at place rest → Giving rest s → AreAnswered m s (ways_ops m mask place rest) × Giving [] (played m s (ways_ops m mask place rest))
  giving place [] s whole from stage = (tt, stage)
  giving place (p ∷ rest) s whole from stage =
      let op : Op = ways_op m mask place p in
      let step = giving-step place p rest s (omega (arith, whole)) from.0 stage in
      let taken = step.1 in
      let more = giving (place + 1) rest (next m s op []).state (omega (arith, whole)) from.1 (subst (Giving rest) (sym taken.state) step.2) in
      ((taken.counts, taken.success, more.0), more.1)

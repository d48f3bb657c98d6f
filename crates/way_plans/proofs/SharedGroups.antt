-- The commands of a plan that make groups shareable.
use Rattle.std.proofs.Common.{Bool, List, Option, [], ap, arith, cond, false, inl, inr, refl, subst, sym, true, ◌++◌, ◌∙◌, ◌∷◌, ◌≡◌, ◌⊎◌}
use Rattle.std.specs.List.{flat_map, list_any}
use Rattle.std.specs.Prelude.{codes}
use Rattle.group_tree.specs.Records.{has_gid}
use Rattle.group_tree.specs.declared.group.Group.{Group}
use Rattle.machine.specs.Ranges.{InRange}
use Rattle.machine.specs.declared.parameters.Parameters.{Parameters}
use Rattle.path_names.specs.declared.files.FileKind.TheVariants.{Mode as ModeFile}
use Rattle.pseudo_lock.specs.declared.region.Region.{Region}
use Rattle.rc_base.specs.declared.names.Mode.TheVariants.{Exclusive, Shareable}
use Rattle.rc_base.specs.declared.replies.Reply.TheVariants as replies
use Rattle.script_ops.specs.declared.op.Op.{Op}
use Rattle.tree_law.specs.Counted.{is_counted}
use Rattle.tree_law.specs.Places.{with_record}
use Rattle.tree_law.specs.State.{State}
use Rattle.tree_law.specs.Steps.{next}
use Rattle.way_plans.proofs.AcceptedWrites.{Takes, Turns-shareable, Turns-still_shareable}
use Rattle.way_plans.proofs.CommandSteps.{mode-counted, mode-fits, sound-taken, takes-mode}
use Rattle.way_plans.proofs.Stages.{Stage, Stage-same, Stage-turned}
use Rattle.way_plans.specs.PlanCommands.{AreAnswered, played, shareable_ops, write_op}
use Rattle.way_plans.specs.PlanTexts.{is_exclusive}

-- a group is exclusive only if it was so
abbrev pub WasExclusive : Group → Group → Type 0
WasExclusive p g = g.mode ≡ Exclusive → p.mode ≡ Exclusive

-- a counted group is one of the plan's
abbrev pub IsCovered : List Group → Group → Type 0
IsCovered plan g = is_counted g ≡ true → list_any (has_gid g.gid) plan ≡ true

-- a shareable group
abbrev pub IsShareable : Group → Type 0
IsShareable g = g.mode ≡ Shareable

module _ (m : Parameters) (range : InRange m) (regions : List (Option Region)) (plan : List Group) where
  abbrev pub Sharing : List Group → State → Type 0
  Sharing rest s = Stage m WasExclusive (IsCovered plan) IsShareable regions plan rest s

  -- one that is not exclusive has no command
  sharing-skip : (p : Group) (rest : List Group) (s : State) → is_exclusive p.mode ≡ false → Sharing (p ∷ rest) s → Sharing rest s
  sharing-skip p rest s other stage = Stage-same m WasExclusive (IsCovered plan) IsShareable regions plan p rest s stage s refl refl stage.sound (at (mode-counted stage.stand.0.group stage.stand.0.counted))
    where
      at : (stage.stand.0.group.mode ≡ Shareable) ⊎ (stage.stand.0.group.mode ≡ Exclusive) → stage.stand.0.group.mode ≡ Shareable
      at (inl is) = is
      at (inr is) = absurd (let f : true ≡ false = sym (ap is_exclusive (stage.stand.0.kept is)) ∙ other in cc)

  -- one that is becomes shareable
  sharing-step : (p : Group) (rest : List Group) (s : State) → Sharing (p ∷ rest) s → (left : State) × Takes m s (write_op p ModeFile (codes "shareable")) left × Sharing rest left
  sharing-step p rest s stage = at (mode-counted stage.stand.0.group stage.stand.0.counted)
    where
      at : (stage.stand.0.group.mode ≡ Shareable) ⊎ (stage.stand.0.group.mode ≡ Exclusive) → (left : State) × Takes m s (write_op p ModeFile (codes "shareable")) left × Sharing rest left
      at (inl is) =
          let taken = takes-mode WasExclusive m s p (codes "shareable") s stage.sound stage.stand.0 (Turns-still_shareable m s stage.stand.0.group is) in
          let sound = sound-taken m s (write_op p ModeFile (codes "shareable")) (record s { status = replies.Ok }) range stage.sound (mode-fits m s p (codes "shareable") (omega arith)) taken in
          (record s { status = replies.Ok }, taken, Stage-same m WasExclusive (IsCovered plan) IsShareable regions plan p rest s stage (record s { status = replies.Ok }) refl refl sound is)
      at (inr is) =
          let g : Group = stage.stand.0.group in
          let left : State = record (with_record s (record g { mode = Shareable })) { status = replies.Ok } in
          let taken = takes-mode WasExclusive m s p (codes "shareable") (with_record s (record g { mode = Shareable })) stage.sound stage.stand.0 (Turns-shareable m s g is) in
          let sound = sound-taken m s (write_op p ModeFile (codes "shareable")) left range stage.sound (mode-fits m s p (codes "shareable") (omega arith)) taken in
          (left, taken, Stage-turned m WasExclusive (IsCovered plan) IsShareable regions plan p rest s stage Shareable g.masks refl left refl refl sound (λ q was e. absurd (let f : Shareable ≡ Exclusive = e in cc)) (λ covered counted. covered stage.stand.0.counted) refl)

  -- these commands are answered, and no group is to come after them
  abbrev Shares : State → List Op → Type 0
  Shares s ops = AreAnswered m s ops × Sharing [] (played m s ops)

  -- and so all
  pub sharing : (rest : List Group) (s : State) → Sharing rest s → AreAnswered m s (flat_map shareable_ops rest) × Sharing [] (played m s (flat_map shareable_ops rest))
  sharing [] s stage = (tt, stage)
  sharing (p ∷ rest) s stage =
      let op : Op = write_op p ModeFile (codes "shareable") in
      let step = sharing-step p rest s stage in
      let taken = step.1 in
      let more = sharing rest (next m s op []).state (subst (Sharing rest) (sym taken.state) step.2) in
      at (is_exclusive p.mode) refl (λ is. sharing rest s (sharing-skip p rest s is stage)) ((taken.counts, taken.success, more.0), more.1)
    where
      at : (b : Bool) → is_exclusive p.mode ≡ b → (is_exclusive p.mode ≡ false → Shares s (flat_map shareable_ops rest)) → Shares s (write_op p ModeFile (codes "shareable") ∷ flat_map shareable_ops rest)
          → Shares s (cond b (write_op p ModeFile (codes "shareable") ∷ []) [] ++ flat_map shareable_ops rest)
      at false is skipped taken = skipped is
      at true is skipped taken = taken

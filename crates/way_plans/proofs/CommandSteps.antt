-- The commands of a plan, one after the other.
use Rattle.std.proofs.Common.{Bool, List, [], ap, arith, cond, false, inl, inr, length, refl, subst, sym, true, ℕ, ◌++◌, ◌∙◌, ◌∷◌, ◌≡◌, ◌≤◌, ◌⊎◌}
use Rattle.group_tree.specs.declared.group.Group.{Group}
use Rattle.machine.specs.Ranges.{InRange}
use Rattle.machine.specs.declared.parameters.Parameters.{Parameters}
use Rattle.path_names.specs.declared.files.FileKind.TheVariants.{Mode as ModeFile}
use Rattle.rc_base.specs.declared.names.Mode.TheVariants.{Exclusive, LockSetup, Locked, Shareable}
use Rattle.rc_base.specs.declared.names.Mode.{Mode}
use Rattle.rc_base.specs.declared.replies.Reply.TheVariants as replies
use Rattle.script_ops.specs.Fits.{Fits}
use Rattle.script_ops.specs.declared.limits.TheConstants.{MOST_TEXT_BYTES}
use Rattle.script_ops.specs.declared.op.Op.{Op}
use Rattle.tree_law.proofs.laws.Steps.{next-sound}
use Rattle.tree_law.specs.Counted.{is_counted, is_counted_mode}
use Rattle.tree_law.specs.Sound.{IsSound}
use Rattle.tree_law.specs.State.{State, tasks_of}
use Rattle.tree_law.specs.Steps.{next}
use Rattle.way_plans.proofs.AcceptedWrites.{Takes, Takes-mode, Turns}
use Rattle.way_plans.proofs.OwnDirectories.{is_control-counted}
use Rattle.way_plans.proofs.Stages.{Stands, directory-stands}
use Rattle.way_plans.specs.PlanCommands.{AreAnswered, played, write_op}
use Rattle.way_plans.specs.PlanTexts.{dir_of}

-- some commands, and then others
pub AreAnswered-append : (m : Parameters) (s : State) (ops more : List Op) → AreAnswered m s ops → AreAnswered m (played m s ops) more → AreAnswered m s (ops ++ more)
AreAnswered-append m s [] more first second = second
AreAnswered-append m s (op ∷ ops) more first second = (first.0, first.1, AreAnswered-append m (next m s op []).state ops more first.2 second)

-- the state after all
pub played-append : (m : Parameters) (s : State) (ops more : List Op) → played m s (ops ++ more) ≡ played m (played m s ops) more
played-append m s [] more = refl
played-append m s (op ∷ ops) more = played-append m (next m s op []).state ops more

-- a command that is taken keeps a sound tree
pub sound-taken : (m : Parameters) (s : State) (op : Op) (left : State) → InRange m → IsSound m s → Fits m (tasks_of s) op → Takes m s op left → IsSound m left
sound-taken m s op left range sound fits taken = subst (IsSound m) taken.state (next-sound m s op [] range sound fits (sym (ap length taken.counts)))

-- a counted mode is one of two
pub mode-counted : (g : Group) → is_counted g ≡ true → (g.mode ≡ Shareable) ⊎ (g.mode ≡ Exclusive)
mode-counted g counted = at g.mode refl (sym (ap (λ (b : Bool). cond b (is_counted_mode g.mode) false) (is_control-counted g counted)) ∙ counted)
  where
    at : (mode : Mode) → g.mode ≡ mode → is_counted_mode g.mode ≡ true → (g.mode ≡ Shareable) ⊎ (g.mode ≡ Exclusive)
    at Shareable is c = inl is
    at Exclusive is c = inr is
    at LockSetup is c = absurd (let f : false ≡ true = sym (ap is_counted_mode is) ∙ c in cc)
    at Locked is c = absurd (let f : false ≡ true = sym (ap is_counted_mode is) ∙ c in cc)

-- the mode that is written of a text
pub mode-fits : (m : Parameters) (s : State) (p : Group) (text : List ℕ) → length text ≤ 4096 → Fits m (tasks_of s) (write_op p ModeFile text)
mode-fits m s p text short = let most : MOST_TEXT_BYTES ≡ 4096 = refl in omega (arith, short, most)

-- a write of a mode to a group of the plan
pub takes-mode : (K : Group → Group → Type 0) (m : Parameters) (s : State) (p : Group) (text : List ℕ) (left : State) → IsSound m s → (st : Stands K s.groups p) → Turns m s st.group text left
    → Takes m s (write_op p ModeFile text) (record left { status = replies.Ok })
takes-mode K m s p text left sound st turns =
    let own = directory-stands K m s p sound st in
    let taken = Takes-mode m s (dir_of p) text st.group own.1 own.0 turns.unrefused turns.unfreed in
    record { counts = taken.counts; success = taken.success; state = taken.state ∙ ap (λ (l : State). record l { status = replies.Ok }) turns.turned }

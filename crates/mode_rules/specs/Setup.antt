-- What keeps a group out of pseudo-locksetup.
use Rattle.std.specs.Prelude.{ℕ, Bool, false, not, ◌==◌, [], ◌∷◌, Result}
use Rattle.rc_base.specs.declared.replies.Why.{Why}
use Rattle.rc_base.specs.declared.replies.Why.TheVariants.{DefaultGroup, HasMonGroups, HasTasks, HasCpus}
use Rattle.mode_rules.specs.Refusals.{first_of}

-- what a group has that keeps it out: it is the default group, or has monitor groups, tasks or CPUs
pub record Holdings : Type 0 where
  pub is_default : Bool
  pub monitors : ℕ
  pub tasks : ℕ
  pub cpus : ℕ

-- whether this keeps a group out; a set of CPUs is empty where its mask is 0
abbrev pub keeps_out : Holdings → Why → Bool
keeps_out group DefaultGroup = group.is_default
keeps_out group HasMonGroups = not (group.monitors == 0)
keeps_out group HasTasks = not (group.tasks == 0)
keeps_out group HasCpus = not (group.cpus == 0)
keeps_out group _ = false

-- Ok for a group that may enter, and else the first that keeps it out
unfoldable pub entry_refusal : Holdings → Result (Unit {0}) Why
entry_refusal group = first_of (keeps_out group) (DefaultGroup ∷ HasMonGroups ∷ HasTasks ∷ HasCpus ∷ [])

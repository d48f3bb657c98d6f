-- The windows of journals on two levels.
use Rattle.std.specs.Prelude.{◌≡◌, ℕ, ◌<◌, Bool, true, Some}
use Rattle.pair_text.specs.Values.{PairScriptValue, op_at}
use Rattle.pair_text.specs.declared.op.PairOp.TheVariants.{Use}
use Rattle.pair_text.specs.declared.side.Side.TheVariants.{Second}
use Rattle.pair_law.specs.JointWindows.{IsJointWindow, is_covered}
use Rattle.pair_law.specs.RunLaws.{HitsAsPrivate}
use Rattle.pair_law.specs.LevelRuns.{LevelJournalsValue, domain_on, user_at}
use Rattle.rc_base.specs.declared.names.Gid.{Gid}

-- in every window each covered use of the group does at both levels what it does in a private hierarchy
abbrev pub WindowsAreIsolated : PairScriptValue → LevelJournalsValue → Type 0
WindowsAreIsolated script j =
    (domain from to : ℕ) (group : Gid) (mask : ℕ) (masks : ℕ → ℕ) (last i task cpu line : ℕ) (code : Bool) → IsJointWindow script domain from to group mask masks last
    → from < i → i < to → op_at script i ≡ Some (Use task cpu line code) → domain_on script Second cpu ≡ domain → (user_at script i task).0 ≡ group.0
    → is_covered script domain group.0 from to i ≡ true
    → HitsAsPrivate script j domain from group mask masks i cpu line

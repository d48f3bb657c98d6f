-- Which inputs are played, and with what report.
use Rattle.std.specs.Prelude.{◌≡◌, ℕ, Bool, List, Ok}
use Rattle.call_rim.specs.Within.{ReportsWithin}
use Rattle.cdp_masks.specs.Windows as cdp
use Rattle.pair_windows.specs.AllJointWindows.{AreJointWindowsOf}
use Rattle.pair_windows.specs.JointWindows.{joint_windows}
use Rattle.l2_level.specs.Windows as levels
use Rattle.pair_text.specs.Values.{PairScriptValue}
use Rattle.pair_report.specs.CdpReport.{cdp_report_of}
use Rattle.pair_report.specs.LevelReport.{level_report_of}
use Rattle.pair_law.specs.CdpRuns.{CdpJournalsValue, IsCdpRun}
use Rattle.pair_law.specs.LevelRuns.{IsLevelRun, LevelJournalsValue}
use Rattle.pair_text.specs.PairReading.{pair_script_of}
use Rattle.pair_text.specs.declared.kind.PairKind.{PairKind}
use Rattle.pair_text.specs.declared.kind.PairKind.TheVariants.{Cdp, Levels}
use Rattle.pair_windows.specs.AllCdpWindows.{AreCdpWindowsOf}
use Rattle.pair_windows.specs.CdpWindows.{cdp_windows}
use Rattle.script_ops.specs.declared.limits.TheConstants.{MOST_SCRIPT_BYTES}

-- These bytes are a script of the kind, the journals are a run of it in which each window isolates, the windows that are listed are
-- all of the run with uses, and the text is the report.
pub record Plays {T : Type 0} (kind : PairKind) (Run Isolated Listed : PairScriptValue → T → Type 0) (report_of : PairScriptValue → T → Bool → List ℕ) (quiet : Bool) (bytes : List ℕ) (j : T) (text : List ℕ) : Type 0 where
  pub script : PairScriptValue
  pub is_script : pair_script_of kind bytes ≡ Ok script
  pub is_run : Run script j
  pub isolated : Isolated script j
  pub listed : Listed script j
  pub told : text ≡ report_of script j quiet

-- the windows that the report on data and code masks lists are all windows of the run in which the side has an access
abbrev pub ListsCdp : PairScriptValue → CdpJournalsValue → Type 0
ListsCdp script j = AreCdpWindowsOf script j (cdp_windows script j)

-- a script on data and code masks is played, and in each window of the run its side is isolated
abbrev pub PlaysCdp : Bool → List ℕ → CdpJournalsValue → List ℕ → Type 0
PlaysCdp = Plays Cdp IsCdpRun cdp.WindowsAreIsolated ListsCdp cdp_report_of

-- the windows that the report on two levels lists are all windows of the run in which the group has a use
abbrev pub ListsLevels : PairScriptValue → LevelJournalsValue → Type 0
ListsLevels script j = AreJointWindowsOf script j (joint_windows script j)

-- a script on two levels is played, and in each window of the run its group is isolated on both levels
abbrev pub PlaysLevels : Bool → List ℕ → LevelJournalsValue → List ℕ → Type 0
PlaysLevels = Plays Levels IsLevelRun levels.WindowsAreIsolated ListsLevels level_report_of

-- what is reported: of no more bytes than the most, as they are played
abbrev pub reports : {T : Type 0} → (Bool → List ℕ → T → List ℕ → Type 0) → Bool → List ℕ → T → List ℕ → Type 0
reports plays quiet = ReportsWithin MOST_SCRIPT_BYTES (plays quiet)

-- on data and code masks
abbrev pub reports_cdp : Bool → List ℕ → CdpJournalsValue → List ℕ → Type 0
reports_cdp = reports PlaysCdp

-- on two levels
abbrev pub reports_levels : Bool → List ℕ → LevelJournalsValue → List ℕ → Type 0
reports_levels = reports PlaysLevels

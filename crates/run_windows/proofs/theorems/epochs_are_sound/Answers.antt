use Rattle.run_windows.proofs.Epochs.{IsSound-state_at}
use Rattle.run_windows.proofs.theorems.epochs_are_sound.Goals as goal

pub returns : goal.returns
returns c = IsSound-state_at

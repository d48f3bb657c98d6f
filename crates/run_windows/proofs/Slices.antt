-- The rows of one slice, by computing.
use Rattle.std.proofs.Common.{zero, suc, ◌<◌, false, refl, arith}
use Rattle.std.proofs.lemmas.Bool.{false≢true, true≢false}
use Rattle.cbm.specs.Masks.{ways_of}
use Rattle.private_lru.specs.Locked.{HoldsLoaded}
use Rattle.run_windows.specs.SliceRows.{CoveredRow, DroppedLines, LoadedRow, PrivateRow, access, line, lock, region_window}

-- the private cache
pub PrivateRow-holds : PrivateRow
PrivateRow-holds = record { room = refl; no_room = refl; other_room = refl; room_once = refl; dropped = refl; dropped_alone = refl }

-- the covered accesses
pub CoveredRow-holds : CoveredRow
CoveredRow-holds = record { items = refl; hits = refl; own_items = refl; own_hits = refl }

-- and those with a drop
pub DroppedLines-holds : DroppedLines
DroppedLines-holds = record { items = refl; hits = refl }

-- each access of the window of the region
HoldsLoaded-window : HoldsLoaded 4 lock region_window
unfolding ways_of
HoldsLoaded-window zero e l = λ _ _. refl
HoldsLoaded-window (suc zero) e l = tt
HoldsLoaded-window (suc (suc zero)) e l = λ _ stays. absurd (true≢false stays)
HoldsLoaded-window (suc (suc (suc zero))) e l = λ _ _. refl
HoldsLoaded-window (suc (suc (suc (suc k)))) e l = absurd (omega arith)

-- the region's lines
pub LoadedRow-holds : LoadedRow
unfolding ways_of
LoadedRow-holds = record {
  holds = HoldsLoaded-window;
  dropped = λ _ stays. absurd (true≢false stays);
  stays = λ hits. false≢true (hits refl refl);
  first = λ hits. false≢true (hits refl refl);
  last = λ hits. false≢true (hits refl refl);
  past = λ loaded _. absurd (false≢true loaded);
  missed = λ hits. let within : 1 < 2 = omega arith in false≢true (hits 1 (access 0 3 false 0 (line 1)) within refl refl);
}

use Rattle.check_top.proofs.theorems.runs_isolate.Goals as goal

pub returns : goal.returns
returns c = λ script run lawful is_run. record {
  groups = λ i from to opening group mask last window. c.windows_are_isolated.ensures script run i from to opening group mask last lawful is_run window;
  regions = λ i from to opening r window. c.regions_hold.ensures.hold script run i from to opening r lawful is_run window;
  group_windows = λ i from mask opening group exists at empty exclusive. c.windows_are_one.ensures.exist script run i from opening group mask lawful is_run exists at empty exclusive;
  lock_windows = λ i from mask first_line opening exists at is. c.regions_hold.ensures.exist script run i from mask first_line opening lawful is_run exists at is;
}

use Rattle.replay_top.proofs.reporting.report_on.Goals as goal

pub returns-in-Ok : goal.returns-in-Ok
returns-in-Ok c =
    let script = c.args.script.now in
    let run = c.args.journals in
    let lawful = c.requires.lawful in
    let is_run = c.requires.run in
    λ bytes holds. record {
      script = script;
      holds = holds;
      lawful = lawful;
      is_run = is_run;
      isolates = λ i from to opening group mask last window. c.windows_are_isolated.ensures script run i from to opening group mask last lawful is_run window;
      holds_regions = λ i from to opening r window. c.regions_hold.ensures.hold script run i from to opening r lawful is_run window;
      begins_windows = λ i from mask first_line opening exists at is. c.regions_hold.ensures.exist script run i from mask first_line opening lawful is_run exists at is;
      begins_group_windows = λ i from mask opening group exists at empty exclusive. c.windows_are_one.ensures.exist script run i from opening group mask lawful is_run exists at empty exclusive;
      output = c.in-Ok.ensures;
    }

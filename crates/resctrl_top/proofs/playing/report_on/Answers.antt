use Rattle.resctrl_top.proofs.playing.report_on.Goals as goal

pub returns-in-Ok : goal.returns-in-Ok
returns-in-Ok c =
    let script = c.args.script.now in
    let run = c.args.journals in
    let lawful = c.threads-threads.ensures.lawful in
    λ bytes means. record {
      script = script;
      is_script = means;
      promised = record {
        lawful = lawful;
        is_run = c.requires.run;
        plays = c.requires.plays;
        isolates = λ i from to opening group mask last window. c.windows_are_isolated.ensures script run i from to opening group mask last lawful c.requires.run window;
        holds = λ i from to opening r window. c.regions_hold.ensures.hold script run i from to opening r lawful c.requires.run window;
        begins_windows = λ i from mask first_line opening exists at is. c.regions_hold.ensures.exist script run i from mask first_line opening lawful c.requires.run exists at is;
        begins_group_windows = λ i from mask opening group exists at empty exclusive. c.windows_are_one.ensures.exist script run i from opening group mask lawful c.requires.run exists at empty exclusive;
      };
      output = c.in-Ok.ensures;
    }

use Rattle.check_top.proofs.Verdicts.{HoldsJournals-same, IsolatesBy-verdict}
use Rattle.check_top.proofs.checking.tell_verdict.Goals as goal

pub returns-in-Ok : goal.returns-in-Ok
returns-in-Ok c =
    let script = c.args.script.now in
    let lawful = c.threads-threads.ensures.lawful in
    λ bytes holds. record {
      script = script;
      holds = holds;
      alone = λ other run held. HoldsJournals-same c.texts_read_back.ensures.one bytes script other c.args.journals run lawful holds held;
      lawful = lawful;
      says = c.requires;
      isolates = IsolatesBy-verdict c.runs_by_clauses.ensures c.runs_isolate.ensures script c.args.journals c.args.verdict lawful c.requires;
      told = c.in-Ok.ensures;
    }

use Rattle.check_top.proofs.Verdicts.{HoldsJournals-same, IsolatesBy-verdict}
use Rattle.check_top.proofs.judging.tell_judgement.Goals as goal

pub returns-in-Ok : goal.returns-in-Ok
returns-in-Ok c =
    λ bytes has. record {
      journals = has.journals;
      checked = record {
        script = has.script;
        holds = has.holds;
        alone = λ other run held. HoldsJournals-same c.texts_read_back.ensures.one bytes has.script other has.journals run has.lawful has.holds held;
        lawful = has.lawful;
        says = has.says;
        isolates = IsolatesBy-verdict c.runs_by_clauses.ensures c.runs_isolate.ensures has.script has.journals c.args.verdict has.lawful has.says;
        told = c.in-Ok.ensures;
      };
    }

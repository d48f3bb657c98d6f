use Rattle.script_text.proofs.usual.usual_access.Goals as goal

pub returns : goal.returns
returns c =
    record { after_kind = c.in_ok-rest.rest.now; after_task = c.in_ok-task.rest.now; after_cpu = c.in_ok-cpu.rest.now; kind = c.in_ok-rest.ensures; task_number = c.in_ok-task.ensures; cpu_number = c.in_ok-cpu.ensures; addr_number = c.in_ok-addr.ensures }

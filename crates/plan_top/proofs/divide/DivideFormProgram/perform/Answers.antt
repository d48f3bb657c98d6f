use Rattle.plan_top.proofs.divide.DivideFormProgram.perform.Goals as goal

pub returns-in-Err-Bad : goal.returns-in-Err-Bad
returns-in-Err-Bad c = c.refuse.ensures c.args.self.now c.args.bytes.items (rw c.in-Err-Bad.field-0-is at c.in-Err-Bad.ensures)

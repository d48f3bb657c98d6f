use Rattle.check_top.proofs.programs.ExportProgramProgram.perform.Goals as goal

pub returns : goal.returns
returns c = c.step_bytes.ensures c.args.self.now.play

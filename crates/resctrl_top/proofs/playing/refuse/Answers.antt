use Rattle.resctrl_top.proofs.playing.refuse.Goals as goal

pub returns-in-Ok : goal.returns-in-Ok
returns-in-Ok c = λ form bytes no. record { refusal = c.args.refusal; no_script = no; is_line = c.in-Ok.ensures }

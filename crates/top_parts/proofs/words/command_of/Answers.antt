use Rattle.std.proofs.Common.{ap, sym, not, ◌∙◌, String}
use Rattle.std.specs.declared.alloc.Global.{Global}
use Rattle.top_parts.specs.Forms.{is_flag, command_of}
use Rattle.top_parts.proofs.Others.{filter-none, filter-one, command_of-filter}
use Rattle.top_parts.proofs.words.command_of.Goals as goal

pub returns-in-None-clause-command : goal.returns-in-None-clause-command
returns-in-None-clause-command c = c.bare_command.ensures.command ∙ sym (ap (command_of c.args.first.now) (filter-none (λ (w : String Global). not (is_flag w)) c.args.words.now (sym c.in-None.ensures)))

pub returns-in-Some-clause-command : goal.returns-in-Some-clause-command
returns-in-Some-clause-command c =
    c.gen_of.ensures.command
    ∙ sym (ap (command_of c.args.first.now) (filter-one (λ (w : String Global). not (is_flag w)) c.args.words.now c.in-Some.number.now (sym c.in-Some.ensures) (sym c.count_others.ensures ∙ c.if-count_others-eq1.true)))

pub returns-in-Some-2-clause-command : goal.returns-in-Some-2-clause-command
returns-in-Some-2-clause-command c =
    sym (command_of-filter c.args.first.now (λ (w : String Global). not (is_flag w)) c.args.words.now c.in-Some-2.field-0.now (sym c.in-Some-2.ensures) (λ one. c.if-count_others-eq1.false (c.count_others.ensures ∙ one)))

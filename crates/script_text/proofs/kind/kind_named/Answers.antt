use Rattle.std.proofs.Common.{ℕ, List, sym, ap, ◌∙◌}
use Rattle.rc_base.specs.Texts.{is_text}
use Rattle.script_text.proofs.KindNames.{kind_of-short, kind_of-named, kind_of-apart}
use Rattle.script_text.proofs.kind.kind_named.Goals as goal

pub returns-in_default : goal.returns-in_default
returns-in_default c = sym (kind_of-short c.args.word.now c.in_default.len_below)

pub returns-then-is_text : goal.returns-then-is_text
returns-then-is_text c = sym (kind_of-named c.args.word.now c.kind_with-kind.result (ap (λ (name : List ℕ). is_text c.args.word.now name) (sym c.name.ensures) ∙ sym c.is_text.ensures ∙ c.if-is_text.true))

pub returns-else-is_text : goal.returns-else-is_text
returns-else-is_text c = sym (kind_of-apart c.args.word.now c.kind_with-kind.result c.in-len2-up.len_at_least c.kind_with-kind.ensures (ap (λ (name : List ℕ). is_text c.args.word.now name) (sym c.name.ensures) ∙ sym c.is_text.ensures ∙ c.if-is_text.false))

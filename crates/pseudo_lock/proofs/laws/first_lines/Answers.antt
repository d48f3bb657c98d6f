use Rattle.pseudo_lock.proofs.FirstLines.{first_line_of-whole}
use Rattle.pseudo_lock.proofs.laws.first_lines.Goals as goal

pub returns-clause-whole : goal.returns-clause-whole
returns-clause-whole c = first_line_of-whole

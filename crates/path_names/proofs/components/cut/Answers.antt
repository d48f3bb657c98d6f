use Rattle.path_names.proofs.FirstComponent.{slice_split-components}
use Rattle.path_names.proofs.components.cut.Goals as goal

pub returns-clause-parts : goal.returns-clause-parts
returns-clause-parts c =
    let n = c.slash_at.ensures.place in
    rw (c.split_at.ensures.front, c.split_at.ensures.back, n) (slice_split-components c.args.text.now)

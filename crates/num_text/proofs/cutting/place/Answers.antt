use Rattle.num_text.proofs.Searches.{IsFirstByte-position}
use Rattle.num_text.proofs.cutting.place.Goals as goal

pub returns : goal.returns
returns c = IsFirstByte-position c.args.byte c.args.text.now c.memchr.result c.memchr.ensures

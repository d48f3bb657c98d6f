use Rattle.std.proofs.Common.{refl}
use Rattle.hw_ids.specs.declared.uses.Use.TheVariants.{Free, Taken}
use Rattle.hw_ids.specs.Uses.{is_taken, is_limbo}
use Rattle.hw_ids.proofs.Places.{places-first, places-nowhere}
use Rattle.hw_ids.proofs.rmids.Rmids.create.Goals as goal

pub returns : goal.returns
returns c =
    rw (places-first is_taken c.args.n 255 Taken Free c.requires.some refl refl, places-nowhere is_limbo c.args.n 255 Taken Free refl refl) refl

use Rattle.std.proofs.Common.{◌≡◌, Option, None, Some, ◌∙◌, refl}
use Rattle.std.proofs.lemmas.Option.{get_or_from_slice_get}
use Rattle.pair_law.specs.State.{PairState}
use Rattle.pair_law.specs.commands.Tasks.{kept, refusal}
use Rattle.pair_tree.specs.Changes.{unless}
use Rattle.pair_tree.specs.Tables.{state_of}
use Rattle.tree_law.specs.Refusals.{Refusal}
use Rattle.pair_tree.proofs.tables.Tables.write_tasks.Goals as goal

unless-same : (o : Option Refusal) (s : PairState) → s ≡ unless o s s
unless-same None s = refl
unless-same (Some r) s = refl

pub returns : goal.returns
unfolding kept refusal
returns c g there =
    let s = state_of c.args.self.now in
    let is : c.index.result.now ≡ g = c.index.ensures ∙ get_or_from_slice_get c.args.self.now.groups.items c.args.place g c.index.result.now there in
    record {
      reply = rw is at c.move_tasks.ensures.reply;
      state = rw (c.move_tasks.ensures.tasks, is) (unless-same (refusal s g c.args.text.now) (kept s g c.args.text.now));
    }

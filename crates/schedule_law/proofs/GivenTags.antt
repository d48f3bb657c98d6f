-- A tag that the tree gave stays one that it gave.
use Rattle.std.proofs.Common.{[], ◌∷◌, ◌++◌, sym, ◌∙◌, ap, arith, List}
use Rattle.std.proofs.lemmas.List.{length-append, take-append-le}
use Rattle.run_law.specs.Growth.{tag_of}
use Rattle.run_law.specs.TreeHistory.{TreeEntryValue, tree_after}
use Rattle.script_ops.specs.Values.{ScriptValue}
use Rattle.schedule_law.specs.Parts.{Again, Begin, Decide, End, Follow, HappeningValue, Label, Look, Pass, Take, Touch, WasGiven, history_after}
use Rattle.schedule_law.specs.declared.part.GivenTag.{GivenTag}

-- a tag that was given stays what the tree gave when its history grows
WasGiven-push : (script : ScriptValue) (hs : List TreeEntryValue) (h : TreeEntryValue) (g : GivenTag) → WasGiven script hs g → WasGiven script (hs ++ h ∷ []) g
WasGiven-push script hs h g was = record {
  early = omega (arith, was.early, length-append hs (h ∷ []));
  is = was.is ∙ ap (λ l. tag_of script.machine (tree_after script l) g.tag.epoch g.task g.cpu) (sym (take-append-le g.tag.epoch hs (h ∷ []) was.early));
}

pub WasGiven-after : (script : ScriptValue) (e : HappeningValue) (hs : List TreeEntryValue) (g : GivenTag) → WasGiven script hs g → WasGiven script (history_after e hs) g
WasGiven-after script (Take t) hs g was = was
WasGiven-after script (Look x) hs g was = was
WasGiven-after script (Decide h last made) hs g was = WasGiven-push script hs h g was
WasGiven-after script (Follow x last) hs g was = was
WasGiven-after script (Label x) hs g was = was
WasGiven-after script (Touch x) hs g was = was
WasGiven-after script Again hs g was = was
WasGiven-after script Begin hs g was = was
WasGiven-after script End hs g was = was
WasGiven-after script Pass hs g was = was

-- A history of the tree with an entry that is not expected, and one entry more.
use Rattle.std.proofs.Common.{List, [], ◌∷◌, ◌++◌, length, refl, subst, arith}
use Rattle.std.proofs.lemmas.List.{take-append-le, take_at}
use Rattle.std.proofs.lemmas.Option.{slice_get_within}
use Rattle.journal_check.specs.CommandCounts.{HasUnexpected}
use Rattle.journal_check.specs.ExpectedCommands.{IsExpected}
use Rattle.run_law.proofs.laws.Positions.{At-append_front, At-last}
use Rattle.run_law.specs.TreeHistory.{TreeEntryValue}
use Rattle.script_ops.specs.Values.{ScriptValue}

module _ (script : ScriptValue) (tree : List TreeEntryValue) (h : TreeEntryValue) where
  -- it is still not expected
  pub HasUnexpected-push : HasUnexpected script tree → HasUnexpected script (tree ++ h ∷ [])
  HasUnexpected-push has =
      let within = slice_get_within tree has.position has.entry has.there in
      record {
        position = has.position;
        entry = has.entry;
        there = At-append_front tree (h ∷ []) has.position has.entry has.there;
        unexpected = λ expected. has.unexpected (subst (λ (before : List TreeEntryValue). IsExpected script before has.entry) (take-append-le has.position tree (h ∷ []) (omega (arith, within))) expected);
      }

  -- the last entry is not expected
  pub HasUnexpected-last : (IsExpected script tree h → ⊥) → HasUnexpected script (tree ++ h ∷ [])
  HasUnexpected-last never = record {
    position = length tree;
    entry = h;
    there = At-last tree h;
    unexpected = λ expected. never (subst (λ (before : List TreeEntryValue). IsExpected script before h) (take_at tree (h ∷ []) (length tree) refl) expected);
  }

-- What is left of journals, with one part more, and after slices were judged.
use Rattle.std.proofs.Common.{◌≡◌, ℕ, ◌+◌, List, [], ◌∷◌, ◌++◌, length, Option, Some, None, refl, sym, ap, ◌∙◌, subst, arith}
use Rattle.std.proofs.lemmas.List.{length_push}
use Rattle.cache_core.specs.declared.entry.SliceEntry.{SliceEntry}
use Rattle.check_parts.specs.LeftJournals.{IsLeft, IsRest}
use Rattle.check_parts.proofs.JudgedSlices.{HasMoreEntries-push, IsJudged-all, IsJudged-push}
use Rattle.check_parts.specs.CrowdedSlices.{HasMoreEntries}
use Rattle.check_parts.specs.JudgedSlices.{AreJudged, IsJudged, IsSoFar, entries_at}
use Rattle.check_parts.specs.declared.judged_slices.JudgedSlices.{JudgedSlices}
use Rattle.journal_text.specs.States.{PartsRead, with_command, with_entry, with_slice}
use Rattle.run_law.specs.TreeHistory.{TreeEntryValue}
use Rattle.script_ops.specs.Values.{ScriptValue}

module _ (script : ScriptValue) (kept new parts : PartsRead) where
  -- one command more, where no slice was read
  pub IsLeft-command : (judged : Option JudgedSlices) (h : TreeEntryValue) → with_command kept h ≡ new → parts.slices ≡ [] → IsLeft script judged kept parts → IsLeft script judged new (with_command parts h)
  IsLeft-command None h is none left = ap (λ (p : PartsRead). with_command p h) left ∙ is
  IsLeft-command (Some judged) h is none left = absurd (let more : HasMoreEntries script [] = subst (HasMoreEntries script) none left.more in omega (arith, more))

  -- one entry more
  pub IsLeft-entry : (judged : Option JudgedSlices) (e : SliceEntry) → with_entry kept e ≡ new → IsLeft script judged kept parts → IsLeft script judged new (with_entry parts e)
  IsLeft-entry None e is left = ap (λ (p : PartsRead). with_entry p e) left ∙ is
  IsLeft-entry (Some judged) e is left =
      subst (λ (p : PartsRead). IsRest script judged p (with_entry parts e)) is (record {
        tree = left.tree;
        entries = ap (λ (es : List SliceEntry). es ++ e ∷ []) left.entries;
        count = left.count;
        more = left.more;
        rest = left.rest;
      })

  -- the slice that was being read is whole
  pub IsLeft-slice : (judged : Option JudgedSlices) → with_slice kept ≡ new → IsLeft script judged kept parts → IsLeft script judged new (with_slice parts)
  IsLeft-slice None is left = ap with_slice left ∙ is
  IsLeft-slice (Some judged) is left =
      subst (λ (p : PartsRead). IsRest script judged p (with_slice parts)) is (record {
        tree = left.tree;
        entries = refl;
        count = length_push kept.slices kept.entries ∙ (ap (λ (n : ℕ). n + 1) left.count ∙ sym (length_push parts.slices parts.entries));
        more = HasMoreEntries-push script parts.slices parts.entries left.more;
        rest = subst (λ (es : List SliceEntry). IsJudged script judged parts.tree (parts.slices ++ parts.entries ∷ []) (kept.slices ++ es ∷ [])) (sym left.entries) (IsJudged-push script judged parts.tree parts.slices kept.slices left.rest parts.entries left.count);
      })

-- ---- slices that are judged

module _ (script : ScriptValue) (kept parts : PartsRead) where
  -- so many slices are left as were read, and the same commands and entries
  pub count-left : (judged : Option JudgedSlices) → IsLeft script judged kept parts → length kept.slices ≡ length parts.slices
  count-left None left = ap (λ (p : PartsRead). length p.slices) (sym left)
  count-left (Some judged) left = left.count

  pub tree-left : (judged : Option JudgedSlices) → IsLeft script judged kept parts → kept.tree ≡ parts.tree
  tree-left None left = ap (λ (p : PartsRead). p.tree) (sym left)
  tree-left (Some judged) left = left.tree

  pub entries-left : (judged : Option JudgedSlices) → IsLeft script judged kept parts → kept.entries ≡ parts.entries
  entries-left None left = ap (λ (p : PartsRead). p.entries) (sym left)
  entries-left (Some judged) left = left.entries

  -- of which slices some were judged
  pub IsSoFar-left : (judged : Option JudgedSlices) → IsLeft script judged kept parts → IsSoFar script judged parts.tree parts.slices kept.slices
  IsSoFar-left None left = λ i. ap (λ (p : PartsRead). entries_at p.slices i) (sym left)
  IsSoFar-left (Some judged) left = left.rest

  -- they have more entries than the script weighs, where those that are left have
  pub HasMoreEntries-left : (judged : Option JudgedSlices) → IsLeft script judged kept parts → HasMoreEntries script kept.slices → HasMoreEntries script parts.slices
  HasMoreEntries-left None left more = subst (λ (p : PartsRead). HasMoreEntries script p.slices) (sym left) more
  HasMoreEntries-left (Some judged) left more = left.more

  -- after all were judged
  pub IsRest-judged : (judged : JudgedSlices) (new : PartsRead) → new.tree ≡ parts.tree → new.entries ≡ parts.entries → length new.slices ≡ length parts.slices → ((i : ℕ) → entries_at new.slices i ≡ [])
      → HasMoreEntries script parts.slices → AreJudged script judged parts.tree parts.slices → IsRest script judged new parts
  IsRest-judged judged new tree entries count gone more are = record {
    tree = tree;
    entries = entries;
    count = count;
    more = more;
    rest = IsJudged-all script judged parts.tree parts.slices new.slices gone are;
  }

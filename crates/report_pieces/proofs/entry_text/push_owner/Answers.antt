use Rattle.std.proofs.Common.{◌≡◌, ℕ, List, ◌++◌}
use Rattle.std.specs.Prelude.{codes, decimal}
use Rattle.std.proofs.lemmas.List.{append_assoc}
use Rattle.report_pieces.proofs.laws.Results.{OnOk-map}
use Rattle.report_pieces.specs.EntryTexts.{owner_text}
use Rattle.report_pieces.proofs.entry_text.push_owner.Goals as goal

-- the owner by the parts of its text
owner_text-parts : (old one two three first second third : List ℕ) (g r gid rmid : ℕ) → first ≡ codes "access" → one ≡ old ++ first → second ≡ codes " group " → g ≡ gid → two ≡ one ++ (second ++ decimal g)
    → third ≡ codes " rmid " → r ≡ rmid → three ≡ two ++ (third ++ decimal r) → three ≡ old ++ owner_text gid rmid
owner_text-parts old one two three first second third g r gid rmid a b c d e f h i = rw (i, e, b, a, c, d, f, h) (simp append_assoc)

pub returns : goal.returns
returns c =
    OnOk-map c.push_number-2.result (λ last. owner_text-parts c.args.report.now c.push.new.self c.push_number.new.self c.push_number-2.new.self c.as_slice.result.now c.as_slice-2.result.now c.as_slice-3.result.now c.from.result c.from-2.result c.args.gid c.args.rmid
    c.as_slice.ensures c.in_ok-push.ensures c.as_slice-2.ensures c.from.ensures c.in_ok-push_number.ensures c.as_slice-3.ensures c.from-2.ensures last) c.push_number-2.ensures

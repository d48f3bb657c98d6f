-- The text of the value of a control group.
use Rattle.std.proofs.Common.{◌≡◌, ℕ, true, false, List, [], ◌∷◌, ◌++◌}
use Rattle.std.specs.Prelude.{codes}
use Rattle.json_report.proofs.laws.Objects.{Member, compact_text-members, members_told-five}
use Rattle.json_report.specs.GroupValues.{group_of_counts}
use Rattle.json_report.specs.Pieces.{members_told}
use Rattle.json_report.specs.Values.{whole}
use Rattle.run_counts.specs.declared.counts.Counts.{Counts}
use Rattle.serde_json.specs.Data.{string}
use Rattle.serde_json.specs.Written.{compact_text}

-- its members, written one after the other between its braces
pub group_of_counts-parts : (gid : ℕ) (path : List ℕ) (counts : Counts) (old a b c d e f new : List ℕ)
    → a ≡ old ++ 123 ∷ []
    → b ≡ a ++ members_told false ((codes "accesses", whole counts.accesses) ∷ [])
    → c ≡ b ++ members_told true ((codes "gid", whole gid) ∷ [])
    → d ≡ c ++ members_told true ((codes "hits", whole counts.hits) ∷ [])
    → e ≡ d ++ members_told true ((codes "misses", whole counts.misses) ∷ [])
    → f ≡ e ++ members_told true ((codes "path", string path) ∷ [])
    → new ≡ f ++ 125 ∷ []
    → new ≡ old ++ compact_text (group_of_counts gid path counts)
unfolding group_of_counts
group_of_counts-parts gid path counts old a b c d e f new opens accesses number hits misses named closes =
    let m_accesses : Member = (codes "accesses", whole counts.accesses) in
    let m_gid : Member = (codes "gid", whole gid) in
    let m_hits : Member = (codes "hits", whole counts.hits) in
    let m_misses : Member = (codes "misses", whole counts.misses) in
    let m_path : Member = (codes "path", string path) in
    let f_is : f ≡ a ++ members_told false (m_accesses ∷ m_gid ∷ m_hits ∷ m_misses ∷ m_path ∷ []) = members_told-five false m_accesses m_gid m_hits m_misses m_path a b c d e f accesses number hits misses named in
    compact_text-members (m_accesses ∷ m_gid ∷ m_hits ∷ m_misses ∷ m_path ∷ []) old a f new opens f_is closes

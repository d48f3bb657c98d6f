-- Where components lead from what was reached.
use Rattle.std.proofs.Common.{◌≡◌, ℕ, List, [], ◌∷◌, Some, None, refl}
use Rattle.path_names.specs.declared.dirs.DirRef.{DirRef}
use Rattle.path_names.specs.declared.path_ref.PathRef.{PathRef}
use Rattle.path_names.specs.declared.path_ref.PathRef.TheVariants.{Dir, File, Free, Nowhere}
use Rattle.path_names.specs.Reading.{reached_from}

-- nowhere leads nowhere
pub reached_from-nowhere : (domains : ℕ) (names parts : List (List ℕ)) → reached_from domains (None, names) parts ≡ (None, names)
reached_from-nowhere domains names [] = refl
reached_from-nowhere domains names (name ∷ parts) = reached_from-nowhere domains names parts

-- a component below a file or a free name
pub reached_from-no_directory : (domains : ℕ) (path : PathRef) (names : List (List ℕ)) (name : List ℕ) (parts : List (List ℕ)) → ((dir : DirRef) → path ≡ Dir dir → ⊥)
    → reached_from domains (Some path, names) (name ∷ parts) ≡ (None, names)
reached_from-no_directory domains (Dir dir) names name parts other = absurd (other dir refl)
reached_from-no_directory domains (File dir kind) names name parts other = reached_from-nowhere domains names parts
reached_from-no_directory domains (Free dir free) names name parts other = reached_from-nowhere domains names parts
reached_from-no_directory domains (Nowhere whole) names name parts other = reached_from-nowhere domains names parts

-- Lists of zeros.
use Rattle.std.proofs.Common.{◌≡◌, ℕ, zero, suc, get_or, replicate, refl}

-- a list of zeros has zero everywhere
pub get_or-zeros : (n r : ℕ) → get_or {A = ℕ} (replicate n 0) r 0 ≡ 0
get_or-zeros zero r = refl
get_or-zeros (suc n) zero = refl
get_or-zeros (suc n) (suc r) = get_or-zeros n r

-- The order of the places where windows begin.
use Rattle.std.proofs.Common.{◌≡◌, ℕ, ◌+◌, ◌<◌, ◌≤◌, ◌⊎◌, inl, arith}
use Rattle.run_windows.specs.Sites.{Precedes, Site}

-- a place by its parts
abbrev pub site : ℕ → ℕ → ℕ → ℕ → Site
site domain slice from gid = record { domain = domain; slice = slice; from = from; gid = gid }

-- a place precedes another, or not
pub Precedes-or_not : (s b : Site) → Precedes s b ⊎ (Precedes s b → ⊥)
Precedes-or_not s b = grind arith

-- ---- what stands between two places

-- between a group and a later one
pub Precedes-gid : (s : Site) (d x f g h : ℕ) → (Precedes s (site d x f g) → ⊥) → Precedes s (site d x f h) → (s.domain ≡ d) × (s.slice ≡ x) × (s.from ≡ f) × (g ≤ s.gid) × (s.gid < h)
Precedes-gid s d x f g h isnt is = grind arith

-- between a group and the next position
pub Precedes-from : (s : Site) (d x f g : ℕ) → (Precedes s (site d x f g) → ⊥) → Precedes s (site d x (f + 1) 0) → (s.domain ≡ d) × (s.slice ≡ x) × (s.from ≡ f) × (g ≤ s.gid)
Precedes-from s d x f g isnt is = grind arith

-- between a position and the next slice
pub Precedes-slice : (s : Site) (d x f : ℕ) → (Precedes s (site d x f 0) → ⊥) → Precedes s (site d (x + 1) 0 0) → (s.domain ≡ d) × (s.slice ≡ x) × (f ≤ s.from)
Precedes-slice s d x f isnt is = grind arith

-- between a slice and the next domain
pub Precedes-domain : (s : Site) (d x : ℕ) → (Precedes s (site d x 0 0) → ⊥) → Precedes s (site (d + 1) 0 0 0) → x ≤ s.slice
Precedes-domain s d x isnt is = grind arith

-- ---- later bounds

pub grows-gid : (d x f g h : ℕ) → g ≤ h → (s : Site) → Precedes s (site d x f g) → Precedes s (site d x f h)
grows-gid d x f g h le s is = grind arith

pub grows-from : (d x f g : ℕ) → (s : Site) → Precedes s (site d x f g) → Precedes s (site d x (f + 1) 0)
grows-from d x f g s is = grind arith

pub grows-slice : (d x f : ℕ) → (s : Site) → Precedes s (site d x f 0) → Precedes s (site d (x + 1) 0 0)
grows-slice d x f s is = grind arith

pub grows-domain : (d x : ℕ) → (s : Site) → Precedes s (site d x 0 0) → Precedes s (site (d + 1) 0 0 0)
grows-domain d x s is = grind arith

-- nothing precedes the first place
pub Precedes-first : (s : Site) → Precedes s (site 0 0 0 0) → ⊥
Precedes-first s is = grind arith

-- a place of an earlier domain
pub Precedes-within : (s : Site) (d : ℕ) → s.domain < d → Precedes s (site d 0 0 0)
Precedes-within s d lt = inl lt

-- just before the next group
pub Precedes-next : (s : Site) → Precedes s (site s.domain s.slice s.from (s.gid + 1))
Precedes-next s = grind arith

-- a place by its parts is the place
pub site-same : (s : Site) (d x f g : ℕ) → s.domain ≡ d → s.slice ≡ x → s.from ≡ f → s.gid ≡ g → s ≡ site d x f g
site-same s d x f g a b c e = grind arith

-- Where windows begin, and their order.
use Rattle.std.specs.Prelude.{◌≡◌, ℕ, ◌<◌, ◌⊎◌}
use Rattle.run_counts.specs.declared.window.Window.{Window}

-- a place where a window may begin: the domain, the slice in it, the position of the flush or lock, and the number of the group
pub record Site : Type 0 where
  pub domain : ℕ
  pub slice : ℕ
  pub from : ℕ
  pub gid : ℕ

-- the place of a window
abbrev pub site_of : Window → Site
site_of w = record { domain = w.domain; slice = w.slice; from = w.from; gid = w.gid.0 }

-- one place comes before another: by domain, then by slice, then by position, and then by group
abbrev pub Precedes : Site → Site → Type 0
Precedes a b =
    (a.domain < b.domain)
    ⊎ ((a.domain ≡ b.domain) × ((a.slice < b.slice) ⊎ ((a.slice ≡ b.slice) × ((a.from < b.from) ⊎ ((a.from ≡ b.from) × (a.gid < b.gid))))))

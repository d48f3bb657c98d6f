-- The components of a path.
use Rattle.std.specs.Prelude.{ℕ, Bool, false, not, ◌==◌, ◌&&◌, ◌||◌, nat_le, List, [], ◌∷◌, length, Option, Some, None, codes, if◌then◌else◌}
use Rattle.std.specs.List.{list_all, slice_split}
use Rattle.path_names.specs.declared.components.TheConstants.{MOST_NAME_BYTES}
use Rattle.rc_base.specs.Texts.{is_text}

-- the byte `/`
abbrev pub is_slash : ℕ → Bool
is_slash byte = byte == 47

-- a byte from `!` to `~`
abbrev pub is_visible : ℕ → Bool
is_visible byte = nat_le 0x21 byte && nat_le byte 0x7e

-- `.` or `..`
abbrev pub is_dots : List ℕ → Bool
is_dots name = is_text name (codes ".") || is_text name (codes "..")

-- 1 to 255 visible bytes, but neither `.` nor `..`
unfoldable pub is_component : List ℕ → Bool
is_component name = nat_le 1 (length name) && nat_le (length name) MOST_NAME_BYTES && list_all is_visible name && not (is_dots name)

-- the parts between the slashes, once the first byte is left out
abbrev pub components : List ℕ → List (List ℕ)
components [] = []
components (first ∷ rest) = slice_split is_slash rest

-- whether the first byte is a slash
abbrev pub begins_with_slash : List ℕ → Bool
begins_with_slash [] = false
begins_with_slash (first ∷ rest) = is_slash first

-- whether a text is components, each after a slash
unfoldable pub is_well_formed : List ℕ → Bool
is_well_formed text = begins_with_slash text && list_all is_component (components text)

-- the components of a path, of which `/` alone has none; a text that is not well formed is no path
unfoldable pub components_of : List ℕ → Option (List (List ℕ))
components_of text = if is_text text (codes "/") then Some [] else if is_well_formed text then Some (components text) else None

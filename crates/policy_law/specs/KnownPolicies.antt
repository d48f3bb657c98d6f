-- Policies that are known: least recently used, first in first out, a tree of bits, not recently used, re-reference intervals, random.
use Rattle.std.specs.Prelude.{ℕ, ◌+◌, ◌-◌, ◌/◌, ◌%◌, ◌^◌, zero, suc, Bool, true, false, not, ◌==◌, min, nat_lt, if◌then◌else◌, List, [], ◌∷◌, find, filter, length, slice_index, unwrap_or}
use Rattle.std.specs.List.{list_all}
use Rattle.policy_law.specs.Policies.{Policy, has_way}

-- the same values, but for one number
abbrev pub with_at : {A : Type 0} → (ℕ → A) → ℕ → A → ℕ → A
with_at f w a v = if v == w then a else f v

-- of these ways and the best so far, the first with the least key
abbrev pub least_way : (ℕ → ℕ) → ℕ → List ℕ → ℕ
least_way key best [] = best
least_way key best (w ∷ ws) = least_way key (if nat_lt (key w) (key best) then w else best) ws

-- the first way of a mask
abbrev pub first_way : List ℕ → ℕ
first_way mask = slice_index mask 0

-- ---- by stamps: the state is a clock, and the clock's time at the last use of each way, or at its last fill

-- a clock, and for each way a time that it had
pub record Stamps : Type 0 where
  pub clock : ℕ
  pub stamp : ℕ → ℕ

-- the way gets the time, and the clock goes on
abbrev pub with_stamp : ℕ → Stamps → Stamps
with_stamp w s = record { clock = s.clock + 1; stamp = with_at s.stamp w s.clock }

-- the way used longest ago is replaced
abbrev pub lru : Policy Stamps
lru = record {
  on_hit = λ mask w s. with_stamp w s;
  on_fill = λ mask w s. with_stamp w s;
  on_drop = λ w s. s;
  victim = λ mask s. least_way s.stamp (first_way mask) mask;
}

-- the way filled longest ago is replaced
abbrev pub fifo : Policy Stamps
fifo = record lru { on_hit = λ mask w s. s }

-- ---- by a tree: the ways are its leaves, and each node of it has a bit, the side that is replaced next

-- whether a way is on the upper side of the node above it at this level
abbrev pub is_upper : ℕ → ℕ → Bool
is_upper level w = (w / 2 ^ level) % 2 == 1

-- the ways that are left, where there are some, or else all
abbrev pub some_or : List ℕ → List ℕ → List ℕ
some_or [] ways = ways
some_or (w ∷ ws) ways = w ∷ ws

-- Going down from a level, each bit halves the ways of the mask, unless it has none on that side. The nodes of a level are numbered,
-- so that a way w is below the node w / 2 ^ (level + 1).
abbrev pub way_below : (ℕ → ℕ → Bool) → ℕ → List ℕ → ℕ
way_below bits zero ways = first_way ways
way_below bits (suc level) ways =
    way_below bits level (some_or (filter (λ (w : ℕ). if bits level (first_way ways / 2 ^ suc level) then is_upper level w else not (is_upper level w)) ways) ways)

-- each node above a way that is used points away from it
abbrev pub bits_after : ℕ → (ℕ → ℕ → Bool) → ℕ → ℕ → Bool
bits_after w bits level node = if node == w / 2 ^ suc level then not (is_upper level w) else bits level node

-- a tree of so many levels, over 2 ^ levels ways
abbrev pub tree : ℕ → Policy (ℕ → ℕ → Bool)
tree levels = record {
  on_hit = λ mask w bits. bits_after w bits;
  on_fill = λ mask w bits. bits_after w bits;
  on_drop = λ w bits. bits;
  victim = λ mask bits. way_below bits levels mask;
}

-- ---- not recently used: a bit for each way; when all of these ways have theirs set, all but the last one's are reset

-- the bits after a use of this way
abbrev pub with_use : List ℕ → ℕ → (ℕ → Bool) → ℕ → Bool
with_use ways w s v =
    if list_all (with_at s w true) ways then (if v == w then true else if has_way ways v then false else s v) else with_at s w true v

-- the policy that looks at these ways for an access with a mask: at the mask's own, or at all
abbrev pub nru : (List ℕ → List ℕ) → Policy (ℕ → Bool)
nru ways = record {
  on_hit = λ mask w s. with_use (ways mask) w s;
  on_fill = λ mask w s. with_use (ways mask) w s;
  on_drop = λ w s. with_at s w false;
  victim = λ mask s. unwrap_or (find (λ (w : ℕ). not (s w)) mask) (first_way mask);
}

-- ---- static re-reference intervals (SRRIP, two bits): 0 after a hit, 2 after a fill; the first way with the greatest is replaced, and
-- first these ways age by what it lacks of 3

-- the first way of the mask with the greatest interval
abbrev pub farthest_way : List ℕ → (ℕ → ℕ) → ℕ
farthest_way mask s = least_way (λ (w : ℕ). 3 - s w) (first_way mask) mask

-- the intervals, greater by this much in these ways, and 3 at most
abbrev pub with_age : List ℕ → ℕ → (ℕ → ℕ) → ℕ → ℕ
with_age ways by s v = if has_way ways v then min 3 (s v + by) else s v

-- the policy in which these ways age for a fill with a mask: the mask's own, or all
abbrev pub srrip : (List ℕ → List ℕ) → Policy (ℕ → ℕ)
srrip ways = record {
  on_hit = λ mask w s. with_at s w 0;
  on_fill = λ mask w s. with_at (with_age (ways mask) (3 - s (farthest_way mask s)) s) w 2;
  on_drop = λ w s. with_at s w 3;
  victim = λ mask s. farthest_way mask s;
}

-- ---- random, by a generator that moves on with each fill

-- the way of the mask that a number picks
abbrev pub nth_way : List ℕ → ℕ → ℕ
nth_way mask number = slice_index mask (number % length mask)

-- one generator for all
abbrev pub random : (ℕ → ℕ) → Policy ℕ
random next = record { on_hit = λ mask w s. s; on_fill = λ mask w s. next s; on_drop = λ w s. s; victim = nth_way }

-- one for each mask, found under its first way
abbrev pub random_by_mask : (ℕ → ℕ) → Policy (ℕ → ℕ)
random_by_mask next = record {
  on_hit = λ mask w s. s;
  on_fill = λ mask w s. with_at s (first_way mask) (next (s (first_way mask)));
  on_drop = λ w s. s;
  victim = λ mask s. nth_way mask (s (first_way mask));
}

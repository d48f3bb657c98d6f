-- The machine line of a pair script: words `KEY=VALUE`, each key at most once, in any order.
use Rattle.std.specs.Prelude.{◌≡◌, ℕ, ◌%◌, Bool, ◌&&◌, ◌||◌, ◌==◌, nat_le, List, [], ◌∷◌, codes, Option, Some, None, is_some, unwrap_or, if◌then◌else◌}
use Rattle.std.specs.Option.{option_and_then, option_or, option_map}
use Rattle.std.specs.List.{list_any, before_first, after_first}
use Rattle.num_text.specs.Numbers.{dec_of}
use Rattle.rc_base.specs.Texts.{is_text}
use Rattle.machine.specs.declared.parameters.Parameters.{Parameters}
use Rattle.machine.specs.Maps.{parameters_of}
use Rattle.machine.specs.Ranges.{is_machine}
use Rattle.machine.specs.declared.machine.Machine.{Machine}
use Rattle.pair_text.specs.Values.{Machines}
use Rattle.pair_text.specs.declared.kind.PairKind.{PairKind}
use Rattle.pair_text.specs.declared.kind.PairKind.TheVariants.{Cdp, Levels}
use Rattle.pair_text.specs.declared.pair_keys.PairKeys.{PairKeys}
use Rattle.num_text.specs.Signs.{equals}
use Rattle.script_lines.specs.Keys.{no_keys, once, parameters_from, with_key}

-- the keys of any machine that a pair script's machine may have
abbrev pub pair_key : List ℕ → Bool
pair_key key =
    is_text key (codes "domains") || is_text key (codes "sets") || is_text key (codes "ways") || is_text key (codes "classes")
    || is_text key (codes "cpus") || is_text key (codes "min") || is_text key (codes "shareable") || is_text key (codes "sparse")

-- a key of any machine
abbrev pub with_machine_key : PairKeys → List ℕ → List ℕ → Option PairKeys
with_machine_key k key value = if pair_key key then option_map (λ keys. record k { keys = keys }) (with_key k.keys key value) else None

-- a key of an L2
unfoldable pub with_l2_key : PairKeys → List ℕ → List ℕ → Option PairKeys
with_l2_key k key value =
    if is_text key (codes "l2_domains") then option_map (λ n. record k { l2_domains = Some n }) (once (is_some k.l2_domains) 8 (dec_of value)) else
    if is_text key (codes "l2_sets") then option_map (λ n. record k { l2_sets = Some n }) (once (is_some k.l2_sets) 65536 (dec_of value)) else
    if is_text key (codes "l2_ways") then option_map (λ n. record k { l2_ways = Some n }) (once (is_some k.l2_ways) 32 (dec_of value)) else
    None

-- these keys, and one more; only a script with two levels has an L2
abbrev pub with_pair_key : PairKind → PairKeys → List ℕ → List ℕ → Option PairKeys
with_pair_key Cdp k key value = with_machine_key k key value
with_pair_key Levels k key value = option_or (with_machine_key k key value) (with_l2_key k key value)

-- these keys, and those of the words
unfoldable pub pair_keys_from : PairKind → PairKeys → List (List ℕ) → Option PairKeys
pair_keys_from kind k [] = Some k
pair_keys_from kind k (word ∷ words) =
    if list_any equals word then option_and_then (λ more. pair_keys_from kind more words) (with_pair_key kind k (before_first equals word) (after_first equals word)) else None

abbrev pub no_pair_keys : PairKeys
no_pair_keys = record { keys = no_keys; l2_domains = None; l2_sets = None; l2_ways = None }

-- ---- the machines that keys give

-- how many L2 domains there are; as many as L3 domains, where nothing is said
abbrev pub l2_domains_of : PairKeys → ℕ
l2_domains_of k = unwrap_or k.l2_domains (unwrap_or k.keys.domains 1)

-- the least number of CPUs, which is theirs where nothing is said
abbrev pub least_cpus : PairKind → PairKeys → ℕ
least_cpus Cdp k = unwrap_or k.keys.domains 1
least_cpus Levels k = l2_domains_of k

-- the caches of the machine, in one slice a domain
abbrev pub machine_from : PairKind → PairKeys → Parameters
machine_from kind k = record (parameters_from k.keys) { cpus = unwrap_or k.keys.cpus (least_cpus kind k); slices = 1 }

-- the L2 caches: they have no shareable bits
abbrev pub l2_from : PairKeys → Parameters
l2_from k = record (machine_from Levels k) { domains = l2_domains_of k; sets = unwrap_or k.l2_sets 16; ways = unwrap_or k.l2_ways 4; shareable = 0 }

-- machines that are in range: with code and data prioritization a class takes two of the machine's, and the L2 domains are as many
-- in each L3 domain
unfoldable pub machines_from : PairKind → PairKeys → Option Machines
machines_from Cdp k =
    if is_machine (machine_from Cdp k) && nat_le 2 (machine_from Cdp k).classes then Some (record { machine = machine_from Cdp k; l2 = None }) else None
machines_from Levels k =
    if is_machine (machine_from Levels k) && (is_machine (l2_from k) && ((l2_from k).domains % (machine_from Levels k).domains == 0))
    then Some (record { machine = machine_from Levels k; l2 = Some (l2_from k) }) else None

-- the machines of the words of a machine line
abbrev pub machines_of : PairKind → List (List ℕ) → Option Machines
machines_of kind words = option_and_then (machines_from kind) (pair_keys_from kind no_pair_keys words)

-- (For proofs.) the machines, as they are seen
abbrev pub machines_seen : Machine → Option Machine → Machines
machines_seen machine l2 = record { machine = parameters_of machine; l2 = option_map parameters_of l2 }

-- (For proofs.) a function gave these machines
abbrev pub GivesMachines : Option (Machine × Option Machine) → Option Machines → Type 0
GivesMachines None machines = machines ≡ None
GivesMachines (Some (machine, l2)) machines = machines ≡ Some (machines_seen machine l2)

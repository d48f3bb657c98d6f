-- The machine line: words `KEY=VALUE`, each key at most once, in any order.
use Rattle.std.specs.Prelude.{ℕ, Bool, ◌==◌, nat_le, nat_eq, List, [], ◌∷◌, drop, codes, Option, Some, None, is_some, unwrap_or, if◌then◌else◌}
use Rattle.std.specs.Option.{option_and_then, option_or}
use Rattle.std.specs.List.{list_any, before_first, after_first, starts_with}
use Rattle.num_text.specs.Signs.{equals}
use Rattle.num_text.specs.Numbers.{dec_of, number_of}
use Rattle.rc_base.specs.Texts.{is_text}
use Rattle.machine.specs.declared.parameters.Parameters.{Parameters}
use Rattle.machine.specs.Ranges.{is_machine}
use Rattle.script_lines.specs.declared.keys.Keys.{Keys}

-- a number that is at most this
abbrev pub at_most : ℕ → Option ℕ → Option ℕ
at_most high number = option_and_then (λ n. if nat_le n high then Some n else None) number

-- the number of a key, if it is at most this and the key was not given before
abbrev pub once : Bool → ℕ → Option ℕ → Option ℕ
once given high number = if given then None else at_most high number

-- hexadecimal digits after an optional `0x`
abbrev pub mask_of : List ℕ → Option ℕ
mask_of text = number_of 16 (if starts_with nat_eq text (codes "0x") then drop 2 text else text)

-- the keys of the caches
unfoldable pub cache_key : Keys → List ℕ → List ℕ → Option Keys
cache_key keys key value =
    if is_text key (codes "domains") then option_and_then (λ n. Some (record keys { domains = Some n })) (once (is_some keys.domains) 8 (dec_of value)) else
    if is_text key (codes "sets") then option_and_then (λ n. Some (record keys { sets = Some n })) (once (is_some keys.sets) 65536 (dec_of value)) else
    if is_text key (codes "ways") then option_and_then (λ n. Some (record keys { ways = Some n })) (once (is_some keys.ways) 32 (dec_of value)) else
    if is_text key (codes "slices") then option_and_then (λ n. Some (record keys { slices = Some n })) (once (is_some keys.slices) 16 (dec_of value)) else
    None

-- the keys of classes, RMIDs and CPUs
unfoldable pub id_key : Keys → List ℕ → List ℕ → Option Keys
id_key keys key value =
    if is_text key (codes "classes") then option_and_then (λ n. Some (record keys { classes = Some n })) (once (is_some keys.classes) 64 (dec_of value)) else
    if is_text key (codes "rmids") then option_and_then (λ n. Some (record keys { rmids = Some n })) (once (is_some keys.rmids) 256 (dec_of value)) else
    if is_text key (codes "cpus") then option_and_then (λ n. Some (record keys { cpus = Some n })) (once (is_some keys.cpus) 64 (dec_of value)) else
    None

-- the keys of masks and of limbo
unfoldable pub mask_key : Keys → List ℕ → List ℕ → Option Keys
mask_key keys key value =
    if is_text key (codes "min") then option_and_then (λ n. Some (record keys { min = Some n })) (once (is_some keys.min) 32 (dec_of value)) else
    if is_text key (codes "shareable") then option_and_then (λ n. Some (record keys { shareable = Some n })) (once (is_some keys.shareable) 4294967295 (mask_of value)) else
    if is_text key (codes "threshold") then option_and_then (λ n. Some (record keys { threshold = Some n })) (once (is_some keys.threshold) 67108864 (dec_of value)) else
    if is_text key (codes "sparse") then option_and_then (λ n. Some (record keys { sparse = Some n })) (once (is_some keys.sparse) 1 (dec_of value)) else
    None

-- these keys, and one more
unfoldable pub with_key : Keys → List ℕ → List ℕ → Option Keys
with_key keys key value = option_or (cache_key keys key value) (option_or (id_key keys key value) (mask_key keys key value))

-- these keys, and those of the words
unfoldable pub keys_from : Keys → List (List ℕ) → Option Keys
keys_from keys [] = Some keys
keys_from keys (word ∷ words) = if list_any equals word then option_and_then (λ k. keys_from k words) (with_key keys (before_first equals word) (after_first equals word)) else None

-- no keys
abbrev pub no_keys : Keys
no_keys = record { domains = None; sets = None; ways = None; classes = None; rmids = None; cpus = None; min = None; shareable = None; threshold = None; sparse = None; slices = None }

-- the keys of words
abbrev pub keys_of : List (List ℕ) → Option Keys
keys_of words = keys_from no_keys words

-- the parameters that keys give, each with its default; there are as many CPUs as domains
abbrev pub parameters_from : Keys → Parameters
parameters_from keys = record {
  domains = unwrap_or keys.domains 1;
  sets = unwrap_or keys.sets 64;
  ways = unwrap_or keys.ways 8;
  classes = unwrap_or keys.classes 8;
  rmids = unwrap_or keys.rmids 16;
  cpus = unwrap_or keys.cpus (unwrap_or keys.domains 1);
  min = unwrap_or keys.min 1;
  shareable = unwrap_or keys.shareable 0;
  threshold = unwrap_or keys.threshold 0;
  sparse = unwrap_or keys.sparse 0 == 1;
  slices = unwrap_or keys.slices 1;
}

-- parameters that are all in range
abbrev pub in_range : Parameters → Option Parameters
in_range p = if is_machine p then Some p else None

-- the machine of the words of a machine line
abbrev pub machine_of : List (List ℕ) → Option Parameters
machine_of words = option_and_then (λ keys. in_range (parameters_from keys)) (keys_of words)

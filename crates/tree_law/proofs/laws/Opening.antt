-- The opening tree is sound.
use Rattle.std.proofs.Common.{◌≡◌, ◌≢◌, ℕ, zero, suc, ◌-◌, ◌<◌, ◌≤◌, true, false, List, [], ◌∷◌, length, get_or, replicate, Option, None, Some, IfSome, inl, refl, sym, subst, ◌∙◌, arith}
use Rattle.std.specs.List.{slice_get}
use Rattle.std.specs.List.Sorted.{IsStrictlyIncreasing}
use Rattle.std.proofs.lemmas.List.{length-append, length-replicate, get_or_append_left, get_or-replicate}
use Rattle.std.proofs.lemmas.List.Elements.{All-map, All-replicate}
use Rattle.std.proofs.lemmas.List.Kept.{AllPairs-from_increasing}
use Rattle.group_tree.specs.declared.group.Group.{Group}
use Rattle.lists.proofs.Tests.{All-one}
use Rattle.lists.proofs.Pairs.{AllPairs-map, AllPairs-one}
use Rattle.machine.specs.Ranges.{InRange}
use Rattle.machine.specs.declared.parameters.Parameters.{Parameters}
use Rattle.rc_base.specs.declared.names.Mode.TheVariants.{Exclusive, Shareable}
use Rattle.task_binding.specs.declared.binding.Binding.{Binding}
use Rattle.tree_law.proofs.laws.ValidMasks.{IsValid-full_mask}
use Rattle.tree_law.specs.Masks.{HasValid, IsValid, KeepApart, OffShareable}
use Rattle.tree_law.specs.Regions.{HasNoOther, HasOneRegion, IsPlaced, LinesDiffer}
use Rattle.tree_law.specs.Sound.{HasIds, IdsDiffer, IsBound, IsCounted, IsServed, IsSound, IsUsed, NamesDiffer}
use Rattle.tree_law.specs.State.{opening}
use Rattle.pseudo_lock.specs.declared.region.Region.{Region}
use Rattle.group_tree.specs.Opening.{default_group, full_mask, in_each_domain}
use Rattle.cpu_binding.specs.Groups as cpu_groups
use Rattle.task_binding.specs.Bindings as bindings

-- where no domain has a region, none is found
slice_get-replicate_none : (n domain : ℕ) (r : Region) → slice_get {X = Option Region} (replicate n None) domain ≡ Some (Some r) → ⊥
slice_get-replicate_none zero domain r e = cc
slice_get-replicate_none (suc n) zero r e = cc
slice_get-replicate_none (suc n) (suc domain) r e = slice_get-replicate_none n domain r e

-- the tree at the start is sound
pub opening-sound : (m : Parameters) (tasks : List ℕ) → InRange m → IsStrictlyIncreasing tasks → IsSound m (opening m tasks)
opening-sound m tasks range rising = record {
  named = record {
    first = record { gid = refl; name = refl; counted = refl; class = refl; rmid = refl };
    gids = AllPairs-one (λ (a b : Group). a.gid.0 ≢ b.gid.0) (default_group m);
    serial = All-one (λ (x : Group). x.gid.0 < 1) (default_group m) (omega arith);
    names = AllPairs-one NamesDiffer (default_group m);
  };
  numbered = record {
    ids = All-one (λ (x : Group). HasIds ((default_group m) ∷ []) x.kind x) (default_group m) (refl, refl);
    classes = All-one (λ (x : Group). IfSome x.class (λ id. id < m.classes)) (default_group m) range.some_class;
    rmids = All-one (λ (x : Group). IfSome x.rmid (IsUsed m [])) (default_group m) (range.some_rmid, refl);
    limbo_exists = λ k d within. absurd (omega arith);
    limbo_rising = λ i j d below within. absurd (omega arith);
    apart = AllPairs-one IdsDiffer (default_group m);
  };
  masks = record {
    places = All-one (λ (x : Group). length x.masks ≡ 8) (default_group m) places;
    valid = λ domain lt. All-one (HasValid m domain) (default_group m) (λ control unlocked. subst (IsValid m) (sym (in_place domain lt)) (IsValid-full_mask m range));
    apart = λ domain lt. AllPairs-one (KeepApart domain) (default_group m);
    off_shareable = λ domain lt. All-one (OffShareable m domain) (default_group m) (λ counted e. absurd (let f : Shareable ≡ Exclusive = e in cc));
  };
  regions = record {
    each = length-replicate m.domains None;
    lawful = λ domain r there. absurd (slice_get-replicate_none m.domains domain r there);
    once = All-one (HasOneRegion (replicate m.domains None)) (default_group m) (λ e. absurd (let f : false ≡ true = e in cc));
    no_other = All-one (HasNoOther (replicate m.domains None)) (default_group m) (λ e. absurd (let f : false ≡ true = e in cc));
  };
  lines = record {
    placed = All-replicate (λ (o : Option Region). IfSome o (IsPlaced 0)) m.domains None tt;
    differ = λ i j d below within. apart (get_or (replicate m.domains None) i d) (get_or (replicate m.domains None) j d) (get_or-replicate m.domains i None d (omega (arith, length-replicate {A = Option Region} m.domains None)));
  };
  threshold = range.threshold_limit;
  tasks = record {
    rising = AllPairs-map (λ (a b : Binding). a.task < b.task) bindings.opening_binding tasks (AllPairs-from_increasing tasks rising);
    each = All-map (IsBound ((default_group m) ∷ [])) bindings.opening_binding tasks (λ k d within. (counted, inl refl));
  };
  cpus = record {
    count = length-replicate m.cpus cpu_groups.opening_cpu;
    each = All-replicate (IsServed ((default_group m) ∷ [])) m.cpus cpu_groups.opening_cpu (counted, tt);
  };
}
  where
    apart : (a b : Option Region) → a ≡ None → LinesDiffer a b
    apart None b e = tt
    apart (Some a) b e = absurd (let f : ◌≡◌ {A = Option Region} (Some a) None = e in cc)

    most : m.domains ≤ 8
    most = range.domain_limit

    places : length (in_each_domain m (full_mask m)) ≡ 8
    places = omega (arith, most, length-append (replicate m.domains (full_mask m)) (replicate (8 - m.domains) 0), length-replicate m.domains (full_mask m), length-replicate {A = ℕ} (8 - m.domains) 0)

    in_place : (domain : ℕ) → domain < m.domains → get_or (in_each_domain m (full_mask m)) domain 0 ≡ full_mask m
    in_place domain lt = get_or_append_left (replicate m.domains (full_mask m)) (replicate (8 - m.domains) 0) 0 domain (omega (arith, lt, length-replicate m.domains (full_mask m))) ∙ get_or-replicate m.domains domain (full_mask m) 0 lt

    counted : IsCounted ((default_group m) ∷ []) (record { 0 = 0 })
    counted = refl

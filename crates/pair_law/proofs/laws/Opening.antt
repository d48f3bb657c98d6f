-- The opening state is sound.
use Rattle.std.proofs.Common.{◌≡◌, ◌≢◌, ℕ, ◌-◌, ◌<◌, true, [], ◌∷◌, length, get_or, replicate, refl, sym, subst, ◌∙◌, arith}
use Rattle.std.proofs.lemmas.List.{length-append, length-replicate, get_or_append_left, get_or-replicate}
use Rattle.std.proofs.lemmas.List.Elements.{All-map}
use Rattle.std.proofs.lemmas.List.Kept.{AllPairs-from_increasing}
use Rattle.group_tree.specs.Opening.{full_mask, in_each_domain}
use Rattle.lists.proofs.Pairs.{AllPairs-map, AllPairs-one}
use Rattle.lists.proofs.Tests.{All-one}
use Rattle.machine.specs.Ranges.{InRange}
use Rattle.machine.specs.declared.parameters.Parameters.{Parameters}
use Rattle.pair_law.proofs.laws.Machines.{side_machine-range}
use Rattle.pair_law.specs.Laws.{OpeningIsSound}
use Rattle.pair_law.specs.Sound.{HasPlaces, HasValid, IsGroup, KeepApart, OffShareable}
use Rattle.pair_law.specs.State.{PairGroup, default_group}
use Rattle.pair_text.specs.Values.{class_count, side_machine}
use Rattle.pair_text.specs.declared.side.Side.TheVariants.{First, Second}
use Rattle.rc_base.specs.Gids.{default_gid}
use Rattle.rc_base.specs.declared.names.Mode.TheVariants.{Exclusive, Shareable}
use Rattle.task_binding.specs.Bindings.{opening_binding}
use Rattle.task_binding.specs.declared.binding.Binding.{Binding}
use Rattle.tree_law.proofs.laws.ValidMasks.{IsValid-full_mask}
use Rattle.tree_law.specs.Counted.{is_counted_mode}
use Rattle.tree_law.specs.Masks.{IsValid}

-- the same mask in each domain of a side
module _ (p : Parameters) (range : InRange p) where
  length-opening : length (in_each_domain p (full_mask p)) ≡ 8
  length-opening = let most = range.domain_limit in omega (arith, most, length-append (replicate p.domains (full_mask p)) (replicate (8 - p.domains) 0), length-replicate p.domains (full_mask p), length-replicate {A = ℕ} (8 - p.domains) 0)

  IsValid-opening : (domain : ℕ) → domain < p.domains → IsValid p (get_or (in_each_domain p (full_mask p)) domain 0)
  IsValid-opening domain lt = subst (IsValid p) (sym (get_or_append_left (replicate p.domains (full_mask p)) (replicate (8 - p.domains) 0) 0 domain (omega (arith, lt, length-replicate p.domains (full_mask p))) ∙ get_or-replicate p.domains domain (full_mask p) 0 lt)) (IsValid-full_mask p range)

-- the state at the start is sound
pub opening-sound : OpeningIsSound
opening-sound m tasks range rising = record {
  named = record {
    first = record { gid = refl; name = refl; class = refl };
    gids = AllPairs-one (λ (a b : PairGroup). a.gid.0 ≢ b.gid.0) (default_group m);
    serial = All-one (λ (x : PairGroup). x.gid.0 < 1) (default_group m) (omega arith);
    names = AllPairs-one (λ (a b : PairGroup). a.name ≢ b.name) (default_group m);
    modes = All-one (λ (x : PairGroup). is_counted_mode x.mode ≡ true) (default_group m) refl;
  };
  classes = record {
    exist = All-one (λ (x : PairGroup). x.class < class_count m) (default_group m) range.some_class;
    apart = AllPairs-one (λ (a b : PairGroup). a.class ≢ b.class) (default_group m);
  };
  masks = record {
    places = All-one HasPlaces (default_group m) places;
    valid = All-one (HasValid m) (default_group m) valid;
    apart = AllPairs-one (KeepApart m) (default_group m);
    off_shareable = All-one (OffShareable m) (default_group m) (λ side domain lt e. absurd (let f : Shareable ≡ Exclusive = e in cc));
  };
  tasks = record {
    rising = AllPairs-map (λ (a b : Binding). a.task < b.task) opening_binding tasks (AllPairs-from_increasing tasks rising);
    each = All-map (λ (b : Binding). IsGroup (default_group m ∷ []) b.control) opening_binding tasks (λ k d within. counted);
  };
}
  where
    places : HasPlaces (default_group m)
    places First = length-opening (side_machine m First) (side_machine-range m range First)
    places Second = length-opening (side_machine m Second) (side_machine-range m range Second)

    valid : HasValid m (default_group m)
    valid First domain lt = IsValid-opening (side_machine m First) (side_machine-range m range First) domain lt
    valid Second domain lt = IsValid-opening (side_machine m Second) (side_machine-range m range Second) domain lt

    counted : IsGroup (default_group m ∷ []) default_gid
    counted = refl

-- Groups of which some are gone: what stays sound.
use Rattle.std.proofs.Common.{◌≡◌, ◌≢◌, ℕ, ◌<◌, Bool, true, false, cond, eqb, List, [], ◌∷◌, length, filter, find, get_or, Option, None, Some, IsSomeAnd, IfSome, inl, inr, refl, sym, subst, ap, ◌∙◌, arith}
use Rattle.std.specs.List.{All, flat_map, slice_get}
use Rattle.std.specs.Option.{option_map_or, option_to_list}
use Rattle.std.proofs.lemmas.Bool.{cases_order, ne_eqb}
use Rattle.std.proofs.lemmas.List.{get_or_default}
use Rattle.std.proofs.lemmas.List.Elements.{All-cons, All-filter}
use Rattle.std.proofs.lemmas.List.Folds.{list_any_none}
use Rattle.std.proofs.lemmas.List.Kept.{AllPairs-filter}
use Rattle.group_tree.specs.declared.group.Group.{Group}
use Rattle.group_tree.specs.declared.group_kind.GroupKind.{GroupKind}
use Rattle.group_tree.specs.declared.group_kind.GroupKind.TheVariants.{Control, Monitor}
use Rattle.hw_ids.specs.Ids.{contains}
use Rattle.lists.proofs.Pairs.{All-flat_map}
use Rattle.lists.proofs.Tests.{list_any-kept, find-found, All-kept}
use Rattle.machine.specs.declared.parameters.Parameters.{Parameters}
use Rattle.rc_base.specs.declared.names.Gid.{Gid}
use Rattle.tree_law.proofs.Limbo.{HasNone}
use Rattle.tree_law.specs.Freeing.{rmids_of}
use Rattle.tree_law.specs.Masks.{HasValid, HaveMasks, KeepApart, OffShareable}
use Rattle.tree_law.specs.Sound.{AreNamed, AreNumbered, Differ, HasIds, IdsDiffer, IsCounted, IsDefault, IsUsed, NamesDiffer, counts}
use Rattle.tree_law.proofs.BothSides.{Differ-turned}

-- the RMID of a record, as a list
pub All-option_to_list : (P : ℕ → Type 0) (o : Option ℕ) → IfSome o P → All P (option_to_list o)
All-option_to_list P None p = λ k d within. absurd (omega arith)
All-option_to_list P (Some id) p = All-cons P id [] p (λ k d within. absurd (omega arith))

-- the RMIDs of the records that pass a test
pub All-rmids_of : (P : ℕ → Type 0) (test : Group → Bool) (groups : List Group) → ((k : ℕ) (d : Group) → k < length groups → test (get_or groups k d) ≡ true → IfSome (get_or groups k d).rmid P) → All P (flat_map rmids_of (filter test groups))
All-rmids_of P test groups each = All-flat_map P rmids_of (filter test groups) (All-kept (λ (x : Group). All P (rmids_of x)) test groups (λ k d within is. All-option_to_list P (get_or groups k d).rmid (each k d within is)))

-- the RMID of the first record that passes a test
pub All-rmids_of_found : (P : ℕ → Type 0) (test : Group → Bool) (groups : List Group) → ((k : ℕ) (d : Group) → k < length groups → test (get_or groups k d) ≡ true → IfSome (get_or groups k d).rmid P) → All P (option_map_or rmids_of (find test groups) [])
All-rmids_of_found P test groups each = at (find test groups) refl
  where
    at : (o : Option Group) → find test groups ≡ o → All P (option_map_or rmids_of o [])
    at None is = λ k d within. absurd (omega arith)
    at (Some x) is = let f = find-found test groups x is in All-option_to_list P x.rmid (subst (λ (y : Group). IfSome y.rmid P) (f.at x) (each f.place x f.within (ap test (f.at x) ∙ f.passes)))

module _ (groups : List Group) (q : Group → Bool) where
  -- groups are still named where the default group is kept
  pub AreNamed-filter : (next_gid : ℕ) → AreNamed groups next_gid → ((x : Group) → IsDefault x → q x ≡ true) → AreNamed (filter q groups) next_gid
  AreNamed-filter next_gid named stays = record {
    first = first groups named.first;
    gids = AllPairs-filter (λ (a b : Group). a.gid.0 ≢ b.gid.0) q groups named.gids;
    serial = All-filter q (λ (x : Group). x.gid.0 < next_gid) groups named.serial;
    names = AllPairs-filter NamesDiffer q groups named.names;
  }
    where
      first : (gs : List Group) → IsSomeAnd (slice_get gs 0) IsDefault → IsSomeAnd (slice_get (filter q gs) 0) IsDefault
      first [] f = f
      first (x ∷ xs) f = at (q x) (stays x f)
        where
          at : (b : Bool) → b ≡ true → IsSomeAnd (slice_get (cond b (x ∷ filter q xs) (filter q xs)) 0) IsDefault
          at true e = f
          at false e = absurd (let g : false ≡ true = e in cc)

  -- a counted group that is kept
  pub IsCounted-filter : (gid : Gid) → ((k : ℕ) (d : Group) → k < length groups → counts gid (get_or groups k d) ≡ true → q (get_or groups k d) ≡ true) → IsCounted groups gid → IsCounted (filter q groups) gid
  IsCounted-filter gid stays counted = list_any-kept (counts gid) q groups (λ k d within is. stays k d within is) counted

  -- a group has the ids of its kind where its parent stays counted
  HasIds-filter : (kind : GroupKind) (x : Group) → ((parent : Gid) → kind ≡ Monitor parent → IsCounted groups parent → IsCounted (filter q groups) parent) → HasIds groups kind x → HasIds (filter q groups) kind x
  HasIds-filter Control x stays has = has
  HasIds-filter (Monitor parent) x stays has = (has.0, has.1, stays parent refl has.2)

  -- groups are still numbered where the parents of those that are kept stay counted
  pub AreNumbered-filter : (m : Parameters) (limbo : List ℕ) → AreNumbered m groups limbo
      → ((k : ℕ) (d : Group) (parent : Gid) → k < length groups → q (get_or groups k d) ≡ true → (get_or groups k d).kind ≡ Monitor parent → IsCounted groups parent → IsCounted (filter q groups) parent)
      → AreNumbered m (filter q groups) limbo
  AreNumbered-filter m limbo numbered stays = record {
    ids = All-kept (λ x. HasIds (filter q groups) x.kind x) q groups (λ k d within is. HasIds-filter (get_or groups k d).kind (get_or groups k d) (λ parent kind. stays k d parent within is kind) (numbered.ids k d within));
    classes = All-filter q (λ (x : Group). IfSome x.class (λ id. id < m.classes)) groups numbered.classes;
    rmids = All-filter q (λ (x : Group). IfSome x.rmid (IsUsed m limbo)) groups numbered.rmids;
    limbo_exists = numbered.limbo_exists;
    limbo_rising = numbered.limbo_rising;
    apart = AllPairs-filter IdsDiffer q groups numbered.apart;
  }

  -- the groups that are kept have the masks that they had
  pub HaveMasks-filter : (m : Parameters) → HaveMasks m groups → HaveMasks m (filter q groups)
  HaveMasks-filter m have = record {
    places = All-filter q (λ (x : Group). length x.masks ≡ 8) groups have.places;
    valid = λ domain lt. All-filter q (HasValid m domain) groups (have.valid domain lt);
    apart = λ domain lt. AllPairs-filter (KeepApart domain) q groups (have.apart domain lt);
    off_shareable = λ domain lt. All-filter q (OffShareable m domain) groups (have.off_shareable domain lt);
  }

  -- those that are kept have none of the RMIDs of those that are gone
  pub HasNone-filter : (m : Parameters) (limbo freed : List ℕ) → AreNumbered m groups limbo
      → ((P : ℕ → Type 0) → ((k : ℕ) (d : Group) → k < length groups → q (get_or groups k d) ≡ false → IfSome (get_or groups k d).rmid P) → All P freed)
      → All (HasNone freed) (filter q groups)
  HasNone-filter m limbo freed numbered gone = All-kept (HasNone freed) q groups (λ i d within kept. at i d within kept (get_or groups i d).rmid refl)
    where
      other : (id : ℕ) (a b : Option ℕ) → Differ a b → a ≡ Some id → IfSome b (λ o. eqb o id ≡ false)
      other id a None differ is = tt
      other id None (Some b) differ is = absurd (let f : None ≡ Some id = is in cc)
      other id (Some a) (Some b) differ is = ne_eqb b id (λ e. differ (let same : a ≡ id = (let f : Some a ≡ Some id = is in cc) in same ∙ sym e))

      at : (i : ℕ) (d : Group) → i < length groups → q (get_or groups i d) ≡ true → (o : Option ℕ) → (get_or groups i d).rmid ≡ o → IfSome o (λ id. contains id freed ≡ false)
      at i d within kept None is = tt
      at i d within kept (Some id) is = list_any_none (λ (o : ℕ). eqb o id) freed (gone (λ o. eqb o id ≡ false) (λ k e lt out. other id (get_or groups i d).rmid (get_or groups k e).rmid (pair k e lt out) is))
        where
          pair : (k : ℕ) (e : Group) → k < length groups → q (get_or groups k e) ≡ false → Differ (get_or groups i d).rmid (get_or groups k e).rmid
          pair k e lt out = elim (cases_order i k) [
            | inl same ↦ absurd (let f : true ≡ false = sym kept ∙ ap q (get_or_default groups i d e within ∙ ap (λ (n : ℕ). get_or groups n e) same) ∙ out in cc)
            | inr (inl below) ↦ subst (λ (y : Group). Differ y.rmid (get_or groups k e).rmid) (get_or_default groups i e d within) (numbered.apart i k e below lt).1
            | inr (inr above) ↦ subst (λ (y : Group). Differ y.rmid (get_or groups k e).rmid) (get_or_default groups i e d within) (Differ-turned (get_or groups k e).rmid (get_or groups i e).rmid (numbered.apart k i e above within).1)
          ]

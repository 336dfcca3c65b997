-- The tests computed over the whole table, and the table as it is lent.
use mathlib.Core.Path.{◌≡◌, refl, sym, ap, subst, ◌∙◌}
use mathlib.Core.List.{List}
use Prim.Native.Nat.{ℕ}
use native.Mathlib.Omega.{arith}
use lib.Dec.{T}
use lib.ListN.{length, take}
use lib.Seq.{take_all}
use Rattle.directory.specs.declared.Item.{Item}
use Rattle.directory.specs.Order.{ascends, every, ruled}
use Rattle.directory.specs.Views.{View, passes, view_of, Lent}
use Rattle.directory.proofs.Flat.{items_length, flat, items_flat}
use Rattle.directory.specs.Tenant.{for_tenant, leading, tenant_of}
use Rattle.directory.proofs.Views.{passes_ruled}
use Rattle.directory.proofs.Tenant.{tenant_passes}
use Rattle.own.specs.Table.{directory}
use Rattle.own.specs.Own.{own}
use Rattle.own.specs.OwnRules.{OwnPasses, count_of, TenantView, places_of, ThreeTables, AveragePlaces}
use Rattle.own.specs.Kinds.{first_of_kind, KindsInOrder}

-- THE TESTS of paper 01's own
pub own_good : T (passes own)
unfolding ascends every directory
own_good = tt

pub own_ruled : T (ruled directory)
own_ruled = passes_ruled own own_good

pub directory_count : length directory ≡ 148
unfolding directory
directory_count = refl

pub own_passes : OwnPasses
own_passes = record { count = directory_count; most = refl; passed = own_good }

-- the constant table, seen whole
pub own_view : view_of (flat directory) 148 120 ≡ own
own_view = ap (λ (its : List Item). record { seen = its; most = own.most }) (ap (take 148) (items_flat directory) ∙ take_all 148 directory (omega (arith, directory_count)))

pub own_lent : Lent (flat directory) 148 120
own_lent = record {
  holds = omega (arith, items_length (flat directory), ap length (items_flat directory), directory_count);
  good = subst (λ (v : View). T (passes v)) (sym own_view) own_good;
}

-- and as far as a tenant sees it
pub tenant_count : leading for_tenant directory ≡ 83
unfolding leading directory
tenant_count = refl

pub tenant_seen : view_of (flat directory) 83 120 ≡ tenant_of own
tenant_seen = ap (λ (its : List Item). record { seen = its; most = own.most }) (ap (take 83) (items_flat directory) ∙ ap (λ (n : ℕ). take n directory) (sym tenant_count))

pub tenant_lent : Lent (flat directory) 83 120
tenant_lent = record {
  holds = omega (arith, items_length (flat directory), ap length (items_flat directory), directory_count);
  good = subst (λ (v : View). T (passes v)) (sym tenant_seen) (tenant_passes own own_good);
}

pub tenant_view : TenantView
unfolding leading count_of places_of every directory
tenant_view = record { count = refl; bytes = refl; last_byte = refl; last_word = refl; registers = refl; hidden = tt }

pub three_tables : ThreeTables
unfolding places_of directory
three_tables = record { at_pos_ea = refl; at_pos_er = refl; at_neg_ea = refl; at_neg_er = refl }

pub average_places : AveragePlaces
unfolding places_of directory
average_places = record { at_average = refl; at_peak = refl; at_minutes = refl }

pub kinds_in_order : KindsInOrder
unfolding first_of_kind directory
kinds_in_order = record { first = refl; energies = refl; others = refl; last = refl }

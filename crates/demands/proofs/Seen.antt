-- Which address a frame is judged by, and what it may ask for: at the second address a part of what the whole directory has, item by item the same.
use Rattle.std.specs.Prelude.{Err, Ok}
use mathlib.Core.Path.{◌≡◌, refl, sym, ap, ◌∙◌}
use mathlib.Core.Logic.{◌⊎◌, inl, inr}
use mathlib.Core.Bool.{Bool, true, false, ◌&&◌, not, and-eq-true_iff}
use mathlib.Core.List.{List}
use Prim.Native.Nat.{ℕ, ◌+◌, ◌<◌}
use native.Mathlib.Omega.{arith}
use lib.Dec.{T, eqb}
use lib.ListN.{get_or}
use borrow.Author.Tests.{eqb-true, eqb-false, eq-eqb, ne_eqb, not-true}
use Rattle.refusal.specs.declared.ErrorCode.TheVariants.{Address}
use Rattle.directory.specs.Item.{none}
use Rattle.directory.specs.Run.{run_items, span}
use Rattle.directory.specs.Views.{View, passes}
use Rattle.directory.specs.Tenant.{for_tenant, leading, tenant_of}
use Rattle.directory.proofs.Errors.{no_run}
use Rattle.directory.proofs.Views.{seen_run}
use Rattle.directory.proofs.Tenant.{tenant_passes, tenant_long, tenant_sees}
use Rattle.modbus.specs.Frame.{address_of}
use Rattle.modbus.specs.Read.{read_in}
use Rattle.modbus.proofs.Judged.{legal_read, tenant_reads}
use Rattle.meter.specs.declared.given.Given.{Given}
use Rattle.meter.specs.declared.Meter.{Meter}
use Rattle.board.specs.Board.{to_second, address_for, view_for}
use Rattle.demands.specs.RoundTrip.{Names}

-- ---- which address

-- a frame to the second address names it, and this is not 0
module _ (g : Given) (frame : List ℕ) where
  pub second_named : to_second g frame ≡ true → address_of frame ≡ g.second
  second_named h = eqb-true _ _ ((and-eq-true_iff (not (eqb g.second 0)) (eqb (address_of frame) g.second)).0 h).1

  pub second_some : to_second g frame ≡ true → g.second ≡ 0 → ⊥
  second_some h = eqb-false _ _ (not-true _ ((and-eq-true_iff (not (eqb g.second 0)) (eqb (address_of frame) g.second)).0 h).0)

  pub to_second_lem : (g.second ≡ 0 → ⊥) → address_of frame ≡ g.second → to_second g frame ≡ true
  to_second_lem some e = λ i. not (ne_eqb g.second 0 some i) && eq-eqb (address_of frame) g.second e i

  -- one to the own is none to the second
  pub to_own : (g.second ≡ g.address → ⊥) → address_of frame ≡ g.address → to_second g frame ≡ false
  to_own other e = by (to_second g frame) refl
    where
      by : (t : Bool) → to_second g frame ≡ t → to_second g frame ≡ false
      by true h = absurd (other (sym (second_named h) ∙ e))
      by false h = h

  -- what is named is what it is judged by
  pub named_address : (g.second ≡ g.address → ⊥) → Names g frame → address_for g (to_second g frame) ≡ address_of frame
  named_address other (inl e) = ap (address_for g) (to_own other e) ∙ sym e
  named_address other (inr h) = ap (address_for g) h ∙ sym (second_named h)

-- ---- what may be asked for

module _ (v : View) (good : T (passes v)) where
  pub part_passes : (tenant : Bool) → T (passes (view_for v tenant))
  part_passes true = tenant_passes v good
  part_passes false = good

  pub seen_passes : (m : Meter) (frame : List ℕ) → T (passes (view_for v (to_second m.given frame)))
  seen_passes m frame = part_passes (to_second m.given frame)

  -- a read of a part is one of the whole, of the same items
  pub record Whole (tenant : Bool) (frame : List ℕ) (first count : ℕ) : Type 0 where
    pub items : read_in v frame ≡ Ok (span first count)
    pub run : run_items (view_for v tenant).seen first count ≡ run_items v.seen first count
    pub item : (index : ℕ) → index < count → get_or (view_for v tenant).seen (first + index) none ≡ get_or v.seen (first + index) none

  pub whole : (tenant : Bool) (frame : List ℕ) (first count : ℕ) → read_in (view_for v tenant) frame ≡ Ok (span first count) → Whole tenant frame first count
  whole false frame first count e = record { items = e; run = refl; item = λ index l. refl }
  whole true frame first count e =
      let inside = (legal_read (tenant_of v) (tenant_passes v good) e).inside in
      record {
        items = by (tenant_reads v good frame).either;
        run = seen_run v.seen (leading for_tenant v.seen) first count (omega (arith, inside, tenant_long v));
        item = λ index l. (tenant_sees v good).same (first + index) (omega (arith, inside, l));
      }
    where
      by : (read_in (tenant_of v) frame ≡ read_in v frame) ⊎ (read_in (tenant_of v) frame ≡ Err Address) → read_in v frame ≡ Ok (span first count)
      by (inl same) = sym same ∙ e
      by (inr h) = no_run Address h e

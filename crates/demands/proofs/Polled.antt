-- The request has eight bytes with their CRC; its start finds the item again, and the item sends the words asked.
use Rattle.std.specs.Prelude.{Ok, Some}
use mathlib.Core.Path.{◌≡◌, refl, sym, subst}
use mathlib.Core.Logic.{inl, inr}
use mathlib.Core.Bool.{Bool, true, false, not, and-false}
use mathlib.Core.List.{List, [], ◌∷◌, ◌++◌}
use Prim.Native.Nat.{ℕ, zero, suc, ◌≤◌, ◌<◌}
use native.Mathlib.Nat.{pos_of_ne-zero}
use native.Mathlib.Omega.{arith}
use lib.Dec.{T, eqb}
use lib.ListN.{length, get_or}
use borrow.Author.Tests.{eq-eqb, le-ltb}
use Rattle.crc.proofs.Laws.{intact_is_sealed}
use Rattle.words.specs.Words.{word}
use Rattle.directory.specs.declared.Item.{Item}
use Rattle.directory.specs.Item.{none}
use Rattle.directory.specs.Run.{find_in, run_from, run_in, span}
use Rattle.directory.specs.Views.{View, passes}
use Rattle.directory.specs.Tenant.{tenant_of}
use Rattle.directory.proofs.Tenant.{tenant_passes}
use Rattle.directory.proofs.Order.{ruled_narrow}
use Rattle.directory.proofs.Views.{passes_tested, passes_ruled, passes_long}
use Rattle.directory.proofs.Rules.{directory_rules}
use Rattle.modbus.specs.Frame.{word_number, start_of, silence}
use Rattle.modbus.specs.Read.{read_in}
use Rattle.modbus.proofs.Judged.{read_when}
use Rattle.meter.specs.declared.given.Given.{Given}
use Rattle.meter.proofs.Parts.{own_address}
use Rattle.board.specs.Board.{to_second, view_for}
use Rattle.replies.specs.Judged.{heard}
use Rattle.collector.specs.When.{Asks}
use Rattle.replies.proofs.Requests.{heard_so}
use Rattle.demands.specs.Polled.{request_for, EveryItemPolled}
use Rattle.demands.proofs.Seen.{to_second_lem}
use Rattle.demands.proofs.Polls.{with_data}

module _ (v : View) (good : T (passes v)) where
  -- an item of one word or two is a run by itself
  module _ (i : ℕ) (start : ℕ) (it : Item) (same : get_or v.seen i none ≡ it) (found : find_in v.seen start 0 ≡ Some i) where
    alone : (n : ℕ) → it.words ≡ n → 1 ≤ n → n ≤ 2 → run_in v.seen start n ≡ Ok (span i 1)
    unfolding run_in run_from
    alone zero e a b = absurd (omega (arith, a))
    alone (suc zero) e a b = rw (found, same, e) refl
    alone (suc (suc zero)) e a b = rw (found, same, e) refl
    alone (suc (suc (suc n))) e a b = absurd (omega (arith, b))

  module _ (address i : ℕ) (l : i < length v.seen) where
    abbrev it : Item
    it = get_or v.seen i none

    abbrev request : List ℕ
    request = request_for address it

    start : start_of request ≡ it.start
    start = omega arith

    number : word_number request ≡ it.words
    number = omega arith

    pub items : read_in v request ≡ Ok (span i 1)
    items =
        let narrow = ruled_narrow v.seen (passes_ruled v good) i l in
        ((read_when v request).items i 1).1 (
          refl,
          rw number (rw (le-ltb it.words 1 narrow.some, le-ltb v.most it.words (omega (arith, narrow.few, passes_long v good))) refl),
          rw (start, number) (alone i it.start it refl ((directory_rules v.seen (passes_tested v good)).found i l) it.words refl narrow.some narrow.few),
        )

    loud : silence address request ≡ false
    unfolding silence
    loud = rw (intact_is_sealed.passes ((address ∷ 0x03 ∷ []) ++ word it.start ++ word it.words), eq-eqb address address refl, and-false (not (eqb address 0))) refl

    pub hears : 1 ≤ address → heard request ≡ true
    hears some = heard_so request (record { own = λ z. omega (arith, z, some); read = refl; loud = loud })

  -- it is asked for so
  abbrev pub asked_alone : (address i : ℕ) → 1 ≤ address → i < length v.seen → Asks v (request_for address (get_or v.seen i none))
  asked_alone address i some l = record { hears = hears address i l some; first = i; count = 1; items = items address i l }

module _ (v : View) (good : T (passes v)) where
  -- at the second address, over the items for a tenant
  module _ (g : Given) (some : g.second ≡ 0 → ⊥) (i : ℕ) (l : i < length (tenant_of v).seen) where
    abbrev asked : List ℕ
    asked = request_for g.second (get_or (tenant_of v).seen i none)

    pub tenants : to_second g asked ≡ true
    tenants = to_second_lem g asked some refl

    pub tenant_asked : Asks (view_for v (to_second g asked)) asked
    tenant_asked =
        subst (λ (t : Bool). Asks (view_for v t) asked) (sym tenants)
        (asked_alone (tenant_of v) (tenant_passes v good) g.second i (pos_of_ne-zero some) l)

  pub every_item_polled : EveryItemPolled v
  every_item_polled = record {
    hears = λ address i some l. hears v good address i l some;
    items = items v good;
    data_sent = λ m i b ok l room.
        ((with_data v good m (request_for m.given.address (get_or v.seen i none)) b (record { within = ok; room = room; named = inl refl })).own refl).0
        (asked_alone v good m.given.address i (own_address m ok) l);
    tenant_sent = λ m i b ok some l room.
        (with_data v good m (request_for m.given.second (get_or (tenant_of v).seen i none)) b (record { within = ok; room = room; named = inr (tenants m.given some i l) })).same.0
        (tenant_asked m.given some i l);
  }

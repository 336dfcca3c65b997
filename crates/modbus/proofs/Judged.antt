-- A read is judged by its length, its word number and the run: which of them decides.
use mathlib.Core.Path.{◌≡◌, refl, sym, ap, ◌∙◌}
use mathlib.Core.Logic.{◌↔◌, ◌⊎◌, inl, inr}
use mathlib.Core.Bool.{Bool, true, false, ◌||◌, not, cond, false≢true}
use mathlib.Core.List.{List}
use Prim.Native.Nat.{ℕ, ◌+◌, ◌*◌, ◌≤◌, ◌<◌}
use native.Mathlib.Omega.{arith}
use lib.Dec.{T, ltb, eqb}
use lib.ListN.{length, take, drop}
use borrow.Author.Tests.{ltb-false, eqb-true, eqb-false, eq-eqb}
use Rattle.std.specs.Prelude.{Result, Ok, Err}
use Rattle.refusal.specs.declared.ErrorCode.{ErrorCode}
use Rattle.refusal.specs.declared.ErrorCode.TheVariants.{Function, Address, Data}
use Rattle.directory.specs.declared.Span.{Span}
use Rattle.directory.specs.Item.{items}
use Rattle.directory.specs.Order.{every, narrow}
use Rattle.directory.specs.Run.{run_in, run_items, words_of, span}
use Rattle.directory.specs.Views.{View, passes, view_of, Lent}
use Rattle.directory.proofs.Errors.{no_run, data_sound, run_sound}
use Rattle.directory.proofs.Order.{every_run, ruled_every}
use Rattle.directory.proofs.Views.{passes_ruled, passes_room, run_room, run_part, run_narrow}
use Rattle.directory.proofs.Sends.{run_sends}
use Rattle.directory.specs.Tenant.{for_tenant, leading, tenant_of}
use Rattle.directory.proofs.Tenant.{tenant_passes, tenant_long, run_first, run_within}
use Rattle.modbus.specs.Frame.{start_of, word_number}
use Rattle.modbus.specs.Read.{number_wrong, read_in, ReadWhen, TenantReads}
use Rattle.modbus.proofs.Frames.{neither}

data_address : ◌≡◌ {A = Result Span ErrorCode} (Err Data) (Err Address) → ⊥
data_address e = let z : ◌≡◌ {A = ℕ} 0 1 = cc in omega arith

module _ (v : View) (frame : List ℕ) where
  abbrev t : Bool
  t = eqb (length frame) 8

  abbrev w : Bool
  w = number_wrong v.most (word_number frame)

  abbrev run : Result Span ErrorCode
  run = run_in v.seen (start_of frame) (word_number frame)

  -- a span that is not error 03 comes from the run
  ran : (span : Result Span ErrorCode) → (Err Data ≡ span → ⊥) → (read_in v frame ≡ span) ↔ ((length frame ≡ 8) × (w ≡ false) × (run ≡ span))
  unfolding read_in
  ran span n = (by t w refl refl, λ h. rw (eq-eqb _ _ h.0, h.1) h.2)
    where
      by : (x y : Bool) → t ≡ x → w ≡ y → cond (not x || y) (Err Data) run ≡ span → (length frame ≡ 8) × (w ≡ false) × (run ≡ span)
      by true true e f h = absurd (n h)
      by true false e f h = (eqb-true _ _ e, f, h)
      by false y e f h = absurd (n h)

  wrong_data : (read_in v frame ≡ Err Data) ↔ ((length frame ≡ 8 → ⊥) ⊎ (w ≡ true) ⊎ (run ≡ Err Data))
  unfolding read_in
  wrong_data = (by t w refl refl, back t w refl refl)
    where
      by : (x y : Bool) → t ≡ x → w ≡ y → cond (not x || y) (Err Data) run ≡ Err Data → (length frame ≡ 8 → ⊥) ⊎ (w ≡ true) ⊎ (run ≡ Err Data)
      by true true e f h = inr (inl f)
      by true false e f h = inr (inr h)
      by false y e f h = inl (eqb-false _ _ e)

      back : (x y : Bool) → t ≡ x → w ≡ y → (length frame ≡ 8 → ⊥) ⊎ (w ≡ true) ⊎ (run ≡ Err Data) → cond (not x || y) (Err Data) run ≡ Err Data
      back true true e f h = refl
      back true false e f (inl h) = absurd (h (eqb-true _ _ e))
      back true false e f (inr (inl h)) = absurd (false≢true (sym f ∙ h))
      back true false e f (inr (inr h)) = h
      back false y e f h = refl

pub read_when : (v : View) (frame : List ℕ) → ReadWhen v frame
read_when v frame =
    record {
      error_02 = ran v frame (Err Address) data_address;
      error_03 = wrong_data v frame;
      items = λ first count. ran v frame (Ok (span first count)) (no_run Data refl);
      never = λ h. run_sound v.seen (start_of frame) (word_number frame) ((ran v frame (Err Function) data_sound).0 h).2;
    }

-- a read that is answered with data: its length, the most words it asks for; its items stand among those seen and send just those
pub record LegalRead (v : View) (frame : List ℕ) (first count : ℕ) : Type 0 where
  pub long : length frame ≡ 8
  pub most : word_number frame ≤ v.most
  pub inside : first + count ≤ length v.seen
  pub sends : words_of (run_items v.seen first count) ≡ word_number frame

pub legal_read : (v : View) → T (passes v) → {frame : List ℕ} {first count : ℕ} → read_in v frame ≡ Ok (span first count) → LegalRead v frame first count
legal_read v good {frame} {first} {count} e =
    let t = ((read_when v frame).items first count).0 e in
    let n = neither (ltb (word_number frame) 1) (ltb v.most (word_number frame)) t.1 in
    record {
      long = t.0;
      most = ltb-false v.most (word_number frame) n.1;
      inside = (run_sends v.seen _ _ first count (passes_ruled v good) t.2).inside;
      sends = (run_sends v.seen _ _ first count (passes_ruled v good) t.2).sends;
    }

-- ---- over a tenant's part of a view

module _ (v : View) (good : T (passes v)) (frame : List ℕ) where
  -- the length and the number of words are judged alike, and so is the run, or it ends in error 02
  either : (read_in (tenant_of v) frame ≡ read_in v frame) ⊎ (read_in (tenant_of v) frame ≡ Err Address)
  unfolding read_in
  either = by (not (eqb (length frame) 8) || number_wrong v.most (word_number frame)) (run_first v.seen (leading for_tenant v.seen) (start_of frame) (word_number frame))
    where
      by : (b : Bool) {x y : Result Span ErrorCode} → (x ≡ y) ⊎ (x ≡ Err Address) → (cond b (Err Data) x ≡ cond b (Err Data) y) ⊎ (cond b (Err Data) x ≡ Err Address)
      by true h = inl refl
      by false h = h

  inside : (first count : ℕ) → read_in v frame ≡ Ok (span first count) → first + count ≤ length (tenant_of v).seen → read_in (tenant_of v) frame ≡ Ok (span first count)
  inside first count e few =
      let t = ((read_when v frame).items first count).0 e in
      let n = neither (ltb (word_number frame) 1) (ltb v.most (word_number frame)) t.1 in
      ((read_when (tenant_of v) frame).items first count).1
      (t.0, t.1, run_within v.seen (leading for_tenant v.seen) (passes_ruled v good) _ _ first count (ltb-false _ _ n.0) t.2 (omega (arith, few, tenant_long v)))

  leaves : (first count : ℕ) → read_in v frame ≡ Ok (span first count) → length (tenant_of v).seen < first + count → read_in (tenant_of v) frame ≡ Err Address
  leaves first count e more = by either
    where
      by : (read_in (tenant_of v) frame ≡ read_in v frame) ⊎ (read_in (tenant_of v) frame ≡ Err Address) → read_in (tenant_of v) frame ≡ Err Address
      by (inl same) = absurd (omega (arith, more, (legal_read (tenant_of v) (tenant_passes v good) (same ∙ e)).inside))
      by (inr h) = h

  pub tenant_reads : TenantReads v frame
  tenant_reads = record {
    either = either;
    inside = λ first count e few. inside first count e (omega (arith, few));
    leaves = λ first count e more. leaves first count e (omega (arith, more));
  }

-- ---- what is read

-- the items asked for stand among those seen, each sends one word or two, and all together the words asked, which a reply has room for
pub record AskedItems (v : View) (frame : List ℕ) (asked : Span) : Type 0 where
  pub inside : asked.first + asked.count ≤ length v.seen
  pub narrow : T (every narrow (run_items v.seen asked.first asked.count))
  pub long : length frame ≡ 8
  pub sends : words_of (run_items v.seen asked.first asked.count) ≡ word_number frame
  pub room : 5 + 2 * word_number frame ≤ 256

pub asked_items : (v : View) → T (passes v) → {frame : List ℕ} {asked : Span} → read_in v frame ≡ Ok asked → AskedItems v frame asked
asked_items v good {asked = asked} e =
    let l = legal_read v good e in
    record {
      inside = l.inside;
      narrow = every_run narrow v.seen asked.first asked.count (ruled_every v.seen (passes_ruled v good));
      long = l.long;
      sends = l.sends;
      room = omega (arith, l.most, passes_room v good);
    }

-- ---- over a table that is lent

-- the part of the table that holds the items asked for; they send the words asked, which a reply has room for
pub record AskedPart (t : List ℕ) (seen most : ℕ) (frame : List ℕ) (first count : ℕ) : Type 0 where
  pub inside : 4 * (first + count) ≤ length t
  pub holds : items (take (4 * count) (drop (4 * first) t)) ≡ run_items (view_of t seen most).seen first count
  pub narrow : T (every narrow (items (take (4 * count) (drop (4 * first) t))))
  pub long : length frame ≡ 8
  pub sends : words_of (items (take (4 * count) (drop (4 * first) t))) ≡ word_number frame
  pub room : 5 + 2 * word_number frame ≤ 256

pub asked_part : (t : List ℕ) (seen most : ℕ) → Lent t seen most → {frame : List ℕ} {first count : ℕ} → read_in (view_of t seen most) frame ≡ Ok (span first count) → AskedPart t seen most frame first count
asked_part t seen most lent {first = first} {count = count} e =
    let a = asked_items (view_of t seen most) lent.good e in
    record {
      inside = run_room t seen most lent first count a.inside;
      holds = run_part t seen most lent first count a.inside;
      narrow = run_narrow t seen most lent first count a.inside;
      long = a.long;
      sends = ap words_of (run_part t seen most lent first count a.inside) ∙ a.sends;
      room = a.room;
    }

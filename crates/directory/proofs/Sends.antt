-- The items of a run stand in the directory and send just the words asked: each item that the run passes takes its words
-- off those still due, and the next stands right behind it.
use mathlib.Core.Path.{◌≡◌, refl, sym, ◌∙◌}
use mathlib.Core.Bool.{Bool, true, false}
use mathlib.Core.List.{List}
use mathlib.Core.Logic.{◌⊎◌, inl, inr, ⊎_elim}
use Prim.Native.Nat.{ℕ, zero, suc, ◌+◌, ◌-◌, ◌≤◌, ◌<◌}
use native.Mathlib.Nat.{add-zero, sub-zero}
use native.Mathlib.Omega.{arith}
use lib.Dec.{T, eqb, ltb, leb}
use lib.ListN.{length, get_or, take, drop}
use lib.Seq.{drop-cons}
use borrow.Author.Tests.{eqb-true, eqb-false, ltb-true, ltb-false, leb-true, leb-false}
use Rattle.std.specs.Prelude.{Option, Some, None, Ok, Err}
use Rattle.refusal.specs.declared.ErrorCode.{ErrorCode}
use Rattle.refusal.specs.declared.ErrorCode.TheVariants.{Address, Data}
use Rattle.directory.specs.declared.Item.{Item}
use Rattle.directory.specs.Item.{none, ends}
use Rattle.directory.specs.Order.{ruled}
use Rattle.directory.specs.Run.{find_in, run_from, run_in, words_of, RunSends, span}
use Rattle.directory.proofs.Order.{Ascends, Narrow, ruled_ascends, ruled_narrow}
use Rattle.directory.proofs.Errors.{no_run, one_span}
use Rattle.directory.proofs.Finds.{found_inside}
use Rattle.directory.proofs.Runs.{Stands, stands_first, stands_next, stands_end, stands_off, stands_on, run_nowhere, run_starts, run_done, run_gap, run_half, run_next}

-- what is left of a run from the item of index first + count on
pub record Rest (dir : List Item) (first count due f c : ℕ) : Type 0 where
  pub same : f ≡ first
  pub more : count ≤ c
  pub inside : first + c ≤ length dir
  pub sends : words_of (take (c - count) (drop (first + count) dir)) ≡ due

-- where words are due, an item is left
pub unfinished : {dir : List Item} {first count due f c : ℕ} → Rest dir first count due f c → 0 < due → count < c
unfolding words_of
unfinished {dir} {first} {count} {due} {f} {c} r d = by (ltb count c) refl
  where
    by : (b : Bool) → ltb count c ≡ b → count < c
    by true t = ltb-true count c t
    by false t =
        let none_left : c - count ≡ 0 = omega (arith, r.more, ltb-false count c t) in
        let z : 0 ≡ due = rw none_left at r.sends in
        absurd (omega (arith, z, d))

pub some_due : (due : ℕ) → (due ≡ 0) ⊎ (0 < due)
some_due zero = inl refl
some_due (suc due) = inr (omega arith)

-- the run that ends here, and the run that goes on behind an item
finished : (dir : List Item) (first count x due f c : ℕ) → first + count ≤ length dir → due ≡ 0 → run_from dir first count x due ≡ Ok (span f c) → Rest dir first count due f c
unfolding words_of
finished dir first count x due f c h z e =
    let at_once : (first ≡ f) × (count ≡ c) = one_span (sym (rw z (run_done dir first count x)) ∙ e) in
    let same : f ≡ first = sym at_once.0 in
    let no_more : c ≡ count = sym at_once.1 in
    let none_left : c - count ≡ 0 = omega arith in
    record { same = same; more = omega arith; inside = omega arith; sends = rw (none_left, z) refl }

behind : (dir : List Item) (first count due f c : ℕ) → first + count < length dir → (get_or dir (first + count) none).words ≤ due → Rest dir first (count + 1) (due - (get_or dir (first + count) none).words) f c → Rest dir first count due f c
unfolding words_of
behind dir first count due f c h w r =
    let one_more : c - count ≡ suc (c - (count + 1)) = omega (arith, r.more) in
    let next : first + (count + 1) ≡ suc (first + count) = omega arith in
    let rest = rw next at r.sends in
    record {
      same = r.same;
      more = omega (arith, r.more);
      inside = r.inside;
      sends = rw (one_more, drop-cons dir (first + count) none h) (omega (arith, rest));
    }

-- a turn of the run: it is stuck, or goes on behind the item that it stands at
data Turn (dir : List Item) (first count x due : ℕ) : Type 0 where
  stuck : (e : ErrorCode) → run_from dir first count x due ≡ Err e → Turn dir first count x due
  goes : first + count < length dir → (get_or dir (first + count) none).words ≤ due → run_from dir first count x due ≡ run_from dir first (count + 1) (ends (get_or dir (first + count) none)) (due - (get_or dir (first + count) none).words) → Turn dir first count x due

turn : (dir : List Item) (first count x due : ℕ) → 0 < due → Stands dir (first + count) x → (first + count < length dir → Narrow (get_or dir (first + count) none)) → Turn dir first count x due
turn dir first count x due d s narrow = by_place (ltb i (length dir)) refl
  where
    i : ℕ
    i = first + count

    by_words : (h : i < length dir) → find_in dir x 0 ≡ Some i → (b : Bool) → leb (get_or dir i none).words due ≡ b → Turn dir first count x due
    by_words h f true t = goes h (leb-true _ _ t) (run_next dir first count x i (narrow h) f due d (leb-true _ _ t))
    by_words h f false t = stuck Data (run_half dir first count x i (narrow h) f due d (leb-false _ _ t))

    by_start : i < length dir → (b : Bool) → eqb (get_or dir i none).start x ≡ b → Turn dir first count x due
    by_start h true t = by_words h (stands_on s h (eqb-true _ _ t)) (leb (get_or dir i none).words due) refl
    by_start h false t = stuck Address (run_gap dir first count x due d (stands_off s h (eqb-false _ _ t)))

    by_place : (b : Bool) → ltb i (length dir) ≡ b → Turn dir first count x due
    by_place true t = by_start (ltb-true _ _ t) (eqb (get_or dir i none).start x) refl
    by_place false t = stuck Address (run_gap dir first count x due d (stands_end s (ltb-false _ _ t)))

onward : (dir : List Item) (first count x due f c : ℕ) → Turn dir first count x due → run_from dir first count x due ≡ Ok (span f c)
    → (first + count < length dir → run_from dir first (count + 1) (ends (get_or dir (first + count) none)) (due - (get_or dir (first + count) none).words) ≡ Ok (span f c) → Rest dir first (count + 1) (due - (get_or dir (first + count) none).words) f c)
    → Rest dir first count due f c
onward dir first count x due f c (stuck er p) e later = no_run er p e
onward dir first count x due f c (goes h w p) e later = behind dir first count due f c h w (later h (sym p ∙ e))

module _ (dir : List Item) (asc : Ascends 0 dir) (narrow : (k : ℕ) → k < length dir → Narrow (get_or dir k none)) (first : ℕ) where
  -- each item sends a word at least, so that the words due last for the items
  pub rest : (fuel count x due f c : ℕ) → due ≤ fuel → first + count ≤ length dir → Stands dir (first + count) x → run_from dir first count x due ≡ Ok (span f c) → Rest dir first count due f c
  rest zero count x due f c l h s e = finished dir first count x due f c h (omega arith) e
  rest (suc fuel) count x due f c l h s e =
      ⊎_elim
      (λ (z : due ≡ 0). finished dir first count x due f c h z e)
      (λ (d : 0 < due).
      onward dir first count x due f c (turn dir first count x due d s (narrow (first + count))) e
      (λ i q.
      let next : first + count + 1 ≡ first + (count + 1) = omega arith in
      rest fuel (count + 1) _ _ f c (omega (arith, (narrow (first + count) i).some)) (omega arith) (rw next at (stands_next asc (first + count) i)) q))
      (some_due due)

whole : (dir : List Item) (start words first count : ℕ) → T (ruled dir) → run_in dir start words ≡ Ok (span first count) → Rest dir first 0 words first count
whole dir start words first count r e = by_first (find_in dir start 0) refl
  where
    by_first : (found : Option ℕ) → find_in dir start 0 ≡ found → Rest dir first 0 words first count
    by_first None f = no_run Address (run_nowhere dir start words f) e
    by_first (Some k) f =
        let begun = sym (run_starts dir start words k f) ∙ e in
        let at : k + 0 ≡ k = add-zero k in
        let left = rest dir (ruled_ascends dir r) (ruled_narrow dir r) k words 0 start words first count (omega arith) (omega (arith, found_inside dir start k f)) (rw at (stands_first start k f)) begun in
        rw (← left.same) at left

pub run_sends : (dir : List Item) (start words first count : ℕ) → T (ruled dir) → run_in dir start words ≡ Ok (span first count) → RunSends dir words first count
run_sends dir start words first count r e =
    let run = whole dir start words first count r e in
    record { inside = run.inside; sends = rw (sub-zero, add-zero) at run.sends }

-- The first items of a directory: what passes the tests still does, an item is found where it was or not at all, and a run is as it was or ends in error 02. Along an ascending directory the items for a tenant come first.
use mathlib.Core.Path.{◌≡◌, refl, sym, ap, ◌∙◌}
use mathlib.Core.Logic.{◌⊎◌, inl, inr, ⊎_elim}
use mathlib.Core.Bool.{Bool, true, false, cond, and-eq-true_iff}
use mathlib.Core.List.{List, [], ◌∷◌}
use Prim.Native.Nat.{ℕ, zero, suc, ◌+◌, ◌-◌, ◌≤◌, ◌<◌}
use native.Mathlib.Nat.{add-zero}
use native.Mathlib.Omega.{arith}
use lib.Dec.{T, leb, ltb, eqb}
use lib.ListN.{length, get_or, take, length-take}
use lib.Seq.{get_or-take, length-take-le}
use borrow.Author.Tests.{le-leb, le-ltb, lt-ltb, leb-true, leb-false, ltb-true, eqb-true, eqb-false}
use Rattle.std.specs.Prelude.{Option, Some, None, Result, Ok, Err}
use Rattle.refusal.specs.declared.ErrorCode.{ErrorCode}
use Rattle.refusal.specs.declared.ErrorCode.TheVariants.{Address, Data}
use Rattle.directory.specs.declared.Item.{Item}
use Rattle.directory.specs.declared.Span.{Span}
use Rattle.directory.specs.Item.{none, ends}
use Rattle.directory.specs.Order.{ascends, every, narrow, ruled, shaped, meant, tested}
use Rattle.directory.specs.Run.{find_in, on_item, is_l, run_from, run_in, span}
use Rattle.directory.specs.Views.{View, passes}
use Rattle.directory.specs.Tenant.{for_tenant, leading, tenant_of, TenantSees}
use Rattle.directory.proofs.Order.{left, right, both, every_take, Ascends, apart, Narrow, ruled_ascends, ruled_narrow}
use Rattle.directory.proofs.Errors.{no_run}
use Rattle.directory.proofs.Finds.{found_is, found_inside}
use Rattle.directory.proofs.Runs.{Stands, stands_first, stands_next, stands_here, run_nowhere, run_starts, run_done, run_gap, run_half, run_next}
use Rattle.directory.proofs.Sends.{Rest, unfinished, some_due, rest}
use Rattle.directory.proofs.Views.{passes_tested, passes_ruled, tested_ruled, tested_shaped, tested_meant}

-- ---- what passes the tests

ascends_take : (from : ℕ) (its : List Item) (n : ℕ) → T (ascends from its) → T (ascends from (take n its))
unfolding ascends
ascends_take from its zero h = tt
ascends_take from [] (suc n) h = tt
ascends_take from (it ∷ its) (suc n) h =
    let fills = right (leb from it.start) _ h in
    both (leb from it.start) _ (left (leb from it.start) _ h)
    (both (ltb 0 it.fills) _ (left (ltb 0 it.fills) _ fills) (ascends_take (ends it) its n (right (ltb 0 it.fills) _ fills)))

tested_take : (its : List Item) (n : ℕ) → T (tested its) → T (tested (take n its))
tested_take its n h =
    let ruled-so = tested_ruled its h in
    both (ruled (take n its)) _
    (both (ascends 0 (take n its)) _ (ascends_take 0 its n (left (ascends 0 its) _ ruled-so)) (every_take narrow its n (right (ascends 0 its) _ ruled-so)))
    (both (every shaped (take n its)) _ (every_take shaped its n (tested_shaped its h)) (every_take meant its n (tested_meant its h)))

pub tenant_passes : (v : View) → T (passes v) → T (passes (tenant_of v))
tenant_passes v h =
    both (tested (tenant_of v).seen) _ (tested_take v.seen (leading for_tenant v.seen) (passes_tested v h)) (right (tested v.seen) _ h)

-- ---- a run of the first items

module _ (its : List Item) (n : ℕ) where
  abbrev firsts : List Item
  firsts = take n its

  below : {k : ℕ} → k < length firsts → k < n
  below h = omega (arith, h, length-take n its)

  module _ (x y : Result Span ErrorCode) where
    -- the same, or error 02
    abbrev Ends : Type 0
    Ends = (x ≡ y) ⊎ (x ≡ Err Address)

  found_either : (l : List Item) (j x i : ℕ) → (find_in (take j l) x i ≡ find_in l x i) ⊎ (find_in (take j l) x i ≡ None)
  unfolding find_in
  found_either l zero x i = inr refl
  found_either [] (suc j) x i = inl refl
  found_either (it ∷ l) (suc j) x i = by (eqb it.start x) (found_either l j x (i + 1))
    where
      by : (b : Bool) → (find_in (take j l) x (i + 1) ≡ find_in l x (i + 1)) ⊎ (find_in (take j l) x (i + 1) ≡ None) → (cond b (Some i) (find_in (take j l) x (i + 1)) ≡ cond b (Some i) (find_in l x (i + 1))) ⊎ (cond b (Some i) (find_in (take j l) x (i + 1)) ≡ None)
      by true h = inl refl
      by false h = h

  -- at an address: what follows there is the same, or error 02
  on_either : (x : ℕ) (go went : ℕ → Item → Result Span ErrorCode) → ((k : ℕ) (it : Item) → Ends (go k it) (went k it)) → Ends (on_item firsts (find_in firsts x 0) go) (on_item its (find_in its x 0) went)
  on_either x go went on = by (find_in firsts x 0) refl (found_either its n x 0)
    where
      by : (found : Option ℕ) → find_in firsts x 0 ≡ found → (find_in firsts x 0 ≡ find_in its x 0) ⊎ (find_in firsts x 0 ≡ None) → Ends (on_item firsts (find_in firsts x 0) go) (on_item its (find_in its x 0) went)
      by None e h = inr (ap (λ (f : Option ℕ). on_item firsts f go) e)
      by (Some k) e (inr z) = inr (ap (λ (f : Option ℕ). on_item firsts f go) z)
      by (Some k) e (inl same) =
          let here = ap (λ (f : Option ℕ). on_item firsts f go) e in
          let there = ap (λ (f : Option ℕ). on_item its f went) (sym same ∙ e) in
          let item : get_or firsts k none ≡ get_or its k none = get_or-take n its k none (below (found_inside firsts x k e)) in
          rw (here, there, item) (on k (get_or its k none))

  either_way : (b : Bool) (w x y z : Result Span ErrorCode) → Ends w x → Ends y z → Ends (cond b w y) (cond b x z)
  either_way true w x y z h k = h
  either_way false w x y z h k = k

  run_either : (due first count x : ℕ) → Ends (run_from firsts first count x due) (run_from its first count x due)
  unfolding run_from
  run_either zero first count x = inl refl
  run_either (suc zero) first count x = on_either x _ _ (λ k it. inl refl)
  run_either (suc (suc due)) first count x =
      on_either x _ _ (λ k it. either_way (is_l it) _ _ _ _ (run_either due first (count + 1) (ends it)) (run_either (suc due) first (count + 1) (ends it)))

  -- over the first items a run is as over all, or ends in error 02
  pub run_first : (start words : ℕ) → Ends (run_in firsts start words) (run_in its start words)
  unfolding run_in
  run_first start words = on_either start _ _ (λ k it. run_either words k 0 start)

  -- ---- a run that stays among them

  found_stays : (l : List Item) (j x i k : ℕ) → find_in l x i ≡ Some k → k < i + j → find_in (take j l) x i ≡ Some k
  unfolding find_in
  found_stays [] j x i k e h = let z : ◌≡◌ {A = ℕ} 0 1 = cc in let y : ⊥ = omega arith in absurd y
  found_stays (it ∷ l) zero x i k e h =
      let r = found_is (it ∷ l) x i k e in
      absurd (omega (arith, r.at, h))
  found_stays (it ∷ l) (suc j) x i k e h = by (eqb it.start x) e (λ f. found_stays l j x (i + 1) k f (omega (arith, h)))
    where
      by : (b : Bool) → cond b (Some i) (find_in l x (i + 1)) ≡ Some k → (find_in l x (i + 1) ≡ Some k → find_in (take j l) x (i + 1) ≡ Some k) → cond b (Some i) (find_in (take j l) x (i + 1)) ≡ Some k
      by true e later = e
      by false e later = later e

  module _ (asc : Ascends 0 its) (wide : (k : ℕ) → k < length its → Narrow (get_or its k none)) (first f c : ℕ) (few : f + c ≤ n) where
    -- a turn at the item of index first + count, of which words are due
    turn_stays : (count x due : ℕ) → 0 < due → Stands its (first + count) x → first + count ≤ length its → run_from its first count x due ≡ Ok (span f c) → (later : (y left : ℕ) → left < due → Stands its (first + (count + 1)) y → first + (count + 1) ≤ length its → run_from its first (count + 1) y left ≡ Ok (span f c) → run_from firsts first (count + 1) y left ≡ Ok (span f c)) → run_from firsts first count x due ≡ Ok (span f c)
    turn_stays count x due d s l e later = by (find_in its x 0) refl
      where
        i : ℕ
        i = first + count

        left_of : Rest its first count due f c
        left_of = rest its asc wide first due count x due f c (omega arith) l s e

        by : (found : Option ℕ) → find_in its x 0 ≡ found → run_from firsts first count x due ≡ Ok (span f c)
        by None g = no_run Address (run_gap its first count x due d g) e
        by (Some k) g = by_words (leb (get_or its i none).words due) refl
          where
            here_is : k ≡ i
            here_is = stands_here s g

            known : i < length its
            known = omega (arith, found_inside its x k g, here_is)

            found_there : find_in its x 0 ≡ Some i
            found_there = g ∙ ap Some here_is

            among : i < n
            among = omega (arith, few, left_of.same, unfinished left_of d)

            found_here : find_in firsts x 0 ≡ Some i
            found_here = found_stays its n x 0 i found_there (omega (arith, among))

            item : get_or firsts i none ≡ get_or its i none
            item = get_or-take n its i none among

            by_words : (b : Bool) → leb (get_or its i none).words due ≡ b → run_from firsts first count x due ≡ Ok (span f c)
            by_words false t = no_run Data (run_half its first count x i (wide i known) found_there due d (leb-false _ _ t)) e
            by_words true t =
                let w = leb-true (get_or its i none).words due t in
                let goes = run_next its first count x i (wide i known) found_there due d w in
                let narrow-here : Narrow (get_or firsts i none) = rw item (wide i known) in
                let on = run_next firsts first count x i narrow-here found_here due d (rw item w) in
                let next : i + 1 ≡ first + (count + 1) = omega arith in
                (rw item at on)
                ∙ later (ends (get_or its i none)) (due - (get_or its i none).words) (omega (arith, (wide i known).some, w)) (rw next at (stands_next asc i known)) (omega (arith, known)) (sym goes ∙ e)

    run_stays : (fuel count x due : ℕ) → due ≤ fuel → Stands its (first + count) x → first + count ≤ length its → run_from its first count x due ≡ Ok (span f c) → run_from firsts first count x due ≡ Ok (span f c)
    run_stays zero count x due most s l e =
        let z : due ≡ 0 = omega (arith, most) in
        rw (z, run_done firsts first count x) (sym (run_done its first count x) ∙ (rw z at e))
    run_stays (suc fuel) count x due most s l e =
        ⊎_elim
        (λ (z : due ≡ 0). rw (z, run_done firsts first count x) (sym (run_done its first count x) ∙ (rw z at e)))
        (λ (d : 0 < due). turn_stays count x due d s l e (λ y left less s' l' e'. run_stays fuel (count + 1) y left (omega (arith, less, most)) s' l' e'))
        (some_due due)

  -- a run whose items are all among the first is the same over these
  pub run_within : T (ruled its) → (start words f c : ℕ) → 0 < words → run_in its start words ≡ Ok (span f c) → f + c ≤ n → run_in firsts start words ≡ Ok (span f c)
  run_within r start words f c some e few = by (find_in its start 0) refl
    where
      by : (found : Option ℕ) → find_in its start 0 ≡ found → run_in firsts start words ≡ Ok (span f c)
      by None g = no_run Address (run_nowhere its start words g) e
      by (Some k) g =
          let begun = sym (run_starts its start words k g) ∙ e in
          let at : k + 0 ≡ k = add-zero k in
          let s : Stands its (k + 0) start = rw at (stands_first start k g) in
          let inside = found_inside its start k g in
          let whole = rest its (ruled_ascends its r) (ruled_narrow its r) k words 0 start words f c (omega arith) (omega (arith, inside)) s begun in
          let stays = run_stays (ruled_ascends its r) (ruled_narrow its r) k f c few words 0 start words (omega arith) s (omega (arith, inside)) begun in
          run_starts firsts start words k (found_stays its n start 0 k g (omega (arith, few, whole.same, unfinished whole some))) ∙ stays

-- ---- which come first

module _ (test : Item → Bool) where
  pub leading_most : (its : List Item) → leading test its ≤ length its
  unfolding leading
  leading_most [] = omega arith
  leading_most (it ∷ its) = by (test it) (leading_most its)
    where
      by : (b : Bool) → leading test its ≤ length its → cond b (suc (leading test its)) 0 ≤ suc (length its)
      by true h = omega (arith, h)
      by false h = omega arith

  -- the leading items pass
  leading_pass : (its : List Item) (i : ℕ) → i < leading test its → test (get_or its i none) ≡ true
  unfolding leading
  leading_pass [] i h = absurd (omega (arith, h))
  leading_pass (it ∷ its) i h = by (test it) refl (leading_pass its) i h
    where
      by : (b : Bool) → test it ≡ b → ((k : ℕ) → k < leading test its → test (get_or its k none) ≡ true) → (i : ℕ) → i < cond b (suc (leading test its)) 0 → test (get_or (it ∷ its) i none) ≡ true
      by true e later zero h = e
      by true e later (suc i) h = later i (omega (arith, h))
      by false e later i h = absurd (omega (arith, h))

  -- one that passes, with all before it, is among them
  pass_leading : (its : List Item) (i : ℕ) → i < length its → ((k : ℕ) → k ≤ i → test (get_or its k none) ≡ true) → i < leading test its
  unfolding leading
  pass_leading [] i h p = absurd (omega (arith, h))
  pass_leading (it ∷ its) zero h p = rw (p 0 (omega arith)) (omega arith)
  pass_leading (it ∷ its) (suc i) h p =
      let more = pass_leading its i (omega (arith, h)) (λ k l. p (suc k) (omega (arith, l))) in
      rw (p 0 (omega arith)) (omega (arith, more))

-- along an ascending directory, every item before one for a tenant is for it
before_tenant : {its : List Item} → Ascends 0 its → (i k : ℕ) → k ≤ i → i < length its → for_tenant (get_or its i none) ≡ true → for_tenant (get_or its k none) ≡ true
before_tenant {its} asc i k l inside h = by (eqb k i) refl
  where
    it : Item
    it = get_or its k none

    then : Item
    then = get_or its i none

    ended : ends it ≤ then.start → for_tenant it ≡ true
    ended order = in_bytes_lem (ltb then.start 0x1000) refl (leb 0x1000 it.start) refl
      where
        in_bytes_lem : (b : Bool) → ltb then.start 0x1000 ≡ b → (c : Bool) → leb 0x1000 it.start ≡ c → for_tenant it ≡ true
        in_bytes_lem true e c f = rw (lt-ltb it.start 0x1000 (omega (arith, order, ltb-true then.start 0x1000 e))) refl
        in_bytes_lem false e false f = rw (lt-ltb it.start 0x1000 (omega (arith, leb-false 0x1000 it.start f))) refl
        in_bytes_lem false e true f =
            let words = (and-eq-true_iff (leb 0x1000 then.start) (leb (ends then) 0x103e)).0 (rw e at h) in
            let last = le-leb (ends it) 0x103e (omega (arith, order, leb-true (ends then) 0x103e words.1)) in
            rw (le-ltb it.start 0x1000 (leb-true 0x1000 it.start f), f, last) refl

    by : (b : Bool) → eqb k i ≡ b → for_tenant (get_or its k none) ≡ true
    by true e = rw (eqb-true k i e) h
    by false e = ended (apart asc k i (omega (arith, l, eqb-false k i e)) inside)

pub tenant_long : (v : View) → length (tenant_of v).seen ≡ leading for_tenant v.seen
tenant_long v = length-take-le (leading for_tenant v.seen) v.seen (leading_most for_tenant v.seen)

pub tenant_sees : (v : View) → T (passes v) → TenantSees v
tenant_sees v good = record {
  just = λ i l. (
    λ h. leading_pass for_tenant v.seen i (omega (arith, h, tenant_long v)),
    λ h. omega (arith, pass_leading for_tenant v.seen i l (λ k b. before_tenant (ruled_ascends v.seen (passes_ruled v good)) i k b l h), tenant_long v),
  );
  same = λ i l. get_or-take (leading for_tenant v.seen) v.seen i none (omega (arith, l, tenant_long v));
}

-- The rows of the whole call: what each of its tests leads to, and that of data it is filled from the items in turn.
use mathlib.Core.Path.{◌≡◌, refl, sym, ap, subst, ◌∙◌}
use mathlib.Core.Bool.{Bool, true, false, ◌||◌}
use mathlib.Core.List.{List, [], ◌∷◌, map}
use Prim.Native.Nat.{ℕ, suc, ◌+◌, ◌≤◌, ◌<◌}
use native.Mathlib.Omega.{arith}
use lib.Dec.{T, ltb}
use lib.ListN.{length, get_or}
use lib.Seq.{sets}
use Rattle.std.specs.Prelude.{Result, Ok, Err, cond}
use Rattle.std.proofs.lemmas.Result.{IfErr-at_err}
use Rattle.refusal.specs.declared.Refusal.TheVariants.{ValueImpossible, RowShort}
use Rattle.ratio.specs.declared.Ratios.{Ratios}
use Rattle.ratio.specs.Ratios.{t_of}
use Rattle.directory.specs.declared.Item.{Item}
use Rattle.directory.specs.Item.{none}
use Rattle.directory.specs.Order.{every, shaped}
use Rattle.directory.specs.Run.{run_items, words_of}
use Rattle.directory.specs.Views.{View}
use Rattle.own.specs.Own.{own}
use Rattle.reading.specs.declared.Answer.{Answer}
use Rattle.directory.proofs.Order.{every_at}
use Rattle.directory.proofs.Shapes.{shape_narrow}
use Rattle.reading.specs.Told.{kind_of}
use Rattle.reading.specs.Cells.{cell_of}
use Rattle.replies.specs.declared.Unread.{Unread}
use Rattle.replies.specs.declared.Unread.TheVariants.{Refused}
use Rattle.collector.specs.declared.Nameplate.{Nameplate}
use Rattle.replies.specs.Judged.{judged_in}
use Rattle.collector.specs.Collector.{item_of, on_data, collector_in}
use Rattle.collector.specs.Whole.{in_turn, any_thirteen, readings_in, Rows, kept_by, filled_by, on_reply, whole_in, whole_of, Filled}
use Rattle.collector.proofs.Places.{run_length}
use Rattle.collector.proofs.Turns.{turns_same}
use Rattle.directory.specs.declared.Span.{Span}

-- ---- the tests

module _ (answers : List Answer) (values kinds : List ℕ) where
  -- a row is shorter than the items
  abbrev pub short : Bool
  short = ltb (length values) (length answers) || ltb (length kinds) (length answers)

  pub short_kept : short ≡ true → filled_by answers values kinds ≡ kept_by (Err (Refused RowShort)) values kinds
  unfolding filled_by
  short_kept h = rw h refl

  pub refused_kept : short ≡ false → any_thirteen answers ≡ true → filled_by answers values kinds ≡ kept_by (Err (Refused ValueImpossible)) values kinds
  unfolding filled_by
  refused_kept h a = rw (h, a) refl

  -- the rows with what was given
  abbrev pub full : Rows
  full = record { answer = Ok (length answers); values = sets values 0 (map cell_of (readings_in answers)); kinds = sets kinds 0 (map kind_of (readings_in answers)) }

  pub all_filled : short ≡ false → any_thirteen answers ≡ false → filled_by answers values kinds ≡ full
  unfolding filled_by
  all_filled h a = rw (h, a) refl

-- what equals the definition is allowed
pub allowed : {defined : Rows} {x : Result ℕ Unread} {values kinds : List ℕ} → record { answer = x; values = values; kinds = kinds } ≡ defined → Filled defined x values kinds
allowed e = record { answers = ap (λ (o : Rows). o.answer) e; cells = ap (λ (o : Rows). o.values) e; numbers = ap (λ (o : Rows). o.kinds) e }

pub allowed_by : {a b : Rows} {x : Result ℕ Unread} {values kinds : List ℕ} → a ≡ b → Filled a x values kinds → Filled b x values kinds
allowed_by {x = x} {values = values} {kinds = kinds} e h = subst (λ (o : Rows). Filled o x values kinds) e h

-- ---- the judgement

module _ (v : View) (request reply : List ℕ) (plate : Nameplate) (values kinds : List ℕ) where
  abbrev r : Ratios
  r = plate.ratios

  -- how it goes on from there
  abbrev going : Result Span Unread → Rows
  going j = on_reply j (λ count. filled_by (in_turn count (collector_in v request reply plate)) values kinds) values kinds

  pub to_rows : whole_in v request reply plate values kinds ≡ going (judged_in v request reply r)
  unfolding whole_in
  to_rows = refl

  pub whole_unread : (why : Unread) → judged_in v request reply r ≡ Err why → whole_in v request reply plate values kinds ≡ kept_by (Err why) values kinds
  whole_unread why h = to_rows ∙ ap going h

  module _ (asked : Span) (h : judged_in v request reply r ≡ Ok asked) where
    pub whole_data : whole_in v request reply plate values kinds ≡ filled_by (in_turn asked.count (collector_in v request reply plate)) values kinds
    whole_data = to_rows ∙ ap going h

    -- each call is then the item's
    pub each_item : (index : ℕ) → collector_in v request reply plate index ≡ item_of plate.order (t_of r) (run_items v.seen asked.first asked.count) reply index
    unfolding collector_in
    each_item index = ap (λ (j : Result Span Unread). on_data v j (λ its. item_of plate.order (t_of r) its reply index)) h

    pub whole_items : asked.first + asked.count ≤ length v.seen → whole_in v request reply plate values kinds ≡ filled_by (in_turn (length (run_items v.seen asked.first asked.count)) (item_of plate.order (t_of r) (run_items v.seen asked.first asked.count) reply)) values kinds
    whole_items inside =
        whole_data
        ∙ ap (λ (l : List Answer). filled_by l values kinds) (turns_same asked.count (collector_in v request reply plate) (item_of plate.order (t_of r) (run_items v.seen asked.first asked.count) reply) (λ i b. each_item i))
        ∙ ap (λ (n : ℕ). filled_by (in_turn n (item_of plate.order (t_of r) (run_items v.seen asked.first asked.count) reply)) values kinds) (sym (run_length v.seen asked.first asked.count inside))

-- by paper 01's own directory, what is not read leaves both rows
pub unread_kept : (request reply : List ℕ) (plate : Nameplate) (values kinds : List ℕ) (why : Unread) → judged_in own request reply plate.ratios ≡ Err why → Filled (whole_of request reply plate values kinds) (Err why) values kinds
unread_kept request reply plate values kinds why h = allowed (sym (whole_unread own request reply plate values kinds why h))

-- ---- an item sends a word at the least

counted : (its : List Item) → ((i : ℕ) → i < length its → 1 ≤ (get_or its i none).words) → length its ≤ words_of its
unfolding words_of
counted [] some = omega arith
counted (it ∷ its) some = omega (arith, some 0 (omega arith), counted its (λ i below. some (suc i) (omega (arith, below))))

pub few_items : (its : List Item) → T (every shaped its) → length its ≤ words_of its
few_items its t = counted its (λ i below. (shape_narrow (get_or its i none) (every_at shaped its t i below)).some)

-- ---- a test, and the result that it leads to

module _ {A E : Type 0} where
  -- the refusal where the test is met
  abbrev pub verdict : Bool → E → A → Result A E
  verdict b e x = cond b (Err e) (Ok x)

  pub refusing : {b : Bool} (e : E) (x : A) → b ≡ true → verdict true e x ≡ verdict b e x
  refusing e x h = rw h refl

  pub passing : {b : Bool} (e : E) (x : A) → b ≡ false → verdict false e x ≡ verdict b e x
  passing e x h = rw h refl

  pub not_both : {e : E} {x : A} → verdict true e x ≡ verdict false e x → ⊥
  not_both {e = e} {x = x} h = IfErr-at_err (λ _. ⊥) {r = verdict false e x} (sym h) tt

  -- a result is that of the test, so the test was not met
  pub passed : (b : Bool) (e : E) (x y : A) (r : Result A E) → r ≡ verdict b e x → r ≡ verdict false e y → (b ≡ false) × (r ≡ verdict false e x)
  passed true e x y r h k = absurd (not_both (sym h ∙ k))
  passed false e x y r h k = (refl, h)

  -- or it was met, and this is its refusal
  pub refused : (b : Bool) (e d : E) (x : A) (r : Result A E) → r ≡ verdict b e x → r ≡ verdict true d x → (b ≡ true) × (d ≡ e)
  refused true e d x r h k = (refl, IfErr-at_err (λ (z : E). z ≡ e) {r = verdict true e x} (sym h ∙ k) refl)
  refused false e d x r h k = absurd (not_both (sym k ∙ h))

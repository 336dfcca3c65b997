-- The words of items, item by item: what is left to send after one is what the next and those behind it send.
use mathlib.Core.Path.{◌≡◌, refl, sym, ap, ◌∙◌}
use mathlib.Core.List.{List, [], ◌∷◌}
use Prim.Native.Nat.{ℕ, ◌+◌, ◌*◌, ◌<◌}
use native.Mathlib.Numerals.{add-one}
use native.Mathlib.Omega.{arith}
use lib.ListN.{length, get_or, drop, length-append}
use lib.Seq.{sets, drop-cons}
use Rattle.words.specs.declared.Order.{Order}
use Rattle.words.specs.Words.{sent}
use Rattle.words.proofs.Laws.{sets_append, length_sent}
use Rattle.directory.specs.declared.Item.{Item}
use Rattle.directory.specs.Item.{none}
use Rattle.directory.specs.Run.{words_of}
use Rattle.board.specs.Reads.{items_sent}

-- items have two bytes a word
pub length_items : (o : Order) (shown : ℕ → ℕ) (its : List Item) → length (items_sent o shown its) ≡ 2 * words_of its
unfolding items_sent words_of
length_items o shown [] = refl
length_items o shown (it ∷ its) =
    length-append (sent o it.words (shown it.quantity)) (items_sent o shown its)
    ∙ omega (arith, length_sent o it.words (shown it.quantity), length_items o shown its)

-- at one of them
module _ (its : List Item) (i : ℕ) (h : i < length its) where
  left_on : drop i its ≡ get_or its i none ∷ drop (i + 1) its
  left_on = drop-cons its i none h ∙ ap (λ (k : ℕ). get_or its i none ∷ drop k its) (sym (add-one i))

  pub words_on : words_of (drop i its) ≡ (get_or its i none).words + words_of (drop (i + 1) its)
  unfolding words_of
  words_on = ap words_of left_on

  pub sent_on : (o : Order) (shown : ℕ → ℕ) (buffer after : List ℕ) (at : ℕ) (it : Item) → it ≡ get_or its i none → after ≡ sets buffer at (sent o it.words (shown it.quantity)) → sets after (at + 2 * it.words) (items_sent o shown (drop (i + 1) its)) ≡ sets buffer at (items_sent o shown (drop i its))
  unfolding items_sent
  sent_on o shown buffer after at it e s =
      let v = shown it.quantity in
      let whole : drop i its ≡ it ∷ drop (i + 1) its = left_on ∙ ap (λ (x : Item). x ∷ drop (i + 1) its) (sym e) in
      sym (ap (λ (l : List Item). sets buffer at (items_sent o shown l)) whole ∙ sets_append buffer at (sent o it.words v) (items_sent o shown (drop (i + 1) its)) ∙ rw (length_sent o it.words v, s) refl)

-- Where the words of an item stand: behind those of the items before it.
use mathlib.Core.Path.{◌≡◌, ap, ◌∙◌}
use mathlib.Core.Bool.{true}
use mathlib.Core.List.{List, [], ◌∷◌}
use Prim.Native.Nat.{ℕ, zero, suc, ◌+◌, ◌*◌, ◌≤◌, ◌<◌}
use native.Mathlib.Omega.{arith}
use lib.ListN.{length, get_or, take, drop, length-drop}
use lib.Seq.{get_or-take, get_or-drop, length-take-le}
use borrow.Author.Tests.{lt-ltb, le-ltb}
use Rattle.refusal.specs.declared.Refusal.TheVariants.{IndexPastItems}
use Rattle.words.specs.declared.Order.{Order}
use Rattle.words.specs.Words.{value_at}
use Rattle.directory.specs.declared.Item.{Item}
use Rattle.directory.specs.Item.{none}
use Rattle.directory.specs.Order.{shaped, meant}
use Rattle.directory.specs.Run.{run_items, words_of}
use Rattle.directory.specs.Views.{Asked}
use Rattle.directory.proofs.Order.{Narrow, every_at}
use Rattle.directory.proofs.Shapes.{shape_narrow}
use Rattle.reading.specs.declared.Answer.TheVariants.{Refused}
use Rattle.reading.specs.Readings.{reading_of}
use Rattle.collector.specs.Collector.{place_of, item_of}

-- one item more
pub words_upto : (its : List Item) (i : ℕ) → i < length its → words_of (take (suc i) its) ≡ words_of (take i its) + (get_or its i none).words
unfolding words_of
words_upto [] i h = absurd (omega (arith, h))
words_upto (it ∷ its) zero h = omega arith
words_upto (it ∷ its) (suc i) h = omega (arith, words_upto its i (omega (arith, h)))

-- the words of an item stand inside those of the run
pub words_within : (its : List Item) (i : ℕ) → i < length its → words_of (take i its) + (get_or its i none).words ≤ words_of its
unfolding words_of
words_within [] i h = absurd (omega (arith, h))
words_within (it ∷ its) zero h = omega arith
words_within (it ∷ its) (suc i) h = omega (arith, words_within its i (omega (arith, h)))

-- what is known of an item whose words stand at a place of a reply
pub record Known (its : List Item) (reply : List ℕ) (index at : ℕ) (it : Item) : Type 0 where
  pub is : it ≡ get_or its index none
  pub shapely : shaped it ≡ true
  pub means : meant it ≡ true
  pub narrow : Narrow it
  pub room : at + 2 * it.words ≤ length reply

pub known : (its : List Item) (reply : List ℕ) → Asked its → 3 + 2 * words_of its ≤ length reply → (index at : ℕ) (it : Item) → index < length its → at ≡ place_of its index → it ≡ get_or its index none → Known its reply index at it
known its reply good room index at it inside here is =
    record {
      is = is;
      shapely = rw is (every_at shaped its good.shapely index inside);
      means = rw is (every_at meant its good.means index inside);
      narrow = rw is (shape_narrow (get_or its index none) (every_at shaped its good.shapely index inside));
      room = omega (arith, here, ap (λ (it : Item). it.words) is, words_within its index inside, room);
    }

-- ---- a run, and the items of it

module _ (dir : List Item) (first count : ℕ) where
  pub run_length : first + count ≤ length dir → length (run_items dir first count) ≡ count
  run_length h = length-take-le count (drop first dir) (omega (arith, h, length-drop first dir))

  pub run_at : (i : ℕ) → i < count → get_or (run_items dir first count) i none ≡ get_or dir (first + i) none
  run_at i h = get_or-take count (drop first dir) i none h ∙ get_or-drop first dir i none

-- ---- what an item's words say

module _ (o : Order) (t : ℕ) (its : List Item) (reply : List ℕ) (index : ℕ) where
  abbrev it : Item
  it = get_or its index none

  pub item_past : length its ≤ index → Refused IndexPastItems ≡ item_of o t its reply index
  unfolding item_of
  item_past h = simp (le-ltb index (length its) h)

  pub item_reads : index < length its → item_of o t its reply index ≡ reading_of t it (value_at o it.words reply (place_of its index))
  unfolding item_of
  item_reads h = simp (lt-ltb index (length its) h)

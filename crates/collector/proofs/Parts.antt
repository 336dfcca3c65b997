-- The items that there is data for stand among those seen, and their words in the reply.
use mathlib.Core.List.{List}
use Prim.Native.Nat.{ℕ, ◌+◌, ◌*◌, ◌≤◌}
use native.Mathlib.Omega.{arith}
use lib.Dec.{T}
use lib.ListN.{length}
use Rattle.std.specs.Prelude.{Ok}
use Rattle.ratio.specs.declared.Ratios.{Ratios}
use Rattle.directory.specs.declared.Span.{Span}
use Rattle.directory.specs.Run.{run_items, words_of}
use Rattle.directory.specs.Views.{View, passes}
use Rattle.modbus.proofs.Judged.{asked_items}
use Rattle.replies.specs.Judged.{judged_in}
use Rattle.replies.proofs.Judged.{data_judged, fitting}
use mathlib.Core.Path.{◌≡◌}

pub record DataPart (v : View) (reply : List ℕ) (asked : Span) : Type 0 where
  pub inside : asked.first + asked.count ≤ length v.seen
  pub words : 3 + 2 * words_of (run_items v.seen asked.first asked.count) ≤ length reply
  pub few : words_of (run_items v.seen asked.first asked.count) ≤ 125

pub data_part : (v : View) → T (passes v) → (request reply : List ℕ) (r : Ratios) (asked : Span) → judged_in v request reply r ≡ Ok asked → DataPart v reply asked
data_part v good request reply r asked e =
    let f = data_judged v request reply r asked e in
    let a = asked_items v good f.items in
    record {
      inside = a.inside;
      words = omega (arith, fitting request reply f.fits, a.sends);
      few = omega (arith, a.sends, a.room);
    }

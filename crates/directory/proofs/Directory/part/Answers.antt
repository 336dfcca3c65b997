-- The part of the table that holds a run of what is seen is the items of the span.
use lib.ListN.{length}
use Rattle.std.proofs.Common.{ap, ◌≡◌, ◌∙◌, ℕ, ◌≤◌}
use Rattle.directory.specs.Item.{items}
use Rattle.directory.specs.Run.{run_items}
use Rattle.directory.specs.Views.{View}
use Rattle.directory.proofs.Views.{run_part, run_asked}
use Rattle.directory.proofs.Directory.part.Goals as goal

-- the span stands in what is seen
seen : (v w : View) (n : ℕ) → v ≡ w → n ≤ length w.seen → n ≤ length v.seen
seen v w n e h = rw e h

pub invariant_of-result : goal.invariant_of-result
invariant_of-result c =
    let d = c.self.inside in
    let s = c.args.span in
    rw c.part.ensures (run_asked d.numbers.now d.seen d.most c.self.invariant s.first s.count (seen _ _ _ c.self.view_is c.requires))

pub returns : goal.returns
returns c =
    let d = c.self.inside in
    let s = c.args.span in
    ap items c.part.ensures
    ∙ run_part d.numbers.now d.seen d.most c.self.invariant s.first s.count (seen _ _ _ c.self.view_is c.requires)
    ∙ ap (λ (w : View). run_items w.seen s.first s.count) c.self.view_is

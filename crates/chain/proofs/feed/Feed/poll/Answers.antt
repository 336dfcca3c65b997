-- A reply has 256 bytes at the most.
use Rattle.std.proofs.Common.{rules, ◌≡◌, Some, Ok}
use Rattle.board.proofs.Lengths.{reply_long}
use Rattle.chain.proofs.feed.Feed.poll.Goals as goal

pub shared_ref_as_front-reply : goal.shared_ref_as_front-reply
shared_ref_as_front-reply c =
    let is : c.handle-handled.result.reply ≡ Ok (Some c.in-Ok-Some.n) = search rules in
    reply_long _ _ _ c.handle-handled.ensures.handled is

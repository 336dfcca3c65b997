-- Paper 01, "The directory", and the limit of "What the meter does with a frame", step 4: paper 01's own view, with request 1's
-- six items.
use Rattle.directory.specs.Views.{View}
use Rattle.own.specs.Table.{directory}

-- the 148 items, and 120 words
abbrev pub own : View
own = record { seen = directory; most = 120 }
